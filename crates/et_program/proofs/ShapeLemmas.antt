-- What is kept of the shapes of calls, one entry and one pool after another.
use Rattle.std.proofs.Common.{◌≡◌, ℕ, ◌+◌, ◌<◌, ◌≤◌, ◌^◌, ◌⊎◌, inl, inr, zero, suc, List, [], ◌∷◌, ◌++◌, length, map, take, Option, None, Some, refl, sym, ap, subst, ◌∙◌, arith}
use Rattle.std.specs.Prelude.{option_map, option_and_then}
use Rattle.std.specs.List.{slice_index_or}
use Rattle.std.specs.Global.{Box}
use Rattle.std.proofs.lemmas.Bool.{cases_lt}
use Rattle.std.proofs.lemmas.List.{get_or_past, length-map, map-append, take_more, length-take-le}
use Rattle.et_class.specs.Entries.{Item, Constants}
use Rattle.et_class.specs.Looks.{slot_at}
use Rattle.et_class.specs.Operands.{Shape, shape_in}
use Rattle.et_program.specs.Referring.{Member, no_constants, member_described}
use Rattle.et_program.specs.Shapes.{member_shape, shape_kept, AreShaped}
use Rattle.et_program.proofs.PoolLemmas.{one_longer}

-- what holds of each element below a place holds with one more element of which it holds
pub below_more : {X : Type 0} (none : X) (P : ℕ → X → Type 0) (xs : List X) (x : X) (n : ℕ) → length xs ≡ n → P n x → ((i : ℕ) → i < n → P i (slice_index_or xs i none)) → (i : ℕ) → i < n + 1 → P i (slice_index_or (xs ++ x ∷ []) i none)
below_more none P [] x n size here each zero lt = subst (λ k. P k x) (sym size) here
below_more none P [] x n size here each (suc i) lt = absurd (omega (arith, size, lt))
below_more none P (y ∷ ys) x n size here each zero lt = each zero (omega (arith, size))
below_more none P (y ∷ ys) x n size here each (suc i) lt =
    below_more none (λ j. P (suc j)) ys x (length ys) refl (subst (λ k. P k x) (sym size) here) (λ j l. each (suc j) (omega (arith, size, l))) i (omega (arith, size, lt))

-- an entry that is not there gives no member
pub no_member : (slots : List (Option Item)) (i : ℕ) → length slots ≤ i → None ≡ member_shape slots i
no_member slots i past = let e : slot_at slots i ≡ None = get_or_past slots i None past in rw e refl

-- the shapes that are kept in boxes
abbrev pub unboxed : List (Option (Box Shape)) → List (Option Shape)
unboxed xs = map (option_map (λ s. s.value)) xs

abbrev pub AreShapes : List (Option Item) → ℕ → List (Option (Box Shape)) → Type 0
AreShapes slots n xs = (i : ℕ) → i < n → slice_index_or (unboxed xs) i None ≡ member_shape slots i

-- the shape of one more entry is kept
pub shape_more : (slots : List (Option Item)) (n : ℕ) (old new : List (Option (Box Shape))) (x : Option (Box Shape)) → new ≡ old ++ x ∷ [] → length old ≡ n → option_map (λ s. s.value) x ≡ member_shape slots n → AreShapes slots n old → AreShapes slots (n + 1) new
shape_more slots n old new x is size here each i lt =
    let all : unboxed new ≡ unboxed old ++ option_map (λ (s : Box Shape). s.value) x ∷ [] = ap unboxed is ∙ map-append (option_map (λ (s : Box Shape). s.value)) old (x ∷ []) in
    subst (λ (xs : List (Option Shape)). slice_index_or xs i None ≡ member_shape slots i) (sym all) (below_more None (λ j (s : Option Shape). s ≡ member_shape slots j) (unboxed old) (option_map (λ (s : Box Shape). s.value) x) n (length-map old (option_map (λ (s : Box Shape). s.value)) ∙ size) here each i lt)

-- the shapes of the first n entries are kept
pub record Kept (slots : List (Option Item)) (n : ℕ) (xs : List (Option (Box Shape))) : Type 0 where
  pub size : length xs ≡ n
  pub each : AreShapes slots n xs

pub kept_more : (slots : List (Option Item)) (n : ℕ) (old new : List (Option (Box Shape))) (x : Option (Box Shape)) → new ≡ old ++ x ∷ [] → option_map (λ s. s.value) x ≡ member_shape slots n → Kept slots n old → Kept slots (n + 1) new
kept_more slots n old new x is here k = record {
  size = one_longer old new x n is k.size;
  each = shape_more slots n old new x is k.size here k.each;
}

pub nothing_there : (slots : List (Option Item)) (n : ℕ) → None ≡ member_described slots n → None ≡ member_shape slots n
nothing_there slots n e = ap (λ (o : Option Member). option_and_then (λ (m : Member). shape_in m.descriptor) o) e

pub shape_there : (slots : List (Option Item)) (n : ℕ) (m : Member) (x : Option (Box Shape)) → Some m ≡ member_described slots n → option_map (λ s. s.value) x ≡ shape_in m.descriptor → option_map (λ s. s.value) x ≡ member_shape slots n
shape_there slots n m x e is = is ∙ ap (λ (o : Option Member). option_and_then (λ (m : Member). shape_in m.descriptor) o) e

-- .. and then that of each index
pub shapes_whole : (slots : List (Option Item)) (n : ℕ) (xs : List (Option (Box Shape))) → (length slots ≤ n) ⊎ (65536 ≤ n) → Kept slots n xs → (i : ℕ) → i < 2 ^ 16 → slice_index_or (unboxed xs) i None ≡ member_shape slots i
shapes_whole slots n xs enough kept i small =
    elim (cases_lt i n) [
      | inl lt ↦ kept.each i lt
      | inr past ↦ get_or_past (unboxed xs) i None (omega (arith, length-map xs (option_map (λ (s : Box Shape). s.value)), kept.size, past)) ∙ no_member slots i (elim enough [ inl le ↦ omega (arith, le, past) | inr all ↦ absurd (omega (arith, all, past, small)) ])
    ]

-- the shapes of one more pool are kept
pub pool_more : (done : List Constants) (c : Constants) (old new : List (List (Option Shape))) (row : List (Option Shape)) → new ≡ old ++ row ∷ [] → length old ≡ length done → ((i : ℕ) → i < 2 ^ 16 → slice_index_or row i None ≡ member_shape c.slots i) → AreShaped done old → AreShaped (done ++ c ∷ []) new
pool_more done c old new row is size here each class i small =
    subst (λ (xs : List (List (Option Shape))). shape_kept xs class i ≡ member_shape (slice_index_or (done ++ c ∷ []) class no_constants).slots i) (sym is) (by done old size each class)
  where
    by : (done : List Constants) (old : List (List (Option Shape))) → length old ≡ length done → AreShaped done old → (class : ℕ) → shape_kept (old ++ row ∷ []) class i ≡ member_shape (slice_index_or (done ++ c ∷ []) class no_constants).slots i
    by [] [] size each zero = here i small
    by [] [] size each (suc k) = no_member [] i (omega arith)
    by [] (r ∷ rs) size each k = absurd (omega arith)
    by (d ∷ ds) [] size each k = absurd (omega arith)
    by (d ∷ ds) (r ∷ rs) size each zero = each zero i small
    by (d ∷ ds) (r ∷ rs) size each (suc k) = by ds rs (omega arith) (λ j. each (suc j)) k

pub pools_more : (pools : List Constants) (n : ℕ) (c : Constants) (old new : List (List (Option Shape))) (row : List (Option Shape)) → n < length pools → c ≡ slice_index_or pools n c → new ≡ old ++ row ∷ [] → length old ≡ n
    → ((i : ℕ) → i < 2 ^ 16 → slice_index_or row i None ≡ member_shape c.slots i) → AreShaped (take n pools) old → AreShaped (take (n + 1) pools) new
pools_more pools n c old new row lt at is size here each =
    let front : length old ≡ length (take n pools) = size ∙ sym (length-take-le n pools (omega arith)) in
    let one : take (n + 1) pools ≡ take n pools ++ c ∷ [] = take_more pools n c lt ∙ ap (λ (x : Constants). take n pools ++ x ∷ []) (sym at) in
    subst (λ (ps : List Constants). AreShaped ps new) (sym one) (pool_more (take n pools) c old new row is front here each)
