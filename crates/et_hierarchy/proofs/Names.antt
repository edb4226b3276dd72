-- Classes by name.
use Rattle.std.proofs.Common.{◌≡◌, ℕ, ◌+◌, ◌<◌, zero, suc, Bool, true, false, cond, List, [], ◌∷◌, ◌++◌, length, take, Option, None, Some, IfSome, is_some, refl, sym, ◌∙◌, ap, subst, arith, true≢false}
use mathlib.Core.Logic.{⊎_elim}
use Rattle.std.specs.List.{position_from}
use Rattle.std.specs.Option.{option_or}
use Rattle.std.specs.Str.{bytes_eq}
use Rattle.std.proofs.lemmas.Bool.{cases_Bool, cond-true, cond-false}
use Rattle.std.proofs.lemmas.List.{get_or-take, take_more, length-take-le}
use Rattle.std.proofs.lemmas.Slice.Eq.{bytes_eq-Decides}
use Rattle.std.proofs.lemmas.Option.{same_Some}
use Rattle.et_base.proofs.Lists.{same_bytes}
use Rattle.et_base.proofs.Options.{is_some_of}
use Rattle.et_hierarchy.specs.Outline.{Outline, outline_at, class_place, no_outline}
use Rattle.et_hierarchy.specs.Faults.{IsRepeated, IsFirstToShow}
use Rattle.et_hierarchy.specs.declared.fault.FaultKind.TheVariants.{Duplicate}

abbrev pub has_name : List ℕ → Outline → Bool
has_name name c = bytes_eq name c.name

pub same_name : (a b : List ℕ) → bytes_eq a b ≡ true → a ≡ b
same_name a b = (bytes_eq-Decides a b).0

-- a place that was found is that of a class of the name
pub record IsFoundAt (xs : List Outline) (i : ℕ) (name : List ℕ) (j : ℕ) : Type 0 where
  pub from : ℕ
  pub within : from < length xs
  pub place : j ≡ i + from
  pub named : bytes_eq name (outline_at xs from).name ≡ true

pub found_at : (xs : List Outline) (i : ℕ) (name : List ℕ) (j : ℕ) → position_from (has_name name) i xs ≡ Some j → IsFoundAt xs i name j
found_at [] i name j h = absurd (cc)
found_at (x ∷ xs) i name j h =
    ⊎_elim
    (λ y. record { from = 0; within = omega arith; place = (let e : i ≡ j = same_Some i j (sym (cond-true (has_name name x) (Some i) (position_from (has_name name) (i + 1) xs) y) ∙ h) in omega arith); named = y })
    (λ n.
    let r = found_at xs (i + 1) name j (sym (cond-false (has_name name x) (Some i) (position_from (has_name name) (i + 1) xs) n) ∙ h) in
    record { from = suc r.from; within = (let w : r.from < length xs = r.within in omega arith); place = (let p : j ≡ i + 1 + r.from = r.place in omega arith); named = r.named })
    (cases_Bool (has_name name x))

-- where no place was found no class has the name
pub missing : (xs : List Outline) (i : ℕ) (name : List ℕ) → position_from (has_name name) i xs ≡ None → (p : ℕ) → p < length xs → bytes_eq name (outline_at xs p).name ≡ false
missing [] i name h p lt = absurd (omega arith)
missing (x ∷ xs) i name h zero lt =
    ⊎_elim (λ y. let e : Some i ≡ None = sym (cond-true (has_name name x) (Some i) (position_from (has_name name) (i + 1) xs) y) ∙ h in absurd (cc)) (λ n. n) (cases_Bool (has_name name x))
missing (x ∷ xs) i name h (suc p) lt =
    ⊎_elim
    (λ y. let e : Some i ≡ None = sym (cond-true (has_name name x) (Some i) (position_from (has_name name) (i + 1) xs) y) ∙ h in absurd (cc))
    (λ n. missing xs (i + 1) name (sym (cond-false (has_name name x) (Some i) (position_from (has_name name) (i + 1) xs) n) ∙ h) p (omega arith))
    (cases_Bool (has_name name x))

place_push : (xs : List Outline) (y : Outline) (i : ℕ) (name : List ℕ) → position_from (has_name name) i (xs ++ y ∷ []) ≡ option_or (position_from (has_name name) i xs) (cond (has_name name y) (Some (i + length xs)) None)
place_push [] y i name = let e : i + 0 ≡ i = omega arith in rw e refl
place_push (x ∷ xs) y i name =
    let e : i + 1 + length xs ≡ i + suc (length xs) = omega arith in
    let r : position_from (has_name name) (i + 1) (xs ++ y ∷ []) ≡ option_or (position_from (has_name name) (i + 1) xs) (cond (has_name name y) (Some (i + suc (length xs))) None) = subst (λ k. position_from (has_name name) (i + 1) (xs ++ y ∷ []) ≡ option_or (position_from (has_name name) (i + 1) xs) (cond (has_name name y) (Some k) None)) e (place_push xs y (i + 1) name) in
    by (has_name name x) r
  where
    by : (b : Bool) → position_from (has_name name) (i + 1) (xs ++ y ∷ []) ≡ option_or (position_from (has_name name) (i + 1) xs) (cond (has_name name y) (Some (i + suc (length xs))) None) → cond b (Some i) (position_from (has_name name) (i + 1) (xs ++ y ∷ [])) ≡ option_or (cond b (Some i) (position_from (has_name name) (i + 1) xs)) (cond (has_name name y) (Some (i + suc (length xs))) None)
    by true h = refl
    by false h = h

-- the place among one more class
pub place_more : (set : List Outline) (i : ℕ) (name : List ℕ) → i < length set → class_place (take (i + 1) set) name ≡ option_or (class_place (take i set) name) (cond (has_name name (outline_at set i)) (Some i) None)
place_more set i name lt =
    let n : length (take i set) ≡ i = length-take-le i set (omega arith) in
    ap (λ xs. class_place xs name) (take_more set i no_outline lt) ∙ (place_push (take i set) (outline_at set i) 0 name ∙ ap (λ k. option_or (class_place (take i set) name) (cond (has_name name (outline_at set i)) (Some k) None)) (let e : 0 + length (take i set) ≡ i = omega arith in e))

-- a name that an earlier class has
pub repeats : (set : List Outline) (i : ℕ) (name : List ℕ) (j : ℕ) → i < length set → name ≡ (outline_at set i).name → class_place (take i set) name ≡ Some j → IsRepeated set i
repeats set i name j lt e h =
    let n : length (take i set) ≡ i = length-take-le i set (omega arith) in
    let r = found_at (take i set) 0 name j h in
    let w : r.from < length (take i set) = r.within in
    let below : r.from < i = omega arith in
    (r.from, below, sym (same_name name (outline_at set r.from).name (subst (λ (c : Outline). bytes_eq name c.name ≡ true) (get_or-take i set r.from no_outline below) r.named)) ∙ e)

-- a name that no earlier class has
pub repeats_not : (set : List Outline) (i : ℕ) (name : List ℕ) → i < length set → name ≡ (outline_at set i).name → class_place (take i set) name ≡ None → IsRepeated set i → ⊥
repeats_not set i name lt e h r =
    let n : length (take i set) ≡ i = length-take-le i set (omega arith) in
    let below : r.0 < i = r.1 in
    let no : bytes_eq name (outline_at set r.0).name ≡ false = subst (λ (c : Outline). bytes_eq name c.name ≡ false) (get_or-take i set r.0 no_outline below) (missing (take i set) 0 name h r.0 (omega arith)) in
    let yes : bytes_eq name (outline_at set r.0).name ≡ true = subst (λ b. bytes_eq name b ≡ true) (e ∙ sym r.2) (same_bytes name) in
    true≢false (sym yes ∙ no)

-- the first class whose name an earlier one has
pub first_repeat : (set : List Outline) (i : ℕ) (name : List ℕ) → i < length set → name ≡ (outline_at set i).name → is_some (class_place (take i set) name) ≡ true → ((k : ℕ) → k < i → IsRepeated set k → ⊥) → IsFirstToShow set Duplicate i
first_repeat set i name lt e h apart =
    let j = is_some_of (class_place (take i set) name) h in
    record { inside = lt; shows = repeats set i name j.0 lt e j.1; first = apart }

place_below : (set : List Outline) (name : List ℕ) (o : Option ℕ) → class_place set name ≡ o → IfSome o (λ k. k < length set)
place_below set name None h = tt
place_below set name (Some k) h = let r = found_at set 0 name k h in let w : r.from < length set = r.within in let p : k ≡ 0 + r.from = r.place in omega arith

pub place_within : (set : List Outline) (name : List ℕ) (o : Option ℕ) → o ≡ class_place set name → IfSome o (λ k. k < length set)
place_within set name o h = place_below set name o (sym h)
