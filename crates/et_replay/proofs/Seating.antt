-- Models at work.
use Rattle.std.proofs.Common.{◌≡◌, ◌≢◌, ◌+◌, ◌/◌, ◌<◌, ◌≤◌, ◌⊎◌, inl, inr, length, get_or, get_or-set_same, get_or-set_other, arith, ℕ, Bool, true, false, cond, List, [], ◌∷◌, ◌++◌, take, length-append, reverse, map, zero, suc, Option, Some, None, refl, sym, ap, subst, ◌∙◌}
use Rattle.std.specs.Prelude.{is_some}
use Rattle.std.proofs.Math.ListN.{set, length-set, get_or-append}
use Rattle.std.proofs.Math.Seq.{get_or-append_seam}
use Rattle.std.specs.List.{flat_map, AllZip, All}
use Rattle.std.proofs.lemmas.List.{take_more, append-nil}
use Rattle.std.proofs.lemmas.Grind.{flat_map-append}
use Rattle.std.proofs.lemmas.List.Elements.{All-cons}
use Rattle.et_graph.specs.Graph.{Graph, Decides}
use Rattle.et_graph.proofs.Walks.{is_reached, is_reached_decides}
use Rattle.et_replay.specs.declared.item.Item.{Item}
use Rattle.et_replay.specs.declared.model.Kind.{Kind}
use Rattle.et_replay.specs.declared.model.Kind.TheVariants.{MarkSweep, SemiSpace, Generational, RefCount}
use Rattle.et_replay.specs.declared.model.Policy.{Policy}
use Rattle.et_replay.specs.declared.model.Report.{Report}
use Rattle.et_replay.specs.Feeding.{HasItemRoom, MayCome}
use Rattle.et_replay.specs.Lines.{report_text}
use Rattle.et_replay.specs.Replay.{replay_text}
use Rattle.et_replay.specs.Seats.{IsFinal, Sits, EachZip, Told, AllMayCome, told_line}
use Rattle.et_replay.specs.Tally.{Heap, Counted, account, tally, is_exhausted, heap_by, space_on, generations_on, counted_on, counted_after}

-- there is room where each test that decides says so
pub has_room : (policy : Policy) (past : List Item) → ((reached : Graph → ℕ → Bool) → Decides reached → is_exhausted reached policy past ≡ false) → HasItemRoom policy past
has_room policy past h = record { reached = is_reached; decides = is_reached_decides; room = h is_reached is_reached_decides }

stopped : (heap next : Heap) → is_some heap.exhausted ≡ true → cond (is_some heap.exhausted) heap next ≡ heap
stopped heap next e = rw e refl

stopped_counted : (c next : Counted) → is_some c.heap.exhausted ≡ true → (cond (is_some c.heap.exhausted) c next).heap ≡ c.heap
stopped_counted c next e = rw e refl

-- an exhausted heap stays as it is
stays_by : (reached : Graph → ℕ → Bool) (kind : Kind) (first second : ℕ) (item : Item) (past : List Item) → is_some (heap_by reached kind first second past).exhausted ≡ true → heap_by reached kind first second (item ∷ past) ≡ heap_by reached kind first second past
stays_by reached MarkSweep first second item past e = stopped (heap_by reached MarkSweep first second past) (space_on first past item (heap_by reached MarkSweep first second past)) e
stays_by reached SemiSpace first second item past e = stopped (heap_by reached SemiSpace first second past) (space_on (first / 2) past item (heap_by reached SemiSpace first second past)) e
stays_by reached Generational first second item past e = stopped (heap_by reached Generational first second past) (generations_on reached first second past item (heap_by reached Generational first second past)) e
stays_by reached RefCount first second item past e = stopped_counted (counted_after reached first past) (counted_on reached first past item (counted_after reached first past)) e

pub final_stays : (report : Report) (policy : Policy) (item : Item) (past : List Item) → IsFinal report policy past → IsFinal report policy (item ∷ past)
final_stays report policy item past f = record {
  tally_is = λ reached decides. f.tally_is reached decides ∙ ap (λ (h : Heap). account policy h) (sym (stays_by reached policy.kind policy.first policy.second item past (f.exhausted reached decides)));
  exhausted = λ reached decides. ap (λ (h : Heap). is_some h.exhausted) (stays_by reached policy.kind policy.first policy.second item past (f.exhausted reached decides)) ∙ f.exhausted reached decides;
}

-- a model that is gone stays gone
pub gone_stays : {B : Type 0} (stands : B → Policy → ℕ → List Item → Type 0) (model : Option B) (report : Option Report) (policy : Policy) (objects : ℕ) (item : Item) (past : List Item) → model ≡ None → Sits stands model report policy objects past → Sits stands model report policy objects (item ∷ past)
gone_stays stands (Some m) report policy objects item past e s = absurd cc
gone_stays stands None (Some r) policy objects item past e s = final_stays r policy item past s
gone_stays stands None None policy objects item past e s = s

-- an item went to the first i of them
pub record HalfDone {A B : Type 0} (R : List Item → A → B → Type 0) (item : Item) (start now : List A) (i : ℕ) : Type 0 where
  pub as_long : length now ≡ length start
  pub rest : (k : ℕ) (d : A) → i ≤ k → get_or now k d ≡ get_or start k d
  pub done : (told : List B) (past : List Item) → EachZip (R past) start told → (k : ℕ) (x : A) (y : B) → k < i → R (item ∷ past) (get_or now k x) (get_or told k y)

pub half_none : {A B : Type 0} (R : List Item → A → B → Type 0) (item : Item) (start : List A) → HalfDone R item start start 0
half_none R item start = record { as_long = refl; rest = λ k d le. refl; done = λ told past z k x y lt. absurd (omega (arith, lt)) }

pub half_all : {A B : Type 0} (R : List Item → A → B → Type 0) (item : Item) (start now : List A) (i : ℕ) → length start ≤ i → HalfDone R item start now i → (told : List B) (past : List Item) → EachZip (R past) start told → EachZip (R (item ∷ past)) now told
half_all R item start now i le h told past z = let a = h.as_long in let b = z.as_long in record {
  as_long = omega (arith, a, b);
  each = λ k x y lt. h.done told past z k x y (omega (arith, a, le, lt));
}

before_or : (k i : ℕ) → k < i + 1 → (k ≡ i) ⊎ (k < i)
before_or k i l = grind (arith, l)

pub half_more : {A B : Type 0} (R : List Item → A → B → Type 0) (item : Item) (start now : List A) (i : ℕ) (x x' : A) → i < length start → ((p : B) (past : List Item) → R past (get_or now i x) p → R (item ∷ past) x' p) → HalfDone R item start now i → HalfDone R item start (set now i x') (i + 1)
half_more {A} {B} R item start now i x x' lt step h = record {
  as_long = length-set now i x' ∙ h.as_long;
  rest = λ k d le. (let ne : k ≢ i = omega (arith, le) in let there : get_or (set now i x') k d ≡ get_or now k d = rw get_or-set_other refl in there ∙ h.rest k d (omega (arith, le)));
  done = λ told past z k d y l. elim (before_or k i l) [
    | inl e ↦
        let a = h.as_long in
        let within : i < length now = omega (arith, a, lt) in
        let here : get_or (set now i x') i d ≡ x' = rw get_or-set_same refl in
        let old : R past (get_or now i x) (get_or told i y) = subst (λ (u : A). R past u (get_or told i y)) (sym (h.rest i x (omega arith))) (z.each i x y lt) in
        subst (λ (j : ℕ). R (item ∷ past) (get_or (set now i x') j d) (get_or told j y)) (sym e) (subst (λ (u : A). R (item ∷ past) u (get_or told i y)) (sym here) (step (get_or told i y) past old))
    | inr b ↦
        let ne : k ≢ i = omega (arith, b) in
        let there : get_or (set now i x') k d ≡ get_or now k d = rw get_or-set_other refl in
        subst (λ (u : A). R (item ∷ past) u (get_or told k y)) (sym there) (h.done told past z k d y b)
  ];
}

pub no_policy : Told
no_policy = (record { kind = MarkSweep; first = 0; second = 0 }, 0)

-- the next of them, and what it was told
pub next_told : {A : Type 0} (R : List Item → A → Told → Type 0) (item : Item) (start now : List A) (i : ℕ) (x : A) (told : List Told) (past : List Item) → i < length start → HalfDone R item start now i → EachZip (R past) start told → AllMayCome told past item → (policy : Policy) × (objects : ℕ) × (seen : List Item) × R seen (get_or now i x) (policy, objects) × MayCome objects seen item
next_told {A} R item start now i x told past lt h z may =
    let p = get_or told i no_policy in
    let long = z.as_long in
    let old = subst (λ (u : A). R past u p) (sym (h.rest i x (omega arith))) (z.each i x no_policy lt) in
    (p.0, p.1, past, old, may i no_policy (omega (arith, lt, long)))

pub at_told : {A : Type 0} (R : A → Told → Type 0) (xs : List A) (told : List Told) (i : ℕ) (x : A) → x ≡ get_or xs i x → i < length xs → EachZip R xs told → R x (get_or told i no_policy)
at_told {A} R xs told i x e lt z = subst (λ (u : A). R u (get_or told i no_policy)) (sym e) (z.each i x no_policy lt)

-- one line more
pub text_more : (reached : Graph → ℕ → Bool) (past : List Item) (told : List Told) (i : ℕ) (text text' : List ℕ) (report : Report) → i < length told → text ≡ flat_map (told_line reached past) (take i told) → report ≡ tally reached (get_or told i no_policy).0 past → text' ≡ text ++ (report_text report ++ 10 ∷ []) → text' ≡ flat_map (told_line reached past) (take (i + 1) told)
text_more reached past told i text text' report lt so_far is e =
    let p = get_or told i no_policy in
    let line : report_text report ++ 10 ∷ [] ≡ told_line reached past p = ap (λ (r : Report). report_text r ++ 10 ∷ []) is in
    e ∙ (ap (λ (t : List ℕ). t ++ (report_text report ++ 10 ∷ [])) so_far
    ∙ (ap (λ (t : List ℕ). flat_map (told_line reached past) (take i told) ++ t) (line ∙ sym (append-nil (told_line reached past p)))
    ∙ sym (ap (λ (t : List Told). flat_map (told_line reached past) t) (take_more told i no_policy lt) ∙ flat_map-append (told_line reached past) (take i told) (p ∷ []))))

place_or : (k n m : ℕ) → m ≡ n + 1 → k < m → (k < n) ⊎ (k ≡ n)
place_or k n m e l = grind (arith, e, l)

pub zip_push : {A B : Type 0} (R : A → B → Type 0) (xs : List A) (ys : List B) (x : A) (y : B) → R x y → EachZip R xs ys → EachZip R (xs ++ x ∷ []) (ys ++ y ∷ [])
zip_push {A} {B} R xs ys x y r z = let long = z.as_long in record {
  as_long = omega (arith, long, length-append xs (x ∷ []), length-append ys (y ∷ []));
  each = λ k d e lt. elim (place_or k (length xs) (length (xs ++ x ∷ [])) (length-append xs (x ∷ [])) lt) [
    | inl l ↦
        let l' : k < length ys = omega (arith, l, long) in
        subst (λ (u : A). R u (get_or (ys ++ y ∷ []) k e)) (sym (get_or-append xs (x ∷ []) d k l)) (subst (λ (v : B). R (get_or xs k d) v) (sym (get_or-append ys (y ∷ []) e k l')) (z.each k d e l))
    | inr q ↦
        let here : get_or (ys ++ y ∷ []) (length xs) e ≡ y = subst (λ (n : ℕ). get_or (ys ++ y ∷ []) n e ≡ y) (sym long) (get_or-append_seam ys y [] e) in
        subst (λ (n : ℕ). R (get_or (xs ++ x ∷ []) n d) (get_or (ys ++ y ∷ []) n e)) (sym q) (subst (λ (u : A). R u (get_or (ys ++ y ∷ []) (length xs) e)) (sym (get_or-append_seam xs x [] d)) (subst (λ (v : B). R x v) (sym here) r))
  ];
}

-- AT FIRST

room_by : (reached : Graph → ℕ → Bool) (kind : Kind) (first second : ℕ) → is_some (heap_by reached kind first second []).exhausted ≡ false
room_by reached MarkSweep first second = refl
room_by reached SemiSpace first second = refl
room_by reached Generational first second = refl
room_by reached RefCount first second = refl

pub room_first : (policy : Policy) → HasItemRoom policy []
room_first policy = has_room policy [] (λ reached decides. room_by reached policy.kind policy.first policy.second)

element : {A : Type 0} (xs : List A) (k : ℕ) → k < length xs → A
element [] k lt = absurd (omega (arith, lt))
element (x ∷ xs) k lt = x

sits_at : {B : Type 0} (stands : B → Policy → ℕ → List Item → Type 0) (model : Option B) (report : Option Report) (b : B) (policy : Policy) (objects : ℕ) → model ≡ Some b → stands b policy objects [] → Sits stands model report policy objects []
sits_at stands (Some m) report b policy objects e s = let same : m ≡ b = cc in (subst (λ x. stands x policy objects []) (sym same) s, room_first policy)
sits_at stands None report b policy objects e s = absurd cc

pub first_sits : {A B : Type 0} (stands : B → Policy → ℕ → List Item → Type 0) (model : A → Option B) (report : A → Option Report) (seats : List A) (bs : List B) (told : List Told) → EachZip (λ s b. (model s ≡ Some b) × (report s ≡ None)) seats bs → EachZip (λ b (p : Told). stands b p.0 p.1 []) bs told → EachZip (λ s (p : Told). Sits stands (model s) (report s) p.0 p.1 []) seats told
first_sits stands model report seats bs told y z = let a = y.as_long in let b = z.as_long in record {
  as_long = omega (arith, a, b);
  each = λ k s p lt.
      (let lt' : k < length bs = omega (arith, lt, a) in
      let d = element bs k lt' in
      let e = y.each k s d lt in
      let q = get_or told k p in
      sits_at stands (model (get_or seats k s)) (report (get_or seats k s)) (get_or bs k d) q.0 q.1 e.0 (z.each k d p lt'));
}

-- POLICIES AND WHAT MODELS WERE TOLD

each_cons : {A B : Type 0} (R : A → B → Type 0) (x : A) (y : B) (xs : List A) (ys : List B) → R x y → EachZip R xs ys → (k : ℕ) (d : A) (e : B) → k < length (x ∷ xs) → R (get_or (x ∷ xs) k d) (get_or (y ∷ ys) k e)
each_cons R x y xs ys r z zero d e lt = r
each_cons R x y xs ys r z (suc k) d e lt = z.each k d e (omega (arith, lt))

zip_cons : {A B : Type 0} (R : A → B → Type 0) (x : A) (y : B) (xs : List A) (ys : List B) → R x y → EachZip R xs ys → EachZip R (x ∷ xs) (y ∷ ys)
zip_cons R x y xs ys r z = let long = z.as_long in record { as_long = omega (arith, long); each = each_cons R x y xs ys r z }

abbrev policy_of : Told → Policy
policy_of p = p.0

-- what is told of some policies
pub record AreTold {B : Type 0} (S : B → Policy → ℕ → Type 0) (bs : List B) (policies : List Policy) : Type 0 where
  pub told : List Told
  pub zip : EachZip (λ b (p : Told). S b p.0 p.1) bs told
  pub are : map policy_of told ≡ policies

pub told_of : {B : Type 0} (S : B → Policy → ℕ → Type 0) (bs : List B) (policies : List Policy) → AllZip (λ b policy. (objects : ℕ) × S b policy objects) bs policies → AreTold S bs policies
told_of S [] [] z = record { told = []; zip = record { as_long = refl; each = λ k x y lt. absurd (omega (arith, lt)) }; are = refl }
told_of S [] (p ∷ policies) z = absurd z
told_of S (b ∷ bs) [] z = absurd z
told_of S (b ∷ bs) (p ∷ policies) z =
    let rest = told_of S bs policies z.1 in
    record {
      told = (p, z.0.0) ∷ rest.told;
      zip = zip_cons (λ b (q : Told). S b q.0 q.1) b (p, z.0.0) bs rest.told z.0.1 rest.zip;
      are = ap (λ (t : List Policy). p ∷ t) rest.are;
    }

-- .. of at least so many objects
pub record AreToldMany {B : Type 0} (S : B → Policy → ℕ → Type 0) (low : ℕ) (bs : List B) : Type 0 where
  pub told : List Told
  pub zip : EachZip (λ b (p : Told). S b p.0 p.1) bs told
  pub many : All (λ (p : Told). low ≤ p.1) told

pub told_many : {B : Type 0} (S : B → Policy → ℕ → Type 0) (low : ℕ) (bs : List B) (policies : List Policy) → AllZip (λ b policy. (objects : ℕ) × (low ≤ objects) × S b policy objects) bs policies → AreToldMany S low bs
told_many S low [] [] z = record { told = []; zip = record { as_long = refl; each = λ k x y lt. absurd (omega (arith, lt)) }; many = λ k d lt. absurd (omega (arith, lt)) }
told_many S low [] (p ∷ policies) z = absurd z
told_many S low (b ∷ bs) [] z = absurd z
told_many S low (b ∷ bs) (p ∷ policies) z =
    let rest = told_many S low bs policies z.1 in
    record {
      told = (p, z.0.0) ∷ rest.told;
      zip = zip_cons (λ b (q : Told). S b q.0 q.1) b (p, z.0.0) bs rest.told z.0.2 rest.zip;
      many = All-cons (λ (q : Told). low ≤ q.1) (p, z.0.0) rest.told z.0.1 rest.many;
    }

lines_are : (reached : Graph → ℕ → Bool) (items : List Item) (told : List Told) → flat_map (told_line reached (reverse items)) told ≡ replay_text reached items (map policy_of told)
lines_are reached items [] = refl
lines_are reached items (p ∷ told) = ap (λ (t : List ℕ). told_line reached (reverse items) p ++ t) (lines_are reached items told)

pub text_is : {B : Type 0} (S : B → Policy → ℕ → Type 0) (reached : Graph → ℕ → Bool) (items : List Item) (bs : List B) (policies : List Policy) (a : AreTold S bs policies) → flat_map (told_line reached (reverse items)) a.told ≡ replay_text reached items policies
text_is S reached items bs policies a = lines_are reached items a.told ∙ ap (λ (t : List Policy). replay_text reached items t) a.are
