-- References that are put in their queues one after the other are the newcomers of the queues, place by place.
use Rattle.std.proofs.Common.{◌≡◌, ℕ, zero, suc, ◌+◌, ◌<◌, ◌==◌, ◌&&◌, ◌||◌, Bool, true, false, not, List, [], ◌∷◌, ◌++◌, length, Option, Some, None, Contains, refl, sym, ◌∙◌, ap, subst, inl, inr, arith, append-nil, append_assoc, get_or-set_same}
use Rattle.std.specs.Prelude.{if◌then◌else◌}
use Rattle.std.specs.List.{list_any}
use Rattle.std.specs.Option.{is_some, option_map_or}
use Rattle.std.proofs.lemmas.List.{length-set}
use Rattle.std.proofs.lemmas.Bool.{cases_eq, eq-eqb, ne_eqb}
use mathlib.Core.Bool.{and-false, or-true, or-false}
use Rattle.et_heap.proofs.References.{there_is}
use Rattle.et_state.proofs.UnderWay.{at_other}
use Rattle.et_base.proofs.Lists.{Contains-here, Contains-there}
use Rattle.et_heap.specs.Objects.{ObjectState, Objects, IsHeld, is_there, at, found, object_at}
use Rattle.et_heap.specs.Queues.{with_waits, with_one_waiting, changed_at, put_in, enqueued}
use Rattle.et_heap.specs.Remaining.{is_cleared, left_place, remaining}
use Rattle.et_heap.proofs.HeapLists.{held_within, held_set}
use Rattle.et_state.specs.Enqueuing.{is_free_to_wait, has_queue, has_this_queue, newcomers_from, newcomers, begins_to_wait, joined_place, flushed_heap}
use Rattle.et_state.proofs.Enqueued.{length-joined, joined_now, remaining_at}
use Rattle.et_heap.specs.Cleared.{loses_referent, cleared_references}
use Rattle.et_flush.specs.Flushes.{all_enqueued}
use Rattle.et_flush.proofs.Clearing.{cleared_at}

-- TESTS

and_and : (a b c : Bool) → ((a && b) && c) ≡ (a && (b && c))
and_and true b c = refl
and_and false b c = refl

-- WHAT REFERENCES OF A LIST DO

-- in this heap r goes to q
abbrev goes : Objects → ℕ → ℕ → Bool
goes h q r = not (object_at h r).waits && has_this_queue q (at h r)

abbrev arrivals : Objects → List ℕ → ℕ → List ℕ
arrivals h [] q = []
arrivals h (r ∷ rs) q = (if goes h q r then r ∷ [] else []) ++ arrivals h rs q

abbrev may_start : Objects → ℕ → Bool
may_start h o = not (object_at h o).waits && has_queue (at h o)

abbrev starts : Objects → List ℕ → ℕ → Bool
starts h rs o = list_any (λ r. r == o) rs && may_start h o

-- no reference stands twice
abbrev Once : List ℕ → Type 0
Once [] = Unit {0}
Once (r ∷ rs) = ((Contains rs r) → ⊥) × Once rs

-- each is held, and so is its queue
record CanGo (h : Objects) (rs : List ℕ) : Type 0 where
  held : (r : ℕ) → Contains rs r → IsHeld h r
  queue : (r q : ℕ) → Contains rs r → (object_at h r).queue ≡ Some q → IsHeld h q

-- a place of a heap, with the same newcomers
joined_same_at : (ws vs : ℕ → List ℕ) (b c : ℕ → Bool) (o : ℕ) (x : Option ObjectState) → ws o ≡ vs o → b o ≡ c o → joined_place ws b o x ≡ joined_place vs c o x
joined_same_at ws vs b c o None e f = refl
joined_same_at ws vs b c o (Some x) e f =
    ap (λ (l : List ℕ). Some (record x { waiting = x.waiting ++ l; waits = x.waits || b o })) e ∙ ap (λ (d : Bool). Some (record x { waiting = x.waiting ++ vs o; waits = x.waits || d })) f

nobody_joins : (o : ℕ) (x : Option ObjectState) (c : Bool) → c ≡ false → x ≡ joined_place (λ q. []) (λ r. c) o x
nobody_joins o None c e = refl
nobody_joins o (Some x) c e =
    sym (ap (λ (d : Bool). Some (record x { waiting = x.waiting ++ []; waits = x.waits || d })) e
    ∙ (ap (λ (d : Bool). Some (record x { waiting = x.waiting ++ []; waits = d })) (or-false x.waits) ∙ ap (λ (l : List ℕ). Some (record x { waiting = l; waits = x.waits })) (append-nil x.waiting)))

-- ONE THAT STAYS WHERE IT IS

stays_out : (h : Objects) (r : ℕ) (rs : List ℕ) (o : ℕ) → may_start h r ≡ false → ((q : ℕ) → goes h q r ≡ false) → joined_place (arrivals h rs) (starts h rs) o (at h o) ≡ joined_place (arrivals h (r ∷ rs)) (starts h (r ∷ rs)) o (at h o)
stays_out h r rs o none never =
    joined_same_at (arrivals h rs) (arrivals h (r ∷ rs)) (starts h rs) (starts h (r ∷ rs)) o (at h o) (sym (ap (λ (b : Bool). (if b then r ∷ [] else []) ++ arrivals h rs o) (never o)))
    (elim (cases_eq r o) [
      | inl e ↦
          let out : may_start h o ≡ false = subst (λ (k : ℕ). may_start h k ≡ false) e none in
          ap (λ (b : Bool). list_any (λ k. k == o) rs && b) out ∙ (and-false (list_any (λ k. k == o) rs) ∙ sym (ap (λ (b : Bool). list_any (λ k. k == o) (r ∷ rs) && b) out ∙ and-false (list_any (λ k. k == o) (r ∷ rs))))
      | inr ne ↦ sym (ap (λ (b : Bool). (b || list_any (λ k. k == o) rs) && may_start h o) (ne_eqb r o ne))
    ])

-- ONE THAT GOES TO ITS QUEUE

-- at the queue, and at the reference
abbrev gone_to : ℕ → Bool → Bool → Option ObjectState → Option ObjectState
gone_to r a b None = None
gone_to r a b (Some x) = Some (record x { waiting = if a then x.waiting ++ r ∷ [] else x.waiting; waits = if b then true else x.waits })

untouched : (r : ℕ) (x : Option ObjectState) → gone_to r false false x ≡ x
untouched r None = refl
untouched r (Some x) = refl

module _ (h : Objects) (r p : ℕ) (held : IsHeld h r) (queue : IsHeld h p) where
  abbrev waiting_now : Objects
  waiting_now = changed_at (with_waits true) r h

  abbrev put_now : Objects
  put_now = changed_at (with_one_waiting r) p waiting_now

  first_at : (o : ℕ) → at waiting_now o ≡ gone_to r false (r == o) (at h o)
  first_at o =
      elim (cases_eq o r) [
        | inl e ↦
            let place : at waiting_now r ≡ Some (with_waits true (object_at h r)) = get_or-set_same h r (Some (with_waits true (object_at h r))) None (held_within h r held) in
            let here : gone_to r false true (at h r) ≡ Some (with_waits true (object_at h r)) = ap (λ (x : Option ObjectState). gone_to r false true x) (there_is (at h r) held) in
            subst (λ (k : ℕ). at waiting_now k ≡ gone_to r false (r == k) (at h k)) (sym e) (place ∙ (sym here ∙ ap (λ (b : Bool). gone_to r false b (at h r)) (sym (eq-eqb r r refl))))
        | inr ne ↦ at_other h r o (with_waits true (object_at h r)) ne ∙ (sym (untouched r (at h o)) ∙ ap (λ (b : Bool). gone_to r false b (at h o)) (sym (ne_eqb r o (λ e. ne (sym e)))))
      ]

  queue_first : IsHeld waiting_now p
  queue_first = held_set h r (with_waits true (object_at h r)) p held queue

  both : (b : Bool) (x : Option ObjectState) → is_there x → Some (with_one_waiting r (found (gone_to r false b x))) ≡ gone_to r true b x
  both b None out = absurd out
  both b (Some x) out = refl

  put_at : (o : ℕ) → at put_now o ≡ gone_to r (p == o) (r == o) (at h o)
  put_at o =
      elim (cases_eq o p) [
        | inl e ↦
            let place : at put_now p ≡ Some (with_one_waiting r (object_at waiting_now p)) = get_or-set_same waiting_now p (Some (with_one_waiting r (object_at waiting_now p))) None (held_within waiting_now p queue_first) in
            let was : Some (with_one_waiting r (object_at waiting_now p)) ≡ gone_to r true (r == p) (at h p) = ap (λ (x : Option ObjectState). Some (with_one_waiting r (found x))) (first_at p) ∙ both (r == p) (at h p) queue in
            subst (λ (k : ℕ). at put_now k ≡ gone_to r (p == k) (r == k) (at h k)) (sym e) (place ∙ (was ∙ ap (λ (b : Bool). gone_to r b (r == p) (at h p)) (sym (eq-eqb p p refl))))
        | inr ne ↦ at_other waiting_now p o (with_one_waiting r (object_at waiting_now p)) ne ∙ (first_at o ∙ ap (λ (b : Bool). gone_to r b (r == o) (at h o)) (sym (ne_eqb p o (λ e. ne (sym e)))))
      ]

  -- nothing else is changed
  queue_of_place : (a b : Bool) (x : Option ObjectState) → (found (gone_to r a b x)).queue ≡ (found x).queue
  queue_of_place a b None = refl
  queue_of_place a b (Some x) = refl

  queue_same : (o : ℕ) → (object_at put_now o).queue ≡ (object_at h o).queue
  queue_same o = ap (λ (x : Option ObjectState). (found x).queue) (put_at o) ∙ queue_of_place (p == o) (r == o) (at h o)

  there_place : (a b : Bool) (x : Option ObjectState) → is_there x → is_there (gone_to r a b x)
  there_place a b None out = out
  there_place a b (Some x) out = tt

  held_put : (o : ℕ) → IsHeld h o → IsHeld put_now o
  held_put o there = subst is_there (sym (put_at o)) (there_place (p == o) (r == o) (at h o) there)

  start_place : (a : Bool) (x : Option ObjectState) → (not (found (gone_to r a false x)).waits && has_queue (gone_to r a false x)) ≡ (not (found x).waits && has_queue x)
  start_place a None = refl
  start_place a (Some x) = refl

  start_same : (o : ℕ) → (r ≡ o → ⊥) → may_start put_now o ≡ may_start h o
  start_same o ne =
      ap (λ (x : Option ObjectState). not (found x).waits && has_queue x) (put_at o ∙ ap (λ (b : Bool). gone_to r (p == o) b (at h o)) (ne_eqb r o ne)) ∙ start_place (p == o) (at h o)

  goes_place : (q : ℕ) (a : Bool) (x : Option ObjectState) → (not (found (gone_to r a false x)).waits && has_this_queue q (gone_to r a false x)) ≡ (not (found x).waits && has_this_queue q x)
  goes_place q a None = refl
  goes_place q a (Some x) = refl

  goes_same : (q o : ℕ) → (r ≡ o → ⊥) → goes put_now q o ≡ goes h q o
  goes_same q o ne =
      ap (λ (x : Option ObjectState). not (found x).waits && has_this_queue q x) (put_at o ∙ ap (λ (b : Bool). gone_to r (p == o) b (at h o)) (ne_eqb r o ne)) ∙ goes_place q (p == o) (at h o)

  arrivals_same : (rs : List ℕ) (q : ℕ) → (Contains rs r → ⊥) → arrivals put_now rs q ≡ arrivals h rs q
  arrivals_same [] q out = refl
  arrivals_same (k ∷ rs) q out =
      let ne : r ≡ k → ⊥ = λ e. out (subst (λ (j : ℕ). Contains (k ∷ rs) j) (sym e) (Contains-here k rs)) in
      ap (λ (b : Bool). (if b then k ∷ [] else []) ++ arrivals put_now rs q) (goes_same q k ne) ∙ ap (λ (l : List ℕ). (if goes h q k then k ∷ [] else []) ++ l) (arrivals_same rs q (λ c. out (Contains-there k rs r c)))

  -- r was free and has this queue
  module _ (free : (object_at h r).waits ≡ false) (is : (object_at h r).queue ≡ Some p) where
    this_place : (q : ℕ) (x : Option ObjectState) → is_there x → has_this_queue q x ≡ option_map_or (λ u. u == q) (found x).queue false
    this_place q None out = absurd out
    this_place q (Some x) out = refl

    some_place : (x : Option ObjectState) → is_there x → has_queue x ≡ is_some (found x).queue
    some_place None out = absurd out
    some_place (Some x) out = refl

    goes_there : (q : ℕ) → goes h q r ≡ (p == q)
    goes_there q =
        ap (λ (b : Bool). not b && has_this_queue q (at h r)) free ∙ (this_place q (at h r) held ∙ ap (λ (v : Option ℕ). option_map_or (λ u. u == q) v false) is)

    starts_here : may_start h r ≡ true
    starts_here = ap (λ (b : Bool). not b && has_queue (at h r)) free ∙ (some_place (at h r) held ∙ ap (λ (v : Option ℕ). is_some v) is)

    list_place : (a : Bool) (w l : List ℕ) → (if a then w ++ r ∷ [] else w) ++ l ≡ w ++ ((if a then r ∷ [] else []) ++ l)
    list_place true w l = append_assoc w (r ∷ []) l
    list_place false w l = refl

    waits_place : (rs : List ℕ) (o : ℕ) (b : Bool) → (Contains rs r → ⊥) → (let now : Bool = if r == o then true else b in now || starts put_now rs o) ≡ (b || starts h (r ∷ rs) o)
    waits_place rs o b out =
        elim (cases_eq r o) [
          | inl e ↦
              let same : (r == o) ≡ true = eq-eqb r o e in
              let here : may_start h o ≡ true = subst (λ (k : ℕ). may_start h k ≡ true) e starts_here in
              let left : (let now : Bool = if r == o then true else b in now || starts put_now rs o) ≡ true = ap (λ (c : Bool). let now : Bool = if c then true else b in now || starts put_now rs o) same in
              let start : starts h (r ∷ rs) o ≡ true = ap (λ (c : Bool). (c || list_any (λ k. k == o) rs) && may_start h o) same ∙ here in
              left ∙ sym (ap (λ (c : Bool). b || c) start ∙ or-true b)
          | inr ne ↦
              let same : (r == o) ≡ false = ne_eqb r o ne in
              let left : (let now : Bool = if r == o then true else b in now || starts put_now rs o) ≡ (b || starts put_now rs o) = ap (λ (c : Bool). let now : Bool = if c then true else b in now || starts put_now rs o) same in
              let start : starts h (r ∷ rs) o ≡ starts h rs o = ap (λ (c : Bool). (c || list_any (λ k. k == o) rs) && may_start h o) same in
              left ∙ (ap (λ (c : Bool). b || (list_any (λ k. k == o) rs && c)) (start_same o ne) ∙ sym (ap (λ (c : Bool). b || c) start))
        ]

    joined_put : (rs : List ℕ) (o : ℕ) (x : Option ObjectState) → (Contains rs r → ⊥) → joined_place (arrivals put_now rs) (starts put_now rs) o (gone_to r (p == o) (r == o) x) ≡ joined_place (arrivals h (r ∷ rs)) (starts h (r ∷ rs)) o x
    joined_put rs o None out = refl
    joined_put rs o (Some x) out =
        let list : (if p == o then x.waiting ++ r ∷ [] else x.waiting) ++ arrivals put_now rs o ≡ x.waiting ++ arrivals h (r ∷ rs) o =
        ap (λ (l : List ℕ). (if p == o then x.waiting ++ r ∷ [] else x.waiting) ++ l) (arrivals_same rs o out)
        ∙ (list_place (p == o) x.waiting (arrivals h rs o) ∙ ap (λ (b : Bool). x.waiting ++ ((if b then r ∷ [] else []) ++ arrivals h rs o)) (sym (goes_there o))) in
        ap (λ (l : List ℕ). Some (record x { waiting = l; waits = (if r == o then true else x.waits) || starts put_now rs o })) list
        ∙ ap (λ (b : Bool). Some (record x { waiting = x.waiting ++ arrivals h (r ∷ rs) o; waits = b })) (waits_place rs o x.waits out)

    can_still : (rs : List ℕ) → CanGo h (r ∷ rs) → CanGo put_now rs
    can_still rs can = record {
      held = λ k c. held_put k (can.held k (Contains-there r rs k c));
      queue = λ k q c e. held_put q (can.queue k q (Contains-there r rs k c) (sym (queue_same k) ∙ e));
    }

-- EACH IN TURN

no_queue : (x : Option ObjectState) → (found x).queue ≡ None → has_queue x ≡ false
no_queue None e = refl
no_queue (Some x) e = ap (λ (v : Option ℕ). is_some v) e

not_this : (q : ℕ) (x : Option ObjectState) → (found x).queue ≡ None → has_this_queue q x ≡ false
not_this q None e = refl
not_this q (Some x) e = ap (λ (v : Option ℕ). option_map_or (λ u. u == q) v false) e

-- what the rest of the list does is given, for each heap
abbrev Joins : List ℕ → ℕ → Type 0
Joins rs o = (k : Objects) → CanGo k rs → at (all_enqueued rs k) o ≡ joined_place (arrivals k rs) (starts k rs) o (at k o)

one_joined : (h : Objects) (r : ℕ) (rs : List ℕ) (o : ℕ) → CanGo h (r ∷ rs) → (Contains rs r → ⊥) → Joins rs o → (q : Option ℕ) (b : Bool) → (object_at h r).queue ≡ q → (object_at h r).waits ≡ b
    → at (all_enqueued rs (put_in q b r h)) o ≡ joined_place (arrivals h (r ∷ rs)) (starts h (r ∷ rs)) o (at h o)
one_joined h r rs o can out rest None b e f =
    rest h (record { held = λ k c. can.held k (Contains-there r rs k c); queue = λ k q c i. can.queue k q (Contains-there r rs k c) i })
    ∙ stays_out h r rs o (ap (λ (c : Bool). not (object_at h r).waits && c) (no_queue (at h r) e) ∙ and-false (not (object_at h r).waits)) (λ q. ap (λ (c : Bool). not (object_at h r).waits && c) (not_this q (at h r) e) ∙ and-false (not (object_at h r).waits))
one_joined h r rs o can out rest (Some p) true e f =
    rest h (record { held = λ k c. can.held k (Contains-there r rs k c); queue = λ k q c i. can.queue k q (Contains-there r rs k c) i })
    ∙ stays_out h r rs o (ap (λ (c : Bool). not c && has_queue (at h r)) f) (λ q. ap (λ (c : Bool). not c && has_this_queue q (at h r)) f)
one_joined h r rs o can out rest (Some p) false e f =
    let held : IsHeld h r = can.held r (Contains-here r rs) in
    let queue : IsHeld h p = can.queue r p (Contains-here r rs) e in
    let now : Objects = put_now h r p held queue in
    rest now (can_still h r p held queue f e rs can)
    ∙ (ap (λ (x : Option ObjectState). joined_place (arrivals now rs) (starts now rs) o x) (put_at h r p held queue o) ∙ joined_put h r p held queue f e rs o (at h o) out)

all_joined : (rs : List ℕ) (h : Objects) → Once rs → CanGo h rs → (o : ℕ) → at (all_enqueued rs h) o ≡ joined_place (arrivals h rs) (starts h rs) o (at h o)
all_joined [] h once can o = nobody_joins o (at h o) (false && may_start h o) refl
all_joined (r ∷ rs) h once can o = one_joined h r rs o can once.0 (λ k go. all_joined rs k once.1 go o) (object_at h r).queue (object_at h r).waits refl refl

-- THE CLEARED REFERENCES

rising_once : (here : ℕ → Bool) (k : ℕ) (xs : Objects) → Once (cleared_references here k xs)
rising_once here k [] = tt
rising_once here k (x ∷ xs) = with_first (loses_referent here (here k) x) (rising_once here (k + 1) xs) where
  with_first : (b : Bool) → Once (cleared_references here (k + 1) xs) → Once ((if b then k ∷ [] else []) ++ cleared_references here (k + 1) xs)
  with_first true rest = ((λ c. let at = cleared_at here (k + 1) xs k c in let e = at.1 in absurd (omega arith)), rest)
  with_first false rest = rest

any_joined : (t : ℕ → Bool) (xs ys : List ℕ) → list_any t (xs ++ ys) ≡ (list_any t xs || list_any t ys)
any_joined t [] ys = refl
any_joined t (x ∷ xs) ys = any_first (t x) (any_joined t xs ys) where
  any_first : (b : Bool) → list_any t (xs ++ ys) ≡ (list_any t xs || list_any t ys) → (b || list_any t (xs ++ ys)) ≡ ((b || list_any t xs) || list_any t ys)
  any_first true e = refl
  any_first false e = e

none_below : (here : ℕ → Bool) (k o : ℕ) (xs : Objects) → o < k → list_any (λ r. r == o) (cleared_references here k xs) ≡ false
none_below here k o [] lt = refl
none_below here k o (x ∷ xs) lt =
    any_joined (λ r. r == o) (if loses_referent here (here k) x then k ∷ [] else []) (cleared_references here (k + 1) xs)
    ∙ (ap (λ (b : Bool). b || list_any (λ r. r == o) (cleared_references here (k + 1) xs)) (first (loses_referent here (here k) x)) ∙ none_below here (k + 1) o xs (omega arith))
  where
    first : (b : Bool) → list_any (λ r. r == o) (if b then k ∷ [] else []) ≡ false
    first true = ap (λ (c : Bool). c || false) (ne_eqb k o (λ e. absurd (omega arith)))
    first false = refl

-- the object at a number is one of them where its referent becomes null
any_cleared : (here : ℕ → Bool) (k : ℕ) (xs : Objects) (j : ℕ) → list_any (λ r. r == k + j) (cleared_references here k xs) ≡ loses_referent here (here (k + j)) (at xs j)
any_cleared here k [] j = refl
any_cleared here k (x ∷ xs) zero =
    let same : k + 0 ≡ k = omega arith in
    any_joined (λ r. r == k + 0) (if loses_referent here (here k) x then k ∷ [] else []) (cleared_references here (k + 1) xs)
    ∙ (ap (λ (b : Bool). list_any (λ r. r == k + 0) (if loses_referent here (here k) x then k ∷ [] else []) || b) (none_below here (k + 1) (k + 0) xs (omega arith))
    ∙ (or-false (list_any (λ r. r == k + 0) (if loses_referent here (here k) x then k ∷ [] else [])) ∙ (first (loses_referent here (here k) x) ∙ ap (λ (n : ℕ). loses_referent here (here n) x) (sym same))))
  where
    first : (b : Bool) → list_any (λ r. r == k + 0) (if b then k ∷ [] else []) ≡ b
    first true = ap (λ (c : Bool). c || false) (eq-eqb k (k + 0) (omega arith))
    first false = refl
any_cleared here k (x ∷ xs) (suc j) =
    let same : k + 1 + j ≡ k + suc j = omega arith in
    any_joined (λ r. r == k + suc j) (if loses_referent here (here k) x then k ∷ [] else []) (cleared_references here (k + 1) xs)
    ∙ (ap (λ (b : Bool). b || list_any (λ r. r == k + suc j) (cleared_references here (k + 1) xs)) (first (loses_referent here (here k) x))
    ∙ (ap (λ (n : ℕ). list_any (λ r. r == n) (cleared_references here (k + 1) xs)) (sym same) ∙ (any_cleared here (k + 1) xs j ∙ ap (λ (n : ℕ). loses_referent here (here n) (at xs j)) same)))
  where
    first : (b : Bool) → list_any (λ r. r == k + suc j) (if b then k ∷ [] else []) ≡ false
    first true = ap (λ (c : Bool). c || false) (ne_eqb k (k + suc j) (λ e. absurd (omega arith)))
    first false = refl

arrivals_joined : (h : Objects) (xs ys : List ℕ) (q : ℕ) → arrivals h (xs ++ ys) q ≡ arrivals h xs q ++ arrivals h ys q
arrivals_joined h [] ys q = refl
arrivals_joined h (x ∷ xs) ys q = ap (λ (l : List ℕ). (if goes h q x then x ∷ [] else []) ++ l) (arrivals_joined h xs ys q) ∙ sym (append_assoc (if goes h q x then x ∷ [] else []) (arrivals h xs q) (arrivals h ys q))

-- a reference that is cleared goes to q where it is one of its newcomers
one_arrives : (here : ℕ → Bool) (q k : ℕ) (b : Bool) (x : Option ObjectState) → (if loses_referent here b x && (not (found (left_place here b x)).waits && has_this_queue q (left_place here b x)) then k ∷ [] else [])
    ≡ (if is_free_to_wait here b x && has_this_queue q x then k ∷ [] else [])
one_arrives here q k b None = refl
one_arrives here q k false (Some x) = refl
one_arrives here q k true (Some x) = ap (λ (c : Bool). if c then k ∷ [] else []) (sym (and_and (is_cleared here x.referent) (not x.waits) (has_this_queue q (Some x))))

arrives_if : (h : Objects) (b : Bool) (k q : ℕ) → arrivals h (if b then k ∷ [] else []) q ≡ (if b && goes h q k then k ∷ [] else [])
arrives_if h true k q = append-nil (if goes h q k then k ∷ [] else [])
arrives_if h false k q = refl

arrivals_from : (here : ℕ → Bool) (heap : Objects) (q k : ℕ) (xs : Objects) → ((j : ℕ) → at (remaining here 0 heap) (k + j) ≡ left_place here (here (k + j)) (at xs j)) → arrivals (remaining here 0 heap) (cleared_references here k xs) q ≡ newcomers_from here q k xs
arrivals_from here heap q k [] stands = refl
arrivals_from here heap q k (x ∷ xs) stands =
    let left : Objects = remaining here 0 heap in
    let place : at left k ≡ left_place here (here k) x = subst (λ (n : ℕ). at left n ≡ left_place here (here n) x) (let e : k + 0 ≡ k = omega arith in e) (stands 0) in
    let rest = arrivals_from here heap q (k + 1) xs (λ j. subst (λ (n : ℕ). at left n ≡ left_place here (here n) (at xs j)) (let e : k + suc j ≡ k + 1 + j = omega arith in e) (stands (suc j))) in
    arrivals_joined left (if loses_referent here (here k) x then k ∷ [] else []) (cleared_references here (k + 1) xs) q
    ∙ (ap (λ (l : List ℕ). l ++ arrivals left (cleared_references here (k + 1) xs) q)
    (arrives_if left (loses_referent here (here k) x) k q
    ∙ (ap (λ (y : Option ObjectState). if loses_referent here (here k) x && (not (found y).waits && has_this_queue q y) then k ∷ [] else []) place ∙ one_arrives here q k (here k) x))
    ∙ ap (λ (l : List ℕ). (if is_free_to_wait here (here k) x && has_this_queue q x then k ∷ [] else []) ++ l) rest)

one_starts : (here : ℕ → Bool) (b : Bool) (x : Option ObjectState) → (loses_referent here b x && (not (found (left_place here b x)).waits && has_queue (left_place here b x))) ≡ (is_free_to_wait here b x && has_queue x)
one_starts here b None = refl
one_starts here false (Some x) = refl
one_starts here true (Some x) = sym (and_and (is_cleared here x.referent) (not x.waits) (has_queue (Some x)))

-- WHOLE HEAPS

all_long : (rs : List ℕ) (h : Objects) → length (all_enqueued rs h) ≡ length h
all_long [] h = refl
all_long (r ∷ rs) h = all_long rs (enqueued r h) ∙ by (object_at h r).queue (object_at h r).waits where
  by : (q : Option ℕ) (b : Bool) → length (put_in q b r h) ≡ length h
  by None b = refl
  by (Some q) true = refl
  by (Some q) false = length-set (changed_at (with_waits true) r h) q (Some (with_one_waiting r (object_at (changed_at (with_waits true) r h) q))) ∙ length-set h r (Some (with_waits true (object_at h r)))

same_heaps : (xs ys : Objects) → length xs ≡ length ys → ((o : ℕ) → at xs o ≡ at ys o) → xs ≡ ys
same_heaps [] [] e same = refl
same_heaps [] (y ∷ ys) e same = absurd (omega arith)
same_heaps (x ∷ xs) [] e same = absurd (omega arith)
same_heaps (x ∷ xs) (y ∷ ys) e same = ap (λ (z : Option ObjectState). z ∷ xs) (same 0) ∙ ap (λ (zs : Objects). y ∷ zs) (same_heaps xs ys (omega arith) (λ o. same (suc o)))

-- what the code does one by one is what a flush leaves
pub enqueued_is_flushed : (here : ℕ → Bool) (heap : Objects) → ((r : ℕ) → Contains (cleared_references here 0 heap) r → IsHeld (remaining here 0 heap) r) → ((r q : ℕ) → (object_at (remaining here 0 heap) r).queue ≡ Some q → IsHeld (remaining here 0 heap) q)
    → all_enqueued (cleared_references here 0 heap) (remaining here 0 heap) ≡ flushed_heap here heap
enqueued_is_flushed here heap held queues =
    let left : Objects = remaining here 0 heap in
    let rs : List ℕ = cleared_references here 0 heap in
    let can : CanGo left rs = record { held = held; queue = λ r q c e. queues r q e } in
    let starting : (o : ℕ) → starts left rs o ≡ begins_to_wait here heap o = λ o.
    let number : 0 + o ≡ o = omega arith in
    let place : at left o ≡ left_place here (here o) (at heap o) = remaining_at here 0 heap o ∙ ap (λ (n : ℕ). left_place here (here n) (at heap o)) number in
    let some : list_any (λ r. r == o) rs ≡ loses_referent here (here o) (at heap o) = subst (λ (n : ℕ). list_any (λ r. r == n) rs ≡ loses_referent here (here n) (at heap o)) number (any_cleared here 0 heap o) in
    ap (λ (b : Bool). b && may_start left o) some
    ∙ (ap (λ (x : Option ObjectState). loses_referent here (here o) (at heap o) && (not (found x).waits && has_queue x)) place ∙ one_starts here (here o) (at heap o)) in
    same_heaps (all_enqueued rs left) (flushed_heap here heap) (all_long rs left ∙ sym (length-joined (newcomers here heap) (begins_to_wait here heap) 0 left)) (λ o.
    all_joined rs left (rising_once here 0 heap) can o
    ∙ (joined_same_at (arrivals left rs) (newcomers here heap) (starts left rs) (begins_to_wait here heap) o (at left o) (arrivals_from here heap o 0 heap (λ j. subst (λ (n : ℕ). at left n ≡ left_place here (here (0 + j)) (at heap j)) (let e : j ≡ 0 + j = omega arith in e) (remaining_at here 0 heap j))) (starting o)
    ∙ sym (joined_now (newcomers here heap) (begins_to_wait here heap) left o)))
