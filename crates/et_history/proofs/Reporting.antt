-- What was reported in the history in which nothing is freed: a flush found it.
use Rattle.std.proofs.Common.{◌≡◌, ℕ, zero, suc, ◌+◌, ◌<◌, ◌⊎◌, Bool, true, false, [], ◌∷◌, Option, Some, None, refl, sym, ◌∙◌, subst, inl, inr, arith}
use Rattle.std.specs.Prelude.{if◌then◌else◌, map}
use Rattle.std.proofs.lemmas.Bool.{true≢false, false≢true}
use Rattle.et_graph.specs.Graph.{Graph}
use Rattle.et_heap.specs.Objects.{ObjectState, Objects, IsHeld, at, is_there, with_referent}
use Rattle.et_program.specs.Entries.{Linked}
use Rattle.et_state.specs.History.{is_flush_point, left_by}
use Rattle.et_state.specs.History as history
use Rattle.et_state.specs.Outcome.{Outcome, state_after}
use Rattle.et_state.specs.Outcome as outcome
use Rattle.et_state.specs.Past.{first_of, reporting}
use Rattle.et_state.specs.Roots.{graph}
use Rattle.et_state.specs.State.{State, Kept}
use Rattle.et_state.specs.declared.options.Options.{Options}
use Rattle.et_event.specs.Told.{event_with_texts}
use Rattle.et_history.specs.Histories.{whole_picked, whole_at, whole_settled_at}
use Rattle.et_history.specs.Same.{IsReportedAs}
use Rattle.et_history.specs.Whole.{beside, cleared, whole_flushed}

-- a choice, of which both sides are known
pub if_known : {A : Type 0} (P : A → Type 0) (b : Bool) (x y : A) → (b ≡ true → P x) → (b ≡ false → P y) → P (if b then x else y)
if_known P true x y f g = f refl
if_known P false x y f g = g refl

-- A FLUSH

reported_place : (here : ℕ → Bool) (b : Bool) (x r : Option ObjectState) → is_there (cleared here (first_of r (if b then None else x))) → is_there r ⊎ (is_there x × (b ≡ false))
reported_place here b x (Some r) h = inl tt
reported_place here true x None h = absurd h
reported_place here false None None h = absurd h
reported_place here false (Some x) None h = inr (tt, refl)

place_reported : (here : ℕ → Bool) (b : Bool) (x r : Option ObjectState) → is_there x → b ≡ false → is_there (cleared here (first_of r (if b then None else x)))
place_reported here b x (Some r) h e = tt
place_reported here true x None h e = absurd (true≢false e)
place_reported here false None None h e = absurd h
place_reported here false (Some x) None h e = tt

-- what stands there at place o of a list that begins with the number k
first_place : (here : ℕ → Bool) (k : ℕ) (b : Bool) → here k ≡ b → here (k + 0) ≡ b
first_place here k b h = subst (λ (j : ℕ). here j ≡ b) (let e : k ≡ k + 0 = omega arith in e) h

place_first : (here : ℕ → Bool) (k : ℕ) (b : Bool) → here (k + 0) ≡ b → here k ≡ b
place_first here k b h = subst (λ (j : ℕ). here j ≡ b) (let e : k + 0 ≡ k = omega arith in e) h

next_place : (here : ℕ → Bool) (k o : ℕ) (b : Bool) → here (k + 1 + o) ≡ b → here (k + suc o) ≡ b
next_place here k o b h = subst (λ (j : ℕ). here j ≡ b) (let e : k + 1 + o ≡ k + suc o = omega arith in e) h

place_next : (here : ℕ → Bool) (k o : ℕ) (b : Bool) → here (k + suc o) ≡ b → here (k + 1 + o) ≡ b
place_next here k o b h = subst (λ (j : ℕ). here j ≡ b) (let e : k + suc o ≡ k + 1 + o = omega arith in e) h

-- what a flush reports was reported, or held and not reached
abbrev IsFound : (ℕ → Bool) → ℕ → Objects → Objects → ℕ → Type 0
IsFound here k xs rs o = IsHeld rs o ⊎ (IsHeld xs o × (here (k + o) ≡ false))

found_next : (here : ℕ → Bool) (k : ℕ) (x r : Option ObjectState) (xs rs : Objects) (o : ℕ) → IsFound here (k + 1) xs rs o → IsFound here k (x ∷ xs) (r ∷ rs) (suc o)
found_next here k x r xs rs o (inl old) = inl old
found_next here k x r xs rs o (inr new) = inr (new.0, next_place here k o false new.1)

found_first : (here : ℕ → Bool) (k : ℕ) (x r : Option ObjectState) (xs rs : Objects) → is_there r ⊎ (is_there x × (here k ≡ false)) → IsFound here k (x ∷ xs) (r ∷ rs) 0
found_first here k x r xs rs (inl old) = inl old
found_first here k x r xs rs (inr new) = inr (new.0, first_place here k false new.1)

none_there : (o : ℕ) → IsHeld [] o → ⊥
none_there o h = h

reporting_from : (here : ℕ → Bool) (k : ℕ) (xs rs : Objects) (o : ℕ) → IsHeld (map (cleared here) (reporting here k xs rs)) o → IsFound here k xs rs o
reporting_from here k [] rs o h = absurd h
reporting_from here k (x ∷ xs) [] zero h =
    elim (reported_place here (here k) x None h) [ inl old ↦ absurd old | inr new ↦ inr (new.0, first_place here k false new.1) ]
reporting_from here k (x ∷ xs) [] (suc o) h =
    elim (reporting_from here (k + 1) xs [] o h) [ inl old ↦ absurd old | inr new ↦ inr (new.0, next_place here k o false new.1) ]
reporting_from here k (x ∷ xs) (r ∷ rs) zero h = found_first here k x r xs rs (reported_place here (here k) x r h)
reporting_from here k (x ∷ xs) (r ∷ rs) (suc o) h = found_next here k x r xs rs o (reporting_from here (k + 1) xs rs o h)

reporting_to : (here : ℕ → Bool) (k : ℕ) (xs rs : Objects) (o : ℕ) → IsHeld xs o → here (k + o) ≡ false → IsHeld (map (cleared here) (reporting here k xs rs)) o
reporting_to here k [] rs o h e = absurd h
reporting_to here k (x ∷ xs) [] zero h e = place_reported here (here k) x None h (place_first here k false e)
reporting_to here k (x ∷ xs) [] (suc o) h e = reporting_to here (k + 1) xs [] o h (place_next here k o false e)
reporting_to here k (x ∷ xs) (r ∷ rs) zero h e = place_reported here (here k) x r h (place_first here k false e)
reporting_to here k (x ∷ xs) (r ∷ rs) (suc o) h e = reporting_to here (k + 1) xs rs o h (place_next here k o false e)

-- AN EVENT reports nothing

after_reported : (t : State) (x : Outcome Kept) → (state_after t (beside t.reported x)).reported ≡ t.reported
after_reported t (outcome.Goes next records) = refl
after_reported t (outcome.Waits next) = refl
after_reported t (outcome.IllTyped method pc) = refl
after_reported t outcome.ObjectLimit = refl

-- what stands at a number, there or reported as it was
pub there_some : (y : Option ObjectState) → is_there y → (x : ObjectState) × (y ≡ Some x)
there_some None h = absurd h
there_some (Some x) h = (x, refl)

some_there : (y : Option ObjectState) (x : ObjectState) → y ≡ Some x → is_there y
some_there y x e = subst (λ (z : Option ObjectState). is_there z) (sym e) tt

pub as_there : (s : State) (o : ℕ) (x : ObjectState) → IsReportedAs s o x → IsHeld s.reported o
as_there s o x (inl e) = some_there (at s.reported o) x e
as_there s o x (inr e) = some_there (at s.reported o) (with_referent None x) e

-- THE HISTORY
module _ (reached : Graph → ℕ → Bool) (p : Linked) (options : Options) (pick : ℕ → ℕ) where
  abbrev now : ℕ → State
  now e = whole_at reached p options pick e

  -- a flush after event f reports the object
  pub record IsFlushed (f o : ℕ) : Type 0 where
    pub due : is_flush_point options.interval f ≡ true
    pub held : IsHeld (now f).kept.heap o
    pub out : reached (graph (now f)) o ≡ false

  settled_from : (f o : ℕ) → IsHeld (whole_settled_at reached p options pick f).reported o → IsHeld (now f).reported o ⊎ IsFlushed f o
  settled_from f o =
      let here : ℕ → Bool = reached (graph (now f)) in
      let zero_more : 0 + o ≡ o = omega arith in
      if_known (λ (s : State). IsHeld s.reported o → IsHeld (now f).reported o ⊎ IsFlushed f o) (is_flush_point options.interval f) (whole_flushed here (now f)) (now f)
      (λ due h. elim (reporting_from here 0 (now f).kept.heap (now f).reported o h) [
        | inl old ↦ inl old
        | inr new ↦ inr (record { due = due; held = new.0; out = subst (λ (j : ℕ). here j ≡ false) zero_more new.1 })
      ])
      (λ none h. inl h)

  pub settled_to : (f o : ℕ) → IsFlushed f o → IsHeld (whole_settled_at reached p options pick f).reported o
  settled_to f o d =
      let here : ℕ → Bool = reached (graph (now f)) in
      let zero_more : o ≡ 0 + o = omega arith in
      if_known (λ (s : State). IsHeld s.reported o) (is_flush_point options.interval f) (whole_flushed here (now f)) (now f)
      (λ due. reporting_to here 0 (now f).kept.heap (now f).reported o d.held (subst (λ (j : ℕ). here j ≡ false) zero_more d.out))
      (λ none. absurd (false≢true (sym none ∙ d.due)))

  pub reported_next : (f : ℕ) → (now (suc f)).reported ≡ (whole_settled_at reached p options pick f).reported
  unfolding left_by
  reported_next f =
      let t : State = whole_settled_at reached p options pick f in
      after_reported t (event_with_texts p t.kept (history.picked_turn (whole_picked p options pick) (suc f) t))

  reported_first : (o : ℕ) → IsHeld (now 0).reported o → ⊥
  unfolding left_by
  reported_first o h = h

  -- what is reported at event n was found by a flush before
  pub found_before : (n o : ℕ) → IsHeld (now n).reported o → (f : ℕ) × (f < n) × IsFlushed f o
  found_before zero o h = absurd (reported_first o h)
  found_before (suc n) o h =
      elim (settled_from n o (subst (λ (rs : Objects). IsHeld rs o) (reported_next n) h)) [
        | inl old ↦ let f = found_before n o old in (f.0, (let lt = f.1 in omega arith), f.2)
        | inr new ↦ (n, omega arith, new)
      ]
