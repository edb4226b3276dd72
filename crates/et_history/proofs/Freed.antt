-- Nothing is freed.
use Rattle.std.proofs.Common.{◌≡◌, ℕ, zero, suc, ◌+◌, ◌<◌, ◌≤◌, ◌==◌, ◌↔◌, ◌⊎◌, Bool, true, false, [], ◌∷◌, length, Option, Some, None, Contains, refl, sym, ◌∙◌, ap, subst, inl, inr, arith}
use Rattle.std.specs.Prelude.{if◌then◌else◌, map}
use Rattle.et_graph.specs.Graph.{Graph}
use Rattle.et_heap.specs.Objects.{ObjectState, Objects, IsHeld, at, with_referent}
use Rattle.et_heap.specs.Remaining.{is_cleared, kept_referent}
use Rattle.et_heap.proofs.HeapLists.{gone_at}
use Rattle.et_state.specs.History.{ending, is_flush_point, left_by}
use Rattle.et_state.specs.History as history
use Rattle.et_state.specs.Outcome.{Outcome, state_after}
use Rattle.et_state.specs.Outcome as outcome
use Rattle.et_state.specs.Past.{IsPast, first_of, reporting}
use Rattle.et_state.specs.Roots.{graph}
use Rattle.et_state.specs.State.{State, Kept}
use Rattle.et_state.specs.declared.options.Options.{Options}
use Rattle.et_program.specs.Entries.{Linked}
use Rattle.et_event.specs.Told.{event_with_texts}
use Rattle.et_history.specs.steps.Changing.{KeepsMonitors}
use Rattle.et_history.specs.Histories.{picked, IsHistory, HistoryComesTo, WholeComesTo}
use Rattle.et_history.specs.Same.{IsHere, IsReportedAs}
use Rattle.et_history.specs.Settings.{unended_threads}
use Rattle.et_history.specs.Whole.{beside, cleared, whole_flushed}
use Rattle.et_history.proofs.Alike.{is_open}
use Rattle.et_history.proofs.Wholes.{all_match, settled_match, go_on, keeps_at, flushed_here, reported_gone}
use Rattle.et_history.proofs.soundness.Outcomes.{if_case}
use Rattle.et_history.proofs.HistoryWords.{history_words}

-- WHAT WAS REPORTED, after a flush

first_stays : (r y : Option ObjectState) (x : ObjectState) → r ≡ Some x → first_of r y ≡ Some x
first_stays (Some r) y x e = e
first_stays None y x e = cc

none_some : {x : ObjectState} → None ≡ Some x → ⊥
none_some q = cc

reported_stays : (here : ℕ → Bool) (k : ℕ) (xs rs : Objects) (o : ℕ) (x : ObjectState) → length rs ≤ length xs → at rs o ≡ Some x → at (reporting here k xs rs) o ≡ Some x
reported_stays here k [] [] o x le h = h
reported_stays here k [] (r ∷ rs) o x le h = absurd (omega (arith, le))
reported_stays here k (y ∷ xs) [] o x le h = absurd (none_some h)
reported_stays here k (y ∷ xs) (r ∷ rs) zero x le h = first_stays r _ x h
reported_stays here k (y ∷ xs) (r ∷ rs) (suc o) x le h = reported_stays here (k + 1) xs rs o x (omega (arith, le)) h

pub at_cleared : (here : ℕ → Bool) (rs : Objects) (o : ℕ) → at (map (cleared here) rs) o ≡ cleared here (at rs o)
at_cleared here [] o = refl
at_cleared here (r ∷ rs) zero = refl
at_cleared here (r ∷ rs) (suc o) = at_cleared here rs o

referent_or : (here : ℕ → Bool) (r : Option ℕ) → (kept_referent here r ≡ r) ⊎ (kept_referent here r ≡ None)
referent_or here r = by (is_cleared here r)
  where
    by : (b : Bool) → ((if b then None else r) ≡ r) ⊎ ((if b then None else r) ≡ None)
    by true = inr refl
    by false = inl refl

cleared_as : (here : ℕ → Bool) (x : ObjectState) → (cleared here (Some x) ≡ Some x) ⊎ (cleared here (Some x) ≡ Some (with_referent None x))
cleared_as here x = elim (referent_or here x.referent) [
  | inl same ↦ inl (ap (λ (r : Option ℕ). Some (with_referent r x)) same)
  | inr none ↦ inr (ap (λ (r : Option ℕ). Some (with_referent r x)) none)
]

-- .. what stands at a number
at_after : (here : ℕ → Bool) (s : State) (o : ℕ) (x : ObjectState) → IsPast s.kept.heap s.reported → at s.reported o ≡ Some x → at (whole_flushed here s).reported o ≡ cleared here (Some x)
at_after here s o x past h =
    at_cleared here (reporting here 0 s.kept.heap s.reported) o ∙ ap (λ (y : Option ObjectState). cleared here y) (reported_stays here 0 s.kept.heap s.reported o x past.within h)

flushed_as : (here : ℕ → Bool) (s : State) (o : ℕ) (x : ObjectState) → IsPast s.kept.heap s.reported → IsReportedAs s o x → IsReportedAs (whole_flushed here s) o x
flushed_as here s o x past (inl h) = elim (cleared_as here x) [
  | inl same ↦ inl (at_after here s o x past h ∙ same)
  | inr none ↦ inr (at_after here s o x past h ∙ none)
]
flushed_as here s o x past (inr h) = inr (at_after here s o (with_referent None x) past h)

-- AN EVENT

after_here : (p : Linked) (t : State) (thread : ℕ) (x : Outcome Kept) → KeepsMonitors (record { program = p; before = t.kept; thread = thread }) x → (o : ℕ) → IsHere t o → IsHere (state_after t (beside t.reported x)) o
after_here p t thread (outcome.Goes next records) h o (inl held) = inl (h.changes.stays o held)
after_here p t thread (outcome.Goes next records) h o (inr past) = inr past
after_here p t thread (outcome.Waits next) h o (inl held) = inl (subst (λ (x : Kept). IsHeld x.heap o) (sym h) held)
after_here p t thread (outcome.Waits next) h o (inr past) = inr past
after_here p t thread (outcome.IllTyped method pc) h o here = here
after_here p t thread outcome.ObjectLimit h o here = here

after_as : (t : State) (x : Outcome Kept) (o : ℕ) (y : ObjectState) → IsReportedAs t o y → IsReportedAs (state_after t (beside t.reported x)) o y
after_as t (outcome.Goes next records) o y h = h
after_as t (outcome.Waits next) o y h = h
after_as t (outcome.IllTyped method pc) o y h = h
after_as t outcome.ObjectLimit o y h = h

none_more : (e : ℕ) → e ≡ e + 0
none_more e = omega arith

one_more : (e n : ℕ) → suc (e + n) ≡ e + suc n
one_more e n = omega arith

-- a number that was given and is not held is reported
not_held : (s : State) (o : ℕ) → ((k : ℕ) → 0 < k → k < length s.kept.heap → IsHere s k) → (0 < o) × (o < length s.kept.heap) × (IsHeld s.kept.heap o → ⊥) → IsHeld s.reported o
not_held s o full is = elim (full o is.0 is.1) [ inl held ↦ absurd (is.2 held) | inr there ↦ there ]

-- THE HISTORY
module _ (reached : Graph → ℕ → Bool) (p : Linked) (options : Options) (pick : ℕ → ℕ) (runs : IsHistory reached p options) where
  abbrev Before : ℕ → Type 0
  Before e = HistoryComesTo reached p options pick e

  open history_words reached p options pick use {now, settled}

  pub past_at : (e : ℕ) → Before e → IsPast (now e).kept.heap (now e).reported
  past_at e goes = (all_match reached p options pick runs e goes).1.past

  pub settled_here : (e o : ℕ) → Before e → IsHere (now e) o → IsHere (settled e) o
  settled_here e o goes h =
      let here : ℕ → Bool = reached (graph (now e)) in
      if_case (λ (s : State). IsHere s o) (is_flush_point options.interval e) (whole_flushed here (now e)) (now e) (flushed_here here (now e) o (past_at e goes) h) h

  settled_as : (e o : ℕ) (x : ObjectState) → Before e → IsReportedAs (now e) o x → IsReportedAs (settled e) o x
  settled_as e o x goes h =
      let here : ℕ → Bool = reached (graph (now e)) in
      if_case (λ (s : State). IsReportedAs s o x) (is_flush_point options.interval e) (whole_flushed here (now e)) (now e) (flushed_as here (now e) o x (past_at e goes) h) h

  pub next_here : (e o : ℕ) → Before (suc e) → IsHere (now e) o → IsHere (now (suc e)) o
  unfolding left_by
  next_here e o goes h =
      let before : Before e = λ k lt. goes k (omega (arith, lt)) in
      let m = settled_match reached p options pick runs e before in
      let t : State = settled e in
      let on = is_open (length (unended_threads t.kept) == 0) (e == options.limit) _ _ _ (subst (λ (x : Kept). ending (picked p options pick) e x ≡ None) (sym m.0) (goes e (omega arith))) in
      let k : ℕ = history.picked_turn (picked p options pick) (suc e) t.kept in
      after_here p t k (event_with_texts p t.kept k) (keeps_at reached p options pick runs e t k m.1 (record { some = on.some; within = on.within; thread_is = refl })) o (settled_here e o before h)

  next_as : (e o : ℕ) (x : ObjectState) → Before (suc e) → IsReportedAs (now e) o x → IsReportedAs (now (suc e)) o x
  unfolding left_by
  next_as e o x goes h =
      let t : State = settled e in
      after_as t (event_with_texts p t.kept (history.picked_turn (picked p options pick) (suc e) t.kept)) o x (settled_as e o x (λ k lt. goes k (omega (arith, lt))) h)

  stays_here : (e n o : ℕ) → Before (e + n) → IsHere (now e) o → IsHere (now (e + n)) o
  stays_here e zero o goes h = subst (λ (k : ℕ). IsHere (now k) o) (none_more e) h
  stays_here e (suc n) o goes h =
      subst (λ (k : ℕ). IsHere (now k) o) (one_more e n)
      (next_here (e + n) o (λ k lt. goes k (omega (arith, lt))) (stays_here e n o (λ k lt. goes k (omega (arith, lt))) h))

  stays_as : (e n o : ℕ) (x : ObjectState) → Before (e + n) → IsReportedAs (now e) o x → IsReportedAs (now (e + n)) o x
  stays_as e zero o x goes h = subst (λ (k : ℕ). IsReportedAs (now k) o x) (none_more e) h
  stays_as e (suc n) o x goes h =
      subst (λ (k : ℕ). IsReportedAs (now k) o x) (one_more e n)
      (next_as (e + n) o x (λ k lt. goes k (omega (arith, lt))) (stays_as e n o x (λ k lt. goes k (omega (arith, lt))) h))

  -- THE LAW

  abbrev WholeBefore : ℕ → Type 0
  WholeBefore e = WholeComesTo reached p options pick e

  pub here_on : (e n o : ℕ) → WholeBefore (e + n) → IsHere (now e) o → IsHere (now (e + n)) o
  here_on e n o goes h = stays_here e n o (go_on reached p options pick runs (e + n) goes) h

  pub reported_on : (e n o : ℕ) (x : ObjectState) → WholeBefore (e + n) → at (now e).reported o ≡ Some x → IsReportedAs (now (e + n)) o x
  reported_on e n o x goes h = stays_as e n o x (go_on reached p options pick runs (e + n) goes) (inl h)

  pub all_here : (e o : ℕ) → WholeBefore e → 0 < o → o ≤ (graph (now e)).made → IsHere (now e) o
  all_here e o goes some le = (all_match reached p options pick runs e (go_on reached p options pick runs e goes)).1.full o some (omega (arith, some, le))

  pub gone_is : (e o : ℕ) → WholeBefore e → Contains (graph (now e)).gone o ↔ IsHeld (now e).reported o
  gone_is e o goes =
      let m = all_match reached p options pick runs e (go_on reached p options pick runs e goes) in
      (λ c. not_held (now e) o m.1.full (gone_at (now e).kept.heap o c), λ there. reported_gone (now e) m.1.past m.1.none o there)
