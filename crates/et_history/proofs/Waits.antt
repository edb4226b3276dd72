-- In every state of the history in which nothing is freed a reference is marked exactly while it stands in a list.
use Rattle.std.proofs.Common.{◌≡◌, ℕ, zero, suc, ◌==◌, ◌↔◌, Bool, true, false, [], length, Option, Some, Contains, refl, sym, ◌∙◌, subst, arith}
use Rattle.std.specs.Option.{option_to_list}
use Rattle.std.proofs.lemmas.Bool.{false≢true}
use Rattle.std.proofs.lemmas.List.Elements.{Contains-append_left, Contains-append_right}
use Rattle.et_base.proofs.Lists.{Contains-none, Contains-here}
use Rattle.et_graph.specs.Graph.{Graph, Decides}
use Rattle.et_heap.specs.Links.{StandOnce}
use Rattle.et_heap.specs.Objects.{Objects, object_at}
use Rattle.et_heap.specs.Refs.{refs_of}
use Rattle.et_state.specs.History.{is_flush_point, left_by}
use Rattle.et_state.specs.History as history
use Rattle.et_state.specs.Outcome.{Outcome, state_after}
use Rattle.et_state.specs.Outcome as outcome
use Rattle.et_state.specs.Roots.{graph, graph_of}
use Rattle.et_state.specs.State.{State, Kept}
use Rattle.et_state.specs.declared.options.Options.{Options}
use Rattle.et_state.proofs.UnderWay.{lead_pair, reached_by_pair}
use Rattle.et_program.specs.Entries.{Linked}
use Rattle.et_event.specs.Told.{event_with_texts}
use Rattle.et_history.specs.Allocations.{object_in}
use Rattle.et_history.specs.Histories.{picked, whole_at, whole_settled_at, IsHistory, WholeComesTo}
use Rattle.et_history.specs.Settings.{unended_threads}
use Rattle.et_history.specs.Waiting.{WaitsIn, WaitsSomewhere}
use Rattle.et_history.specs.Whole.{beside, whole_flushed, whole_start}
use Rattle.et_history.proofs.Alike.{is_open}
use Rattle.et_history.proofs.steps.MonitorRows.{LeadsLined}
use Rattle.et_history.proofs.texts.Events.{event_with_texts_keeps_lists as event_keeps_lists}
use Rattle.et_history.proofs.FlushedLists.{flush_lined}
use Rattle.et_history.proofs.steps.WaitingLists.{AreLined}
use Rattle.et_history.proofs.Wholes.{Stands, all_match, settled_match, go_on, picked_unended, same_reached, tells}
use Rattle.et_history.proofs.soundness.Outcomes.{if_case}

abbrev pub Now : State → Type 0
Now s = AreLined s.kept.heap s.reported

-- THE FIRST STATE: nothing waits

start_list : (p : Linked) (q : ℕ) → (object_in (whole_start p) q).waiting ≡ []
start_list p zero = refl
start_list p (suc zero) = refl
start_list p (suc (suc q)) = refl

start_mark : (p : Linked) (r : ℕ) → (object_in (whole_start p) r).waits ≡ false
start_mark p zero = refl
start_mark p (suc zero) = refl
start_mark p (suc (suc r)) = refl

start_lined : (p : Linked) → Now (whole_start p)
start_lined p = record {
  marked = λ r m. absurd (false≢true (subst (λ (b : Bool). b ≡ true) (start_mark p r) m));
  listed = λ q r c. absurd (Contains-none r (subst (λ l. Contains l r) (start_list p q) c));
  one = λ q u r c d. absurd (Contains-none r (subst (λ l. Contains l r) (start_list p q) c));
  once = λ q. subst StandOnce (sym (start_list p q)) tt;
}

-- AN EVENT

after_lined : (p : Linked) (options : Options) (e : ℕ) (t : State) (thread : ℕ) (x : Outcome Kept) → Stands p options e t → LeadsLined (record { program = p; before = t.kept; thread = thread }) x → Now t → Now (state_after t (beside t.reported x))
after_lined p options e t thread (outcome.Goes next records) stands h lined = h t.reported stands.past.within lined
after_lined p options e t thread (outcome.Waits next) stands h lined = subst (λ (x : Kept). AreLined x.heap t.reported) (sym h) lined
after_lined p options e t thread (outcome.IllTyped method pc) stands h lined = lined
after_lined p options e t thread outcome.ObjectLimit stands h lined = lined

-- A FLUSH

queue_pair : (h : Objects) (r q : ℕ) (o : Option ℕ) → (object_at h r).queue ≡ o → o ≡ Some q → Contains (option_to_list (object_at h r).queue) q
queue_pair h r q o is e = subst (λ (x : Option ℕ). Contains (option_to_list x) q) (sym (is ∙ e)) (Contains-here q [])

module _ (reached : Graph → ℕ → Bool) (p : Linked) (options : Options) (decides : Decides reached) where
  flushed_lined : (e : ℕ) (t : State) → Stands p options e t → Now t → Now (whole_flushed (reached (graph t)) t)
  flushed_lined e t stands lined =
      let k : Kept = t.kept in
      let here : ℕ → Bool = reached (graph_of k) in
      let means = tells (graph_of k) here (decides (graph_of k)) in
      subst (λ (f : ℕ → Bool). Now (whole_flushed f t)) (same_reached reached decides t stands.state.held stands.past)
      (flush_lined here k.heap t.reported stands.past (λ r q held stays queue.
      let pair = lead_pair k.heap r q
      (Contains-append_right (refs_of (object_at k.heap r).slots) _ q (Contains-append_left (option_to_list (object_at k.heap r).queue) (object_at k.heap r).waiting q (queue_pair k.heap r q (object_at k.heap r).queue refl queue))) in
      (stands.state.held.slots r q pair, (means q).1 (reached_by_pair k r q ((means r).0 stays) pair))) lined)

-- THE HISTORY
module _ (reached : Graph → ℕ → Bool) (p : Linked) (options : Options) (pick : ℕ → ℕ) (runs : IsHistory reached p options) where
  abbrev Before : ℕ → Type 0
  Before e = WholeComesTo reached p options pick e

  abbrev state : ℕ → State
  state e = whole_at reached p options pick e

  settled_lined : (e : ℕ) → Before e → Now (state e) → Now (whole_settled_at reached p options pick e)
  settled_lined e goes lined =
      let m = all_match reached p options pick runs e (go_on reached p options pick runs e goes) in
      if_case Now (is_flush_point options.interval e) (whole_flushed (reached (graph (state e))) (state e)) (state e) (flushed_lined reached p options runs.decides e (state e) m.1 lined) lined

  next_lined : (e : ℕ) → Before (suc e) → Now (state e) → Now (state (suc e))
  unfolding left_by
  next_lined e goes lined =
      let before : Before e = λ k lt. goes k (omega (arith, lt)) in
      let m = settled_match reached p options pick runs e (go_on reached p options pick runs e before) in
      let t : State = whole_settled_at reached p options pick e in
      let on = is_open (length (unended_threads t.kept) == 0) (e == options.limit) _ _ _ (goes e (omega arith)) in
      let k : ℕ = history.picked_turn (picked p options pick) (suc e) t.kept in
      after_lined p options e t k (event_with_texts p t.kept k) m.1 (event_keeps_lists p t.kept k m.1.state (picked_unended t.kept (pick (suc e)) on.some) runs.run.runnable) (settled_lined e before lined)

  pub all_lined : (e : ℕ) → Before e → Now (state e)
  unfolding left_by
  all_lined zero goes = start_lined p
  all_lined (suc e) goes = next_lined e goes (all_lined e (λ k lt. goes k (omega (arith, lt))))

  -- THE LAWS

  pub waits_is : (e r : ℕ) → Before e → ((object_in (state e) r).waits ≡ true) ↔ WaitsSomewhere (state e) r
  waits_is e r goes = let h = all_lined e goes in (λ m. h.marked r m, λ w. h.listed w.0 r w.1)

  pub waits_in_one : (e q u r : ℕ) → Before e → WaitsIn (state e) q r → WaitsIn (state e) u r → q ≡ u
  waits_in_one e q u r goes c d = (all_lined e goes).one q u r c d

  pub waits_once : (e q : ℕ) → Before e → StandOnce (object_in (state e) q).waiting
  waits_once e q goes = (all_lined e goes).once q
