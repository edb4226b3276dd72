-- What is at hand in an event: the objects that are reached before it. Those are the ones to which the topmost frame refers.
use Rattle.et_base.proofs.Lists.{Contains-here}
use Rattle.et_base.specs.declared.value.Value.{Value}
use Rattle.et_base.specs.declared.value.Value.TheVariants.{Int, Long, LongHigh, Null, Ref, Unset}
use Rattle.et_event.specs.Moments.{Moment, current_frame}
use Rattle.et_graph.proofs.Walks.{is_reached, is_reached_decides}
use Rattle.et_graph.specs.Graph.{IsReached}
use Rattle.et_heap.specs.Objects.{IsHeld, Objects}
use Rattle.et_heap.specs.Refs.{refs_of, refs_of_value}
use Rattle.et_heap.specs.Remaining.{remaining}
use Rattle.et_state.proofs.Places.{top_root}
use Rattle.et_state.proofs.UnderWay.{root_is_reached}
use Rattle.et_state.proofs.Wholes.{held_remaining, remaining_held}
use Rattle.et_state.specs.Roots.{graph_of, roots_of}
use Rattle.et_state.specs.Threads.{FrameState}
use Rattle.et_history.proofs.steps.Held.{Ready, frame_fine}
use Rattle.et_history.specs.steps.Steps.{IsFramed}
use Rattle.et_history.specs.steps.Values.{Fine, Fines, Grows}
use Rattle.std.proofs.Common.{Contains, List, [], arith, subst, true, ℕ, ◌+◌, ◌∷◌, ◌≡◌}
use Rattle.std.proofs.lemmas.List.Elements.{Contains-append_left, Contains-append_right}

module _ (e : Moment) where
  -- of the objects that are held before the event, those that are reached
  abbrev pub near : Objects
  near = remaining (is_reached (graph_of e.before)) 0 e.before.heap

  pub near_held : Grows near e.before.heap
  near_held o h = (remaining_held (is_reached (graph_of e.before)) 0 e.before.heap o h).0

  pub near_reached : (o : ℕ) → IsHeld near o → IsReached (graph_of e.before) o
  near_reached o h =
      let same : 0 + o ≡ o = omega arith in
      (is_reached_decides (graph_of e.before) o).0 (subst (λ (k : ℕ). is_reached (graph_of e.before) k ≡ true) same (remaining_held (is_reached (graph_of e.before)) 0 e.before.heap o h).1)

  root_near : (o : ℕ) → Contains (roots_of e.before.guest) o → IsHeld e.before.heap o → IsHeld near o
  root_near o c held =
      let same : o ≡ 0 + o = omega arith in
      held_remaining (is_reached (graph_of e.before)) 0 e.before.heap o held (subst (λ (k : ℕ). is_reached (graph_of e.before) k ≡ true) same ((is_reached_decides (graph_of e.before) o).1 (root_is_reached e.before o c)))

  value_near : (v : Value) → Fine e.before.heap v → ((o : ℕ) → Contains (refs_of_value v) o → Contains (roots_of e.before.guest) o) → Fine near v
  value_near Unset f c = tt
  value_near (Int n) f c = tt
  value_near (Long n) f c = tt
  value_near LongHigh f c = tt
  value_near Null f c = tt
  value_near (Ref o) f c = root_near o (c o (Contains-here o [])) f

  values_near : (vs : List Value) → Fines e.before.heap vs → ((o : ℕ) → Contains (refs_of vs) o → Contains (roots_of e.before.guest) o) → Fines near vs
  values_near [] f c = tt
  values_near (v ∷ vs) f c = (
    value_near v f.0 (λ o d. c o (Contains-append_left (refs_of_value v) (refs_of vs) o d)),
    values_near vs f.1 (λ o d. c o (Contains-append_right (refs_of_value v) (refs_of vs) o d)),
  )

  pub operands_near : Ready e → IsFramed e → Fines near (current_frame e).operands
  operands_near ready framed =
      let f : FrameState = current_frame e in
      values_near f.operands (frame_fine e ready).operands (λ o c.
      top_root e.before.guest e.thread o (record { thread = ready.knows.thread.thread; frame = framed })
      (Contains-append_right (refs_of f.locals) _ o (Contains-append_left (refs_of f.operands) _ o c)))
