use Rattle.std.proofs.Common.{◌≡◌, ◌<◌, List, Result, ℕ, length, sym, ap, subst, ◌∙◌, refl}
use Rattle.std.specs.Prelude.{Ok, IfOk}
use Rattle.et_heap.specs.Objects.{Objects}
use Rattle.et_state.specs.declared.ends.EventEnd.{EventEnd}
use Rattle.et_state.specs.Outcome.{Outcome}
use Rattle.et_state.specs.Running.{RunningState}
use Rattle.et_state.specs.State.{Kept, MachineState}
use Rattle.et_state.specs.declared.records.Record.{Record}
use Rattle.et_state.specs.Threads.{FrameState, most_frames}
use Rattle.et_state.specs.Words.{begun, losing, top}
use Rattle.et_event.specs.Answered.{EventAnswers}
use Rattle.et_event.specs.Heap.{heap_event}
use Rattle.et_event.specs.Moments.{Moment, moment}
use Rattle.et_event.specs.Places.{is_frame}
use Rattle.et_event.specs.Sites.{Site, pool_of_class}
use Rattle.et_event.proofs.SiteAnswers.{place_pool}
use Rattle.et_ops.proofs.Lifting.{landed, lifted}
use Rattle.et_refs.specs.Asked.{MayStep}
use Rattle.et_refs.specs.Changes.{MayStore, store_outcome}
use Rattle.et_refs.specs.LiftedChanges.{MayBeLifted, landed_done, lifted_outcome}
use Rattle.et_refs.specs.Reads.{IsReadable, moment_over}
use Rattle.et_refs.specs.Refusals.{outcome_of, refusal_outcome}
use Rattle.et_refs.specs.Writes.{written}
use Rattle.et_refs.specs.declared.refusals.Refusal.{Refusal}
use Rattle.et_refs.specs.declared.slots.steps.LiftedChange.{LiftedChange}
use Rattle.et_refs.specs.declared.slots.steps.LiftedChange.TheVariants as change
use Rattle.et_refs.proofs.Answering.{answers_as, answers_done}
use Rattle.et_refs.proofs.Lifting.{few_below, may_step, not_done, read_answers, readable_lifted}
use Rattle.et_refs.proofs.Storing.{store_answers}
use Rattle.et_refs.proofs.event.lifted_event.Given.{Over}
use Rattle.et_refs.proofs.event.lifted_event.Goals.{After-lifted_change}
use Rattle.et_refs.proofs.event.lifted_event.Goals as goal

pub index_of-index-requires : goal.index_of-index-requires
index_of-index-requires g c = c.requires.at.place.index (ap is_frame c.requires.row)

pub lifted_change-requires-clause-sound : goal.lifted_change-requires-clause-sound
lifted_change-requires-clause-sound g c =
    subst (λ (h : Objects). IsReadable c.args.program.now h c.lift-running.result.frame) (sym (ap (λ (n : MachineState). n.heap) c.machine.view_is))
    (readable_lifted c.args.program.now c.args.machine.now _ c.args.thread c.lift-running.result c.requires.at.frame c.requires.at.begins.sound c.lift-running.ensures.new c.lift-running.ensures.frame)

-- THE FRAMES that are lifted

module _ (g : Over) (c : After-lifted_change g) where
  abbrev m : MachineState
  m = c.args.machine.now

  abbrev e : Moment
  e = moment c.args.program.now m c.args.thread

  abbrev at : Site
  at = c.args.place.now.site

  seen : c.machine.inside.heap ≡ m.heap
  seen = ap (λ (n : MachineState). n.heap) (c.machine.view_is ∙ c.lift-running.ensures.new)

  -- the site is the one over the pool of its class
  pool : at.pool ≡ pool_of_class c.args.program.now c.class-class.result
  pool = place_pool c.args.program.now _ c.args.place.now c.requires.at.place ∙ ap (pool_of_class c.args.program.now) (sym c.class-class.ensures)

  -- what the table says is what the checks come to
  told : heap_event e at c.args.row ≡ outcome_of e c.lifted_change.result (lifted_outcome e at)
  told =
      subst (λ (h : Objects). let d = moment_over c.args.program.now h m.guest c.args.thread in heap_event d at c.args.row ≡ outcome_of d c.lifted_change.result (lifted_outcome d at)) seen
      (c.lifted_change.ensures.is m.guest c.args.thread at pool (sym c.index_of-index.ensures) (sym c.lift-running.ensures.frame))

  told_as : (r : Result LiftedChange Refusal) → c.lifted_change.result ≡ r → heap_event e at c.args.row ≡ outcome_of e r (lifted_outcome e at)
  told_as r is = told ∙ ap (λ (q : Result LiftedChange Refusal). outcome_of e q (lifted_outcome e at)) is

  may : (y : LiftedChange) → c.lifted_change.result ≡ Ok y → MayBeLifted m.heap c.lift-running.result.frame y
  may y is =
      subst (λ (h : Objects). MayBeLifted h c.lift-running.result.frame y) seen
      (subst (λ (r : Result LiftedChange Refusal). IfOk r (λ x. MayBeLifted c.machine.inside.heap c.lift-running.result.frame x)) is c.lifted_change.ensures.may)

  few : (below : List FrameState) → below ≡ c.lift-running.result.below → length below < most_frames
  few below same = few_below c.args.program.now m c.args.thread below c.requires.at.frame c.requires.at.begins.sound (same ∙ c.lift-running.ensures.below)

  -- nothing was done where they are put back as they were
  back : (m' : MachineState) → m' ≡ landed c.lift-running.new.self c.args.thread c.lift-running.result → m' ≡ m
  back m' is = not_done m c.lift-running.new.self m' c.args.thread c.lift-running.result c.requires.at.frame c.lift-running.ensures.new c.lift-running.ensures.frame c.lift-running.ensures.below is

  -- what is answered then, is what is answered of the machine as it was
  answered_back : {E : Type 0} (m₁ m₂ : MachineState) (go : Moment → Outcome Kept) (r : Result EventEnd E) (out' : List Record) → m₁ ≡ landed c.lift-running.new.self c.args.thread c.lift-running.result → heap_event e at c.args.row ≡ go e
      → IfOk r (λ end. EventAnswers (go (moment c.args.program.now m₁ c.args.thread)) end m₁ m₂ c.args.out.now out') → IfOk r (λ end. EventAnswers (heap_event e at c.args.row) end m m₂ c.args.out.now out')
  answered_back m₁ m₂ go r out' is same h =
      answers_as (heap_event e at c.args.row) (go e) r m m₂ c.args.out.now out' same
      (subst (λ (n : MachineState). IfOk r (λ end. EventAnswers (go (moment c.args.program.now n c.args.thread)) end n m₂ c.args.out.now out')) (back m₁ is) h)

  may_step_back : (m₁ : MachineState) → m₁ ≡ landed c.lift-running.new.self c.args.thread c.lift-running.result → MayStep m₁ c.args.thread
  may_step_back m₁ is = subst (λ (n : MachineState). MayStep n c.args.thread) (sym (back m₁ is)) (may_step c.args.program.now m c.args.thread c.requires.at.frame c.requires.at.begins)

-- A VALUE is put in the place of operands

pub land_done-requires-clause-few : goal.land_done-requires-clause-few
land_done-requires-clause-few g c =
    few g (goal.at.land_done-requires-clause-few g c).After-lifted_change c.exchange.new.running.below (ap (λ (r : RunningState). r.below) c.exchange.ensures)

pub returns-in-Ok-Put-clause-event : goal.returns-in-Ok-Put-clause-event
returns-in-Ok-Put-clause-event g c =
    let m : MachineState = c.args.machine.now in
    let t : ℕ = c.args.thread in
    let r' : RunningState = c.exchange.new.running in
    let over = (goal.at.returns-in-Ok-Put-clause-event g c).After-lifted_change in
    let y = change.Put c.in-Ok-Put.x in
    let is : c.lifted_change.result ≡ Ok y = c.in-Ok-Put.is ∙ ap (λ (z : LiftedChange). Ok z) c.in-Ok-Put.field-0-is in
    let landing : c.land_done.new.machine ≡ landed (losing (begun (lifted m t)) r'.lost) t r' = c.land_done.ensures.machine ∙ ap (λ (n : MachineState). landed_done t r' n) c.lift-running.ensures.new in
    answers_done _ _ c.land_done.result m c.land_done.new.machine c.args.out.now c.land_done.ensures.done (told_as g over (Ok y) is)
    (read_answers m t c.lift-running.result c.in-Ok-Put.x c.next.result c.requires.at.begins.sound.held c.requires.at.frame c.lift-running.ensures.frame c.lift-running.ensures.below (may g over y is) c.args.program.now c.args.place.now.site r' c.land_done.new.machine c.args.out.now (sym c.next.ensures) c.exchange.ensures landing)

-- A NUMBER is written

pub land_done-requires-in-Ok-Store-clause-few : goal.land_done-requires-in-Ok-Store-clause-few
land_done-requires-in-Ok-Store-clause-few g c =
    few g (goal.at.land_done-requires-in-Ok-Store-clause-few g c).After-lifted_change c.store.new.running.below (ap (λ (r : RunningState). r.below) c.store.ensures.frame)

pub returns-else-not-is_number-clause-event : goal.returns-else-not-is_number-clause-event
returns-else-not-is_number-clause-event g c =
    let m : MachineState = c.args.machine.now in
    let t : ℕ = c.args.thread in
    let x = c.in-Ok-Store.x in
    let r' : RunningState = c.store.new.running in
    let over = (goal.at.returns-else-not-is_number-clause-event g c).After-lifted_change in
    let is : c.lifted_change.result ≡ Ok (change.Store x) = c.in-Ok-Store.is ∙ ap (λ (z : LiftedChange). Ok z) c.in-Ok-Store.field-0-is in
    let stored : c.store.new.heap ≡ written x m.heap = c.store.ensures.heap ∙ ap (λ (h : Objects). written x h) (seen g over) in
    let landing : c.land_done-in-Ok-Store.new.machine ≡ landed (losing (begun (record (lifted m t) { heap = written x m.heap })) r'.lost) t r' =
    c.land_done-in-Ok-Store.ensures.machine
    ∙ (ap (λ (n : MachineState). landed_done t r' (record n { heap = c.store.new.heap })) (c.machine.view_is ∙ c.lift-running.ensures.new) ∙ ap (λ (h : Objects). landed_done t r' (record (lifted m t) { heap = h })) stored) in
    answers_done _ _ c.land_done-in-Ok-Store.result m c.land_done-in-Ok-Store.new.machine c.args.out.now c.land_done-in-Ok-Store.ensures.done (told_as g over (Ok (change.Store x)) is)
    (store_answers m t c.lift-running.result x c.next-in-Ok-Store.result c.requires.at.begins.sound.held c.requires.at.frame c.lift-running.ensures.frame c.lift-running.ensures.below (may g over (change.Store x) is) (sym c.is_number.ensures ∙ c.if-not-is_number.false)
    c.args.program.now c.args.place.now.site r' c.land_done-in-Ok-Store.new.machine c.args.out.now (sym c.next-in-Ok-Store.ensures) c.store.ensures.frame landing)

-- A REFERENCE is written

pub land-requires-clause-few : goal.land-requires-clause-few
land-requires-clause-few g c = few g (goal.at.land-requires-clause-few g c).After-lifted_change c.lift-running.result.below refl

pub write_slot-requires-clause-step : goal.write_slot-requires-clause-step
write_slot-requires-clause-step g c = may_step_back g (goal.at.write_slot-requires-clause-step g c).After-lifted_change c.land.new.self c.land.ensures

pub write_slot-requires-clause-may : goal.write_slot-requires-clause-may
write_slot-requires-clause-may g c =
    let over = (goal.at.write_slot-requires-clause-may g c).After-lifted_change in
    let x = c.in-Ok-Store.x in
    let is : c.lifted_change.result ≡ Ok (change.Store x) = c.in-Ok-Store.is ∙ ap (λ (z : LiftedChange). Ok z) c.in-Ok-Store.field-0-is in
    let here : MayStore c.args.machine.now.heap (top c.args.machine.now.guest c.args.thread) x = subst (λ (f : FrameState). MayStore c.args.machine.now.heap f x) c.lift-running.ensures.frame (may g over (change.Store x) is) in
    subst (λ (n : MachineState). MayStore n.heap (top n.guest c.args.thread) x) (sym (back g over c.land.new.self c.land.ensures)) here

pub returns-then-not-is_number-clause-event : goal.returns-then-not-is_number-clause-event
returns-then-not-is_number-clause-event g c =
    let over = (goal.at.returns-then-not-is_number-clause-event g c).After-lifted_change in
    let x = c.in-Ok-Store.x in
    let is : c.lifted_change.result ≡ Ok (change.Store x) = c.in-Ok-Store.is ∙ ap (λ (z : LiftedChange). Ok z) c.in-Ok-Store.field-0-is in
    answered_back g over c.land.new.self c.write_slot.new.machine (λ (d : Moment). store_outcome d c.args.place.now.site x) c.write_slot.result c.write_slot.new.out c.land.ensures (told_as g over (Ok (change.Store x)) is) c.write_slot.ensures.ok

-- NOTHING is done

pub land-requires-in-Err-clause-few : goal.land-requires-in-Err-clause-few
land-requires-in-Err-clause-few g c = few g (goal.at.land-requires-in-Err-clause-few g c).After-lifted_change c.lift-running.result.below refl

pub refuse-requires : goal.refuse-requires
refuse-requires g c = record { step = may_step_back g (goal.at.refuse-requires g c).After-lifted_change c.land-in-Err.new.self c.land-in-Err.ensures }

pub returns-in-Err-clause-event : goal.returns-in-Err-clause-event
returns-in-Err-clause-event g c =
    let over = (goal.at.returns-in-Err-clause-event g c).After-lifted_change in
    answered_back g over c.land-in-Err.new.self c.refuse.new.machine (λ (d : Moment). refusal_outcome d c.in-Err.refusal) c.refuse.result c.refuse.new.out c.land-in-Err.ensures (told_as g over _ c.in-Err.is) c.refuse.ensures.ok
