use Rattle.std.proofs.Common.{◌≡◌, ℕ, ◌+◌, ◌*◌, ◌≤◌, List, Bool, true, Contains, refl, sym, ap, subst, ◌∙◌, arith}
use Rattle.et_heap.specs.Objects.{Objects}
use Rattle.et_state.specs.Running.{RunningState}
use Rattle.et_state.specs.State.{MachineState}
use Rattle.et_state.specs.Threads.{rest_of}
use Rattle.et_state.specs.Words.{thread_at, top}
use Rattle.et_event.proofs.Running.{has_frame_there}
use Rattle.et_state.specs.MachineInside.{machine_in}
use Rattle.et_ops.proofs.Lifting.{landed, lifted}
use Rattle.et_refs.specs.Steps.{StepsOver}
use Rattle.et_refs.proofs.Lifting.{few_below}
use Rattle.et_run.specs.Lifted.{AreStampedSteps}
use Rattle.et_run.proofs.Lifting.{few_visits, ran_over, still_there, stopped}
use Rattle.et_run.proofs.LiftedLoop.{SoFar, frame_places, lost_places, method_now, readable_now, so_far_frames, so_far_more, so_far_none}
use Rattle.et_run.proofs.lifted.lifted_events.Given.{Over}
use Rattle.et_run.proofs.lifted.lifted_events.Goals.{After-lost, After-run_frame-count, then-count-most, else-count-most+then-not-further_step}
use Rattle.et_run.proofs.lifted.lifted_events.Goals as goal

pub steps-init : goal.steps-init
steps-init g c =
    let p = c.args.program.now in
    let m : MachineState = c.args.machine.now in
    let t : ℕ = c.args.thread in
    let here : c.machine.inside.heap ≡ m.heap = ap (λ (x : MachineState). x.heap) (c.machine.view_is ∙ c.lift-running.ensures.new) in
    so_far_none p m.heap c.machine.inside.heap c.clock-e.result c.args.most (top m.guest t) (rest_of (thread_at m.guest t).frames) c.lift-running.result c.args.stamps.now c.args.visits.now here c.lift-running.ensures.frame c.lift-running.ensures.below

pub run_frame-count-requires-clause-places : goal.run_frame-count-requires-clause-places
run_frame-count-requires-clause-places g c =
    frame_places c.steps.invariant c.args.machine.now c.args.thread c.requires.sound c.requires.runnable c.requires.thread c.requires.turn c.events_lead_to_sound_states.ensures refl refl c.clock-e.ensures c.requires.clock c.requires.places

-- behind the instructions of the frame alone
behind_frames : (g : Over) (c : After-run_frame-count g)
    → SoFar c.args.program.now c.args.machine.now.heap c.steps.heap c.clock-e.result c.args.most (c.steps.count + c.run_frame-count.result) (top c.args.machine.now.guest c.args.thread) (rest_of (thread_at c.args.machine.now.guest c.args.thread).frames) c.run_frame-count.new.running
    c.args.stamps.now c.run_frame-count.new.stamps c.args.visits.now c.steps.visits
behind_frames g c =
    so_far_frames c.steps.invariant c.method_of-method.result.now c.code_of-code.result.now c.run_frame-count.result c.run_frame-count.new.running c.run_frame-count.new.stamps c.method_of-method.ensures.method c.code_of-code.ensures.bytes c.run_frame-count.ensures.few c.run_frame-count.ensures.below c.run_frame-count.ensures.steps

pub further_step-requires-clause-method : goal.further_step-requires-clause-method
further_step-requires-clause-method g c =
    method_now (behind_frames g (goal.at.further_step-requires-clause-method g c).After-run_frame-count) c.method_of-method.result.now c.method_of-method.ensures.method

pub further_step-requires-clause-sound : goal.further_step-requires-clause-sound
further_step-requires-clause-sound g c =
    readable_now (behind_frames g (goal.at.further_step-requires-clause-sound g c).After-run_frame-count) c.args.machine.now c.args.thread c.requires.sound c.requires.runnable c.requires.thread c.requires.turn c.events_lead_to_sound_states.ensures refl refl c.clock-e.ensures c.requires.clock

-- one more was done
done : (g : Over) (c : After-lost g) → StepsOver c.args.program.now c.steps.heap c.further_step.new.heap true c.run_frame-count.new.running c.further_step.new.running
done g c = subst (λ (b : Bool). StepsOver c.args.program.now c.steps.heap c.further_step.new.heap b c.run_frame-count.new.running c.further_step.new.running) c.if-not-further_step.false c.further_step.ensures.steps

pub stamp_each-requires-clause-places : goal.stamp_each-requires-clause-places
stamp_each-requires-clause-places g c = λ o h.
    let at = goal.at.stamp_each-requires-clause-places g c in
    lost_places (behind_frames g at.After-run_frame-count) c.args.machine.now c.args.thread c.requires.sound c.requires.runnable c.requires.thread c.requires.turn c.events_lead_to_sound_states.ensures refl refl c.clock-e.ensures c.requires.clock c.requires.places c.further_step.new.heap c.further_step.new.running (done g at.After-lost) o (subst (λ (os : List ℕ). Contains os o) c.lost.ensures.value h)

pub steps-preserved : goal.steps-preserved
steps-preserved g c =
    let at = goal.at.steps-preserved g c in
    let so = behind_frames g at.After-run_frame-count in
    let listed : c.lost.result.now ≡ c.further_step.new.running.lost = c.lost.ensures.value in
    so_far_more so c.further_step.new.heap c.further_step.new.running c.stamp_each.new.stamps c.further_step.new.visits (done g at.After-lost) (omega (arith, so.few, c.if-count-most.false))
    (λ o h. c.stamp_each.ensures.each o (subst (λ (os : List ℕ). Contains os o) (sym listed) h))
    (λ o out. c.stamp_each.ensures.others o (λ h. out (subst (λ (os : List ℕ). Contains os o) listed h)))
    c.stamp_each.ensures.long c.further_step.ensures.visits

pub land-requires-clause-few : goal.land-requires-clause-few
land-requires-clause-few g c =
    let m : MachineState = c.args.machine.now in
    let same : c.if-count-most.running ≡ c.run_frame-count.new.running = elim c.if-count-most.branch [
      | then-count-most w ↦ w.running-is
      | else-count-most+then-not-further_step w ↦ w.running-is
          ∙ stopped c.args.program.now c.steps.heap w.further_step.new.heap w.further_step.result c.run_frame-count.new.running w.further_step.new.running w.if-not-further_step.true w.further_step.ensures.steps
    ] in
    few_below c.args.program.now m c.args.thread c.if-count-most.running.below (has_frame_there m.guest c.args.thread c.requires.turn) c.requires.sound
    (ap (λ (r : RunningState). r.below) same ∙ (c.run_frame-count.ensures.below ∙ c.steps.invariant.same_below))

pub returns-clause-visits : goal.returns-clause-visits
returns-clause-visits g c =
    let count : ℕ = c.steps.count + c.run_frame-count.result in
    let visited : c.steps.visits ≤ c.args.visits.now + 4 * count = omega (arith, c.steps.invariant.visits) in
    elim c.if-count-most.branch [
      | then-count-most w ↦ omega (arith, w.visits-is, visited)
      | else-count-most+then-not-further_step w ↦
          let few = few_visits count c.args.visits.now c.steps.visits w.further_step.new.visits visited w.further_step.ensures.visits w.further_step.ensures.unread in
          omega (arith, w.visits-is, few)
    ]

pub returns-clause-runs : goal.returns-clause-runs
returns-clause-runs g c =
    let p = c.args.program.now in
    let m : MachineState = c.args.machine.now in
    let t : ℕ = c.args.thread in
    let r : RunningState = c.run_frame-count.new.running in
    let count : ℕ = c.steps.count + c.run_frame-count.result in
    let so = behind_frames g (goal.at.returns-clause-runs g c).After-run_frame-count in
    let lifted_is : machine_in c.machine.inside ≡ lifted m t = c.machine.view_is ∙ c.lift-running.ensures.new in
    let changed : MachineState = record (lifted m t) { heap = c.steps.heap } in
    let there : machine_in c.if-count-most.machine-inside ≡ changed = elim c.if-count-most.branch [
      | then-count-most w ↦ ap machine_in w.machine-inside-is ∙ ap (λ (n : MachineState). let x : MachineState = record n { heap = c.steps.heap } in x) lifted_is
      | else-count-most+then-not-further_step w ↦ ap machine_in w.machine-inside-is ∙ (ap (λ (n : MachineState). let x : MachineState = record n { heap = w.further_step.new.heap } in x) lifted_is
          ∙ ap (λ (h : Objects). let x : MachineState = record (lifted m t) { heap = h } in x) (still_there p c.steps.heap w.further_step.new.heap w.further_step.result r w.further_step.new.running w.if-not-further_step.true w.further_step.ensures.steps))
    ] in
    let same : c.if-count-most.running ≡ r = elim c.if-count-most.branch [
      | then-count-most w ↦ w.running-is
      | else-count-most+then-not-further_step w ↦ w.running-is ∙ stopped p c.steps.heap w.further_step.new.heap w.further_step.result r w.further_step.new.running w.if-not-further_step.true w.further_step.ensures.steps
    ] in
    let landing : c.land.new.self ≡ landed changed t c.if-count-most.running = c.land.ensures ∙ ap (λ (n : MachineState). landed n t c.if-count-most.running) there in
    ran_over p m t c.if-count-most.running count c.steps.heap c.args.stamps.now c.run_frame-count.new.stamps changed c.land.new.self c.pass_events.new.self (has_frame_there m.guest t c.requires.turn)
    (ap (λ (x : RunningState). x.below) same ∙ so.same_below) refl landing c.pass_events.ensures
    (subst (λ (x : RunningState). AreStampedSteps p count m.guest.clock m.heap c.steps.heap (top m.guest t) x.frame c.args.stamps.now c.run_frame-count.new.stamps) (sym same)
    (subst (λ (e : ℕ). AreStampedSteps p count e m.heap c.steps.heap (top m.guest t) r.frame c.args.stamps.now c.run_frame-count.new.stamps) c.clock-e.ensures so.steps))
