use Rattle.std.proofs.Common.{rules, ◌≡◌, Err, sym, ◌∙◌, ap, subst}
use Rattle.std.specs.Prelude.{Bool}
use Rattle.et_heap.specs.Objects.{Objects, object_at}
use Rattle.et_state.specs.State.{MachineState, kept_of}
use Rattle.et_program.specs.Types.{passes}
use Rattle.et_event.specs.Checks.{Reference}
use Rattle.et_event.specs.Moments.{moment}
use Rattle.et_refs.specs.Changes.{put_outcome}
use Rattle.et_refs.specs.Reads.{IsSoundHeap}
use Rattle.et_refs.specs.TypeTests.{left_by, tested}
use Rattle.et_refs.proofs.Chains.{refusing, object_tested, tests_null, tests_object}
use Rattle.et_refs.proofs.Lifting.{sound_heap}
use Rattle.et_refs.proofs.types.casts.tested.Goals as goal

pub passes-holds-requires-clause-sound : goal.passes-holds-requires-clause-sound
passes-holds-requires-clause-sound g c =
    let whole : c.machine.inside.heap ≡ c.args.machine.now.heap = ap (λ (m : MachineState). m.heap) c.machine.view_is in
    subst (λ (h : Objects). IsSoundHeap c.args.program.now h) (sym whole) (sound_heap c.args.program.now (kept_of c.args.machine.now) c.requires.sound)

pub returns-in_err-class-in-Some-clause-is : goal.returns-in_err-class-in-Some-clause-is
returns-in_err-class-in-Some-clause-is g c =
    let e = moment c.args.program.now c.args.machine.now c.args.thread in
    let test = c.args.test in
    let name = c.args.named.now.name.now in
    let same : c.from_residual.result ≡ Err c.in_err-class-in-Some.field-0.0 = search rules in
    λ at below. refusing e _ _ c.in_err-class-in-Some.field-0.0 (put_outcome e at below)
    (ap (λ (r : Reference). tested test e at name below r) c.in-Some.is ∙ (object_tested test e at name below c.in-Some.object ∙ c.in_err-class-in-Some.ensures.is (kept_of c.args.machine.now) c.args.thread (tests_object test e at below c.in-Some.object))) same

pub returns-in_ok-class-in-Some-clause-is : goal.returns-in_ok-class-in-Some-clause-is
returns-in_ok-class-in-Some-clause-is g c =
    let e = moment c.args.program.now c.args.machine.now c.args.thread in
    let test = c.args.test in
    let name = c.args.named.now.name.now in
    let o = c.in-Some.object in
    let holds : passes c.args.program.now (object_at c.args.machine.now.heap o).class c.in_ok-class-in-Some.class ≡ c.passes-holds.result = search rules in
    λ at below. ap (λ (r : Reference). tested test e at name below r) c.in-Some.is
    ∙ (object_tested test e at name below o ∙ (c.in_ok-class-in-Some.ensures.is (kept_of c.args.machine.now) c.args.thread (tests_object test e at below o)
    ∙ (ap (λ (b : Bool). left_by test e at below o b) holds ∙ c.tested_object.ensures.is e at below)))

pub returns-in-None-clause-is : goal.returns-in-None-clause-is
returns-in-None-clause-is g c =
    let e = moment c.args.program.now c.args.machine.now c.args.thread in
    let test = c.args.test in
    let name = c.args.named.now.name.now in
    λ at below. ap (λ (r : Reference). tested test e at name below r) c.in-None.is ∙ (tests_null test e at name below ∙ ap (put_outcome e at below) (sym c.tested_null.ensures))
