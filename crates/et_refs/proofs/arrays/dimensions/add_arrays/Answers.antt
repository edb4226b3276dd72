use Rattle.std.proofs.Common.{◌∙◌, refl, ap, length, sym}
use Rattle.et_state.specs.State.{MachineState, kept_of}
use Rattle.et_event.specs.Moments.{moment, begins}
use Rattle.et_refs.proofs.Adding.{came_by, frame_came, deep_came, room_came, arrays_answer, arrays_visited}
use Rattle.et_refs.proofs.arrays.dimensions.add_arrays.Goals as goal

pub replace_top-requires-clause-frame : goal.replace_top-requires-clause-frame
replace_top-requires-clause-frame g c =
    let m = c.args.machine.now in
    let came = came_by c.args.program.now m c.begin_event.new.self c.make_arrays.new.machine c.args.thread c.args.arrays.now.class c.args.arrays.now.lengths.now c.args.out.now c.make_arrays.new.out c.requires.step.sound c.requires.some c.begin_event.ensures c.in_ok-array.ensures.made c.in_ok-array.ensures.lost in
    frame_came m c.make_arrays.new.machine c.args.thread came.guest c.requires.step.frame

pub replace_top-requires-clause-operands : goal.replace_top-requires-clause-operands
replace_top-requires-clause-operands g c =
    let m = c.args.machine.now in
    let came = came_by c.args.program.now m c.begin_event.new.self c.make_arrays.new.machine c.args.thread c.args.arrays.now.class c.args.arrays.now.lengths.now c.args.out.now c.make_arrays.new.out c.requires.step.sound c.requires.some c.begin_event.ensures c.in_ok-array.ensures.made c.in_ok-array.ensures.lost in
    deep_came m c.make_arrays.new.machine c.args.thread (length c.args.arrays.now.lengths.now) (length c.args.arrays.now.lengths.now) came.guest refl c.requires.deep

pub replace_top-requires-clause-room : goal.replace_top-requires-clause-room
replace_top-requires-clause-room g c =
    let m = c.args.machine.now in
    let came = came_by c.args.program.now m c.begin_event.new.self c.make_arrays.new.machine c.args.thread c.args.arrays.now.class c.args.arrays.now.lengths.now c.args.out.now c.make_arrays.new.out c.requires.step.sound c.requires.some c.begin_event.ensures c.in_ok-array.ensures.made c.in_ok-array.ensures.lost in
    room_came m c.make_arrays.new.machine c.args.thread (length c.args.arrays.now.lengths.now) (length c.args.arrays.now.lengths.now) came.guest refl c.requires.deep c.requires.some c.depth-depth.ensures.few

pub returns-clause-ok : goal.returns-clause-ok
returns-clause-ok g c =
    let p = c.args.program.now in
    let m = c.args.machine.now in
    let t = c.args.thread in
    let e = moment p m t in
    let came = came_by p m c.begin_event.new.self c.make_arrays.new.machine t c.args.arrays.now.class c.args.arrays.now.lengths.now c.args.out.now c.make_arrays.new.out c.requires.step.sound c.requires.some c.begin_event.ensures c.in_ok-array.ensures.made c.in_ok-array.ensures.lost in
    arrays_answer p t c.args.arrays.now.class (length c.args.arrays.now.lengths.now) c.in_ok-array.array c.args.arrays.now.next c.args.arrays.now.lengths.now m c.make_arrays.new.machine c.replace_top.new.machine c.args.out.now c.make_arrays.new.out c.requires.step.sound c.requires.step.frame came
    (sym (c.arrays_fit.ensures e c.args.arrays.now.class (begins e) refl) ∙ c.if-not-arrays_fit.false) refl
    (c.in_ok-array.ensures.first ∙ ap (λ (z : MachineState). length z.heap) c.begin_event.ensures) c.replace_top.ensures

pub returns-in_err-array-clause-visits : goal.returns-in_err-array-clause-visits
returns-in_err-array-clause-visits g c =
    let m = c.args.machine.now in
    let e = moment c.args.program.now m c.args.thread in
    arrays_visited c.args.program.now c.args.thread c.args.arrays.now.class c.args.arrays.now.next c.args.arrays.now.lengths.now _ m c.begin_event.new.self c.make_arrays.new.machine c.args.out.now c.args.visits.now c.make_arrays.new.visits c.begin_event.ensures
    (sym (c.arrays_fit.ensures e c.args.arrays.now.class (begins e) refl) ∙ c.if-not-arrays_fit.false) c.in_err-array.ensures.visits (c.in_err-array.ensures.most (kept_of m))

pub returns-clause-visits : goal.returns-clause-visits
returns-clause-visits g c =
    let m = c.args.machine.now in
    let e = moment c.args.program.now m c.args.thread in
    arrays_visited c.args.program.now c.args.thread c.args.arrays.now.class c.args.arrays.now.next c.args.arrays.now.lengths.now _ m c.begin_event.new.self c.make_arrays.new.machine c.args.out.now c.args.visits.now c.make_arrays.new.visits c.begin_event.ensures
    (sym (c.arrays_fit.ensures e c.args.arrays.now.class (begins e) refl) ∙ c.if-not-arrays_fit.false) c.in_ok-array.ensures.visits (c.in_ok-array.ensures.most (kept_of m))
