use Rattle.std.proofs.Common.{rules, arith, ◌≡◌, ◌+◌, length, ◌++◌, ◌∷◌, []}
use Rattle.et_state.specs.State.{kept_of}
use Rattle.et_event.specs.Moments.{Moment, moment}
use Rattle.et_refs.proofs.Descending.{level_there, room_there, descended, descended_fillings, one_more, room_few, level_made}
use Rattle.et_refs.proofs.arrays.filling.descend.Goals as goal

pub open_array-requires-clause-level : goal.open_array-requires-clause-level
open_array-requires-clause-level c =
    let at : c.len-level.result + 1 ≡ length c.args.stack.now.items + 1 = search rules in
    level_there c.args.machine.now.heap c.args.lengths.now c.args.stack.now.items c.args.top (c.len-level.result + 1) c.requires.fillings c.requires.more at

pub open_array-requires-clause-room : goal.open_array-requires-clause-room
open_array-requires-clause-room c =
    let at : c.len-level.result + 1 ≡ length c.args.stack.now.items + 1 = search rules in
    let e = moment c.args.program.now c.args.machine.now c.args.thread in
    room_there e c.args.machine.now c.args.out.now c.args.lengths.now c.args.stack.now.items c.args.top (c.len-level.result + 1) c.requires.fillings c.requires.more at (c.requires.fits (kept_of c.args.machine.now))

pub returns-clause-same : goal.returns-clause-same
returns-clause-same c =
    let at : c.len-level.result + 1 ≡ length c.args.stack.now.items + 1 = search rules in
    let inside = level_there c.args.machine.now.heap c.args.lengths.now c.args.stack.now.items c.args.top (c.len-level.result + 1) c.requires.fillings c.requires.more at in
    let pushes : c.push.new.self.items ≡ c.args.stack.now.items ++ c.args.top ∷ [] = c.in_ok-push.ensures.items in
    λ b.
    let e : Moment = record { program = c.args.program.now; before = b; thread = c.args.thread } in
    descended e c.args.lengths.now c.args.stack.now.items c.push.new.self.items c.args.top c.in_ok-last.last (c.len-level.result + 1) c.args.machine.now c.open_array.new.machine c.args.out.now c.open_array.new.out c.requires.more at inside pushes (c.in_ok-last.ensures.filling b) c.in_ok-last.ensures.made

pub returns-clause-fillings : goal.returns-clause-fillings
returns-clause-fillings c =
    let at : c.len-level.result + 1 ≡ length c.args.stack.now.items + 1 = search rules in
    let pushes : c.push.new.self.items ≡ c.args.stack.now.items ++ c.args.top ∷ [] = c.in_ok-push.ensures.items in
    let e = moment c.args.program.now c.args.machine.now c.args.thread in
    descended_fillings e c.args.lengths.now c.args.stack.now.items c.push.new.self.items c.args.top c.in_ok-last.last (c.len-level.result + 1) c.args.machine.now c.open_array.new.machine c.args.out.now c.open_array.new.out
    c.requires.fillings c.requires.more at pushes (c.in_ok-last.ensures.filling (kept_of c.args.machine.now)) c.in_ok-last.ensures.made

pub returns-clause-few : goal.returns-clause-few
returns-clause-few c =
    let at : c.len-level.result + 1 ≡ length c.args.stack.now.items + 1 = search rules in
    let e = moment c.args.program.now c.args.machine.now c.args.thread in
    let room = room_there e c.args.machine.now c.args.out.now c.args.lengths.now c.args.stack.now.items c.args.top (c.len-level.result + 1) c.requires.fillings c.requires.more at (c.requires.fits (kept_of c.args.machine.now)) in
    room_few c.args.machine.now.heap c.open_array.new.machine.heap _ room (one_more e c.args.top.inner _ c.args.machine.now c.open_array.new.machine c.args.out.now c.open_array.new.out c.in_ok-last.ensures.made)

-- whatever it answered, one array at most was made, and there is one more in the end
pub returns-in_err-last-clause-most : goal.returns-in_err-last-clause-most
returns-in_err-last-clause-most c =
    let at : c.len-level.result + 1 ≡ length c.args.stack.now.items + 1 = search rules in
    let one = c.in_err-last.ensures.one in
    λ b.
    let more = level_made (record { program = c.args.program.now; before = b; thread = c.args.thread }) c.args.machine.now c.args.out.now c.args.lengths.now c.args.stack.now.items c.args.top (c.len-level.result + 1) c.requires.fillings c.requires.more at in
    omega (arith, one, more)

pub returns-in_err-push-clause-most : goal.returns-in_err-push-clause-most
returns-in_err-push-clause-most c =
    let at : c.len-level.result + 1 ≡ length c.args.stack.now.items + 1 = search rules in
    let one = c.in_ok-last.ensures.one in
    λ b.
    let more = level_made (record { program = c.args.program.now; before = b; thread = c.args.thread }) c.args.machine.now c.args.out.now c.args.lengths.now c.args.stack.now.items c.args.top (c.len-level.result + 1) c.requires.fillings c.requires.more at in
    omega (arith, one, more)

pub returns-clause-most : goal.returns-clause-most
returns-clause-most c =
    let at : c.len-level.result + 1 ≡ length c.args.stack.now.items + 1 = search rules in
    let one = c.in_ok-last.ensures.one in
    λ b.
    let more = level_made (record { program = c.args.program.now; before = b; thread = c.args.thread }) c.args.machine.now c.args.out.now c.args.lengths.now c.args.stack.now.items c.args.top (c.len-level.result + 1) c.requires.fillings c.requires.more at in
    omega (arith, one, more)
