use Rattle.std.proofs.Common.{◌≡◌, ◌-◌, ◌<◌, length, take, reverse, set, refl, ap, ◌∙◌, arith}
use Rattle.std.specs.Prelude.{◌∷◌}
use Rattle.et_state.specs.Running.{RunningState}
use Rattle.et_state.specs.StackInside.{frames_in}
use Rattle.et_state.specs.Threads.{first_frame, rest_of, at_pc}
use Rattle.et_state.proofs.Stacks.{Keeps, keeps_pc}
use Rattle.et_state.proofs.Runs.{some_frames}
use Rattle.et_state.proofs.frames.frame_stack.FrameStack.land.Goals as goal

keeps : (c : goal.After-heads-4-1) → Keeps (set c.running.inside.heads.items (c.len-last.result - 1) (record c.index-head.result.now { pc = c.running.inside.pc })) c.running.inside.values.items c.running.inside.top (c.args.running.frame ∷ c.args.running.below)
keeps c =
    let hs = c.running.inside.heads.items in
    let vs = c.running.inside.values.items in
    let n = c.running.inside.top in
    let last : c.len-last.result - 1 ≡ length hs - 1 = omega (arith, c.len-last.ensures) in
    let some : 0 < length (frames_in (reverse hs) (take n vs)) = some_frames hs c.running.invariant.below (take n vs) c.running.invariant.head c.running.invariant.heads in
    let k : Keeps (set hs (c.len-last.result - 1) (record c.index-head.result.now { pc = c.running.inside.pc })) vs n (at_pc c.running.inside.pc (first_frame (frames_in (reverse hs) (take n vs))) ∷ rest_of (frames_in (reverse hs) (take n vs))) = keeps_pc hs vs n (frames_in (reverse hs) (take n vs)) c.index-head.result.now (c.len-last.result - 1) c.running.inside.pc refl c.running.invariant.stacked some last c.index-head.ensures in
    record { stands = k.stands; view = k.view ∙ ap (λ (r : RunningState). r.frame ∷ r.below) c.running.view_is }

pub invariant_of-result : goal.invariant_of-result
invariant_of-result c = (keeps c).stands

pub returns : goal.returns
returns c = (keeps c).view
