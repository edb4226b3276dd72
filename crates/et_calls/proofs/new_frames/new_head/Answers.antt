use Rattle.std.proofs.Common.{◌≡◌, ℕ, Option, None, ◌∙◌, ap}
use Rattle.std.specs.Prelude.{nat_le, if◌then◌else◌}
use Rattle.et_class.specs.Names.{has}
use Rattle.et_class.specs.declared.flags.TheConstants.{SYNCHRONIZED}
use Rattle.et_code.specs.Bodies.{Body}
use Rattle.et_state.specs.Threads.{locals_with}
use Rattle.et_program.specs.Entries.{method_at}
use Rattle.et_program.specs.declared.info.MethodInfo.{MethodInfo}
use Rattle.et_event.specs.Frames.{lock_slot}
use Rattle.et_calls.proofs.NewFrames.{frame_built, locals_same}
use Rattle.et_calls.proofs.new_frames.new_head.Goals as goal

pub returns-clause-frame : goal.returns-clause-frame
returns-clause-frame c = λ p vs is receiver count.
    let body = c.args.entered.now.code.now in
    let lock : c.lock_slot.result ≡ lock_slot p c.args.entered.now.method vs =
    c.lock_slot.ensures
    ∙ (ap (λ (i : MethodInfo). if has i.flags SYNCHRONIZED then c.args.receiver.now else None) is
    ∙ ap (λ (r : Option ℕ). if has (method_at p c.args.entered.now.method).flags SYNCHRONIZED then r else None) receiver) in
    let room : c.raw-body.result.now.max_stack ≡ body.max_stack = ap (λ (b : Body). b.max_stack) c.raw-body.ensures.items in
    let most : c.raw-body.result.now.max_locals ≡ body.max_locals = ap (λ (b : Body). b.max_locals) c.raw-body.ensures.items in
    let locals : locals_with c.locals_for.result vs ≡ locals_with body.max_locals vs =
    ap (λ (n : ℕ). locals_with n vs) (c.locals_for.ensures.value ∙ ap (λ (n : ℕ). if nat_le c.args.count n then n else c.args.count) most)
    ∙ locals_same body.max_locals c.args.count vs count in
    frame_built p c.args.entered.now.method c.raw-body.result.now.max_stack body c.lock_slot.result (locals_with c.locals_for.result vs) vs lock room locals
