use Rattle.std.proofs.Common.{◌≡◌, ℕ, List, sym, ap, ◌∙◌, rules}
use Rattle.std.specs.Prelude.{Ok}
use Rattle.et_code.specs.Decoding.{instruction_at}
use Rattle.et_event.specs.Sites.{code_of_frame, present_body}
use Rattle.et_program.specs.declared.info.MethodInfo.{MethodInfo}
use Rattle.et_run.proofs.lifted.further_step.Goals as goal

pub heap_step-requires-clause-method : goal.heap_step-requires-clause-method
heap_step-requires-clause-method g c = ap (λ (m : MethodInfo). m.class) c.requires.method

pub heap_step-requires-clause-there : goal.heap_step-requires-clause-there
heap_step-requires-clause-there g c =
    let found : c.decode.result ≡ Ok c.in-Ok.decoded = search rules in
    let own : c.args.code.now ≡ (code_of_frame c.args.program.now c.args.running.now.frame).code = c.requires.code ∙ ap (λ (m : MethodInfo). (present_body m.code).code) c.requires.method in
    ap (λ (bytes : List ℕ). instruction_at bytes c.args.running.now.frame.pc) (sym own)
    ∙ (ap (λ (n : ℕ). instruction_at c.args.code.now n) (sym c.pc-pc.ensures) ∙ (sym c.decode.ensures.decoded ∙ found))
