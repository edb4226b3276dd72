use Rattle.std.proofs.Common.{◌≡◌, ℕ, List, sym, ap, ◌∙◌}
use Rattle.std.specs.Int.{w8}
use Rattle.et_base.specs.Numbers.{number_at}
use Rattle.et_program.specs.Entries.{Linked}
use Rattle.et_program.specs.declared.info.MethodInfo.{MethodInfo}
use Rattle.et_state.specs.State.{kept_of}
use Rattle.et_state.specs.Threads.{FrameState}
use Rattle.et_state.specs.Words.{top}
use Rattle.et_event.specs.Sites.{code_of_frame, present_body, running_method}
use Rattle.et_event.proofs.Running.{runs_there}
use Rattle.et_run.proofs.TurnFamilies.{byte_family, end_family}
use Rattle.et_run.proofs.families.instruction_family.Goals as goal

pub method_of-requires-clause-runs : goal.method_of-requires-clause-runs
method_of-requires-clause-runs c = runs_there c.args.program.now (kept_of c.args.machine.now) c.args.thread c.requires.begins.sound c.requires.turn

-- the byte that was read is the one at the pc of the frame
read_there : (p : Linked) (f : FrameState) (method : MethodInfo) (code : List ℕ) (pc : ℕ) → method ≡ running_method p f → code ≡ (present_body method.code).code → pc ≡ f.pc
    → number_at w8 (code_of_frame p f).code f.pc ≡ number_at w8 code pc
read_there p f method code pc runs bytes at =
    sym (ap (λ (n : ℕ). number_at w8 code n) at ∙ ap (λ (xs : List ℕ). number_at w8 xs f.pc) (bytes ∙ ap (λ (m : MethodInfo). (present_body m.code).code) runs))

pub returns-in-Some : goal.returns-in-Some
returns-in-Some c =
    let p = c.args.program.now in
    let m = c.args.machine.now in
    let there = read_there p (top m.guest c.args.thread) c.method_of.result.now c.code_of-code.result.now c.pc.result c.method_of.ensures.method c.code_of-code.ensures.bytes c.pc.ensures in
    c.opcode_family.ensures ∙ sym (byte_family p (kept_of m) c.args.thread c.requires.begins.program c.requires.begins.sound c.requires.turn c.in-Some.opcode c.in-Some.field-0-1 (there ∙ (sym c.u8_at.ensures ∙ c.in-Some.is)))

pub returns-in-None : goal.returns-in-None
returns-in-None c =
    let p = c.args.program.now in
    let m = c.args.machine.now in
    let there = read_there p (top m.guest c.args.thread) c.method_of.result.now c.code_of-code.result.now c.pc.result c.method_of.ensures.method c.code_of-code.ensures.bytes c.pc.ensures in
    sym (end_family p (kept_of m) c.args.thread c.requires.begins.program c.requires.begins.sound c.requires.turn (there ∙ (sym c.u8_at.ensures ∙ c.in-None.is)))
