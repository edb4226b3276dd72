use Rattle.std.proofs.Common.{◌≡◌, ℕ, List, Option, Some, None, refl, sym, subst}
use Rattle.std.specs.Prelude.{IsSome}
use Rattle.et_event.specs.Out.{OutRead, out_turn}
use Rattle.et_event.proofs.Beside.{out_answered}
use Rattle.et_state.specs.Answers.{SaysWhereDone}
use Rattle.et_state.specs.State.{kept_of}
use Rattle.et_strings.proofs.Answering.{says-nothing}
use Rattle.et_strings.proofs.Turns.{out-says-nothing}
use Rattle.et_strings.proofs.event.read_event.Goals as goal

there : (r : Option OutRead) → IsSome r → (x : OutRead) × (r ≡ Some x)
there None h = cc
there (Some x) h = (x, refl)

pub returns-clause-event : goal.returns-clause-event
returns-clause-event c = λ x.
    let read = there (out_turn c.args.program.now (kept_of c.args.machine.now) c.args.thread) c.requires.turn in
    out_answered c.args.program.now x c.args.machine.now c.out_event.new.machine c.args.thread read.0 c.in_ok-end.end c.args.out.now.records c.out_event.new.out c.has_no_texts.ensures read.1 (c.in_ok-end.ensures read.0 read.1)

pub returns-clause-said : goal.returns-clause-said
returns-clause-said c = λ x.
    subst (λ (b : List ℕ). SaysWhereDone c.in_ok-end.end b c.args.out.now.said.items c.args.out.now.said.items) (sym (out-says-nothing c.args.program.now c.args.machine.now x c.args.thread c.requires.turn)) (says-nothing c.in_ok-end.end c.args.out.now.said.items)
