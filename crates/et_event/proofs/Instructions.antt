-- A turn in which an instruction is done.
use Rattle.std.proofs.Common.{◌≡◌, ℕ, Option, Some, None, ap, ◌∙◌}
use Rattle.std.specs.Prelude.{Result, Ok, Err}
use Rattle.et_code.specs.declared.instr.Instr.{Instr}
use Rattle.et_code.specs.declared.instr.CodeFault.{CodeFault}
use Rattle.et_program.specs.Entries.{Linked}
use Rattle.et_state.specs.declared.stage.Turn.{Turn}
use Rattle.et_state.specs.declared.stage.Turn.TheVariants as turns
use Rattle.et_state.specs.Threads.{turn_of}
use Rattle.et_state.specs.State.{Kept}
use Rattle.et_state.specs.Words.{thread_at, top}
use Rattle.et_event.specs.declared.rows.Row.{Row}
use Rattle.et_event.specs.Event.{event, does, does_turn, by_instruction, by_row}
use Rattle.et_event.specs.Moments.{ill_typed}
use Rattle.et_event.specs.Sites.{decoded_at, site_of}
use Rattle.et_event.specs.Table.{row_of}
use Rattle.et_event.proofs.SiteAnswers.{moment}

pub by_turn : (p : Linked) (s : Kept) (t : ℕ) → turn_of (thread_at s.guest t) ≡ turns.Instruction → event p s t ≡ by_instruction (moment p s t) (decoded_at p (top s.guest t))
unfolding event
by_turn p s t e = ap (λ (turn : Turn). does_turn (moment p s t) turn) e

pub with_row : (p : Linked) (s : Kept) (t : ℕ) (x : Instr × ℕ) (r : Row) → turn_of (thread_at s.guest t) ≡ turns.Instruction
    → decoded_at p (top s.guest t) ≡ Ok x → row_of x.0.opcode ≡ Some r → event p s t ≡ does (moment p s t) (site_of p (top s.guest t) x) r
with_row p s t x r turn decoded row =
    by_turn p s t turn
    ∙ (ap (λ (d : Result (Instr × ℕ) CodeFault). by_instruction (moment p s t) d) decoded
    ∙ ap (λ (o : Option Row). by_row (moment p s t) (site_of p (top s.guest t) x) o) row)

pub without_row : (p : Linked) (s : Kept) (t : ℕ) (x : Instr × ℕ) → turn_of (thread_at s.guest t) ≡ turns.Instruction
    → decoded_at p (top s.guest t) ≡ Ok x → row_of x.0.opcode ≡ None → event p s t ≡ ill_typed (moment p s t)
without_row p s t x turn decoded row =
    by_turn p s t turn
    ∙ (ap (λ (d : Result (Instr × ℕ) CodeFault). by_instruction (moment p s t) d) decoded
    ∙ ap (λ (o : Option Row). by_row (moment p s t) (site_of p (top s.guest t) x) o) row)

pub at_end : (p : Linked) (s : Kept) (t : ℕ) (fault : CodeFault) → turn_of (thread_at s.guest t) ≡ turns.Instruction
    → decoded_at p (top s.guest t) ≡ Err fault → event p s t ≡ ill_typed (moment p s t)
at_end p s t fault turn decoded = by_turn p s t turn ∙ ap (λ (d : Result (Instr × ℕ) CodeFault). by_instruction (moment p s t) d) decoded
