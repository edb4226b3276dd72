-- What the family of a turn says of the turn.
use Rattle.std.proofs.Common.{◌≡◌, ℕ, Option, Some, None, Result, Ok, Err, refl, sym, ap, ◌∙◌}
use Rattle.et_code.specs.declared.instr.Instr.{Instr}
use Rattle.et_code.specs.declared.instr.CodeFault.{CodeFault}
use Rattle.et_program.specs.Entries.{Linked}
use Rattle.et_state.specs.declared.stage.Turn.{Turn}
use Rattle.et_state.specs.declared.stage.Turn.TheVariants.{Unwind, EndThread, Entry, Initialize, Instruction}
use Rattle.et_state.specs.Threads.{turn_of}
use Rattle.et_state.specs.State.{Kept}
use Rattle.et_state.specs.Words.{thread_at, top}
use Rattle.et_event.specs.declared.families.Family.TheVariants.{Ops, Refs, Throw}
use Rattle.et_event.specs.declared.rows.Row.{Row}
use Rattle.et_event.specs.declared.rows.Row.TheVariants as row
use Rattle.et_event.specs.Table.{row_of}
use Rattle.et_event.specs.Families.{family_of, family_of_row, family_of_turn, row_at}
use Rattle.et_event.specs.Event.{by_instruction, by_row, does_turn, event}
use Rattle.et_event.specs.Moments.{Moment, current_frame}
use Rattle.et_event.specs.Sites.{Site, decoded_at, site_of}
use Rattle.et_event.specs.Throw.{throw}

-- TURNS THAT ARE INSTRUCTIONS

ops_turn : (turn : Turn) (r : Option Row) → family_of_turn turn r ≡ Ops → turn ≡ Instruction
ops_turn Unwind r e = cc
ops_turn EndThread r e = cc
ops_turn Entry r e = cc
ops_turn Initialize r e = cc
ops_turn Instruction r e = refl

pub ops_instructs : (p : Linked) (s : Kept) (t : ℕ) → family_of p s t ≡ Ops → turn_of (thread_at s.guest t) ≡ Instruction
ops_instructs p s t e = ops_turn (turn_of (thread_at s.guest t)) (row_at (decoded_at p (top s.guest t))) e

refs_turn : (turn : Turn) (r : Option Row) → family_of_turn turn r ≡ Refs → turn ≡ Instruction
refs_turn Unwind r e = cc
refs_turn EndThread r e = cc
refs_turn Entry r e = cc
refs_turn Initialize r e = cc
refs_turn Instruction r e = refl

pub refs_instructs : (p : Linked) (s : Kept) (t : ℕ) → family_of p s t ≡ Refs → turn_of (thread_at s.guest t) ≡ Instruction
refs_instructs p s t e = refs_turn (turn_of (thread_at s.guest t)) (row_at (decoded_at p (top s.guest t))) e

-- THE FAMILY OF A TURN of which it is known which turn it is

pub family_at : (p : Linked) (s : Kept) (t : ℕ) (turn : Turn) → turn_of (thread_at s.guest t) ≡ turn → family_of p s t ≡ family_of_turn turn (row_at (decoded_at p (top s.guest t)))
family_at p s t turn e = ap (λ (x : Turn). family_of_turn x (row_at (decoded_at p (top s.guest t)))) e

-- .. an instruction is of the family of its row
pub family_here : (p : Linked) (s : Kept) (t : ℕ) (r : Option Row) → turn_of (thread_at s.guest t) ≡ Instruction → row_at (decoded_at p (top s.guest t)) ≡ r → family_of p s t ≡ family_of_row r
family_here p s t r turn row = family_at p s t Instruction turn ∙ ap (λ (x : Option Row). family_of_row x) row

-- AN INSTRUCTION OF THE FAMILY OF `athrow` is that

throw_row : (e : Moment) (at : Site) (r : Option Row) → family_of_row r ≡ Throw → by_row e at r ≡ throw e
throw_row e at None h = cc
throw_row e at (Some (row.Frame r)) h = cc
throw_row e at (Some row.PoolConstant) h = cc
throw_row e at (Some (row.Divide n o)) h = cc
throw_row e at (Some (row.Heap r)) h = cc
throw_row e at (Some (row.Call r)) h = cc
throw_row e at (Some row.Throw) h = refl
throw_row e at (Some (row.Monitor r)) h = cc

throw_decoded : (e : Moment) (d : Result (Instr × ℕ) CodeFault) → family_of_row (row_at d) ≡ Throw → by_instruction e d ≡ throw e
throw_decoded e (Err fault) h = cc
throw_decoded e (Ok x) h = throw_row e (site_of e.program (current_frame e) x) (row_of x.0.opcode) h

pub throws_here : (p : Linked) (s : Kept) (t : ℕ) → turn_of (thread_at s.guest t) ≡ Instruction → family_of p s t ≡ Throw → event p s t ≡ throw (record { program = p; before = s; thread = t })
unfolding event
throws_here p s t turn family =
    let e : Moment = record { program = p; before = s; thread = t } in
    ap (λ (x : Turn). does_turn e x) turn ∙ throw_decoded e (decoded_at p (top s.guest t)) (sym (family_at p s t Instruction turn) ∙ family)
