-- Which turns read System.out.
use Rattle.std.proofs.Common.{◌≡◌, ℕ, Option, Some, None, Result, Ok, Err, refl, ap, ◌∙◌}
use Rattle.std.specs.Prelude.{option_and_then, IsSome}
use Rattle.et_code.specs.declared.instr.Instr.{Instr}
use Rattle.et_code.specs.declared.instr.CodeFault.{CodeFault}
use Rattle.et_program.specs.Entries.{Linked}
use Rattle.et_state.specs.declared.stage.Turn.{Turn}
use Rattle.et_state.specs.declared.stage.Turn.TheVariants.{Unwind, EndThread, Entry, Initialize, Instruction}
use Rattle.et_state.specs.Threads.{turn_of}
use Rattle.et_state.specs.State.{Kept}
use Rattle.et_state.specs.Words.{thread_at, top}
use Rattle.et_event.specs.declared.families.Family.TheVariants.{Refs}
use Rattle.et_event.specs.declared.rows.Row.{Row}
use Rattle.et_event.specs.declared.rows.Row.TheVariants as row
use Rattle.et_event.specs.Families.{family_of, family_of_row, family_of_turn, row_at}
use Rattle.et_event.specs.Moments.{Moment, current_frame}
use Rattle.et_event.specs.Out.{out_at, out_by, out_in, out_turn}
use Rattle.et_event.specs.Sites.{Site, decoded_at, site_of}
use Rattle.et_event.specs.Table.{row_of}

pub out_at_turn : (p : Linked) (s : Kept) (t : ℕ) (turn : Turn) → turn_of (thread_at s.guest t) ≡ turn → out_turn p s t ≡ out_in (record { program = p; before = s; thread = t }) turn
unfolding out_turn
out_at_turn p s t turn is = ap (λ (x : Turn). out_in (record { program = p; before = s; thread = t }) x) is

-- .. an instruction
in_instruction : (e : Moment) (turn : Turn) → IsSome (out_in e turn) → turn ≡ Instruction
in_instruction e Unwind h = cc
in_instruction e EndThread h = cc
in_instruction e Entry h = cc
in_instruction e Initialize h = cc
in_instruction e Instruction h = refl

pub out_instructs : (p : Linked) (s : Kept) (t : ℕ) → IsSome (out_turn p s t) → turn_of (thread_at s.guest t) ≡ Instruction
unfolding out_turn
out_instructs p s t h = in_instruction (record { program = p; before = s; thread = t }) (turn_of (thread_at s.guest t)) h

-- .. that has a row
no_row : (e : Moment) (d : Result (Instr × ℕ) CodeFault) → row_at d ≡ None → out_by e d ≡ None
no_row e (Err fault) none = refl
no_row e (Ok x) none = ap (λ (r : Option Row). option_and_then (out_at e (site_of e.program (current_frame e) x)) r) none

pub out_at_no_row : (p : Linked) (s : Kept) (t : ℕ) → turn_of (thread_at s.guest t) ≡ Instruction → row_at (decoded_at p (top s.guest t)) ≡ None → out_turn p s t ≡ None
out_at_no_row p s t turn none =
    let e : Moment = record { program = p; before = s; thread = t } in
    out_at_turn p s t Instruction turn ∙ no_row e (decoded_at p (top s.guest t)) none

-- .. on fields, arrays and classes
row_family : (e : Moment) (at : Site) (r : Option Row) → IsSome (option_and_then (out_at e at) r) → family_of_row r ≡ Refs
row_family e at None h = cc
row_family e at (Some (row.Frame r)) h = cc
row_family e at (Some row.PoolConstant) h = cc
row_family e at (Some (row.Divide n o)) h = cc
row_family e at (Some (row.Heap r)) h = refl
row_family e at (Some (row.Call r)) h = cc
row_family e at (Some row.Throw) h = cc
row_family e at (Some (row.Monitor r)) h = cc

decoded_family : (e : Moment) (d : Result (Instr × ℕ) CodeFault) → IsSome (out_by e d) → family_of_row (row_at d) ≡ Refs
decoded_family e (Err fault) h = cc
decoded_family e (Ok x) h = row_family e (site_of e.program (current_frame e) x) (row_of x.0.opcode) h

turn_family : (e : Moment) (turn : Turn) → IsSome (out_in e turn) → family_of_turn turn (row_at (decoded_at e.program (current_frame e))) ≡ Refs
turn_family e Unwind h = cc
turn_family e EndThread h = cc
turn_family e Entry h = cc
turn_family e Initialize h = cc
turn_family e Instruction h = decoded_family e (decoded_at e.program (current_frame e)) h

pub out_family : (p : Linked) (s : Kept) (t : ℕ) → IsSome (out_turn p s t) → family_of p s t ≡ Refs
unfolding out_turn
out_family p s t h = turn_family (record { program = p; before = s; thread = t }) (turn_of (thread_at s.guest t)) h
