-- The events of a state with texts, by those of the state without them.
use Rattle.std.proofs.Common.{◌≡◌, ℕ, Option, Some, None, Result, Ok, Err, refl, sym, ap, subst, ◌∙◌}
use Rattle.std.specs.Prelude.{option_and_then, IsSome}
use Rattle.et_code.specs.declared.instr.Instr.{Instr}
use Rattle.et_code.specs.declared.instr.CodeFault.{CodeFault}
use Rattle.et_program.specs.Entries.{Linked}
use Rattle.et_state.specs.declared.stage.Turn.{Turn}
use Rattle.et_state.specs.declared.stage.Turn.TheVariants.{Unwind, EndThread, Entry, Initialize, Instruction}
use Rattle.et_state.specs.Threads.{turn_of}
use Rattle.et_state.specs.State.{Kept, MachineState, kept_of}
use Rattle.et_state.specs.Spoken.{spoken, silent}
use Rattle.et_state.specs.Texts.{Texts, no_texts}
use Rattle.et_event.specs.declared.rows.Row.{Row}
use Rattle.et_event.specs.declared.rows.Row.TheVariants as row
use Rattle.et_event.specs.Event.{event}
use Rattle.et_event.specs.Moments.{Moment, current_frame, thread_of}
use Rattle.et_event.specs.Out.{OutRead, out_at, out_by, out_in, out_row, out_turn}
use Rattle.et_event.specs.Selected.{text_call, text_call_at, text_call_by, text_call_in}
use Rattle.et_event.specs.Sites.{Site, decoded_at, site_of}
use Rattle.et_event.specs.Table.{row_of}
use Rattle.et_event.specs.Told.{keeping, by_out, by_text_call, event_with_texts}

pub spoken-silent : (s : Kept) → spoken s.guest.texts (silent s) ≡ s
spoken-silent s = refl

pub silent-spoken : (x : Texts) (s : Kept) → silent (spoken x s) ≡ silent s
silent-spoken x s = refl

pub kept-silent : (m : MachineState) → m.guest.texts ≡ no_texts → silent (kept_of m) ≡ kept_of m
kept-silent m none = ap (λ x. spoken x (kept_of m)) (sym none)

-- which call is made, and whether System.out is read, doesn't depend on texts
pub call-blind : (p : Linked) (x : Texts) (s : Kept) (t : ℕ) → text_call p (spoken x s) t ≡ text_call p s t
unfolding text_call
call-blind p x s t = refl

pub out-blind : (p : Linked) (x : Texts) (s : Kept) (t : ℕ) → out_turn p (spoken x s) t ≡ out_turn p s t
unfolding out_turn
out-blind p x s t = refl

-- an event that calls no method of texts and doesn't read System.out is that of the table
pub of-table : (p : Linked) (s : Kept) (t : ℕ) → text_call p s t ≡ None → out_turn p s t ≡ None → event_with_texts p s t ≡ keeping s.guest.texts (event p (silent s) t)
unfolding event_with_texts
of-table p s t none unread =
    let e : Moment = record { program = p; before = s; thread = t } in
    ap (by_text_call e) none ∙ ap (by_out e) unread

-- .. of a machine that stands beside its texts
pub beside-table : (p : Linked) (x : Texts) (m : MachineState) (t : ℕ) → m.guest.texts ≡ no_texts → text_call p (kept_of m) t ≡ None → out_turn p (kept_of m) t ≡ None
    → event_with_texts p (spoken x (kept_of m)) t ≡ keeping x (event p (kept_of m) t)
beside-table p x m t silent none unread =
    of-table p (spoken x (kept_of m)) t (call-blind p x (kept_of m) t ∙ none) (out-blind p x (kept_of m) t ∙ unread) ∙ ap (λ s. keeping x (event p s t)) (kept-silent m silent)

-- A TURN THAT READS System.out calls no method

row-calls-none : (e : Moment) (at : Site) (r : Option Row) → IsSome (option_and_then (out_at e at) r) → option_and_then (text_call_at e at) r ≡ None
row-calls-none e at None h = refl
row-calls-none e at (Some (row.Frame r)) h = refl
row-calls-none e at (Some row.PoolConstant) h = refl
row-calls-none e at (Some (row.Divide n o)) h = refl
row-calls-none e at (Some (row.Heap r)) h = refl
row-calls-none e at (Some (row.Call r)) h = cc
row-calls-none e at (Some row.Throw) h = refl
row-calls-none e at (Some (row.Monitor r)) h = refl

decoded-calls-none : (e : Moment) (d : Result (Instr × ℕ) CodeFault) → IsSome (out_by e d) → text_call_by e d ≡ None
decoded-calls-none e (Err fault) h = refl
decoded-calls-none e (Ok x) h = row-calls-none e (site_of e.program (current_frame e) x) (row_of x.0.opcode) h

turn-calls-none : (e : Moment) (turn : Turn) → IsSome (out_in e turn) → text_call_in e turn ≡ None
turn-calls-none e Unwind h = refl
turn-calls-none e EndThread h = refl
turn-calls-none e Entry h = refl
turn-calls-none e Initialize h = refl
turn-calls-none e Instruction h = decoded-calls-none e (decoded_at e.program (current_frame e)) h

pub out_no_call : (p : Linked) (s : Kept) (t : ℕ) → IsSome (out_turn p s t) → text_call p s t ≡ None
unfolding text_call out_turn
out_no_call p s t h =
    let e : Moment = record { program = p; before = s; thread = t } in
    turn-calls-none e (turn_of (thread_of e)) h

-- .. and its event is the row of that
pub of_out : (p : Linked) (s : Kept) (t : ℕ) (x : OutRead) → out_turn p s t ≡ Some x → event_with_texts p s t ≡ out_row (record { program = p; before = s; thread = t }) x
unfolding event_with_texts
of_out p s t x read =
    let e : Moment = record { program = p; before = s; thread = t } in
    ap (by_text_call e) (out_no_call p s t (subst (λ (o : Option OutRead). IsSome o) (sym read) refl)) ∙ ap (by_out e) read
