-- The turns of the event call of texts: a call of a method of texts, or the reading of System.out.
use Rattle.std.proofs.Common.{◌≡◌, ℕ, [], Option, Some, None, Result, Ok, Err, inl, inr, refl, sym, ap, subst, ◌∙◌}
use Rattle.std.specs.Option.{option_map_or}
use Rattle.std.specs.Prelude.{◌⊎◌, option_and_then, IsSome}
use Rattle.et_refs.proofs.OutPlaces.{out_at_place}
use Rattle.et_code.specs.declared.instr.Instr.{Instr}
use Rattle.et_code.specs.declared.instr.CodeFault.{CodeFault}
use Rattle.et_event.specs.Calls.{arguments_of}
use Rattle.et_event.specs.Families.{row_at}
use Rattle.et_event.specs.Frames.{first_reference}
use Rattle.et_event.specs.Moments.{Moment, current_frame, moment}
use Rattle.et_event.specs.Out.{OutRead, out_at, out_turn}
use Rattle.et_event.specs.Selected.{TextCall, text_call, text_call_at, text_call_by, text_call_in}
use Rattle.et_event.specs.Sites.{Site, decoded_at, site_of}
use Rattle.et_event.specs.TextRows.{said_in, text_row}
use Rattle.et_event.specs.Told.{by_text_call, event_with_texts, said_by}
use Rattle.et_event.specs.declared.rows.CallKind.{CallKind}
use Rattle.et_event.specs.declared.rows.CallRow.TheVariants.{Invoke}
use Rattle.et_event.specs.declared.rows.Row.{Row}
use Rattle.et_event.specs.declared.rows.Row.TheVariants as row
use Rattle.et_event.proofs.OutTurns.{out_at_no_row, out_instructs}
use Rattle.et_event.proofs.Told.{call-blind, out_no_call}
use Rattle.et_event.specs.Places.{IsPlace}
use Rattle.et_event.specs.declared.places.Place.{Place}
use Rattle.et_program.specs.Entries.{Linked}
use Rattle.et_state.specs.Spoken.{spoken}
use Rattle.et_state.specs.State.{Kept, MachineState, kept_of}
use Rattle.et_state.specs.Texts.{Texts}
use Rattle.et_state.specs.Threads.{turn_of}
use Rattle.et_state.specs.Words.{thread_at, top}
use Rattle.et_state.specs.declared.stage.Turn.{Turn}
use Rattle.et_state.specs.declared.stage.Turn.TheVariants.{Unwind, EndThread, Entry, Initialize, Instruction}
use Rattle.et_strings.specs.Calls.{call_made, text_moment}
use Rattle.et_strings.specs.declared.calls.TextCalled.{TextCalled}
use Rattle.et_strings.proofs.Calling.{none_there}

abbrev pub IsTurn : Linked → Kept → ℕ → Type 0
IsTurn p s t = IsSome (text_call p s t) ⊎ IsSome (out_turn p s t)

-- AN INSTRUCTION

in_instruction : (e : Moment) (turn : Turn) → IsSome (text_call_in e turn) → turn ≡ Instruction
in_instruction e Unwind h = cc
in_instruction e EndThread h = cc
in_instruction e Entry h = cc
in_instruction e Initialize h = cc
in_instruction e Instruction h = refl

text_instructs : (p : Linked) (s : Kept) (t : ℕ) → IsSome (text_call p s t) → turn_of (thread_at s.guest t) ≡ Instruction
unfolding text_call
text_instructs p s t h = in_instruction (record { program = p; before = s; thread = t }) (turn_of (thread_at s.guest t)) h

pub instructs : (p : Linked) (s : Kept) (t : ℕ) → IsTurn p s t → turn_of (thread_at s.guest t) ≡ Instruction
instructs p s t (inl call) = text_instructs p s t call
instructs p s t (inr read) = out_instructs p s t read

text_at_turn : (p : Linked) (s : Kept) (t : ℕ) (turn : Turn) → turn_of (thread_at s.guest t) ≡ turn → text_call p s t ≡ text_call_in (record { program = p; before = s; thread = t }) turn
unfolding text_call
text_at_turn p s t turn is = ap (λ (x : Turn). text_call_in (record { program = p; before = s; thread = t }) x) is

-- .. that has a row

no_row : (e : Moment) (d : Result (Instr × ℕ) CodeFault) → row_at d ≡ None → text_call_by e d ≡ None
no_row e (Err fault) none = refl
no_row e (Ok x) none = ap (λ (r : Option Row). option_and_then (text_call_at e (site_of e.program (current_frame e) x)) r) none

pub no_place : (p : Linked) (m : MachineState) (t : ℕ) → row_at (decoded_at p (top m.guest t)) ≡ None → IsTurn p (kept_of m) t → ⊥
no_place p m t none (inl call) =
    none_there (text_call p (kept_of m) t) (text_at_turn p (kept_of m) t Instruction (text_instructs p (kept_of m) t call) ∙ no_row (moment p m t) (decoded_at p (top m.guest t)) none) call
no_place p m t none (inr read) = none_there (out_turn p (kept_of m) t) (out_at_no_row p (kept_of m) t (out_instructs p (kept_of m) t read) none) read

-- .. at a place

pub text_at_place : (p : Linked) (m : MachineState) (t : ℕ) (place : Place) → turn_of (thread_at m.guest t) ≡ Instruction → IsPlace p (top m.guest t) place → text_call p (kept_of m) t ≡ text_call_at (moment p m t) place.site place.row
text_at_place p m t place turn is =
    let e : Moment = moment p m t in
    text_at_turn p (kept_of m) t Instruction turn
    ∙ (ap (λ (d : Result (Instr × ℕ) CodeFault). text_call_by e d) is.decoded
    ∙ (ap (λ (r : Option Row). option_and_then (text_call_at e (site_of p (current_frame e) (place.site.instr, place.site.next))) r) is.row
    ∙ ap (λ (at : Site). text_call_at e at place.row) (sym is.site)))

-- THE ROW

abbrev pub IsRow : Moment → Site → Row → Type 0
IsRow e at r = IsSome (text_call_at e at r) ⊎ IsSome (out_at e at r)

pub at_row : (p : Linked) (m : MachineState) (t : ℕ) (place : Place) → IsPlace p (top m.guest t) place → IsTurn p (kept_of m) t → IsRow (moment p m t) place.site place.row
at_row p m t place is (inl call) = inl (subst (λ (r : Option TextCall). IsSome r) (text_at_place p m t place (text_instructs p (kept_of m) t call) is) call)
at_row p m t place is (inr read) = inr (subst (λ (r : Option OutRead). IsSome r) (out_at_place p m t place (out_instructs p (kept_of m) t read) is) read)

invoked : (e : Moment) (at : Site) (kind : CallKind) → IsRow e at (row.Call (Invoke kind)) → IsSome (text_call_at e at (row.Call (Invoke kind)))
invoked e at kind (inl call) = call
invoked e at kind (inr read) = cc

pub invoke_calls : (e : Moment) (at : Site) (r : Row) (kind : CallKind) → r ≡ row.Call (Invoke kind) → IsRow e at r → IsSome (text_call_at e at (row.Call (Invoke kind)))
invoke_calls e at r kind named h = invoked e at kind (subst (λ (q : Row). IsRow e at q) named h)

pub no_call_reads : (p : Linked) (m : MachineState) (t : ℕ) (place : Place) → IsPlace p (top m.guest t) place → text_call_at (moment p m t) place.site place.row ≡ None → IsTurn p (kept_of m) t → IsSome (out_turn p (kept_of m) t)
no_call_reads p m t place is none (inl call) = absurd (none_there (text_call p (kept_of m) t) (text_at_place p m t place (text_instructs p (kept_of m) t call) is ∙ none) call)
no_call_reads p m t place is none (inr read) = read

-- THE EVENT of a call, and what it prints

abbrev pub Calls : Linked → MachineState → ℕ → TextCalled → Site → Type 0
Calls p m t c at = text_call p (kept_of m) t ≡ Some (record { at = at; arguments = arguments_of (moment p m t) c.called.count; method = c.method })

pub row-called : (p : Linked) (m : MachineState) (x : Texts) (t : ℕ) (c : TextCalled) (at : Site) → c.called.thread ≡ t → Calls p m t c at → first_reference (arguments_of (moment p m t) c.called.count) ≡ Some c.object
    → event_with_texts p (spoken x (kept_of m)) t ≡ text_row (text_moment p m x c.called.thread) (call_made p m x c at) (Some c.object)
unfolding event_with_texts
row-called p m x t c at thread call receiver =
    let e : Moment = text_moment p m x t in
    let made : TextCall = record { at = at; arguments = arguments_of e c.called.count; method = c.method } in
    ap (by_text_call e) (call-blind p x (kept_of m) t ∙ call)
    ∙ (ap (text_row e made) receiver
    ∙ ap (λ (k : ℕ). text_row (text_moment p m x k) (record { at = at; arguments = arguments_of (text_moment p m x k) c.called.count; method = c.method }) (Some c.object)) (sym thread))

pub said-called : (p : Linked) (m : MachineState) (x : Texts) (t : ℕ) (c : TextCalled) (at : Site) → c.called.thread ≡ t → Calls p m t c at
    → said_by p (spoken x (kept_of m)) t ≡ said_in (text_moment p m x c.called.thread) (call_made p m x c at)
said-called p m x t c at thread call =
    let e : Moment = text_moment p m x t in
    ap (λ (o : Option TextCall). option_map_or (said_in e) o []) (call-blind p x (kept_of m) t ∙ call)
    ∙ ap (λ (k : ℕ). said_in (text_moment p m x k) (record { at = at; arguments = arguments_of (text_moment p m x k) c.called.count; method = c.method })) (sym thread)

-- the reading of System.out prints nothing
pub out-says-nothing : (p : Linked) (m : MachineState) (x : Texts) (t : ℕ) → IsSome (out_turn p (kept_of m) t) → said_by p (spoken x (kept_of m)) t ≡ []
out-says-nothing p m x t read =
    let e : Moment = text_moment p m x t in
    ap (λ (o : Option TextCall). option_map_or (said_in e) o []) (call-blind p x (kept_of m) t ∙ out_no_call p (kept_of m) t read)
