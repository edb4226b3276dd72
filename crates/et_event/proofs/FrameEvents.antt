-- An instruction that reads and changes nothing but its frame is what the table of events says, and leads by a legal step.
use Rattle.std.proofs.Common.{◌≡◌, ℕ, List, [], Option, Some, None, refl, sym, ap, ◌∙◌, inl, inr}
use Rattle.std.specs.Prelude.{Result, Ok, Err}
use Rattle.et_code.specs.declared.instr.Instr.{Instr}
use Rattle.et_code.specs.declared.instr.CodeFault.{CodeFault}
use Rattle.et_heap.specs.Objects.{IsHeld}
use Rattle.et_program.specs.Entries.{Linked}
use Rattle.et_state.specs.declared.stage.Turn.TheVariants as turns
use Rattle.et_state.specs.Threads.{FrameState, turn_of}
use Rattle.et_state.specs.ThreadRoots.{frame_roots}
use Rattle.et_state.specs.State.{Kept}
use Rattle.et_state.specs.Words.{HasFrame, thread_at, top, with_top, ticked}
use Rattle.et_state.specs.Moves.{IsEventOf, IsUnderWay, Moves, WasThere}
use Rattle.et_state.specs.Outcome.{Goes}
use Rattle.et_state.specs.Roots.{roots_of}
use Rattle.et_state.specs.Running.{MovesInFrame}
use Rattle.et_state.specs.Sound.{IsSound}
use Rattle.et_state.proofs.Places.{guest_top, top_root}
use Rattle.et_state.proofs.Steps.{root_there}
use Rattle.et_state.proofs.UnderWay.{start, law_guest, finish, no_fresh}
use Rattle.et_event.specs.declared.rows.FrameRow.{FrameRow}
use Rattle.et_event.specs.declared.rows.FrameRow.TheVariants as frame_row
use Rattle.et_event.specs.declared.rows.Local.TheVariants as local
use Rattle.et_event.specs.declared.rows.Row.{Row}
use Rattle.et_event.specs.declared.rows.Row.TheVariants as row
use Rattle.et_event.specs.Event.{event, by_instruction, by_row}
use Rattle.et_event.specs.FrameSteps.{frame_by_row, frame_decoded, frame_next}
use Rattle.et_event.specs.Plain.{frame_after, on_frame}
use Rattle.et_event.specs.Sites.{Site, code_of_frame, site_of}
use Rattle.et_event.specs.Table.{row_of}
use Rattle.et_event.proofs.Instructions.{by_turn}
use Rattle.et_event.proofs.SiteAnswers.{moment}

-- WHAT IT LEADS TO

-- it names nothing in a pool
same_after : (at : Site) (r : FrameRow) (f : FrameState) → frame_after (record at { pool = []; class = 0 }) r f ≡ frame_after at r f
same_after at frame_row.Null f = refl
same_after at (frame_row.Int n) f = refl
same_after at (frame_row.Long n) f = refl
same_after at frame_row.Immediate f = refl
same_after at (frame_row.Load kind local.Named) f = refl
same_after at (frame_row.Load kind (local.At n)) f = refl
same_after at (frame_row.Store kind local.Named) f = refl
same_after at (frame_row.Store kind (local.At n)) f = refl
same_after at frame_row.Increment f = refl
same_after at (frame_row.Rearrange r) f = refl
same_after at (frame_row.Arithmetic n o) f = refl
same_after at (frame_row.Negate n) f = refl
same_after at (frame_row.Shift n s) f = refl
same_after at (frame_row.Convert c) f = refl
same_after at frame_row.CompareLongs f = refl
same_after at (frame_row.Branch c) f = refl
same_after at frame_row.Switch f = refl

no_frame : {A : Type 0} (f : FrameState) → None ≡ Some f → A
no_frame f e = absurd (cc)

-- the state of which the topmost frame of a thread became f
abbrev pub stepped : Kept → ℕ → FrameState → Kept
stepped s t f = record { heap = s.heap; guest = with_top (ticked s.guest) t f }

goes_by_row : (p : Linked) (s : Kept) (t : ℕ) (f : FrameState) (x : Instr × ℕ) (o : Option Row)
    → frame_by_row (record (site_of p (top s.guest t) x) { pool = []; class = 0 }) o (top s.guest t) ≡ Some f
    → by_row (moment p s t) (site_of p (top s.guest t) x) o ≡ Goes (stepped s t f) []
goes_by_row p s t f x (Some (row.Frame r)) e =
    ap (λ (after : Option FrameState). on_frame (moment p s t) after) (sym (same_after (site_of p (top s.guest t) x) r (top s.guest t)) ∙ e)
goes_by_row p s t f x None e = no_frame f e
goes_by_row p s t f x (Some row.PoolConstant) e = no_frame f e
goes_by_row p s t f x (Some (row.Divide n o)) e = no_frame f e
goes_by_row p s t f x (Some (row.Heap r)) e = no_frame f e
goes_by_row p s t f x (Some (row.Call r)) e = no_frame f e
goes_by_row p s t f x (Some row.Throw) e = no_frame f e
goes_by_row p s t f x (Some (row.Monitor r)) e = no_frame f e

goes_decoded : (p : Linked) (s : Kept) (t : ℕ) (f : FrameState) (d : Result (Instr × ℕ) CodeFault)
    → frame_decoded (code_of_frame p (top s.guest t)).code d (top s.guest t) ≡ Some f → by_instruction (moment p s t) d ≡ Goes (stepped s t f) []
goes_decoded p s t f (Err fault) e = no_frame f e
goes_decoded p s t f (Ok x) e = goes_by_row p s t f x (row_of x.0.opcode) e

pub frame_event : (p : Linked) (s : Kept) (t : ℕ) (f : FrameState) → turn_of (thread_at s.guest t) ≡ turns.Instruction
    → frame_next (code_of_frame p (top s.guest t)).code (top s.guest t) ≡ Some f → event p s t ≡ Goes (record { heap = s.heap; guest = with_top (ticked s.guest) t f }) []
frame_event p s t f turn e = by_turn p s t turn ∙ goes_decoded p s t f _ e

-- IT IS A LEGAL STEP, to a sound state
pub frame_led : (s : Kept) (t : ℕ) (f : FrameState) (lost : List ℕ) → IsSound s → HasFrame s.guest t → MovesInFrame (top s.guest t) f lost
    → IsEventOf s (record { heap = s.heap; guest = with_top (ticked s.guest) t f }) lost
frame_led s t f lost sound has moves =
    let x : Kept = record { heap = s.heap; guest = ticked s.guest } in
    let begun : HasFrame x.guest t = record { thread = has.thread; frame = has.frame } in
    let may : Moves (IsHeld x.heap) (WasThere s x) (frame_roots (top x.guest t)) (frame_roots f) lost = record {
      on = λ o c. elim (moves.on o c) [ inl d ↦ inl d | inr never ↦ absurd never ];
      off = moves.off;
      was = λ o c. root_there s x o (top_root s.guest t o has (moves.was o c));
    } in
    let all : Moves (IsHeld x.heap) (WasThere s x) (roots_of x.guest) (roots_of (with_top x.guest t f)) lost = guest_top (IsHeld x.heap) (WasThere s x) x.guest t f lost begun may in
    let w : IsUnderWay s (stepped s t f) lost = law_guest s x [] (with_top x.guest t f) lost (start s sound) all in
    finish s (stepped s t f) lost w (λ o c. absurd (no_fresh s (stepped s t f) refl o c))
