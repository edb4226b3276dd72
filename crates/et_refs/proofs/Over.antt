-- Instructions that read the heap, over lifted frames.
use Rattle.std.proofs.Common.{◌≡◌, ℕ, true, false, List, [], ◌++◌, take, drop, Option, Some, None, refl, sym, ap, subst, ◌∙◌, append-nil, Contains}
use Rattle.std.specs.Prelude.{Result, Ok, Err, IfOk, option_and_then}
use Rattle.et_base.specs.declared.value.Value.{Value}
use Rattle.et_code.specs.declared.instr.Instr.{Instr}
use Rattle.et_code.specs.declared.instr.CodeFault.{CodeFault}
use Rattle.et_code.specs.Decoding.{instruction_at}
use Rattle.et_heap.specs.Objects.{Objects, IsHeld}
use Rattle.et_heap.specs.Refs.{refs_of}
use Rattle.et_program.specs.Entries.{Linked}
use Rattle.et_program.specs.declared.info.MethodInfo.{MethodInfo}
use Rattle.et_state.specs.declared.stage.Turn.TheVariants.{Instruction}
use Rattle.et_state.specs.declared.stage.Turn.{Turn}
use Rattle.et_state.specs.Moves.{IsEventOf, IsUnderWay, Moves, WasThere}
use Rattle.et_state.specs.Outcome.{Outcome, Goes}
use Rattle.et_state.specs.Roots.{roots_of}
use Rattle.et_state.specs.Running.{RunningState, steps_running}
use Rattle.et_state.specs.Sound.{IsSound}
use Rattle.et_state.specs.State.{GuestState, Kept}
use Rattle.et_state.specs.ThreadRoots.{frame_roots}
use Rattle.et_state.specs.Threads.{FrameState, at_pc, popped}
use Rattle.et_state.specs.Words.{HasFrame, ticked, top, with_top}
use Rattle.et_state.proofs.Places.{guest_top, top_root}
use Rattle.et_state.proofs.Steps.{root_there}
use Rattle.et_state.proofs.UnderWay.{start, law_guest, finish, no_fresh}
use Rattle.et_event.specs.declared.rows.HeapRow.{HeapRow}
use Rattle.et_event.specs.declared.rows.HeapRow.TheVariants as heap_rows
use Rattle.et_event.specs.declared.rows.Row.{Row}
use Rattle.et_event.specs.declared.rows.Row.TheVariants as rows
use Rattle.et_event.specs.Checks.{entries_of}
use Rattle.et_event.specs.Event.{event, by_instruction, by_row, does_turn}
use Rattle.et_event.specs.Heap.{heap_event}
use Rattle.et_event.specs.Moments.{Moment}
use Rattle.et_event.specs.Out.{out_at, out_by, out_turn}
use Rattle.et_event.specs.Selected.{text_call, text_call_at, text_call_by, text_call_in}
use Rattle.et_event.specs.Sites.{Site, decoded_at, pool_of_class, present_body, running_method, site_of}
use Rattle.et_event.specs.Table.{row_of}
use Rattle.et_event.proofs.OutTurns.{out_at_turn}
use Rattle.et_event.proofs.Running.{has_frame_there}
use Rattle.et_event.proofs.Taking.{replaced}
use Rattle.et_ops.proofs.InFrame.{ran, ran_begin, ran_step}
use Rattle.et_refs.specs.Changes.{MayExchange, exchange_outcome}
use Rattle.et_refs.specs.LiftedChanges.{is_lifted_row, stores_number}
use Rattle.et_refs.specs.Reads.{exchanged, moment_over}
use Rattle.et_refs.specs.Refusals.{outcome_of}
use Rattle.et_refs.specs.Rows.{is_get_static}
use Rattle.et_refs.specs.Steps.{Instructs, IsStepOver, MovesOver, StepsOver, over}
use Rattle.et_refs.specs.declared.doing.changes.Exchange.{Exchange}
use Rattle.et_refs.specs.declared.refusals.Refusal.{Refusal}
use Rattle.et_refs.specs.declared.slots.steps.LiftedChange.{LiftedChange}
use Rattle.et_refs.proofs.Leading.{entries_refer, moves_held}

-- CALL BY CALL
pub exchanged_is : (b : RunningState) (x : Exchange) (pc : ℕ) (r₁ r₂ r₃ r₄ : RunningState) → r₁.frame ≡ b.frame → r₁.below ≡ b.below → r₁.lost ≡ []
    → r₂ ≡ steps_running r₁ (popped x.taken r₁.frame) (refs_of (take x.taken r₁.frame.operands))
    → r₃ ≡ steps_running r₂ (record r₂.frame { operands = entries_of x.value ++ r₂.frame.operands }) []
    → r₄ ≡ steps_running r₃ (at_pc pc r₃.frame) [] → r₄ ≡ exchanged x pc b
exchanged_is b x pc r₁ r₂ r₃ r₄ frame below lost e₂ e₃ e₄ =
    let n : ℕ = x.taken in
    let vs : List Value = entries_of x.value in
    let f : FrameState = b.frame in
    let l : List ℕ = refs_of (take n f.operands) in
    let is₂ : r₂ ≡ ran b (popped n f) l = ran_step (popped n) (λ g. refs_of (take n g.operands)) b f [] r₁ r₂ (ran_begin b r₁ frame below lost) e₂ in
    let is₃ : r₃ ≡ ran b (record f { operands = vs ++ drop n f.operands }) (l ++ []) = ran_step (λ g. record g { operands = vs ++ g.operands }) (λ g. []) b (popped n f) l r₂ r₃ is₂ e₃ in
    let is₄ : r₄ ≡ ran b (replaced n vs pc f) ((l ++ []) ++ []) = ran_step (at_pc pc) (λ g. []) b (record f { operands = vs ++ drop n f.operands }) (l ++ []) r₃ r₄ is₃ e₄ in
    is₄ ∙ ap (λ (os : List ℕ). ran b (replaced n vs pc f) os) (append-nil (l ++ []) ∙ append-nil l)

-- what is put in their place is held
pub exchange_moves : (heap : Objects) (f : FrameState) (x : Exchange) (pc : ℕ) → MayExchange heap f x → MovesOver heap f (replaced x.taken (entries_of x.value) pc f) (refs_of (take x.taken f.operands))
exchange_moves heap f x pc may = moves_held (IsHeld heap) (Contains (frame_roots f)) f x.taken pc (entries_of x.value) (λ o c. may.held o (entries_refer x.value o c)) (λ o c. c)

-- A LEGAL STEP
pub held_led : (s : Kept) (t : ℕ) (f : FrameState) (lost : List ℕ) → IsSound s → HasFrame s.guest t → MovesOver s.heap (top s.guest t) f lost
    → IsEventOf s (record { heap = s.heap; guest = with_top (ticked s.guest) t f }) lost
held_led s t f lost sound has moves =
    let x : Kept = record { heap = s.heap; guest = ticked s.guest } in
    let y : Kept = record { heap = s.heap; guest = with_top (ticked s.guest) t f } in
    let begun : HasFrame x.guest t = record { thread = has.thread; frame = has.frame } in
    let may : Moves (IsHeld x.heap) (WasThere s x) (frame_roots (top x.guest t)) (frame_roots f) lost = record {
      on = moves.on;
      off = moves.off;
      was = λ o c. root_there s x o (top_root s.guest t o has (moves.was o c));
    } in
    let all : Moves (IsHeld x.heap) (WasThere s x) (roots_of x.guest) (roots_of (with_top x.guest t f)) lost = guest_top (IsHeld x.heap) (WasThere s x) x.guest t f lost begun may in
    let w : IsUnderWay s y lost = law_guest s x [] (with_top x.guest t f) lost (start s sound) all in
    finish s y lost w (λ o c. absurd (no_fresh s y refl o c))

-- WHAT THE TABLE SAYS

-- no instruction on fields, arrays and classes calls a method of texts, or but getstatic reads System.out
no_text : (e : Moment) (at : Site) (r : HeapRow) → text_call_at e at (rows.Heap r) ≡ None
no_text e at r = refl

pub no_out : (e : Moment) (at : Site) (r : HeapRow) → is_get_static r ≡ false → out_at e at (rows.Heap r) ≡ None
no_out e at heap_rows.GetStatic h = cc
no_out e at heap_rows.PutStatic h = refl
no_out e at heap_rows.GetField h = refl
no_out e at heap_rows.PutField h = refl
no_out e at (heap_rows.LoadElement k) h = refl
no_out e at (heap_rows.StoreElement k) h = refl
no_out e at heap_rows.New h = refl
no_out e at heap_rows.NewArray h = refl
no_out e at heap_rows.NewReferenceArray h = refl
no_out e at heap_rows.NewMultiArray h = refl
no_out e at heap_rows.ArrayLength h = refl
no_out e at heap_rows.CheckCast h = refl
no_out e at heap_rows.InstanceOf h = refl

pub lifted_no_static : (r : HeapRow) → is_lifted_row r ≡ true → is_get_static r ≡ false
lifted_no_static heap_rows.GetStatic h = cc
lifted_no_static heap_rows.PutStatic h = refl
lifted_no_static heap_rows.GetField h = refl
lifted_no_static heap_rows.PutField h = refl
lifted_no_static (heap_rows.LoadElement k) h = refl
lifted_no_static (heap_rows.StoreElement k) h = refl
lifted_no_static heap_rows.New h = refl
lifted_no_static heap_rows.NewArray h = refl
lifted_no_static heap_rows.NewReferenceArray h = refl
lifted_no_static heap_rows.NewMultiArray h = refl
lifted_no_static heap_rows.ArrayLength h = refl
lifted_no_static heap_rows.CheckCast h = refl
lifted_no_static heap_rows.InstanceOf h = refl

-- what stands in a method
abbrev pub site_in : Linked → MethodInfo → Instr × ℕ → Site
site_in p m x = record { instr = x.0; next = x.1; code = (present_body m.code).code; pool = pool_of_class p m.class; class = m.class }

module _ (p : Linked) (heap : Objects) (f : FrameState) (x : Instr × ℕ) (row : HeapRow) (method : MethodInfo) (runs : method ≡ running_method p f) (decoded : instruction_at (present_body method.code).code f.pc ≡ Ok x) (at_row : row_of x.0.opcode ≡ Some (rows.Heap row)) (other : is_get_static row ≡ false) where
  decoded_there : (g : GuestState) (t : ℕ) → top g t ≡ f → decoded_at p (top g t) ≡ Ok x
  decoded_there g t same = ap (λ (y : FrameState). decoded_at p y) same ∙ (ap (λ (m : MethodInfo). instruction_at (present_body m.code).code f.pc) (sym runs) ∙ decoded)

  site_there : (g : GuestState) (t : ℕ) → top g t ≡ f → site_of p (top g t) x ≡ site_in p method x
  site_there g t same = ap (λ (y : FrameState). site_of p y x) same ∙ ap (λ (m : MethodInfo). site_in p m x) (sym runs)

  pub event_over : (g : GuestState) (t : ℕ) → Instructs g t f → event p (over heap g) t ≡ heap_event (moment_over p heap g t) (site_in p method x) row
  unfolding event
  event_over g t i =
      let e : Moment = moment_over p heap g t in
      ap (λ (y : Turn). does_turn e y) i.turn
      ∙ (ap (λ (d : Result (Instr × ℕ) CodeFault). by_instruction e d) (decoded_there g t i.frame)
      ∙ (ap (λ (o : Option Row). by_row e (site_of p (top g t) x) o) at_row
      ∙ ap (λ (at : Site). heap_event e at row) (site_there g t i.frame)))

  pub silent_over : (g : GuestState) (t : ℕ) → Instructs g t f → (text_call p (over heap g) t ≡ None) × (out_turn p (over heap g) t ≡ None)
  unfolding text_call
  silent_over g t i =
      let e : Moment = moment_over p heap g t in (
        ap (λ (y : Turn). text_call_in e y) i.turn
            ∙ (ap (λ (d : Result (Instr × ℕ) CodeFault). text_call_by e d) (decoded_there g t i.frame)
            ∙ (ap (λ (r : Option Row). option_and_then (text_call_at e (site_of p (top g t) x)) r) at_row
            ∙ no_text e (site_of p (top g t) x) row)),
        out_at_turn p (over heap g) t Instruction i.turn
            ∙ (ap (λ (d : Result (Instr × ℕ) CodeFault). out_by e d) (decoded_there g t i.frame)
            ∙ (ap (λ (r : Option Row). option_and_then (out_at e (site_of p (top g t) x)) r) at_row
            ∙ no_out e (site_of p (top g t) x) row other)),
      )

  -- it is done
  module _ (y : Exchange) (may : MayExchange heap f y) (is : (g : GuestState) (t : ℕ) → top g t ≡ f → heap_event (moment_over p heap g t) (site_in p method x) row ≡ exchange_outcome (moment_over p heap g t) (site_in p method x) y) where
    left : (g : GuestState) (t : ℕ) → top g t ≡ f → exchange_outcome (moment_over p heap g t) (site_in p method x) y ≡ Goes (over heap (with_top (ticked g) t (replaced y.taken (entries_of y.value) x.1 f))) []
    left g t same = ap (λ (z : FrameState). let o : Outcome Kept = Goes (over heap (with_top (ticked g) t (replaced y.taken (entries_of y.value) x.1 z))) [] in o) same

    pub read_over : IsStepOver p heap heap f (replaced y.taken (entries_of y.value) x.1 f) (refs_of (take y.taken f.operands))
    read_over = record {
      leads = λ g t i. event_over g t i ∙ (is g t i.frame ∙ left g t i.frame);
      silent = silent_over;
      legal = λ g t i sound. held_led (over heap g) t (replaced y.taken (entries_of y.value) x.1 f) (refs_of (take y.taken f.operands)) sound (has_frame_there g t i.turn)
          (subst (λ (z : FrameState). MovesOver heap z (replaced y.taken (entries_of y.value) x.1 f) (refs_of (take y.taken f.operands))) (sym i.frame) (exchange_moves heap f y x.1 may));
      moves = exchange_moves heap f y x.1 may;
      made = refl;
      stays = refl;
    }

pub read_steps : (p : Linked) (heap : Objects) (x : Instr × ℕ) (row : HeapRow) (method : MethodInfo) (y : Exchange) (r r' : RunningState) → method ≡ running_method p r.frame → instruction_at (present_body method.code).code r.frame.pc ≡ Ok x → row_of x.0.opcode ≡ Some (rows.Heap row)
    → is_lifted_row row ≡ true → MayExchange heap r.frame y
    → ((g : GuestState) (t : ℕ) → top g t ≡ r.frame → heap_event (moment_over p heap g t) (site_in p method x) row ≡ exchange_outcome (moment_over p heap g t) (site_in p method x) y)
    → r' ≡ exchanged y x.1 r → StepsOver p heap heap true r r'
read_steps p heap x row method y r r' runs decoded at_row lifted may is e =
    subst (λ (q : RunningState). StepsOver p heap heap true r q) (sym e) (refl, read_over p heap r.frame x row method runs decoded at_row (lifted_no_static row lifted) y may is)

-- no number is written
pub no_number : {E : Type 0} (r : Result LiftedChange E) (P : Type 0) → IfOk r (λ x. stores_number x ≡ false) → IfOk r (λ x. stores_number x ≡ true → P)
no_number (Ok x) P off = λ on. let both : true ≡ false = sym on ∙ off in absurd (cc)
no_number (Err e) P off = tt

-- of an answer that goes on, what goes on
pub goes_on : (e : Moment) (o : Outcome Kept) (r : Result Exchange Refusal) (x : Exchange) (at : Site) → r ≡ Ok x → o ≡ outcome_of e r (exchange_outcome e at) → o ≡ exchange_outcome e at x
goes_on e o r x at ok is = is ∙ ap (λ (q : Result Exchange Refusal). outcome_of e q (exchange_outcome e at)) ok
