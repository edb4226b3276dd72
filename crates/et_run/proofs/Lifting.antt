-- Instructions over lifted frames, one after the other.
use Rattle.std.proofs.Common.{◌≡◌, ℕ, zero, suc, ◌+◌, ◌-◌, ◌*◌, ◌≤◌, List, [], length, Option, Some, None, Result, refl, sym, ap, subst, ◌∙◌, arith, inl, inr, Bool, true, false, Ok}
use Rattle.std.specs.Prelude.{nat_lt, option_and_then}
use Rattle.et_base.specs.declared.value.Value.{Value}
use Rattle.et_code.specs.declared.instr.Instr.{Instr}
use Rattle.et_code.specs.declared.instr.CodeFault.{CodeFault}
use Rattle.et_heap.specs.Objects.{Objects}
use Rattle.et_program.specs.Entries.{Linked}
use Rattle.et_state.specs.declared.stage.Turn.{Turn}
use Rattle.et_state.specs.declared.stage.Turn.TheVariants.{Instruction}
use Rattle.et_state.specs.Running.{RunningState, MovesInFrame, passed}
use Rattle.et_state.specs.Threads.{FrameState, rest_of, turn_of}
use Rattle.et_state.specs.State.{GuestState, Kept, MachineState}
use Rattle.et_state.specs.Words.{HasFrame, thread_at, top}
use Rattle.et_event.specs.declared.rows.Row.{Row}
use Rattle.et_event.specs.declared.rows.Row.TheVariants as rows
use Rattle.et_event.specs.Event.{by_instruction, by_row, does, does_turn, event}
use Rattle.et_event.specs.FrameSteps.{AreFrameSteps, IsFrameStep, frame_next}
use Rattle.et_event.specs.Moments.{Moment}
use Rattle.et_event.specs.Out.{out_at, out_by, out_turn}
use Rattle.et_event.specs.Selected.{text_call, text_call_at, text_call_by, text_call_in}
use Rattle.et_event.specs.Table.{row_of}
use Rattle.et_event.specs.PlainRows.{is_plain}
use Rattle.et_event.specs.Sites.{Site, code_of_frame, decoded_at, running_method, site_of}
use Rattle.et_event.proofs.OutTurns.{out_at_turn}
use Rattle.et_ops.specs.declared.ends.PlainEnd.{PlainEnd}
use Rattle.et_ops.specs.declared.ends.PlainEnd.TheVariants as ends
use Rattle.et_ops.specs.Plain.{ChangesFrame, KeepsLocals, RunsPlain, is_done}
use Rattle.et_ops.proofs.Lifting.{landed, lifted, passed_landed}
use Rattle.et_event.proofs.FrameEvents.{frame_event, frame_led}
use Rattle.et_event.proofs.Running.{has_frame_there}
use Rattle.et_refs.specs.Reads.{moment_over}
use Rattle.et_refs.specs.Steps.{Instructs, IsStepOver, StepsOver, over}
use Rattle.et_run.specs.Lifted.{AreStampedSteps, IsStampedStep, RunsOver}
use Rattle.et_run.proofs.FrameKept.{IsInFrame, Stays, in_frame}

-- A STEP OF THE FRAME ALONE, in a state with texts: no method of texts is called, and System.out isn't read

module _ (p : Linked) (s : Kept) (t : ℕ) (f' : FrameState) (turn : turn_of (thread_at s.guest t) ≡ Instruction) (next : frame_next (code_of_frame p (top s.guest t)).code (top s.guest t) ≡ Some f') where
  at_hand : IsInFrame (code_of_frame p (top s.guest t)).code (top s.guest t) f'
  at_hand = in_frame (code_of_frame p (top s.guest t)).code (top s.guest t) f' next

  calls_no_text : text_call p s t ≡ None
  unfolding text_call
  calls_no_text =
      let e : Moment = record { program = p; before = s; thread = t } in
      ap (λ (x : Turn). text_call_in e x) turn
      ∙ (ap (λ (d : Result (Instr × ℕ) CodeFault). text_call_by e d) at_hand.there
      ∙ ap (λ (r : Option Row). option_and_then (text_call_at e (site_of p (top s.guest t) at_hand.decoded)) r) at_hand.row)

  reads_no_out : out_turn p s t ≡ None
  reads_no_out =
      let e : Moment = record { program = p; before = s; thread = t } in
      out_at_turn p s t Instruction turn
      ∙ (ap (λ (d : Result (Instr × ℕ) CodeFault). out_by e d) at_hand.there
      ∙ ap (λ (r : Option Row). option_and_then (out_at e (site_of p (top s.guest t) at_hand.decoded)) r) at_hand.row)

-- .. over any heap
module _ (p : Linked) (heap : Objects) (f f' : FrameState) (lost : List ℕ) (next : frame_next (code_of_frame p f).code f ≡ Some f') (moves : MovesInFrame f f' lost) where
  next_there : (g : GuestState) (t : ℕ) → top g t ≡ f → frame_next (code_of_frame p (top g t)).code (top g t) ≡ Some f'
  next_there g t same = subst (λ (x : FrameState). frame_next (code_of_frame p x).code x ≡ Some f') (sym same) next

  frame_over : IsStepOver p heap heap f f' lost
  frame_over = record {
    leads = λ g t i. frame_event p (over heap g) t f' i.turn (next_there g t i.frame);
    silent = λ g t i. (calls_no_text p (over heap g) t f' i.turn (next_there g t i.frame), reads_no_out p (over heap g) t f' i.turn (next_there g t i.frame));
    legal = λ g t i sound. frame_led (over heap g) t f' lost sound (has_frame_there g t i.turn) (subst (λ (x : FrameState). MovesInFrame x f' lost) (sym i.frame) moves);
    moves = record { on = λ o c. elim (moves.on o c) [ inl d ↦ inl d | inr never ↦ absurd never ]; off = moves.off; was = moves.was };
    made = refl;
    stays = (in_frame (code_of_frame p f).code f f' next).stays;
  }

frame_stamped : (p : Linked) (heap : Objects) (code : List ℕ) (e : ℕ) (f f' : FrameState) (old new : List ℕ) → code ≡ (code_of_frame p f).code → IsFrameStep code e f f' old new → IsStampedStep p heap heap e f f' old new
frame_stamped p heap code e f f' old new same s = record {
  lost = s.lost;
  step = frame_over p heap f f' s.lost (subst (λ (bytes : List ℕ). frame_next bytes f ≡ Some f') same s.next) s.moves;
  stamped = s.stamped;
  kept = s.kept;
  long = s.long;
}

-- ONE THAT WASN'T DONE
pub stopped : (p : Linked) (heap heap' : Objects) (done : Bool) (r r' : RunningState) → done ≡ false → StepsOver p heap heap' done r r' → r' ≡ r
stopped p heap heap' true r r' e h = absurd (cc)
stopped p heap heap' false r r' e h = h.0

pub still_there : (p : Linked) (heap heap' : Objects) (done : Bool) (r r' : RunningState) → done ≡ false → StepsOver p heap heap' done r r' → heap' ≡ heap
still_there p heap heap' true r r' e h = absurd (cc)
still_there p heap heap' false r r' e h = h.1

-- .. visits objects four times at most, and none where it is the first
pub few_visits : (count before visited after : ℕ) → visited ≤ before + 4 * count → after ≤ visited + 4 → (nat_lt 0 count ≡ false → after ≡ visited) → after ≤ before + 8 * count
few_visits zero before visited after so few unread = omega (arith, so, unread refl)
few_visits (suc k) before visited after so few unread = omega (arith, so, few)

-- A NUMBER OF THE POOL, OR A DIVISION

-- no plain instruction calls a method of texts, or reads System.out
untold : (e : Moment) (at : Site) (row : Row) → is_plain row ≡ true → (text_call_at e at row ≡ None) × (out_at e at row ≡ None)
untold e at (rows.Frame r) h = (refl, refl)
untold e at rows.PoolConstant h = (refl, refl)
untold e at (rows.Divide n o) h = (refl, refl)
untold e at (rows.Heap r) h = absurd (cc)
untold e at (rows.Call r) h = absurd (cc)
untold e at rows.Throw h = absurd (cc)
untold e at (rows.Monitor r) h = absurd (cc)

all_stays : (f f' : FrameState) → KeepsLocals f f' → Stays f f'
all_stays f f' keeps = keeps ∙ ap (λ (vs : List Value). record f { pc = f'.pc; locals = vs; operands = f'.operands }) (sym (ap (λ (x : FrameState). x.locals) keeps))

module _ (p : Linked) (heap : Objects) (f : FrameState) (x : Instr × ℕ) (row : Row) (plain : is_plain row ≡ true) (decoded : decoded_at p f ≡ Ok x) (at_row : row_of x.0.opcode ≡ Some row) where
  decoded_there : (g : GuestState) (t : ℕ) → top g t ≡ f → decoded_at p (top g t) ≡ Ok x
  decoded_there g t same = ap (λ (y : FrameState). decoded_at p y) same ∙ decoded

  event_over : (g : GuestState) (t : ℕ) → Instructs g t f → event p (over heap g) t ≡ does (moment_over p heap g t) (site_of p f x) row
  unfolding event
  event_over g t i =
      let e : Moment = moment_over p heap g t in
      ap (λ (turn : Turn). does_turn e turn) i.turn
      ∙ (ap (λ (d : Result (Instr × ℕ) CodeFault). by_instruction e d) (decoded_there g t i.frame)
      ∙ (ap (λ (o : Option Row). by_row e (site_of p (top g t) x) o) at_row
      ∙ ap (λ (y : FrameState). does e (site_of p y x) row) i.frame))

  silent_over : (g : GuestState) (t : ℕ) → Instructs g t f → (text_call p (over heap g) t ≡ None) × (out_turn p (over heap g) t ≡ None)
  unfolding text_call
  silent_over g t i =
      let e : Moment = moment_over p heap g t in
      let at : Site = site_of p (top g t) x in (
        ap (λ (y : Turn). text_call_in e y) i.turn
            ∙ (ap (λ (d : Result (Instr × ℕ) CodeFault). text_call_by e d) (decoded_there g t i.frame)
            ∙ (ap (λ (r : Option Row). option_and_then (text_call_at e at) r) at_row ∙ (untold e at row plain).0)),
        out_at_turn p (over heap g) t Instruction i.turn
            ∙ (ap (λ (d : Result (Instr × ℕ) CodeFault). out_by e d) (decoded_there g t i.frame)
            ∙ (ap (λ (r : Option Row). option_and_then (out_at e at) r) at_row ∙ (untold e at row plain).1)),
      )

  plain_over : (f' : FrameState) (lost : List ℕ) → ChangesFrame (site_of p f x) row f (Some f') → MovesInFrame f f' lost → KeepsLocals f f' → IsStepOver p heap heap f f' lost
  plain_over f' lost changes moves keeps = record {
    leads = λ g t i. event_over g t i ∙ changes (moment_over p heap g t) i.frame;
    silent = silent_over;
    legal = λ g t i sound. frame_led (over heap g) t f' lost sound (has_frame_there g t i.turn) (subst (λ (y : FrameState). MovesInFrame y f' lost) (sym i.frame) moves);
    moves = record { on = λ o c. elim (moves.on o c) [ inl d ↦ inl d | inr never ↦ absurd never ]; off = moves.off; was = moves.was };
    made = refl;
    stays = all_stays f f' keeps;
  }

-- .. as it is answered
pub plain_steps : (p : Linked) (heap : Objects) (r r' : RunningState) (x : Instr × ℕ) (row : Row) (end : PlainEnd) → is_plain row ≡ true → decoded_at p r.frame ≡ Ok x → row_of x.0.opcode ≡ Some row
    → RunsPlain (site_of p r.frame x) row end r r' → KeepsLocals r.frame r'.frame → StepsOver p heap heap (is_done end) r r'
plain_steps p heap r r' x row ends.Done plain decoded at_row h keeps = (h.1, plain_over p heap r.frame x row plain decoded at_row r'.frame r'.lost h.0 h.2 keeps)
plain_steps p heap r r' x row ends.IllTyped plain decoded at_row h keeps = (h.1, refl)
plain_steps p heap r r' x row ends.More plain decoded at_row h keeps = (h.1, refl)

-- WHAT STAYS

pub stays_itself : (f f' : FrameState) → f' ≡ f → Stays f f'
stays_itself f f' e = e ∙ ap (λ (x : FrameState). record f { pc = x.pc; locals = x.locals; operands = x.operands }) (sym e)

pub stays_on : (f g h : FrameState) → Stays f g → Stays g h → Stays f h
stays_on f g h first second = second ∙ ap (λ (x : FrameState). record x { pc = h.pc; locals = h.locals; operands = h.operands }) first

pub same_method : (p : Linked) (f f' : FrameState) → Stays f f' → running_method p f' ≡ running_method p f
same_method p f f' stays = ap (λ (x : FrameState). running_method p x) stays

-- SO MANY OF THEM

pub one_more : (p : Linked) (k e : ℕ) (h h₁ h' : Objects) (f mid f' : FrameState) (old between new : List ℕ) → AreStampedSteps p k e h h₁ f mid old between → IsStampedStep p h₁ h' (e + k) mid f' between new → AreStampedSteps p (suc k) e h h' f f' old new
unfolding AreStampedSteps
one_more p k e h h₁ h' f mid f' old between new a s = (h₁, mid, between, a, s)

pub steps_behind : (p : Linked) (j k e : ℕ) (h h₁ h' : Objects) (f mid f' : FrameState) (old between new : List ℕ) → AreStampedSteps p k e h h₁ f mid old between → AreStampedSteps p j (e + k) h₁ h' mid f' between new → AreStampedSteps p (k + j) e h h' f f' old new
unfolding AreStampedSteps
steps_behind p zero k e h h₁ h' f mid f' old between new first rest =
    let none : k ≡ k + 0 = omega arith in
    subst (λ (n : ℕ). AreStampedSteps p n e h h' f f' old new) none
    (subst (λ (x : Objects). AreStampedSteps p k e h x f f' old new) (sym rest.0)
    (subst (λ (x : FrameState). AreStampedSteps p k e h h₁ f x old new) (sym rest.1)
    (subst (λ (xs : List ℕ). AreStampedSteps p k e h h₁ f mid old xs) (sym rest.2) first)))
steps_behind p (suc j) k e h h₁ h' f mid f' old between new first rest =
    let more : suc (k + j) ≡ k + suc j = omega arith in
    let later : e + k + j ≡ e + (k + j) = omega arith in
    let last : IsStampedStep p rest.0 h' (e + (k + j)) rest.1 f' rest.2 new = subst (λ (n : ℕ). IsStampedStep p rest.0 h' n rest.1 f' rest.2 new) later rest.4 in
    let all : AreStampedSteps p (suc (k + j)) e h h' f f' old new = (rest.0, rest.1, rest.2, steps_behind p j k e h h₁ rest.0 f mid rest.1 old between rest.2 first rest.3, last) in
    subst (λ (n : ℕ). AreStampedSteps p n e h h' f f' old new) more all

-- those of the frame alone
pub record FramesOver (p : Linked) (heap : Objects) (k e : ℕ) (f f' : FrameState) (old new : List ℕ) : Type 0 where
  pub steps : AreStampedSteps p k e heap heap f f' old new
  pub stays : Stays f f'
  pub long : length new ≡ length old

pub frames_over : (p : Linked) (heap : Objects) (code : List ℕ) (k e : ℕ) (f f' : FrameState) (old new : List ℕ) → code ≡ (code_of_frame p f).code → AreFrameSteps code k e f f' old new → FramesOver p heap k e f f' old new
unfolding AreFrameSteps AreStampedSteps
frames_over p heap code zero e f f' old new same h = record {
  steps = (refl, h.0, h.1);
  stays = stays_itself f f' h.0;
  long = ap (λ (xs : List ℕ). length xs) h.1;
}
frames_over p heap code (suc k) e f f' old new same h =
    let first : FramesOver p heap k e f h.0 old h.1 = frames_over p heap code k e f h.0 old h.1 same h.2 in
    let here : code ≡ (code_of_frame p h.0).code = same ∙ sym (ap (λ (x : FrameState). (code_of_frame p x).code) first.stays) in
    let s : IsStampedStep p heap heap (e + k) h.0 f' h.1 new = frame_stamped p heap code (e + k) h.0 f' h.1 new here h.3 in
    record {
      steps = (heap, h.0, h.1, first.steps, s);
      stays = stays_on f h.0 f' first.stays s.step.stays;
      long = s.long ∙ first.long;
    }

-- WHAT THEY MAKE UP, of a machine whose frames were lifted and put back, with the objects as they are then
pub ran_over : (p : Linked) (m : MachineState) (t : ℕ) (r : RunningState) (count : ℕ) (heap : Objects) (old new : List ℕ) (m₁ m₂ m₃ : MachineState) → HasFrame m.guest t → r.below ≡ rest_of (thread_at m.guest t).frames
    → m₁ ≡ record (lifted m t) { heap = heap } → m₂ ≡ landed m₁ t r → m₃ ≡ record m₂ { guest = passed count m₂.guest; lost = [] }
    → AreStampedSteps p count m.guest.clock m.heap heap (top m.guest t) r.frame old new → RunsOver p t count m m₃ old new
ran_over p m t r count heap old new m₁ m₂ m₃ has below e₁ e₂ e₃ steps = record {
  heap = heap;
  frame = r.frame;
  steps = steps;
  now = passed_landed (record m { heap = heap }) t r count m₁ m₂ m₃ (record { thread = has.thread; frame = has.frame }) below e₁ e₂ e₃;
}
