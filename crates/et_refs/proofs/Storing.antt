-- Instructions that write a number to a slot, over lifted frames and as an event.
use Rattle.std.proofs.Common.{◌≡◌, ℕ, true, List, [], ◌++◌, take, Some, refl, sym, ap, subst, ◌∙◌, append-nil, Contains}
use Rattle.std.specs.Prelude.{Ok}
use Rattle.std.proofs.lemmas.List.{length-set}
use Rattle.et_base.specs.declared.value.Value.{Value}
use Rattle.et_base.specs.declared.value.Value.TheVariants.{Unset, Int, Long, LongHigh, Null, Ref}
use Rattle.et_base.proofs.Lists.{Contains-none}
use Rattle.et_code.specs.declared.instr.Instr.{Instr}
use Rattle.et_code.specs.Decoding.{instruction_at}
use Rattle.et_heap.specs.Objects.{Objects, IsHeld, object_at, slot_of, with_slot}
use Rattle.et_heap.specs.Refs.{refs_of, refs_of_value}
use Rattle.et_program.specs.Entries.{Linked}
use Rattle.et_program.specs.declared.info.MethodInfo.{MethodInfo}
use Rattle.et_state.specs.declared.ends.EventEnd.TheVariants as ends
use Rattle.et_state.specs.declared.records.Record.{Record}
use Rattle.et_state.specs.Moves.{IsEventOf, Led}
use Rattle.et_state.specs.Outcome.{Outcome, Goes}
use Rattle.et_state.specs.Running.{RunningState, steps_running}
use Rattle.et_state.specs.Sound.{IsSound}
use Rattle.et_state.specs.State.{GuestState, Kept, MachineState, kept_of}
use Rattle.et_state.specs.ThreadRoots.{frame_roots}
use Rattle.et_state.specs.Threads.{FrameState, at_pc, popped, rest_of}
use Rattle.et_state.specs.Words.{HasFrame, begun, losing, steps_object, steps_top, thread_at, ticked, top, with_top}
use Rattle.et_event.specs.declared.rows.HeapRow.{HeapRow}
use Rattle.et_event.specs.declared.rows.Row.TheVariants as rows
use Rattle.et_event.specs.Answered.{EventAnswers}
use Rattle.et_event.specs.Heap.{heap_event}
use Rattle.et_event.specs.Moments.{Doing, Moment, moment, updated}
use Rattle.et_event.specs.Sites.{Site, present_body, running_method}
use Rattle.et_event.specs.Table.{row_of}
use Rattle.et_event.proofs.Running.{has_frame_there}
use Rattle.et_event.proofs.Taking.{replaced}
use Rattle.et_ops.proofs.InFrame.{ran, ran_begin, ran_step}
use Rattle.et_ops.proofs.Lifting.{landed, landed_guest, lifted}
use Rattle.et_refs.specs.Changes.{MayStore, is_number, store_outcome}
use Rattle.et_refs.specs.LiftedChanges.{is_lifted_row}
use Rattle.et_refs.specs.Reads.{moment_over}
use Rattle.et_refs.specs.Steps.{Instructs, IsStepOver, MovesOver, StepsOver, over}
use Rattle.et_refs.specs.Writes.{taken_for, written}
use Rattle.et_refs.specs.declared.doing.changes.Store.{Store}
use Rattle.et_refs.proofs.Leading.{moves_held, write_led}
use Rattle.et_refs.proofs.Over.{event_over, lifted_no_static, silent_over, site_in}

-- CALL BY CALL
pub taken_is : (b : RunningState) (x : Store) (pc : ℕ) (r₁ r₂ r₃ : RunningState) → r₁.frame ≡ b.frame → r₁.below ≡ b.below → r₁.lost ≡ []
    → r₂ ≡ steps_running r₁ (popped x.taken r₁.frame) (refs_of (take x.taken r₁.frame.operands)) → r₃ ≡ steps_running r₂ (at_pc pc r₂.frame) [] → r₃ ≡ taken_for x pc b
taken_is b x pc r₁ r₂ r₃ frame below lost e₂ e₃ =
    let n : ℕ = x.taken in
    let f : FrameState = b.frame in
    let l : List ℕ = refs_of (take n f.operands) in
    let is₂ : r₂ ≡ ran b (popped n f) l = ran_step (popped n) (λ g. refs_of (take n g.operands)) b f [] r₁ r₂ (ran_begin b r₁ frame below lost) e₂ in
    let is₃ : r₃ ≡ ran b (replaced n [] pc f) (l ++ []) = ran_step (at_pc pc) (λ g. []) b (popped n f) l r₂ r₃ is₂ e₃ in
    is₃ ∙ ap (λ (os : List ℕ). ran b (replaced n [] pc f) os) (append-nil l)

-- NO RECORD TELLS OF A NUMBER
pub number_untold : (e : Moment) (o i : ℕ) (old v : Value) (d : Doing) → is_number v ≡ true → updated e o i old v d ≡ d
number_untold e o i old Unset d h = refl
number_untold e o i old (Int n) d h = refl
number_untold e o i old (Long n) d h = refl
number_untold e o i old LongHigh d h = refl
number_untold e o i old Null d h = cc
number_untold e o i old (Ref x) d h = cc

-- the frame after it
abbrev pub stored_frame : Store → ℕ → FrameState → FrameState
stored_frame x pc f = replaced x.taken [] pc f

stored_is : (e : Moment) (at : Site) (x : Store) → is_number x.value ≡ true → store_outcome e at x ≡ Goes (over (written x e.before.heap) (with_top (ticked e.before.guest) e.thread (stored_frame x at.next (top e.before.guest e.thread)))) []
stored_is e at x number =
    let k : Kept = over (written x e.before.heap) (with_top (ticked e.before.guest) e.thread (stored_frame x at.next (top e.before.guest e.thread))) in
    let was : Value = slot_of (object_at e.before.heap x.object) x.slot in
    ap (λ (d : Doing). Goes d.state d.records) (number_untold e x.object x.slot was x.value (record { state = k; records = [] }) number)

-- A LEGAL STEP
pub number_led : (s : Kept) (t : ℕ) (x : Store) (pc : ℕ) → IsSound s → HasFrame s.guest t → MayStore s.heap (top s.guest t) x → is_number x.value ≡ true
    → IsEventOf s (over (written x s.heap) (with_top (ticked s.guest) t (stored_frame x pc (top s.guest t)))) (refs_of (take x.taken (top s.guest t).operands))
number_led s t x pc sound has may number =
    let m : MachineState = record { heap = s.heap; guest = s.guest; lost = [] } in
    let f : FrameState = top s.guest t in
    let l : List ℕ = refs_of (take x.taken f.operands) in
    let old : List ℕ = refs_of_value (slot_of (object_at s.heap x.object) x.slot) in
    let m₁ : MachineState = begun m in
    let m₂ : MachineState = steps_object m₁ x.object (with_slot x.slot x.value (object_at m₁.heap x.object)) (refs_of_value (slot_of (object_at m₁.heap x.object) x.slot)) in
    let m₃ : MachineState = steps_top m₂ t (popped x.taken (top m₂.guest t)) (refs_of (take x.taken (top m₂.guest t).operands)) in
    let m₄ : MachineState = steps_top m₃ t (at_pc pc (top m₃.guest t)) [] in
    let k : Kept = over (written x s.heap) (with_top (ticked s.guest) t (stored_frame x pc f)) in
    let led : Led s k m₄ = write_led m t x.taken pc x.object x.slot x.value m₁ m₂ m₃ m₄ sound has may.object may.slot may.value refl refl refl refl in
    let lost : m₄.lost ≡ l = append-nil (old ++ l) ∙ ap (λ (os : List ℕ). os ++ l) (may.number number) in
    subst (λ (os : List ℕ). IsEventOf s k os) lost led.event

-- nothing new stands in the frame
store_moves : (heap : Objects) (f : FrameState) (x : Store) (pc : ℕ) → MovesOver heap f (stored_frame x pc f) (refs_of (take x.taken f.operands))
store_moves heap f x pc = moves_held (IsHeld heap) (Contains (frame_roots f)) f x.taken pc [] (λ o c. absurd (Contains-none o c)) (λ o c. c)

-- IT IS DONE, over lifted frames
module _ (p : Linked) (heap : Objects) (f : FrameState) (x : Instr × ℕ) (row : HeapRow) (method : MethodInfo) (runs : method ≡ running_method p f) (decoded : instruction_at (present_body method.code).code f.pc ≡ Ok x) (at_row : row_of x.0.opcode ≡ Some (rows.Heap row)) (lifted : is_lifted_row row ≡ true)
    (y : Store) (may : MayStore heap f y) (number : is_number y.value ≡ true) (is : (g : GuestState) (t : ℕ) → top g t ≡ f → heap_event (moment_over p heap g t) (site_in p method x) row ≡ store_outcome (moment_over p heap g t) (site_in p method x) y) where
  done_there : (g : GuestState) (t : ℕ) → top g t ≡ f → store_outcome (moment_over p heap g t) (site_in p method x) y ≡ Goes (over (written y heap) (with_top (ticked g) t (stored_frame y x.1 f))) []
  done_there g t same = stored_is (moment_over p heap g t) (site_in p method x) y number ∙ ap (λ (z : FrameState). let o : Outcome Kept = Goes (over (written y heap) (with_top (ticked g) t (stored_frame y x.1 z))) [] in o) same

  legal_there : (g : GuestState) (t : ℕ) → Instructs g t f → IsSound (over heap g) → IsEventOf (over heap g) (over (written y heap) (with_top (ticked g) t (stored_frame y x.1 f))) (refs_of (take y.taken f.operands))
  legal_there g t i sound =
      let here : MayStore heap (top g t) y = subst (λ (z : FrameState). MayStore heap z y) (sym i.frame) may in
      subst (λ (z : FrameState). IsEventOf (over heap g) (over (written y heap) (with_top (ticked g) t (stored_frame y x.1 z))) (refs_of (take y.taken z.operands))) i.frame
      (number_led (over heap g) t y x.1 sound (has_frame_there g t i.turn) here number)

  write_over : IsStepOver p heap (written y heap) f (stored_frame y x.1 f) (refs_of (take y.taken f.operands))
  write_over = record {
    leads = λ g t i. event_over p heap f x row method runs decoded at_row (lifted_no_static row lifted) g t i ∙ (is g t i.frame ∙ done_there g t i.frame);
    silent = silent_over p heap f x row method runs decoded at_row (lifted_no_static row lifted);
    legal = legal_there;
    moves = store_moves (written y heap) f y x.1;
    made = length-set heap y.object (Some (with_slot y.slot y.value (object_at heap y.object)));
    stays = refl;
  }

pub write_steps : (p : Linked) (heap heap' : Objects) (x : Instr × ℕ) (row : HeapRow) (method : MethodInfo) (y : Store) (r r' : RunningState) → method ≡ running_method p r.frame → instruction_at (present_body method.code).code r.frame.pc ≡ Ok x → row_of x.0.opcode ≡ Some (rows.Heap row)
    → is_lifted_row row ≡ true → MayStore heap r.frame y → is_number y.value ≡ true
    → ((g : GuestState) (t : ℕ) → top g t ≡ r.frame → heap_event (moment_over p heap g t) (site_in p method x) row ≡ store_outcome (moment_over p heap g t) (site_in p method x) y)
    → heap' ≡ written y heap → r' ≡ taken_for y x.1 r → StepsOver p heap heap' true r r'
write_steps p heap heap' x row method y r r' runs decoded at_row lifted may number is e₁ e₂ =
    subst (λ (q : RunningState). StepsOver p heap heap' true r q) (sym e₂)
    (subst (λ (h : Objects). StepsOver p heap h true r (taken_for y x.1 r)) (sym e₁) (refl, write_over p heap r.frame x row method runs decoded at_row lifted y may number is))

-- THE EVENT of a thread whose frames were lifted
module _ (m : MachineState) (t : ℕ) (r : RunningState) (x : Store) (pc : ℕ) (sound : IsSound (kept_of m)) (has : HasFrame m.guest t) (frame : r.frame ≡ top m.guest t) (below : r.below ≡ rest_of (thread_at m.guest t).frames) (may : MayStore m.heap r.frame x) (number : is_number x.value ≡ true) where
  abbrev now : RunningState
  now = taken_for x pc r

  abbrev changed : MachineState
  changed = record (lifted m t) { heap = written x m.heap }

  abbrev next_state : Kept
  next_state = over (written x m.heap) (with_top (ticked m.guest) t (stored_frame x pc (top m.guest t)))

  guest_now : (landed (losing (begun changed) now.lost) t now).guest ≡ with_top (ticked m.guest) t (stored_frame x pc (top m.guest t))
  guest_now = landed_guest (ticked m.guest) t now.frame now.below has.thread below ∙ ap (λ (f : FrameState). with_top (ticked m.guest) t (stored_frame x pc f)) frame

  stored_led : Led (kept_of m) next_state (landed (losing (begun changed) now.lost) t now)
  stored_led =
      let here : MayStore m.heap (top m.guest t) x = subst (λ (y : FrameState). MayStore m.heap y x) frame may in
      let lost : (landed (losing (begun changed) now.lost) t now).lost ≡ refs_of (take x.taken (top m.guest t).operands) = append-nil now.lost ∙ ap (λ (y : FrameState). refs_of (take x.taken y.operands)) frame in
      record {
        kept = ap (λ (g : GuestState). over (written x m.heap) g) guest_now;
        event = subst (λ (os : List ℕ). IsEventOf (kept_of m) next_state os) (sym lost) (number_led (kept_of m) t x pc sound has here number);
      }

  pub store_answers : (p : Linked) (at : Site) (r' : RunningState) (m' : MachineState) (out : List Record) → at.next ≡ pc → r' ≡ now → m' ≡ landed (losing (begun changed) r'.lost) t r'
      → EventAnswers (store_outcome (moment p m t) at x) ends.Done m m' out out
  store_answers p at r' m' out next e is =
      let led : Led (kept_of m) next_state m' =
      subst (λ (y : MachineState). Led (kept_of m) next_state y) (sym (is ∙ ap (λ (q : RunningState). landed (losing (begun changed) q.lost) t q) e)) stored_led in
      let there : Led (kept_of m) (over (written x m.heap) (with_top (ticked m.guest) t (stored_frame x at.next (top m.guest t)))) m' =
      subst (λ (n : ℕ). Led (kept_of m) (over (written x m.heap) (with_top (ticked m.guest) t (stored_frame x n (top m.guest t)))) m') (sym next) led in
      subst (λ (o : Outcome Kept). EventAnswers o ends.Done m m' out out) (sym (stored_is (moment p m t) at x number)) (there, sym (append-nil out))
