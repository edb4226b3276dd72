-- The law of drafts for each call of the machine and its heap.
use Rattle.std.proofs.Common.{◌≡◌, ℕ, ◌<◌, false, List, [], ◌∷◌, ◌++◌, length, Option, Some, None, Contains, refl, sym, ◌∙◌, subst, inl, inr, arith, append-nil, option_to_list}
use Rattle.std.proofs.lemmas.List.{length-set}
use Rattle.std.proofs.lemmas.List.Elements.{Contains-append_left}
use Rattle.et_graph.proofs.Among.{waits_one}
use Rattle.et_base.specs.declared.value.Value.{Value}
use Rattle.et_base.proofs.Lists.{Contains-none, Contains-here}
use Rattle.et_heap.specs.declared.monitor.Monitor.{Monitor}
use Rattle.et_heap.specs.Objects.{IsHeld, object_at, new_object, slot_of, with_slot, with_referent, with_queue, with_monitor, with_object_at, Objects, referent_value}
use Rattle.et_heap.specs.Refs.{refs_of_value, refs_of, leads_to}
use Rattle.et_heap.specs.Queues.{first_value, with_waits, without_first_waiting, take_first, polled}
use Rattle.et_heap.proofs.HeapLists.{held_set}
use Rattle.et_state.specs.Threads.{FrameState, at_pc, pushed, popped, without_operands, with_local, operand_of, local_of, in_clinit, without_top, entered_by, with_pending, as_entered, as_ended, ended_roots, new_thread}
use Rattle.et_state.specs.ThreadRoots.{frame_roots}
use Rattle.et_state.specs.NewFrames.{entered_over}
use Rattle.et_state.specs.declared.new_frame.NewHead.{NewHead}
use Rattle.et_state.specs.declared.class_state.ClassState.{ClassState}
use Rattle.et_state.specs.State.{GuestState, Kept, MachineState, kept_of}
use Rattle.et_state.specs.Words.{thread_at, with_new_thread, top, HasFrame, IsUnended, static_at, with_static, with_class_state, with_class_monitor, with_string, with_guest, begun, losing, steps_guest, steps_thread, steps_top, steps_object, with_new_object, with_object}
use Rattle.et_state.specs.Roots.{roots_of}
use Rattle.et_state.specs.Sound.{IsSound}
use Rattle.et_state.specs.Moves.{Moves, WasThere, MayBeTied, IsUnderWay, IsOnWay, AreInHeap, WereThere}
use Rattle.et_state.proofs.Places.{moves_none, frame_push, frame_pop, frame_clear, frame_set_local, frame_in_clinit, guest_top, guest_dropped, guest_entered, guest_over, guest_pending, guest_started, guest_ended, guest_set_entered, guest_static, guest_interned, moves_place, moves_left, moves_right, moves_anew, moves_first, leads-new}
use Rattle.et_state.proofs.UnderWay.{start, law_guest, law_lose, law_object, law_leads, law_beside, law_make, waiting_pair}

-- root places change
guest : (s : Kept) (m : MachineState) (g : GuestState) (l : List ℕ) → IsOnWay s m → Moves (IsHeld m.heap) (WasThere s (kept_of m)) (roots_of m.guest) (roots_of g) l → IsOnWay s (steps_guest m g l)
guest s m g l w moves = law_guest s (kept_of m) m.lost g l w moves

-- nothing more is lost
lost_same : (s x : Kept) (lost : List ℕ) → IsUnderWay s x (lost ++ []) → IsUnderWay s x lost
lost_same s x lost w = subst (λ (os : List ℕ). IsUnderWay s x os) (append-nil lost) w

-- no root place changes
beside : (s : Kept) (m : MachineState) (g : GuestState) → IsOnWay s m → roots_of g ≡ roots_of m.guest → IsOnWay s (with_guest m g)
beside s m g w same =
    lost_same s (kept_of (with_guest m g)) m.lost (guest s m g [] w (subst (λ (os : List ℕ). Moves (IsHeld m.heap) (WasThere s (kept_of m)) (roots_of m.guest) os []) (sym same) (moves_none (IsHeld m.heap) (WasThere s (kept_of m)) (roots_of m.guest))))

pub on_begin_event : (m : MachineState) → IsSound (kept_of m) → IsOnWay (kept_of m) (begun m)
on_begin_event m sound = start (kept_of m) sound

pub on_lose : (s : Kept) (m : MachineState) (l : List ℕ) → IsOnWay s m → WereThere s m l → IsOnWay s (losing m l)
on_lose s m l w were = law_lose s (kept_of m) m.lost l w were

pub on_set_pc : (s : Kept) (m : MachineState) (t pc : ℕ) → IsOnWay s m → HasFrame m.guest t → IsOnWay s (steps_top m t (at_pc pc (top m.guest t)) [])
on_set_pc s m t pc w has = guest s m _ [] w (guest_top _ _ m.guest t (at_pc pc (top m.guest t)) [] has (moves_none _ _ (frame_roots (top m.guest t))))

pub on_push : (s : Kept) (m : MachineState) (t : ℕ) (v : Value) → IsOnWay s m → HasFrame m.guest t → AreInHeap m (refs_of_value v) → IsOnWay s (steps_top m t (pushed v (top m.guest t)) [])
on_push s m t v w has held = guest s m _ [] w (guest_top _ _ m.guest t (pushed v (top m.guest t)) [] has (frame_push (IsHeld m.heap) (WasThere s (kept_of m)) (top m.guest t) v held))

pub on_pop : (s : Kept) (m : MachineState) (t : ℕ) → IsOnWay s m → HasFrame m.guest t → 0 < length (top m.guest t).operands → WereThere s m (refs_of_value (operand_of (top m.guest t) 0)) → IsOnWay s (steps_top m t (popped 1 (top m.guest t)) (refs_of_value (operand_of (top m.guest t) 0)))
on_pop s m t w has lt were = guest s m _ _ w (guest_top _ _ m.guest t (popped 1 (top m.guest t)) _ has (frame_pop (IsHeld m.heap) (WasThere s (kept_of m)) (top m.guest t) lt were))

pub on_clear_operands : (s : Kept) (m : MachineState) (t : ℕ) → IsOnWay s m → HasFrame m.guest t → WereThere s m (refs_of (top m.guest t).operands) → IsOnWay s (steps_top m t (without_operands (top m.guest t)) (refs_of (top m.guest t).operands))
on_clear_operands s m t w has were = guest s m _ _ w (guest_top _ _ m.guest t (without_operands (top m.guest t)) _ has (frame_clear (IsHeld m.heap) (WasThere s (kept_of m)) (top m.guest t) were))

pub on_set_local : (s : Kept) (m : MachineState) (t i : ℕ) (v : Value) → IsOnWay s m → HasFrame m.guest t → i < length (top m.guest t).locals → AreInHeap m (refs_of_value v) → WereThere s m (refs_of_value (local_of (top m.guest t) i))
    → IsOnWay s (steps_top m t (with_local i v (top m.guest t)) (refs_of_value (local_of (top m.guest t) i)))
on_set_local s m t i v w has lt held were = guest s m _ _ w (guest_top _ _ m.guest t (with_local i v (top m.guest t)) _ has (frame_set_local (IsHeld m.heap) (WasThere s (kept_of m)) (top m.guest t) i v lt held were))

pub on_enter_frame : (s : Kept) (m : MachineState) (t : ℕ) (f : FrameState) → IsOnWay s m → t < length m.guest.threads → AreInHeap m (frame_roots f) → IsOnWay s (steps_thread m t (entered_by f (thread_at m.guest t)) [])
on_enter_frame s m t f w lt held = guest s m _ [] w (guest_entered (IsHeld m.heap) (WasThere s (kept_of m)) m.guest t f lt held)

pub on_enter_over : (s : Kept) (m : MachineState) (t : ℕ) (h : NewHead) (count : ℕ) → IsOnWay s m → HasFrame m.guest t → AreInHeap m (option_to_list h.lock) → IsOnWay s (steps_thread m t (entered_over h count (thread_at m.guest t)) [])
on_enter_over s m t h count w has held = guest s m _ [] w (guest_over (IsHeld m.heap) (WasThere s (kept_of m)) m.guest t h count has held)

pub on_enter_clinit : (s : Kept) (m : MachineState) (t method room locals : ℕ) → IsOnWay s m → HasFrame m.guest t → (top m.guest t).locals ≡ [] → (top m.guest t).operands ≡ [] → IsOnWay s (steps_top m t (in_clinit method room locals (top m.guest t)) [])
on_enter_clinit s m t method room locals w has a b = guest s m _ [] w (guest_top _ _ m.guest t (in_clinit method room locals (top m.guest t)) [] has (frame_in_clinit (IsHeld m.heap) (WasThere s (kept_of m)) (top m.guest t) method room locals a b))

pub on_drop_frame : (s : Kept) (m : MachineState) (t : ℕ) → IsOnWay s m → HasFrame m.guest t → WereThere s m (frame_roots (top m.guest t)) → IsOnWay s (steps_thread m t (without_top (thread_at m.guest t)) (frame_roots (top m.guest t)))
on_drop_frame s m t w has were = guest s m _ _ w (guest_dropped (IsHeld m.heap) (WasThere s (kept_of m)) m.guest t has were)

pub on_throw : (s : Kept) (m : MachineState) (t o : ℕ) → IsOnWay s m → t < length m.guest.threads → IsHeld m.heap o → WereThere s m (option_to_list (thread_at m.guest t).pending)
    → IsOnWay s (steps_thread m t (with_pending (Some o) (thread_at m.guest t)) (option_to_list (thread_at m.guest t).pending))
on_throw s m t o w lt held were = guest s m _ _ w (guest_pending (IsHeld m.heap) (WasThere s (kept_of m)) m.guest t (Some o) lt (waits_one (IsHeld m.heap) o held) were)

pub on_take_pending : (s : Kept) (m : MachineState) (t : ℕ) → IsOnWay s m → t < length m.guest.threads → WereThere s m (option_to_list (thread_at m.guest t).pending)
    → IsOnWay s (steps_thread m t (with_pending None (thread_at m.guest t)) (option_to_list (thread_at m.guest t).pending))
on_take_pending s m t w lt were = guest s m _ _ w (guest_pending (IsHeld m.heap) (WasThere s (kept_of m)) m.guest t None lt (λ p c. absurd (Contains-none p c)) were)

pub on_set_entered : (s : Kept) (m : MachineState) (t : ℕ) → IsOnWay s m → IsUnended m.guest t → WereThere s m (option_to_list (thread_at m.guest t).entry)
    → IsOnWay s (steps_thread m t (as_entered (thread_at m.guest t)) (option_to_list (thread_at m.guest t).entry))
on_set_entered s m t w is were = guest s m _ _ w (guest_set_entered (IsHeld m.heap) (WasThere s (kept_of m)) m.guest t is.thread is.unended were)

pub on_end_thread : (s : Kept) (m : MachineState) (t : ℕ) → IsOnWay s m → IsUnended m.guest t → WereThere s m (ended_roots (thread_at m.guest t))
    → IsOnWay s (steps_thread m t (as_ended (thread_at m.guest t)) (ended_roots (thread_at m.guest t)))
on_end_thread s m t w is were = guest s m _ _ w (guest_ended (IsHeld m.heap) (WasThere s (kept_of m)) m.guest t is.thread is.unended were)

pub on_start_thread : (s : Kept) (m : MachineState) (o : ℕ) → IsOnWay s m → IsHeld m.heap o → IsOnWay s (with_guest m (with_new_thread m.guest (new_thread None (Some o))))
on_start_thread s m o w held =
    lost_same s (kept_of (with_guest m (with_new_thread m.guest (new_thread None (Some o))))) m.lost
    (guest s m _ [] w (guest_started (IsHeld m.heap) (WasThere s (kept_of m)) m.guest (new_thread None (Some o)) (waits_one (IsHeld m.heap) o held)))

pub on_set_static : (s : Kept) (m : MachineState) (i : ℕ) (v : Value) → IsOnWay s m → i < length m.guest.statics → AreInHeap m (refs_of_value v) → WereThere s m (refs_of_value (static_at m.guest i))
    → IsOnWay s (steps_guest m (with_static m.guest i v) (refs_of_value (static_at m.guest i)))
on_set_static s m i v w lt held were = guest s m _ _ w (guest_static (IsHeld m.heap) (WasThere s (kept_of m)) m.guest i v lt held were)

pub on_set_class_state : (s : Kept) (m : MachineState) (c : ℕ) (x : ClassState) → IsOnWay s m → IsOnWay s (with_guest m (with_class_state m.guest c x))
on_set_class_state s m c x w = beside s m (with_class_state m.guest c x) w refl

pub on_set_class_monitor : (s : Kept) (m : MachineState) (c : ℕ) (x : Monitor) → IsOnWay s m → IsOnWay s (with_guest m (with_class_monitor m.guest c x))
on_set_class_monitor s m c x w = beside s m (with_class_monitor m.guest c x) w refl

pub on_intern : (s : Kept) (m : MachineState) (text : List ℕ) (o : ℕ) → IsOnWay s m → IsHeld m.heap o → IsOnWay s (with_guest m (with_string m.guest text o))
on_intern s m text o w held =
    lost_same s (kept_of (with_guest m (with_string m.guest text o))) m.lost (guest s m _ [] w (guest_interned (IsHeld m.heap) (WasThere s (kept_of m)) m.guest text o held))

pub on_set_slot : (s : Kept) (m : MachineState) (o i : ℕ) (v : Value) → IsOnWay s m → IsHeld m.heap o → WasThere s (kept_of m) o → i < length (object_at m.heap o).slots
    → AreInHeap m (refs_of_value v) → WereThere s m (refs_of_value v) → WereThere s m (refs_of_value (slot_of (object_at m.heap o) i))
    → IsOnWay s (steps_object m o (with_slot i v (object_at m.heap o)) (refs_of_value (slot_of (object_at m.heap o) i)))
on_set_slot s m o i v w held there lt new known were =
    let moves = moves_left _ _ _ _ (refs_of_value (slot_of (object_at m.heap o) i)) (option_to_list (object_at m.heap o).queue ++ (object_at m.heap o).waiting) (moves_place (MayBeTied s (kept_of m)) (WasThere s (kept_of m)) (object_at m.heap o).slots i v lt (λ r c. (new r c, known r c)) were) in
    law_object s (kept_of m) m.lost o (with_slot i v (object_at m.heap o)) (refs_of_value (slot_of (object_at m.heap o) i)) w held there moves (λ r e. w.sound.referents o r e)

-- the old target is lost already
pub on_heap_set_slot : (s : Kept) (m : MachineState) (o i : ℕ) (v : Value) → IsOnWay s m → IsHeld m.heap o → WasThere s (kept_of m) o → i < length (object_at m.heap o).slots
    → AreInHeap m (refs_of_value v) → WereThere s m (refs_of_value v) → ((r : ℕ) → Contains (refs_of_value (slot_of (object_at m.heap o) i)) r → Contains m.lost r)
    → IsOnWay s (with_object m o (with_slot i v (object_at m.heap o)))
on_heap_set_slot s m o i v w held there lt new known lost =
    let old : Value = slot_of (object_at m.heap o) i in
    let moves = moves_left _ _ _ _ (refs_of_value old) (option_to_list (object_at m.heap o).queue ++ (object_at m.heap o).waiting) (moves_place (λ r. IsHeld m.heap r × WasThere s (kept_of m) r) (λ r. Contains m.lost r) (object_at m.heap o).slots i v lt (λ r c. (new r c, known r c)) lost) in
    lost_same s (kept_of (with_object m o (with_slot i v (object_at m.heap o)))) m.lost
    (law_leads s (kept_of m) m.lost o (with_slot i v (object_at m.heap o)) [] w held there moves.on
    (λ r c. elim (moves.off r c) [ inl d ↦ inl d | inr d ↦ inr (Contains-append_left m.lost [] r (lost r d)) ]) (λ r c. absurd (Contains-none r c)) (λ r e. w.sound.referents o r e))

pub on_set_referent : (s : Kept) (m : MachineState) (o : ℕ) (r : Option ℕ) → IsOnWay s m → IsHeld m.heap o → AreInHeap m (option_to_list r) → IsOnWay s (with_object m o (with_referent r (object_at m.heap o)))
on_set_referent s m o r w held new = law_beside s (kept_of m) m.lost o (with_referent r (object_at m.heap o)) w held refl (λ p e. new p (listed r p e))
  where
    listed : (q : Option ℕ) (p : ℕ) → q ≡ Some p → Contains (option_to_list q) p
    listed q p e = subst (λ (z : Option ℕ). Contains (option_to_list z) p) (sym e) (0, omega arith, refl)

pub on_set_monitor : (s : Kept) (m : MachineState) (o : ℕ) (x : Monitor) → IsOnWay s m → IsHeld m.heap o → IsOnWay s (with_object m o (with_monitor x (object_at m.heap o)))
on_set_monitor s m o x w held = law_beside s (kept_of m) m.lost o (with_monitor x (object_at m.heap o)) w held refl (λ p e. w.sound.referents o p e)

-- QUEUES

moves_queue : (H R : ℕ → Type 0) (was q : Option ℕ) → ((o : ℕ) → Contains (option_to_list q) o → H o) → ((o : ℕ) → Contains (refs_of_value (referent_value was)) o → R o) → Moves H R (option_to_list was) (option_to_list q) (refs_of_value (referent_value was))
moves_queue H R None q h r = moves_anew H R [] (option_to_list q) h r
moves_queue H R (Some o) q h r = moves_anew H R (o ∷ []) (option_to_list q) h r

-- a queue in the place of another, which is lost
pub on_set_queue : (s : Kept) (m : MachineState) (o : ℕ) (q : Option ℕ) → IsOnWay s m → IsHeld m.heap o → WasThere s (kept_of m) o
    → AreInHeap m (option_to_list q) → WereThere s m (option_to_list q) → WereThere s m (refs_of_value (referent_value (object_at m.heap o).queue))
    → IsOnWay s (steps_object m o (with_queue q (object_at m.heap o)) (refs_of_value (referent_value (object_at m.heap o).queue)))
on_set_queue s m o q w held there new known were =
    let x = object_at m.heap o in
    let l = refs_of_value (referent_value x.queue) in
    let moves = moves_right _ _ _ _ l (refs_of x.slots) (moves_left _ _ _ _ l x.waiting (moves_queue (MayBeTied s (kept_of m)) (WasThere s (kept_of m)) x.queue q (λ r c. (new r c, known r c)) were)) in
    law_object s (kept_of m) m.lost o (with_queue q x) l w held there moves (λ r e. w.sound.referents o r e)

on_take_first : (s : Kept) (m : MachineState) (q : ℕ) (rs : List ℕ) → (object_at m.heap q).waiting ≡ rs → IsOnWay s m → IsHeld m.heap q → WasThere s (kept_of m) q → WereThere s m (refs_of_value (first_value rs))
    → IsOnWay s (record m { heap = take_first rs q m.heap; lost = m.lost ++ refs_of_value (first_value rs) })
on_take_first s m q [] e w held there were = subst (λ (os : List ℕ). IsUnderWay s (kept_of m) os) (sym (append-nil m.lost)) w
on_take_first s m q (r ∷ rs) e w held there were =
    let x = object_at m.heap q in
    let was : WereThere s m (refs_of_value (first_value x.waiting)) = subst (λ (os : List ℕ). WereThere s m (refs_of_value (first_value os))) (sym e) were in
    let moves : Moves (MayBeTied s (kept_of m)) (WasThere s (kept_of m)) (leads_to x) (leads_to (without_first_waiting x)) (refs_of_value (first_value x.waiting)) =
    moves_right _ _ _ _ (refs_of_value (first_value x.waiting)) (refs_of x.slots) (moves_right _ _ _ _ (refs_of_value (first_value x.waiting)) (option_to_list x.queue) (moves_first _ _ x.waiting was)) in
    let lost : Moves (MayBeTied s (kept_of m)) (WasThere s (kept_of m)) (leads_to x) (leads_to (without_first_waiting x)) (r ∷ []) =
    subst (λ (os : List ℕ). Moves (MayBeTied s (kept_of m)) (WasThere s (kept_of m)) (leads_to x) (leads_to (without_first_waiting x)) (refs_of_value (first_value os))) e moves in
    let next : IsUnderWay s (record { heap = with_object_at m.heap q (without_first_waiting x); guest = m.guest }) (m.lost ++ r ∷ []) =
    law_object s (kept_of m) m.lost q (without_first_waiting x) (r ∷ []) w held there lost (λ p f. w.sound.referents q p f) in
    let waits : Contains x.waiting r = subst (λ (os : List ℕ). Contains os r) (sym e) (Contains-here r rs) in
    let first : IsHeld m.heap r = w.sound.slots q r (waiting_pair m.heap q r waits) in
    law_beside s (record { heap = with_object_at m.heap q (without_first_waiting x); guest = m.guest }) (m.lost ++ r ∷ []) r
    (with_waits false (object_at (with_object_at m.heap q (without_first_waiting x)) r)) next (held_set m.heap q (without_first_waiting x) r held first) refl (λ p f. next.sound.referents r p f)

-- it keeps what is held, and makes nothing
pub first_taken_held : (heap : Objects) (q : ℕ) (rs : List ℕ) → IsHeld heap q → ((r : ℕ) → Contains rs r → IsHeld heap r) → (o : ℕ) → IsHeld heap o → IsHeld (take_first rs q heap) o
first_taken_held heap q [] held all o h = h
first_taken_held heap q (r ∷ rs) held all o h =
    let y = without_first_waiting (object_at heap q) in
    held_set (with_object_at heap q y) r (with_waits false (object_at (with_object_at heap q y) r)) o (held_set heap q y r held (all r (Contains-here r rs))) (held_set heap q y o held h)

pub first_taken_long : (heap : Objects) (q : ℕ) (rs : List ℕ) → length (take_first rs q heap) ≡ length heap
first_taken_long heap q [] = refl
first_taken_long heap q (r ∷ rs) =
    let y = without_first_waiting (object_at heap q) in
    length-set (with_object_at heap q y) r (Some (with_waits false (object_at (with_object_at heap q y) r))) ∙ length-set heap q (Some y)

-- the first reference that waits in a queue is taken out of it, and is lost
pub on_poll : (s : Kept) (m : MachineState) (q : ℕ) → IsOnWay s m → IsHeld m.heap q → WasThere s (kept_of m) q → WereThere s m (refs_of_value (first_value (object_at m.heap q).waiting))
    → IsOnWay s (record m { heap = polled q m.heap; lost = m.lost ++ refs_of_value (first_value (object_at m.heap q).waiting) })
on_poll s m q w held there were = on_take_first s m q (object_at m.heap q).waiting refl w held there were

pub on_make : (s : Kept) (m : MachineState) (class elements slots : ℕ) → IsOnWay s m → IsOnWay s (with_new_object m (new_object class elements slots))
on_make s m class elements slots w = law_make s (kept_of m) m.lost (new_object class elements slots) w (leads-new class elements slots) refl
