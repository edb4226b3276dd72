-- The event in which an initializer fails.
use Rattle.std.proofs.Common.{◌≡◌, ℕ, zero, suc, ◌+◌, ◌*◌, ◌<◌, ◌≤◌, ◌^◌, Bool, true, false, ◌&&◌, List, [], ◌∷◌, ◌++◌, length, set, get_or, Option, Some, None, option_to_list, refl, sym, ◌∙◌, ap, subst, arith, inl, inr, Contains, get_or-set_same, append-nil, append_assoc}
use Rattle.std.specs.Prelude.{nat_le}
use Rattle.std.proofs.Math.Seq.{set-append_seam}
use Rattle.std.proofs.lemmas.Bool.{cases_lt}
use Rattle.std.proofs.lemmas.List.{length-set, length-replicate, length_push, get_or_at, get_or_past, set_past}
use Rattle.std.proofs.lemmas.List.Sums.{sum_by_push}
use Rattle.et_graph.proofs.Among.{waits_one}
use Rattle.et_heap.proofs.References.{unset_at, found_there}
use Rattle.et_base.specs.declared.value.Value.{Value}
use Rattle.et_base.specs.declared.value.Value.TheVariants.{Unset, Ref}
use Rattle.et_graph.specs.Graph.{IsReached}
use Rattle.et_base.proofs.Lists.{Contains-here, Contains-none}
use Rattle.et_heap.specs.Objects.{ObjectState, Objects, IsHeld, at, object_at, found, new_object, slot_of, with_slot, with_object_at, slots_in, made_count, slot_count, most_objects, most_slots, has_room}
use Rattle.et_heap.specs.Refs.{refs_of_value}
use Rattle.et_heap.proofs.HeapLists.{held_set}
use Rattle.et_program.specs.Entries.{Linked, class_at}
use Rattle.et_state.specs.Threads.{ThreadState, no_thread, with_pending, without_top}
use Rattle.et_state.specs.ThreadRoots.{frame_roots}
use Rattle.et_state.specs.declared.class_state.ClassState.TheVariants as states
use Rattle.et_state.specs.State.{Kept, MachineState, kept_of}
use Rattle.et_state.specs.Words.{thread_at, top, HasFrame, begun, steps_thread, steps_object, with_new_object}
use Rattle.et_state.specs.Roots.{graph_of}
use Rattle.et_state.specs.Sound.{IsSound}
use Rattle.et_state.specs.Moves.{IsOnWay, Led, WasThere, WereThere}
use Rattle.et_state.proofs.Places.{top_root, pending_root, leads-new}
use Rattle.et_state.proofs.UnderWay.{root_is_reached}
use Rattle.et_state.proofs.Calls.{on_begin_event, on_drop_frame, on_set_class_state, on_set_slot, on_throw}
use Rattle.et_state.proofs.Steps.{led_plain, led_made, made_on_way, newest_held, new_there, root_there}
use Rattle.et_state.specs.declared.records.Record.{Record}
use Rattle.et_state.specs.declared.records.Record.TheVariants.{Alloc, Update}
use Rattle.et_state.specs.declared.ends.EventEnd.TheVariants as ends
use Rattle.et_state.specs.Outcome.{Outcome}
use Rattle.et_event.specs.declared.errors.GuestError.TheVariants.{ExceptionInInitializerError}
use Rattle.et_event.specs.Answered.{EventAnswers}
use Rattle.et_event.specs.Errors.{error_class}
use Rattle.et_event.specs.Initialization.{with_state}
use Rattle.et_event.specs.Moments.{moment, Doing, fits_heap, number_of_value, ends_event as ending}
use Rattle.et_event.specs.Throw.{replaced}
use Rattle.et_event.proofs.Throwing.{ends_fit}
use Rattle.et_throw.specs.Unwinding.{initializer_left, initializer_dropped, unwind_records, IsThrowMade}
use Rattle.et_throw.proofs.Caught.{roots_are_few}
use Rattle.et_throw.proofs.Turning.{pending_held}

-- THE FRAME IS DROPPED

pub drops_few : (m m' : MachineState) (t class : ℕ) → length (top m.guest t).locals + length (top m.guest t).operands < 2 ^ 17 → m' ≡ initializer_dropped t class m → length m'.lost ≤ 2 ^ 17
drops_few m m' t class small e =
    let few : length (frame_roots (top m.guest t)) ≤ 2 ^ 17 = roots_are_few (top m.guest t) small in
    subst (λ (n : MachineState). length n.lost ≤ 2 ^ 17) (sym e) few

-- an event that began on the way from s to b, in which the frame of thread t stood in s
dropped_on_way : (s : Kept) (m : MachineState) (t class : ℕ) → IsOnWay s (begun m) → HasFrame m.guest t → ((o : ℕ) → Contains (frame_roots (top m.guest t)) o → WasThere s (kept_of (begun m)) o) → IsOnWay s (initializer_dropped t class m)
dropped_on_way s m t class w has there =
    on_set_class_state s (steps_thread (begun m) t (without_top (thread_at m.guest t)) (frame_roots (top m.guest t))) class states.Failed
    (on_drop_frame s (begun m) t w (record { thread = has.thread; frame = has.frame }) there)

-- THE EXCEPTION STAYS PENDING

abbrev failed_plainly : Linked → MachineState → ℕ → ℕ → ℕ → Bool → Doing
failed_plainly p m t class o tells = with_state class states.Failed (initializer_left (moment p m t) tells o)

failed_led : (m m' : MachineState) (t class : ℕ) → IsSound (kept_of m) → HasFrame m.guest t → m' ≡ initializer_dropped t class m → Led (kept_of m) (kept_of (initializer_dropped t class m)) m'
failed_led m m' t class sound has e =
    let s : Kept = kept_of m in
    let w : IsOnWay s (initializer_dropped t class m) = dropped_on_way s m t class (on_begin_event m sound) has (λ o c. root_there s (kept_of (begun m)) o (top_root m.guest t o has c)) in
    led_plain s _ m' (subst (λ (n : MachineState). IsOnWay s n) (sym e) w) (ap (λ (n : MachineState). length n.heap) e) (ap (λ (n : MachineState). kept_of n) e)

pub failed_answers : (p : Linked) (t class o : ℕ) (tells : Bool) (m m' : MachineState) (out out' : List Record) → IsSound (kept_of m) → HasFrame m.guest t → fits_heap m.heap ≡ true → m' ≡ initializer_dropped t class m
    → out' ≡ out ++ unwind_records m t tells o → EventAnswers (ending (failed_plainly p m t class o tells)) ends.Done m m' out out'
failed_answers p t class o true m m' out out' sound has fit e told_is =
    subst (λ (x : Outcome Kept). EventAnswers x ends.Done m m' out out') (sym (ends_fit (failed_plainly p m t class o true) fit)) (failed_led m m' t class sound has e, told_is)
failed_answers p t class o false m m' out out' sound has fit e told_is =
    subst (λ (x : Outcome Kept). EventAnswers x ends.Done m m' out out') (sym (ends_fit (failed_plainly p m t class o false) fit)) (failed_led m m' t class sound has e, told_is)

-- A NEW ERROR, of this class and with so many slots

abbrev error_object : ℕ → ℕ → ObjectState
error_object class slots = new_object class 0 slots

-- with its cause
abbrev with_cause : ℕ → ObjectState → ObjectState
with_cause o x = with_slot 1 (Ref o) x

newest : (heap : Objects) (x : ObjectState) → object_at (heap ++ Some x ∷ []) (length heap) ≡ x
newest heap x = ap found (get_or_at heap (Some x) [] None (length heap) refl)

pub newest_slots : (m : MachineState) (class slots : ℕ) → length (object_at (m.heap ++ Some (error_object class slots) ∷ []) (length m.heap)).slots ≡ slots
newest_slots m class slots = ap (λ (x : ObjectState). length x.slots) (newest m.heap (error_object class slots)) ∙ length-replicate slots Unset

first_cause : (heap : Objects) (class slots : ℕ) → slot_of (object_at (heap ++ Some (error_object class slots) ∷ []) (length heap)) 1 ≡ Unset
first_cause heap class slots = ap (λ (x : ObjectState). slot_of x 1) (newest heap (error_object class slots)) ∙ unset_at slots 1

set_itself : (xs : Objects) (i : ℕ) (x : Option ObjectState) → x ≡ get_or xs i None → set xs i x ≡ xs
set_itself [] i x e = refl
set_itself (y ∷ ys) zero x e = ap (λ (z : Option ObjectState). z ∷ ys) e
set_itself (y ∷ ys) (suc i) x e = ap (λ (zs : Objects). y ∷ zs) (set_itself ys i x e)

-- where it has no slot for it, writing it changes nothing
no_cause : (m : MachineState) (o cause : ℕ) → IsHeld m.heap o → length (object_at m.heap o).slots ≤ 1
    → m ≡ steps_object m o (with_cause cause (object_at m.heap o)) (refs_of_value (slot_of (object_at m.heap o) 1))
no_cause m o cause held few =
    let x : ObjectState = object_at m.heap o in
    let none : slot_of x 1 ≡ Unset = get_or_past x.slots 1 Unset few in
    let same : with_cause cause x ≡ x = ap (λ (vs : List Value). record x { slots = vs }) (set_past x.slots 1 (Ref cause) few) in
    sym (ap (λ (y : ObjectState). steps_object m o y (refs_of_value (slot_of x 1))) same
    ∙ (ap (λ (v : Value). steps_object m o x (refs_of_value v)) none
    ∙ (ap (λ (h : Objects). record m { heap = h; lost = m.lost ++ [] }) (set_itself m.heap o (Some x) (found_there (at m.heap o) held))
    ∙ ap (λ (l : List ℕ). record m { lost = l }) (append-nil m.lost))))

-- THE EVENT

-- the machine after each call
abbrev without_initializer : MachineState → ℕ → ℕ → ℕ → ℕ → MachineState
without_initializer m t class kind slots = initializer_dropped t class (with_new_object m (error_object kind slots))

abbrev caused : MachineState → ℕ → ℕ → MachineState
caused b n o = steps_object b n (with_cause o (object_at b.heap n)) (refs_of_value (slot_of (object_at b.heap n) 1))

abbrev thrown : MachineState → ℕ → ℕ → MachineState
thrown b t n = steps_thread b t (with_pending (Some n) (thread_at b.guest t)) (option_to_list (thread_at b.guest t).pending)

abbrev with_error : MachineState → ℕ → ℕ → ℕ → ℕ → ℕ → MachineState
with_error m t class kind slots o = thrown (caused (without_initializer m t class kind slots) (length m.heap) o) t (length m.heap)

-- what is known where the frame of the initializer was dropped
record IsDropped (m : MachineState) (t o : ℕ) (b : MachineState) : Type 0 where
  way : IsOnWay (kept_of m) b
  long : t < length b.guest.threads
  pending : (thread_at b.guest t).pending ≡ Some o

is_dropped : (m : MachineState) (t class kind slots o : ℕ) → IsSound (kept_of m) → HasFrame m.guest t → (thread_at m.guest t).pending ≡ Some o → IsDropped m t o (without_initializer m t class kind slots)
is_dropped m t class kind slots o sound has pending =
    let s : Kept = kept_of m in
    let m₀ : MachineState = with_new_object m (error_object kind slots) in
    record {
      way = dropped_on_way s m₀ t class (made_on_way m (error_object kind slots) sound (leads-new kind 0 slots) refl) has (λ q c. root_there s (kept_of (begun m₀)) q (top_root m.guest t q has c));
      long = subst (λ (n : ℕ). t < n) (sym (length-set m.guest.threads t (without_top (thread_at m.guest t)))) has.thread;
      pending = ap (λ (x : ThreadState). x.pending) (get_or-set_same m.guest.threads t (without_top (thread_at m.guest t)) no_thread has.thread) ∙ pending;
    }

pending_was : (m : MachineState) (t o : ℕ) (x : Kept) → HasFrame m.guest t → (thread_at m.guest t).pending ≡ Some o → WasThere (kept_of m) x o
pending_was m t o x has pending =
    root_there (kept_of m) x o (pending_root m.guest t o has.thread (subst (λ (q : Option ℕ). Contains (option_to_list q) o) (sym pending) (Contains-here o [])))

caused_on_way : (m : MachineState) (t class kind slots o : ℕ) → IsSound (kept_of m) → HasFrame m.guest t → (thread_at m.guest t).pending ≡ Some o → IsOnWay (kept_of m) (caused (without_initializer m t class kind slots) (length m.heap) o)
caused_on_way m t class kind slots o sound has pending =
    let s : Kept = kept_of m in
    let y : ObjectState = error_object kind slots in
    let n : ℕ = length m.heap in
    let b : MachineState = without_initializer m t class kind slots in
    let d : IsDropped m t o b = is_dropped m t class kind slots o sound has pending in
    let more : length b.heap ≡ n + 1 = length_push m.heap (Some y) in
    elim (cases_lt 1 slots) [
      | inl lt ↦
          on_set_slot s b n 1 (Ref o) d.way (newest_held m.heap y) (new_there s (kept_of b) n (omega arith) (omega arith)) (subst (λ (k : ℕ). 1 < k) (sym (newest_slots m kind slots)) lt)
          (waits_one (IsHeld b.heap) o (pending_held (kept_of b) t o d.way.sound d.long d.pending))
          (waits_one (WasThere s (kept_of b)) o (pending_was m t o (kept_of b) has pending))
          (λ q c. absurd (Contains-none q (subst (λ (v : Value). Contains (refs_of_value v) q) (first_cause m.heap kind slots) c)))
      | inr le ↦ subst (λ (z : MachineState). IsOnWay s z) (no_cause b n o (newest_held m.heap y) (subst (λ (k : ℕ). k ≤ 1) (sym (newest_slots m kind slots)) le)) d.way
    ]

replaced_led : (m m' : MachineState) (t class kind slots o : ℕ) → IsSound (kept_of m) → HasFrame m.guest t → (thread_at m.guest t).pending ≡ Some o → m' ≡ with_error m t class kind slots o → Led (kept_of m) (kept_of (with_error m t class kind slots o)) m'
replaced_led m m' t class kind slots o sound has pending e =
    let s : Kept = kept_of m in
    let y : ObjectState = error_object kind slots in
    let n : ℕ = length m.heap in
    let b₃ : MachineState = without_initializer m t class kind slots in
    let b₄ : MachineState = caused b₃ n o in
    let b₅ : MachineState = thrown b₄ t n in
    let d : IsDropped m t o b₃ = is_dropped m t class kind slots o sound has pending in
    let held : IsHeld b₄.heap n = held_set b₃.heap n (with_cause o (object_at b₃.heap n)) n (newest_held m.heap y) (newest_held m.heap y) in
    let were : WereThere s b₄ (option_to_list (thread_at b₄.guest t).pending) =
    λ q c. waits_one (WasThere s (kept_of b₄)) o (pending_was m t o (kept_of b₄) has pending) q (subst (λ (p : Option ℕ). Contains (option_to_list p) q) d.pending c) in
    let w : IsOnWay s b₅ = on_throw s b₄ t n (caused_on_way m t class kind slots o sound has pending) d.long held were in
    let x : ThreadState = with_pending (Some n) (thread_at b₄.guest t) in
    let long : t < length b₅.guest.threads = subst (λ (j : ℕ). t < j) (sym (length-set b₄.guest.threads t x)) d.long in
    let here : Contains (option_to_list (thread_at b₅.guest t).pending) n = subst (λ (z : ThreadState). Contains (option_to_list z.pending) n) (sym (get_or-set_same b₄.guest.threads t x no_thread d.long)) (Contains-here n []) in
    let reached : IsReached (graph_of (kept_of b₅)) n = root_is_reached (kept_of b₅) n (pending_root b₅.guest t n long here) in
    led_made s (kept_of b₅) m' (subst (λ (z : MachineState). IsOnWay s z) (sym e) w)
    (ap (λ (z : MachineState). length z.heap) e ∙ (length-set b₃.heap n (Some (with_cause o (object_at b₃.heap n))) ∙ length_push m.heap (Some y)))
    (subst (λ (z : MachineState). IsReached (graph_of (kept_of z)) n) (sym e) reached) (ap (λ (z : MachineState). kept_of z) e)

-- ITS ROOM

fits_more : (heap : Objects) (x : ObjectState) → 0 < length heap → fits_heap (heap ++ Some x ∷ []) ≡ has_room heap 1 (length x.slots)
fits_more heap x lt =
    let pushed : length (heap ++ Some x ∷ []) ≡ length heap + 1 = length_push heap (Some x) in
    let objects : made_count (heap ++ Some x ∷ []) ≡ made_count heap + 1 = omega arith in
    let more : slot_count (heap ++ Some x ∷ []) ≡ slot_count heap + length x.slots = sum_by_push slots_in heap (Some x) in
    ap (λ (n : ℕ). nat_le n most_objects && nat_le (slot_count (heap ++ Some x ∷ [])) most_slots) objects
    ∙ ap (λ (n : ℕ). nat_le (made_count heap + 1) most_objects && nat_le n most_slots) more

fits_caused : (heap : Objects) (kind slots o : ℕ) → 0 < length heap
    → fits_heap (with_object_at (heap ++ Some (error_object kind slots) ∷ []) (length heap) (with_cause o (object_at (heap ++ Some (error_object kind slots) ∷ []) (length heap)))) ≡ has_room heap 1 slots
fits_caused heap kind slots o lt =
    let y : ObjectState = error_object kind slots in
    let many : length (with_cause o y).slots ≡ slots = length-set y.slots 1 (Ref o) ∙ length-replicate slots Unset in
    ap (λ (x : ObjectState). fits_heap (with_object_at (heap ++ Some y ∷ []) (length heap) (with_cause o x))) (newest heap y)
    ∙ (ap (λ (h : Objects). fits_heap h) (set-append_seam heap (Some y) [] (Some (with_cause o y)))
    ∙ (fits_more heap (with_cause o y) lt
    ∙ ap (λ (n : ℕ). has_room heap 1 n) many))

-- WHAT IT ANSWERS

abbrev error_records : MachineState → ℕ → ℕ → ℕ → Value → ℕ → List Record
error_records m t kind slots old o = Alloc (m.guest.clock + 1) t (length m.heap) kind (16 + 8 * slots) 0 ∷ Update (m.guest.clock + 1) t (length m.heap) 1 (number_of_value old) o ∷ []

abbrev kind_of : Linked → ℕ
kind_of p = error_class p ExceptionInInitializerError

abbrev slots_of : Linked → ℕ
slots_of p = (class_at p (kind_of p)).info.slots

abbrev replaced_there : Linked → MachineState → ℕ → ℕ → ℕ → Bool → Doing
replaced_there p m t class o tells = replaced (moment p m t) o (failed_plainly p m t class o tells)

-- the error has no cause yet
records_told : (p : Linked) (m : MachineState) (t o : ℕ) (tells : Bool) (out out' : List Record) → out' ≡ (out ++ unwind_records m t tells o) ++ error_records m t (kind_of p) (slots_of p) Unset o
    → out' ≡ out ++ (unwind_records m t tells o ++ error_records m t (kind_of p) (slots_of p) (slot_of (object_at (m.heap ++ Some (error_object (kind_of p) (slots_of p)) ∷ []) (length m.heap)) 1) o)
records_told p m t o tells out out' e =
    e ∙ (append_assoc out (unwind_records m t tells o) (error_records m t (kind_of p) (slots_of p) Unset o)
    ∙ ap (λ (v : Value). out ++ (unwind_records m t tells o ++ error_records m t (kind_of p) (slots_of p) v o)) (sym (first_cause m.heap (kind_of p) (slots_of p))))

done_by : (p : Linked) (t class o : ℕ) (tells : Bool) (m m' : MachineState) (out out' : List Record) → fits_heap (replaced_there p m t class o tells).state.heap ≡ true
    → Led (kept_of m) (replaced_there p m t class o tells).state m' → out' ≡ out ++ (replaced_there p m t class o tells).records
    → EventAnswers (ending (replaced_there p m t class o tells)) ends.Done m m' out out'
done_by p t class o tells m m' out out' fit led told_is =
    subst (λ (x : Outcome Kept). EventAnswers x ends.Done m m' out out') (sym (ends_fit (replaced_there p m t class o tells) fit)) (led, told_is)

pub replaced_answers : (p : Linked) (t class o : ℕ) (tells : Bool) (m m' : MachineState) (out out' : List Record) → IsSound (kept_of m) → HasFrame m.guest t → (thread_at m.guest t).pending ≡ Some o
    → has_room m.heap 1 (slots_of p) ≡ true → m' ≡ with_error m t class (kind_of p) (slots_of p) o
    → out' ≡ (out ++ unwind_records m t tells o) ++ error_records m t (kind_of p) (slots_of p) Unset o
    → EventAnswers (ending (replaced_there p m t class o tells)) ends.Done m m' out out'
replaced_answers p t class o true m m' out out' sound has pending room e told_is =
    done_by p t class o true m m' out out' (fits_caused m.heap (kind_of p) (slots_of p) o sound.room ∙ room) (replaced_led m m' t class (kind_of p) (slots_of p) o sound has pending e) (records_told p m t o true out out' told_is)
replaced_answers p t class o false m m' out out' sound has pending room e told_is =
    done_by p t class o false m m' out out' (fits_caused m.heap (kind_of p) (slots_of p) o sound.room ∙ room) (replaced_led m m' t class (kind_of p) (slots_of p) o sound has pending e) (records_told p m t o false out out' told_is)

-- .. of the class that has the name, call by call
abbrev told_error : MachineState → ℕ → ℕ → ℕ → ℕ → ℕ → List Record
told_error m t n kind slots o = Alloc (m.guest.clock + 1) t n kind (16 + 8 * slots) 0 ∷ Update (m.guest.clock + 1) t n 1 0 o ∷ []

error_is : (p : Linked) (m : MachineState) (t class kind slots n o : ℕ) (m₀ m₃ m₄ m' : MachineState) → kind ≡ kind_of p → slots ≡ slots_of p → IsThrowMade kind slots (Some n) m m₀
    → m₃ ≡ initializer_dropped t class m₀ → m₄ ≡ caused m₃ n o → m' ≡ thrown m₄ t n → m' ≡ with_error m t class (kind_of p) (slots_of p) o
error_is p m t class kind slots n o m₀ m₃ m₄ m' name many made e₃ e₄ e₅ =
    e₅ ∙ (ap (λ (z : MachineState). thrown z t n) e₄ ∙ (ap (λ (z : MachineState). thrown (caused z n o) t n) e₃
    ∙ (ap (λ (z : MachineState). thrown (caused (initializer_dropped t class z) n o) t n) made.2
    ∙ (ap (λ (k : ℕ). thrown (caused (without_initializer m t class kind slots) k o) t k) made.1
    ∙ (ap (λ (k : ℕ). with_error m t class k slots o) name
    ∙ ap (λ (k : ℕ). with_error m t class (kind_of p) k o) many)))))

told_is_there : (p : Linked) (m : MachineState) (t kind slots n o : ℕ) (tells : Bool) (m₀ : MachineState) (out out₁ out' : List Record) → kind ≡ kind_of p → slots ≡ slots_of p → IsThrowMade kind slots (Some n) m m₀
    → out₁ ≡ out ++ unwind_records m₀ t tells o → out' ≡ out₁ ++ told_error m₀ t n kind slots o
    → out' ≡ (out ++ unwind_records m t tells o) ++ error_records m t (kind_of p) (slots_of p) Unset o
told_is_there p m t kind slots n o tells m₀ out out₁ out' name many made e₁ e₂ =
    e₂ ∙ (ap (λ (rs : List Record). rs ++ told_error m₀ t n kind slots o) e₁
    ∙ (ap (λ (z : MachineState). (out ++ unwind_records z t tells o) ++ told_error z t n kind slots o) made.2
    ∙ (ap (λ (k : ℕ). (out ++ unwind_records m t tells o) ++ told_error m t k kind slots o) made.1
    ∙ (ap (λ (k : ℕ). (out ++ unwind_records m t tells o) ++ told_error m t (length m.heap) k slots o) name
    ∙ ap (λ (k : ℕ). (out ++ unwind_records m t tells o) ++ told_error m t (length m.heap) (kind_of p) k o) many))))

slots_by_name : (p : Linked) (kind slots : ℕ) → kind ≡ kind_of p → slots ≡ (class_at p kind).info.slots → slots ≡ slots_of p
slots_by_name p kind slots name many = many ∙ ap (λ (k : ℕ). (class_at p k).info.slots) name

pub replaced_by_name : (p : Linked) (t class kind slots n o : ℕ) (tells : Bool) (m m₀ m₃ m₄ m' : MachineState) (out out₁ out' : List Record) → IsSound (kept_of m) → HasFrame m.guest t → (thread_at m.guest t).pending ≡ Some o
    → kind ≡ kind_of p → slots ≡ (class_at p kind).info.slots → IsThrowMade kind slots (Some n) m m₀ → out₁ ≡ out ++ unwind_records m₀ t tells o → out' ≡ out₁ ++ told_error m₀ t n kind slots o
    → m₃ ≡ initializer_dropped t class m₀ → m₄ ≡ caused m₃ n o → m' ≡ thrown m₄ t n
    → EventAnswers (ending (replaced_there p m t class o tells)) ends.Done m m' out out'
replaced_by_name p t class kind slots n o tells m m₀ m₃ m₄ m' out out₁ out' sound has pending name many made told₁ told₂ e₃ e₄ e₅ =
    let all : slots ≡ slots_of p = slots_by_name p kind slots name many in
    replaced_answers p t class o tells m m' out out' sound has pending (ap (λ (k : ℕ). has_room m.heap 1 k) (sym all) ∙ made.0) (error_is p m t class kind slots n o m₀ m₃ m₄ m' name all made e₃ e₄ e₅)
    (told_is_there p m t kind slots n o tells m₀ out out₁ out' name all made told₁ told₂)
