-- What entering a method does: its monitor changes nothing else, and its frame holds its arguments and its lock.
use Rattle.std.proofs.Common.{◌≡◌, ℕ, zero, suc, ◌+◌, ◌-◌, ◌&&◌, List, [], ◌∷◌, set, Option, Some, None, refl, sym, ◌∙◌, ap, subst, inl, inr, Contains, option_to_list, append-nil}
use Rattle.std.specs.Prelude.{nat_le, sum_by}
use Rattle.std.proofs.lemmas.List.{length-set}
use Rattle.std.proofs.lemmas.List.Sums.{sum_by-cons}
use Rattle.std.proofs.lemmas.List.Elements.{Contains-append_cases}
use Rattle.et_base.specs.declared.value.Value.{Value}
use Rattle.et_code.specs.Bodies.{Body}
use Rattle.et_heap.specs.declared.monitor.Monitor.{Monitor}
use Rattle.et_heap.specs.Objects.{ObjectState, Objects, at, found, is_there, object_at, slots_in, made_count, slot_count, most_objects, most_slots, with_monitor}
use Rattle.et_heap.specs.Refs.{refs_of}
use Rattle.et_state.specs.ThreadRoots.{frame_roots}
use Rattle.et_state.specs.Threads.{FrameState, entered_by, locals_with}
use Rattle.et_state.specs.State.{Kept, MachineState, kept_of}
use Rattle.et_state.specs.Words.{thread_at}
use Rattle.et_state.proofs.Places.{refs_of-locals_with}
use Rattle.et_program.specs.Entries.{Linked}
use Rattle.et_event.specs.Frames.{method_frame}
use Rattle.et_event.specs.Moments.{Moment, Doing, with_thread_state, fits_heap}
use Rattle.et_event.specs.Monitors.{Lock, OfObject, OfClass, entered_some}
use Rattle.et_event.specs.Locks.{HasSome}

-- as many objects have room
slots_set : (heap : Objects) (o : ℕ) (x : Monitor) → is_there (at heap o) → sum_by slots_in (set heap o (Some (with_monitor x (found (at heap o))))) ≡ sum_by slots_in heap
slots_set [] o x h = refl
slots_set (None ∷ heap) zero x h = absurd h
slots_set (Some y ∷ heap) zero x h = refl
slots_set (z ∷ heap) (suc o) x h =
    sum_by-cons slots_in z (set heap o (Some (with_monitor x (found (at heap o))))) ∙ (ap (λ (n : ℕ). slots_in z + n) (slots_set heap o x h) ∙ sym (sum_by-cons slots_in z heap))

pub fits_locked : (e : Moment) (lock : Option Lock) (d : Doing) (m : MachineState) → kept_of m ≡ d.state → HasSome m lock → fits_heap (entered_some e lock d).state.heap ≡ fits_heap d.state.heap
fits_locked e None d m kept has = refl
fits_locked e (Some (OfClass c)) d m kept has = refl
fits_locked e (Some (OfObject o)) d m kept has =
    let held : is_there (at d.state.heap o) = subst (λ (k : Kept). is_there (at k.heap o)) kept has in
    let x : Monitor = record { owner = Some e.thread; count = (object_at d.state.heap o).monitor.count + 1 } in
    let y : Option ObjectState = Some (with_monitor x (object_at d.state.heap o)) in
    ap (λ (n : ℕ). nat_le (n - 1) most_objects && nat_le (slot_count (set d.state.heap o y)) most_slots) (length-set d.state.heap o y)
    ∙ ap (λ (n : ℕ). nat_le (made_count d.state.heap) most_objects && nat_le n most_slots) (slots_set d.state.heap o x held)

pub commutes : (e : Moment) (lock : Option Lock) (f : FrameState) (d : Doing)
    → entered_some e lock (with_thread_state e (entered_by f (thread_at d.state.guest e.thread)) d)
    ≡ with_thread_state e (entered_by f (thread_at (entered_some e lock d).state.guest e.thread)) (entered_some e lock d)
commutes e None f d = refl
commutes e (Some (OfObject o)) f d = refl
commutes e (Some (OfClass c)) f d = refl

pub entered_clock : (e : Moment) (lock : Option Lock) (d : Doing) → (entered_some e lock d).state.guest.clock ≡ d.state.guest.clock
entered_clock e None d = refl
entered_clock e (Some (OfObject o)) d = refl
entered_clock e (Some (OfClass c)) d = refl

pub entered_records : (e : Moment) (lock : Option Lock) (d : Doing) → (entered_some e lock d).records ≡ d.records
entered_records e None d = refl
entered_records e (Some (OfObject o)) d = refl
entered_records e (Some (OfClass c)) d = refl

-- what a new frame holds: its arguments and its lock
pub frame_holds : (p : Linked) (method : ℕ) (body : Body) (vs : List Value) (H : ℕ → Type 0) → ((o : ℕ) → Contains (refs_of vs) o → H o) → ((o : ℕ) → Contains (option_to_list (method_frame p method body vs).lock) o → H o)
    → (o : ℕ) → Contains (frame_roots (method_frame p method body vs)) o → H o
frame_holds p method body vs H held locked o c =
    elim (Contains-append_cases (refs_of (locals_with body.max_locals vs)) _ o c) [
      | inl d ↦ held o (subst (λ (os : List ℕ). Contains os o) (refs_of-locals_with body.max_locals vs ∙ append-nil (refs_of vs)) d)
      | inr d ↦ locked o d
    ]
