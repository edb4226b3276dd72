-- The monitors of a sound state are there, and none was entered too often.
use Rattle.std.proofs.Common.{◌≡◌, ℕ, ◌<◌, ◌≤◌, ◌^◌, true, false, List, length, Option, Some, None, option_to_list, refl, sym, subst, arith, Contains}
use Rattle.std.specs.Prelude.{if◌then◌else◌, option_map}
use Rattle.std.proofs.lemmas.List.Elements.{All-get_or}
use Rattle.et_heap.proofs.References.{there_is}
use Rattle.et_class.specs.Names.{has}
use Rattle.et_class.specs.declared.flags.TheConstants.{STATIC, SYNCHRONIZED}
use Rattle.et_program.specs.Entries.{Linked}
use Rattle.et_program.specs.declared.info.MethodInfo.{MethodInfo}
use Rattle.et_heap.specs.declared.monitor.Monitor.{Monitor}
use Rattle.et_heap.specs.Objects.{Objects, ObjectState, IsHeld, at, found, free_monitor}
use Rattle.et_state.specs.declared.stage.Stage.{Stage}
use Rattle.et_state.specs.declared.stage.Stage.TheVariants.{Plain, Before, Clinit}
use Rattle.et_state.specs.Threads.{FrameState}
use Rattle.et_state.specs.State.{MachineState, kept_of}
use Rattle.et_state.specs.Words.{HasFrame, top}
use Rattle.et_state.proofs.Places.{top_root, lock_root}
use Rattle.et_event.specs.Monitors.{Lock, OfObject, OfClass, lock_for, lock_in}
use Rattle.et_event.specs.Sites.{running_method}
use Rattle.et_event.specs.Sound.{IsSoundFor, IsSoundMonitor}
use Rattle.et_event.specs.Locks.{HasSome, IsFewTimes, IsSomeFewTimes, monitor_at}

-- THE LOCK OF A METHOD, AND OF THE TOPMOST FRAME

receiver_there : (m : MachineState) (r : Option ℕ) → ((o : ℕ) → r ≡ Some o → IsHeld m.heap o) → HasSome m (option_map OfObject r)
receiver_there m None held = tt
receiver_there m (Some o) held = held o refl

pub method_lock_there : (m : MachineState) (x : MethodInfo) (r : Option ℕ) → x.class < length m.guest.class_monitors → ((o : ℕ) → r ≡ Some o → IsHeld m.heap o) → HasSome m (lock_for x r)
method_lock_there m x r class held =
    elim (has x.flags SYNCHRONIZED) as (λ b. HasSome m (if b then (if has x.flags STATIC then Some (OfClass x.class) else option_map OfObject r) else None)) [
      | true ↦ elim (has x.flags STATIC) as (λ b. HasSome m (if b then Some (OfClass x.class) else option_map OfObject r)) [ true ↦ class | false ↦ receiver_there m r held ]
      | false ↦ tt
    ]

stage_lock_there : (m : MachineState) (stage : Stage) (x : MethodInfo) (r : Option ℕ) → x.class < length m.guest.class_monitors → ((o : ℕ) → r ≡ Some o → IsHeld m.heap o) → HasSome m (lock_in stage x r)
stage_lock_there m Plain x r class held = method_lock_there m x r class held
stage_lock_there m (Before c) x r class held = tt
stage_lock_there m (Clinit c) x r class held = tt

pub lock_listed : (r : Option ℕ) (o : ℕ) → r ≡ Some o → Contains (option_to_list r) o
lock_listed r o e = subst (λ (q : Option ℕ). Contains (option_to_list q) o) (sym e) (0, omega arith, refl)

pub frame_lock_there : (p : Linked) (m : MachineState) (t : ℕ) → IsSoundFor p (kept_of m) → HasFrame m.guest t → (running_method p (top m.guest t)).class < length p.classes
    → HasSome m (lock_in (top m.guest t).stage (running_method p (top m.guest t)) (top m.guest t).lock)
frame_lock_there p m t sound has class =
    let f : FrameState = top m.guest t in
    stage_lock_there m f.stage (running_method p f) f.lock (subst (λ (n : ℕ). (running_method p f).class < n) (sym sound.class_monitors.0) class)
    (λ o e. sound.held.roots o (top_root m.guest t o has (lock_root f o (lock_listed f.lock o e))))

-- HOW OFTEN A MONITOR WAS ENTERED

pub few_times : (p : Linked) (m : MachineState) (lock : Option Lock) → IsSoundFor p (kept_of m) → HasSome m lock → IsSomeFewTimes m lock
few_times p m None sound has = tt
few_times p m (Some (OfObject o)) sound has =
    let x : ObjectState = found (at m.heap o) in
    let is : IsSoundMonitor m.guest x.monitor = (sound.objects o x (there_is (at m.heap o) has)).1 in
    omega (arith, is.count, sound.clock)
few_times p m (Some (OfClass c)) sound has =
    let is : IsSoundMonitor m.guest (monitor_at m (OfClass c)) = All-get_or (IsSoundMonitor m.guest) m.guest.class_monitors c free_monitor has sound.class_monitors.1 in
    omega (arith, is.count, sound.clock)

-- LATER IN AN EVENT THAT HAS WRITTEN NO MONITOR YET

pub there_later : (m m' : MachineState) (lock : Option Lock) → m'.heap ≡ m.heap → m'.guest.class_monitors ≡ m.guest.class_monitors → HasSome m lock → HasSome m' lock
there_later m m' None heap monitors has = tt
there_later m m' (Some (OfObject o)) heap monitors has = subst (λ (h : Objects). IsHeld h o) (sym heap) has
there_later m m' (Some (OfClass c)) heap monitors has = subst (λ (x : List Monitor). c < length x) (sym monitors) has

pub few_later : (m m' : MachineState) (lock : Option Lock) → m'.heap ≡ m.heap → m'.guest.class_monitors ≡ m.guest.class_monitors → IsSomeFewTimes m lock → IsSomeFewTimes m' lock
few_later m m' None heap monitors few = tt
few_later m m' (Some (OfObject o)) heap monitors few = subst (λ (h : Objects). (found (at h o)).monitor.count ≤ 2 ^ 40) (sym heap) few
few_later m m' (Some (OfClass c)) heap monitors few = subst (λ (x : List Monitor). IsFewTimes (record m { guest = record m.guest { class_monitors = x } }) (OfClass c)) (sym monitors) few
