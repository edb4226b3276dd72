-- What holds of a guest still holds of one that has had more events and started more threads.
use Rattle.std.proofs.Common.{◌≡◌, ℕ, ◌<◌, ◌≤◌, List, length, Option, Some, None, IfSome, arith, rules}
use Rattle.std.specs.Prelude.{All, IsSome}
use Rattle.std.proofs.lemmas.List.Elements.{All-weaker}
use Rattle.et_program.specs.Entries.{Linked}
use Rattle.et_heap.specs.declared.monitor.Monitor.{Monitor}
use Rattle.et_heap.specs.Objects.{ObjectState, at, free_monitor}
use Rattle.et_state.specs.declared.class_state.ClassState.{ClassState}
use Rattle.et_state.specs.declared.class_state.ClassState.TheVariants.{Untouched, Begun, Done, Failed}
use Rattle.et_state.specs.State.{GuestState, Kept}
use Rattle.et_event.specs.Sound.{IsSoundObject, IsSoundMonitor, IsSoundClassState}
use Rattle.et_history.specs.soundness.WellFormed.{IsWellFormed}

pub record Grows (g g' : GuestState) : Type 0 where
  pub clock : g.clock ≤ g'.clock
  pub threads : length g.threads ≤ length g'.threads

owner_grows : (n k : ℕ) (o : Option ℕ) → n ≤ k → IfSome o (λ t. t < n) → IfSome o (λ t. t < k)
owner_grows n k None le h = tt
owner_grows n k (Some t) le h = let lt : t < n = h in let more : t < k = omega arith in more

pub monitor_grows : (g g' : GuestState) (m : Monitor) → Grows g g' → IsSoundMonitor g m → IsSoundMonitor g' m
monitor_grows g g' m w h =
    record { count = omega (arith, w.clock, h.count); owned = h.owned; owner = owner_grows (length g.threads) (length g'.threads) m.owner w.threads h.owner }

pub class_grows : (g g' : GuestState) (c : ClassState) → Grows g g' → IsSoundClassState g c → IsSoundClassState g' c
class_grows g g' Untouched w h = tt
class_grows g g' (Begun k) w h = let lt : k < length g.threads = h in let more : k < length g'.threads = omega (arith, w.threads) in more
class_grows g g' Done w h = tt
class_grows g g' Failed w h = tt

pub monitors_grow : (g g' : GuestState) (ms : List Monitor) → Grows g g' → All (IsSoundMonitor g) ms → All (IsSoundMonitor g') ms
monitors_grow g g' ms w h = All-weaker (IsSoundMonitor g) (IsSoundMonitor g') (λ m i. monitor_grows g g' m w i) ms h

pub classes_grow : (g g' : GuestState) (cs : List ClassState) → Grows g g' → All (IsSoundClassState g) cs → All (IsSoundClassState g') cs
classes_grow g g' cs w h = All-weaker (IsSoundClassState g) (IsSoundClassState g') (λ c i. class_grows g g' c w i) cs h

pub objects_grow : (p : Linked) (s : Kept) (g' : GuestState) → Grows s.guest g' → IsWellFormed p s → (o : ℕ) (x : ObjectState) → at s.heap o ≡ Some x → IsSoundObject p x × IsSoundMonitor g' x.monitor
objects_grow p s g' w h o x e = let was = h.objects o x e in (was.0, monitor_grows s.guest g' x.monitor w was.1)

pub no_owner : IsSome free_monitor.owner → ⊥
no_owner h = search (rules, h)

-- a monitor that nobody entered
pub free_is_sound : (g : GuestState) → IsSoundMonitor g free_monitor
free_is_sound g = record { count = omega arith; owned = (λ h. absurd (no_owner h), λ lt. absurd (omega arith)); owner = tt }
