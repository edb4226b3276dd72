-- Over every history, what the monitors of its states say agrees with who holds them.
use Rattle.std.proofs.Common.{◌≡◌, ℕ, zero, suc, ◌<◌, ◌≤◌, ◌↔◌, Bool, List, [], ◌∷◌, length, get_or, Option, Some, None, refl, sym, ◌∙◌, ap, subst, arith}
use Rattle.std.specs.Prelude.{replicate, IsSome}
use Rattle.et_graph.specs.Graph.{Graph}
use Rattle.et_program.specs.Entries.{Linked}
use Rattle.et_heap.specs.declared.monitor.Monitor.{Monitor}
use Rattle.et_heap.specs.Objects.{ObjectState, is_there, at, found, free_monitor}
use Rattle.et_state.specs.Roots.{graph_of}
use Rattle.et_state.specs.State.{Kept}
use Rattle.et_state.specs.Words.{class_monitor_at}
use Rattle.et_state.proofs.Enqueued.{length-flushed, flushed_held, flushed_same}
use Rattle.et_state.specs.declared.options.Options.{Options}
use Rattle.et_state.specs.History.{left_by, is_flush_point}
use Rattle.et_event.specs.Told.{event_with_texts}
use Rattle.et_event.specs.Moments.{Moment}
use Rattle.et_event.specs.Monitors.{Lock, OfObject, OfClass}
use Rattle.et_event.specs.Sound.{IsSoundMonitor, IsSoundFor}
use Rattle.et_state.specs.Start.{start}
use Rattle.et_history.specs.soundness.WellFormed.{IsThere}
use Rattle.et_history.proofs.soundness.Growing.{free_is_sound}
use Rattle.et_history.proofs.soundness.Outcomes.{if_case}
use Rattle.et_history.specs.Settings.{flushed_of}
use Rattle.et_history.specs.steps.Holding.{monitor_in}
use Rattle.et_history.specs.Histories.{state_at, settled_at, moment_at, times_held, IsHistory, HistoryComesTo}
use Rattle.et_history.proofs.Agreeing.{Agrees, IsNew, Excludes, holder, excludes_same, excludes_event}
use Rattle.et_history.proofs.Wholes.{Next, next, state_sound}

-- MONITORS of a sound state

class_sound : (s : Kept) (p : Linked) (c : ℕ) → IsSoundFor p s → IsSoundMonitor s.guest (class_monitor_at s.guest c)
class_sound s p c sound = by s.guest.class_monitors c (λ k lt. sound.class_monitors.1 k free_monitor lt)
  where
    by : (ms : List Monitor) (k : ℕ) → ((j : ℕ) → j < length ms → IsSoundMonitor s.guest (get_or ms j free_monitor)) → IsSoundMonitor s.guest (get_or ms k free_monitor)
    by [] k h = free_is_sound s.guest
    by (m ∷ ms) zero h = h zero (omega arith)
    by (m ∷ ms) (suc k) h = by ms k (λ j less. h (suc j) (omega arith))

monitor_sound : (s : Kept) (p : Linked) (lock : Lock) → IsSoundFor p s → IsThere s lock → IsSoundMonitor s.guest (monitor_in s lock)
monitor_sound s p (OfObject o) sound there = by (at s.heap o) refl there
  where
    by : (x : Option ObjectState) → at s.heap o ≡ x → is_there x → IsSoundMonitor s.guest (found x).monitor
    by None e h = absurd h
    by (Some x) e h = (sound.objects o x e).1
monitor_sound s p (OfClass c) sound there = class_sound s p c sound

-- A FLUSH

flushed_there : (here : ℕ → Bool) (s : Kept) (lock : Lock) → IsThere (flushed_of here s) lock → IsThere s lock
flushed_there here s (OfObject o) h = (flushed_held here s.heap o h).0
flushed_there here s (OfClass c) h = h

flushed_monitor : (here : ℕ → Bool) (s : Kept) (lock : Lock) → IsThere (flushed_of here s) lock → monitor_in (flushed_of here s) lock ≡ monitor_in s lock
flushed_monitor here s (OfObject o) h = flushed_same (λ x. x.monitor) (λ x r ws b. refl) here s.heap o (flushed_held here s.heap o h).1
flushed_monitor here s (OfClass c) h = refl

flushed_new : (here : ℕ → Bool) (s : Kept) (lock : Lock) → IsNew (flushed_of here s) lock → IsNew s lock
flushed_new here s (OfObject o) h = subst (λ (n : ℕ). n ≤ o) (length-flushed here s.heap) h
flushed_new here s (OfClass c) h = h

flushed_excludes : (here : ℕ → Bool) (s : Kept) (lock : Lock) (n : ℕ → ℕ) → Excludes s lock n → Excludes (flushed_of here s) lock n
flushed_excludes here s lock n h = excludes_same s (flushed_of here s) lock n n (flushed_there here s lock) (flushed_monitor here s lock) (flushed_new here s lock) (λ t. refl) h

-- THE FIRST STATE: nobody entered a monitor
unfree : (m : Monitor) → m ≡ free_monitor → Agrees m (λ t. 0)
unfree m free = record { owner = λ t e. absurd (none_some t (sym (ap (λ (x : Monitor). x.owner) free) ∙ e)); others = λ t ne. refl }
  where
    none_some : (i : ℕ) → None ≡ Some i → ⊥
    none_some i e = cc

all_free : (n c : ℕ) → get_or (replicate n free_monitor) c free_monitor ≡ free_monitor
all_free zero c = refl
all_free (suc n) zero = refl
all_free (suc n) (suc c) = all_free n c

start_monitor : (p : Linked) (lock : Lock) → monitor_in (start p) lock ≡ free_monitor
start_monitor p (OfObject zero) = refl
start_monitor p (OfObject (suc zero)) = refl
start_monitor p (OfObject (suc (suc o))) = refl
start_monitor p (OfClass c) = all_free _ c

start_excludes : (p : Linked) (lock : Lock) → Excludes (start p) lock (λ t. 0)
start_excludes p lock = record { there = λ h. unfree (monitor_in (start p) lock) (start_monitor p lock); new = λ h t. refl; one = λ t u a b. absurd (omega arith) }

-- THE HISTORY

module _ (reached : Graph → ℕ → Bool) (p : Linked) (options : Options) (pick : ℕ → ℕ) (runs : IsHistory reached p options) where
  abbrev times : Lock → ℕ → ℕ → ℕ
  times lock e t = times_held reached p options pick t lock e

  first_excludes : (lock : Lock) → Excludes (state_at reached p options pick 0) lock (times lock 0)
  unfolding left_by times_held
  first_excludes lock = start_excludes p lock

  settled_excludes : (e : ℕ) (lock : Lock) → Excludes (state_at reached p options pick e) lock (times lock e) → Excludes (settled_at reached p options pick e) lock (times lock e)
  settled_excludes e lock h =
      let s : Kept = state_at reached p options pick e in
      if_case (λ (x : Kept). Excludes x lock (times lock e)) (is_flush_point options.interval e) (flushed_of (reached (graph_of s)) s) s (flushed_excludes (reached (graph_of s)) s lock (times lock e) h) h

  next_excludes : (e : ℕ) (lock : Lock) → Next reached p options pick runs e → Excludes (state_at reached p options pick e) lock (times lock e) → Excludes (state_at reached p options pick (suc e)) lock (times lock (suc e))
  unfolding left_by times_held
  next_excludes e lock n h =
      let m : Moment = moment_at reached p options pick e in
      excludes_event m (event_with_texts p (settled_at reached p options pick e) m.thread) lock (times lock e) m.thread n.keeps (λ there. (monitor_sound (settled_at reached p options pick e) p lock n.sound there).owned.1) n.done (settled_excludes e lock h)

  pub all_exclude : (e : ℕ) (lock : Lock) → HistoryComesTo reached p options pick e → Excludes (state_at reached p options pick e) lock (times lock e)
  all_exclude zero lock goes = first_excludes lock
  all_exclude (suc e) lock goes =
      let before : HistoryComesTo reached p options pick e = λ k lt. goes k (omega arith) in
      next_excludes e lock (next reached p options pick runs e goes) (all_exclude e lock before)

  -- THE LAWS

  owned : (e : ℕ) (lock : Lock) (t : ℕ) → HistoryComesTo reached p options pick e → IsThere (state_at reached p options pick e) lock → (monitor_in (state_at reached p options pick e) lock).owner ≡ Some t → 0 < times lock e t
  owned e lock t goes there own =
      let s : Kept = state_at reached p options pick e in
      let sound = monitor_sound s p lock (state_sound reached p options pick runs e goes) there in
      let some : 0 < (monitor_in s lock).count = sound.owned.0 (subst (λ (o : Option ℕ). IsSome o) (sym own) refl) in
      let same : times lock e t ≡ (monitor_in s lock).count = ((all_exclude e lock goes).there there).owner t own in
      omega arith

pub one : (reached : Graph → ℕ → Bool) (p : Linked) (options : Options) (pick : ℕ → ℕ) (e : ℕ) (lock : Lock) (t u : ℕ) → IsHistory reached p options → HistoryComesTo reached p options pick e
    → 0 < times_held reached p options pick t lock e → 0 < times_held reached p options pick u lock e → t ≡ u
one reached p options pick e lock t u runs goes a b = (all_exclude reached p options pick runs e lock goes).one t u a b

pub owner : (reached : Graph → ℕ → Bool) (p : Linked) (options : Options) (pick : ℕ → ℕ) (e : ℕ) (lock : Lock) (t : ℕ) → IsHistory reached p options → HistoryComesTo reached p options pick e
    → IsThere (state_at reached p options pick e) lock → ((monitor_in (state_at reached p options pick e) lock).owner ≡ Some t) ↔ (0 < times_held reached p options pick t lock e)
owner reached p options pick e lock t runs goes there = (
  λ own. owned reached p options pick runs e lock t goes there own,
  λ holds. holder (monitor_in (state_at reached p options pick e) lock) (λ u. times_held reached p options pick u lock e) t ((all_exclude reached p options pick runs e lock goes).there there) holds,
)

pub count : (reached : Graph → ℕ → Bool) (p : Linked) (options : Options) (pick : ℕ → ℕ) (e : ℕ) (lock : Lock) (t : ℕ) → IsHistory reached p options → HistoryComesTo reached p options pick e
    → IsThere (state_at reached p options pick e) lock → (monitor_in (state_at reached p options pick e) lock).owner ≡ Some t → (monitor_in (state_at reached p options pick e) lock).count ≡ times_held reached p options pick t lock e
count reached p options pick e lock t runs goes there own = sym (((all_exclude reached p options pick runs e lock goes).there there).owner t own)
