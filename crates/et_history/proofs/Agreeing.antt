-- What monitors say of the threads that hold them, and what an event does to that.
use Rattle.std.proofs.Common.{◌≡◌, ℕ, zero, suc, ◌+◌, ◌-◌, ◌<◌, ◌≤◌, ◌⊎◌, ◌==◌, Bool, true, false, length, Option, Some, None, refl, sym, ◌∙◌, ap, subst, inl, inr, arith}
use Rattle.std.specs.Prelude.{if◌then◌else◌, nat_le, IsSome, IfSome}
use Rattle.std.proofs.lemmas.Bool.{cases_eq, eqb-true, eq-eqb, true≢false, false≢true, leb-true}
use Rattle.std.proofs.lemmas.Option.{same_Some, none-some}
use Rattle.et_history.proofs.soundness.Growing.{no_owner}
use Rattle.et_base.specs.declared.value.End.{End}
use Rattle.et_heap.specs.declared.monitor.Monitor.{Monitor}
use Rattle.et_heap.specs.Objects.{ObjectState, is_there, at, free_monitor}
use Rattle.et_heap.proofs.HeapLists.{held_within}
use Rattle.et_state.specs.State.{Kept}
use Rattle.et_state.specs.Outcome.{Outcome, state_after, end_by}
use Rattle.et_state.specs.Outcome as outcome
use Rattle.et_event.specs.Moments.{Moment, begins, later}
use Rattle.et_event.specs.Monitors.{Lock, OfObject, OfClass, is_owner, is_open_to, left_once, may_enter}
use Rattle.et_history.specs.soundness.WellFormed.{IsThere}
use Rattle.et_history.specs.steps.Holding.{is_held_lock, entry_of, exit_of, monitor_in, times_after}
use Rattle.et_history.specs.steps.Changing.{entered_once, left_by_owner, Changes, MovesMonitors, KeepsMonitors}
use Rattle.et_history.proofs.steps.Monitors.{is_same, first_monitor}

-- AGREEMENT: the owner holds the monitor as often as it counts, and nobody else holds it
pub record Agrees (m : Monitor) (n : ℕ → ℕ) : Type 0 where
  pub owner : (t : ℕ) → m.owner ≡ Some t → n t ≡ m.count
  pub others : (t : ℕ) → (m.owner ≡ Some t → ⊥) → n t ≡ 0

-- it has an owner where it counts something
abbrev pub IsOwned : Monitor → Type 0
IsOwned m = 0 < m.count → IsSome m.owner

abbrev pub IsNew : Kept → Lock → Type 0
IsNew s (OfObject o) = length s.heap ≤ o
IsNew s (OfClass c) = ⊥

-- at most one thread holds it: also where it was reported; nobody where it is not made yet
pub record Excludes (s : Kept) (lock : Lock) (n : ℕ → ℕ) : Type 0 where
  pub there : IsThere s lock → Agrees (monitor_in s lock) n
  pub new : IsNew s lock → (t : ℕ) → n t ≡ 0
  pub one : (t u : ℕ) → 0 < n t → 0 < n u → t ≡ u

owned_or : (m : Monitor) (t : ℕ) → (m.owner ≡ Some t) ⊎ (m.owner ≡ Some t → ⊥)
owned_or m t = by m.owner
  where
    by : (o : Option ℕ) → (o ≡ Some t) ⊎ (o ≡ Some t → ⊥)
    by None = inr (λ e. none-some t e)
    by (Some k) = elim (cases_eq k t) [ inl e ↦ inl (ap (λ (i : ℕ). Some i) e) | inr ne ↦ inr (λ e. ne (same_Some k t e)) ]

pub holder : (m : Monitor) (n : ℕ → ℕ) (t : ℕ) → Agrees m n → 0 < n t → m.owner ≡ Some t
holder m n t h holds = elim (owned_or m t) [ inl e ↦ e | inr ne ↦ (let none = h.others t ne in absurd (omega arith)) ]

pub agrees_one : (m : Monitor) (n : ℕ → ℕ) (t u : ℕ) → Agrees m n → 0 < n t → 0 < n u → t ≡ u
agrees_one m n t u h a b = same_Some t u (sym (holder m n t h a) ∙ holder m n u h b)

agrees_same : (m : Monitor) (n k : ℕ → ℕ) → Agrees m n → ((t : ℕ) → k t ≡ n t) → Agrees m k
agrees_same m n k h same = record { owner = λ t e. same t ∙ h.owner t e; others = λ t ne. same t ∙ h.others t ne }

-- HOW OFTEN, after an event of a thread that enters or leaves it

abbrev stepped : Bool → Bool → ℕ → ℕ
stepped entered left k = if entered then k + 1 else (if left then k - 1 else k)

abbrev pub recounted : ℕ → Bool → Bool → (ℕ → ℕ) → ℕ → ℕ
recounted thread entered left n t = if thread == t then (if entered then n t + 1 else (if left then n t - 1 else n t)) else n t

recount : (thread : ℕ) (a b : Bool) (n : ℕ → ℕ) (t : ℕ) (P : ℕ → Type 0) → (thread ≡ t → P (stepped a b (n t))) → ((thread ≡ t → ⊥) → P (n t)) → P (recounted thread a b n t)
recount thread a b n t P own other = by (cases_eq thread t) (thread == t) refl
  where
    by : (thread ≡ t) ⊎ (thread ≡ t → ⊥) → (x : Bool) → (thread == t) ≡ x → P (if x then stepped a b (n t) else n t)
    by c true e = own (eqb-true thread t e)
    by (inl same) false e = absurd (true≢false (sym (is_equal same) ∙ e))
      where
        is_equal : thread ≡ t → (thread == t) ≡ true
        is_equal q = eq-eqb thread t q
    by (inr ne) false e = other ne

neither : (thread : ℕ) (n : ℕ → ℕ) (t : ℕ) → recounted thread false false n t ≡ n t
neither thread n t = recount thread false false n t (λ x. x ≡ n t) (λ same. refl) (λ other. refl)

-- .. ENTERED

open_owner : (thread t : ℕ) (o : Option ℕ) → is_open_to thread o ≡ true → o ≡ Some t → thread ≡ t
open_owner thread t None free e = absurd (none-some t e)
open_owner thread t (Some k) free e = sym (eqb-true k thread free) ∙ same_Some k t e

no_count : (count : ℕ) → (0 < count → ⊥) → count ≡ 0
no_count zero h = refl
no_count (suc k) h = absurd (h (omega arith))

entered_agrees : (m : Monitor) (n : ℕ → ℕ) (thread : ℕ) (b : Bool) → Agrees m n → IsOwned m → is_open_to thread m.owner ≡ true → Agrees (entered_once thread m) (recounted thread true b n)
entered_agrees m n thread b h owned free = record {
  owner = λ t e. recount thread true b n t (λ x. x ≡ m.count + 1)
      (λ same. ap (λ (k : ℕ). k + 1) (subst (λ (u : ℕ). n u ≡ m.count) same first))
      (λ other. absurd (other (same_Some thread t e)));
  others = λ t ne. recount thread true b n t (λ x. x ≡ 0)
      (λ same. absurd (ne (ap (λ (i : ℕ). Some i) same)))
      (λ other. h.others t (λ q. other (open_owner thread t m.owner free q)));
} where
  uncounted : (o : Option ℕ) → m.owner ≡ o → (o ≡ Some thread → ⊥) → m.count ≡ 0
  uncounted None is ne = no_count m.count (λ some. no_owner (subst (λ (x : Option ℕ). IsSome x) is (owned some)))
  uncounted (Some k) is ne = absurd (ne (ap (λ (i : ℕ). Some i) (eqb-true k thread (sym (ap (λ (x : Option ℕ). is_open_to thread x) is) ∙ free))))

  first : n thread ≡ m.count
  first = elim (owned_or m thread) [ inl e ↦ h.owner thread e | inr ne ↦ h.others thread ne ∙ sym (uncounted m.owner refl ne) ]

-- .. LEFT

is_own : (thread : ℕ) (o : Option ℕ) → is_owner thread o ≡ true → o ≡ Some thread
is_own thread None e = absurd (false≢true e)
is_own thread (Some k) e = ap (λ (i : ℕ). Some i) (eqb-true k thread e)

own_is : (thread : ℕ) (o : Option ℕ) → is_owner thread o ≡ false → o ≡ Some thread → ⊥
own_is thread None e q = none-some thread q
own_is thread (Some k) e q = true≢false (sym (eq-eqb k thread (same_Some k thread q)) ∙ e)

left_agrees : (m : Monitor) (n : ℕ → ℕ) (thread : ℕ) → Agrees m n → Agrees (left_by_owner thread m) (recounted thread false true n)
left_agrees m n thread h = by (is_owner thread m.owner) refl
  where
    once : (y : Bool) → nat_le m.count 1 ≡ y → m.owner ≡ Some thread → Agrees (if y then free_monitor else record { owner = m.owner; count = m.count - 1 }) (recounted thread false true n)
    once true le own = record {
      owner = λ t e. absurd (none-some t e);
      others = λ t ne. recount thread false true n t (λ x. x ≡ 0)
          (λ same. let few = leb-true m.count 1 le in let is : n t ≡ m.count = h.owner t (own ∙ ap (λ (i : ℕ). Some i) same) in omega arith)
          (λ other. h.others t (λ q. other (same_Some thread t (sym own ∙ q))));
    }
    once false le own = record {
      owner = λ t e. recount thread false true n t (λ x. x ≡ m.count - 1)
          (λ same. ap (λ (k : ℕ). k - 1) (h.owner t e))
          (λ other. absurd (other (same_Some thread t (sym own ∙ e))));
      others = λ t ne. recount thread false true n t (λ x. x ≡ 0)
          (λ same. absurd (ne (own ∙ ap (λ (i : ℕ). Some i) same)))
          (λ other. h.others t ne);
    }

    by : (x : Bool) → is_owner thread m.owner ≡ x → Agrees (if x then left_once m else m) (recounted thread false true n)
    by true e = once (nat_le m.count 1) refl (is_own thread m.owner e)
    by false e = agrees_same m n (recounted thread false true n) h (λ t. recount thread false true n t (λ x. x ≡ n t)
        (λ same. let none : n t ≡ 0 = h.others t (λ q. own_is thread m.owner e (q ∙ ap (λ (i : ℕ). Some i) (sym same))) in omega arith)
        (λ other. refl))

-- THE LOCKS THAT ARE THERE

there_or : (s : Kept) (lock : Lock) → IsThere s lock ⊎ (IsThere s lock → ⊥)
there_or s (OfObject o) = by (at s.heap o)
  where
    by : (x : Option ObjectState) → is_there x ⊎ (is_there x → ⊥)
    by None = inr (λ h. h)
    by (Some x) = inl tt
there_or s (OfClass c) = inl tt

one_there : (s : Kept) (locks : Option Lock) (lock : Lock) → IfSome locks (λ l. IsThere s l) → is_held_lock locks lock ≡ true → IsThere s lock
one_there s None lock h e = absurd (false≢true e)
one_there s (Some l) lock h e = subst (λ (k : Lock). IsThere s k) (is_same l lock e) h

entries_there : (e : Moment) (entry : Option Lock) → IfSome entry (λ lock. IsThere e.before lock × (may_enter e (begins e) lock ≡ true)) → IfSome entry (λ l. IsThere e.before l)
entries_there e None h = tt
entries_there e (Some l) h = h.0

not_one : (s : Kept) (locks : Option Lock) (lock : Lock) → IfSome locks (λ l. IsThere s l) → (IsThere s lock → ⊥) → is_held_lock locks lock ≡ false
not_one s locks lock h not = by (is_held_lock locks lock) refl
  where
    by : (b : Bool) → is_held_lock locks lock ≡ b → b ≡ false
    by true e = absurd (not (one_there s locks lock h e))
    by false e = refl

entry_open : (e : Moment) (entry : Option Lock) (lock : Lock) → IfSome entry (λ l. IsThere e.before l × (may_enter e (begins e) l ≡ true)) → is_held_lock entry lock ≡ true → is_open_to e.thread (monitor_in e.before lock).owner ≡ true
entry_open e None lock h q = absurd (false≢true q)
entry_open e (Some l) lock h q =
    let may : may_enter e (begins e) lock ≡ true = subst (λ (k : Lock). may_enter e (begins e) k ≡ true) (is_same l lock q) h.1 in
    sym (ap (λ (m : Monitor). is_open_to e.thread m.owner) (first_monitor e lock)) ∙ may

-- AN EVENT THAT IS DONE

agrees_after : (e : Moment) (entry exit : Option Lock) (after : Kept) (lock : Lock) (n : ℕ → ℕ) → MovesMonitors e entry exit after → IsThere e.before lock → IsOwned (monitor_in e.before lock) → Agrees (monitor_in e.before lock) n
    → Agrees (monitor_in after lock) (recounted e.thread (is_held_lock entry lock) (is_held_lock exit lock) n)
agrees_after e entry exit after lock n h there owned agrees =
    subst (λ (x : Monitor). Agrees x (recounted e.thread (is_held_lock entry lock) (is_held_lock exit lock) n)) (sym (h.changes.monitor lock there)) (by (is_held_lock entry lock) refl)
  where
    m : Monitor
    m = monitor_in e.before lock

    leaves : (c : Bool) → Agrees (if c then left_by_owner e.thread m else m) (recounted e.thread false c n)
    leaves true = left_agrees m n e.thread agrees
    leaves false = agrees_same m n (recounted e.thread false false n) agrees (λ t. neither e.thread n t)

    by : (b : Bool) → is_held_lock entry lock ≡ b → Agrees (if b then entered_once e.thread m else (if is_held_lock exit lock then left_by_owner e.thread m else m)) (recounted e.thread b (is_held_lock exit lock) n)
    by true q = entered_agrees m n e.thread (is_held_lock exit lock) agrees owned (entry_open e entry lock h.entered q)
    by false q = leaves (is_held_lock exit lock)

-- what is not there before the event is neither entered nor left
untouched : (e : Moment) (entry exit : Option Lock) (after : Kept) (lock : Lock) (n : ℕ → ℕ) (t : ℕ) → MovesMonitors e entry exit after → (IsThere e.before lock → ⊥) → recounted e.thread (is_held_lock entry lock) (is_held_lock exit lock) n t ≡ n t
untouched e entry exit after lock n t h not =
    ap (λ (b : Bool). recounted e.thread b (is_held_lock exit lock) n t) (not_one e.before entry lock (entries_there e entry h.entered) not)
    ∙ (ap (λ (b : Bool). recounted e.thread false b n t) (not_one e.before exit lock h.left not) ∙ neither e.thread n t)

new_absent : (s : Kept) (lock : Lock) → IsNew s lock → IsThere s lock → ⊥
new_absent s (OfObject o) new held = let lt = held_within s.heap o held in let le : length s.heap ≤ o = new in absurd (omega arith)
new_absent s (OfClass c) new held = new

free_agrees : (m : Monitor) (n : ℕ → ℕ) → m ≡ free_monitor → ((t : ℕ) → n t ≡ 0) → Agrees m n
free_agrees m n free none = record { owner = λ t e. absurd (none-some t (sym (ap (λ (x : Monitor). x.owner) free) ∙ e)); others = λ t ne. none t }

fresh_agrees : (e : Moment) (entry exit : Option Lock) (after : Kept) (lock : Lock) (n : ℕ → ℕ) → Changes e entry exit after → (IsThere e.before lock → ⊥) → IsThere after lock → (IsNew e.before lock → (t : ℕ) → n t ≡ 0) → Agrees (monitor_in after lock) n
fresh_agrees e entry exit after (OfObject o) n h not there none =
    elim (h.fresh o there) [ inl was ↦ absurd (not was) | inr new ↦ free_agrees (monitor_in after (OfObject o)) n new.1 (λ t. none new.0 t) ]
fresh_agrees e entry exit after (OfClass c) n h not there none = absurd (not tt)

still_new : (e : Moment) (entry exit : Option Lock) (after : Kept) (lock : Lock) → Changes e entry exit after → IsNew after lock → IsNew e.before lock
still_new e entry exit after (OfObject o) h new = let le : length after.heap ≤ o = new in omega (arith, h.longer)
still_new e entry exit after (OfClass c) h new = new

excludes_after : (e : Moment) (entry exit : Option Lock) (after : Kept) (lock : Lock) (n : ℕ → ℕ) → MovesMonitors e entry exit after → (IsThere e.before lock → IsOwned (monitor_in e.before lock)) → Excludes e.before lock n
    → Excludes after lock (recounted e.thread (is_held_lock entry lock) (is_held_lock exit lock) n)
excludes_after e entry exit after lock n h owned was = by (there_or e.before lock)
  where
    k : ℕ → ℕ
    k = recounted e.thread (is_held_lock entry lock) (is_held_lock exit lock) n

    by : IsThere e.before lock ⊎ (IsThere e.before lock → ⊥) → Excludes after lock k
    by (inl there) =
        let agrees : Agrees (monitor_in after lock) k = agrees_after e entry exit after lock n h there (owned there) (was.there there) in
        record {
          there = λ now. agrees;
          new = λ new t. absurd (new_absent e.before lock (still_new e entry exit after lock h.changes new) there);
          one = λ t u a b. agrees_one (monitor_in after lock) k t u agrees a b;
        }
    by (inr not) =
        let same : (t : ℕ) → k t ≡ n t = λ t. untouched e entry exit after lock n t h not in
        record {
          there = λ now. agrees_same (monitor_in after lock) n k (fresh_agrees e entry exit after lock n h.changes not now was.new) same;
          new = λ new t. same t ∙ was.new (still_new e entry exit after lock h.changes new) t;
          one = λ t u a b. was.one t u (subst (λ (i : ℕ). 0 < i) (same t) a) (subst (λ (i : ℕ). 0 < i) (same u) b);
        }

-- ANOTHER STATE with the same monitors
pub excludes_same : (s s' : Kept) (lock : Lock) (n k : ℕ → ℕ) → (IsThere s' lock → IsThere s lock) → (IsThere s' lock → monitor_in s' lock ≡ monitor_in s lock) → (IsNew s' lock → IsNew s lock) → ((t : ℕ) → k t ≡ n t) → Excludes s lock n → Excludes s' lock k
excludes_same s s' lock n k there monitor new same was = record {
  there = λ now. agrees_same (monitor_in s' lock) n k (subst (λ (m : Monitor). Agrees m n) (sym (monitor now)) (was.there (there now))) same;
  new = λ is t. same t ∙ was.new (new is) t;
  one = λ t u a b. was.one t u (subst (λ (i : ℕ). 0 < i) (same t) a) (subst (λ (i : ℕ). 0 < i) (same u) b);
}

later_there : (s : Kept) (lock : Lock) → IsThere (later s) lock → IsThere s lock
later_there s (OfObject o) h = h
later_there s (OfClass c) h = h

later_new : (s : Kept) (lock : Lock) → IsNew (later s) lock → IsNew s lock
later_new s (OfObject o) h = h
later_new s (OfClass c) h = h

later_monitor : (s : Kept) (lock : Lock) → monitor_in (later s) lock ≡ monitor_in s lock
later_monitor s (OfObject o) = refl
later_monitor s (OfClass c) = refl

-- AN EVENT

either_way : (b : Bool) (n : ℕ) → (if b then n else n) ≡ n
either_way true n = refl
either_way false n = refl

pub excludes_event : (e : Moment) (x : Outcome Kept) (lock : Lock) (n : ℕ → ℕ) (thread : ℕ) → KeepsMonitors e x → (IsThere e.before lock → IsOwned (monitor_in e.before lock)) → end_by thread x ≡ None → Excludes e.before lock n
    → Excludes (state_after e.before x) lock (λ t. if e.thread == t then times_after e lock (n t) x else n t)
excludes_event e (outcome.Goes next records) lock n thread h owned goes was = excludes_after e (entry_of e next) (exit_of e next) next lock n h owned was
excludes_event e (outcome.Waits next) lock n thread h owned goes was =
    subst (λ (s : Kept). Excludes s lock (λ t. if e.thread == t then n t else n t)) (sym h)
    (excludes_same e.before (later e.before) lock n (λ t. if e.thread == t then n t else n t) (later_there e.before lock) (λ there. later_monitor e.before lock) (later_new e.before lock) (λ t. either_way (e.thread == t) (n t)) was)
excludes_event e (outcome.IllTyped method pc) lock n thread h owned goes was = absurd (ended goes)
  where
    ended : {x : End} → Some x ≡ None → ⊥
    ended q = cc
excludes_event e outcome.ObjectLimit lock n thread h owned goes was = absurd (ended goes)
  where
    ended : {x : End} → Some x ≡ None → ⊥
    ended q = cc
