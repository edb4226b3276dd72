-- An event in which a class begins.
use Rattle.std.proofs.Common.{◌≡◌, ℕ, ◌-◌, ◌<◌, ◌≤◌, Bool, length, sym, ap, subst, arith, Contains, lit<}
use Rattle.std.proofs.lemmas.Bool.{lt-ltb, le-ltb}
use Rattle.et_state.proofs.Numbered.{in_range}
use Rattle.et_state.specs.Threads.{most_frames, lost_room}
use Rattle.et_state.specs.State.{Kept, MachineState, kept_of}
use Rattle.et_state.specs.Words.{thread_at, begun}
use Rattle.et_state.specs.Roots.{roots_of}
use Rattle.et_state.specs.Moves.{IsOnWay, Led}
use Rattle.et_state.proofs.UnderWay.{root_is_reached}
use Rattle.et_state.proofs.Steps.{led}
use Rattle.et_program.specs.Entries.{Linked}
use Rattle.et_event.specs.declared.errors.GuestError.TheVariants.{StackOverflowError}
use Rattle.et_event.specs.Checks.{throws_unless}
use Rattle.et_event.specs.Moments.{Moment, Doing, ends_event as ending, throws}
use Rattle.et_event.specs.Sound.{IsSoundFor}
use Rattle.et_event.specs.Initialization.{begun_by, begins_class}
use Rattle.et_initialize.specs.Under.{IsInitializing}
use Rattle.et_initialize.proofs.Legal.{ready_first}

-- HOW AN EVENT ENDS THAT MADE STRINGS

pub strings_led : (s k : Kept) (m : MachineState) → IsOnWay s m → kept_of m ≡ k → length s.heap ≤ length k.heap → ((o : ℕ) → length s.heap ≤ o → o < length k.heap → Contains (roots_of k.guest) o) → Led s k m
strings_led s k m w e grown roots = led s k m w (λ o c.
    let range = in_range (length s.heap) (length (kept_of m).heap - length s.heap) o c in
    let low = range.0 in
    let high = range.1 in
    let same : length (kept_of m).heap ≡ length k.heap = ap (λ (x : Kept). length x.heap) e in
    let at : Contains (roots_of k.guest) o = roots o low (omega arith) in
    root_is_reached (kept_of m) o (subst (λ (x : Kept). Contains (roots_of x.guest) o) (sym e) at)) e

-- A CLASS BEGINS

pub begin_ready : (p : Linked) (m m₁ : MachineState) → IsSoundFor p (kept_of m) → m₁ ≡ begun m → IsInitializing p (kept_of m₁)
begin_ready p m m₁ sound e = subst (λ (n : MachineState). IsInitializing p (kept_of n)) (sym e) (ready_first p (kept_of m) sound)

pub begin_lost : (m m₁ : MachineState) → m₁ ≡ begun m → length m₁.lost < lost_room
begin_lost m m₁ e = subst (λ (n : MachineState). length n.lost < lost_room) (sym e) (lit< tt)

-- THE EVENT

pub few : (e : Moment) (c : ℕ) (d : Doing) → length (thread_at d.state.guest e.thread).frames < most_frames → begins_class e c d ≡ ending (begun_by e c d)
few e c d lt = ap (λ (b : Bool). throws_unless e d StackOverflowError b (ending (begun_by e c d))) (lt-ltb (length (thread_at d.state.guest e.thread).frames) most_frames lt)

pub begin_overflows : (e : Moment) (c : ℕ) (d : Doing) → most_frames ≤ length (thread_at d.state.guest e.thread).frames → begins_class e c d ≡ throws e StackOverflowError d
begin_overflows e c d le = ap (λ (b : Bool). throws_unless e d StackOverflowError b (ending (begun_by e c d))) (le-ltb (length (thread_at d.state.guest e.thread).frames) most_frames le)
