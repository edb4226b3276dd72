-- The event of an instruction that reads the heap, done while the frames of its thread are lifted out of the machine.
use Rattle.std.proofs.Common.{◌≡◌, ℕ, ◌<◌, ◌≤◌, List, length, take, sym, ap, subst, ◌∙◌, append-nil, arith}
use Rattle.et_heap.specs.Refs.{refs_of}
use Rattle.et_program.specs.Entries.{Linked}
use Rattle.et_state.specs.declared.ends.EventEnd.TheVariants as ends
use Rattle.et_state.specs.declared.records.Record.{Record}
use Rattle.et_state.specs.Moves.{IsEventOf, Led}
use Rattle.et_state.specs.Running.{RunningState}
use Rattle.et_state.specs.Sound.{IsSound}
use Rattle.et_state.specs.State.{GuestState, Kept, MachineState, kept_of}
use Rattle.et_state.specs.Threads.{FrameState, most_frames, rest_of}
use Rattle.et_state.specs.Words.{HasFrame, thread_at, ticked, top, with_top, begun, losing}
use Rattle.et_state.proofs.Places.{top_root}
use Rattle.et_state.proofs.Steps.{slot_held}
use Rattle.et_event.specs.Answered.{EventAnswers}
use Rattle.et_event.specs.Beginning.{BeginsEvent}
use Rattle.et_event.specs.Checks.{entries_of}
use Rattle.et_event.specs.Moments.{moment}
use Rattle.et_event.specs.Sites.{Site}
use Rattle.et_event.specs.Sound.{IsSoundFor}
use Rattle.et_ops.proofs.Lifting.{landed, landed_guest, landed_same, lifted, rest_short}
use Rattle.et_event.proofs.Taking.{replaced}
use Rattle.et_refs.specs.Asked.{MayStep}
use Rattle.et_refs.specs.Changes.{MayExchange, exchange_outcome}
use Rattle.et_refs.specs.Reads.{IsReadable, IsSoundHeap, exchanged}
use Rattle.et_refs.specs.declared.doing.changes.Exchange.{Exchange}
use Rattle.et_refs.proofs.Over.{exchange_moves, held_led}

-- a sound state may be read for each topmost frame
pub sound_heap : (p : Linked) (s : Kept) → IsSoundFor p s → IsSoundHeap p s.heap
sound_heap p s sound = record { objects = λ o x e. (sound.objects o x e).0; slots = λ u i lt o c. slot_held s u i o sound.held lt c }

pub readable : (p : Linked) (m : MachineState) (t : ℕ) → HasFrame m.guest t → IsSoundFor p (kept_of m) → IsReadable p m.heap (top m.guest t)
readable p m t has sound = record { heap = sound_heap p (kept_of m) sound; frame = λ o c. sound.held.roots o (top_root m.guest t o has c) }

-- .. also while it is lifted
pub readable_lifted : (p : Linked) (m m₁ : MachineState) (t : ℕ) (r : RunningState) → HasFrame m.guest t → IsSoundFor p (kept_of m) → m₁ ≡ lifted m t → r.frame ≡ top m.guest t → IsReadable p m₁.heap r.frame
readable_lifted p m m₁ t r has sound e same =
    subst (λ (x : MachineState). IsReadable p x.heap r.frame) (sym e) (subst (λ (f : FrameState). IsReadable p m.heap f) (sym same) (readable p m t has sound))

-- .. and nothing was done
pub not_done : (m m₁ m₂ : MachineState) (t : ℕ) (r : RunningState) → HasFrame m.guest t → m₁ ≡ lifted m t → r.frame ≡ top m.guest t → r.below ≡ rest_of (thread_at m.guest t).frames → m₂ ≡ landed m₁ t r → m₂ ≡ m
not_done m m₁ m₂ t r has e₁ frame below e₂ = e₂ ∙ (ap (λ (n : MachineState). landed n t r) e₁ ∙ landed_same m t r has frame below)

-- .. so another event may be done
pub may_step : (p : Linked) (m : MachineState) (t : ℕ) → HasFrame m.guest t → BeginsEvent p m t → MayStep m t
may_step p m t has begins = record { frame = has; sound = begins.sound.held; clock = begins.clock }

-- there are few frames below it
pub few_below : (p : Linked) (m : MachineState) (t : ℕ) (below : List FrameState) → HasFrame m.guest t → IsSoundFor p (kept_of m) → below ≡ rest_of (thread_at m.guest t).frames → length below < most_frames
few_below p m t below has sound e =
    let fs : List FrameState = (thread_at m.guest t).frames in
    let short : length (rest_of fs) < length fs = rest_short fs has.frame in
    let same : length below ≡ length (rest_of fs) = ap (λ (gs : List FrameState). length gs) e in
    let few : length fs ≤ most_frames = (sound.threads t has.thread).few_frames in
    omega (arith, same, short, few)

-- the frame of a thread that was lifted, after an instruction
module _ (m : MachineState) (t : ℕ) (r : RunningState) (x : Exchange) (pc : ℕ) (sound : IsSound (kept_of m)) (has : HasFrame m.guest t) (frame : r.frame ≡ top m.guest t) (below : r.below ≡ rest_of (thread_at m.guest t).frames) (may : MayExchange m.heap r.frame x) where
  abbrev now : RunningState
  now = exchanged x pc r

  guest_now : (landed (losing (begun (lifted m t)) now.lost) t now).guest ≡ with_top (ticked m.guest) t (replaced x.taken (entries_of x.value) pc (top m.guest t))
  guest_now = landed_guest (ticked m.guest) t now.frame now.below has.thread below ∙ ap (λ (f : FrameState). with_top (ticked m.guest) t (replaced x.taken (entries_of x.value) pc f)) frame

  read_led : Led (kept_of m) (record { heap = m.heap; guest = with_top (ticked m.guest) t (replaced x.taken (entries_of x.value) pc (top m.guest t)) }) (landed (losing (begun (lifted m t)) now.lost) t now)
  read_led =
      let f : FrameState = top m.guest t in
      let f' : FrameState = replaced x.taken (entries_of x.value) pc f in
      let here : MayExchange m.heap f x = subst (λ (y : FrameState). MayExchange m.heap y x) frame may in
      let lost : (landed (losing (begun (lifted m t)) now.lost) t now).lost ≡ refs_of (take x.taken f.operands) = append-nil now.lost ∙ ap (λ (y : FrameState). refs_of (take x.taken y.operands)) frame in
      record {
        kept = ap (λ (g : GuestState). let k : Kept = record { heap = m.heap; guest = g } in k) guest_now;
        event = subst (λ (os : List ℕ). IsEventOf (kept_of m) (record { heap = m.heap; guest = with_top (ticked m.guest) t f' }) os) (sym lost)
            (held_led (kept_of m) t f' (refs_of (take x.taken f.operands)) sound has (exchange_moves m.heap f x pc here));
      }

  pub read_answers : (p : Linked) (at : Site) (r' : RunningState) (m' : MachineState) (out : List Record) → at.next ≡ pc → r' ≡ now → m' ≡ landed (losing (begun (lifted m t)) r'.lost) t r'
      → EventAnswers (exchange_outcome (moment p m t) at x) ends.Done m m' out out
  read_answers p at r' m' out next e is =
      let led : Led (kept_of m) (record { heap = m.heap; guest = with_top (ticked m.guest) t (replaced x.taken (entries_of x.value) pc (top m.guest t)) }) m' =
      subst (λ (y : MachineState). Led (kept_of m) (record { heap = m.heap; guest = with_top (ticked m.guest) t (replaced x.taken (entries_of x.value) pc (top m.guest t)) }) y)
      (sym (is ∙ ap (λ (q : RunningState). landed (losing (begun (lifted m t)) q.lost) t q) e)) read_led in
      (subst (λ (n : ℕ). Led (kept_of m) (record { heap = m.heap; guest = with_top (ticked m.guest) t (replaced x.taken (entries_of x.value) n (top m.guest t)) }) m') (sym next) led, sym (append-nil out))
