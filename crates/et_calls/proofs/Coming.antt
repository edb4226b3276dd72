-- What calls do to the state to which an event has come.
use Rattle.std.proofs.Common.{◌≡◌, ℕ, ◌<◌, List, [], ◌∷◌, ◌++◌, length, get_or, Contains, refl, sym, ◌∙◌, ap, subst}
use Rattle.std.specs.List.{flat_map}
use Rattle.std.proofs.lemmas.Grind.{flat_map-append}
use Rattle.et_base.specs.declared.value.Value.{Value}
use Rattle.et_heap.specs.Objects.{IsHeld}
use Rattle.et_heap.specs.Refs.{refs_of_value, refs_of}
use Rattle.et_state.specs.declared.stage.Stage.{Stage}
use Rattle.et_state.specs.declared.stage.Stage.TheVariants.{Plain, Before, Clinit}
use Rattle.et_state.specs.ThreadRoots.{frame_roots}
use Rattle.et_state.specs.Threads.{FrameState, ThreadState, no_thread, rest_of, top_of, without_top}
use Rattle.et_state.specs.declared.class_state.ClassState.TheVariants.{Done}
use Rattle.et_state.specs.State.{Kept, MachineState, kept_of}
use Rattle.et_state.specs.Words.{thread_at, with_thread, top, HasFrame, with_class_state, with_guest as guest_in, begun, steps_thread}
use Rattle.et_state.specs.Sound.{IsSound}
use Rattle.et_state.specs.Moves.{Moves, WasThere, IsOnWay, AreInHeap, WereThere}
use Rattle.et_state.proofs.Places.{moves_none, moves_left, moves_right, moves_more, guest_thread, top_root}
use Rattle.et_state.proofs.UnderWay.{law_guest}
use Rattle.et_state.proofs.Calls.{on_begin_event, on_set_class_state, on_drop_frame}
use Rattle.et_state.proofs.Steps.{root_there, root_held}
use Rattle.et_program.specs.Entries.{Linked}
use Rattle.et_event.specs.Frames.{next_place_of, resumed, frames_after_return}
use Rattle.et_event.specs.Calls.{class_done_by}
use Rattle.et_event.specs.Initialization.{with_state}
use Rattle.et_event.specs.Moments.{moment, Doing, begins, doing_with_guest}
use Rattle.et_calls.proofs.Returning.{then_thread, started_after}
use Rattle.et_calls.specs.Ways.{Came}

pub came_begin : (p : Linked) (t : ℕ) (m m' : MachineState) → IsSound (kept_of m) → m' ≡ begun m → Came (kept_of m) (begins (moment p m t)) m'
came_begin p t m m' sound e =
    subst (λ (z : MachineState). Came (kept_of m) (begins (moment p m t)) z) (sym e)
    (record { kept = refl; way = on_begin_event m sound; made = refl })

pub came_class : (s : Kept) (d : Doing) (m m' : MachineState) (c : ℕ) → Came s d m → m' ≡ guest_in m (with_class_state m.guest c Done) → Came s (with_state c Done d) m'
came_class s d m m' c came e =
    subst (λ (z : MachineState). Came s (with_state c Done d) z) (sym e)
    (record {
      kept = ap (λ (k : Kept). record { heap = k.heap; guest = with_class_state k.guest c Done }) came.kept;
      way = on_set_class_state s m c Done came.way;
      made = came.made;
    })

pub class_done_threads : (stage : Stage) (d : Doing) → (class_done_by stage d).state.guest.threads ≡ d.state.guest.threads
class_done_threads Plain d = refl
class_done_threads (Before c) d = refl
class_done_threads (Clinit c) d = refl

-- A FRAME THAT GOES ON

frame_gives : (H R : ℕ → Type 0) (f : FrameState) (pc : ℕ) (vs : List Value) → ((o : ℕ) → Contains (refs_of vs) o → H o)
    → Moves H R (frame_roots f) (frame_roots (record f { pc = pc; operands = vs ++ f.operands })) []
frame_gives H R f pc vs held =
    let all : refs_of (vs ++ f.operands) ≡ refs_of vs ++ refs_of f.operands = flat_map-append refs_of_value vs f.operands in
    let more : Moves H R (refs_of f.operands) (refs_of (vs ++ f.operands)) [] =
    subst (λ (os : List ℕ). Moves H R (refs_of f.operands) os []) (sym all) (moves_more H R (refs_of f.operands) (refs_of vs) held) in
    moves_right H R _ _ [] (refs_of f.locals) (moves_left H R (refs_of f.operands) (refs_of (vs ++ f.operands)) [] _ more)

resumed_moves : (H R : ℕ → Type 0) (p : Linked) (vs : List Value) (fs : List FrameState) → ((o : ℕ) → Contains (refs_of vs) o → H o)
    → Moves H R (flat_map frame_roots fs) (flat_map frame_roots (resumed p vs fs)) []
resumed_moves H R p vs [] held = moves_none H R []
resumed_moves H R p vs (f ∷ fs) held = moves_left H R (frame_roots f) (frame_roots (record f { pc = next_place_of p f; operands = vs ++ f.operands })) [] (flat_map frame_roots fs) (frame_gives H R f (next_place_of p f) vs held)

after_return_moves : (H R : ℕ → Type 0) (p : Linked) (stage : Stage) (vs : List Value) (fs : List FrameState) → ((o : ℕ) → Contains (refs_of vs) o → H o)
    → Moves H R (flat_map frame_roots fs) (flat_map frame_roots (frames_after_return p stage vs fs)) []
after_return_moves H R p Plain vs fs held = resumed_moves H R p vs fs held
after_return_moves H R p (Before c) vs fs held = moves_none H R (flat_map frame_roots fs)
after_return_moves H R p (Clinit c) vs fs held = moves_none H R (flat_map frame_roots fs)

-- the frame is dropped, and the one below goes on

abbrev pub after_return : Linked → List Value → ThreadState → ThreadState
after_return p vs x = record x { frames = frames_after_return p (top_of x).stage vs (rest_of x.frames) }

abbrev below_goes_on : Linked → Stage → List Value → ThreadState → ThreadState
below_goes_on p stage vs x = record x { frames = frames_after_return p stage vs x.frames }

going_on : (s : Kept) (m : MachineState) (p : Linked) (t : ℕ) (stage : Stage) (vs : List Value) → IsOnWay s m → t < length m.guest.threads → AreInHeap m (refs_of vs)
    → IsOnWay s (steps_thread m t (below_goes_on p stage vs (thread_at m.guest t)) [])
going_on s m p t stage vs w lt held =
    let x : ThreadState = thread_at m.guest t in
    law_guest s (kept_of m) m.lost (with_thread m.guest t (below_goes_on p stage vs x)) [] w
    (guest_thread (IsHeld m.heap) (WasThere s (kept_of m)) m.guest t (below_goes_on p stage vs x) [] lt
    (moves_left (IsHeld m.heap) (WasThere s (kept_of m)) (flat_map frame_roots x.frames) (flat_map frame_roots (frames_after_return p stage vs x.frames)) [] _ (after_return_moves (IsHeld m.heap) (WasThere s (kept_of m)) p stage vs x.frames held)))

-- .. of a thread that was as it is
pub came_after_return : (s : Kept) (d : Doing) (p : Linked) (t : ℕ) (vs : List Value) (m m' : MachineState) → Came s d m → HasFrame s.guest t → m.guest.threads ≡ s.guest.threads
    → ((o : ℕ) → Contains (refs_of vs) o → Contains (frame_roots (top s.guest t)) o)
    → m' ≡ steps_thread m t (after_return p vs (thread_at m.guest t)) (frame_roots (top m.guest t))
    → Came s (doing_with_guest (with_thread d.state.guest t (after_return p vs (thread_at s.guest t))) d) m'
came_after_return s d p t vs m m' came has same there e =
    let top_same : top m.guest t ≡ top s.guest t = ap (λ (xs : List ThreadState). top_of (get_or xs t no_thread)) same in
    let at_same : thread_at m.guest t ≡ thread_at s.guest t = ap (λ (xs : List ThreadState). get_or xs t no_thread) same in
    let has' : HasFrame m.guest t = record {
      thread = subst (λ (xs : List ThreadState). t < length xs) (sym same) has.thread;
      frame = subst (λ (x : ThreadState). 0 < length x.frames) (sym at_same) has.frame;
    } in
    let roots : List ℕ = frame_roots (top m.guest t) in
    let stage : Stage = (top m.guest t).stage in
    let x : ThreadState = without_top (thread_at m.guest t) in
    let m₁ : MachineState = steps_thread m t x roots in
    let were : WereThere s m roots = λ o c. root_there s (kept_of m) o (top_root s.guest t o has (subst (λ (f : FrameState). Contains (frame_roots f) o) top_same c)) in
    let w₁ : IsOnWay s m₁ = on_drop_frame s m t came.way has' were in
    let held : AreInHeap m₁ (refs_of vs) = λ o c. root_held (kept_of m) o came.way.sound (top_root m.guest t o has' (subst (λ (f : FrameState). Contains (frame_roots f) o) (sym top_same) (there o c))) in
    let m₂ : MachineState = steps_thread m₁ t (below_goes_on p stage vs (thread_at m₁.guest t)) [] in
    let w₂ : IsOnWay s m₂ = going_on s m₁ p t stage vs w₁ (started_after m t x roots m₁ has'.thread refl) held in
    let is : m₂ ≡ m' = then_thread (below_goes_on p stage vs) m t x roots m₁ m₂ has'.thread refl refl ∙ sym e in
    record {
      kept = ap (λ (z : MachineState). kept_of z) e
          ∙ (ap (λ (k : Kept). record { heap = k.heap; guest = with_thread k.guest t (after_return p vs (thread_at m.guest t)) }) came.kept
          ∙ ap (λ (y : ThreadState). record { heap = d.state.heap; guest = with_thread d.state.guest t (after_return p vs y) }) at_same);
      way = subst (λ (z : MachineState). IsOnWay s z) is w₂;
      made = ap (λ (z : MachineState). length z.heap) e ∙ came.made;
    }
