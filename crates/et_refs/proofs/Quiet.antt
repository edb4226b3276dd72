-- How far an event has come as it begins, and after quiet classes became done in it.
use Rattle.std.proofs.Common.{◌≡◌, ℕ, ◌<◌, Bool, [], length, refl, sym, ◌∙◌, ap}
use Rattle.et_heap.specs.Objects.{Objects, has_room}
use Rattle.et_state.specs.State.{MachineState, kept_of}
use Rattle.et_program.specs.Entries.{Linked}
use Rattle.et_event.specs.Initialization.{quietly_done}
use Rattle.et_event.specs.Moments.{moment, begins}
use Rattle.et_event.specs.Sound.{IsSoundFor}
use Rattle.et_event.specs.Programs.{HasInitializers}
use Rattle.et_event.specs.InitializationOrder.{IsInOrder}
use Rattle.et_initialize.proofs.Legal.{made_none, ready_first, quietly_made, quietly_threads}
use Rattle.et_initialize.proofs.Statics.{sound_statics, quietly_typed}
use Rattle.et_refs.proofs.Carrying.{HasInitialized}

pub begun_initialized : (p : Linked) (t : ℕ) (m : MachineState) → IsSoundFor p (kept_of m) → HasInitialized p m (begins (moment p m t))
begun_initialized p t m sound = record { made = made_none (kept_of m) sound.held; statics = sound_statics p (kept_of m) sound; threads = refl }

pub quietly_initialized : (p : Linked) (t c : ℕ) (m : MachineState) → IsInOrder p → HasInitializers p → c < length p.classes → IsSoundFor p (kept_of m) → HasInitialized p m (quietly_done (moment p m t) c (begins (moment p m t)))
quietly_initialized p t c m order initializers lt sound =
    let e = moment p m t in
    let d = begins e in
    record {
      made = quietly_made e c d (kept_of m) [] order lt (ready_first p (kept_of m) sound) (made_none (kept_of m) sound.held);
      statics = quietly_typed e c d initializers (sound_statics p (kept_of m) sound);
      threads = quietly_threads e c d;
    }

-- WHETHER THERE IS ROOM, as it was asked
pub room_asked : (heap : Objects) (a b objects slots : ℕ) → objects ≡ a → slots ≡ b → (fit is : Bool) → fit ≡ has_room heap objects slots → fit ≡ is → has_room heap a b ≡ is
room_asked heap a b objects slots same size fit is e at = ap (λ (n : ℕ). has_room heap n b) (sym same) ∙ (ap (λ (n : ℕ). has_room heap objects n) (sym size) ∙ (sym e ∙ at))
