-- What a flush leaves, for each test that says what is reached.
use Rattle.std.proofs.Common.{◌≡◌, ℕ, ◌+◌, ◌*◌, ◌≤◌, length, arith, Bool, true, Result, Ok, Err, sym, ap, ◌∙◌, subst}
use Rattle.std.specs.Prelude.{◌↔◌, IsTrue, OnOk}
use Rattle.et_history.proofs.Wholes.{is_now, now_is}
use Rattle.et_heap.specs.Objects.{held_count}
use Rattle.et_heap.specs.Cleared.{cleared_references}
use Rattle.et_state.specs.Enqueuing.{flushed_heap}
use Rattle.et_state.specs.State.{Kept, MachineState, kept_of}
use Rattle.et_program.specs.Entries.{Linked}
use Rattle.et_event.specs.Sound.{IsSoundFor}
use Rattle.et_event.specs.SoundTexts.{HasSoundTexts}
use Rattle.et_event.proofs.Told.{kept-silent}
use Rattle.et_event.proofs.Beside.{sound-spoken}
use Rattle.et_state.specs.Spoken.{spoken}
use Rattle.et_state.specs.Texts.{Texts, no_texts, texts_left}
use Rattle.et_history.specs.Settings.{IsSoundRun, flush_visits_of, flushed_of}

true_is : (b : Bool) → IsTrue b ↔ (b ≡ true)
true_is b = (λ t. is_now b t, λ e. now_is b e)

pub on_ok_map : {A E : Type 0} (r : Result A E) (P Q : Type 0) → OnOk r P → (P → Q) → OnOk r Q
on_ok_map (Ok a) P Q h go = go h
on_ok_map (Err e) P Q h go = tt

pub on_ok_both : {A E : Type 0} (r : Result A E) (P Q R : Type 0) → OnOk r P → OnOk r Q → (P → Q → R) → OnOk r R
on_ok_both (Ok a) P Q R h k go = go h k
on_ok_both (Err e) P Q R h k go = tt

-- what a flush leaves of a machine, with the texts that are left, is what it leaves of the state
pub state_flushed : (here : ℕ → Bool) (m m' : MachineState) (x x' : Texts) → m' ≡ record m { heap = flushed_heap here m.heap } → x' ≡ texts_left here x → spoken x' (kept_of m') ≡ flushed_of here (spoken x (kept_of m))
state_flushed here m m' x x' e left =
    ap (λ (y : MachineState). spoken x' (kept_of y)) e ∙ ap (λ (y : Texts). spoken y (kept_of (record m { heap = flushed_heap here m.heap }))) left

pub clock_flushed : (here : ℕ → Bool) (m m' : MachineState) → m' ≡ record m { heap = flushed_heap here m.heap } → m'.guest.clock ≡ m.guest.clock
clock_flushed here m m' e = ap (λ (x : MachineState). x.guest.clock) e

pub run_flushed : (p : Linked) (here : ℕ → Bool) (s s' : Kept) → s' ≡ flushed_of here s → IsSoundRun p s → IsSoundFor p (flushed_of here s) → HasSoundTexts p (flushed_of here s) → IsSoundRun p s'
run_flushed p here s s' e run sound texts = record {
  tabled = run.tabled;
  runnable = run.runnable;
  state = subst (λ (k : Kept). IsSoundFor p k) (sym e) sound;
  texts = subst (λ (k : Kept). HasSoundTexts p k) (sym e) texts;
}

pub times_flushed : (here : ℕ → Bool) (s : Kept) (old new : ℕ) → new ≤ old + 2 * held_count s.heap + 2 * length (cleared_references here 0 s.heap) → new ≤ old + flush_visits_of here s
times_flushed here s old new le = omega (arith, le)

-- a machine whose state is sound with its texts is sound without them
pub machine_sound : (p : Linked) (x : Texts) (m : MachineState) → m.guest.texts ≡ no_texts → IsSoundFor p (spoken x (kept_of m)) → IsSoundFor p (kept_of m)
machine_sound p x m none sound = subst (λ (k : Kept). IsSoundFor p k) (kept-silent m none) (sound-spoken p (spoken x (kept_of m)) no_texts sound)
