use Rattle.std.proofs.Common.{◌≡◌, ℕ, ◌↔◌, Bool, true, List, map, sym, ◌∙◌, subst}
use Rattle.et_history.proofs.Wholes.{tells}
use Rattle.et_graph.specs.Graph.{IsReached, AreDead}
use Rattle.et_graph.specs.Listing.{death_pairs}
use Rattle.et_heap.specs.Objects.{IsHeld}
use Rattle.et_state.specs.Enqueuing.{flushed_heap}
use Rattle.et_state.specs.Roots.{graph_of}
use Rattle.et_state.specs.State.{Kept}
use Rattle.et_state.specs.Texts.{texts_left}
use Rattle.et_event.proofs.Beside.{sound-spoken}
use Rattle.et_history.specs.Settings.{flushed_of}
use Rattle.et_run.specs.WithTexts.{state_of}
use Rattle.et_run.proofs.Flushing.{times_flushed, state_flushed, clock_flushed, run_flushed}
use Rattle.et_run.proofs.Forgotten.{left_reached}
use Rattle.et_run.proofs.steps.running_flush.Given as given
use Rattle.et_run.proofs.steps.running_flush.Goals as goal

pub returns-in_err-flush_machine-clause-visits : goal.returns-in_err-flush_machine-clause-visits
returns-in_err-flush_machine-clause-visits g c here h =
    let s : Kept = state_of c.args.running.now in
    let is = tells (graph_of s) here h in
    times_flushed here s c.args.visits.now c.flush_machine.new.visits (c.flush_machine.ensures.visits here (λ o held. is o))

-- the texts that are left are those of what is reached
left : (g : given.Over) (c : goal.After-forget_dead g) (here : ℕ → Bool) → ((o : ℕ) → IsHeld (state_of c.args.running.now).heap o → (here o ≡ true) ↔ IsReached (graph_of (state_of c.args.running.now)) o)
    → c.forget_dead.new.texts ≡ texts_left here c.args.running.now.texts
left g c here is =
    let s : Kept = state_of c.args.running.now in
    let dead : AreDead (graph_of s) (map (λ d. d.0) (death_pairs c.deaths.result.now)) = subst (λ (ds : List (ℕ × ℕ)). AreDead (graph_of s) (map (λ d. d.0) ds)) (sym c.deaths.ensures) c.in_ok-flush_machine.ensures.dead in
    c.forget_dead.ensures ∙ left_reached s here c.deaths.result.now c.requires.sound.state.held.none dead is c.args._program.now c.requires.sound.texts

flushed : (g : given.Over) (c : goal.After-forget_dead g) (here : ℕ → Bool) → ((o : ℕ) → IsHeld (state_of c.args.running.now).heap o → (here o ≡ true) ↔ IsReached (graph_of (state_of c.args.running.now)) o)
    → state_of (record { machine = c.flush_machine.new.machine; texts = c.forget_dead.new.texts }) ≡ flushed_of here (state_of c.args.running.now)
flushed g c here is =
    state_flushed here c.args.running.now.machine c.flush_machine.new.machine c.args.running.now.texts c.forget_dead.new.texts (c.in_ok-flush_machine.ensures.machine here is) (left g c here is)

pub returns-clause-state : goal.returns-clause-state
returns-clause-state g c here h =
    let is = tells (graph_of (state_of c.args.running.now)) here h in
    flushed g c here (λ o held. is o)

pub returns-clause-visits : goal.returns-clause-visits
returns-clause-visits g c here h =
    let s : Kept = state_of c.args.running.now in
    let is = tells (graph_of s) here h in
    times_flushed here s c.args.visits.now c.flush_machine.new.visits (c.flush_machine.ensures.visits here (λ o held. is o))

pub returns-clause-clock : goal.returns-clause-clock
returns-clause-clock g c =
    let s : Kept = state_of c.args.running.now in
    let here : ℕ → Bool = c.reaching_is_decided.ensures.0 (graph_of s) in
    let is = tells (graph_of s) here (c.reaching_is_decided.ensures.1 (graph_of s)) in
    clock_flushed here c.args.running.now.machine c.flush_machine.new.machine (c.in_ok-flush_machine.ensures.machine here (λ o held. is o))

pub returns-clause-sound : goal.returns-clause-sound
returns-clause-sound g c =
    let p = c.args._program.now in
    let s : Kept = state_of c.args.running.now in
    let here : ℕ → Bool = c.reaching_is_decided.ensures.0 (graph_of s) in
    let is = tells (graph_of s) here (c.reaching_is_decided.ensures.1 (graph_of s)) in
    let flushed_alone : Kept = record { heap = flushed_heap here s.heap; guest = s.guest } in
    run_flushed p here s _ (flushed g c here (λ o held. is o)) c.requires.sound
    (sound-spoken p flushed_alone (texts_left here s.guest.texts) (c.flush_keeps_sound.ensures p s here c.requires.sound.state (λ o held. is o)))
    (c.flushes_keep_texts.ensures p s here c.requires.sound.texts)
