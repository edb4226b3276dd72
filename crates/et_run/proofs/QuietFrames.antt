-- Events that are instructions over lifted frames are quiet.
use Rattle.std.proofs.Common.{◌≡◌, ℕ, zero, suc, ◌+◌, ◌-◌, ◌<◌, ◌≤◌, ◌^◌, List, [], length, Option, refl, sym, ◌∙◌, ap, subst, arith}
use Rattle.std.specs.Prelude.{slice_index}
use Rattle.std.specs.Option.{option_map_or}
use Rattle.et_heap.specs.Objects.{Objects}
use Rattle.et_program.specs.Entries.{Linked}
use Rattle.et_state.specs.declared.stage.Turn.TheVariants.{Instruction}
use Rattle.et_state.specs.Moves.{IsEventOf}
use Rattle.et_state.specs.Outcome.{Outcome, Goes, state_after, records_of, end_by}
use Rattle.et_state.specs.Roots.{graph_of, fresh_of}
use Rattle.et_state.specs.Spoken.{spoken}
use Rattle.et_state.specs.State.{GuestState, Kept, MachineState, kept_of}
use Rattle.et_state.specs.Texts.{Texts}
use Rattle.et_state.specs.Threads.{FrameState, turn_of, with_top_of}
use Rattle.et_state.specs.Words.{IsUnended, thread_at, ticked, top, with_top}
use Rattle.et_state.proofs.Unended.{unended_kept}
use Rattle.et_event.specs.Selected.{TextCall}
use Rattle.et_event.specs.SoundTexts.{HasSoundTexts}
use Rattle.et_event.specs.TextRows.{said_in}
use Rattle.et_event.specs.Told.{event_with_texts, said_by}
use Rattle.et_history.specs.steps.Changing.{LeadsToSound}
use Rattle.et_history.specs.steps.EachEvent.{OfEachEvent}
use Rattle.et_history.specs.texts.Texts.{LeadsToSoundTexts}
use Rattle.et_history.specs.Settings.{IsSoundRun, unended_threads}
use Rattle.et_loop.specs.Kept.{IsStepTo}
use Rattle.et_loop.specs.Quiet.{AreQuiet, IsQuiet}
use Rattle.et_run.proofs.Answering.{unended_with}
use Rattle.et_refs.specs.Steps.{Instructs, IsStepOver}
use Rattle.et_run.specs.Lifted.{AreStampedSteps, IsStampedStep, RunsOver}
use Rattle.et_run.proofs.FrameKept.{Stays}
use Rattle.et_run.proofs.Lifting.{stays_itself, stays_on}
use Rattle.et_run.proofs.Soundly.{EventsLeadToSound, after, grown, instructs, leads_now, none_after, unended_now}
use Rattle.et_run.proofs.Stretching.{quiet_marks}

-- SO MANY OF THEM, from a sound state

abbrev pub TextsStaySound : Type 0
TextsStaySound = OfEachEvent (λ p s t. HasSoundTexts p s → LeadsToSoundTexts p (event_with_texts p s t))

module _ (p : Linked) (s : Kept) (t : ℕ) (old : List ℕ) (sound_now : IsSoundRun p s) (thread : IsUnended s.guest t) (turn : turn_of (thread_at s.guest t) ≡ Instruction)
    (leads_sound : EventsLeadToSound) (texts_sound : TextsStaySound) where
  record Comes (k : ℕ) (heap : Objects) (f : FrameState) (new : List ℕ) : Type 0 where
    pub quiet : (place : ℕ) → slice_index (unended_threads s) place ≡ t → AreQuiet (event_with_texts p) (said_by p) unended_threads graph_of place k s.guest.clock s (after s t k heap f) old new
    pub stays : Stays (top s.guest t) f
    pub sound : IsSoundRun p (after s t k heap f)

  comes_first : (heap : Objects) (f : FrameState) (new : List ℕ) → heap ≡ s.heap → f ≡ top s.guest t → new ≡ old → Comes 0 heap f new
  unfolding AreQuiet
  comes_first heap f new same e none =
      let is : after s t 0 heap f ≡ s = none_after s t thread turn heap f same e in
      record {
        quiet = λ place here. (is, none);
        stays = stays_itself (top s.guest t) f e;
        sound = subst (λ (x : Kept). IsSoundRun p x) (sym is) sound_now;
      }

  same_unended : (k : ℕ) (heap : Objects) (f : FrameState) → unended_threads (after s t k heap f) ≡ unended_threads s
  same_unended k heap f = unended_kept s.guest.threads t (with_top_of (thread_at s.guest t) f) refl

  -- ONE MORE
  module _ (k : ℕ) (heap heap' : Objects) (f f' : FrameState) (between new : List ℕ) (early : s.guest.clock + k < 2 ^ 40) (c : Comes k heap f between) (stamped : IsStampedStep p heap heap' (s.guest.clock + k) f f' between new) where
    step : IsStepOver p heap heap' f f' stamped.lost
    step = stamped.step

    leads_there : event_with_texts p (after s t k heap f) t ≡ Goes (after s t (suc k) heap' f') []
    leads_there = leads_now s t thread turn k heap f c.stays p heap' f' stamped.lost step

    doing : Instructs (after s t k heap f).guest t f
    doing = instructs s t thread turn k heap f c.stays

    prints_nothing : said_by p (after s t k heap f) t ≡ []
    prints_nothing = ap (λ (x : Option TextCall). option_map_or (said_in (record { program = p; before = after s t k heap f; thread = t })) x []) (step.silent (after s t k heap f).guest t doing).0

    step_now : IsStepTo (graph_of (after s t k heap f)) (graph_of (after s t (suc k) heap' f')) stamped.lost
    step_now =
        let led : IsEventOf (after s t k heap f) (record { heap = heap'; guest = with_top (ticked (after s t k heap f).guest) t f' }) stamped.lost = step.legal (after s t k heap f).guest t doing c.sound.state.held in
        let to : IsEventOf (after s t k heap f) (after s t (suc k) heap' f') stamped.lost = subst (λ (g : GuestState). IsEventOf (after s t k heap f) (record { heap = heap'; guest = g }) stamped.lost) (grown s t thread turn k heap f c.stays p heap' f' stamped.lost step) led in
        (fresh_of (after s t k heap f) (after s t (suc k) heap' f'), to.legal)

    made_now : (graph_of (after s t (suc k) heap' f')).made ≡ (graph_of (after s t k heap f)).made
    made_now = ap (λ (n : ℕ). n - 1) step.made

    quiet_now : (place : ℕ) → slice_index (unended_threads s) place ≡ t → IsQuiet (event_with_texts p) (said_by p) unended_threads graph_of place (s.guest.clock + k) (after s t k heap f) (after s t (suc k) heap' f') between new
    quiet_now place here =
        let here_now : slice_index (unended_threads (after s t k heap f)) place ≡ t = ap (λ (us : List ℕ). slice_index us place) (same_unended k heap f) ∙ here in
        let there : event_with_texts p (after s t k heap f) (slice_index (unended_threads (after s t k heap f)) place) ≡ Goes (after s t (suc k) heap' f') [] = ap (λ (u : ℕ). event_with_texts p (after s t k heap f) u) here_now ∙ leads_there in
        let same : unended_threads (after s t (suc k) heap' f') ≡ unended_threads (after s t k heap f) = same_unended (suc k) heap' f' ∙ sym (same_unended k heap f) in
        record {
          done = ap (λ (o : Outcome Kept). end_by 0 o) there;
          state = sym (ap (λ (o : Outcome Kept). state_after (after s t k heap f) o) there);
          told = ap (λ (o : Outcome Kept). records_of o) there;
          unsaid = ap (λ (u : ℕ). said_by p (after s t k heap f) u) here_now ∙ prints_nothing;
          made = made_now;
          count = ap (λ (us : List ℕ). length us) same;
          turn = ap (λ (us : List ℕ). slice_index us place) same;
          marks = quiet_marks (s.guest.clock + k) (graph_of (after s t k heap f)) (graph_of (after s t (suc k) heap' f')) stamped.lost between new made_now step_now stamped.stamped stamped.kept;
          long = stamped.long;
        }

    here_unended : IsUnended (after s t k heap f).guest t
    here_unended = unended_now s t thread turn k heap f c.stays

    comes_next : Comes (suc k) heap' f' new
    unfolding AreQuiet
    comes_next =
        record {
          quiet = λ place here. (after s t k heap f, between, c.quiet place here, quiet_now place here);
          stays = stays_on (top s.guest t) f f' c.stays step.stays;
          sound = record {
            tabled = sound_now.tabled;
            runnable = sound_now.runnable;
            state = subst (λ (o : Outcome Kept). LeadsToSound p o) leads_there (leads_sound p (after s t k heap f) t c.sound.state here_unended sound_now.runnable early);
            texts = subst (λ (o : Outcome Kept). LeadsToSoundTexts p o) leads_there (texts_sound p (after s t k heap f) t c.sound.state here_unended sound_now.runnable c.sound.texts);
          };
        }

  comes : (k : ℕ) (heap : Objects) (f : FrameState) (new : List ℕ) → s.guest.clock + k ≤ 2 ^ 40 → AreStampedSteps p k s.guest.clock s.heap heap (top s.guest t) f old new → Comes k heap f new
  unfolding AreStampedSteps
  comes zero heap f new early h = comes_first heap f new h.0 h.1 h.2
  comes (suc k) heap f new early h = comes_next k h.0 heap h.1 f h.2 new (omega (arith, early)) (comes k h.0 h.1 h.2 (omega (arith, early)) h.3) h.4

-- AS A MACHINE DOES THEM, beside which texts stand
module _ (p : Linked) (m m' : MachineState) (x : Texts) (t count : ℕ) (old new : List ℕ) (sound : IsSoundRun p (spoken x (kept_of m))) (thread : IsUnended m.guest t) (turn : turn_of (thread_at m.guest t) ≡ Instruction) (early : m.guest.clock + count ≤ 2 ^ 40)
    (run : RunsOver p t count m m' old new) (leads_sound : EventsLeadToSound) (texts_sound : TextsStaySound) where
  came : Comes p (spoken x (kept_of m)) t old sound (unended_with m.guest x t thread) turn leads_sound texts_sound count run.heap run.frame new
  came = comes p (spoken x (kept_of m)) t old sound (unended_with m.guest x t thread) turn leads_sound texts_sound count run.heap run.frame new early run.steps

  ran_to : spoken x (kept_of m') ≡ after (spoken x (kept_of m)) t count run.heap run.frame
  ran_to = ap (λ (n : MachineState). spoken x (kept_of n)) run.now

  pub ran_quietly : (place : ℕ) → slice_index (unended_threads (spoken x (kept_of m))) place ≡ t → AreQuiet (event_with_texts p) (said_by p) unended_threads graph_of place count m.guest.clock (spoken x (kept_of m)) (spoken x (kept_of m')) old new
  ran_quietly place here = subst (λ (k : Kept). AreQuiet (event_with_texts p) (said_by p) unended_threads graph_of place count m.guest.clock (spoken x (kept_of m)) k old new) (sym ran_to) (came.quiet place here)

  pub ran_soundly : IsSoundRun p (spoken x (kept_of m'))
  ran_soundly = subst (λ (k : Kept). IsSoundRun p k) (sym ran_to) came.sound

  pub ran_on : m'.guest.clock ≡ m.guest.clock + count
  ran_on = ap (λ (n : MachineState). n.guest.clock) run.now
