-- A stretch of the guest is a step of the loop.
use Rattle.std.proofs.Common.{◌≡◌, ℕ, suc, ◌+◌, ◌-◌, ◌*◌, ◌%◌, ◌<◌, ◌≤◌, ◌++◌, Bool, List, [], length, Contains, Some, None, refl, sym, ◌∙◌, ap, subst, arith}
use Rattle.std.specs.Prelude.{slice_index}
use Rattle.et_base.specs.declared.value.End.{End}
use Rattle.et_graph.specs.Graph.{Graph}
use Rattle.et_state.specs.declared.records.Record.{Record}
use Rattle.et_state.specs.declared.ends.EventEnd.TheVariants as ends
use Rattle.et_state.specs.declared.options.Options.{Options}
use Rattle.et_state.specs.Options.{pick_of}
use Rattle.et_state.specs.Outcome.{Outcome, state_after}
use Rattle.et_state.specs.Naming.{Names, Mentions, nothing_mentioned, mentions_after, lines_of}
use Rattle.et_state.specs.History.{Setting}
use Rattle.et_binary.specs.Formats.{lines_written_in}
use Rattle.et_loop.specs.declared.guest.Stretch.{Stretch}
use Rattle.et_loop.specs.declared.guest.TimeSlice.{TimeSlice}
use Rattle.et_loop.specs.Options.{setting_of}
use Rattle.et_loop.specs.Pace.{IsSlice}
use Rattle.et_loop.specs.Quiet.{event_at, ComesTo, IsStretch, IsBrokenOff, ComesQuietly, IsStep, IsBrokenStep}
use Rattle.et_loop.specs.Run.{end_after}
use Rattle.et_loop.specs.Stamping.{AreMade, Restamps}
use Rattle.et_loop.proofs.Marking.{lost_made}
use Rattle.et_loop.proofs.Quiets.{IsAfter, quiet_after, turn_at, visits_are, is_native, step_done, last_goes, last_stops, last_says, reached_there}

module _ {S : Type 0} (event : S → ℕ → Outcome S) (unended : S → List ℕ) (graph : S → Graph) (flushed : (ℕ → Bool) → S → S) (names : Names) (options : Options) (e count : ℕ) (slice : TimeSlice) (s : S) where
  -- the slice is that of a thread among so many
  pub record IsSliced : Type 0 where
    pub is : IsSlice options e count slice
    pub counted : count ≡ length (unended s)
    pub some : 0 < count

module _ {S : Type 0} {event : S → ℕ → Outcome S} {unended : S → List ℕ} {graph : S → Graph} {flushed : (ℕ → Bool) → S → S} {names : Names} {options : Options} {e count : ℕ} {slice : TimeSlice} {s : S} (z : IsSliced event unended graph flushed names options e count slice s) where
  abbrev given : Setting S
  given = setting_of event unended graph flushed names options

  module _ {said : S → ℕ → List ℕ} {old new : List ℕ} {before after quiet : ℕ} {mid : S} (comes : ComesTo event said unended graph slice.place slice.events e s old new before after quiet mid) where
    behind : IsAfter given said slice.place slice.events count e s old (sym z.counted) z.some z.is.turn z.is.limit z.is.flushes quiet mid new
    behind = quiet_after given said slice.place slice.events count e s old (sym z.counted) z.some z.is.turn z.is.limit z.is.flushes quiet mid new comes.few comes.events

    held : 0 < length (unended mid)
    held = let same = behind.same_count in omega (arith, same, z.some)

    within : e + quiet < options.limit
    within = omega (arith, comes.few, z.is.limit)

    turn_now : pick_of options.schedule (suc (e + quiet)) % length (unended mid) ≡ slice.place
    turn_now = turn_at given said slice.place slice.events count e s old (sym z.counted) z.some z.is.turn z.is.limit z.is.flushes quiet mid comes.few behind.same_count

    comes_quietly : ComesQuietly given said e s old before after quiet mid new
    comes_quietly = record {
      events = behind.go;
      later = λ more. z.is.flushes (omega (arith, more, comes.few)) quiet comes.few;
      visits =
          let few : after ≤ before + 8 * quiet + 8 + ((graph (state_after mid (event_at event said unended graph slice.place mid))).made - (graph mid).made) = omega (arith, comes.visits) in
          visits_are given said slice.place (e + quiet) mid held within turn_now (before + 8 * quiet) after few;
    }

  pub broken_step : {said : S → ℕ → List ℕ} {old new : List ℕ} {before after : ℕ} → IsBrokenOff event said unended graph slice.place slice.events e s old new before after → IsBrokenStep given said e s old before after
  broken_step {new = new} h = record { quiet = h.quiet; mid = h.mid; between = new; comes = comes_quietly h.comes }

  module _ {said : S → ℕ → List ℕ} {old new : List ℕ} {before after : ℕ} {s' : S} {records : List Record} {bytes lost : List ℕ} {stretch : Stretch} (h : IsStretch event said unended graph slice.place slice.events e s old new before after s' records bytes lost stretch) where
    pub not_native : (method : ℕ) → stretch.end ≡ ends.Native method → ⊥
    not_native method native = is_native method stretch.end (event_at event said unended graph slice.place h.mid) h.mid s' records native h.answers

    module _ (thread : ℕ) (first : thread ≡ slice_index (unended s) slice.place) (m m' : Mentions) (out out' : List ℕ) where
      same_thread : thread ≡ slice_index (unended h.mid) slice.place
      same_thread = first ∙ sym (behind h.comes).same_turn

      pub stretch_stops : (over : End) → end_after thread stretch.end ≡ Some over → m' ≡ m → out' ≡ out → IsStep given said e s old before after m s' m' out out' bytes new (record { quiet = stretch.quiet; end = Some over })
      stretch_stops over after_is mentions lines = record {
        mid = h.mid;
        between = new;
        comes = comes_quietly h.comes;
        goes = last_stops given said slice.place (e + stretch.quiet) h.mid (held h.comes) (within h.comes) (turn_now h.comes) stretch.end s' records h.answers m m' out out' thread same_thread over after_is mentions lines;
        says = last_says given said slice.place (e + stretch.quiet) h.mid (held h.comes) (within h.comes) (turn_now h.comes) stretch.end s' records h.answers m m' out out' thread same_thread (Some over) bytes after_is h.says;
        stamped = refl;
      }

      pub stretch_goes : (new' : List ℕ) → end_after thread stretch.end ≡ None → m' ≡ mentions_after names m records → out' ≡ out ++ lines_written_in options.format (lines_of names m records)
          → Restamps (e + stretch.quiet) (graph s).made (graph s').made lost (slice_index new) (slice_index new') → IsStep given said e s old before after m s' m' out out' bytes new' (record { quiet = stretch.quiet; end = None })
      stretch_goes new' after_is mentions lines marks = record {
        mid = h.mid;
        between = new;
        comes = comes_quietly h.comes;
        goes = last_goes given said slice.place (e + stretch.quiet) h.mid (held h.comes) (within h.comes) (turn_now h.comes) stretch.end s' records h.answers m m' out out' thread same_thread after_is mentions lines;
        says = last_says given said slice.place (e + stretch.quiet) h.mid (held h.comes) (within h.comes) (turn_now h.comes) stretch.end s' records h.answers m m' out out' thread same_thread None bytes after_is h.says;
        stamped = (lost, step_done thread stretch.end (graph h.mid) (graph s') lost not_native after_is h.step, subst (λ (n : ℕ). Restamps (e + stretch.quiet) n (graph s').made lost (slice_index new) (slice_index new')) (sym (behind h.comes).made) marks);
      }

    pub as_long : length new ≡ length old
    as_long = (behind h.comes).long

    -- what the last event lost was made
    pub stretch_lost : (thread : ℕ) → end_after thread stretch.end ≡ None → AreMade (graph s) → (o : ℕ) → Contains lost o → o ≤ (graph s').made
    stretch_lost thread after_is made = lost_made (graph h.mid) (graph s') lost (reached_there (graph h.mid) ((behind h.comes).there made)) (step_done thread stretch.end (graph h.mid) (graph s') lost not_native after_is h.step)

    pub stretch_grows : (thread : ℕ) → end_after thread stretch.end ≡ None → (graph s).made ≤ (graph s').made
    stretch_grows thread after_is =
        let step = step_done thread stretch.end (graph h.mid) (graph s') lost not_native after_is h.step in
        let count = step.1.draft.made in
        let same = (behind h.comes).made in
        omega (arith, count, same)

    -- where the history ends, no object was made
    pub stretch_kept : (thread : ℕ) (over : End) → thread ≡ slice_index (unended s) slice.place → end_after thread stretch.end ≡ Some over → (graph s').made ≡ (graph s).made
    stretch_kept thread over first after_is =
        let stops = last_stops given said slice.place (e + stretch.quiet) h.mid (held h.comes) (within h.comes) (turn_now h.comes) stretch.end s' records h.answers nothing_mentioned nothing_mentioned [] [] thread (first ∙ sym (behind h.comes).same_turn) over after_is refl refl in
        ap (λ (x : S). (graph x).made) stops.state ∙ (behind h.comes).made
