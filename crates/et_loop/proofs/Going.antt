-- WHAT A TURN MAKES OF A RUN: it goes on, or it is over, or it was cut off in the turn.
use Rattle.std.proofs.Common.{◌≡◌, ℕ, suc, ◌+◌, ◌*◌, ◌≤◌, Bool, List, [], Some, None, refl, subst, inl, add-one}
use Rattle.std.specs.Prelude.{slice_index}
use Rattle.et_base.specs.declared.value.End.{End}
use Rattle.et_graph.specs.Graph.{Graph, Decides}
use Rattle.et_io.specs.Sink.{Log, with_more, TakesPrefix}
use Rattle.et_io.proofs.Taking.{all_put, part_put, whole_prefix}
use Rattle.et_state.specs.declared.records.Record.{Record}
use Rattle.et_state.specs.Naming.{Mentions}
use Rattle.et_state.specs.History.{Setting, is_flush_point}
use Rattle.et_loop.specs.declared.tracer.Progress.{Progress}
use Rattle.et_loop.specs.Quiet.{IsTurn, IsBrokenTurn}
use Rattle.et_loop.specs.Run.{time_noted, Turns}
use Rattle.et_loop.specs.Ends.{IsOver, IsCutOff}
use Rattle.et_loop.specs.Stamping.{Passes}
use Rattle.et_loop.specs.Traced.{WritesPrefix}
use Rattle.et_loop.specs.Visits.{visits_to, IsCut}
use Rattle.et_loop.proofs.Counts.{more_so_far, last_allowed, cut_allowed, passes_grow, going_few, ending_few}
use Rattle.et_loop.proofs.Cuts.{cut_broken, cut_putting}
use Rattle.et_loop.proofs.Joins.{listed_here, next_runs, next_told}
use Rattle.et_loop.proofs.RunLemmas.{at_none, front_broken, front_nothing, front_turn, noted_before, turn_end, turn_on}
use Rattle.et_loop.proofs.Standing.{Stands, stands_on}
use Rattle.et_loop.proofs.Talking.{say_nothing, say_now, say_turn, said_here, said_putting, talking_end, talking_on}

-- BEFORE THE FIRST TURN nothing was printed, and nothing visited.
module _ {S : Type 0} {reached : Graph → ℕ → Bool} {given : Setting S} {said : S → ℕ → List ℕ} {flush_visits : (ℕ → Bool) → S → ℕ} {start : S} {made : List Record} {before heard : Log} {visits : ℕ} where
  pub cut_at_start : {after : Log} → WritesPrefix reached given start made before after → IsCutOff reached given said flush_visits start made before after heard heard visits visits
  cut_at_start prefix = record { prefix = prefix; cut = inl refl; said_prefix = say_nothing reached given said start made heard; said_cut = inl (refl, refl) }

  -- .. and maybe no line was put
  pub nothing_done : IsCutOff reached given said flush_visits start made before before heard heard visits visits
  nothing_done = cut_at_start (front_nothing reached given start made before)

module _ {S : Type 0} {reached : Graph → ℕ → Bool} {decides : Decides reached} {given : Setting S} {said : S → ℕ → List ℕ} {flush_visits : (ℕ → Bool) → S → ℕ} {start : S} {made : List Record} {before now heard hears : Log} {first e visits : ℕ} {m : Mentions} {s : S} {stamps : List ℕ}
    (h : Stands reached decides given said flush_visits start made m before now heard hears first e s stamps visits) where
  -- the turn was broken off
  pub broken_off : {now' : Log} {out : List ℕ} {after : ℕ} → out ≡ [] → IsBrokenTurn given said e s stamps visits after flush_visits now now' out → IsCutOff reached given said flush_visits start made before now' heard hears first after
  broken_off {now' = now'} {out = out} {after = after} empty turn =
      let at : ℕ = e + turn.quiet in
      let here = stands_on reached decides given said flush_visits start made m before now heard hears first turn.quiet e s turn.from stamps turn.between visits h turn.comes.events in
      let last = λ (o : ℕ). noted_before reached given start made o at in
      let breaks = turn.breaks reached decides last (listed_here reached decides given start made at turn.from m before now here.runs (slice_index turn.between) here.told) in
      let few = cut_allowed reached given flush_visits start made at turn.from first (visits + 8 * turn.quiet) here.so_far here.runs.state after (turn.comes.visits reached decides) in
      record {
        prefix = front_broken reached given start made at turn.from last m before now here.runs now' out empty breaks;
        cut = cut_broken reached given flush_visits start made before first after at turn.from last m now here.runs few turn.from last now' out breaks;
        said_prefix = say_now reached given said start made at heard hears here.talks here.runs.first;
        said_cut = said_here reached given said start made at heard hears here.talks here.runs.first flush_visits first after few;
      }

  -- THE TURN WAS DONE, or the history ended
  module _ {m' : Mentions} {s' : S} {now' : Log} {out left bytes new : List ℕ} {after : ℕ} {progress : Progress} (empty : out ≡ []) (turn : IsTurn given said e s stamps visits after flush_visits m s' m' now now' out left bytes new progress) where
    abbrev at : ℕ
    at = e + progress.quiet

    abbrev last : ℕ → ℕ
    last o = noted_before reached given start made o at

    abbrev last' : ℕ → ℕ
    last' = time_noted (reached (given.rule.graph turn.from)) last at

    here : Stands reached decides given said flush_visits start made m before now heard hears first at turn.from turn.between (visits + 8 * progress.quiet)
    here = stands_on reached decides given said flush_visits start made m before now heard hears first progress.quiet e s turn.from stamps turn.between visits h turn.comes.events

    turns : Turns reached given at turn.from last m s' last' m' out turn.whole progress.end
    turns = turn.turns reached decides last (listed_here reached decides given start made at turn.from m before now here.runs (slice_index turn.between) here.told)

    few : after ≤ first + visits_to reached given flush_visits start made at
    few = cut_allowed reached given flush_visits start made at turn.from first (visits + 8 * progress.quiet) here.so_far here.runs.state after (turn.comes.visits reached decides)

    front : (now'' : Log) → TakesPrefix now now'' turn.whole → WritesPrefix reached given start made before now''
    front now'' part = front_turn reached given start made at turn.from last m before now here.runs progress.end s' last' m' out turn.whole empty turns now'' part

    cut_there : (now'' : Log) → TakesPrefix now now'' turn.whole → IsCut reached given flush_visits start made before now'' first after
    cut_there now'' part = cut_putting reached given flush_visits start made before first after at turn.from last m now here.runs few now'' turn.whole part

    -- only a part of its lines was put
    pub cut_in_lines : {now'' : Log} {piece : List ℕ} → piece ≡ left → TakesPrefix now' now'' piece → IsCutOff reached given said flush_visits start made before now'' heard hears first after
    cut_in_lines {now'' = now''} is put =
        let part = part_put now now' now'' turn.whole left turn.put (subst (λ (b : List ℕ). TakesPrefix now' now'' b) is put) in
        record {
          prefix = front now'' part;
          cut = cut_there now'' part;
          said_prefix = say_now reached given said start made at heard hears here.talks here.runs.first;
          said_cut = said_here reached given said start made at heard hears here.talks here.runs.first flush_visits first after few;
        }

    -- all of them were
    module _ {now'' : Log} {lines : List ℕ} (lines_are : lines ≡ left) (put : now'' ≡ with_more now' lines) where
      all : now'' ≡ with_more now turn.whole
      all = all_put now now' now'' turn.whole left turn.put (subst (λ (b : List ℕ). now'' ≡ with_more now' b) lines_are put)

      -- .. but only a part of what it prints
      pub cut_in_print : {hears' : Log} {piece : List ℕ} → piece ≡ bytes → TakesPrefix hears hears' piece → IsCutOff reached given said flush_visits start made before now'' heard hears' first after
      cut_in_print {hears' = hears'} is put =
          let part = subst (λ (b : List ℕ). TakesPrefix hears hears' b) is put in
          record {
            prefix = front now'' (whole_prefix now now'' turn.whole all);
            cut = cut_there now'' (whole_prefix now now'' turn.whole all);
            said_prefix = say_turn reached given said start made at heard hears here.talks here.runs.first turn.from bytes here.runs.state progress.end hears'
                (λ none. (turn_on reached given start made at turn.from last m before now here.runs progress.end s' last' m' out turn.whole empty none turns (suc at) now'' refl all).first) (turn.says reached decides) part;
            said_cut = said_putting reached given said start made at heard hears here.talks here.runs.first flush_visits first after few hears' bytes part;
          }

      -- .. and all that it prints
      module _ {hears' : Log} {piece : List ℕ} (piece_is : piece ≡ bytes) (heard_it : hears' ≡ with_more hears piece) where
        printed : hears' ≡ with_more hears bytes
        printed = subst (λ (b : List ℕ). hears' ≡ with_more hears b) piece_is heard_it

        pub run_over : {end : End} → progress.end ≡ Some end → IsOver reached given said flush_visits start made before now'' heard hears' first after (record { end = end; event = at })
        run_over {end = end} is =
            let wrote = turn_end reached given start made at turn.from last m before now here.runs progress.end end s' last' m' out turn.whole empty is turns now'' all in
            record {
              trace = wrote;
              visits = last_allowed reached given flush_visits start made at turn.from first (visits + 8 * progress.quiet) here.so_far here.runs.state after
                  (ending_few reached given flush_visits at turn.from last m s' last' m' out turn.whole progress.end turns (visits + 8 * progress.quiet) after (turn.comes.visits reached decides) end is);
              said = record { ends = wrote.ends; taken = talking_end reached given said start made at heard hears here.talks here.runs.first turn.from bytes here.runs.state progress.end end is (turn.says reached decides) hears' printed };
            }

        pub run_goes : progress.end ≡ None → Stands reached decides given said flush_visits start made m' before now'' heard hears' first (at + 1) s' new after
        run_goes is =
            let due = is_flush_point given.interval at in
            let passes : Passes due at (given.rule.graph turn.from) (given.rule.graph s') (slice_index turn.between) (slice_index new) = at_none progress.end is turn.passes in
            record {
              runs = next_runs reached decides given start made at turn.from m before now here.runs (slice_index turn.between) here.told progress.end s' last' m' out turn.whole empty is turns (at + 1) now'' (add-one at) all;
              told = next_told reached decides given start made at turn.from m before now here.runs (slice_index turn.between) here.told progress.end s' last' m' out turn.whole empty is turns (at + 1) now'' (add-one at) all due (slice_index new) passes;
              so_far = more_so_far reached given flush_visits start made at turn.from first (visits + 8 * progress.quiet) here.so_far here.runs.state s' after
                  (passes_grow due at (given.rule.graph turn.from) (given.rule.graph s') (slice_index turn.between) (slice_index new) passes)
                  (going_few reached given flush_visits at turn.from last m s' last' m' out turn.whole progress.end turns (visits + 8 * progress.quiet) after (turn.comes.visits reached decides) is) (at + 1) (add-one at);
              talks = talking_on reached given said start made at heard hears here.talks here.runs.first turn.from bytes here.runs.state progress.end is (turn.says reached decides) (at + 1) hears' (add-one at) printed;
            }
