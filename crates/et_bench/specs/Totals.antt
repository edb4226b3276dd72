-- THE SUMMARY of a trace: what it comes to, and what a mark-sweep heap reports of it.
use Rattle.std.specs.Prelude.{ℕ, Bool, true, false, List, ◌∷◌, ◌++◌, length, codes, count_by}
use Rattle.std.specs.Fmt.{decimal}
use Rattle.et_base.specs.declared.line.TraceLine.{TraceLine}
use Rattle.et_base.specs.declared.line.TraceLine.TheVariants.{Alloc, Death, Flush}
use Rattle.et_graph.specs.Graph.{Graph}
use Rattle.et_replay.specs.Curve.{live}
use Rattle.et_replay.specs.Replay.{replay_line}
use Rattle.et_replay.specs.Timeline.{timeline_items}
use Rattle.et_replay.specs.declared.model.Kind.TheVariants.{MarkSweep}
use Rattle.et_replay.specs.declared.model.Policy.{Policy}
use Rattle.et_files.specs.Loaded.{last_event}
use Rattle.et_bench.specs.declared.totals.Totals.{Totals}

abbrev pub is_alloc : TraceLine → Bool
is_alloc (Alloc event thread object class size length) = true
is_alloc _ = false

abbrev pub is_death : TraceLine → Bool
is_death (Death object time) = true
is_death _ = false

abbrev pub is_flush : TraceLine → Bool
is_flush (Flush event deaths) = true
is_flush _ = false

-- the last event, how many lines tell of objects made, of deaths and of flushes, and the bytes that are live at that event
abbrev pub totals_of : List TraceLine → Totals
totals_of lines =
    let end = last_event lines in
    record { events = end; objects = count_by is_alloc lines; deaths = count_by is_death lines; flushes = count_by is_flush lines; live = live lines end }

abbrev pub totals_text : Totals → List ℕ
totals_text t =
    codes "events=" ++ decimal t.events ++ codes " objects=" ++ decimal t.objects ++ codes " deaths=" ++ decimal t.deaths
    ++ codes " flushes=" ++ decimal t.flushes ++ codes " live=" ++ decimal t.live

abbrev pub bench_policy : Policy
bench_policy = record { kind = MarkSweep; first = 4000000; second = 0 }

-- the line of the totals with LF (10), and that of a mark-sweep heap
abbrev pub summary_text : (Graph → ℕ → Bool) → List TraceLine → List ℕ
summary_text reached lines = totals_text (totals_of lines) ++ 10 ∷ replay_line reached (timeline_items lines) bench_policy
