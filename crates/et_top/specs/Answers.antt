-- WHAT IS ANSWERED TO A COMMAND. The files, out and the counter of visits stand before and after the call.
use Rattle.std.specs.Prelude.{◌≡◌, ℕ, Bool, false, List, Some, Result}
use Rattle.et_io.specs.Faults.{Rose, count_after}
use Rattle.et_io.specs.Files.{Held}
use Rattle.et_io.specs.declared.files.Files as reading
use Rattle.et_io.specs.declared.sink.Sink as writing
use Rattle.et_graph.specs.Graph.{Graph, Decides}
use Rattle.et_program.specs.Entries.{Linked}
use Rattle.et_replay.specs.declared.model.Kind.{Kind}
use Rattle.et_command.specs.Command.{Asked}
use Rattle.et_bench.specs.Listing.{bench_listing}
use Rattle.et_files.specs.Faults.{Fault}
use Rattle.et_files.specs.Loaded.{IsListingProgram}
use Rattle.et_files.specs.Reads.{ReadsInOrder}
use Rattle.et_files.specs.Status.{is_read_status, is_write_status}
use Rattle.et_files.specs.declared.status.Status.{Status}
use Rattle.et_files.specs.declared.status.Status.TheVariants as status
use Rattle.et_top.specs.Paths.{paths_of, most_of}
use Rattle.et_top.specs.Top.{Defined, IsAskedDefined, GivesDefined, benches}
use Rattle.et_top.specs.Visits.{IsBeforeBench, IsWithoutRun, IsNoTrace, HasUnread}

module _ {X Y : Type 0} (F : reading.Ghosts X) (O : writing.Ghosts Y) (files files' : X) (out out' : Y) (visits visits' : ℕ) where
  -- what is defined is given, for all files that agree with what was read; faults are counted where the answer is one; files are
  -- read in order; and objects are visited in a run alone
  pub record Answers (kinds : List Kind) (asked : Asked) (answer : Status) : Type 0 where
    pub gives : (held : Held) → F.agrees files' (F.asked files) held → (d : Defined) → IsAskedDefined kinds (Some asked) held d → (reached : Graph → ℕ → Bool) → Decides reached
        → GivesDefined reached (O.taken out) (O.taken out') visits visits' (Rose (F.faults files) (F.faults files')) (Rose (O.faults out) (O.faults out')) d answer
    pub usage : answer ≡ status.Usage → ⊥
    pub read_fault : F.faults files' ≡ count_after (is_read_status answer) (F.faults files)
    pub write_fault : O.faults out' ≡ count_after (is_write_status answer) (O.faults out)
    pub reads : ReadsInOrder (F.agrees files' (F.asked files)) (F.asked files) (F.asked files') (most_of (Some asked)) (paths_of (Some asked)) answer
    pub no_visits : IsWithoutRun (Some asked) answer → visits' ≡ visits
    pub no_trace : (held : Held) → F.agrees files' (F.asked files) held → (d : Defined) → IsAskedDefined kinds (Some asked) held d → IsNoTrace d → visits' ≡ visits
    pub unread : HasUnread (F.asked files) (F.asked files') (paths_of (Some asked)) → visits' ≡ visits

module _ {Y : Type 0} (O : writing.Ghosts Y) (out out' : Y) (visits visits' : ℕ) where
  -- .. of a bench with these numbers, where no file is read
  pub record AnswersBench (number cells rounds : ℕ) (answer : Status) : Type 0 where
    pub gives : (found : Result Linked Fault) → IsListingProgram (bench_listing number cells rounds) found → (reached : Graph → ℕ → Bool) → Decides reached
        → GivesDefined reached (O.taken out) (O.taken out') visits visits' ⊥ (Rose (O.faults out) (O.faults out')) (benches found) answer
    pub write_fault : O.faults out' ≡ count_after (is_write_status answer) (O.faults out)
    pub no_read : is_read_status answer ≡ false
    pub usage : answer ≡ status.Usage → ⊥
    pub no_visits : IsBeforeBench answer → visits' ≡ visits
    pub no_trace : (found : Result Linked Fault) → IsListingProgram (bench_listing number cells rounds) found → IsNoTrace (benches found) → visits' ≡ visits
