-- What the words and the files of a trace define is a program that was linked, and options in range.
use Rattle.std.proofs.Common.{◌≡◌, ℕ, suc, ◌<◌, Bool, true, false, inl, inr, List, [], ◌∷◌, length, map, Option, Some, None, Result, Ok, Err, refl, sym, ap, subst, arith}
use Rattle.std.specs.Prelude.{All, nat_lt, if◌then◌else◌}
use Rattle.std.proofs.lemmas.List.Elements.{All-nil, All-cons}
use Rattle.et_base.specs.Numbers.{AreBytes}
use Rattle.et_class.specs.Layout.{ClassOf}
use Rattle.et_graph.specs.Graph.{Graph}
use Rattle.et_io.specs.Files.{Held}
use Rattle.et_program.specs.Entries.{Linked}
use Rattle.et_program.specs.Linking.{IsOfFile, IsLinked}
use Rattle.et_replay.specs.declared.model.Kind.{Kind}
use Rattle.et_state.specs.declared.options.Options.{Options}
use Rattle.et_state.specs.Options.{AreOptions}
use Rattle.et_command.specs.Command.{Asked, Trace, Run, Assemble, Verify, Replay, Convert, Curve, Snapshot, Bench, command}
use Rattle.et_files.specs.Faults.{Fault, TooLong}
use Rattle.et_files.specs.Loaded.{file_bytes, most_of_class, before, IsClassOf, AreClassesOf, IsLinkedOf, IsProgramOfFiles, reaching}
use Rattle.et_top.specs.Top.{Defined, Usage, Refused, Traces, IsAskedDefined, IsDefined, traces, prints, verifies, benches, defined_text}
use Rattle.et_theorems.proofs.Ranges.{HasRanges, ranges_of_trace, command_has}

-- OF FILES

of_bytes : (bytes : List ℕ) (c : ClassOf) → AreBytes bytes → IsClassOf (Ok bytes) (Ok c) → IsOfFile c
of_bytes bytes c are (inl (fault, has, e)) = absurd cc
of_bytes bytes c are (inr (d, is, e)) = let same : d ≡ c = cc in subst IsOfFile same (record { bytes = bytes; are_bytes = are; is = is })

of_short : (b : Bool) (bytes : List ℕ) (c : ClassOf) → AreBytes bytes → IsClassOf (if b then Err TooLong else Ok bytes) (Ok c) → IsOfFile c
of_short true bytes c are is = absurd cc
of_short false bytes c are is = of_bytes bytes c are is

of_file : (file : Option (List ℕ)) (c : ClassOf) → ((bytes : List ℕ) → file ≡ Some bytes → AreBytes bytes) → IsClassOf (file_bytes most_of_class file) (Ok c) → IsOfFile c
of_file None c hold is = absurd cc
of_file (Some bytes) c hold is = of_short (nat_lt most_of_class (length bytes)) bytes c (hold bytes refl) is

-- so many classes, each of a file
abbrev AreOfFiles : ℕ → Result (List ClassOf) Fault → Type 0
AreOfFiles n (Ok classes) = (length classes ≡ n) × All IsOfFile classes
AreOfFiles n (Err fault) = Unit {0}

first_of_files : (n : ℕ) (c : ClassOf) (rest : Result (List ClassOf) Fault) → IsOfFile c → AreOfFiles n rest → AreOfFiles (suc n) (before c rest)
first_of_files n c (Ok classes) first are = (ap suc are.0, All-cons IsOfFile c classes first are.1)
first_of_files n c (Err fault) first are = tt

classes_of_files : (held : Held) → ((path file : List ℕ) → held path ≡ Some file → AreBytes file) → (paths : List (List ℕ)) (classes : Result (List ClassOf) Fault) → AreClassesOf (map held paths) classes → AreOfFiles (length paths) classes
classes_of_files held hold [] classes is = subst (AreOfFiles 0) (sym is) (refl, All-nil IsOfFile)
classes_of_files held hold (path ∷ paths) classes (Err fault, is, e) = subst (AreOfFiles (length (path ∷ paths))) (sym e) tt
classes_of_files held hold (path ∷ paths) classes (Ok c, is, (rest, others, e)) =
    subst (AreOfFiles (length (path ∷ paths))) (sym e)
    (first_of_files (length paths) c rest (of_file (held path) c (λ bytes there. hold path bytes there) is) (classes_of_files held hold paths rest others))

linked_by : (n : ℕ) (classes : Result (List ClassOf) Fault) (p : Linked) → 0 < n → AreOfFiles n classes → IsLinkedOf classes (Ok p) → IsLinked p
linked_by n (Err fault) p some are is = absurd cc
linked_by n (Ok classes) p some are (inl (kind, (name, refuses, e))) = absurd cc
linked_by n (Ok classes) p some are (inr (linkable, (q, is, e))) =
    let same : q ≡ p = cc in
    let count = are.0 in
    subst IsLinked same (record { classes = classes; some = omega (arith, some, count); of_files = are.1; linkable = linkable; program = is })

-- OF WORDS

-- the command, by what it defines
pub record IsTraceCommand (held : Held) (o : Option Asked) (p : Linked) (options : Options) : Type 0 where
  pub paths : List (List ℕ)
  pub command_is : o ≡ Some (Trace options paths)
  pub program_is : IsProgramOfFiles (map held paths) (Ok p)

IsTraces : Defined → Type 0
IsTraces (Traces p options) = Unit {0}
IsTraces _ = ⊥

is_traces : (p : Linked) (options : Options) (d : Defined) → Traces p options ≡ d → IsTraces d
unfolding IsTraces
is_traces p options d e = subst IsTraces e tt

text_traces_not : {A : Type 0} (text : (Graph → ℕ → Bool) → A → List ℕ) (r : Result A Fault) → IsTraces (defined_text text r) → ⊥
unfolding IsTraces
text_traces_not text (Ok a) is = is
text_traces_not text (Err fault) is = is

bench_traces_not : (r : Result Linked Fault) → IsTraces (benches r) → ⊥
unfolding IsTraces
bench_traces_not (Ok p) is = is
bench_traces_not (Err fault) is = is

print_traces_not : (options : Options) (r : Result Linked Fault) → IsTraces (prints options r) → ⊥
unfolding IsTraces
print_traces_not options (Ok p) is = is
print_traces_not options (Err fault) is = is

verdict_traces_not : (r : Result Linked Fault) → IsTraces (verifies r) → ⊥
unfolding IsTraces
verdict_traces_not (Ok p) is = is
verdict_traces_not (Err fault) is = is

usage_traces_not : IsTraces Usage → ⊥
unfolding IsTraces
usage_traces_not is = is

refused_traces_not : (fault : Fault) → IsTraces (Refused fault) → ⊥
unfolding IsTraces
refused_traces_not fault is = is

program_in : Defined → Linked → Linked
program_in (Traces p options) q = p
program_in _ q = q

options_in : Defined → Options → Options
options_in (Traces p options) o = options
options_in _ o = o

same_program : (p q : Linked) (options other : Options) → Traces p options ≡ Traces q other → q ≡ p
unfolding program_in
same_program p q options other e = sym (ap (λ d. program_in d q) e)

same_options : (p q : Linked) (options other : Options) → Traces p options ≡ Traces q other → other ≡ options
unfolding options_in
same_options p q options other e = sym (ap (λ d. options_in d other) e)

-- the program of the files at these paths
program_by : (held : Held) (p : Linked) (options other : Options) (paths : List (List ℕ)) (program : Result Linked Fault) → IsProgramOfFiles (map held paths) program → Traces p options ≡ traces other program → IsProgramOfFiles (map held paths) (Ok p)
program_by held p options other paths (Err fault) is e = absurd (refused_traces_not fault (is_traces p options (Refused fault) e))
program_by held p options other paths (Ok q) is e = subst (λ (x : Linked). IsProgramOfFiles (map held paths) (Ok x)) (same_program p q options other e) is

trace_by : (held : Held) (p : Linked) (options other : Options) (paths : List (List ℕ)) (program : Result Linked Fault) → IsProgramOfFiles (map held paths) program → Traces p options ≡ traces other program → IsTraceCommand held (Some (Trace other paths)) p options
trace_by held p options other paths (Err fault) is e = absurd (refused_traces_not fault (is_traces p options (Refused fault) e))
trace_by held p options other paths (Ok q) is e = record {
  paths = paths;
  command_is = ap (λ (o : Options). Some (Trace o paths)) (same_options p q options other e);
  program_is = program_by held p options other paths (Ok q) is e;
}

pub trace_command : (kinds : List Kind) (held : Held) (o : Option Asked) (p : Linked) (options : Options) → IsAskedDefined kinds o held (Traces p options) → IsTraceCommand held o p options
trace_command kinds held None p options is = absurd (usage_traces_not (is_traces p options _ is))
trace_command kinds held (Some (Trace other paths)) p options (program, is, e) = trace_by held p options other paths program is e
trace_command kinds held (Some (Run other paths)) p options (program, is, e) = absurd (print_traces_not other program (is_traces p options _ e))
trace_command kinds held (Some (Assemble path)) p options (class, is, e) = absurd (text_traces_not _ class (is_traces p options _ e))
trace_command kinds held (Some (Verify paths)) p options (program, is, e) = absurd (verdict_traces_not program (is_traces p options _ e))
trace_command kinds held (Some (Replay models path)) p options (trace, is, e) = absurd (text_traces_not _ trace (is_traces p options _ e))
trace_command kinds held (Some (Convert path)) p options (trace, is, e) = absurd (text_traces_not _ trace (is_traces p options _ e))
trace_command kinds held (Some (Curve path)) p options (trace, is, e) = absurd (text_traces_not _ trace (is_traces p options _ e))
trace_command kinds held (Some (Snapshot path event)) p options (trace, is, e) = absurd (text_traces_not _ (reaching event trace) (is_traces p options _ e))
trace_command kinds held (Some (Bench number)) p options (program, is, e) = absurd (bench_traces_not program (is_traces p options _ e))

pub program_of : (kinds : List Kind) (held : Held) (p : Linked) (options : Options) (paths : List (List ℕ)) → IsAskedDefined kinds (Some (Trace options paths)) held (Traces p options) → IsProgramOfFiles (map held paths) (Ok p)
program_of kinds held p options paths (program, is, e) = program_by held p options options paths program is e

-- BOTH

module _ (kinds : List Kind) (words : List (List ℕ)) (held : Held) (p : Linked) (options : Options) (defined : IsDefined kinds words held (Traces p options)) where
  the_command : IsTraceCommand held (command words) p options
  the_command = trace_command kinds held (command words) p options defined

  ranges : AreOptions options × (0 < length the_command.paths)
  ranges = ranges_of_trace options the_command.paths (subst HasRanges the_command.command_is (command_has words))

  pub options_are : AreOptions options
  options_are = ranges.0

  pub is_linked : ((path file : List ℕ) → held path ≡ Some file → AreBytes file) → IsLinked p
  is_linked hold =
      let is = the_command.program_is in
      linked_by (length the_command.paths) is.0 p ranges.1 (classes_of_files held hold the_command.paths is.0 is.1) is.2
