-- What holds of each program that may be run holds of each linked program.
use Rattle.std.proofs.Common.{◌≡◌, ◌<◌, ◌≤◌, ℕ, Bool, length, map, sym, subst, true, arith}
use Rattle.std.proofs.lemmas.List.{length-map}
use Rattle.std.proofs.lemmas.List.Elements.{All-nil}
use Rattle.et_graph.specs.Graph.{Graph, Decides}
use Rattle.et_heap.specs.Objects.{IsHeld, object_at}
use Rattle.et_program.specs.Entries.{Linked}
use Rattle.et_program.specs.Linking.{IsLinked}
use Rattle.et_program.specs.Loaded.{loaded_class}
use Rattle.et_program.specs.Tables.{IsTabled}
use Rattle.et_state.specs.Options.{AreOptions}
use Rattle.et_state.specs.Start.{start}
use Rattle.et_state.specs.Texts.{longest_text}
use Rattle.et_state.specs.declared.options.Options.{Options}
use Rattle.et_event.specs.SoundTexts.{HasSoundTexts, is_text_class}
use Rattle.et_history.specs.programs.Programs.{KeepRules}
use Rattle.et_history.proofs.programs.Promises.{keep_rules, keeps_promises}
use Rattle.et_history.proofs.programs.Starting.{start_sound}
use Rattle.et_history.specs.Histories.{IsHistory}
use Rattle.et_history.specs.Settings.{IsSoundRun}

-- nothing has a text in the first state
none_sound : (p : Linked) → HasSoundTexts p (start p)
none_sound p = record { owned = All-nil (λ o. IsHeld (start p).heap o × (is_text_class p (object_at (start p).heap o).class ≡ true)); short = All-nil (λ units. length units ≤ longest_text); few = omega arith }

pub sound_run : (p : Linked) → IsTabled p → IsLinked p → IsSoundRun p (start p)
sound_run p tabled is =
    let rules : KeepRules (map loaded_class is.classes) = keep_rules is.classes is.of_files in
    let some : 0 < length (map loaded_class is.classes) = subst (λ n. 0 < n) (sym (length-map is.classes loaded_class)) is.some in
    record {
      tabled = tabled;
      runnable = keeps_promises (map loaded_class is.classes) p some rules is.linkable is.program;
      state = start_sound (map loaded_class is.classes) p rules.names is.program;
      texts = none_sound p;
    }

pub linked_history : (reached : Graph → ℕ → Bool) (p : Linked) (options : Options) → Decides reached → IsTabled p → IsLinked p → AreOptions options → IsHistory reached p options
linked_history reached p options decides tabled is are = record { decides = decides; run = sound_run p tabled is; options_are = are }
