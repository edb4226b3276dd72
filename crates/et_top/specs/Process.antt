-- What a process does around the top call.
use Rattle.std.specs.Prelude.{◌≡◌, ◌⊎◌, ℕ, Bool, true, List, [], ◌∷◌, map, string_bytes, None, Result, IfOk, IfErr, OnErr}
use Rattle.std.specs.declared.vec.Vec.{Vec}
use Rattle.std.specs.declared.string.String.{String}
use Rattle.std.specs.declared.alloc.Global.{Global}
use Rattle.et_io.specs.Faults.{Rose, count_after}
use Rattle.et_io.specs.Files.{Held}
use Rattle.et_io.specs.declared.files.Files as reading
use Rattle.et_io.specs.declared.sink.Sink as writing
use Rattle.et_graph.specs.Graph.{Graph, Decides}
use Rattle.et_replay.specs.declared.model.Kind.{Kind}
use Rattle.et_replay.specs.declared.model.Kind.TheVariants as kind
use Rattle.et_command.specs.Command.{command}
use Rattle.et_files.specs.Reads.{ReadsInOrder}
use Rattle.et_files.specs.Status.{is_read_status, is_write_status, is_whole}
use Rattle.et_top.specs.Paths.{paths_of, most_of}
use Rattle.et_top.specs.Top.{Defined, IsDefined, GivesDefined}
use Rattle.et_top.specs.declared.process.WordsFault.{WordsFault}
use Rattle.et_top.specs.declared.process.WordsFault.TheVariants as words
use Rattle.et_files.specs.declared.status.Status.{Status}
use Rattle.et_files.specs.declared.status.Status.TheVariants as status

-- the kinds of its models, in the order of their lines
abbrev pub model_kinds : List Kind
model_kinds = kind.MarkSweep ∷ kind.SemiSpace ∷ kind.Generational ∷ kind.RefCount ∷ []

-- the status of words that are not there: words that are not UTF-8 are no command
abbrev pub status_of_words : WordsFault → Status
status_of_words words.NotUtf8 = status.Usage
status_of_words words.NoMemory = status.NoMemory

-- How a process ends that came to the first status, where a whole output is then to be handed on: with that status; or, where
-- that failed, with `WriteFault`, and the faults of its output, which were old, are one more.
abbrev pub EndsAs : (came end : Status) → (old new : ℕ) → Type 0
EndsAs came end old new = ((end ≡ came) × (new ≡ old)) ⊎ ((is_whole came ≡ true) × (end ≡ status.WriteFault) × (new ≡ count_after true old))

module _ {X Y : Type 0} (F : reading.Ghosts X) (O : writing.Ghosts Y) (files files' : X) (out out' : Y) where
  -- What the top call answers to these words, with new models and a counter of its own, of which it is only said that there is
  -- a count that is allowed.
  pub record AnswersWords (line : List (List ℕ)) (answer : Status) : Type 0 where
    pub answers : (held : Held) → F.agrees files' (F.asked files) held → (d : Defined) → IsDefined model_kinds line held d → (reached : Graph → ℕ → Bool) → Decides reached
        → (visits : ℕ) × GivesDefined reached (O.taken out) (O.taken out') 0 visits (Rose (F.faults files) (F.faults files')) (Rose (O.faults out) (O.faults out')) d answer
    pub usage : answer ≡ status.Usage → command line ≡ None
    pub no_command : command line ≡ None → (answer ≡ status.Usage) ⊎ (answer ≡ status.NoMemory)
    pub reads : ReadsInOrder (F.agrees files' (F.asked files)) (F.asked files) (F.asked files') (most_of (command line)) (paths_of (command line)) answer

  -- What a process answers: that of its words; or, where these are not there, no file is read and nothing is put to out.
  pub record AnswersProcess (given : Result (Vec (String Global) Global) WordsFault) (answer : Status) : Type 0 where
    pub words : IfOk given (λ some. AnswersWords (map string_bytes some.items) answer)
    pub read_fault : F.faults files' ≡ count_after (is_read_status answer) (F.faults files)
    pub write_fault : O.faults out' ≡ count_after (is_write_status answer) (O.faults out)
    pub no_words : IfErr given (λ fault. answer ≡ status_of_words fault)
    pub no_file : OnErr given (files' ≡ files)
    pub nothing : OnErr given (out' ≡ out)
