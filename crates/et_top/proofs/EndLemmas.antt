-- What a process gives once its output is handed on, or isn't.
use Rattle.std.proofs.Common.{◌≡◌, ℕ, ◌+◌, ◌≤◌, ◌∙◌, arith, Bool, true, false, List, [], append-nil, Result, Ok, Err, inl, inr, refl, sym, ap, subst}
use Rattle.std.specs.Prelude.{◌⊎◌, None}
use Rattle.std.specs.declared.vec.Vec.{Vec}
use Rattle.std.specs.declared.string.String.{String}
use Rattle.std.specs.declared.alloc.Global.{Global}
use Rattle.et_io.specs.declared.files.Files as reading
use Rattle.et_io.specs.declared.sink.Sink as writing
use Rattle.et_command.specs.Command.{command}
use Rattle.et_files.specs.Reads.{ReadsInOrder, is_early}
use Rattle.et_files.proofs.ReadLemmas.{none_read, reads_whole}
use Rattle.et_top.proofs.TopLemmas.{memory_gives, still}
use Rattle.et_top.specs.declared.process.WordsFault.{WordsFault}
use Rattle.et_top.specs.declared.process.WordsFault.TheVariants as words
use Rattle.et_graph.specs.Graph.{Graph}
use Rattle.et_run.proofs.OneTrace.{whole_trace, whole_said_front}
use Rattle.et_io.specs.Faults.{Rose, count_after}
use Rattle.et_io.specs.Sink.{Log, with_more}
use Rattle.et_io.proofs.Taking.{whole_prefix}
use Rattle.et_loop.specs.Said.{Says}
use Rattle.et_loop.specs.declared.options.Ran.{Ran}
use Rattle.et_run.specs.Settings.{said_by}
use Rattle.et_run.specs.Start.{start_records}
use Rattle.et_run.specs.Whole.{whole_setting, whole_start, whole_said}
use Rattle.et_state.specs.declared.options.Options.{Options}
use Rattle.et_program.specs.Entries.{Linked}
use Rattle.et_bench.specs.Totals.{summary_text}
use Rattle.et_files.specs.Faults.{Fault, Absent, TooLong, BadClass, BadText, BadTrace, LinkFault, BadEvent, status_of_fault}
use Rattle.et_top.specs.Process.{AnswersProcess, AnswersWords, EndsAs, status_of_words}
use Rattle.et_files.specs.Status.{is_whole, is_read_status, is_write_status}
use Rattle.et_top.specs.Top.{Defined, Usage, Refused, Writes, Verifies, Traces, Prints, Benches, WritesSummary, CutsSummary, PrintsCut, verified_text, GivesDefined}
use Rattle.et_verify.specs.Verdicts.{verified_count}
use Rattle.et_files.specs.declared.status.Status.{Status}
use Rattle.et_files.specs.declared.status.Status.TheVariants as status
use Rattle.et_files.proofs.FaultLemmas.{counted_as, rose_one}

-- what holds of the three statuses of a whole output holds of each
of_whole : (P : Status → Type 0) → P status.Done → P status.IllTyped → P status.ObjectLimit → (s : Status) → is_whole s ≡ true → P s
of_whole P done ill limit status.Done whole = done
of_whole P done ill limit status.IllTyped whole = ill
of_whole P done ill limit status.ObjectLimit whole = limit
of_whole P done ill limit status.Usage whole = absurd (cc whole)
of_whole P done ill limit status.Absent whole = absurd (cc whole)
of_whole P done ill limit status.TooLong whole = absurd (cc whole)
of_whole P done ill limit status.BadClass whole = absurd (cc whole)
of_whole P done ill limit status.BadText whole = absurd (cc whole)
of_whole P done ill limit status.BadTrace whole = absurd (cc whole)
of_whole P done ill limit status.LinkFault whole = absurd (cc whole)
of_whole P done ill limit status.Rejected whole = absurd (cc whole)
of_whole P done ill limit status.BadEvent whole = absurd (cc whole)
of_whole P done ill limit status.ReadFault whole = absurd (cc whole)
of_whole P done ill limit status.WriteFault whole = absurd (cc whole)
of_whole P done ill limit status.NoMemory whole = absurd (cc whole)

-- a file is never refused with such a status
never_whole : (fault : Fault) → is_whole (status_of_fault fault) ≡ true → ⊥
never_whole Absent e = absurd (cc e)
never_whole TooLong e = absurd (cc e)
never_whole (BadClass kind offset) e = absurd (cc e)
never_whole (BadText kind line) e = absurd (cc e)
never_whole (BadTrace kind line) e = absurd (cc e)
never_whole (LinkFault kind class) e = absurd (cc e)
never_whole (BadEvent event) e = absurd (cc e)

least : (n : ℕ) → 0 ≤ 0 + n
least n = omega arith

-- nor are words that are not there
of_words : (fault : WordsFault) → is_whole (status_of_words fault) ≡ false
of_words words.NotUtf8 = refl
of_words words.NoMemory = refl

module _ (reached : Graph → ℕ → Bool) (before after : Log) (old new : ℕ) (read written later : Type 0) where
  cut_summary : (program : Linked) (answer : Status) → WritesSummary reached before after old new program answer → CutsSummary reached before after 0 0 program
  cut_summary program answer w = record {
    event = w.event;
    end = w.end;
    lines = w.lines;
    back = record { run = record { last = w.back.run.last; visits = least _ }; read = w.back.read };
    wrote = whole_prefix before after (summary_text reached w.lines) w.wrote;
  }

  cut_prints : (program : Linked) (options : Options) (ran : Ran) → Says reached (whole_setting program options) (whole_said (said_by program)) (whole_start program) (start_records program) ran before after → PrintsCut reached before after 0 0 program options
  cut_prints program options ran says = record {
    printed = whole_said_front _ _ _ _ _ ran before after says;
    visits = inr (
      ran.event,
      record {
        goes = says.ends.first;
        rest = [];
        mid = after;
        taken = says.taken ∙ ap (λ (bytes : List ℕ). with_more before bytes) (sym (append-nil _));
        left = [];
        stops = inl refl;
        visits = least _;
      },
    );
  }

  -- A whole output that was not handed on: the write failed, and a prefix of it was taken. Of the counter, which is dropped
  -- then, nothing is asked.
  cut_gives : (d : Defined) (came : Status) → is_whole came ≡ true → later → GivesDefined reached before after old new read written d came → GivesDefined reached before after 0 0 read later d status.WriteFault
  cut_gives Usage came whole rose (same, inl e) = absurd (cc (whole, e))
  cut_gives Usage came whole rose (same, inr e) = absurd (cc (whole, e))
  cut_gives (Refused fault) came whole rose (same, inl e) = absurd (never_whole fault (subst (λ s. is_whole s ≡ true) e whole))
  cut_gives (Refused fault) came whole rose (same, inr (inl (e, r))) = absurd (cc (whole, e))
  cut_gives (Refused fault) came whole rose (same, inr (inr e)) = absurd (cc (whole, e))
  cut_gives (Writes text) came whole rose h =
      of_whole (λ s. GivesDefined reached before after old new read written (Writes text) s → GivesDefined reached before after 0 0 read later (Writes text) status.WriteFault)
      (λ is. (rose, whole_prefix before after (text reached) is)) (λ none. absurd none) (λ none. absurd none) came whole h
  cut_gives (Verifies program) came whole rose h =
      of_whole (λ s. GivesDefined reached before after old new read written (Verifies program) s → GivesDefined reached before after 0 0 read later (Verifies program) status.WriteFault)
      (λ is. (rose, (is.0, whole_prefix before after (verified_text (verified_count program)) is.1))) (λ none. absurd none) (λ none. absurd none) came whole h
  cut_gives (Traces program options) came whole rose h =
      of_whole (λ s. GivesDefined reached before after old new read written (Traces program options) s → GivesDefined reached before after 0 0 read later (Traces program options) status.WriteFault)
      (λ is. (rose, record { wrote = whole_trace _ _ _ _ is.ran before after is.wrote; visits = inl refl }))
      (λ is. (rose, record { wrote = whole_trace _ _ _ _ is.ran before after is.wrote; visits = inl refl }))
      (λ is. (rose, record { wrote = whole_trace _ _ _ _ is.ran before after is.wrote; visits = inl refl })) came whole h
  cut_gives (Prints program options) came whole rose h =
      of_whole (λ s. GivesDefined reached before after old new read written (Prints program options) s → GivesDefined reached before after 0 0 read later (Prints program options) status.WriteFault)
      (λ is. (rose, cut_prints program options is.ran is.printed)) (λ is. (rose, cut_prints program options is.ran is.printed)) (λ is. (rose, cut_prints program options is.ran is.printed)) came whole h
  cut_gives (Benches program) came whole rose h =
      of_whole (λ s. GivesDefined reached before after old new read written (Benches program) s → GivesDefined reached before after 0 0 read later (Benches program) status.WriteFault)
      (λ is. (rose, cut_summary program status.Done is)) (λ is. (rose, cut_summary program status.IllTyped is)) (λ is. (rose, cut_summary program status.ObjectLimit is)) came whole h

-- a fault of handing on is one more than there were before the whole output was put
failed_rose : (came : Status) (old mid new : ℕ) → is_whole came ≡ true → mid ≡ count_after (is_write_status came) old → new ≡ count_after true mid → Rose old new
failed_rose came old mid new whole was is =
    let kept : mid ≡ old = was ∙ ap (λ b. count_after b old) (of_whole (λ s. is_write_status s ≡ false) refl refl refl came whole) in
    rose_one old new (is ∙ ap (count_after true) kept)

-- so what is given before the output is handed on is given then, with another counter where that failed
pub ends_gives : (reached : Graph → ℕ → Bool) (before after : Log) (visits : ℕ) (read : Type 0) (d : Defined) (came end : Status) (old mid new : ℕ)
    → mid ≡ count_after (is_write_status came) old → EndsAs came end mid new → GivesDefined reached before after 0 visits read (Rose old mid) d came → (n : ℕ) × GivesDefined reached before after 0 n read (Rose old new) d end
ends_gives reached before after visits read d came end old mid new was (inl (same, kept)) h =
    (visits, subst (λ n. GivesDefined reached before after 0 visits read (Rose old n) d end) (sym kept) (subst (GivesDefined reached before after 0 visits read (Rose old mid) d) (sym same) h))
ends_gives reached before after visits read d came end old mid new was (inr (whole, failed, more)) h =
    (0, subst (GivesDefined reached before after 0 0 read (Rose old new) d) (sym failed) (cut_gives reached before after 0 visits read (Rose old mid) (Rose old new) d came whole (failed_rose came old mid new whole was more) h))

-- WHAT A PROCESS ANSWERS where its output is handed on behind the answer of its words

module _ {X Y : Type 0} (F : reading.Ghosts X) (O : writing.Ghosts Y) (files files' : X) (out mid out' : Y) (came end : Status) (ends : EndsAs came end (O.faults mid) (O.faults out')) where
  -- what holds of the status that it came to, and of a fault of a whole output, holds of that with which it ends
  ended : (P : Status → Type 0) → P came → (is_whole came ≡ true → P status.WriteFault) → P end
  ended P h failed = by ends
    where
      by : EndsAs came end (O.faults mid) (O.faults out') → P end
      by (inl same) = subst P (sym same.0) h
      by (inr fault) = subst P (sym fault.1) (failed fault.0)

  -- a status that is not of a whole output is that with which it ends
  not_whole : (s : Status) → is_whole s ≡ false → came ≡ s → end ≡ s
  not_whole s none is = ended (λ e. e ≡ s) is (λ whole. absurd (cc (whole, none, is)))

  counted_writes : O.faults mid ≡ count_after (is_write_status came) (O.faults out) → O.faults out' ≡ count_after (is_write_status end) (O.faults out)
  counted_writes is = by ends
    where
      by : EndsAs came end (O.faults mid) (O.faults out') → O.faults out' ≡ count_after (is_write_status end) (O.faults out)
      by (inl same) = counted_as (is_write_status came) (is_write_status end) _ _ (same.1 ∙ is) (ap is_write_status same.0)
      by (inr fault) =
          let kept = of_whole (λ s. is_write_status s ≡ false) refl refl refl came fault.0 in
          counted_as true (is_write_status end) _ _ (fault.2 ∙ ap (count_after true) (is ∙ ap (λ b. count_after b (O.faults out)) kept)) (ap is_write_status fault.1)

  words_end : (taken : O.taken out' ≡ O.taken mid) (line : List (List ℕ)) → O.faults mid ≡ count_after (is_write_status came) (O.faults out) → AnswersWords F O files files' out mid line came → AnswersWords F O files files' out out' line end
  words_end taken line writes h = record {
    answers = λ held told d defined reached decides.
        let given = h.answers held told d defined reached decides in
        rw taken (ends_gives reached _ _ given.0 _ d _ _ _ _ _ writes ends given.1);
    usage = ended (λ s. s ≡ status.Usage → command line ≡ None) h.usage (λ whole e. absurd (cc e));
    no_command = λ none. ended (λ s. (s ≡ status.Usage) ⊎ (s ≡ status.NoMemory)) (h.no_command none) (λ whole. absurd (elim (h.no_command none) [ inl e ↦ cc (whole, e) | inr e ↦ cc (whole, e) ]));
    reads = ended (ReadsInOrder _ _ _ _ _) h.reads (λ whole. reads_whole _ _ _ _ _ came status.WriteFault (of_whole (λ s. is_early s ≡ false) refl refl refl came whole) h.reads);
  }

  pub process_ends : (given : Result (Vec (String Global) Global) WordsFault) → O.taken out' ≡ O.taken mid → (is_whole came ≡ false → out' ≡ mid) → AnswersProcess F O files files' out mid given came → AnswersProcess F O files files' out out' given end
  process_ends (Ok some) taken kept h = record {
    words = words_end taken _ h.write_fault h.words;
    read_fault = ended (λ s. F.faults files' ≡ count_after (is_read_status s) (F.faults files)) h.read_fault (λ whole. counted_as (is_read_status came) false _ _ h.read_fault (sym (of_whole (λ s. is_read_status s ≡ false) refl refl refl came whole)));
    write_fault = counted_writes h.write_fault;
    no_words = tt;
    no_file = tt;
    nothing = tt;
  }
  process_ends (Err fault) taken kept h =
      let none = of_words fault in
      let same = not_whole (status_of_words fault) none h.no_words in
      record {
        words = tt;
        read_fault = ended (λ s. F.faults files' ≡ count_after (is_read_status s) (F.faults files)) h.read_fault (λ whole. absurd (cc (whole, none, h.no_words)));
        write_fault = counted_writes h.write_fault;
        no_words = same;
        no_file = h.no_file;
        nothing = kept (ap is_whole h.no_words ∙ none) ∙ h.nothing;
      }

-- WHERE NOTHING WAS DONE

module _ {X Y : Type 0} (F : reading.Ghosts X) (O : writing.Ghosts Y) (files : X) (out : Y) where
  -- there were no words
  pub without_words : (fault : WordsFault) → AnswersProcess F O files files out out (Err fault) (status_of_words fault)
  without_words words.NotUtf8 = record { words = tt; read_fault = refl; write_fault = refl; no_words = refl; no_file = refl; nothing = refl }
  without_words words.NoMemory = record { words = tt; read_fault = refl; write_fault = refl; no_words = refl; no_file = refl; nothing = refl }

  -- memory ran out before the top call
  pub without_memory : (some : Vec (String Global) Global) → AnswersProcess F O files files out out (Ok some) status.NoMemory
  without_memory some = record {
    words = record {
      answers = λ held told d defined reached decides. (0, memory_gives reached (O.taken out) 0 0 _ _ d (still 0 d));
      usage = λ e. absurd (cc e);
      no_command = λ none. inr refl;
      reads = none_read _ _ _ _ status.NoMemory (λ late. absurd (cc late));
    };
    read_fault = refl;
    write_fault = refl;
    no_words = tt;
    no_file = tt;
    nothing = tt;
  }
