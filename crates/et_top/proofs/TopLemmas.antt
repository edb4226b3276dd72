-- Lemmas on the top call's parts.
use Rattle.std.proofs.Common.{◌≡◌, ℕ, inl, inr, Bool, List, [], false, Option, Result, Ok, Err, refl, sym, ◌∙◌, ap, subst}
use Rattle.std.specs.Prelude.{OnErr, OnOk}
use Rattle.et_graph.specs.Graph.{Graph}
use Rattle.et_io.specs.Sink.{Log, TakesPrefix, with_more}
use Rattle.et_io.proofs.Taking.{none_put}
use Rattle.et_io.specs.declared.putting.RunFault.{RunFault}
use Rattle.et_io.specs.declared.putting.RunFault.TheVariants as write
use Rattle.et_state.specs.declared.options.Options.{Options}
use Rattle.et_program.specs.Entries.{Linked}
use Rattle.et_files.specs.Faults.{Fault, Absent, TooLong, BadClass, BadText, BadTrace, LinkFault, BadEvent, status_of_fault}
use Rattle.et_io.specs.Files.{Held}
use Rattle.et_command.specs.Command.{Asked}
use Rattle.et_replay.specs.declared.model.Kind.{Kind}
use Rattle.et_top.specs.Top.{IsAskedDefined, Defined, Usage, Refused, Writes, Verifies, Traces, Prints, defined_text, verifies, Benches, benches, GivesDefined, verified_text}
use Rattle.et_files.specs.declared.status.Status.{Status}
use Rattle.et_files.specs.declared.status.Status.TheVariants as status
use Rattle.et_files.specs.declared.refusal.Refusal.{Refusal}
use Rattle.et_files.specs.declared.refusal.Refusal.TheVariants as refusal
use Rattle.et_files.specs.Refusals.{status_of}
use Rattle.et_verify.specs.Typings.{IsVerified}
use Rattle.et_verify.specs.Verdicts.{verified_count}
use Rattle.et_verify.specs.Verdicts.{Verifies as Verdict}
use Rattle.et_verify.specs.declared.verdict.VerifyFault.{VerifyFault}
use Rattle.et_verify.specs.declared.verdict.VerifyFault.TheVariants as verdict
use Rattle.et_files.specs.Status.{is_read_status, is_write_status}
use Rattle.et_top.specs.Runs.{defines}
use Rattle.et_top.specs.declared.programs.Output.{Output}
use Rattle.et_top.specs.declared.programs.Output.TheVariants as output
use Rattle.et_top.specs.Told.{TellsVerdict, status_of_writing}
use Rattle.et_files.specs.Told.{Cause, File, Reading, Other, IsCause, cause_of}

-- A LINE THAT WAS WRITTEN of a program that is verified
pub verified_gives : (reached : Graph → ℕ → Bool) (before after : Log) (old new : ℕ) (read written : Type 0) (p : Linked) (wrote : Result (Unit {0}) RunFault)
    → IsVerified p → OnOk wrote (after ≡ with_more before (verified_text (verified_count p))) → OnErr wrote (TakesPrefix before after (verified_text (verified_count p))) → ((wrote ≡ Err write.Write) → written)
    → GivesDefined reached before after old new read written (Verifies p) (status_of_writing wrote)
verified_gives reached before after old new read written p (Ok done) verified ok err rose = (verified, ok)
verified_gives reached before after old new read written p (Err write.Write) verified ok err rose = (rose refl, (verified, err))
verified_gives reached before after old new read written p (Err write.NoMemory) verified ok err rose = inr (verified, err)

-- A TEXT THAT WAS WRITTEN

pub writing_gives : (reached : Graph → ℕ → Bool) (before after : Log) (old new : ℕ) (read written : Type 0) (text : (Graph → ℕ → Bool) → List ℕ) (wrote : Result (Unit {0}) RunFault)
    → OnOk wrote (after ≡ with_more before (text reached)) → OnErr wrote (TakesPrefix before after (text reached)) → ((wrote ≡ Err write.Write) → written)
    → GivesDefined reached before after old new read written (Writes text) (status_of_writing wrote)
writing_gives reached before after old new read written text (Ok done) ok err rose = ok
writing_gives reached before after old new read written text (Err write.Write) ok err rose = (rose refl, err)
writing_gives reached before after old new read written text (Err write.NoMemory) ok err rose = err

-- .. where that is what is defined
pub text_gives : {A : Type 0} (reached : Graph → ℕ → Bool) (before after : Log) (old new : ℕ) (read written : Type 0) (text : (Graph → ℕ → Bool) → A → List ℕ) (found : Result A Fault) (a : A) (d : Defined) (wrote : Result (Unit {0}) RunFault) (answer : Status)
    → d ≡ defined_text text found → found ≡ Ok a → answer ≡ status_of_writing wrote
    → OnOk wrote (after ≡ with_more before (text reached a)) → OnErr wrote (TakesPrefix before after (text reached a)) → ((wrote ≡ Err write.Write) → written)
    → GivesDefined reached before after old new read written d answer
text_gives reached before after old new read written text found a d wrote answer is was how ok err rose =
    subst (λ x. GivesDefined reached before after old new read written x answer) (sym (is ∙ ap (defined_text text) was))
    (subst (GivesDefined reached before after old new read written (Writes (λ test. text test a))) (sym how)
    (writing_gives reached before after old new read written (λ test. text test a) wrote ok err rose))

-- .. and of one that isn't
pub unverified_gives : (reached : Graph → ℕ → Bool) (taken : Log) (old new : ℕ) (read written : Type 0) (p : Linked) (fault : VerifyFault) (r : Refusal) (answer : Status)
    → Verdict p (Err fault) → TellsVerdict p fault r → answer ≡ status_of r → GivesDefined reached taken taken old new read written (Verifies p) answer
unverified_gives reached taken old new read written p (verdict.Rejected m) r answer is told how = subst (GivesDefined reached taken taken old new read written (Verifies p)) (sym (how ∙ told.1)) (refl, (m, is))
unverified_gives reached taken old new read written p verdict.NoMemory r answer is told how = subst (GivesDefined reached taken taken old new read written (Verifies p)) (sym (how ∙ ap status_of told)) (inl refl)

pub told_no_write : (p : Linked) (fault : VerifyFault) (r : Refusal) → TellsVerdict p fault r → is_write_status (status_of r) ≡ false
told_no_write p (verdict.Rejected m) r told = ap is_write_status told.1
told_no_write p verdict.NoMemory r told = ap is_write_status (ap status_of told)

pub told_no_read : (p : Linked) (fault : VerifyFault) (r : Refusal) → TellsVerdict p fault r → is_read_status (status_of r) ≡ false
told_no_read p (verdict.Rejected m) r told = ap is_read_status told.1
told_no_read p verdict.NoMemory r told = ap is_read_status (ap status_of told)

pub told_no_usage : (p : Linked) (fault : VerifyFault) (r : Refusal) → TellsVerdict p fault r → status_of r ≡ status.Usage → ⊥
told_no_usage p (verdict.Rejected m) r told e = let x = told.1 in cc
told_no_usage p verdict.NoMemory r told e = let x : status_of r ≡ status.NoMemory = ap status_of told in cc

-- WHAT WAS REFUSED BEFORE ANYTHING WAS WRITTEN

-- something is defined of what a file holds; where none is read, no read fails
abbrev IsLoaded : (read : Type 0) → Defined → Type 0
IsLoaded read Usage = ⊥
IsLoaded read (Refused fault) = Unit {0}
IsLoaded read (Writes text) = Unit {0}
IsLoaded read (Verifies program) = Unit {0}
IsLoaded read (Traces program options) = Unit {0}
IsLoaded read (Prints program options) = Unit {0}
IsLoaded read (Benches program) = read → ⊥

-- .. and where a history is, nothing was visited
abbrev IsStill : ℕ → ℕ → Defined → Type 0
IsStill old new Usage = Unit {0}
IsStill old new (Refused fault) = Unit {0}
IsStill old new (Writes text) = Unit {0}
IsStill old new (Verifies program) = Unit {0}
IsStill old new (Traces program options) = new ≡ old
IsStill old new (Prints program options) = new ≡ old
IsStill old new (Benches program) = new ≡ old

pub still : (visits : ℕ) (d : Defined) → IsStill visits visits d
still visits Usage = tt
still visits (Refused fault) = tt
still visits (Writes text) = tt
still visits (Verifies program) = tt
still visits (Traces program options) = refl
still visits (Prints program options) = refl
still visits (Benches program) = refl

module _ (reached : Graph → ℕ → Bool) (taken : Log) (old new : ℕ) (read written : Type 0) where
  reading_gives : (d : Defined) → IsLoaded read d → read → GivesDefined reached taken taken old new read written d status.ReadFault
  reading_gives Usage loaded h = absurd loaded
  reading_gives (Refused fault) loaded h = (refl, inr (inl (refl, h)))
  reading_gives (Writes text) loaded h = (h, refl)
  reading_gives (Verifies program) loaded h = (h, refl)
  reading_gives (Traces program options) loaded h = (h, refl)
  reading_gives (Prints program options) loaded h = (h, refl)
  reading_gives (Benches program) loaded h = absurd (loaded h)

  pub memory_gives : (d : Defined) → IsStill old new d → GivesDefined reached taken taken old new read written d status.NoMemory
  memory_gives Usage none = (refl, inr refl)
  memory_gives (Refused fault) none = (refl, inr (inr refl))
  memory_gives (Writes text) none = none_put taken (text reached)
  memory_gives (Verifies program) none = inl refl
  memory_gives (Traces program options) none = record { wrote = λ e end last. none_put taken _; visits = inl none }
  memory_gives (Prints program options) none = record { printed = λ e end last. none_put taken _; visits = inl (none, refl) }
  memory_gives (Benches program) none = inl (refl, inl ([], inl none))

  file_gives : (fault : Fault) (answer : Status) → answer ≡ status_of_fault fault → GivesDefined reached taken taken old new read written (Refused fault) answer
  file_gives fault answer is = (refl, inl is)

  -- a file is refused for what it was found to have
  by_cause : (d : Defined) (r : Refusal) → IsLoaded read d → IsStill old new d → ((fault : Fault) → cause_of r ≡ File fault → d ≡ Refused fault) → (cause_of r ≡ Reading → read) → (cause_of r ≡ Other → ⊥) → GivesDefined reached taken taken old new read written d (status_of r)
  by_cause d (refusal.Absent path) loaded none file reads other = subst (λ x. GivesDefined reached taken taken old new read written x status.Absent) (sym (file Absent refl)) (file_gives Absent status.Absent refl)
  by_cause d (refusal.TooLong path) loaded none file reads other = subst (λ x. GivesDefined reached taken taken old new read written x status.TooLong) (sym (file TooLong refl)) (file_gives TooLong status.TooLong refl)
  by_cause d (refusal.BadClass path kind offset) loaded none file reads other = subst (λ x. GivesDefined reached taken taken old new read written x status.BadClass) (sym (file (BadClass kind offset) refl)) (file_gives (BadClass kind offset) status.BadClass refl)
  by_cause d (refusal.BadText path kind line) loaded none file reads other = subst (λ x. GivesDefined reached taken taken old new read written x status.BadText) (sym (file (BadText kind line) refl)) (file_gives (BadText kind line) status.BadText refl)
  by_cause d (refusal.BadTrace path kind line) loaded none file reads other = subst (λ x. GivesDefined reached taken taken old new read written x status.BadTrace) (sym (file (BadTrace kind line) refl)) (file_gives (BadTrace kind line) status.BadTrace refl)
  by_cause d (refusal.LinkFault kind class) loaded none file reads other = subst (λ x. GivesDefined reached taken taken old new read written x status.LinkFault) (sym (file (LinkFault kind class) refl)) (file_gives (LinkFault kind class) status.LinkFault refl)
  by_cause d (refusal.BadEvent event) loaded none file reads other = subst (λ x. GivesDefined reached taken taken old new read written x status.BadEvent) (sym (file (BadEvent event) refl)) (file_gives (BadEvent event) status.BadEvent refl)
  by_cause d (refusal.ReadFault path) loaded none file reads other = reading_gives d loaded (reads refl)
  by_cause d refusal.NoMemory loaded none file reads other = memory_gives d none
  by_cause d refusal.Usage loaded none file reads other = absurd (other refl)
  by_cause d refusal.WriteFault loaded none file reads other = absurd (other refl)
  by_cause d refusal.ObjectLimit loaded none file reads other = absurd (other refl)
  by_cause d (refusal.IllTyped t c m descriptor p) loaded none file reads other = absurd (other refl)
  by_cause d (refusal.Rejected c m descriptor) loaded none file reads other = absurd (other refl)

  cause_file : {A : Type 0} (found : Result A Fault) (cause : Cause) (fault : Fault) → IsCause read found cause → cause ≡ File fault → found ≡ Err fault
  cause_file found cause fault is e = subst (IsCause read found) e is

  cause_reads : {A : Type 0} (found : Result A Fault) (cause : Cause) → IsCause read found cause → cause ≡ Reading → read
  cause_reads found cause is e = subst (IsCause read found) e is

  cause_other : {A : Type 0} (found : Result A Fault) (cause : Cause) → IsCause read found cause → cause ≡ Other → ⊥
  cause_other found cause is e = subst (IsCause read found) e is

  -- where what is defined is given by what was found, and a fault of a file is refused as that
  refused_by : {A : Type 0} (give : Result A Fault → Defined) (found : Result A Fault) (r : Refusal) (d : Defined) (answer : Status) → ((fault : Fault) → give (Err fault) ≡ Refused fault)
      → IsLoaded read (give found) → IsStill old new (give found) → d ≡ give found → IsCause read found (cause_of r) → answer ≡ status_of r → GivesDefined reached taken taken old new read written d answer
  refused_by give found r d answer refuses loaded none e is how =
      subst (GivesDefined reached taken taken old new read written d) (sym how)
      (by_cause d r (subst (IsLoaded read) (sym e) loaded) (subst (IsStill old new) (sym e) none) (λ fault c. e ∙ (ap give (cause_file found (cause_of r) fault is c) ∙ refuses fault))
      (cause_reads found (cause_of r) is) (cause_other found (cause_of r) is))

  writes_loaded : {A : Type 0} (text : (Graph → ℕ → Bool) → A → List ℕ) (found : Result A Fault) → IsLoaded read (defined_text text found)
  writes_loaded text (Err fault) = tt
  writes_loaded text (Ok a) = tt

  writes_still : {A : Type 0} (text : (Graph → ℕ → Bool) → A → List ℕ) (found : Result A Fault) → IsStill old new (defined_text text found)
  writes_still text (Err fault) = tt
  writes_still text (Ok a) = tt

  runs_still : (o : Output) (options : Options) (found : Result Linked Fault) → new ≡ old → IsStill old new (defines o options found)
  runs_still output.Trace options (Err fault) none = tt
  runs_still output.Trace options (Ok program) none = none
  runs_still output.Prints options (Err fault) none = tt
  runs_still output.Prints options (Ok program) none = none

  runs_loaded : (o : Output) (options : Options) (found : Result Linked Fault) → IsLoaded read (defines o options found)
  runs_loaded output.Trace options (Err fault) = tt
  runs_loaded output.Trace options (Ok program) = tt
  runs_loaded output.Prints options (Err fault) = tt
  runs_loaded output.Prints options (Ok program) = tt

  runs_refuse : (o : Output) (options : Options) (fault : Fault) → defines o options (Err fault) ≡ Refused fault
  runs_refuse output.Trace options fault = refl
  runs_refuse output.Prints options fault = refl

  pub refused_text : {A : Type 0} (text : (Graph → ℕ → Bool) → A → List ℕ) (found : Result A Fault) (r : Refusal) (d : Defined) (answer : Status) → d ≡ defined_text text found → IsCause read found (cause_of r) → answer ≡ status_of r → GivesDefined reached taken taken old new read written d answer
  refused_text text found r d answer e is how = refused_by (defined_text text) found r d answer (λ fault. refl) (writes_loaded text found) (writes_still text found) e is how

  pub refused_run : (o : Output) (options : Options) (found : Result Linked Fault) (r : Refusal) (answer : Status) → IsCause read found (cause_of r) → answer ≡ status_of r → new ≡ old → GivesDefined reached taken taken old new read written (defines o options found) answer
  refused_run o options found r answer is how none = refused_by (defines o options) found r (defines o options found) answer (runs_refuse o options) (runs_loaded o options found) (runs_still o options found none) refl is how

  verifies_loaded : (found : Result Linked Fault) → IsLoaded read (verifies found)
  verifies_loaded (Err fault) = tt
  verifies_loaded (Ok program) = tt

  verifies_still : (found : Result Linked Fault) → IsStill old new (verifies found)
  verifies_still (Err fault) = tt
  verifies_still (Ok program) = tt

  pub refused_verdict : (found : Result Linked Fault) (r : Refusal) (d : Defined) (answer : Status) → d ≡ verifies found → IsCause read found (cause_of r) → answer ≡ status_of r → GivesDefined reached taken taken old new read written d answer
  refused_verdict found r d answer e is how = refused_by verifies found r d answer (λ fault. refl) (verifies_loaded found) (verifies_still found) e is how

  benches_loaded : (found : Result Linked Fault) → (read → ⊥) → IsLoaded read (benches found)
  benches_loaded (Err fault) none = tt
  benches_loaded (Ok program) none = none

  benches_still : (found : Result Linked Fault) → new ≡ old → IsStill old new (benches found)
  benches_still (Err fault) none = tt
  benches_still (Ok program) none = none

  pub refused_bench : (found : Result Linked Fault) (r : Refusal) (answer : Status) → IsCause read found (cause_of r) → answer ≡ status_of r → new ≡ old → (read → ⊥) → GivesDefined reached taken taken old new read written (benches found) answer
  refused_bench found r answer is how none unread = refused_by benches found r (benches found) answer (λ fault. refl) (benches_loaded found unread) (benches_still found none) refl is how

  pub usage_gives : (answer : Status) → answer ≡ status.Usage → GivesDefined reached taken taken old new read written Usage answer
  usage_gives answer is = (refl, inl is)

-- the command that was read is what the words ask for
pub by_command : (kinds : List Kind) (held : Held) (d : Defined) (b a : Option Asked) → b ≡ a → IsAskedDefined kinds a held d → IsAskedDefined kinds b held d
by_command kinds held d b a e defined = subst (λ (x : Option Asked). IsAskedDefined kinds x held d) (sym e) defined
