-- Lemmas on what is answered before a run.
use Rattle.std.proofs.Common.{◌≡◌, ℕ, List, refl, sym, subst, arith}
use Rattle.et_base.specs.declared.value.End.{End}
use Rattle.et_io.specs.Files.{Held, Reading}
use Rattle.et_io.specs.declared.putting.RunFault.{RunFault}
use Rattle.et_files.specs.Refusals.{status_of}
use Rattle.et_top.specs.Told.{refusal_of}
use Rattle.et_top.specs.Top.{status_of_end}
use Rattle.et_files.specs.Reads.{ReadsInOrder}
use Rattle.et_top.specs.Visits.{IsBeforeRun, HasUnread}
use Rattle.et_files.specs.declared.status.Status.{Status}
use Rattle.et_files.specs.declared.status.Status.TheVariants as status
use Rattle.et_top.proofs.RunLemmas.{of_end, of_fault}
use Rattle.et_files.proofs.ReadLemmas.{reads_counted}

-- a history that was run to its end is not answered so
pub end_of_run : (end : End) → IsBeforeRun (status_of_end end) → ⊥
end_of_run = of_end (λ s. IsBeforeRun s → ⊥) (λ before. before) (λ before. before) (λ before. before)

-- .. nor is a run that was cut off
pub fault_of_run : (fault : RunFault) → IsBeforeRun (status_of (refusal_of fault)) → ⊥
fault_of_run = of_fault (λ s. IsBeforeRun s → ⊥) (λ before. before) (λ before. before)

-- words that are no command are answered before a run
pub never_usage : (answer : Status) → (IsBeforeRun answer → ⊥) → answer ≡ status.Usage → ⊥
never_usage answer of_run e = of_run (subst IsBeforeRun (sym e) tt)

-- where a program was read, each path was asked for
pub none_unread : (Agrees : Held → Type 0) (old new : List Reading) (most : ℕ) (paths : List (List ℕ)) → ReadsInOrder Agrees old new most paths status.Done → HasUnread old new paths → ⊥
none_unread Agrees old new most paths reads few =
    let many = reads_counted Agrees old new most paths status.Done reads in
    omega (arith, few, many, reads.whole refl)
