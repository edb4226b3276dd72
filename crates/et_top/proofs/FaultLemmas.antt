-- How often writes failed, by the answer.
use Rattle.std.proofs.Common.{◌≡◌, ℕ, inl, inr, Bool, true, false, Result, Ok, Err, refl, ◌∙◌, ap, arith}
use Rattle.et_base.specs.declared.value.End.{End}
use Rattle.et_io.specs.Faults.{Rose, count_after, is_write_fault}
use Rattle.et_loop.specs.Said.{CountsWrite}
use Rattle.et_io.specs.declared.putting.RunFault.{RunFault}
use Rattle.et_io.specs.declared.putting.RunFault.TheVariants as write
use Rattle.et_files.specs.Refusals.{status_of}
use Rattle.et_files.specs.Told.{IsFileRefusal, cause_of}
use Rattle.et_files.specs.declared.refusal.Refusal.{Refusal}
use Rattle.et_files.specs.declared.refusal.Refusal.TheVariants as refusal
use Rattle.et_files.specs.declared.status.Status.TheVariants as status
use Rattle.et_files.specs.Status.{is_read_status, is_write_status}
use Rattle.et_files.proofs.FaultLemmas.{rose_one}
use Rattle.et_top.proofs.RunLemmas.{of_end, of_fault}
use Rattle.et_top.specs.Told.{refusal_of, status_of_writing}
use Rattle.et_top.specs.Top.{status_of_end}

pub write_status : (wrote : Result (Unit {0}) RunFault) → is_write_status (status_of_writing wrote) ≡ is_write_fault wrote
write_status (Ok done) = refl
write_status (Err write.Write) = refl
write_status (Err write.NoMemory) = refl

pub no_read_writing : (wrote : Result (Unit {0}) RunFault) → is_read_status (status_of_writing wrote) ≡ false
no_read_writing (Ok done) = refl
no_read_writing (Err write.Write) = refl
no_read_writing (Err write.NoMemory) = refl

pub fault_write_status : (A : Type 0) (fault : RunFault) → is_write_status (status_of (refusal_of fault)) ≡ is_write_fault {A = A} (Err fault)
fault_write_status A write.Write = refl
fault_write_status A write.NoMemory = refl

pub fault_no_read : (fault : RunFault) → is_read_status (status_of (refusal_of fault)) ≡ false
fault_no_read = of_fault (λ s. is_read_status s ≡ false) refl refl

pub end_no_write : (end : End) → is_write_status (status_of_end end) ≡ false
end_no_write = of_end (λ s. is_write_status s ≡ false) refl refl refl

pub end_no_read : (end : End) → is_read_status (status_of_end end) ≡ false
end_no_read = of_end (λ s. is_read_status s ≡ false) refl refl refl

-- no command is refused so
pub no_usage_writing : (wrote : Result (Unit {0}) RunFault) → status_of_writing wrote ≡ status.Usage → ⊥
no_usage_writing (Ok done) e = absurd (cc e)
no_usage_writing (Err write.Write) e = absurd (cc e)
no_usage_writing (Err write.NoMemory) e = absurd (cc e)

pub rose_fault : (A : Type 0) (fault : RunFault) (old new : ℕ) → new ≡ count_after (is_write_fault {A = A} (Err fault)) old → fault ≡ write.Write → Rose old new
rose_fault A fault old new is e = rose_one old new (is ∙ ap (λ f. count_after (is_write_fault {A = A} (Err f)) old) e)

-- a write fault is answered where the count rose
pub rose_writing : {A : Type 0} (wrote : Result A RunFault) (old new : ℕ) → new ≡ count_after (is_write_fault wrote) old → wrote ≡ Err write.Write → Rose old new
rose_writing wrote old new is e = rose_one old new (is ∙ ap (λ r. count_after (is_write_fault r) old) e)

-- where the other sink counts no fault, a failed put is counted by this one
pub counted_alone : (failed : Bool) (a a' : ℕ) → CountsWrite failed a a' 0 0 → a' ≡ count_after failed a
counted_alone failed a a' (inl h) = h.0
counted_alone false a a' (inr h) = h.0
counted_alone true a a' (inr h) = absurd (omega (arith, h.1))

-- .. and where that one counts none, by the other
pub counted_beside : (failed : Bool) (b b' : ℕ) → CountsWrite failed 0 0 b b' → b' ≡ count_after failed b
counted_beside failed b b' (inr h) = h.1
counted_beside false b b' (inl h) = h.1
counted_beside true b b' (inl h) = absurd (omega (arith, h.0))

-- nor is a file
pub no_usage_file : (r : Refusal) → IsFileRefusal (cause_of r) → status_of r ≡ status.Usage → ⊥
no_usage_file refusal.Usage of e = of
no_usage_file (refusal.Absent path) of e = absurd (cc e)
no_usage_file (refusal.BadClass path kind offset) of e = absurd (cc e)
no_usage_file (refusal.ReadFault path) of e = absurd (cc e)
no_usage_file refusal.WriteFault of e = of
no_usage_file refusal.NoMemory of e = absurd (cc e)
no_usage_file (refusal.BadText path kind line) of e = absurd (cc e)
no_usage_file (refusal.BadTrace path kind line) of e = absurd (cc e)
no_usage_file (refusal.IllTyped thread class method descriptor pc) of e = of
no_usage_file refusal.ObjectLimit of e = of
no_usage_file (refusal.TooLong path) of e = absurd (cc e)
no_usage_file (refusal.LinkFault kind class) of e = absurd (cc e)
no_usage_file (refusal.Rejected class method descriptor) of e = of
no_usage_file (refusal.BadEvent event) of e = absurd (cc e)
