-- How often reads failed, by the answer.
use Rattle.std.proofs.Common.{◌≡◌, ℕ, ◌+◌, ◌<◌, ◌≤◌, ◌⊎◌, inl, inr, min, Bool, false, Result, Ok, Err, refl, sym, ◌∙◌, ap, arith}
use Rattle.std.specs.Prelude.{IfErr}
use Rattle.std.proofs.lemmas.Bool.{cases_lt}
use Rattle.et_io.specs.Faults.{Rose, count_after, last_count}
use Rattle.et_files.specs.Refusals.{status_of}
use Rattle.et_files.specs.Status.{is_read_status, is_write_status}
use Rattle.et_files.specs.Told.{Cause, File, Reading, Memory, Other, IsOfBytes, IsFileRefusal, cause_of, is_read_cause, is_reading}
use Rattle.et_files.specs.declared.refusal.Refusal.{Refusal}
use Rattle.et_files.specs.declared.refusal.Refusal.TheVariants as refusal

rose_at : (last old new : ℕ) → new ≡ min (old + 1) last → (old < new) ⊎ (last ≤ new)
rose_at last old new is = elim (cases_lt old last) [ inl lt ↦ inl (omega (arith, is, lt)) | inr le ↦ inr (omega (arith, is, le)) ]

-- a count with one fault more rose
pub rose_one : (old new : ℕ) → new ≡ min (old + 1) last_count → Rose old new
rose_one old new is = rose_at last_count old new is

-- where nothing failed the count is as it was
pub same_count : (failed : Bool) (old new : ℕ) → new ≡ old → failed ≡ false → new ≡ count_after failed old
same_count failed old new same none = same ∙ sym (ap (λ b. count_after b old) none)

-- a count after a call that failed or not, said of another answer that says the same of it
pub counted_as : (failed other : Bool) (old new : ℕ) → new ≡ count_after failed old → other ≡ failed → new ≡ count_after other old
counted_as failed other old new is same = is ∙ sym (ap (λ b. count_after b old) same)

-- .. from the count before
pub counted_from : (failed : Bool) (old mid new : ℕ) → new ≡ count_after failed mid → mid ≡ old → new ≡ count_after failed old
counted_from failed old mid new is same = is ∙ ap (count_after failed) same

-- A READ

-- what speaks of bytes speaks of no read
pub no_read_cause : (cause : Cause) → IsOfBytes cause → is_read_cause cause ≡ false
no_read_cause (File fault) of = refl
no_read_cause Reading of = absurd of
no_read_cause Memory of = refl
no_read_cause Other of = refl

pub not_reading : {A : Type 0} (r : Result A Refusal) → IfErr r (λ refusal. IsOfBytes (cause_of refusal)) → is_reading r ≡ false
not_reading (Ok a) h = refl
not_reading (Err r) h = no_read_cause (cause_of r) h

pub read_status : (r : Refusal) → is_read_status (status_of r) ≡ is_read_cause (cause_of r)
read_status refusal.Usage = refl
read_status (refusal.Absent path) = refl
read_status (refusal.BadClass path kind offset) = refl
read_status (refusal.ReadFault path) = refl
read_status refusal.WriteFault = refl
read_status refusal.NoMemory = refl
read_status (refusal.BadText path kind line) = refl
read_status (refusal.BadTrace path kind line) = refl
read_status (refusal.IllTyped thread class method descriptor pc) = refl
read_status refusal.ObjectLimit = refl
read_status (refusal.TooLong path) = refl
read_status (refusal.LinkFault kind class) = refl
read_status (refusal.Rejected class method descriptor) = refl
read_status (refusal.BadEvent event) = refl

-- A WRITE

-- a refusal that speaks of a file speaks of no write
pub no_write_status : (r : Refusal) → IsFileRefusal (cause_of r) → is_write_status (status_of r) ≡ false
no_write_status refusal.Usage of = absurd of
no_write_status (refusal.Absent path) of = refl
no_write_status (refusal.BadClass path kind offset) of = refl
no_write_status (refusal.ReadFault path) of = refl
no_write_status refusal.WriteFault of = absurd of
no_write_status refusal.NoMemory of = refl
no_write_status (refusal.BadText path kind line) of = refl
no_write_status (refusal.BadTrace path kind line) of = refl
no_write_status (refusal.IllTyped thread class method descriptor pc) of = absurd of
no_write_status refusal.ObjectLimit of = absurd of
no_write_status (refusal.TooLong path) of = refl
no_write_status (refusal.LinkFault kind class) of = refl
no_write_status (refusal.Rejected class method descriptor) of = absurd of
no_write_status (refusal.BadEvent event) of = refl
