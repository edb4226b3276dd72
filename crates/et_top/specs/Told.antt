-- What the parts of the top call answer.
use Rattle.std.specs.Prelude.{◌≡◌, ℕ, Option, Some, None, Result, Ok, Err}
use Rattle.et_files.specs.declared.refusal.Refusal.{Refusal}
use Rattle.et_files.specs.declared.refusal.Refusal.TheVariants as refusal
use Rattle.et_io.specs.declared.putting.RunFault.{RunFault}
use Rattle.et_io.specs.declared.putting.RunFault.TheVariants as write
use Rattle.et_replay.specs.declared.model.Policy.{Policy}
use Rattle.et_program.specs.Entries.{Linked, class_at, method_at}
use Rattle.et_verify.specs.declared.verdict.VerifyFault.{VerifyFault}
use Rattle.et_verify.specs.declared.verdict.VerifyFault.TheVariants as verdict
use Rattle.et_files.specs.Refusals.{status_of}
use Rattle.et_files.specs.declared.status.Status.{Status}
use Rattle.et_files.specs.declared.status.Status.TheVariants as status

-- the refusal names a method of the program: its class, its name and its descriptor
abbrev pub IsRejectionOf : Linked → ℕ → Refusal → Type 0
IsRejectionOf p m (refusal.Rejected class method descriptor) =
    (class.0.now ≡ (class_at p (method_at p m).class).info.name) × (method.0.now ≡ (method_at p m).name) × (descriptor.0.now ≡ (method_at p m).descriptor)
IsRejectionOf p m other = ⊥

-- .. as is told of a program that isn't verified, or memory ran out
abbrev pub TellsVerdict : Linked → VerifyFault → Refusal → Type 0
TellsVerdict p (verdict.Rejected m) r = IsRejectionOf p m r × (status_of r ≡ status.Rejected)
TellsVerdict p verdict.NoMemory r = r ≡ refusal.NoMemory

abbrev pub refusal_of : RunFault → Refusal
refusal_of write.Write = refusal.WriteFault
refusal_of write.NoMemory = refusal.NoMemory

abbrev pub status_of_writing : Result (Unit {0}) RunFault → Status
status_of_writing (Ok done) = status.Done
status_of_writing (Err fault) = status_of (refusal_of fault)

-- a model that is asked for has its policy, and another is not there. `Has` says what a model with a policy is
abbrev pub IsPrepared : {B : Type 0} → (B → Policy → Type 0) → Option Policy → Option B → Type 0
IsPrepared Has (Some policy) (Some model) = Has model policy
IsPrepared Has None None = Unit {0}
IsPrepared Has _ _ = ⊥
