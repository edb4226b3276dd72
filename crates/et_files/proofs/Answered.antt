-- WHAT A CALL SAYS OF THE READS is so whatever becomes of what was read.
use Rattle.std.proofs.Common.{◌≡◌, ℕ, false, List, None, Result, Ok, Err, refl, sym, ◌∙◌, subst}
use Rattle.std.specs.Prelude.{IfErr, IsErrAnd}
use Rattle.et_io.specs.Faults.{Rose}
use Rattle.et_io.specs.Files.{Held}
use Rattle.et_io.specs.declared.files.Files as files
use Rattle.et_files.specs.Answered.{ReadsOne, ReadsEach, Loads}
use Rattle.et_files.specs.Faults.{Fault}
use Rattle.et_files.specs.Loaded.{file_bytes}
use Rattle.et_files.specs.Told.{Cause, IsCause, IsOfBytes, Names, cause_of, is_reading, named_path}
use Rattle.et_files.specs.declared.refusal.Refusal.{Refusal}
use Rattle.et_files.specs.declared.status.Status.TheVariants as status
use Rattle.et_files.proofs.FaultLemmas.{counted_as, not_reading}
use Rattle.et_files.proofs.Found.{file_refusal}
use Rattle.et_files.proofs.ReadLemmas.{reads_whole, names_none}

module _ {F A B : Type 0} (G : files.Ghosts F) (old new : F) where
  -- the file was read, and its bytes are answered so
  pub one_answered : (path : List ℕ) (most : ℕ) (a : A) (result : Result B Refusal) → ReadsOne G old new path most (Ok a) → IfErr result (λ refusal. IsOfBytes (cause_of refusal)) → IfErr result (Names path) → ReadsOne G old new path most result
  one_answered path most a result h of names = record {
    faults = counted_as false (is_reading result) _ _ h.faults (not_reading result of);
    asked = (h.asked.0, h.asked.1, h.asked.2 ∙ sym (not_reading result of));
    file = file_refusal result of;
    never_falls = h.never_falls;
    names = names;
  }

  -- it was not read, and so is refused
  pub one_refused : (path : List ℕ) (most : ℕ) (r : Refusal) → ReadsOne {A = A} G old new path most (Err r) → ReadsOne {A = B} G old new path most (Err r)
  one_refused path most r h = record { faults = h.faults; asked = h.asked; file = h.file; never_falls = h.never_falls; names = h.names }

  -- .. and what it holds is not told
  pub loads_refused : {C : Type 0} (path : List ℕ) (most : ℕ) (Is : Result (List ℕ) Fault → Result C Fault → Type 0) (Told : Type 0 → Result C Fault → Result B Refusal → Type 0)
      → ((read : Type 0) (found : Result C Fault) (r : Refusal) → IsCause read found (cause_of r) → Told read found (Err r))
      → ((read : Type 0) (file : Result (List ℕ) Fault) (cause : Cause) (found : Result C Fault) → IsCause read file cause → Is file found → IsCause read found cause)
      → (r : Refusal) (result : Result B Refusal) → IsErrAnd result (λ e. e ≡ r) → ReadsOne {A = A} G old new path most (Err r)
      → ((held : Held) → G.agrees new (G.asked old) held → IsCause (Rose (G.faults old) (G.faults new)) (file_bytes most (held path)) (cause_of r))
      → Loads G old new path most Is Told result
  loads_refused path most Is Told tell not_read r (Ok b) is read causes = absurd is
  loads_refused path most Is Told tell not_read r (Err e) is read causes =
      subst (λ (x : Refusal). Loads G old new path most Is Told (Err x)) (sym is) (record {
        tells = λ held agrees found holds. tell _ found r (not_read _ _ (cause_of r) found (causes held agrees) holds);
        read = one_refused path most r read;
      })

  -- the class files were read, and are answered so together
  pub each_answered : (paths : List (List ℕ)) (a : A) (result : Result B Refusal) → ReadsEach G old new paths (Ok a) → IfErr result (λ refusal. IsOfBytes (cause_of refusal)) → IfErr result (λ refusal. named_path refusal ≡ None) → ReadsEach G old new paths result
  each_answered paths a result h of none = record {
    faults = counted_as false (is_reading result) _ _ h.faults (not_reading result of);
    in_order = reads_whole _ _ _ _ _ status.Done _ refl h.in_order;
    file = file_refusal result of;
    never_falls = h.never_falls;
    names = names_none result _ none;
  }

  -- one of them was not read, or is none, and so is refused
  pub each_refused : (paths : List (List ℕ)) (r : Refusal) → ReadsEach {A = A} G old new paths (Err r) → ReadsEach {A = B} G old new paths (Err r)
  each_refused paths r h = record { faults = h.faults; in_order = h.in_order; file = h.file; never_falls = h.never_falls; names = h.names }
