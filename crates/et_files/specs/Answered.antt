-- WHAT A CALL THAT READS FILES SAYS OF THE READS, whatever else it answers: of one file, and of several in their order. The
-- count of faults tells exactly of a read that failed, and a path that is named is that of the file that was read last.
use Rattle.std.specs.Prelude.{◌≡◌, ℕ, ◌≤◌, List, Result, IfErr, IfSome}
use Rattle.et_io.specs.Faults.{Rose, count_after}
use Rattle.et_io.specs.Files.{Held, Answer, is_failed}
use Rattle.et_io.specs.declared.files.Files as files
use Rattle.et_files.specs.Faults.{Fault}
use Rattle.et_files.specs.Loaded.{file_bytes, most_of_class}
use Rattle.et_files.specs.Reads.{Asks, IsReadLast, ReadsInOrder}
use Rattle.et_files.specs.Told.{IsFileRefusal, Names, cause_of, is_reading, named_path, status_of_result}
use Rattle.et_files.specs.declared.refusal.Refusal.{Refusal}

module _ {F A : Type 0} (G : files.Ghosts F) (old new : F) where
  -- one read was made, of the file at the path
  pub record ReadsOne (path : List ℕ) (most : ℕ) (result : Result A Refusal) : Type 0 where
    pub faults : G.faults new ≡ count_after (is_reading result) (G.faults old)
    pub asked : (answer : Answer) × Asks (G.asked old) (G.asked new) path most answer × (is_failed answer ≡ is_reading result)
    pub file : IfErr result (λ refusal. IsFileRefusal (cause_of refusal))
    pub never_falls : G.faults old ≤ G.faults new
    pub names : IfErr result (Names path)

  -- .. and what the file holds is told: `Is` says what that is, and `Told` what is answered of it, for all files that agree with
  -- what was read
  pub record Loads {B : Type 0} (path : List ℕ) (most : ℕ) (Is : Result (List ℕ) Fault → Result B Fault → Type 0) (Told : (read : Type 0) → Result B Fault → Result A Refusal → Type 0) (result : Result A Refusal) : Type 0 where
    pub tells : (held : Held) → G.agrees new (G.asked old) held → (found : Result B Fault) → Is (file_bytes most (held path)) found → Told (Rose (G.faults old) (G.faults new)) found result
    pub read : ReadsOne path most result

  -- the class files at the paths were read, in order
  pub record ReadsEach (paths : List (List ℕ)) (result : Result A Refusal) : Type 0 where
    pub faults : G.faults new ≡ count_after (is_reading result) (G.faults old)
    pub in_order : ReadsInOrder (G.agrees new (G.asked old)) (G.asked old) (G.asked new) most_of_class paths (status_of_result result)
    pub file : IfErr result (λ refusal. IsFileRefusal (cause_of refusal))
    pub never_falls : G.faults old ≤ G.faults new
    pub names : IfErr result (λ refusal. IfSome (named_path refusal) (IsReadLast (G.asked new)))
