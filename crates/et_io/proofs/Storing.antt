-- A sink in memory stores the bytes of its log.
use Rattle.std.proofs.Common.{◌≡◌, ℕ, ◌≤◌, List, ◌++◌, length, length-append, take, sym, ap, ◌∙◌, arith}
use Rattle.et_io.specs.Sink.{Mark, taken_bytes, after_put}
use Rattle.et_io.proofs.Taking.{bytes_after_took, bytes_after_failed}
use Rattle.et_io.specs.declared.sink.Put.{Put}
use Rattle.et_io.specs.declared.sink.Put.TheVariants as put

module _ (answer : Put) (piece items items' : List ℕ) (marks mid marks' : List Mark) (stored : items ≡ taken_bytes marks) (same : mid ≡ marks) (after : marks' ≡ after_put answer piece mid) where
  marks_are : (other : Put) → answer ≡ other → taken_bytes marks' ≡ taken_bytes (after_put other piece marks)
  marks_are other is = ap taken_bytes (after ∙ (ap (λ (a : Put). after_put a piece mid) is ∙ ap (after_put other piece) same))

  -- a put that failed
  pub stored_failed : answer ≡ put.Failed → items' ≡ items → items' ≡ taken_bytes marks'
  stored_failed is kept = kept ∙ (stored ∙ (sym (bytes_after_failed piece marks) ∙ sym (marks_are put.Failed is)))

  -- .. for which there was no memory
  pub stored_lacking : answer ≡ put.NoMemory → items' ≡ items → items' ≡ taken_bytes marks'
  stored_lacking is kept = kept ∙ (stored ∙ sym (marks_are put.NoMemory is))

  -- .. of which n bytes were taken
  pub stored_taken : (n : ℕ) → answer ≡ put.Took n → items' ≡ items ++ take n piece → items' ≡ taken_bytes marks'
  stored_taken n is more = more ∙ (ap (λ (t : List ℕ). t ++ take n piece) stored ∙ (sym (bytes_after_took n piece marks) ∙ sym (marks_are (put.Took n) is)))

-- no put makes the bytes fewer
pub no_fewer : (answer : Put) (piece : List ℕ) (marks : List Mark) → length (taken_bytes marks) ≤ length (taken_bytes (after_put answer piece marks))
no_fewer (put.Took n) piece marks = omega (arith, ap length (bytes_after_took n piece marks), length-append (taken_bytes marks) (take n piece))
no_fewer put.Failed piece marks = omega (arith, ap length (bytes_after_failed piece marks))
no_fewer put.NoMemory piece marks = omega arith
