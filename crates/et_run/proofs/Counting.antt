-- The threads that have not ended, by their places.
use Rattle.std.proofs.Common.{◌≡◌, ℕ, zero, suc, Option, Some, None, ◌+◌, ◌<◌, ◌≤◌, Bool, true, false, List, [], ◌∷◌, length, refl, sym, ◌∙◌, arith}
use Rattle.std.specs.Prelude.{if◌then◌else◌, ◌++◌, slice_get, slice_index}
use Rattle.et_state.specs.Threads.{ThreadState, unended_from}

-- there are no more of them than threads
one_or_none : (k : ℕ) (ended : Bool) (more : List ℕ) (n : ℕ) → length more ≤ n → length ((if ended then [] else k ∷ []) ++ more) ≤ suc n
one_or_none k true more n le = omega (arith, le)
one_or_none k false more n le = omega (arith, le)

pub length-unended : (k : ℕ) (threads : List ThreadState) → length (unended_from k threads) ≤ length threads
length-unended k [] = omega arith
length-unended k (x ∷ threads) = one_or_none k x.ended (unended_from (k + 1) threads) (length threads) (length-unended (k + 1) threads)

-- an element that is looked up
pub nth_is : (xs : List ℕ) (k : ℕ) → k < length xs → slice_get xs k ≡ Some (slice_index xs k)
nth_is [] k lt = absurd (omega arith)
nth_is (x ∷ xs) zero lt = refl
nth_is (x ∷ xs) (suc k) lt = nth_is xs k (omega (arith, lt))

some_same : (a b : ℕ) (o : Option ℕ) → o ≡ Some a → o ≡ Some b → a ≡ b
some_same a b o e f = let g : Some a ≡ Some b = sym e ∙ f in cc

pub found_is : (xs : List ℕ) (k a : ℕ) (o : Option ℕ) → k < length xs → o ≡ slice_get xs k → o ≡ Some a → a ≡ slice_index xs k
found_is xs k a o lt is e = some_same a (slice_index xs k) o e (is ∙ nth_is xs k lt)

pub found_some : (xs : List ℕ) (k : ℕ) (o : Option ℕ) → k < length xs → o ≡ slice_get xs k → o ≡ None → ⊥
found_some xs k o lt is e = let g : None ≡ Some (slice_index xs k) = sym e ∙ (is ∙ nth_is xs k lt) in cc
