-- Reading the bytes of a name one after the other, as a loop does.
use Rattle.std.proofs.Common.{◌≡◌, ℕ, suc, ◌-◌, ◌+◌, ◌≤◌, ◌<◌, true, false, List, [], ◌∷◌, ◌++◌, Option, Some, None, refl, sym, ap, ◌∙◌, append_assoc, arith}
use Rattle.std.proofs.lemmas.List.{append-nil}
use Rattle.et_text.specs.declared.fault.LineError.{LineError}
use Rattle.et_text.specs.declared.fault.LineError.TheVariants as errors
use Rattle.et_text.specs.Reading.{◌>>=◌, FailsToRead, is_break, byte_at, name_bytes_at}

-- what was read before, and what is still read
abbrev pub with_front : List ℕ → Option (List ℕ × List ℕ) → Option (List ℕ × List ℕ)
with_front front read = read >>= λ x. Some (front ++ x.0, x.1)

regroup : (front : List ℕ) (n : ℕ) (read : Option (List ℕ × List ℕ)) → with_front front (read >>= λ x. Some (n ∷ x.0, x.1)) ≡ with_front (front ++ n ∷ []) read
regroup front n (Some x) = ap (λ (ns : List ℕ). Some (ns, x.1)) (simp append_assoc)
regroup front n None = refl

pub goes_on : (front : List ℕ) (count i : ℕ) (bytes : List ℕ) (n : ℕ) (after : List ℕ) (total : Option (List ℕ × List ℕ)) → i < count → is_break bytes ≡ false → byte_at bytes ≡ Some (n, after)
    → with_front front (name_bytes_at (count - i) bytes) ≡ total → with_front (front ++ n ∷ []) (name_bytes_at (count - (i + 1)) after) ≡ total
unfolding name_bytes_at
goes_on front count i bytes n after total lt apart h so_far =
    let k : count - i ≡ suc (count - (i + 1)) = omega arith in
    let one : with_front front (name_bytes_at (count - i) bytes) ≡ with_front (front ++ n ∷ []) (name_bytes_at (count - (i + 1)) after) = rw (k, apart, h) (regroup front n (name_bytes_at (count - (i + 1)) after)) in
    sym one ∙ so_far

pub ends : (e : LineError) (front : List ℕ) (count i : ℕ) (bytes : List ℕ) (total : Option (List ℕ × List ℕ)) → i < count → is_break bytes ≡ false → FailsToRead e (byte_at bytes)
    → with_front front (name_bytes_at (count - i) bytes) ≡ total → FailsToRead e total
unfolding name_bytes_at
ends errors.Memory front count i bytes total lt apart h so_far = tt
ends errors.Form front count i bytes total lt apart h so_far =
    let k : count - i ≡ suc (count - (i + 1)) = omega arith in
    let one : with_front front (name_bytes_at (count - i) bytes) ≡ None = rw (k, apart, h) refl in
    sym so_far ∙ one

pub stops : (front : List ℕ) (count i : ℕ) (bytes : List ℕ) (total : Option (List ℕ × List ℕ)) → i < count → is_break bytes ≡ true → with_front front (name_bytes_at (count - i) bytes) ≡ total → total ≡ Some (front, bytes)
unfolding name_bytes_at
stops front count i bytes total lt here so_far =
    let k : count - i ≡ suc (count - (i + 1)) = omega arith in
    let one : with_front front (name_bytes_at (count - i) bytes) ≡ Some (front, bytes) = rw (k, here) (ap (λ (ns : List ℕ). Some (ns, bytes)) (append-nil front)) in
    sym so_far ∙ one

pub is_done : (front : List ℕ) (count i : ℕ) (bytes : List ℕ) (total : Option (List ℕ × List ℕ)) → count ≤ i → with_front front (name_bytes_at (count - i) bytes) ≡ total → total ≡ Some (front, bytes)
unfolding name_bytes_at
is_done front count i bytes total le so_far =
    let k : count - i ≡ 0 = omega arith in
    let one : with_front front (name_bytes_at (count - i) bytes) ≡ Some (front, bytes) = rw k (ap (λ (ns : List ℕ). Some (ns, bytes)) (append-nil front)) in
    sym so_far ∙ one
