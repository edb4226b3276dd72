-- Reading as many of one thing as are counted, as a loop does.
use Rattle.std.proofs.Common.{◌≡◌, ℕ, suc, ◌-◌, ◌+◌, ◌≤◌, ◌<◌, List, [], ◌∷◌, ◌++◌, Result, Ok, Err, refl, sym, ap, ◌∙◌, append_assoc, arith}
use Rattle.std.proofs.lemmas.List.{append-nil}
use Rattle.et_class.specs.declared.fault.ClassFault.{ClassFault}
use Rattle.et_class.specs.declared.fault.ClassFault.TheVariants as fault
use Rattle.et_base.specs.Steps.{◌>>=◌}
use Rattle.et_class.specs.Reading.{IsClassFaultOf, many_at}

module _ {X : Type 0} (one : ℕ → Result (X × ℕ) (ℕ × ℕ)) where
  -- what was read before, and what is still read
  abbrev pub with_front : List X → Result (List X × ℕ) (ℕ × ℕ) → Result (List X × ℕ) (ℕ × ℕ)
  with_front front read = read >>= λ x. Ok (front ++ x.0, x.1)

  regroup : (front : List X) (n : X) (read : Result (List X × ℕ) (ℕ × ℕ)) → with_front front (read >>= λ x. Ok (n ∷ x.0, x.1)) ≡ with_front (front ++ n ∷ []) read
  regroup front n (Ok x) = ap (λ (ns : List X). Ok (ns, x.1)) (simp append_assoc)
  regroup front n (Err f) = refl

  pub goes_on : (front : List X) (count i at : ℕ) (n : X) (after : ℕ) (total : Result (List X × ℕ) (ℕ × ℕ)) → i < count → one at ≡ Ok (n, after)
      → with_front front (many_at one (count - i) at) ≡ total → with_front (front ++ n ∷ []) (many_at one (count - (i + 1)) after) ≡ total
  unfolding many_at
  goes_on front count i at n after total lt h so_far =
      let k : count - i ≡ suc (count - (i + 1)) = omega arith in
      let step : with_front front (many_at one (count - i) at) ≡ with_front (front ++ n ∷ []) (many_at one (count - (i + 1)) after) = rw (k, h) (regroup front n (many_at one (count - (i + 1)) after)) in
      sym step ∙ so_far

  pub ends : (e : ClassFault) (front : List X) (count i at : ℕ) (total : Result (List X × ℕ) (ℕ × ℕ)) → i < count → IsClassFaultOf e (λ f. one at ≡ Err f)
      → with_front front (many_at one (count - i) at) ≡ total → IsClassFaultOf e (λ f. total ≡ Err f)
  unfolding many_at
  ends fault.NoMemory front count i at total lt h so_far = tt
  ends (fault.At kind place) front count i at total lt h so_far =
      let k : count - i ≡ suc (count - (i + 1)) = omega arith in
      let step : with_front front (many_at one (count - i) at) ≡ Err (place, kind) = rw (k, h) refl in
      sym so_far ∙ step

  pub is_done : (front : List X) (count i at : ℕ) (total : Result (List X × ℕ) (ℕ × ℕ)) → count ≤ i → with_front front (many_at one (count - i) at) ≡ total → total ≡ Ok (front, at)
  unfolding many_at
  is_done front count i at total le so_far =
      let k : count - i ≡ 0 = omega arith in
      let step : with_front front (many_at one (count - i) at) ≡ Ok (front, at) = rw k (ap (λ (ns : List X). Ok (ns, at)) (append-nil front)) in
      sym so_far ∙ step
