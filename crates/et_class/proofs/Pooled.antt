-- The rules between the entries of a pool, by the first that is broken.
use Rattle.std.proofs.Common.{◌≡◌, ℕ, zero, suc, ◌+◌, ◌<◌, ◌≤◌, Bool, true, false, ◌&&◌, cond, eqb, List, [], ◌∷◌, ◌++◌, length, take, Option, Some, None, Err, refl, sym, ap, ◌∙◌, arith, length-append}
use Rattle.std.specs.Prelude.{slice_index_or}
use Rattle.std.specs.List.{flat_map}
use Rattle.std.proofs.lemmas.Bool.{le-ltb}
use Rattle.et_base.specs.Marks.{Mark, is_mark_before, marked, first_from, mark}
use Rattle.et_pool.specs.declared.fault.PoolFault.{PoolFault}
use Rattle.et_pool.specs.declared.fault.PoolFault.TheVariants as pool
use Rattle.et_pool.specs.Entries.{Item}
use Rattle.et_pool.specs.Looks.{slot_bytes, is_fit_slot, AllFit, ChecksPool}
use Rattle.et_class.specs.declared.fault.TheConstants.{POOL}
use Rattle.et_class.specs.Along.{along}
use Rattle.et_class.specs.Rules.{pool_marks}
use Rattle.et_class.specs.Lifted.{place_in}

module _ (slots : List (Option Item)) where
  abbrev slot_marks : List (Option Item) → ℕ → Option Item → List Mark
  slot_marks before place s = mark place POOL (is_fit_slot slots s) ∷ []

  abbrev Fits : List (Option Item) → ℕ → Type 0
  Fits rest n = (i : ℕ) → i < n → is_fit_slot slots (slice_index_or rest i None) ≡ true

  all_fit : (rest before : List (Option Item)) (place : ℕ) (acc : Option (ℕ × ℕ)) → Fits rest (length rest) → first_from acc (along slot_bytes slot_marks before place rest) ≡ acc
  unfolding along first_from
  all_fit [] before place acc h = refl
  all_fit (s ∷ rest) before place acc h =
      ap (λ (b : Bool). first_from (marked acc (mark place POOL b)) (along slot_bytes slot_marks (before ++ s ∷ []) (place + length (slot_bytes s)) rest)) (h 0 (omega arith))
      ∙ all_fit rest (before ++ s ∷ []) (place + length (slot_bytes s)) acc (λ i lt. h (suc i) (omega arith))

  and_false : (b : Bool) → (b && false) ≡ false
  and_false true = refl
  and_false false = refl

  not_before : (p q : ℕ) → p ≤ q → is_mark_before (q, POOL) (p, POOL) ≡ false
  not_before p q le = rw (le-ltb q p le) (and_false (eqb q p))

  later : (p q : ℕ) (b : Bool) → p ≤ q → marked (Some (p, POOL)) (mark q POOL b) ≡ Some (p, POOL)
  later p q true le = refl
  later p q false le = ap (λ (b : Bool). cond b (Some (q, POOL)) (Some (p, POOL))) (not_before p q le)

  stays : (rest before : List (Option Item)) (p place : ℕ) → p ≤ place → first_from (Some (p, POOL)) (along slot_bytes slot_marks before place rest) ≡ Some (p, POOL)
  unfolding along first_from
  stays [] before p place le = refl
  stays (s ∷ rest) before p place le =
      ap (λ acc. first_from acc (along slot_bytes slot_marks (before ++ s ∷ []) (place + length (slot_bytes s)) rest)) (later p place (is_fit_slot slots s) le)
      ∙ stays rest (before ++ s ∷ []) p (place + length (slot_bytes s)) (omega arith)

  one_broken : (rest before : List (Option Item)) (n place : ℕ) → n < length rest → Fits rest n → is_fit_slot slots (slice_index_or rest n None) ≡ false
      → first_from None (along slot_bytes slot_marks before place rest) ≡ Some (place + length (flat_map slot_bytes (take n rest)), POOL)
  unfolding along first_from
  one_broken [] before n place lt h b = absurd (omega arith)
  one_broken (s ∷ rest) before zero place lt h b =
      let p : place ≡ place + 0 = omega arith in
      ap (λ (t : Bool). first_from (marked None (mark place POOL t)) (along slot_bytes slot_marks (before ++ s ∷ []) (place + length (slot_bytes s)) rest)) b
      ∙ (stays rest (before ++ s ∷ []) place (place + length (slot_bytes s)) (omega arith) ∙ ap (λ (k : ℕ). Some (k, POOL)) p)
  one_broken (s ∷ rest) before (suc n) place lt h b =
      let p : place + length (slot_bytes s) + length (flat_map slot_bytes (take n rest)) ≡ place + length (slot_bytes s ++ flat_map slot_bytes (take n rest)) = omega (arith, length-append (slot_bytes s) (flat_map slot_bytes (take n rest))) in
      ap (λ (t : Bool). first_from (marked None (mark place POOL t)) (along slot_bytes slot_marks (before ++ s ∷ []) (place + length (slot_bytes s)) rest)) (h 0 (omega arith))
      ∙ (one_broken rest (before ++ s ∷ []) n (place + length (slot_bytes s)) (omega arith) (λ i l. h (suc i) (omega arith)) b ∙ ap (λ (k : ℕ). Some (k, POOL)) p)

pub pool_fits : (slots : List (Option Item)) → AllFit slots (length slots) → None ≡ first_from None (pool_marks slots)
pool_fits slots h = sym (all_fit slots slots [] 10 None h)

pub pool_breaks : (A : Type 0) (slots : List (Option Item)) (f : PoolFault) → ChecksPool {A = A} 8 slots (Err f) → Some (place_in f, POOL) ≡ first_from None (pool_marks slots)
pool_breaks A slots (pool.Tag p) b = absurd b
pool_breaks A slots (pool.Utf8 p) b = absurd b
pool_breaks A slots (pool.Index p) b = ap (λ (k : ℕ). Some (k, POOL)) b.place_is ∙ sym (one_broken slots slots [] b.index 10 b.within b.first b.broken)
pool_breaks A slots (pool.Short p) b = absurd b
pool_breaks A slots pool.NoMemory b = absurd b
