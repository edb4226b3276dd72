-- Pairs and numbers of the objects of a heap.
use Rattle.std.proofs.Common.{◌≡◌, ℕ, zero, suc, ◌+◌, ◌<◌, List, [], ◌∷◌, ◌++◌, length, set, map, Option, Some, None, Contains, refl, sym, ap, subst, inl, inr, arith}
use Rattle.std.proofs.lemmas.List.{get_or_append_left}
use Rattle.std.proofs.lemmas.List.Elements.{Contains-append_left, Contains-append_right, Contains-append_cases}
use Rattle.et_heap.specs.Objects.{ObjectState, Objects, at, is_there, IsHeld}
use Rattle.et_heap.specs.Refs.{leads_to, targets_of, pairs_from, pairs_of, gone_from, gone_of}
use Rattle.et_base.proofs.Lists.{Contains-none, Contains-here, Contains-there, Contains-cons}

map_pair : (k : ℕ) (os : List ℕ) (u o : ℕ) → Contains {X = ℕ × ℕ} (map (λ (x : ℕ). (k, x)) os) (u, o) → (k ≡ u) × Contains os o
map_pair k [] u o c = absurd (Contains-none (u, o) c)
map_pair k (x ∷ os) u o c =
    elim (Contains-cons (k, x) (map (λ (y : ℕ). (k, y)) os) (u, o) c) [
      | inl e ↦ (ap (λ (p : ℕ × ℕ). p.0) e, subst (λ (y : ℕ). Contains (x ∷ os) y) (ap (λ (p : ℕ × ℕ). p.1) e) (Contains-here x os))
      | inr d ↦ let r = map_pair k os u o d in (r.0, Contains-there x os o r.1)
    ]

pair_map : (k : ℕ) (os : List ℕ) (o : ℕ) → Contains os o → Contains {X = ℕ × ℕ} (map (λ (x : ℕ). (k, x)) os) (k, o)
pair_map k [] o c = absurd (Contains-none o c)
pair_map k (x ∷ os) o c =
    elim (Contains-cons x os o c) [
      | inl e ↦ subst (λ (y : ℕ). Contains {X = ℕ × ℕ} ((k, x) ∷ map (λ (z : ℕ). (k, z)) os) (k, y)) e (Contains-here {X = ℕ × ℕ} (k, x) (map (λ (z : ℕ). (k, z)) os))
      | inr d ↦ Contains-there {X = ℕ × ℕ} (k, x) (map (λ (z : ℕ). (k, z)) os) (k, o) (pair_map k os o d)
    ]

-- u leads to o
abbrev pub IsPair : Objects → ℕ → ℕ → Type 0
IsPair xs u o = Contains (targets_of (at xs u)) o

pair_at_from : (k : ℕ) (xs : Objects) (u o : ℕ) → Contains (pairs_from k xs) (u, o) → (j : ℕ) × (u ≡ k + j) × IsPair xs j o
pair_at_from k [] u o c = absurd (Contains-none (u, o) c)
pair_at_from k (x ∷ xs) u o c =
    elim (Contains-append_cases (map (λ (y : ℕ). (k, y)) (targets_of x)) (pairs_from (k + 1) xs) (u, o) c) [
      | inl d ↦ let r = map_pair k (targets_of x) u o d in (0, (let e = r.0 in omega arith), r.1)
      | inr d ↦ let r = pair_at_from (k + 1) xs u o d in (suc r.0, (let e = r.1 in omega arith), r.2)
    ]

pub pair_at : (xs : Objects) (u o : ℕ) → Contains (pairs_of xs) (u, o) → IsPair xs u o
pair_at xs u o c =
    let r = pair_at_from 0 xs u o c in
    let e : r.0 ≡ u = let h = r.1 in omega arith in
    subst (λ v. IsPair xs v o) e r.2

at_pair_from : (k : ℕ) (xs : Objects) (j o : ℕ) → IsPair xs j o → Contains (pairs_from k xs) (k + j, o)
at_pair_from k [] j o c = absurd (Contains-none o c)
at_pair_from k (x ∷ xs) zero o c = let e : k ≡ k + 0 = omega arith in subst (λ (u : ℕ). Contains (pairs_from k (x ∷ xs)) (u, o)) e (Contains-append_left (map (λ (y : ℕ). (k, y)) (targets_of x)) (pairs_from (k + 1) xs) (k, o) (pair_map k (targets_of x) o c))
at_pair_from k (x ∷ xs) (suc j) o c = let e : k + 1 + j ≡ k + suc j = omega arith in subst (λ (u : ℕ). Contains (pairs_from k (x ∷ xs)) (u, o)) e (Contains-append_right (map (λ (y : ℕ). (k, y)) (targets_of x)) (pairs_from (k + 1) xs) (k + 1 + j, o) (at_pair_from (k + 1) xs j o c))

pub at_pair : (xs : Objects) (u o : ℕ) → IsPair xs u o → Contains (pairs_of xs) (u, o)
at_pair xs u o c = let e : 0 + u ≡ u = omega arith in subst (λ (v : ℕ). Contains (pairs_of xs) (v, o)) e (at_pair_from 0 xs u o c)

-- HELD AND GONE

pub held_within : (xs : Objects) (o : ℕ) → IsHeld xs o → o < length xs
held_within [] o h = absurd h
held_within (x ∷ xs) zero h = omega arith
held_within (x ∷ xs) (suc o) h = let lt = held_within xs o h in omega arith

pub targets_there : (x : Option ObjectState) (o : ℕ) → Contains (targets_of x) o → is_there x
targets_there None o c = absurd (Contains-none o c)
targets_there (Some x) o c = tt

-- what leads to something is held
pub pair_held : (xs : Objects) (u o : ℕ) → IsPair xs u o → IsHeld xs u
pair_held xs u o c = targets_there (at xs u) o c

gone_at_from : (k : ℕ) (xs : Objects) (o : ℕ) → Contains (gone_from k xs) o → (j : ℕ) × (o ≡ k + j) × (j < length xs) × (IsHeld xs j → ⊥)
gone_at_from k [] o c = absurd (Contains-none o c)
gone_at_from k (None ∷ xs) o c =
    elim (Contains-cons k (gone_from (k + 1) xs) o c) [
      | inl e ↦ (0, (let h = e in omega arith), omega arith, λ h. h)
      | inr d ↦ let r = gone_at_from (k + 1) xs o d in (suc r.0, (let h = r.1 in omega arith), (let h = r.2 in omega arith), r.3)
    ]
gone_at_from k (Some x ∷ xs) o c = let r = gone_at_from (k + 1) xs o c in (suc r.0, (let h = r.1 in omega arith), (let h = r.2 in omega arith), r.3)

-- what is gone was made and isn't held
pub gone_at : (xs : Objects) (o : ℕ) → Contains (gone_of xs) o → (0 < o) × (o < length xs) × (IsHeld xs o → ⊥)
gone_at [] o c = absurd (Contains-none o c)
gone_at (x ∷ xs) o c =
    let r = gone_at_from 1 xs o c in
    let e : suc r.0 ≡ o = let h = r.1 in omega arith in
    let lt = r.2 in
    (omega arith, omega arith, λ h. r.3 (subst (λ v. IsHeld (x ∷ xs) v) (sym e) h))

gone_set_from : (k : ℕ) (xs : Objects) (j : ℕ) (y : ObjectState) → IsHeld xs j → gone_from k (set xs j (Some y)) ≡ gone_from k xs
gone_set_from k [] j y h = absurd h
gone_set_from k (None ∷ xs) zero y h = absurd h
gone_set_from k (Some x ∷ xs) zero y h = refl
gone_set_from k (None ∷ xs) (suc j) y h = ap (λ (os : List ℕ). k ∷ os) (gone_set_from (k + 1) xs j y h)
gone_set_from k (Some x ∷ xs) (suc j) y h = gone_set_from (k + 1) xs j y h

pub gone_set : (xs : Objects) (o : ℕ) (y : ObjectState) → IsHeld xs o → gone_of (set xs o (Some y)) ≡ gone_of xs
gone_set [] o y h = absurd h
gone_set (x ∷ xs) zero y h = refl
gone_set (x ∷ xs) (suc o) y h = gone_set_from 1 xs o y h

gone_push_from : (k : ℕ) (xs : Objects) (y : ObjectState) → gone_from k (xs ++ Some y ∷ []) ≡ gone_from k xs
gone_push_from k [] y = refl
gone_push_from k (None ∷ xs) y = ap (λ (os : List ℕ). k ∷ os) (gone_push_from (k + 1) xs y)
gone_push_from k (Some x ∷ xs) y = gone_push_from (k + 1) xs y

pub gone_push : (xs : Objects) (y : ObjectState) → 0 < length xs → gone_of (xs ++ Some y ∷ []) ≡ gone_of xs
gone_push [] y h = absurd (omega arith)
gone_push (x ∷ xs) y h = gone_push_from 1 xs y

pairs_push_from : (k : ℕ) (xs : Objects) (y : ObjectState) → leads_to y ≡ [] → pairs_from k (xs ++ Some y ∷ []) ≡ pairs_from k xs
pairs_push_from k [] y e = ap (λ (os : List ℕ). map (λ (o : ℕ). (k, o)) os ++ []) e
pairs_push_from k (x ∷ xs) y e = ap (λ (ps : List (ℕ × ℕ)). map (λ (o : ℕ). (k, o)) (targets_of x) ++ ps) (pairs_push_from (k + 1) xs y e)

pub pairs_push : (xs : Objects) (y : ObjectState) → leads_to y ≡ [] → pairs_of (xs ++ Some y ∷ []) ≡ pairs_of xs
pairs_push xs y e = pairs_push_from 0 xs y e

-- an object that was held is held after a write and after one more object
pub held_set : (xs : Objects) (u : ℕ) (y : ObjectState) (o : ℕ) → IsHeld xs u → IsHeld xs o → IsHeld (set xs u (Some y)) o
held_set [] u y o h g = absurd h
held_set (x ∷ xs) zero y zero h g = tt
held_set (x ∷ xs) zero y (suc o) h g = g
held_set (x ∷ xs) (suc u) y zero h g = g
held_set (x ∷ xs) (suc u) y (suc o) h g = held_set xs u y o h g

pub set_held : (xs : Objects) (u : ℕ) (y : ObjectState) (o : ℕ) → IsHeld xs u → IsHeld (set xs u (Some y)) o → IsHeld xs o
set_held [] u y o h g = absurd h
set_held (x ∷ xs) zero y zero h g = h
set_held (x ∷ xs) zero y (suc o) h g = g
set_held (x ∷ xs) (suc u) y zero h g = g
set_held (x ∷ xs) (suc u) y (suc o) h g = set_held xs u y o h g

pub held_push : (xs : Objects) (y : ObjectState) (o : ℕ) → IsHeld xs o → IsHeld (xs ++ Some y ∷ []) o
held_push xs y o h = subst is_there (sym (get_or_append_left xs (Some y ∷ []) None o (held_within xs o h))) h

at_gone_from : (k : ℕ) (xs : Objects) (j : ℕ) → j < length xs → (IsHeld xs j → ⊥) → Contains (gone_from k xs) (k + j)
at_gone_from k [] j lt out = absurd (omega arith)
at_gone_from k (None ∷ xs) zero lt out = let e : k ≡ k + 0 = omega arith in subst (λ (n : ℕ). Contains (k ∷ gone_from (k + 1) xs) n) e (Contains-here k (gone_from (k + 1) xs))
at_gone_from k (Some x ∷ xs) zero lt out = absurd (out tt)
at_gone_from k (None ∷ xs) (suc j) lt out = let e : k + 1 + j ≡ k + suc j = omega arith in subst (λ (n : ℕ). Contains (k ∷ gone_from (k + 1) xs) n) e (Contains-there k (gone_from (k + 1) xs) (k + 1 + j) (at_gone_from (k + 1) xs j (omega arith) out))
at_gone_from k (Some x ∷ xs) (suc j) lt out = let e : k + 1 + j ≡ k + suc j = omega arith in subst (λ (n : ℕ). Contains (gone_from (k + 1) xs) n) e (at_gone_from (k + 1) xs j (omega arith) out)

-- what was made and isn't held is gone
pub at_gone : (xs : Objects) (o : ℕ) → 0 < o → o < length xs → (IsHeld xs o → ⊥) → Contains (gone_of xs) o
at_gone [] o h lt out = absurd (omega arith)
at_gone (x ∷ xs) zero h lt out = absurd (omega arith)
at_gone (x ∷ xs) (suc o) h lt out = let e : 1 + o ≡ suc o = omega arith in subst (λ (n : ℕ). Contains (gone_from 1 xs) n) e (at_gone_from 1 xs o (omega arith) out)
