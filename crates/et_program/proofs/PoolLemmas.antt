-- The pool of a class that has none, and lists that grow by what is kept.
use Rattle.std.proofs.Common.{◌≡◌, ℕ, ◌+◌, zero, suc, List, [], ◌∷◌, ◌++◌, length, Option, None, sym, ap, subst, ◌∙◌}
use Rattle.std.specs.Prelude.{slice_get, unwrap_or}
use Rattle.std.specs.List.{slice_index_or}
use Rattle.std.proofs.lemmas.Option.{unwrap_or-slice_get}
use Rattle.std.proofs.lemmas.List.{length-append}
use Rattle.et_class.specs.Entries.{Constants}
use Rattle.et_program.specs.declared.lookup.resolved.Resolved.{Resolved}
use Rattle.et_program.specs.declared.lookup.resolved.Resolved.TheVariants.{Nothing}
use Rattle.et_program.specs.Entries.{Linked}
use Rattle.et_program.specs.Referring.{no_constants, pool_of_class}
use Rattle.et_program.specs.Resolved.{IsResolved, AreResolved, resolved_at}

-- a class without a pool has no entries
pub no_slots : (p : Linked) (class : ℕ) → None ≡ slice_get p.pools class → [] ≡ pool_of_class p class
no_slots p class e =
    ap (λ (o : Option Constants). (unwrap_or o no_constants).slots) e ∙ ap (λ (x : Constants). x.slots) (unwrap_or-slice_get p.pools class no_constants)

-- what holds of each element, and of what stands behind the end, holds with one more element of which it holds
pub each_more : {X : Type 0} (none : X) (P : ℕ → X → Type 0) (xs : List X) (x : X) → P (length xs) x → ((i : ℕ) → P i (slice_index_or xs i none)) → (i : ℕ) → P i (slice_index_or (xs ++ x ∷ []) i none)
each_more none P [] x here each zero = here
each_more none P [] x here each (suc i) = each (suc i)
each_more none P (y ∷ ys) x here each zero = each zero
each_more none P (y ∷ ys) x here each (suc i) = each_more none (λ j. P (suc j)) ys x here (λ j. each (suc j)) i

pub one_longer : {X : Type 0} (old new : List X) (x : X) (n : ℕ) → new ≡ old ++ x ∷ [] → length old ≡ n → length new ≡ n + 1
one_longer old new x n is size = ap length is ∙ (length-append old (x ∷ []) ∙ ap (λ (k : ℕ). k + 1) size)

-- one more entry is kept
pub kept_more : (p : Linked) (class n : ℕ) (old new : List Resolved) (x : Resolved) → new ≡ old ++ x ∷ [] → length old ≡ n → IsResolved p class n x → ((i : ℕ) → IsResolved p class i (slice_index_or old i Nothing)) → (i : ℕ) → IsResolved p class i (slice_index_or new i Nothing)
kept_more p class n old new x is size here each i =
    subst (λ (xs : List Resolved). IsResolved p class i (slice_index_or xs i Nothing)) (sym is) (each_more Nothing (λ j y. IsResolved p class j y) old x (subst (λ (k : ℕ). IsResolved p class k x) (sym size) here) each i)

-- the entries of one more pool are kept
pub pools_more : (p : Linked) (m n : ℕ) (old new : List (List Resolved)) (row : List Resolved) → new ≡ old ++ row ∷ [] → length old ≡ n → m ≡ n → ((i : ℕ) → IsResolved p m i (slice_index_or row i Nothing)) → AreResolved p old → AreResolved p new
pools_more p m n old new row is size same here each k i =
    subst (λ (xs : List (List Resolved)). IsResolved p k i (resolved_at xs k i)) (sym is) (each_more [] (λ j (r : List Resolved). (i' : ℕ) → IsResolved p j i' (slice_index_or r i' Nothing)) old row (subst (λ (j : ℕ). (i' : ℕ) → IsResolved p j i' (slice_index_or row i' Nothing)) (same ∙ sym size) here) each k i)

pub nothing_kept : (p : Linked) (table : List (List Resolved)) → table ≡ [] → AreResolved p table
nothing_kept p table is k i = subst (λ (xs : List (List Resolved)). IsResolved p k i (resolved_at xs k i)) (sym is) tt

-- what was read from a table in which all is right
pub kept_right : (p q : Linked) (table : List (List Resolved)) (k class index : ℕ) (row : List Resolved) (x : Resolved) → AreResolved p table → p ≡ q → k ≡ class → row ≡ slice_index_or table k [] → x ≡ slice_index_or row index Nothing → IsResolved q class index x
kept_right p q table k class index row x right view same found is =
    let kept : x ≡ resolved_at table k index = is ∙ ap (λ (r : List Resolved). slice_index_or r index Nothing) found in
    subst (λ (l : Linked). IsResolved l class index x) view (subst (λ (c : ℕ). IsResolved p c index x) same (subst (λ (y : Resolved). IsResolved p k index y) (sym kept) (right k index)))
