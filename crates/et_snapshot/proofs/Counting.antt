-- Objects are counted one by one.
use Rattle.std.proofs.Common.{◌≡◌, ◌∙◌, ℕ, ◌+◌, ◌^◌, ◌<◌, ◌≤◌, Bool, true, false, cond, List, [], ◌∷◌, ◌++◌, length, get_or, replicate, refl, sym, ap, subst, arith, inl, inr, length-append, get_or-set_same, get_or-set_other}
use Rattle.std.specs.Prelude.{filter}
use Rattle.std.specs.List.{sum_by}
use Rattle.std.proofs.Math.ListN.{set}
use Rattle.std.proofs.lemmas.List.{append-nil, length-set, get_or-replicate}
use Rattle.std.proofs.lemmas.List.Elements.{filter-append}
use Rattle.std.proofs.lemmas.List.Sums.{sum_by-cons, sum_by-append}
use Rattle.std.proofs.lemmas.Bool.{ne_eqb, eq-eqb}
use Rattle.et_base.proofs.Tests.{cases_eqb}
use Rattle.et_snapshot.specs.declared.totals.Total.{Total}
use Rattle.et_snapshot.specs.Heap.{Kept, size_of, is_kept_of, no_total, IsTotal, AreTotals}

-- these were counted
pub record Counts (done : List Kept) (totals : List Total) (all : Total) : Type 0 where
  pub each : AreTotals totals done
  pub whole : IsTotal all done

none_yet : (total : Total) → total ≡ no_total → IsTotal total []
none_yet total e = record { count = ap (λ (t : Total). t.count) e; bytes = ap (λ (t : Total). t.bytes) e }

pub counts_begin : (totals : List Total) → totals ≡ replicate (length totals) no_total → Counts [] totals no_total
counts_begin totals empty = record {
  each = record { each = λ k lt. none_yet (get_or totals k no_total) (ap (λ (l : List Total). get_or l k no_total) empty ∙ get_or-replicate (length totals) k no_total no_total lt) };
  whole = none_yet no_total refl;
}

less_kept : (p : Kept → Bool) (ks : List Kept) → (length (filter p ks) ≤ length ks) × (sum_by size_of (filter p ks) ≤ sum_by size_of ks)
less_kept p [] = (omega arith, omega arith)
less_kept p (k ∷ ks) =
    let rest = less_kept p ks in
    let a = sum_by-cons size_of k ks in
    let b = sum_by-cons size_of k (filter p ks) in
    elim (p k) as (λ v. (length (cond v (k ∷ filter p ks) (filter p ks)) ≤ length (k ∷ ks)) × (sum_by size_of (cond v (k ∷ filter p ks) (filter p ks)) ≤ sum_by size_of (k ∷ ks))) [
      | true ↦ ((let l = rest.0 in omega (arith, l)), (let s = rest.1 in omega (arith, s, a, b)))
      | false ↦ ((let l = rest.0 in omega (arith, l)), (let s = rest.1 in omega (arith, s, a)))
    ]

-- the counts and bytes of those that were counted leave room for the next one
pub record HasRoom (total : Total) (bytes : ℕ) : Type 0 where
  pub count : total.count + 1 < 2 ^ 64
  pub bytes_fit : total.bytes + bytes < 2 ^ 64

room_of : (kept done rest : List Kept) (k : Kept) (total : Total) (ks : List Kept) → kept ≡ done ++ k ∷ rest → IsTotal total ks → length ks ≤ length done → sum_by size_of ks ≤ sum_by size_of done → length kept < 2 ^ 64 → sum_by size_of kept < 2 ^ 64 → HasRoom total (size_of k)
room_of kept done rest k total ks e is shorter less few light =
    let c = is.count in
    let b = is.bytes in
    let long = length-append done (k ∷ rest) in
    let whole : length kept ≡ length (done ++ k ∷ rest) = ap (λ (l : List Kept). length l) e in
    let sum = ap (λ (l : List Kept). sum_by size_of l) e ∙ sum_by-append size_of done (k ∷ rest) in
    let one = sum_by-cons size_of k rest in
    record { count = omega (arith, c, shorter, long, whole, few); bytes_fit = omega (arith, b, less, sum, one, light) }

pub counts_room : (kept done rest : List Kept) (k : Kept) (totals : List Total) (all : Total) (i : ℕ) → kept ≡ done ++ k ∷ rest → Counts done totals all → i < length totals → length kept < 2 ^ 64 → sum_by size_of kept < 2 ^ 64 → HasRoom (get_or totals i no_total) (size_of k)
counts_room kept done rest k totals all i e c lt few light =
    let p = less_kept (is_kept_of (i + 1)) done in
    room_of kept done rest k (get_or totals i no_total) (filter (is_kept_of (i + 1)) done) e (c.each.each i lt) p.0 p.1 few light

pub counts_room_all : (kept done rest : List Kept) (k : Kept) (totals : List Total) (all : Total) → kept ≡ done ++ k ∷ rest → Counts done totals all → length kept < 2 ^ 64 → sum_by size_of kept < 2 ^ 64 → HasRoom all (size_of k)
counts_room_all kept done rest k totals all e c few light = room_of kept done rest k all done e c.whole (omega arith) (omega arith) few light

total_more : (total next : Total) (ks : List Kept) (k : Kept) → IsTotal total ks → next.count ≡ total.count + 1 → next.bytes ≡ total.bytes + size_of k → IsTotal next (ks ++ k ∷ [])
total_more total next ks k is c b =
    let count = is.count in
    let bytes = is.bytes in
    let long = length-append ks (k ∷ []) in
    let sum = sum_by-append size_of ks (k ∷ []) in
    let one = sum_by-cons size_of k [] in
    record { count = omega (arith, c, count, long); bytes = omega (arith, b, bytes, sum, one) }

own_more : (class : ℕ) (ks : List Kept) (k : Kept) (b : Bool) → is_kept_of class k ≡ b → filter (is_kept_of class) (ks ++ k ∷ []) ≡ filter (is_kept_of class) ks ++ cond b (k ∷ []) []
own_more class ks k b e = filter-append (is_kept_of class) ks (k ∷ []) ∙ ap (λ (v : Bool). filter (is_kept_of class) ks ++ cond v (k ∷ []) []) e

pub counts_more : (done : List Kept) (k : Kept) (totals : List Total) (all next next_all : Total) (i : ℕ) → k.1.class ≡ i + 1 → i < length totals → Counts done totals all
    → next.count ≡ (get_or totals i no_total).count + 1 → next.bytes ≡ (get_or totals i no_total).bytes + size_of k → next_all.count ≡ all.count + 1 → next_all.bytes ≡ all.bytes + size_of k → Counts (done ++ k ∷ []) (set totals i next) next_all
counts_more done k totals all next next_all i class lt c count bytes count_all bytes_all =
    let long = length-set totals i next in
    record {
      each = record {
        each = λ j within. elim (cases_eqb j i) [
          | inl same ↦
              let s = same.1 in
              let own : is_kept_of (j + 1) k ≡ true = eq-eqb k.1.class (j + 1) (omega (arith, s, class)) in
              subst (λ (ks : List Kept). IsTotal (get_or (set totals i next) j no_total) ks) (sym (own_more (j + 1) done k true own))
              (subst (λ (m : ℕ). IsTotal (get_or (set totals i next) m no_total) (filter (is_kept_of (m + 1)) done ++ k ∷ [])) (sym s)
              (subst (λ (t : Total). IsTotal t (filter (is_kept_of (i + 1)) done ++ k ∷ [])) (sym (get_or-set_same totals i next no_total lt))
              (total_more (get_or totals i no_total) next (filter (is_kept_of (i + 1)) done) k (c.each.each i lt) count bytes)))
          | inr apart ↦
              let ne = apart.1 in
              let other : is_kept_of (j + 1) k ≡ false = ne_eqb k.1.class (j + 1) (λ q. ne (omega (arith, q, class))) in
              subst (λ (ks : List Kept). IsTotal (get_or (set totals i next) j no_total) ks) (sym (own_more (j + 1) done k false other ∙ append-nil (filter (is_kept_of (j + 1)) done)))
              (subst (λ (t : Total). IsTotal t (filter (is_kept_of (j + 1)) done)) (sym (get_or-set_other totals i j next no_total ne)) (c.each.each j (omega (arith, within, long))))
        ];
      };
      whole = total_more all next_all done k c.whole count_all bytes_all;
    }
