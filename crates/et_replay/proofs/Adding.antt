-- Adding up the sizes of times below a limit.
use Rattle.std.proofs.Common.{◌≡◌, ℕ, suc, ◌+◌, ◌*◌, ◌^◌, ◌<◌, ◌≤◌, true, false, ltb, List, [], ◌∷◌, ◌++◌, length, take, drop, get_or, refl, sym, ap, subst, ◌∙◌, arith}
use Rattle.std.specs.List.{sum_by, AllPairs}
use Rattle.std.specs.List.Sorted.{IsNonDecreasingBy}
use Rattle.std.proofs.lemmas.Bool.Decides.{nat_tests}
use Rattle.std.proofs.lemmas.List.{take-append-drop, get_or-take, get_or-drop, get_or_default, length-take-le, length-drop}
use Rattle.std.proofs.lemmas.List.Sums.{sum_by-cons, sum_by-append, sum_by-le}
use Rattle.et_replay.specs.Lives.{no_size, Sizes, size_below, sum_below, CountsTo}

abbrev at : Sizes → ℕ → ℕ × ℕ
at sizes i = get_or sizes i no_size

abbrev second : ℕ × ℕ → ℕ
second p = p.1

all_below : (sizes : Sizes) (limit : ℕ) → ((k : ℕ) → k < length sizes → (at sizes k).0 < limit) → sum_below limit sizes ≡ sum_by second sizes
all_below [] limit h = refl
all_below (p ∷ sizes) limit h =
    let rest = all_below sizes limit (λ k lt. h (suc k) (omega (arith, lt))) in
    let lt : p.0 < limit = h 0 (omega arith) in
    let t : ltb p.0 limit ≡ true = grind (arith, nat_tests) in
    let one : size_below limit p ≡ p.1 = rw t refl in
    sum_by-cons (size_below limit) p sizes ∙ (omega (arith, one, rest, sum_by-cons second p sizes))

none_below : (sizes : Sizes) (limit : ℕ) → ((k : ℕ) → k < length sizes → limit ≤ (at sizes k).0) → sum_below limit sizes ≡ 0
none_below [] limit h = refl
none_below (p ∷ sizes) limit h =
    let rest = none_below sizes limit (λ k lt. h (suc k) (omega (arith, lt))) in
    let le : limit ≤ p.0 = h 0 (omega arith) in
    let t : ltb p.0 limit ≡ false = grind (arith, nat_tests) in
    let one : size_below limit p ≡ 0 = rw t refl in
    sum_by-cons (size_below limit) p sizes ∙ (omega (arith, one, rest))

pub counts_on : (sizes : Sizes) (i sum limit limit' : ℕ) → limit ≤ limit' → CountsTo sizes i sum limit → CountsTo sizes i sum limit'
counts_on sizes i sum limit limit' le c = record { fits = c.fits; sum_is = c.sum_is; passed = λ k lt. (let p = c.passed k lt in omega (arith, p, le)) }

-- where the next one is not below the limit, or there is none, that is all
pub counts_all : (sizes : Sizes) (i sum limit : ℕ) → IsNonDecreasingBy (λ (p : ℕ × ℕ). p.0) sizes → (i < length sizes → limit ≤ (at sizes i).0) → CountsTo sizes i sum limit → sum ≡ sum_below limit sizes
counts_all sizes i sum limit sorted stop c =
    let front : sum_below limit (take i sizes) ≡ sum_by second (take i sizes) =
    all_below (take i sizes) limit (λ k lt. (let l : k < i = omega (arith, lt, length-take-le i sizes c.fits) in subst (λ (x : ℕ × ℕ). x.0 < limit) (sym (get_or-take i sizes k no_size l)) (c.passed k l))) in
    let back : sum_below limit (drop i sizes) ≡ 0 =
    none_below (drop i sizes) limit (λ k lt. (let l : i + k < length sizes = omega (arith, lt, length-drop i sizes) in let m : i < length sizes = omega (arith, l) in let first = stop m in let later = sorted i (i + k) no_size (omega arith) l in
    subst (λ (x : ℕ × ℕ). limit ≤ x.0) (sym (get_or-drop i sizes k no_size)) (omega (arith, first, later)))) in
    let whole : sum_below limit (take i sizes ++ drop i sizes) ≡ sum_below limit sizes = ap (λ (t : Sizes). sum_below limit t) (take-append-drop i sizes) in
    c.sum_is ∙ (sym front ∙ (omega (arith, back, whole, sum_by-append (size_below limit) (take i sizes) (drop i sizes))))

-- many sizes of at most 2^30 bytes
pub sum_small : (sizes : Sizes) → length sizes < 2 ^ 24 → ((i : ℕ) → (at sizes i).1 ≤ 2 ^ 30) → sum_by second sizes ≤ 2 ^ 54
sum_small sizes few small =
    let le : sum_by second sizes ≤ length sizes * 2 ^ 30 = sum_by-le second (2 ^ 30) sizes (λ k d lt. subst (λ (x : ℕ × ℕ). x.1 ≤ 2 ^ 30) (get_or_default sizes k no_size d lt) (small k)) in
    omega (arith, le, few)

-- how far sizes are added up, after the first n of these events: all are of times below each limit that is no less than such an event and off
pub record Adds (sizes : Sizes) (i sum : ℕ) (base : Sizes) (es : List ℕ) (n off : ℕ) : Type 0 where
  pub sorted : IsNonDecreasingBy (λ (p : ℕ × ℕ). p.0) sizes
  pub fits : sum_by second sizes < 2 ^ 64
  pub same : (limit : ℕ) → sum_below limit sizes ≡ sum_below limit base
  pub counts : (limit : ℕ) → ((k : ℕ) → k < n → get_or es k 0 + off ≤ limit) → CountsTo sizes i sum limit

pub adds_call : (sizes : Sizes) (i sum : ℕ) (base : Sizes) (es : List ℕ) (n off : ℕ) → AllPairs (λ (x y : ℕ). x < y) es → n < length es → Adds sizes i sum base es n off → CountsTo sizes i sum (get_or es n 0 + off)
adds_call sizes i sum base es n off rise lt a = a.counts (get_or es n 0 + off) (λ k l. (let p = rise k n 0 l lt in omega (arith, p)))

pub adds_next : (sizes sizes' : Sizes) (i sum i' sum' : ℕ) (base : Sizes) (es : List ℕ) (n off : ℕ) → sizes' ≡ sizes → CountsTo sizes' i' sum' (get_or es n 0 + off) → Adds sizes i sum base es n off → Adds sizes' i' sum' base es (n + 1) off
adds_next sizes sizes' i sum i' sum' base es n off e c a = record {
  sorted = subst (λ (t : Sizes). IsNonDecreasingBy (λ (p : ℕ × ℕ). p.0) t) (sym e) a.sorted;
  fits = subst (λ (t : Sizes). sum_by second t < 2 ^ 64) (sym e) a.fits;
  same = λ limit. ap (λ (t : Sizes). sum_below limit t) e ∙ a.same limit;
  counts = λ limit h. counts_on sizes' i' sum' (get_or es n 0 + off) limit (h n (omega arith)) c;
}
