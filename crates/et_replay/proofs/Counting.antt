-- The live bytes are the bytes made less the bytes gone.
use Rattle.std.proofs.Common.{◌≡◌, ℕ, suc, ◌+◌, ◌-◌, ◌^◌, ◌<◌, ◌≤◌, Bool, true, false, cond, not, ◌&&◌, eqb, ltb, leb, List, [], ◌∷◌, ◌++◌, length, get_or, refl, sym, ap, subst, ◌∙◌, arith}
use Rattle.std.specs.Prelude.{reverse}
use Rattle.std.specs.List.{sum_by}
use Rattle.std.proofs.lemmas.Bool.Decides.{nat_tests}
use Rattle.std.proofs.lemmas.List.Sums.{sum_by-cons}
use Rattle.std.proofs.lemmas.List.Sorted.{sum_by-IsPermutation, list_any-IsPermutation, IsPermutation-reverse}
use mathlib.Core.Bool.{and-false}
use Rattle.std.proofs.lemmas.Bool.{and_parts, eqb-true}
use Rattle.et_base.specs.declared.line.TraceLine.{TraceLine}
use Rattle.et_base.specs.declared.line.TraceLine.TheVariants.{Alloc}
use Rattle.et_text.specs.Rules.{objects, is_timely, AreFine}
use Rattle.et_replay.specs.Curve.{tells_before, dies_before, live_size, live}
use Rattle.et_replay.specs.Lives.{never, no_size, Sizes, born_by, died_by, size_below, sum_below}
use Rattle.et_replay.proofs.Living.{Tells, tells, lives, follows}
use Rattle.et_replay.proofs.Adding.{sum_small}
use Rattle.et_replay.proofs.Living.Tells.{Born, Died, Other}

abbrev at : Sizes → ℕ → ℕ × ℕ
at sizes i = get_or sizes i no_size

-- the bytes of p that are live at e, where gone says whether they are gone
abbrev part : Bool → ℕ → ℕ × ℕ → ℕ
part gone e p = cond (leb p.0 e && not gone) p.1 0

abbrev total : (ℕ → Bool) → ℕ → ℕ → Sizes → ℕ
total d e k [] = 0
total d e k (p ∷ b) = part (d (k + 1)) e p + total d e (k + 1) b

total-push : (d : ℕ → Bool) (e k : ℕ) (b : Sizes) (p : ℕ × ℕ) → total d e k (b ++ p ∷ []) ≡ total d e k b + part (d (k + length b + 1)) e p
total-push d e k [] p =
    let q : k + 1 ≡ k + 0 + 1 = omega arith in
    subst (λ (j : ℕ). total d e k (p ∷ []) ≡ 0 + part (d j) e p) q (omega arith)
total-push d e k (x ∷ b) p =
    let q : k + 1 + length b + 1 ≡ k + length (x ∷ b) + 1 = omega arith in
    let ih = total-push d e (k + 1) b p in
    subst (λ (j : ℕ). total d e k (x ∷ b ++ p ∷ []) ≡ total d e k (x ∷ b) + part (d j) e p) q (omega (arith, ih))

size_on : (version : ℕ) (lines : List TraceLine) (e : ℕ) (past : List TraceLine) (line : TraceLine) → Tells line → AreFine version (line ∷ past) → sum_by (live_size lines e) past ≡ total (dies_before lines e) e 0 (born_by past)
    → live_size lines e line + sum_by (live_size lines e) past ≡ total (dies_before lines e) e 0 (born_by (line ∷ past))
size_on version lines e past line (Born event thread object class size len) f ih =
    let g = follows past (Alloc event thread object class size len) f.2 in
    let o = and_parts (is_timely past event) (eqb object (objects past + 1)) g.ordered in
    let next : object ≡ objects past + 1 = eqb-true object (objects past + 1) o.1 in
    let h = lives version past f.0 in
    let many = h.many in
    let place : 0 + length (born_by past) + 1 ≡ object = omega (arith, many, next) in
    let one : part (dies_before lines e (0 + length (born_by past) + 1)) e (event, size) ≡ part (dies_before lines e object) e (event, size) = ap (λ (k : ℕ). part (dies_before lines e k) e (event, size)) place in
    omega (arith, ih, one, total-push (dies_before lines e) e 0 (born_by past) (event, size))
size_on version lines e past line (Died object time) f ih = omega (arith, ih)
size_on version lines e past line (Other other s) f ih =
    let n : live_size lines e other ≡ 0 = s.size lines e in
    subst (λ (b : Sizes). live_size lines e other + sum_by (live_size lines e) past ≡ total (dies_before lines e) e 0 b) (sym (s.born (born_by past))) (omega (arith, n, ih))

size_sum : (version : ℕ) (lines : List TraceLine) (e : ℕ) (past : List TraceLine) → AreFine version past → sum_by (live_size lines e) past ≡ total (dies_before lines e) e 0 (born_by past)
size_sum version lines e [] f = refl
size_sum version lines e (line ∷ past) f = sum_by-cons (live_size lines e) line past ∙ size_on version lines e past line (tells line) f (size_sum version lines e past f.0)

and_true : (v : Bool) → (v && true) ≡ v
and_true true = refl
and_true false = refl

same_test : (x e : ℕ) → leb x e ≡ ltb x (e + 1)
same_test x e = grind (arith, nat_tests)

-- one object: it is live, or gone, or not made yet
one_part : (gone : Bool) (e : ℕ) (p t : ℕ × ℕ) → gone ≡ ltb t.0 e → t.1 ≡ p.1 → p.0 ≤ t.0 → part gone e p + size_below e t ≡ size_below (e + 1) p
one_part true e p t g same le =
    let a : ltb t.0 e ≡ true = sym g in
    let lt : t.0 < e = grind (arith, nat_tests) in
    let early : p.0 < e + 1 = omega (arith, lt, le) in
    let b : ltb p.0 (e + 1) ≡ true = grind (arith, nat_tests) in
    let c : part true e p ≡ 0 = rw (and-false (leb p.0 e)) refl in
    let d : size_below e t ≡ t.1 = rw a refl in
    let f : size_below (e + 1) p ≡ p.1 = rw b refl in
    omega (arith, c, d, f, same)
one_part false e p t g same le =
    let a : ltb t.0 e ≡ false = sym g in
    let c : part false e p ≡ size_below (e + 1) p = ap (λ (v : Bool). cond v p.1 0) (and_true (leb p.0 e) ∙ same_test p.0 e) in
    let d : size_below e t ≡ 0 = rw a refl in
    omega (arith, c, d)

adds : (d : ℕ → Bool) (e k : ℕ) (b t : Sizes) → length t ≡ length b → ((i : ℕ) → i < length b → d (k + i + 1) ≡ ltb (at t i).0 e) → ((i : ℕ) → (at t i).1 ≡ (at b i).1) → ((i : ℕ) → i < length b → (at b i).0 ≤ (at t i).0)
    → total d e k b + sum_below e t ≡ sum_below (e + 1) b
adds d e k [] [] same f g h = refl
adds d e k [] (x ∷ t) same f g h = absurd (omega (arith, same))
adds d e k (p ∷ b) [] same f g h = absurd (omega (arith, same))
adds d e k (p ∷ b) (x ∷ t) same f g h =
    let here : k + 0 + 1 ≡ k + 1 = omega arith in
    let gone : d (k + 1) ≡ ltb x.0 e = subst (λ (j : ℕ). d j ≡ ltb x.0 e) here (f 0 (omega arith)) in
    let one = one_part (d (k + 1)) e p x gone (g 0) (h 0 (omega arith)) in
    let rest = adds d e (k + 1) b t (omega (arith, same)) (λ i lt. (let q : k + suc i + 1 ≡ k + 1 + i + 1 = omega arith in subst (λ (j : ℕ). d j ≡ ltb (at t i).0 e) q (f (suc i) (omega (arith, lt))))) (λ i. g (suc i)) (λ i lt. h (suc i) (omega (arith, lt))) in
    omega (arith, one, rest, sum_by-cons (size_below e) x t, sum_by-cons (size_below (e + 1)) p b)

pub live_is : (version : ℕ) (lines : List TraceLine) (e : ℕ) → AreFine version (reverse lines) → e ≤ never → live lines e + sum_below e (died_by (reverse lines)) ≡ sum_below (e + 1) (born_by (reverse lines))
live_is version lines e f le =
    let h = lives version (reverse lines) f in
    let turned = sum_by-IsPermutation (live_size lines e) lines (reverse lines) (IsPermutation-reverse lines) in
    let sizes = size_sum version lines e (reverse lines) f in
    let sums = adds (dies_before lines e) e 0 (born_by (reverse lines)) (died_by (reverse lines)) h.as_many
    (λ i lt. list_any-IsPermutation (tells_before e (0 + i + 1)) lines (reverse lines) (IsPermutation-reverse lines) ∙ (let q : 0 + i + 1 - 1 ≡ i = omega arith in sym (subst (λ (j : ℕ). ltb (at (died_by (reverse lines)) j).0 e ≡ dies_before (reverse lines) e (0 + i + 1)) q (h.times e (0 + i + 1) le (omega arith)))))
    h.sizes h.after in
    omega (arith, turned, sizes, sums)

pub born_small : (version : ℕ) (lines : List TraceLine) → AreFine version (reverse lines) → sum_by (λ (p : ℕ × ℕ). p.1) (born_by (reverse lines)) ≤ 2 ^ 54
born_small version lines f = let h = lives version (reverse lines) f in sum_small (born_by (reverse lines)) h.few h.small

pub died_small : (version : ℕ) (lines : List TraceLine) → AreFine version (reverse lines) → sum_by (λ (p : ℕ × ℕ). p.1) (died_by (reverse lines)) ≤ 2 ^ 54
died_small version lines f =
    let h = lives version (reverse lines) f in
    let few : length (died_by (reverse lines)) < 2 ^ 24 = (let a = h.as_many in let b = h.few in omega (arith, a, b)) in
    sum_small (died_by (reverse lines)) few (λ i. (let s = h.sizes i in let b = h.small i in omega (arith, s, b)))
