-- The bytes of the classes add up to those of the objects.
use Rattle.std.proofs.Common.{◌≡◌, ◌∙◌, ℕ, ◌+◌, ◌<◌, ◌≤◌, Bool, true, false, cond, List, [], ◌∷◌, length, map, refl, ap, subst, arith, inl, inr}
use Rattle.std.specs.Prelude.{reverse, filter}
use Rattle.std.specs.List.{sum_by, AllByRecursion}
use Rattle.std.proofs.lemmas.List.Sums.{sum_by-cons}
use Rattle.std.proofs.lemmas.Bool.{ne_eqb}
use Rattle.et_base.specs.declared.line.TraceLine.{TraceLine}
use Rattle.et_base.specs.declared.line.TraceLine.TheVariants.{Header, Class, Method, Alloc, Update, Enter, Exit, Unwind, Flush, Death, Finish}
use Rattle.et_base.proofs.Tests.{cases_eqb}
use Rattle.et_text.specs.Rules.{AreFine}
use Rattle.et_replay.specs.Curve.{live}
use Rattle.et_snapshot.specs.Snapshot.{is_of_class, size_made, bytes_made, class_bytes, live_lines}
use Rattle.et_snapshot.specs.Heap.{Kept, HasClass}
use Rattle.et_snapshot.proofs.Classes.{fields, Numbered}
use Rattle.et_snapshot.proofs.Telling.{is_told, body_at, made_is_live}

-- the bytes of a line that makes an object of the class
abbrev own_size : ℕ → TraceLine → ℕ
own_size class x = cond (is_of_class class x) (size_made x) 0

bytes_more : (class : ℕ) (x : TraceLine) (made : List TraceLine) → bytes_made (filter (is_of_class class) (x ∷ made)) ≡ own_size class x + bytes_made (filter (is_of_class class) made)
bytes_more class x made =
    let left = sum_by-cons size_made x (filter (is_of_class class) made) in
    elim (is_of_class class x) as (λ b. sum_by size_made (cond b (x ∷ filter (is_of_class class) made) (filter (is_of_class class) made)) ≡ cond b (size_made x) 0 + sum_by size_made (filter (is_of_class class) made)) [ true ↦ left | false ↦ omega arith ]

-- of one line alone, at the line of a class
abbrev one_bytes : TraceLine → TraceLine → ℕ
one_bytes x (Class number name) = own_size number x
one_bytes x _ = 0

class_more : (x : TraceLine) (made : List TraceLine) (line : TraceLine) → class_bytes (x ∷ made) line ≡ one_bytes x line + class_bytes made line
class_more x made (Class number name) = bytes_more number x made
class_more x made _ = omega arith

sum_more : (x : TraceLine) (made xs : List TraceLine) → sum_by (class_bytes (x ∷ made)) xs ≡ sum_by (one_bytes x) xs + sum_by (class_bytes made) xs
sum_more x made [] = refl
sum_more x made (line ∷ xs) =
    let rest = sum_more x made xs in
    let one = class_more x made line in
    let a = sum_by-cons (class_bytes (x ∷ made)) line xs in
    let b = sum_by-cons (one_bytes x) line xs in
    let c = sum_by-cons (class_bytes made) line xs in
    omega (arith, rest, one, a, b, c)

no_bytes : (line : TraceLine) → class_bytes [] line ≡ 0
no_bytes (Class number name) = refl
no_bytes _ = refl

none_made : (xs : List TraceLine) → sum_by (class_bytes []) xs ≡ 0
none_made [] = refl
none_made (line ∷ xs) =
    let rest = none_made xs in
    let a = sum_by-cons (class_bytes []) line xs in
    let z = no_bytes line in
    omega (arith, rest, a, z)

-- the object is counted at its class alone
module _ (born thread object class size len : ℕ) where
  abbrev this : TraceLine
  this = Alloc born thread object class size len

  counted_other : (line : TraceLine) (xs : List TraceLine) (sum : ℕ) → one_bytes this line ≡ 0 → sum_by (one_bytes this) xs ≡ sum → sum_by (one_bytes this) (line ∷ xs) ≡ sum
  counted_other line xs sum none rest = let a = sum_by-cons (one_bytes this) line xs in omega (arith, none, rest, a)

  counted_never : (n : ℕ) (xs : List TraceLine) → Numbered n xs → class ≤ n → sum_by (one_bytes this) xs ≡ 0
  counted_never n [] h le = refl
  counted_never n (Class number name ∷ xs) h le =
      let e = h.0 in
      counted_other (Class number name) xs 0 (ap (λ (b : Bool). cond b size 0) (ne_eqb class number (λ s. omega (arith, s, e, le)))) (counted_never (n + 1) xs h.1 (omega (arith, le)))
  counted_never n (Header v i ∷ xs) h le = counted_other (Header v i) xs 0 refl (counted_never n xs h le)
  counted_never n (Method number of name descriptor ∷ xs) h le = counted_other (Method number of name descriptor) xs 0 refl (counted_never n xs h le)
  counted_never n (Alloc event t o of s l ∷ xs) h le = counted_other (Alloc event t o of s l) xs 0 refl (counted_never n xs h le)
  counted_never n (Update event t o slot old new ∷ xs) h le = counted_other (Update event t o slot old new) xs 0 refl (counted_never n xs h le)
  counted_never n (Enter event t method receiver ∷ xs) h le = counted_other (Enter event t method receiver) xs 0 refl (counted_never n xs h le)
  counted_never n (Exit event t method ∷ xs) h le = counted_other (Exit event t method) xs 0 refl (counted_never n xs h le)
  counted_never n (Unwind event t method exception ∷ xs) h le = counted_other (Unwind event t method exception) xs 0 refl (counted_never n xs h le)
  counted_never n (Flush event deaths ∷ xs) h le = counted_other (Flush event deaths) xs 0 refl (counted_never n xs h le)
  counted_never n (Death o time ∷ xs) h le = counted_other (Death o time) xs 0 refl (counted_never n xs h le)
  counted_never n (Finish event how ∷ xs) h le = counted_other (Finish event how) xs 0 refl (counted_never n xs h le)

  counted_here : (n number : ℕ) (name : List ℕ) (xs : List TraceLine) → number ≡ n + 1 → Numbered (n + 1) xs → n < class → (n + 1 < class → sum_by (one_bytes this) xs ≡ size) → sum_by (one_bytes this) (Class number name ∷ xs) ≡ size
  counted_here n number name xs is h low rest = elim (cases_eqb class number) [
    | inl e ↦
        let s = e.1 in
        let none = counted_never (n + 1) xs h (omega (arith, s, is)) in
        let a = sum_by-cons (one_bytes this) (Class number name) xs in
        let hit : own_size number this ≡ size = ap (λ (b : Bool). cond b size 0) e.0 in
        omega (arith, none, a, hit)
    | inr d ↦
        let ne = d.1 in
        counted_other (Class number name) xs size (ap (λ (b : Bool). cond b size 0) d.0) (rest (omega (arith, ne, is, low)))
  ]

  counted_once : (n : ℕ) (xs : List TraceLine) → Numbered n xs → n < class → class ≤ n + length (fields xs) → sum_by (one_bytes this) xs ≡ size
  counted_once n [] h low high = absurd (omega (arith, low, high))
  counted_once n (Class number name ∷ xs) h low high = counted_here n number name xs h.0 h.1 low (λ more. counted_once (n + 1) xs h.1 more (omega (arith, high)))
  counted_once n (Header v i ∷ xs) h low high = counted_other (Header v i) xs size refl (counted_once n xs h low high)
  counted_once n (Method number of name descriptor ∷ xs) h low high = counted_other (Method number of name descriptor) xs size refl (counted_once n xs h low high)
  counted_once n (Alloc event t o of s l ∷ xs) h low high = counted_other (Alloc event t o of s l) xs size refl (counted_once n xs h low high)
  counted_once n (Update event t o slot old new ∷ xs) h low high = counted_other (Update event t o slot old new) xs size refl (counted_once n xs h low high)
  counted_once n (Enter event t method receiver ∷ xs) h low high = counted_other (Enter event t method receiver) xs size refl (counted_once n xs h low high)
  counted_once n (Exit event t method ∷ xs) h low high = counted_other (Exit event t method) xs size refl (counted_once n xs h low high)
  counted_once n (Unwind event t method exception ∷ xs) h low high = counted_other (Unwind event t method exception) xs size refl (counted_once n xs h low high)
  counted_once n (Flush event deaths ∷ xs) h low high = counted_other (Flush event deaths) xs size refl (counted_once n xs h low high)
  counted_once n (Death o time ∷ xs) h low high = counted_other (Death o time) xs size refl (counted_once n xs h low high)
  counted_once n (Finish event how ∷ xs) h low high = counted_other (Finish event how) xs size refl (counted_once n xs h low high)

once : (lines : List TraceLine) (e : ℕ) (x : TraceLine) → Numbered 0 lines → HasClass (length (fields lines)) (body_at lines e x) → sum_by (one_bytes x) lines ≡ size_made x
once lines e (Alloc born thread object class size len) n h = let top = h.1 in counted_once born thread object class size len 0 lines n h.0 (omega (arith, top))
once lines e _ n h = absurd (let low = h.0 in omega (arith, low))

each_once : (lines : List TraceLine) (e : ℕ) (made : List TraceLine) → Numbered 0 lines → AllByRecursion (HasClass (length (fields lines))) (map (body_at lines e) made) → sum_by (class_bytes made) lines ≡ bytes_made made
each_once lines e [] n a = none_made lines
each_once lines e (x ∷ made) n a =
    let rest = each_once lines e made n a.1 in
    let one = once lines e x n a.0 in
    let more = sum_more x made lines in
    let sum = sum_by-cons size_made x made in
    omega (arith, rest, one, more, sum)

pub class_bytes_are : (version : ℕ) (lines : List TraceLine) (e : ℕ) → AreFine version (reverse lines) → sum_by (class_bytes (live_lines lines e)) lines ≡ live lines e
class_bytes_are version lines e f =
    let t = is_told version e lines f in
    each_once lines e (live_lines lines e) t.numbered (subst (λ (k : List Kept). AllByRecursion (HasClass (length (fields lines))) k) t.bodies t.classed) ∙ made_is_live lines e
