-- Lemmas on the lines of mentions.
use Rattle.std.proofs.Common.{◌≡◌, ℕ, ◌+◌, ◌==◌, Bool, true, false, not, ◌||◌, if◌then◌else◌, cond, List, [], ◌∷◌, ◌++◌, Option, None, length, refl, sym, ◌∙◌, ap, ◌⊎◌, inl, inr, arith, rules}
use Rattle.std.specs.List.{list_any, position_or_len, prefix_len}
use Rattle.std.proofs.lemmas.Bool.{false≢true, eqb-true, eq-eqb}
use Rattle.std.proofs.lemmas.List.Folds.{list_any-append}
use Rattle.et_base.proofs.Options.{none_by_test}
use Rattle.et_base.specs.declared.line.TraceLine.TheVariants as line
use Rattle.et_state.specs.declared.records.Record.{Record}
use Rattle.et_state.specs.declared.records.Record.TheVariants.{Alloc, Update, Enter, Exit, Unwind}
use Rattle.et_state.specs.Naming.{Names, Mentions, with_new, with_mentions, number_in, class_line, method_line}
use Rattle.et_loop.specs.Naming.{mentions_method, HasClasses, number_if_in}

-- the place of a number that is put at the end is where the list ended
pub place_new : (p : ℕ → Bool) (x : ℕ) (seen : List ℕ) → p x ≡ true → position_or_len p (seen ++ x ∷ []) ≡ position_or_len p seen
place_new p x [] e = rw e refl
place_new p x (y ∷ ys) e = elim (p y) as (λ b. cond (not b) (1 + prefix_len (λ z. not (p z)) (ys ++ x ∷ [])) 0 ≡ cond (not b) (1 + prefix_len (λ z. not (p z)) ys) 0) [ true ↦ refl | false ↦ ap (λ n. 1 + n) (place_new p x ys e) ]

-- where no element passes, the place is the end
place_first : (p : ℕ → Bool) (y : ℕ) (ys : List ℕ) (b : Bool) → p y ≡ b → (b || list_any p ys) ≡ false → (list_any p ys ≡ false → position_or_len p ys ≡ length ys) → position_or_len p (y ∷ ys) ≡ length (y ∷ ys)
place_first p y ys true h e rest = search rules
place_first p y ys false h e rest = rw h (let n = rest e in omega (arith, n))

pub place_none : (p : ℕ → Bool) (seen : List ℕ) → list_any p seen ≡ false → position_or_len p seen ≡ length seen
place_none p [] e = refl
place_none p (y ∷ ys) e = place_first p y ys (p y) refl e (place_none p ys)

-- the number of a number that was just mentioned
number_now : (seen : List ℕ) (x : ℕ) → number_in (with_new seen x) x ≡ position_or_len (λ y. x == y) seen + 1
number_now seen x = elim (list_any (λ y. x == y) seen) as (λ b. position_or_len (λ y. x == y) (if b then seen else seen ++ x ∷ []) + 1 ≡ position_or_len (λ y. x == y) seen + 1) [ true ↦ refl | false ↦ ap (λ n. n + 1) (place_new (λ y. x == y) x seen (search rules)) ]

-- what is mentioned, by its two lists
pub both_mentioned : (classes methods classes' methods' : List ℕ) → classes ≡ classes' → methods ≡ methods' → (let m : Mentions = record { classes = classes; methods = methods } in m) ≡ record { classes = classes'; methods = methods' }
both_mentioned classes methods classes' methods' ec em = rw (ec, em) refl

-- WHAT IS NEW

due : {X : Type 0} (a : Bool) (xs : List X) → a ≡ false → xs ≡ (if a then [] else xs)
due true xs h = absurd (false≢true (sym h))
due false xs h = refl

-- the C line of a class that is new
pub new_class_line : (names : Names) (seen : List ℕ) (c n : ℕ) → list_any (λ y. c == y) seen ≡ false → n ≡ length seen + 1 → line.Class n (names.class_name c) ∷ [] ≡ class_line names seen c
new_class_line names seen c n new e = rw e (due (list_any (λ y. c == y) seen) _ new)

-- the N line of a method that is new
pub new_method_line : (names : Names) (classes seen : List ℕ) (m n class : ℕ) → list_any (λ y. m == y) seen ≡ false → n ≡ length seen + 1 → class ≡ number_in classes (names.method_class m)
    → line.Method n class (names.method_name m) (names.method_descriptor m) ∷ [] ≡ method_line names classes seen m
new_method_line names classes seen m n class new e ec = rw (e, ec) (due (list_any (λ y. m == y) seen) _ new)

-- the number of what is new
pub new_number : (seen : List ℕ) (x : ℕ) → list_any (λ y. x == y) seen ≡ false → length seen + 1 ≡ number_in (with_new seen x) x
new_number seen x h = ap (λ n. n + 1) (sym (place_none (λ y. x == y) seen h)) ∙ sym (number_now seen x)

-- what has no number is new
pub untold_new : (seen from : List ℕ) (x id : ℕ) (told : Option ℕ) → told ≡ number_if_in from id → told ≡ None → from ≡ seen → id ≡ x → list_any (λ y. x == y) seen ≡ false
untold_new seen from x id told is none es ex =
    let h : number_if_in seen x ≡ None = sym (is ∙ (ap (λ k. number_if_in k id) es ∙ ap (λ k. number_if_in seen k) ex)) ∙ none in
    none_by_test (list_any (λ y. x == y) seen) (number_in seen x) h

added_case : (a : Bool) (seen more : List ℕ) → a ≡ false → more ≡ (if a then seen else more)
added_case true seen more h = absurd (false≢true (sym h))
added_case false seen more h = refl

-- .. and is put at the end
pub new_added : (seen from keys : List ℕ) (x id : ℕ) → keys ≡ from ++ id ∷ [] → from ≡ seen → id ≡ x → list_any (λ y. x == y) seen ≡ false → keys ≡ with_new seen x
new_added seen from keys x id h es ex new = h ∙ (ap (λ k. k ++ id ∷ []) es ∙ (ap (λ k. seen ++ k ∷ []) ex ∙ added_case (list_any (λ y. x == y) seen) seen (seen ++ x ∷ []) new))

-- THE CLASSES OF WHAT IS MENTIONED

stays_case : (a : Bool) (p : ℕ → Bool) (seen : List ℕ) (k : ℕ) → list_any p seen ≡ true → list_any p (if a then seen else seen ++ k ∷ []) ≡ true
stays_case true p seen k h = h
stays_case false p seen k h = list_any-append p seen (k ∷ []) ∙ rw h refl

-- what was mentioned stays
class_stays : (seen : List ℕ) (k c : ℕ) → list_any (λ y. c == y) seen ≡ true → list_any (λ y. c == y) (with_new seen k) ≡ true
class_stays seen k c h = stays_case (list_any (λ y. k == y) seen) (λ y. c == y) seen k h

there_case : (a : Bool) (seen : List ℕ) (k : ℕ) → list_any (λ y. k == y) seen ≡ a → list_any (λ y. k == y) (if a then seen else seen ++ k ∷ []) ≡ true
there_case true seen k h = h
there_case false seen k h = list_any-append (λ y. k == y) seen (k ∷ []) ∙ rw (h, eq-eqb k k refl) refl

-- .. and what is mentioned now is there
class_there : (seen : List ℕ) (k : ℕ) → list_any (λ y. k == y) (with_new seen k) ≡ true
class_there seen k = there_case (list_any (λ y. k == y) seen) seen k refl

either_here : (a b : Bool) → (a || (b || false)) ≡ true → (a ≡ true) ⊎ (b ≡ true)
either_here true b h = inl refl
either_here false true h = inr refl
either_here false false h = absurd (false≢true h)

from_case : (a : Bool) (seen : List ℕ) (k x : ℕ) → list_any (λ y. x == y) (if a then seen else seen ++ k ∷ []) ≡ true → (list_any (λ y. x == y) seen ≡ true) ⊎ ((x == k) ≡ true)
from_case true seen k x h = inl h
from_case false seen k x h = either_here (list_any (λ y. x == y) seen) (x == k) (sym (list_any-append (λ y. x == y) seen (k ∷ [])) ∙ h)

-- .. and nothing else is
mentioned_from : (seen : List ℕ) (k x : ℕ) → list_any (λ y. x == y) (with_new seen k) ≡ true → (list_any (λ y. x == y) seen ≡ true) ⊎ ((x == k) ≡ true)
mentioned_from seen k x h = from_case (list_any (λ y. k == y) seen) seen k x h

class_of : (names : Names) (m : Mentions) (k x : ℕ) → HasClasses names m → (list_any (λ y. x == y) m.methods ≡ true) ⊎ ((x == k) ≡ true) → list_any (λ y. names.method_class x == y) (with_new m.classes (names.method_class k)) ≡ true
class_of names m k x has (inl h) = class_stays m.classes (names.method_class k) (names.method_class x) (has.each x h)
class_of names m k x has (inr h) = rw (eqb-true x k h) (class_there m.classes (names.method_class k))

class_mentioned : (names : Names) (m : Mentions) (k : ℕ) → HasClasses names m → HasClasses names (record { classes = with_new m.classes k; methods = m.methods })
class_mentioned names m k has = record { each = λ x h. class_stays m.classes k (names.method_class x) (has.each x h) }

method_mentioned : (names : Names) (m : Mentions) (k : ℕ) → HasClasses names m → HasClasses names (mentions_method names m k)
method_mentioned names m k has = record { each = λ x h. class_of names m k x has (mentioned_from m.methods k x h) }

-- a record mentions no method without its class
pub record_mentioned : (names : Names) (m : Mentions) (r : Record) → HasClasses names m → HasClasses names (with_mentions names m r)
record_mentioned names m (Alloc event thread object class size length) has = class_mentioned names m class has
record_mentioned names m (Update event thread object slot old new) has = has
record_mentioned names m (Enter event thread method receiver) has = method_mentioned names m method has
record_mentioned names m (Exit event thread method) has = method_mentioned names m method has
record_mentioned names m (Unwind event thread method exception) has = method_mentioned names m method has
