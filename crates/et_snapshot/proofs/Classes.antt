-- The classes of a good trace have the numbers from 1 on, in the order of their lines.
use Rattle.std.proofs.Common.{◌≡◌, ◌∙◌, ℕ, suc, ◌+◌, ◌-◌, ◌<◌, ◌≤◌, Bool, cond, eqb, List, [], ◌∷◌, ◌++◌, length, get_or, Option, None, refl, sym, ap, subst, arith, inl, inr, length-append}
use Rattle.std.specs.List.{filter_map, cons_option}
use Rattle.std.proofs.lemmas.List.{append-nil}
use Rattle.std.proofs.lemmas.List.Elements.{filter_map-append}
use Rattle.std.proofs.lemmas.Bool.{and_parts, eqb-true}
use Rattle.et_base.specs.declared.line.TraceLine.{TraceLine}
use Rattle.et_base.specs.declared.line.TraceLine.TheVariants.{Header, Class, Method, Alloc, Update, Enter, Exit, Unwind, Flush, Death, Finish}
use Rattle.et_base.proofs.Tests.{cases_eqb}
use Rattle.et_text.specs.Rules.{classes, is_open, AreFine}
use Rattle.et_text.specs.Spelling.{text_field}
use Rattle.et_replay.proofs.Living.{follows}
use Rattle.et_snapshot.specs.Snapshot.{class_name}
use Rattle.et_snapshot.specs.Heap.{field_of}
use Rattle.et_snapshot.proofs.Keeping.{in_order}

abbrev pub fields : List TraceLine → List (List ℕ)
fields lines = filter_map field_of lines

-- the next class has the number behind n
abbrev pub Numbered : ℕ → List TraceLine → Type 0
Numbered n [] = Unit {0}
Numbered n (Class number name ∷ lines) = (number ≡ n + 1) × Numbered (n + 1) lines
Numbered n (_ ∷ lines) = Numbered n lines

-- a line behind those
numbered_push : (n : ℕ) (lines : List TraceLine) (line : TraceLine) → Numbered n lines → Numbered (n + length (fields lines)) (line ∷ []) → Numbered n (lines ++ line ∷ [])
numbered_push n [] line h k = let none : n + length (fields []) ≡ n = omega arith in subst (λ (m : ℕ). Numbered m (line ∷ [])) none k
numbered_push n (Class number name ∷ lines) line h k =
    let next : n + suc (length (fields lines)) ≡ n + 1 + length (fields lines) = omega arith in
    (h.0, numbered_push (n + 1) lines line h.1 (subst (λ (m : ℕ). Numbered m (line ∷ [])) next k))
numbered_push n (Header v i ∷ lines) line h k = numbered_push n lines line h k
numbered_push n (Method number class name descriptor ∷ lines) line h k = numbered_push n lines line h k
numbered_push n (Alloc event thread object class size len ∷ lines) line h k = numbered_push n lines line h k
numbered_push n (Update event thread object slot old new ∷ lines) line h k = numbered_push n lines line h k
numbered_push n (Enter event thread method receiver ∷ lines) line h k = numbered_push n lines line h k
numbered_push n (Exit event thread method ∷ lines) line h k = numbered_push n lines line h k
numbered_push n (Unwind event thread method exception ∷ lines) line h k = numbered_push n lines line h k
numbered_push n (Flush event deaths ∷ lines) line h k = numbered_push n lines line h k
numbered_push n (Death object time ∷ lines) line h k = numbered_push n lines line h k
numbered_push n (Finish event how ∷ lines) line h k = numbered_push n lines line h k

pub record AreNumbered (past : List TraceLine) : Type 0 where
  pub numbered : Numbered 0 (in_order past)
  pub many : length (fields (in_order past)) ≡ classes past

-- a line of no class
other_line : (past : List TraceLine) (line : TraceLine) → field_of line ≡ None → ((n : ℕ) → Numbered n (line ∷ [])) → classes (line ∷ past) ≡ classes past → AreNumbered past → AreNumbered (line ∷ past)
other_line past line none any same h = record {
  numbered = numbered_push 0 (in_order past) line h.numbered (any (0 + length (fields (in_order past))));
  many =
      ap (λ (l : List (List ℕ)). length l) (filter_map-append field_of (in_order past) (line ∷ []))
      ∙ (ap (λ (o : Option (List ℕ)). length (fields (in_order past) ++ cons_option o [])) none ∙ (ap (λ (l : List (List ℕ)). length l) (append-nil (fields (in_order past))) ∙ (h.many ∙ sym same)));
}

class_line : (past : List TraceLine) (number : ℕ) (name : List ℕ) → number ≡ classes past + 1 → AreNumbered past → AreNumbered (Class number name ∷ past)
class_line past number name is h =
    let many = h.many in
    let long = length-append (fields (in_order past)) (text_field name ∷ []) in
    record {
      numbered = numbered_push 0 (in_order past) (Class number name) h.numbered ((omega (arith, is, many)), tt);
      many = ap (λ (l : List (List ℕ)). length l) (filter_map-append field_of (in_order past) (Class number name ∷ [])) ∙ omega (arith, many, long);
    }

numbered_on : (version : ℕ) (past : List TraceLine) (line : TraceLine) → AreFine version (line ∷ past) → AreNumbered past → AreNumbered (line ∷ past)
numbered_on version past (Class number name) f h =
    let g = follows past (Class number name) f.2 in
    class_line past number name (eqb-true number (classes past + 1) (and_parts (is_open past) (eqb number (classes past + 1)) g.ordered).1) h
numbered_on version past (Header v i) f h = other_line past (Header v i) refl (λ n. tt) refl h
numbered_on version past (Method number class name descriptor) f h = other_line past (Method number class name descriptor) refl (λ n. tt) refl h
numbered_on version past (Alloc event thread object class size len) f h = other_line past (Alloc event thread object class size len) refl (λ n. tt) refl h
numbered_on version past (Update event thread object slot old new) f h = other_line past (Update event thread object slot old new) refl (λ n. tt) refl h
numbered_on version past (Enter event thread method receiver) f h = other_line past (Enter event thread method receiver) refl (λ n. tt) refl h
numbered_on version past (Exit event thread method) f h = other_line past (Exit event thread method) refl (λ n. tt) refl h
numbered_on version past (Unwind event thread method exception) f h = other_line past (Unwind event thread method exception) refl (λ n. tt) refl h
numbered_on version past (Flush event deaths) f h = other_line past (Flush event deaths) refl (λ n. tt) refl h
numbered_on version past (Death object time) f h = other_line past (Death object time) refl (λ n. tt) refl h
numbered_on version past (Finish event how) f h = other_line past (Finish event how) refl (λ n. tt) refl h

pub are_numbered : (version : ℕ) (past : List TraceLine) → AreFine version past → AreNumbered past
are_numbered version [] f = record { numbered = tt; many = refl }
are_numbered version (line ∷ past) f = numbered_on version past line f (are_numbered version past f.0)

-- the name of the class with a number
next_name : (class n number : ℕ) (name : List ℕ) (lines : List TraceLine) → number ≡ n + 1 → n < class → class ≤ n + (length (fields lines) + 1)
    → ((n + 1 < class) → get_or (fields lines) (class - (n + 1) - 1) [] ≡ text_field (class_name lines class))
    → get_or (text_field name ∷ fields lines) (class - n - 1) [] ≡ text_field (cond (eqb number class) name (class_name lines class))
next_name class n number name lines is low high rest = elim (cases_eqb number class) [
  | inl e ↦
      let s = e.1 in
      let first : class - n - 1 ≡ 0 = omega (arith, s, is) in
      ap (λ (k : ℕ). get_or (text_field name ∷ fields lines) k []) first ∙ sym (ap (λ (b : Bool). text_field (cond b name (class_name lines class))) e.0)
  | inr d ↦
      let ne = d.1 in
      let more : n + 1 < class = omega (arith, is, low, ne) in
      let behind : class - n - 1 ≡ class - (n + 1) - 1 + 1 = omega (arith, more) in
      ap (λ (k : ℕ). get_or (text_field name ∷ fields lines) k []) behind ∙ (get_behind (text_field name) (fields lines) (class - (n + 1) - 1) ∙ (rest more ∙ sym (ap (λ (b : Bool). text_field (cond b name (class_name lines class))) d.0)))
]
  where
    get_behind : (x : List ℕ) (xs : List (List ℕ)) (k : ℕ) → get_or (x ∷ xs) (k + 1) [] ≡ get_or xs k []
    get_behind x xs k = (let e : k + 1 ≡ suc k = omega arith in ap (λ (m : ℕ). get_or (x ∷ xs) m []) e)

pub named : (n class : ℕ) (lines : List TraceLine) → Numbered n lines → n < class → class ≤ n + length (fields lines) → get_or (fields lines) (class - n - 1) [] ≡ text_field (class_name lines class)
named n class [] h low high = absurd (omega (arith, low, high))
named n class (Class number name ∷ lines) h low high =
    let top : class ≤ n + (length (fields lines) + 1) = omega (arith, high) in
    next_name class n number name lines h.0 low top (λ more. named (n + 1) class lines h.1 more (omega (arith, high)))
named n class (Header v i ∷ lines) h low high = named n class lines h low high
named n class (Method number of name descriptor ∷ lines) h low high = named n class lines h low high
named n class (Alloc event thread object of size len ∷ lines) h low high = named n class lines h low high
named n class (Update event thread object slot old new ∷ lines) h low high = named n class lines h low high
named n class (Enter event thread method receiver ∷ lines) h low high = named n class lines h low high
named n class (Exit event thread method ∷ lines) h low high = named n class lines h low high
named n class (Unwind event thread method exception ∷ lines) h low high = named n class lines h low high
named n class (Flush event deaths ∷ lines) h low high = named n class lines h low high
named n class (Death object time ∷ lines) h low high = named n class lines h low high
named n class (Finish event how ∷ lines) h low high = named n class lines h low high
