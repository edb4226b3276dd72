-- Values that fields and elements may hold.
use Rattle.std.proofs.Common.{◌≡◌, ℕ, ◌==◌, true, Option, Some, refl, sym, ◌∙◌, ap, subst, inl, inr}
use mathlib.Core.Logic.{⊎_elim}
use Rattle.std.proofs.lemmas.Bool.{eqb-true, or_cases, false≢true}
use Rattle.et_base.specs.declared.value.Value.{Value}
use Rattle.et_base.specs.declared.value.Value.TheVariants.{Int}
use Rattle.et_program.specs.Entries.{Linked, class_at, field_at}
use Rattle.et_program.specs.declared.info.Element.{Element}
use Rattle.et_program.specs.declared.info.Element.TheVariants.{NoArray, Base, Class}
use Rattle.et_event.specs.declared.rows.Elements.{Elements}
use Rattle.et_event.specs.declared.rows.Elements.TheVariants as elements
use Rattle.et_event.specs.PoolOperands.Operand.{Operand}
use Rattle.et_event.specs.Kinds.{kind_of_elements, are_elements, is_array_element, kept_element}
use Rattle.et_event.specs.Operands.{operand_kind}
use Rattle.et_event.specs.Sound.{is_of_kind, kind_of_base, kind_of_element}
use Rattle.et_event.specs.Programs.{HasInstanceField, HasSlots, MayHold}

-- FIELDS

pub field_holds : (p : Linked) (c f : ℕ) (v : Value) → HasSlots p → HasInstanceField p c f → is_of_kind (operand_kind (field_at p f).descriptor) v ≡ true → MayHold p c (field_at p f).slot v
field_holds p c f v slots has kind = record {
  fields = λ g lt static below e.
      let same : g ≡ f = slots.own c g f (record { within = lt; instance = static; below = below }) has e in
      subst (λ (k : ℕ). is_of_kind (operand_kind (field_at p k).descriptor) v ≡ true) (sym same) kind;
  elements = inr (slots.bare c f has);
}

-- ELEMENTS

base_is : (k n : ℕ) → (k == n) ≡ true → kind_of_base k ≡ kind_of_base n
base_is k n e = ap (λ (i : ℕ). kind_of_base i) (eqb-true k n e)

-- the elements of an array of a kind are of that kind
pub element_kind : (kind : Elements) (e : Element) → are_elements kind e ≡ true → kind_of_element e ≡ Some (kind_of_elements kind)
element_kind elements.Int NoArray h = absurd (false≢true h)
element_kind elements.Int (Base k) h = base_is k 10 h
element_kind elements.Int (Class c) h = absurd (false≢true h)
element_kind elements.Long NoArray h = absurd (false≢true h)
element_kind elements.Long (Base k) h = base_is k 11 h
element_kind elements.Long (Class c) h = absurd (false≢true h)
element_kind elements.Reference NoArray h = absurd (false≢true h)
element_kind elements.Reference (Base k) h = absurd (false≢true h)
element_kind elements.Reference (Class c) h = refl
element_kind elements.Byte NoArray h = absurd (false≢true h)
element_kind elements.Byte (Base k) h = ⊎_elim (λ e. base_is k 4 e) (λ e. base_is k 8 e) (or_cases (k == 4) (k == 8) h)
element_kind elements.Byte (Class c) h = absurd (false≢true h)
element_kind elements.Char NoArray h = absurd (false≢true h)
element_kind elements.Char (Base k) h = base_is k 5 h
element_kind elements.Char (Class c) h = absurd (false≢true h)
element_kind elements.Short NoArray h = absurd (false≢true h)
element_kind elements.Short (Base k) h = base_is k 9 h
element_kind elements.Short (Class c) h = absurd (false≢true h)

pub elements_are_array : (kind : Elements) (e : Element) → are_elements kind e ≡ true → is_array_element e ≡ true
elements_are_array elements.Int NoArray h = h
elements_are_array elements.Long NoArray h = h
elements_are_array elements.Reference NoArray h = h
elements_are_array elements.Byte NoArray h = h
elements_are_array elements.Char NoArray h = h
elements_are_array elements.Short NoArray h = h
elements_are_array kind (Base k) h = refl
elements_are_array kind (Class c) h = refl

-- what an element keeps of a value is of the same kind
kept_kind : (kind : Elements) (v : Value) → is_of_kind (Some (kind_of_elements kind)) v ≡ true → is_of_kind (Some (kind_of_elements kind)) (kept_element kind v) ≡ true
kept_kind elements.Byte (Int n) h = refl
kept_kind elements.Char (Int n) h = refl
kept_kind elements.Short (Int n) h = refl
kept_kind other v h = h

not_bare : (e : Element) → is_array_element e ≡ true → e ≡ NoArray → ⊥
not_bare e h none = false≢true (sym (ap (λ (x : Element). is_array_element x) none) ∙ h)

pub array_holds : (p : Linked) (c i : ℕ) (v : Value) → HasSlots p → is_array_element (class_at p c).info.element ≡ true → is_of_kind (kind_of_element (class_at p c).info.element) v ≡ true → MayHold p c i v
array_holds p c i v slots array kind = record {
  fields = λ g lt static below e. absurd (not_bare (class_at p c).info.element array (slots.bare c g (record { within = lt; instance = static; below = below })));
  elements = inl kind;
}

pub element_holds : (p : Linked) (kind : Elements) (c i : ℕ) (v : Value) → HasSlots p → are_elements kind (class_at p c).info.element ≡ true → is_of_kind (Some (kind_of_elements kind)) v ≡ true → MayHold p c i (kept_element kind v)
element_holds p kind c i v slots are h =
    array_holds p c i (kept_element kind v) slots (elements_are_array kind (class_at p c).info.element are)
    (ap (λ (k : Option Operand). is_of_kind k (kept_element kind v)) (element_kind kind (class_at p c).info.element are) ∙ kept_kind kind v h)
