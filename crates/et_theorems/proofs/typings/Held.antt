-- What is read of an array is of its kind, and arrays that are made change no thread.
use Rattle.std.proofs.Common.{◌≡◌, ℕ, true, List, [], ◌∷◌, length, Option, Some, None, refl, sym, ◌∙◌, subst, inl, inr, suc, zero}
use Rattle.std.proofs.lemmas.Bool.{cases_lt}
use Rattle.std.proofs.lemmas.List.{get_or_past}
use Rattle.et_base.specs.declared.value.Value.{Value}
use Rattle.et_base.specs.declared.value.Value.TheVariants.{Ref, Unset}
use Rattle.et_class.specs.PoolOperands.Operand.{Operand}
use Rattle.et_event.specs.Heap.{arrays_made, element_class, filled}
use Rattle.et_event.specs.Kinds.{are_elements, kind_of_elements}
use Rattle.et_event.specs.Moments.{Doing, Moment, array_made, next_object}
use Rattle.et_event.specs.Sound.{IsSoundFor, IsSoundObject, is_of_kind}
use Rattle.et_event.specs.declared.rows.Elements.{Elements}
use Rattle.et_heap.specs.Objects.{ObjectState, at, found, object_at, slot_of}
use Rattle.et_program.specs.Entries.{Linked, class_at}
use Rattle.et_program.specs.declared.info.Element.{Element}
use Rattle.et_history.proofs.soundness.Values.{element_kind}
use Rattle.et_state.specs.State.{Kept}
use Rattle.et_theorems.proofs.typings.Own.{slot_threads}
use Rattle.et_history.proofs.steps.Rows.{no_elements}

element_in : (p : Linked) (kind : Elements) (i : ℕ) (x : Option ObjectState) → ((y : ObjectState) → x ≡ Some y → IsSoundObject p y) → are_elements kind (class_at p (found x).class).info.element ≡ true → is_of_kind (Some (kind_of_elements kind)) (slot_of (found x) i) ≡ true
element_in p kind i None sound are = refl
element_in p kind i (Some y) sound are = elim (cases_lt i (length y.slots)) [
  | inl lt ↦ elim (sound y refl).elements [
    | inl all ↦ subst (λ (k : Option Operand). is_of_kind k (slot_of y i) ≡ true) (element_kind kind (class_at p y.class).info.element are) (all i Unset lt)
    | inr none ↦ absurd (no_elements kind (subst (λ (x : Element). are_elements kind x ≡ true) none are))
  ]
  | inr past ↦ subst (λ (v : Value). is_of_kind (Some (kind_of_elements kind)) v ≡ true) (sym (get_or_past y.slots i Unset past)) refl
]

pub element_read : (p : Linked) (s : Kept) (kind : Elements) (o i : ℕ) → IsSoundFor p s → are_elements kind (class_at p (object_at s.heap o).class).info.element ≡ true → is_of_kind (Some (kind_of_elements kind)) (slot_of (object_at s.heap o) i) ≡ true
element_read p s kind o i sound are = element_in p kind i (at s.heap o) (λ y is. (sound.objects o y is).0) are

-- ARRAYS

filled_threads : (e : Moment) (o : ℕ) (make : Doing → Doing) (n : ℕ) (d : Doing) → ((x : Doing) → (make x).state.guest.threads ≡ x.state.guest.threads) → (filled e o make n d).state.guest.threads ≡ d.state.guest.threads
filled_threads e o make zero d step = refl
filled_threads e o make (suc i) d step =
    let x : Doing = filled e o make i d in
    slot_threads e o i (Ref (next_object x)) (make x) ∙ (step x ∙ filled_threads e o make i d step)

pub arrays_threads : (e : Moment) (class : ℕ) (ns : List ℕ) (d : Doing) → (arrays_made e class ns d).state.guest.threads ≡ d.state.guest.threads
arrays_threads e class [] d = refl
arrays_threads e class (n ∷ []) d = refl
arrays_threads e class (n ∷ m ∷ more) d =
    let inner : ℕ = element_class (class_at e.program class).info.element in
    filled_threads e (next_object d) (arrays_made e inner (m ∷ more)) n (array_made e class n d) (λ x. arrays_threads e inner (m ∷ more) x)
