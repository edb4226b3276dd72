-- The static slots hold values of the types of their fields, also once classes became done.
use Rattle.std.proofs.Common.{◌≡◌, ℕ, ◌<◌, true, List, [], ◌∷◌, length, set, Option, Some, None, refl, sym, ◌∙◌, ap, subst, inl, inr, get_or-set_same}
use Rattle.std.specs.Prelude.{All, fold}
use Rattle.std.specs.List.{slice_index_or}
use Rattle.std.proofs.lemmas.Bool.{cases_eq}
use Rattle.std.proofs.lemmas.List.{length-set, get_or-set_other}
use Rattle.std.proofs.lemmas.List.Elements.{All-head, All-tail}
use Rattle.et_base.specs.declared.value.Value.{Value}
use Rattle.et_base.specs.declared.value.Value.TheVariants.{Unset, Int, Long, Ref}
use Rattle.et_event.specs.Operands.{operand_kind}
use Rattle.et_event.specs.PoolOperands.Operand.{Operand}
use Rattle.et_program.specs.Entries.{Linked, class_at, field_at}
use Rattle.et_state.specs.declared.class_state.ClassState.{ClassState}
use Rattle.et_state.specs.declared.class_state.ClassState.TheVariants.{Untouched, Begun, Done, Failed}
use Rattle.et_state.specs.State.{Kept}
use Rattle.et_event.specs.Initialization.{state_of, with_state, constant_set, field_set, class_done, quietly_done}
use Rattle.et_event.specs.Kinds.{narrowed}
use Rattle.et_event.specs.Moments.{Moment, Doing, static_written}
use Rattle.et_event.specs.Programs.{HasConstant, HasInitializers, value_like}
use Rattle.et_event.specs.Sites.{LoadedConstant, AnInt, ALong, AString, constant_at, pool_of_class}
use Rattle.et_event.specs.Sound.{is_of_kind, IsSoundFor}
use Rattle.et_event.specs.Strings.{interned, string_object}
use Rattle.et_event.proofs.Values.{narrowed_kind, any_reference}
use Rattle.et_initialize.proofs.Legal.{same_statics}
use Rattle.et_initialize.proofs.Setting.{written_state}

-- the operand kind of a static field
abbrev pub kind_of_static : Linked → ℕ → Option Operand
kind_of_static p i = operand_kind (field_at p (slice_index_or p.statics i 0)).descriptor

pub record AreStatics (p : Linked) (values : List Value) : Type 0 where
  pub slots : length values ≡ length p.statics
  pub typed : (i : ℕ) → i < length p.statics → is_of_kind (kind_of_static p i) (slice_index_or values i Unset) ≡ true

pub sound_statics : (p : Linked) (s : Kept) → IsSoundFor p s → AreStatics p s.guest.statics
sound_statics p s sound = record { slots = sound.statics.0; typed = λ i lt. (sound.statics.1 i lt).value }

-- CONSTANTS are set

with_value : (p : Linked) (c f : ℕ) (v : Value) (values : List Value) → HasConstant p c f → is_of_kind (operand_kind (field_at p f).descriptor) v ≡ true → AreStatics p values → AreStatics p (set values (field_at p f).slot v)
with_value p c f v values has kind are =
    let i : ℕ = (field_at p f).slot in
    let inside : i < length values = subst (λ (n : ℕ). i < n) (sym are.slots) has.slot in
    let own : is_of_kind (kind_of_static p i) v ≡ true = subst (λ (k : ℕ). is_of_kind (operand_kind (field_at p k).descriptor) v ≡ true) (sym has.place) kind in
    record {
      slots = length-set values i v ∙ are.slots;
      typed = λ j lt. elim (cases_eq j i) [
        | inl e ↦ subst (λ (k : ℕ). is_of_kind (kind_of_static p k) (slice_index_or (set values i v) k Unset) ≡ true) (sym e) (ap (λ (w : Value). is_of_kind (kind_of_static p i) w) (get_or-set_same values i v Unset inside) ∙ own)
        | inr ne ↦ ap (λ (w : Value). is_of_kind (kind_of_static p j) w) (get_or-set_other values i j v Unset ne) ∙ are.typed j lt
      ];
    }

abbrev pub Are : Moment → Doing → Type 0
Are e d = AreStatics e.program d.state.guest.statics

written : (e : Moment) (c f : ℕ) (v : Value) (d : Doing) → HasConstant e.program c f → is_of_kind (operand_kind (field_at e.program f).descriptor) v ≡ true → Are e d → Are e (static_written e (field_at e.program f).slot v d)
written e c f v d has kind are =
    subst (λ (s : Kept). AreStatics e.program s.guest.statics) (sym (written_state e (field_at e.program f).slot v d)) (with_value e.program c f v d.state.guest.statics has kind are)

one_set : (e : Moment) (c f : ℕ) (k : Option LoadedConstant) (d : Doing) → HasConstant e.program c f → ((x : LoadedConstant) → k ≡ Some x → is_of_kind (operand_kind (field_at e.program f).descriptor) (value_like x) ≡ true) → Are e d → Are e (constant_set e (field_at e.program f) k d)
one_set e c f None d has typed are = are
one_set e c f (Some (AnInt n)) d has typed are =
    let type : List ℕ = (field_at e.program f).descriptor in
    written e c f (narrowed type (Int n)) d has (narrowed_kind (operand_kind type) type (Int n) (typed (AnInt n) refl)) are
one_set e c f (Some (ALong n)) d has typed are = written e c f (Long n) d has (typed (ALong n) refl) are
one_set e c f (Some (AString bytes)) d has typed are =
    let x : Doing = interned e bytes d in
    written e c f (Ref (string_object bytes x)) x has (any_reference (operand_kind (field_at e.program f).descriptor) (string_object bytes x) (typed (AString bytes) refl))
    (subst (λ (values : List Value). AreStatics e.program values) (sym (same_statics e bytes d)) are)

all_set : (e : Moment) (c : ℕ) (fs : List ℕ) (d : Doing) → All (HasConstant e.program c) fs → Are e d → Are e (fold (field_set e) d fs)
all_set e c [] d all are = are
all_set e c (f ∷ fs) d all are =
    let has : HasConstant e.program c f = All-head (HasConstant e.program c) f fs all in
    all_set e c fs (field_set e d f) (All-tail (HasConstant e.program c) f fs all) (one_set e c f (constant_at (pool_of_class e.program (field_at e.program f).class) (field_at e.program f).constant) d has has.typed are)

-- CLASSES become done

one_done : (e : Moment) (c : ℕ) (st : ClassState) (d : Doing) → HasInitializers e.program → c < length e.program.classes → Are e d → Are e (class_done e c st d)
one_done e c Untouched d initializers lt are = all_set e c (class_at e.program c).info.constants (with_state c Done d) (initializers.constants c lt) are
one_done e c (Begun t) d initializers lt are = are
one_done e c Done d initializers lt are = are
one_done e c Failed d initializers lt are = are

all_done : (e : Moment) (cs : List ℕ) (d : Doing) → HasInitializers e.program → All (λ k. k < length e.program.classes) cs → Are e d → Are e (fold (λ x k. class_done e k (state_of x k) x) d cs)
all_done e [] d initializers all are = are
all_done e (c ∷ cs) d initializers all are =
    all_done e cs (class_done e c (state_of d c) d) initializers (All-tail (λ k. k < length e.program.classes) c cs all)
    (one_done e c (state_of d c) d initializers (All-head (λ k. k < length e.program.classes) c cs all) are)

pub quietly_typed : (e : Moment) (c : ℕ) (d : Doing) → HasInitializers e.program → Are e d → Are e (quietly_done e c d)
quietly_typed e c d initializers are = all_done e (class_at e.program c).init_order d initializers (initializers.orders c) are
