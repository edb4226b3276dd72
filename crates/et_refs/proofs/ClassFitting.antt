-- What holds of an access to a static field.
use Rattle.std.proofs.Common.{◌≡◌, ℕ, ◌+◌, ◌<◌, ◌≤◌, true, List, length, Option, sym, ◌∙◌, ap, subst, arith, Contains}
use Rattle.std.specs.Prelude.{slice_index_or}
use Rattle.et_base.specs.declared.value.Value.{Value}
use Rattle.et_pool.specs.Descriptors.{width_of}
use Rattle.et_heap.specs.Refs.{refs_of_value}
use Rattle.et_state.specs.Threads.{FrameState}
use Rattle.et_program.specs.declared.info.FieldInfo.{FieldInfo}
use Rattle.et_program.specs.Entries.{Linked, field_at}
use Rattle.et_event.specs.PoolOperands.Operand.{Operand}
use Rattle.et_event.specs.Checks.{entries_of}
use Rattle.et_event.specs.Kinds.{or_zero, narrowed}
use Rattle.et_event.specs.Operands.{operand_kind}
use Rattle.et_event.specs.Sound.{is_of_kind}
use Rattle.et_event.specs.Tops.{IsIn}
use Rattle.et_refs.proofs.Reading.{kept_refers}
use Rattle.et_event.specs.Programs.{HasSlots}
use Rattle.et_event.proofs.Values.{read_width}
use Rattle.et_refs.specs.declared.doing.accesses.Access.TheVariants as access
use Rattle.et_refs.specs.Accesses.{MayWant}
use Rattle.et_refs.specs.NamedFields.{IsFieldOf}

pub may_read : (p : Linked) (f : FrameState) (type : List ℕ) (field width : ℕ) (info : FieldInfo) (kind : Option Operand) → HasSlots p → IsFieldOf p true type field → width ≡ width_of type
    → width + length f.operands ≤ f.room → info ≡ field_at p field → kind ≡ operand_kind type → MayWant p f (record { class = info.class; access = access.Read (record { slot = info.slot; kind = kind }) })
may_read p f type field width info kind slots is wide fit named shown =
    let at = slots.statics field is.within is.flag in
    let slot : info.slot ≡ (field_at p field).slot = ap (λ (x : FieldInfo). x.slot) named in
    let there : slice_index_or p.statics info.slot 0 ≡ field = ap (λ (i : ℕ). slice_index_or p.statics i 0) slot ∙ at.1 in
    record {
      class = subst (λ (x : FieldInfo). x.class < length p.classes) (sym named) (slots.owners field is.within);
      access = record {
        slot = subst (λ (i : ℕ). i < length p.statics) (sym slot) at.0;
        kind = shown ∙ (ap operand_kind (sym is.descriptor) ∙ ap (λ (i : ℕ). operand_kind (field_at p i).descriptor) (sym there));
        room = λ v typed.
            let few : length (entries_of (or_zero (operand_kind type) v)) ≤ width_of type = read_width type v (ap (λ (k : Option Operand). is_of_kind k v) (sym shown) ∙ typed) in
            let same : length (entries_of (or_zero kind v)) ≡ length (entries_of (or_zero (operand_kind type) v)) = ap (λ (k : Option Operand). length (entries_of (or_zero k v))) shown in
            omega (arith, few, same, wide, fit);
      };
    }

pub may_write : (p : Linked) (f : FrameState) (type : List ℕ) (field width : ℕ) (v kept : Value) (info : FieldInfo) → HasSlots p → IsFieldOf p true type field → width ≤ length f.operands → width ≤ 2
    → IsIn f v → kept ≡ narrowed type v → info ≡ field_at p field → MayWant p f (record { class = info.class; access = access.Write (record { slot = info.slot; taken = width; value = kept }) })
may_write p f type field width v kept info slots is deep few inside keeps named =
    let at = slots.statics field is.within is.flag in
    let slot : info.slot ≡ (field_at p field).slot = ap (λ (x : FieldInfo). x.slot) named in
    record {
      class = subst (λ (x : FieldInfo). x.class < length p.classes) (sym named) (slots.owners field is.within);
      access = record {
        slot = subst (λ (i : ℕ). i < length p.statics) (sym slot) at.0;
        taken = deep;
        few = few;
        value = λ o c. inside o (kept_refers type v o (subst (λ (w : Value). Contains (refs_of_value w) o) keeps c));
      };
    }
