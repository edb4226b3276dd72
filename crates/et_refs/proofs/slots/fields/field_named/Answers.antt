use Rattle.std.proofs.Common.{◌≡◌, Option, Ok, Err, refl, sym, ap, ◌∙◌, rules}
use Rattle.et_event.specs.Heap.{with_field}
use Rattle.et_program.specs.Entries.{field_at}
use Rattle.et_program.specs.Referring.{Member, field_of_member, member_described, pool_of_class}
use Rattle.et_refs.specs.declared.slots.fields.NamedField.{NamedField}
use Rattle.et_refs.proofs.Referred.{IsFieldFound, field_goes, field_same, field_there, field_typed, found_field, named_by, no_field, site_described, some_field}
use Rattle.et_refs.proofs.slots.fields.field_named.Goals as goal

pub returns-then-not-is_field_at_index-clause-is : goal.returns-then-not-is_field_at_index-clause-is
returns-then-not-is_field_at_index-clause-is c =
    let p = c.args.program.now in
    λ e at go pool is.
    ap (λ (o : Option Member). with_field e o go) (site_described p c.args.class c.args.index at pool is)
    ∙ no_field e (member_described (pool_of_class p c.args.class) c.args.index) go (sym c.is_field_at_index.ensures ∙ c.if-not-is_field_at_index.true)

-- THE FIELD is found

module _ (c : goal.After-as_slice) where
  abbrev of_field : NamedField
  of_field = record { descriptor = c.as_slice.result; answer = Ok c.in-Some-Ok.field }

  found : IsFieldFound c.args.program.now (member_described (pool_of_class c.args.program.now c.args.class) c.args.index) (Ok c.in-Some-Ok.field)
  found = found_field c.args.program.now _ (Ok c.in-Some-Ok.field) (sym c.is_field_at_index.ensures ∙ c.if-not-is_field_at_index.false) (rw c.in-Some-Ok.field-0-is at c.in-Some-Ok.ensures.value)

  described : c.as_slice.result.now ≡ found.member.descriptor
  described =
      let bytes : c.as_slice.result.now ≡ (field_at c.args.program.now c.in-Some-Ok.field).descriptor = search rules in
      bytes ∙ field_same c.args.program.now found.member (Ok c.in-Some-Ok.field) (Ok c.in-Some-Ok.field) found.answered refl

pub returns-in-Some-Ok-clause-is : goal.returns-in-Some-Ok-clause-is
returns-in-Some-Ok-clause-is c = field_goes c.args.program.now c.args.class c.args.index (of_field c) (found c) (described c)

pub returns-in-Some-Ok-clause-field : goal.returns-in-Some-Ok-clause-field
returns-in-Some-Ok-clause-field c = field_typed c.args.program.now c.args.class c.args.index (of_field c) (found c) (described c)

pub returns-in-Some-Ok-clause-named : goal.returns-in-Some-Ok-clause-named
returns-in-Some-Ok-clause-named c = named_by c.args.program.now c.args.class c.args.index (of_field c) (found c) (described c) (rw c.in-Some-Ok.field-0-is at c.in-Some-Ok.ensures.within)

-- ITS RESOLUTION is an error

pub descriptor_named-requires-clause-member : goal.descriptor_named-requires-clause-member
descriptor_named-requires-clause-member c = some_field _ (sym c.is_field_at_index.ensures ∙ c.if-not-is_field_at_index.false)

module _ (c : goal.After-descriptor_named) where
  abbrev of_error : NamedField
  of_error = record { descriptor = c.descriptor_named.result; answer = Err c.in-Some-Err.error }

  found_error : IsFieldFound c.args.program.now (member_described (pool_of_class c.args.program.now c.args.class) c.args.index) (Err c.in-Some-Err.error)
  found_error = found_field c.args.program.now _ (Err c.in-Some-Err.error) (sym c.is_field_at_index.ensures ∙ c.if-not-is_field_at_index.false) (rw c.in-Some-Err.field-0-is at c.in-Some-Err.ensures.value)

  described_error : c.descriptor_named.result.now ≡ found_error.member.descriptor
  described_error = c.descriptor_named.ensures found_error.member found_error.there

pub returns-in-Some-Err-clause-is : goal.returns-in-Some-Err-clause-is
returns-in-Some-Err-clause-is c = field_goes c.args.program.now c.args.class c.args.index (of_error c) (found_error c) (described_error c)

pub returns-in-Some-Err-clause-field : goal.returns-in-Some-Err-clause-field
returns-in-Some-Err-clause-field c = field_typed c.args.program.now c.args.class c.args.index (of_error c) (found_error c) (described_error c)

pub returns-in-Some-Err-clause-named : goal.returns-in-Some-Err-clause-named
returns-in-Some-Err-clause-named c = named_by c.args.program.now c.args.class c.args.index (of_error c) (found_error c) (described_error c) tt

pub unreachable-requires : goal.unreachable-requires
unreachable-requires c =
    field_there (field_of_member c.args.program.now) (member_described (pool_of_class c.args.program.now c.args.class) c.args.index) (sym c.is_field_at_index.ensures ∙ c.if-not-is_field_at_index.false) c.in-None.ensures.value
