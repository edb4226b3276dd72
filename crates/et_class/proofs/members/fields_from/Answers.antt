use Rattle.std.proofs.Common.{◌+◌, Bool, None, refl, sym, ap, subst, ◌∙◌, arith}
use Rattle.std.proofs.lemmas.List.{map_push}
use Rattle.std.proofs.lemmas.Result.{err_from_is_err_and}
use Rattle.et_base.specs.Marks.{first_from}
use Rattle.et_class.specs.declared.member.Member.{Member}
use Rattle.et_class.specs.Layout.{member_of, member_list}
use Rattle.et_class.specs.Fields.{field_marks, field_marks_if, constant_of}
use Rattle.et_class.proofs.Spelt.{member_reads}
use Rattle.et_class.proofs.Keyed.{HasKeys, keys_start, keys_more, new_is}
use Rattle.et_class.proofs.Streamed.{SoFar, so_far_start, so_far_more, so_far_err, so_far_done, same_push, same_push'}
use Rattle.et_class.proofs.members.fields_from.Goals as goal

pub loop-init : goal.loop-init
loop-init c = record {
  so_far = subst (λ ms. SoFar (field_marks c.args.pool.now.slots c.args.interface) c.args.bytes.now c.args.first c.args.count c.args.start c.args.first 0 c.args.start ms) (sym c.new-fields.ensures.items) (so_far_start (field_marks c.args.pool.now.slots c.args.interface) c.args.bytes.now c.args.first c.args.count c.args.start);
  keyed = subst (λ ms. HasKeys c.args.pool.now.slots c.new-keys.result (member_list ms)) (sym c.new-fields.ensures.items) (keys_start c.args.pool.now.slots c.new-keys.result c.new-keys.ensures.empty);
  constants = rw c.new-fields.ensures.items refl;
  no_code = rw c.new-fields.ensures.items refl;
}

pub returns-in_err-field : goal.returns-in_err-field
returns-in_err-field c =
    let p = err_from_is_err_and c.from_residual.result c.from_residual.ensures.1 in
    rw (p.1, p.2) (so_far_err (field_marks c.args.pool.now.slots c.args.interface) c.args.bytes.now c.args.first c.args.count c.args.start c.in_err-field.field-0.0 c.loop.found c.loop.counter c.loop.at c.loop.fields.items c.loop.invariant.so_far c.loop-test.true c.in_err-field.ensures.items)

pub check_field-found-requires : goal.check_field-found-requires
check_field-found-requires c =
    let r = member_reads c.args.bytes.now (λ i. (c.type_inv.bytes i).fits) c.loop.at (member_of c.in_ok-field.field) c.in_ok-field.after c.in_ok-field.ensures.items in
    omega (arith, r.next_is, c.in_ok-field.ensures.room)

pub loop-preserved : goal.loop-preserved
loop-preserved c =
    let m : Member = record { access_flags = c.in_ok-field.field.access_flags; name_index = c.in_ok-field.field.name_index; descriptor_index = c.in_ok-field.field.descriptor_index; attributes = c.in_ok-field.field.attributes; constant = c.constant_index.result; code = c.in_ok-field.field.code } in
    let new = new_is c.args.pool.now.slots c.loop.keys (member_list c.loop.fields.items) (member_of c.in_ok-field.field) c.in_ok-new.new c.loop.invariant.keyed c.in_ok-new.ensures.added in
    record {
      so_far = subst (λ ms. SoFar (field_marks c.args.pool.now.slots c.args.interface) c.args.bytes.now c.args.first c.args.count c.args.start c.check_field-found.result (c.loop.counter + 1) c.in_ok-field.after ms) (sym c.in_ok-push.ensures.items)
          (so_far_more (field_marks c.args.pool.now.slots c.args.interface) c.args.bytes.now c.args.first c.args.count c.args.start (λ i. (c.type_inv.bytes i).fits) c.loop.found c.check_field-found.result c.loop.counter c.loop.at c.loop.fields.items m c.in_ok-field.after c.loop.invariant.so_far c.loop-test.true c.in_ok-field.ensures.items
          (c.check_field-found.ensures ∙ ap (λ (b : Bool). first_from c.loop.found (field_marks_if c.args.pool.now.slots c.args.interface b c.loop.at (member_of c.in_ok-field.field))) new));
      keyed = subst (λ ms. HasKeys c.args.pool.now.slots c.add_member.new.keys ms) (sym (ap member_list c.in_ok-push.ensures.items ∙ map_push member_of c.loop.fields.items m))
          (keys_more c.args.pool.now.slots c.loop.keys c.add_member.new.keys (member_list c.loop.fields.items) (member_of m) c.loop.invariant.keyed c.in_ok-new.ensures.keeps);
      constants = rw c.in_ok-push.ensures.items (same_push (λ (f : Member). f.constant) (constant_of c.args.pool.now.slots) member_of c.loop.fields.items m c.loop.invariant.constants c.constant_index.ensures);
      no_code = rw c.in_ok-push.ensures.items (same_push' (λ (f : Member). f.code) (λ (f : Member). None) c.loop.fields.items m c.loop.invariant.no_code c.in_ok-field.ensures.rest.1);
    }

pub returns : goal.returns
returns c = record {
  read = so_far_done (field_marks c.args.pool.now.slots c.args.interface) c.args.bytes.now c.args.first c.args.count c.args.start c.loop.found c.loop.counter c.loop.at c.loop.fields.items c.loop.invariant.so_far c.loop-test.false;
  found_is = c.loop.invariant.so_far.found_is;
  constants = c.loop.invariant.constants;
  no_code = c.loop.invariant.no_code;
}
