use Rattle.std.proofs.Common.{◌+◌, Bool, refl, sym, ap, subst, ◌∙◌, arith}
use Rattle.std.proofs.lemmas.List.{map_push}
use Rattle.std.proofs.lemmas.Result.{err_from_is_err_and}
use Rattle.et_base.specs.Marks.{first_from}
use Rattle.et_class.specs.declared.member.Member.{Member}
use Rattle.et_class.specs.Layout.{member_of, member_list}
use Rattle.et_class.specs.Methods.{method_marks, method_marks_if}
use Rattle.et_class.specs.Kept.{kept_code}
use Rattle.et_class.proofs.Spelt.{member_reads}
use Rattle.et_class.proofs.Keyed.{HasKeys, keys_start, keys_more, new_is}
use Rattle.et_class.proofs.Streamed.{SoFar, so_far_start, so_far_more, so_far_err, so_far_done, same_push, same_push'}
use Rattle.et_class.proofs.members.methods_from.Goals as goal

pub loop-init : goal.loop-init
loop-init c = record {
  so_far = subst (λ ms. SoFar (method_marks c.args.pool.now.slots) c.args.bytes.now c.args.first c.args.count c.args.start c.args.first 0 c.args.start ms) (sym c.new-methods.ensures.items) (so_far_start (method_marks c.args.pool.now.slots) c.args.bytes.now c.args.first c.args.count c.args.start);
  keyed = subst (λ ms. HasKeys c.args.pool.now.slots c.new-keys.result (member_list ms)) (sym c.new-methods.ensures.items) (keys_start c.args.pool.now.slots c.new-keys.result c.new-keys.ensures.empty);
  codes = rw c.new-methods.ensures.items refl;
  no_constants = rw c.new-methods.ensures.items refl;
}

pub returns-in_err-method : goal.returns-in_err-method
returns-in_err-method c =
    let p = err_from_is_err_and c.from_residual.result c.from_residual.ensures.1 in
    rw (p.1, p.2) (so_far_err (method_marks c.args.pool.now.slots) c.args.bytes.now c.args.first c.args.count c.args.start c.in_err-method.field-0.0 c.loop.found c.loop.counter c.loop.at c.loop.methods.items c.loop.invariant.so_far c.loop-test.true c.in_err-method.ensures.items)

pub check_method-requires-clause-room : goal.check_method-requires-clause-room
check_method-requires-clause-room c =
    let r = member_reads c.args.bytes.now (λ i. (c.type_inv.bytes i).fits) c.loop.at (member_of c.in_ok-method.method) c.in_ok-method.after c.in_ok-method.ensures.items in
    omega (arith, r.next_is, c.in_ok-method.ensures.room)

pub loop-preserved : goal.loop-preserved
loop-preserved c =
    let m : Member = record { access_flags = c.in_ok-method.method.access_flags; name_index = c.in_ok-method.method.name_index; descriptor_index = c.in_ok-method.method.descriptor_index; attributes = c.in_ok-method.method.attributes; constant = c.in_ok-method.method.constant; code = c.in_ok-next.code } in
    let new = new_is c.args.pool.now.slots c.loop.keys (member_list c.loop.methods.items) (member_of c.in_ok-method.method) c.in_ok-new.new c.loop.invariant.keyed c.in_ok-new.ensures.added in
    record {
      so_far = subst (λ ms. SoFar (method_marks c.args.pool.now.slots) c.args.bytes.now c.args.first c.args.count c.args.start c.in_ok-next.next (c.loop.counter + 1) c.in_ok-method.after ms) (sym c.in_ok-push.ensures.items)
          (so_far_more (method_marks c.args.pool.now.slots) c.args.bytes.now c.args.first c.args.count c.args.start (λ i. (c.type_inv.bytes i).fits) c.loop.found c.in_ok-next.next c.loop.counter c.loop.at c.loop.methods.items m c.in_ok-method.after c.loop.invariant.so_far c.loop-test.true c.in_ok-method.ensures.items
          (c.in_ok-next.ensures.0 ∙ ap (λ (b : Bool). first_from c.loop.found (method_marks_if c.args.pool.now.slots b c.loop.at (member_of c.in_ok-method.method))) new));
      keyed = subst (λ ms. HasKeys c.args.pool.now.slots c.add_member.new.keys ms) (sym (ap member_list c.in_ok-push.ensures.items ∙ map_push member_of c.loop.methods.items m))
          (keys_more c.args.pool.now.slots c.loop.keys c.add_member.new.keys (member_list c.loop.methods.items) (member_of m) c.loop.invariant.keyed c.in_ok-new.ensures.keeps);
      codes = rw c.in_ok-push.ensures.items (same_push (λ (f : Member). f.code) (kept_code c.args.pool.now.slots) member_of c.loop.methods.items m c.loop.invariant.codes c.in_ok-next.ensures.1);
      no_constants = rw c.in_ok-push.ensures.items (same_push' (λ (f : Member). f.constant) (λ (f : Member). 0) c.loop.methods.items m c.loop.invariant.no_constants c.in_ok-method.ensures.rest.0);
    }

pub returns : goal.returns
returns c = record {
  read = so_far_done (method_marks c.args.pool.now.slots) c.args.bytes.now c.args.first c.args.count c.args.start c.loop.found c.loop.counter c.loop.at c.loop.methods.items c.loop.invariant.so_far c.loop-test.false;
  found_is = c.loop.invariant.so_far.found_is;
  codes = c.loop.invariant.codes;
  no_constants = c.loop.invariant.no_constants;
}
