use Rattle.std.proofs.Common.{◌∙◌, sym}
use Rattle.et_link.proofs.CrossLemmas.{found_within, hides_found}
use Rattle.et_link.proofs.members.crossing.hides.Goals as goal

pub bounds-methods-number : goal.bounds-methods-number
bounds-methods-number c = found_within c.args.methods.now _ _ c.args.class c.in-Some.other c.number.result c.in-Some.ensures c.number.ensures.value

pub returns-in-Some : goal.returns-in-Some
returns-in-Some c =
    hides_found c.args.set.now c.args.methods.now c.args.method.now c.args.class _ _ c.in-Some.other c.number.result c.index-methods-number.result _ c.as_slice-name.ensures c.as_slice-descriptor.ensures c.in-Some.ensures c.number.ensures.value c.index-methods-number.is c.is_package_private.ensures
    (sym c.is_same_package.ensures ∙ c.if-is_same_package.false)
