-- Names that the order does not tell apart are one.
use Rattle.std.proofs.Common.{◌≡◌, Bool, ◌&&◌, refl, ap, ◌∙◌}
use Rattle.std.specs.Ordering.{nat_cmp, is_eq, ordering_then}
use Rattle.std.specs.Cmp.{unsigned_tied}
use Rattle.std.proofs.lemmas.Map.Text.{is_eq-slice_cmp}
use Rattle.et_base.proofs.Tests.{eq_then}
use Rattle.et_text.specs.NameSets.{MethodKey, name_order, method_order, same_method}

pub method_tied : (x y : MethodKey) → is_eq (method_order x y) ≡ same_method x y
method_tied x y =
    let classes = nat_cmp x.0 y.0 in
    let names = name_order x.1 y.1 in
    let descriptors = name_order x.2 y.2 in
    eq_then (ordering_then classes names) descriptors
    ∙ (ap (λ (b : Bool). b && is_eq descriptors) (eq_then classes names)
    ∙ rw (unsigned_tied x.0 y.0, is_eq-slice_cmp x.1.items y.1.items, is_eq-slice_cmp x.2.items y.2.items) refl)
