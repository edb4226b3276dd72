use Rattle.std.proofs.Common.{◌++◌, ◌∷◌, [], ◌∙◌, length, ap, sym, subst, arith, append_assoc}
use Rattle.std.specs.Prelude.{All}
use Rattle.std.proofs.lemmas.List.Elements.{All-tail}
use Rattle.std.specs.Vec.Iter.{into_iter_items}
use Rattle.et_top.specs.Told.{IsPrepared}
use Rattle.et_top.specs.Top.{policy_of}
use Rattle.et_top.proofs.ModelLemmas.{joins, passes_by}
use Rattle.et_top.proofs.models.choose.Goals as goal

pub models-preserved-in-Continue-branch-3 : goal.models-preserved-in-Continue-branch-3
models-preserved-in-Continue-branch-3 g c =
    let a = c.in-Some.ensures.steps in
    let left = c.models.invariant.left in
    let long = ap (λ t. length t) a.0 in
    let less = a.1 in
    record {
      zip = rw c.in_ok-push-in-Some-2.ensures.items (joins (λ b policy. (goal.HeapModel-dyn g (b.vtable, b.value)).stands_for b.value policy c.args.objects []) (λ b. (goal.HeapModel-dyn g (b.vtable, b.value)).kind_of b.value) (policy_of c.args.asked.now) c.models.yielded c.in-Some.model c.models.chosen.items c.in-Some-2.model c.models.invariant.zip (subst (λ o. IsPrepared (λ b policy. (goal.HeapModel-dyn g (b.vtable, b.value)).stands_for b.value policy c.args.objects []) (policy_of c.args.asked.now ((goal.HeapModel-dyn g (c.in-Some.model.vtable, c.in-Some.model.value)).kind_of c.in-Some.model.value)) o) c.in-Some-2.is c.in_ok-model.ensures));
      new = All-tail (λ b. (goal.HeapModel-dyn g (b.vtable, b.value)).is_new b.value) c.in-Some.model (into_iter_items c.next.new.self) (subst (All (λ b. (goal.HeapModel-dyn g (b.vtable, b.value)).is_new b.value)) a.0 c.models.invariant.new);
      rest = append_assoc c.models.yielded (c.in-Some.model ∷ []) (into_iter_items c.next.new.self) ∙ (ap (λ t. c.models.yielded ++ t) (sym a.0) ∙ c.models.invariant.rest);
      left = omega (arith, left, long, less);
    }

pub models-preserved : goal.models-preserved
models-preserved g c =
    let a = c.in-Some.ensures.steps in
    let left = c.models.invariant.left in
    let long = ap (λ t. length t) a.0 in
    let less = a.1 in
    record {
      zip = passes_by (λ b policy. (goal.HeapModel-dyn g (b.vtable, b.value)).stands_for b.value policy c.args.objects []) (λ b. (goal.HeapModel-dyn g (b.vtable, b.value)).kind_of b.value) (policy_of c.args.asked.now) c.models.yielded c.in-Some.model c.models.chosen.items c.models.invariant.zip (subst (λ o. IsPrepared (λ b policy. (goal.HeapModel-dyn g (b.vtable, b.value)).stands_for b.value policy c.args.objects []) (policy_of c.args.asked.now ((goal.HeapModel-dyn g (c.in-Some.model.vtable, c.in-Some.model.value)).kind_of c.in-Some.model.value)) o) c.in-None-2.is c.in_ok-model.ensures);
      new = All-tail (λ b. (goal.HeapModel-dyn g (b.vtable, b.value)).is_new b.value) c.in-Some.model (into_iter_items c.next.new.self) (subst (All (λ b. (goal.HeapModel-dyn g (b.vtable, b.value)).is_new b.value)) a.0 c.models.invariant.new);
      rest = append_assoc c.models.yielded (c.in-Some.model ∷ []) (into_iter_items c.next.new.self) ∙ (ap (λ t. c.models.yielded ++ t) (sym a.0) ∙ c.models.invariant.rest);
      left = omega (arith, left, long, less);
    }
