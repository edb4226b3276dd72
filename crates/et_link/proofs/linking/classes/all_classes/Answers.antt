use Rattle.std.proofs.Common.{◌≡◌, ◌∙◌, ◌+◌, ◌++◌, ◌∷◌, [], ℕ, List, ap, length, get_or, arith}
use Rattle.et_hierarchy.specs.Outline.{Outline}
use Rattle.et_program.specs.Entries.{ClassEntry}
use Rattle.et_program.specs.MembersOf.{numbered}
use Rattle.et_program.specs.Classes.{set_class, array_class}
use Rattle.et_link.specs.Known.{heads_in}
use Rattle.et_link.proofs.Lists.{numbered_more, pieces}
use Rattle.et_link.proofs.linking.classes.all_classes.Goals as goal

pub loop-i-preserved : goal.loop-i-preserved
loop-i-preserved c =
    let g = λ (k : ℕ) (x : List ℕ). array_class (heads_in c.args.known.now) k x ∷ [] in
    let n : c.in_ok-id.id ≡ length c.args.set.now + c.loop-i.i = omega (arith, c.in_ok-id.ensures, c.in-Some.ensures) in
    pieces (numbered (λ (k : ℕ) (x : Outline). set_class (heads_in c.args.known.now) k x ∷ []) 0 c.args.set.now) _ _ _ c.loop-i.list.items _
    (c.in_ok-push.ensures.items ∙ (ap (λ (x : ClassEntry). c.loop-i.list.items ++ x ∷ []) c.in_ok-class.ensures ∙ ap (λ (x : List ℕ). c.loop-i.list.items ++ g c.in_ok-id.id x) c.as_slice.ensures))
    c.loop-i.invariant
    (numbered_more g (length c.args.set.now) c.args.known.now.arrays.names.items c.loop-i.i c.name-item.result c.name-item.result c.in_ok-id.id (omega arith) (c.name-item.is ∙ ap (λ (xs : List (List ℕ)). get_or xs c.loop-i.i c.name-item.result) c.deref-name-items.ensures.value) n)
