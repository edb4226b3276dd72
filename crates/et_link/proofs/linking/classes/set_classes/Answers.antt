use Rattle.std.proofs.Common.{◌∙◌, ◌++◌, ◌∷◌, [], ℕ, ap, sym, take, arith}
use Rattle.et_hierarchy.specs.Outline.{Outline}
use Rattle.et_program.specs.Entries.{ClassEntry}
use Rattle.et_program.specs.MembersOf.{numbered}
use Rattle.et_program.specs.Classes.{set_class}
use Rattle.et_link.specs.Known.{heads_in}
use Rattle.et_link.proofs.Lists.{numbered_more}
use Rattle.et_link.proofs.linking.classes.set_classes.Goals as goal

pub loop-k-preserved : goal.loop-k-preserved
loop-k-preserved c =
    let f = λ (k : ℕ) (x : Outline). set_class (heads_in c.args.known.now) k x ∷ [] in
    c.in_ok-push.ensures.items
    ∙ (ap (λ l. l ++ c.in_ok-class.class ∷ []) c.loop-k.invariant
    ∙ (ap (λ (x : ClassEntry). numbered f 0 (take c.loop-k.k c.args.set.now) ++ x ∷ []) c.in_ok-class.ensures
    ∙ sym (numbered_more f 0 c.args.set.now c.loop-k.k c.index-set-k.result c.index-set-k.result c.loop-k.k (omega arith) c.index-set-k.is (omega arith))))
