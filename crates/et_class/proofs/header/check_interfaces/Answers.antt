use Rattle.std.proofs.Common.{ℕ, List, get_or, ap, ◌∙◌, Bool, [], ◌∷◌}
use Rattle.std.proofs.lemmas.List.{get_or_default, map-id}
use Rattle.et_base.specs.Marks.{first_from, mark}
use Rattle.et_class.specs.declared.fault.TheConstants.{POOL}
use Rattle.et_class.specs.Along.{along}
use Rattle.et_class.specs.Layout.{u2}
use Rattle.et_class.specs.Rules.{interface_marks}
use Rattle.et_class.proofs.Along.{looked_more, looked_end}
use Rattle.et_class.proofs.header.check_interfaces.Goals as goal

pub interfaces-preserved : goal.interfaces-preserved
unfolding first_from
interfaces-preserved c =
    looked_more (λ n. n) u2 (interface_marks c.args.pool.now.slots) c.args.first c.interfaces.found c.mark-found.result c.args.interfaces.now c.args.start c.interfaces.index-index c.interfaces.place (get_or c.args.interfaces.now c.interfaces.index-index 0)
    c.interfaces.invariant c.interfaces-test.true (get_or_default c.args.interfaces.now c.interfaces.index-index 0 (get_or c.args.interfaces.now c.interfaces.index-index 0) c.interfaces-test.true)
    (c.mark-found.ensures ∙ ap (λ (b : Bool). first_from c.interfaces.found (mark c.interfaces.place POOL b ∷ [])) c.names_plain_class.ensures)

pub returns : goal.returns
returns c =
    looked_end (λ n. n) u2 (interface_marks c.args.pool.now.slots) c.args.first c.interfaces.found c.args.interfaces.now c.args.start c.interfaces.index-index c.interfaces.place c.interfaces.invariant c.interfaces-test.false
    ∙ ap (λ (xs : List ℕ). first_from c.args.first (along u2 (interface_marks c.args.pool.now.slots) [] c.args.start xs)) (map-id c.args.interfaces.now)
