use Rattle.std.proofs.Common.{◌≡◌, ℕ, Bool, [], get_or, ◌∙◌, ap, sym, arith}
use Rattle.std.proofs.lemmas.List.{get_or_default}
use Rattle.et_hierarchy.specs.Initialization.{init_order}
use Rattle.et_link.specs.Known.{heads_in}
use Rattle.et_link.proofs.linking.classes.order_of.Goals as goal

pub returns-then-not-is_interface : goal.returns-then-not-is_interface
returns-then-not-is_interface c =
    let number : c.number.result ≡ c.args.class = c.number.ensures.value in
    c.in_ok-shared.ensures
    ∙ (c.index.ensures
    ∙ (get_or_default c.args.known.now.orders.items c.number.result c.index.result.now [] (omega (arith, number, c.requires.sized.orders, c.requires.class))
    ∙ (ap (λ (k : ℕ). get_or c.args.known.now.orders.items k []) number
    ∙ (c.requires.sized.order c.args.class c.requires.class
    ∙ ap (λ (b : Bool). init_order b (heads_in c.args.known.now).needs c.args.known.now.table.items c.args.known.now.rows.items c.args.class) (sym c.if-not-is_interface.true)))))
