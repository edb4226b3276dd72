use Rattle.std.proofs.Common.{◌≡◌, ◌+◌, ◌<◌, ◌==◌, false, Some, length, set, sym, subst, rules}
use Rattle.std.specs.List.{list_any}
use Rattle.et_loop.specs.Naming.{AreNumbersOf}
use Rattle.et_loop.proofs.Tables.{numbers_more}
use Rattle.et_loop.proofs.mentioned.Mentioned.add.Goals as goal

-- the table has the new number at its place
pub invariant_of-self-2 : goal.invariant_of-self-2
invariant_of-self-2 c =
    let seen = c.self.inside.order.items in
    let grown = c.make_places.new.numbers.items in
    let new : list_any (λ y. c.args.id == y) seen ≡ false = rw c.self.view_is c.requires in
    let next : c.in_ok-number.number ≡ length seen + 1 = search rules in
    let within : c.args.id < length grown = search rules in
    subst (λ order. AreNumbersOf order (set grown c.args.id (Some c.in_ok-number.number))) (sym c.in_ok-push.ensures.items)
    (numbers_more seen c.self.inside.numbers.items grown c.args.id c.in_ok-number.number c.self.invariant c.in_ok-make_places.ensures.kept within new next)
