use Rattle.std.proofs.Common.{ℕ, ◌+◌, ◌<◌, List, length, set, Option, Some, ap, ◌∙◌, arith}
use Rattle.et_flow.specs.Types.{TypesOf}
use Rattle.et_flow.specs.Slots.{shown}
use Rattle.et_flow.proofs.Slots.{long_shown, put_over}
use Rattle.et_flow.proofs.states.States.put.Goals as goal

pub returns : goal.returns
returns c =
    let found : List TypesOf = c.self.inside.found.items in
    let slots : List ℕ = c.self.inside.slots.items in
    let used : ℕ = c.self.inside.used in
    let more : List TypesOf = c.make_room.new.found.items in
    let ts : TypesOf = c.args.types.now in
    let place : ℕ = c.args.place in
    let inside : place < length slots = omega (arith, c.requires.inside, ap length c.self.view_is, long_shown found slots) in
    ap (λ (t : TypesOf). shown (set more used t) (set slots place (used + 1))) c.in_ok-copy_from.ensures
    ∙ (put_over more slots place used ts inside c.in_ok-make_room.ensures.room c.self.invariant.0
    ∙ (ap (λ (xs : List (Option TypesOf)). set xs place (Some ts)) (c.in_ok-make_room.ensures.kept slots c.self.invariant.0)
    ∙ ap (λ (xs : List (Option TypesOf)). set xs place (Some ts)) c.self.view_is))
