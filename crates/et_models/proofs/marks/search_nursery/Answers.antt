use Rattle.std.proofs.Common.{◌≡◌, ◌∙◌, ◌++◌, ℕ, List, filter, sym, subst, ap}
use Rattle.std.proofs.lemmas.List.Elements.{filter-append}
use Rattle.et_models.specs.Places.{place_at, is_old}
use Rattle.et_models.specs.Marking.{MarksFrom, IsSeed}
use Rattle.et_models.proofs.Going.{going_first, going_last}
use Rattle.et_models.proofs.marks.search_nursery.Goals as goal

pub returns : goal.returns
returns c = λ g space b.
    (let nursery = c.args.nursery.now in
    let remembered = c.args.remembered.now in
    let early = c.args.early.now in
    let dead = c.args.dead.now in
    let slots = c.args.slots.now in
    let start = c.args.places.now in
    let test = λ (o : ℕ). is_old (place_at start o) in
    let all : c.push_old-2.new.list.items ≡ filter test (remembered ++ early) =
    c.in_ok-push_old-2.ensures
    ∙ (ap (λ (w : List ℕ). w ++ filter test early) (c.in_ok-push_old.ensures ∙ ap (λ (w : List ℕ). w ++ filter test remembered) c.clear.ensures.items)
    ∙ sym (filter-append test remembered early)) in
    let s = c.in_ok-seed.ensures in
    let m : MarksFrom (IsSeed nursery dead) start (filter test (remembered ++ early)) c.seed.new.places c.seed.new.work.items = subst (λ (w : List ℕ). MarksFrom (IsSeed nursery dead) start w c.seed.new.places c.seed.new.work.items) all s.0 in
    let first = going_first g nursery space (remembered ++ early) dead slots start c.seed.new.places c.seed.new.work.items b m s.1 in
    going_last g nursery space (remembered ++ early) dead slots start c.follow.new.places b (c.in_ok-follow.ensures g space start b.draws first))
