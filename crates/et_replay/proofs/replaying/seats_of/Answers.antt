use Rattle.std.proofs.Common.{◌≡◌, ◌++◌, ◌∷◌, [], ◌∙◌, length, ap, sym, arith, append_assoc}
use Rattle.std.proofs.lemmas.List.{append-nil}
use Rattle.std.specs.Vec.Iter.{into_iter_items}
use Rattle.et_base.proofs.Lists.{none_long}
use Rattle.et_replay.proofs.Seating.{zip_push}
use Rattle.et_replay.proofs.replaying.seats_of.Goals as goal

pub loop-model-preserved : goal.loop-model-preserved
loop-model-preserved g c =
    let a = c.in-Some.ensures.steps in
    let left = c.loop-model.invariant.left in
    let long = ap (λ t. length t) a.0 in
    let less = a.1 in
    record {
      sit = rw c.in_ok-push.ensures.items (zip_push _ _ _ _ _ (c.seat_of.ensures.model, c.seat_of.ensures.report) c.loop-model.invariant.sit);
      rest = append_assoc c.loop-model.yielded (c.in-Some.model ∷ []) (into_iter_items c.next.new.self) ∙ (ap (λ t. c.loop-model.yielded ++ t) (sym a.0) ∙ c.loop-model.invariant.rest);
      left = omega (arith, left, long, less);
    }

pub returns : goal.returns
returns g c =
    let a = c.in-None.ensures.steps in
    let left = c.loop-model.invariant.left in
    let empty = none_long (into_iter_items c.loop-model.model-iterator) (sym left ∙ a.0) in
    let all : c.loop-model.yielded ≡ c.args.models.items = sym (append-nil c.loop-model.yielded) ∙ (ap (λ t. c.loop-model.yielded ++ t) (sym empty) ∙ c.loop-model.invariant.rest) in
    rw (← all) c.loop-model.invariant.sit
