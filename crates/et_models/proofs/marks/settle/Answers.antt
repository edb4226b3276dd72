use Rattle.std.proofs.Common.{◌≡◌, ◌∙◌, ap, sym, subst, ℕ, ◌++◌, ◌∷◌, [], get_or, take, List}
use Rattle.std.proofs.lemmas.List.{take_more}
use Rattle.et_models.specs.declared.places.Place.{Place}
use Rattle.et_models.specs.Places.{place_at, with_place, place_settled, AreCollected}
use Rattle.et_models.proofs.Spots.{settle_more}
use Rattle.et_models.proofs.marks.settle.Goals as goal

pub loop-object-preserved : goal.loop-object-preserved
loop-object-preserved c =
    let objects = c.args.objects.now in
    let i = c.loop-object.object-index in
    let places = c.loop-object.places in
    let x = get_or objects i 0 in
    let is : c.settled-place.result ≡ place_settled (place_at places x) = c.settled-place.ensures ∙ ap place_settled c.place_at.ensures in
    let set : c.set_place.new.places ≡ with_place places x (place_settled (place_at places x)) = c.set_place.ensures ∙ ap (λ (p : Place). with_place places x p) is in
    let more = settle_more (take i objects) x c.args.places.now places c.loop-object.invariant in
    subst (λ (l : List ℕ). AreCollected l c.args.places.now c.set_place.new.places) (sym (take_more objects i 0 c.loop-object-test.true))
    (subst (λ (p : List Place). AreCollected (take i objects ++ x ∷ []) c.args.places.now p) (sym set) more)
