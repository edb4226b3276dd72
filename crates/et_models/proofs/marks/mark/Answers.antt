use Rattle.std.proofs.Common.{◌≡◌, ◌∙◌, ap, sym}
use Rattle.et_models.specs.declared.places.Place.TheVariants.{Nursery}
use Rattle.et_models.specs.Places.{place_at}
use Rattle.et_models.proofs.Marking.{marks_none, marks_one, marked_one}
use Rattle.et_models.proofs.marks.mark.Goals as goal

pub returns-in_default : goal.returns-in_default
returns-in_default c = (marks_none _ _ _, λ o q e. c.in_default.not-Nursery (c.place_at.ensures ∙ (ap (λ k. place_at c.args.places.now k) (sym q) ∙ e)))

pub returns : goal.returns
returns c =
    let was : place_at c.args.places.now c.args.object ≡ Nursery = sym c.place_at.ensures ∙ c.in-Nursery.is in
    rw (c.set_place.ensures, c.in_ok-push.ensures.items) (marks_one c.args.places.now c.args.work.now.items c.args.object was, marked_one c.args.places.now c.args.object was)
