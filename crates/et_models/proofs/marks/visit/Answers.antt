use Rattle.std.proofs.Common.{◌≡◌, ◌≢◌, ℕ, subst, sym, refl}
use Rattle.std.specs.Prelude.{IfSome}
use Rattle.std.specs.List.{All}
use Rattle.std.specs.Map.Iter.{deref_pair}
use Rattle.std.specs.BTreeMap.{is_at}
use Rattle.std.specs.Ordering.{nat_cmp}
use Rattle.std.specs.Cmp.{nat_cmp_total}
use Rattle.std.proofs.lemmas.List.Elements.{All-map, All-push}
use Rattle.std.proofs.lemmas.Map.Entries.{All-lookup}
use Rattle.std.proofs.lemmas.Map.Iter.{btree_map_turn, iter_end}
use Rattle.et_models.specs.declared.places.Place.TheVariants.{Nursery}
use Rattle.et_models.specs.Places.{place_at}
use Rattle.et_models.specs.Marking.{Refers}
use Rattle.et_models.proofs.Marking.{marks_then, not_back}
use Rattle.et_models.proofs.marks.visit.Goals as goal

pub loop-slot-preserved : goal.loop-slot-preserved
loop-slot-preserved c =
    let slots = c.args.slots.now in
    let gives = c.into_iter-slot-iterator.ensures.into_iter_gives in
    let turn = btree_map_turn deref_pair c.loop-slot.yielded c.into_iter-slot-iterator.result c.loop-slot._slot-iterator c.next.new.self c.next.result (c.in-Some._slot, c.in-Some.target) c.loop-slot.yielded_by c.in-Some.is c.next.ensures.steps nat_cmp_total slots gives.0 gives.5 in
    let one : Refers slots c.in-Some.target.now = (c.in-Some._slot.now, turn.1) in
    let m = c.in_ok-mark.ensures.0 in
    record {
      marks = marks_then (Refers slots) (λ o. o ≡ c.in-Some.target.now) _ _ _ _ _ _ (λ o e. subst (λ (k : ℕ). Refers slots k) (sym e) one) c.loop-slot.invariant.marks m;
      done = All-push (λ p. place_at c.mark.new.places p.1.now ≢ Nursery) c.loop-slot.yielded (c.in-Some._slot, c.in-Some.target)
          (λ k d lt. not_back _ _ _ _ _ _ m (c.loop-slot.invariant.done k d lt)) (c.in_ok-mark.ensures.1 c.in-Some.target.now refl);
    }

pub returns : goal.returns
returns c =
    let slots = c.args.slots.now in
    let gives = c.into_iter-slot-iterator.ensures.into_iter_gives in
    let end = iter_end deref_pair slots.entries c.loop-slot.yielded c.into_iter-slot-iterator.result c.loop-slot._slot-iterator c.next.new.self c.next.result gives.0 c.loop-slot.yielded_by c.in-None.is c.next.ensures.steps in
    let P = λ (o : ℕ). place_at c.loop-slot.places o ≢ Nursery in
    let all : All (λ e. P e.1) slots.entries = subst (λ es. All (λ e. P e.1) es) end.0 (All-map (λ e. P e.1) deref_pair c.loop-slot.yielded c.loop-slot.invariant.done) in
    (c.loop-slot.invariant.marks, λ o r. subst (λ v. IfSome v P) r.1 (All-lookup P (is_at (nat_cmp r.0)) slots.entries all))
