use Rattle.std.proofs.Common.{ℕ, Option, sym, subst, rules}
use Rattle.std.proofs.lemmas.List.Sorted.{answers_always}
use Rattle.et_snapshot.proofs.Entries.{IsPlace, search_finds}
use Rattle.et_snapshot.proofs.objects.place_of.Goals as goal

pub returns : goal.returns
returns c =
    let facts = c.binary_search_by_key.ensures in
    let by_key = facts.position (λ entry. entry.object) (answers_always _ _ _ (λ f a r g called. search rules)) in
    let place = search_finds c.requires.0 c.args.entries.now c.requires.1 c.args.object c.binary_search_by_key.result facts.bound by_key in
    let told = subst (λ (o : Option ℕ). IsPlace c.requires.0 c.args.entries.now c.requires.1 c.args.object o) (sym c.ok.ensures.value) place in
    record { within = told.within; found = told.found; absent = told.absent }
