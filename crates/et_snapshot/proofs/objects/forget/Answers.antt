use Rattle.std.proofs.Common.{◌≢◌, get_or, None, refl, sym}
use Rattle.std.proofs.Math.Seq.{map-set_same}
use Rattle.std.proofs.lemmas.List.Elements.{recursion_from_All}
use Rattle.et_snapshot.specs.declared.objects.Entry.{Entry}
use Rattle.et_snapshot.proofs.Entries.{absent_forgotten, forgotten_at}
use Rattle.et_snapshot.proofs.objects.forget.Goals as goal

pub returns-in-Some-clause-kept : goal.returns-in-Some-clause-kept
returns-in-Some-clause-kept c =
    let place = c.in-Some.place in
    forgotten_at c.requires.0 0 c.args.object c.args.entries.now place (record { object = (get_or c.args.entries.now place c.index-entries-place.result).object; seen = None }) c.requires.1 c.in-Some.ensures.within c.in-Some.ensures.found refl

pub returns-in-Some-clause-numbers : goal.returns-in-Some-clause-numbers
returns-in-Some-clause-numbers c = map-set_same (λ (e : Entry). e.object) c.args.entries.now c.in-Some.place _ c.index-entries-place.result refl

pub returns-in_default-clause-kept : goal.returns-in_default-clause-kept
returns-in_default-clause-kept c = sym (absent_forgotten c.args.object c.args.entries.now (recursion_from_All (λ (e : Entry). e.object ≢ c.args.object) c.args.entries.now c.in_default.ensures.absent))
