use Rattle.std.proofs.Common.{◌≢◌, sym}
use Rattle.std.proofs.Math.Seq.{map-set_same}
use Rattle.std.proofs.lemmas.List.Elements.{recursion_from_All}
use Rattle.et_snapshot.specs.declared.objects.Entry.{Entry}
use Rattle.et_snapshot.proofs.Entries.{absent_written, written_at}
use Rattle.et_snapshot.proofs.objects.write.Goals as goal

pub returns-in_ok-write-clause-kept : goal.returns-in_ok-write-clause-kept
returns-in_ok-write-clause-kept c =
    written_at c.requires.0 0 c.args.object c.args.slot c.args.new c.args.entries.now c.in-Some.place c.write.new.self c.requires.1 c.in-Some.ensures.within c.in-Some.ensures.found c.index-entries-place.result c.in_ok-write.ensures.kept

pub returns-in_ok-write-clause-numbers : goal.returns-in_ok-write-clause-numbers
returns-in_ok-write-clause-numbers c = map-set_same (λ (e : Entry). e.object) c.args.entries.now c.in-Some.place c.write.new.self c.index-entries-place.result c.in_ok-write.ensures.number

pub returns-in_default-clause-kept : goal.returns-in_default-clause-kept
returns-in_default-clause-kept c = sym (absent_written c.args.object c.args.slot c.args.new c.args.entries.now (recursion_from_All (λ (e : Entry). e.object ≢ c.args.object) c.args.entries.now c.in_default.ensures.absent))
