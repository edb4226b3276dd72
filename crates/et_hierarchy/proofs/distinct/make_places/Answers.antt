use Rattle.std.proofs.Common.{◌+◌, arith}
use Rattle.et_hierarchy.proofs.DistinctLemmas.{places_made}
use Rattle.et_hierarchy.proofs.distinct.make_places.Goals as goal

pub returns-clause-kept : goal.returns-clause-kept
returns-clause-kept c = places_made c.args.marks.now.items c.resize.new.self.items (c.args.class + 1) _ (omega (arith, c.args.marks.now.ok.0, c.len.ensures, c.if-places-len.false)) c.in_ok-resize.ensures.items
