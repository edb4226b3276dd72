use Rattle.et_hierarchy.specs.Sorting.{IsAmong}
use Rattle.et_hierarchy.proofs.Rounds.{IsMaking}
use Rattle.et_hierarchy.proofs.tables.ancestries.Given as goal

abbrev pub invariant-loop-class : goal.invariant-loop-class
invariant-loop-class l = IsMaking l.table l.rows.items (IsAmong l.order l.class-index)
