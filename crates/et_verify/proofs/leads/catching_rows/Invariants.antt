-- The rows so far, and those of the rows still to be looked at.
use Rattle.std.proofs.Common.{◌≡◌, ◌++◌, drop}
use Rattle.std.specs.Prelude.{filter}
use Rattle.std.specs.Option.{option_copied}
use Rattle.et_event.specs.Pools.{pool_slots}
use Rattle.et_verify.specs.Leads.{may_catch}
use Rattle.et_verify.proofs.leads.catching_rows.Given as goal

abbrev pub invariant-loop-row : goal.invariant-loop-row
invariant-loop-row l =
    l.rows.items ++ filter (may_catch l.program (pool_slots (option_copied l.pool))) (drop l.row-index l.table)
    ≡ filter (may_catch l.program (pool_slots (option_copied l.pool))) l.table
