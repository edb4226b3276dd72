-- The handlers so far, and those of the rows still to be looked at.
use Rattle.std.proofs.Common.{◌≡◌, ◌++◌, drop, map}
use Rattle.std.specs.Prelude.{filter}
use Rattle.et_code.specs.declared.body.TableRow.{TableRow}
use Rattle.et_verify.specs.Leads.{covers}
use Rattle.et_verify.proofs.leads.find_handlers.Given as goal

abbrev pub invariant-loop-row : goal.invariant-loop-row
invariant-loop-row l =
    l.lead.handlers.items ++ map (λ (x : TableRow). x.handler) (filter (covers l.pc) (drop l.row-index l.rows))
    ≡ map (λ (x : TableRow). x.handler) (filter (covers l.pc) l.rows)
