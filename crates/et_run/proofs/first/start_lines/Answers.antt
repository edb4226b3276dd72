use Rattle.std.proofs.Common.{rules, arith, sym, subst, List}
use Rattle.std.specs.Prelude.{All}
use Rattle.std.proofs.lemmas.Grind.{common_steps}
use Rattle.et_state.specs.declared.records.Record.{Record}
use Rattle.et_state.specs.Naming.{IsNamed}
use Rattle.et_history.proofs.programs.Starting.{records_named}
use Rattle.et_run.proofs.first.start_lines.Goals as goal

pub returns-clause-records : goal.returns-clause-records
returns-clause-records c = first_of (search rules, grind (arith, common_steps))

pub returns-clause-named : goal.returns-clause-named
returns-clause-named c = λ names files same is. subst (λ (out : List Record). All (IsNamed names) out) (sym (returns-clause-records c)) (records_named names files c.args.program.now same is)
