use Rattle.std.proofs.Common.{◌∙◌, sym}
use Rattle.et_program.specs.Linking.{IsLinked}
use Rattle.et_program.specs.Tables.{IsTabled}
use Rattle.et_theorems.specs.Runs.{Run, IsTraced, picks_of}
use Rattle.et_theorems.proofs.Defined.{is_linked, options_are}
use Rattle.et_theorems.proofs.Tabled.{tabled_of}
use Rattle.et_theorems.proofs.theorems.programs_are_linked.Goals as goal

linked : (r : Run) → IsTraced r → IsLinked r.program
linked r is = is_linked r.kinds r.words r.held r.program r.options is.defined is.bytes

tabled : (r : Run) → IsTraced r → IsTabled r.program
tabled r is = let l = linked r is in tabled_of l.classes r.program l.some l.of_files l.linkable l.program is.few

pub returns-clause-tabled : goal.returns-clause-tabled
returns-clause-tabled c = tabled

pub returns-clause-linked : goal.returns-clause-linked
returns-clause-linked c = linked

pub returns-clause-options : goal.returns-clause-options
returns-clause-options c r is = options_are r.kinds r.words r.held r.program r.options is.defined

pub returns-clause-one_end : goal.returns-clause-one_end
returns-clause-one_end c r last end is ends =
    let one = c.each_history_ends.ensures r.reached r.program r.options (picks_of r) in
    let mine = one.only r.last r.end is.ends in
    let other = one.only last end ends in
    (other.0 ∙ sym mine.0, other.1 ∙ sym mine.1)

pub returns-clause-ended : goal.returns-clause-ended
returns-clause-ended c r is = record {
  decides = is.decides;
  program = c.snapshots_show_states.ensures.linked r.program (tabled r is) (linked r is);
  options_are = options_are r.kinds r.words r.held r.program r.options is.defined;
  last_is = is.ends;
}

pub returns-clause-traceable : goal.returns-clause-traceable
returns-clause-traceable c r is = (c.traces_are_good.ensures.linked r.program (tabled r is) (linked r is)).1
