use Rattle.et_top.proofs.OneThing.{one_thing}
use Rattle.et_top.proofs.laws.one_thing_is_defined.Goals as goal

pub returns : goal.returns
returns c =
    one_thing c.exactly_one.ensures c.exactly_one-2.ensures c.spelling_answers_exist.ensures c.spelled_traces_have_no_fault.ensures c.spelled_lists_differ.ensures c.spelling_faults_are_one.ensures
    c.answers_exist.ensures c.answers_are_one.ensures
