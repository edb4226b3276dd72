use Rattle.et_top.proofs.EndLemmas.{process_ends}
use Rattle.et_top.proofs.process.run_process.Goals as goal

pub returns-clause-process : goal.returns-clause-process
returns-clause-process g c =
    process_ends g.F.Files g.O.Sink c.args.files.now c.run_elephant-status.new.files c.args.out.now c.run_elephant-status.new.out c.hand_on_whole.new.out c.run_elephant-status.result c.hand_on_whole.result c.hand_on_whole.ensures.ends c.args.words c.hand_on_whole.ensures.taken c.hand_on_whole.ensures.refused c.run_elephant-status.ensures
