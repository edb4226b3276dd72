use Rattle.et_event.specs.Start.{start_records}
use Rattle.et_history.specs.Histories.{whole_picked}
use Rattle.et_history.specs.Whole.{whole_start}
use Rattle.et_history.proofs.Ends.{has_one_end}
use Rattle.et_history.proofs.run_laws.each_history_ends.Goals as goal

pub returns : goal.returns
returns c reached p options pick = has_one_end reached (whole_picked p options pick) (whole_start p) (start_records p)
