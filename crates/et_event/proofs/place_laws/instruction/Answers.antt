use Rattle.et_event.proofs.Instructions.{with_row, without_row, at_end}
use Rattle.et_event.proofs.place_laws.instruction.Goals as goal

pub returns : goal.returns
returns c = record { row = with_row; no_row = without_row; end = at_end }
