use Rattle.std.proofs.Common.{refl}
use Rattle.et_state.specs.Options.{pick_of}
use Rattle.et_theorems.specs.Runs.{Run}
use Rattle.et_theorems.proofs.theorems.premises_are_met.Goals as goal

pub returns : goal.returns
returns c kinds words held p options defined bytes few =
    let test = c.reaching_is_decided.ensures in
    let end = c.each_history_ends.ensures test.0 p options (pick_of options.schedule) in
    let r : Run = record { words = words; held = held; kinds = kinds; program = p; options = options; reached = test.0; last = end.event; end = end.end } in
    (r, record { defined = defined; bytes = bytes; few = few; decides = test.1; ends = end.last }, refl, refl, refl, refl, refl)
