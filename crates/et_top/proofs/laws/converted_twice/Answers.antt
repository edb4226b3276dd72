use Rattle.et_top.proofs.ConvertLemmas.{twice}
use Rattle.et_top.proofs.laws.converted_twice.Goals as goal

pub returns : goal.returns
returns c = twice c.conversions_are_traces.ensures.other c.conversions_are_traces.ensures.again c.conversions_are_traces.ensures.short
