use Rattle.et_convert.proofs.Converting.{conversion_spells, conversion_again, short_names}
use Rattle.et_convert.proofs.laws.conversions_are_traces.Goals as goal

pub returns-clause-other : goal.returns-clause-other
returns-clause-other c = conversion_spells

pub returns-clause-again : goal.returns-clause-again
returns-clause-again c = conversion_again

pub returns-clause-short : goal.returns-clause-short
returns-clause-short c = short_names
