use Rattle.et_link.proofs.BuiltInLemmas.{each_keeps}
use Rattle.et_link.proofs.laws.built_in_code_keeps_rules.Goals as goal

pub returns : goal.returns
returns c = each_keeps
