use Rattle.et_history.proofs.soundness.Resolving.{resolved_method, selected_method, selected_special}
use Rattle.et_history.proofs.sound_laws.methods_keep_descriptors.Goals as goal

pub returns-clause-resolved : goal.returns-clause-resolved
returns-clause-resolved c = resolved_method

pub returns-clause-selected : goal.returns-clause-selected
returns-clause-selected c = selected_method

pub returns-clause-special : goal.returns-clause-special
returns-clause-special c = selected_special
