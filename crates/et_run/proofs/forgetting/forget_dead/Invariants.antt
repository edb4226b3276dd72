use Rattle.std.proofs.Common.{◌≡◌, take}
use Rattle.et_state.specs.Texts.{texts_left}
use Rattle.et_run.proofs.Forgotten.{unlisted}
use Rattle.et_run.proofs.forgetting.forget_dead.Given as goal

abbrev pub invariant-deaths : goal.invariant-deaths
invariant-deaths l = l.texts ≡ texts_left (unlisted (take l.death-index l.deaths)) l.fn.texts
