use Rattle.et_snapshot.proofs.Bytes.{class_bytes_are}
use Rattle.et_snapshot.proofs.Telling.{made_is_live}
use Rattle.et_snapshot.proofs.laws.bytes_are_live.Goals as goal

pub returns-clause-objects : goal.returns-clause-objects
returns-clause-objects c lines e = made_is_live lines e

pub returns-clause-classes : goal.returns-clause-classes
returns-clause-classes c lines e good = class_bytes_are good.version lines e good.good.fine
