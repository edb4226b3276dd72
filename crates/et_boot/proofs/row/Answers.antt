use Rattle.et_boot.specs.Classes.{no_boot_class}
use Rattle.et_boot.specs.Shown.{shown}
use Rattle.et_boot.proofs.Places.{index_map}
use Rattle.et_boot.proofs.row.Goals as goal

pub returns : goal.returns
returns c = index_map shown c.args.rows.now c.args.i _ no_boot_class c.requires
