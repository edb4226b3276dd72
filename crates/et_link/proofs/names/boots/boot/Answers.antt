use Rattle.et_program.specs.Files.{boots}
use Rattle.et_link.proofs.names.boots.boot.Goals as goal

pub boot_class-requires : goal.boot_class-requires
unfolding boots
boot_class-requires c = c.requires

pub returns : goal.returns
unfolding boots
returns c = c.boot_class.ensures
