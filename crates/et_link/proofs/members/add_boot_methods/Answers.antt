use Rattle.std.proofs.Common.{arith}
use Rattle.et_link.proofs.BuiltInLemmas.{method_at}
use Rattle.et_link.proofs.members.add_boot_methods.Goals as goal

pub method_of_boot-requires : goal.method_of_boot-requires
method_of_boot-requires c = method_at c.args.tags.now c.args.boot.methods.now c.loop-method.method-index _ (omega arith) c.requires
