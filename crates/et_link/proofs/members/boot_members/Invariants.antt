use Rattle.std.proofs.Common.{◌≡◌, take}
use Rattle.et_program.specs.Files.{boots}
use Rattle.et_program.specs.MembersOf.{numbered, boot_methods, AreBootPools}
use Rattle.et_link.proofs.members.boot_members.Given as goal

abbrev pub invariant-classes : goal.invariant-classes
invariant-classes l = record {
  methods : l.methods.items ≡ numbered boot_methods 0 (take l.i boots);
  pools : AreBootPools (take l.i boots) l.pools.items;
}
