use Rattle.std.proofs.Common.{Option, unwrap_or, ap, ◌∙◌}
use Rattle.et_program.specs.Referring.{Member}
use Rattle.et_refs.specs.NamedFields.{no_member}
use Rattle.et_refs.proofs.Referred.{not_there}
use Rattle.et_refs.proofs.slots.fields.descriptor_named.Goals as goal

pub returns : goal.returns
returns c = λ m is. ap (λ (o : Option Member). (unwrap_or o no_member).descriptor) (c.in-Some.ensures ∙ is)

pub unreachable-requires : goal.unreachable-requires
unreachable-requires c = not_there _ c.in-None.ensures c.requires.member
