use Rattle.std.proofs.Common.{◌≡◌, map, None}
use Rattle.et_class.specs.Layout.{member_list}
use Rattle.et_class.specs.Fields.{field_marks, constant_of}
use Rattle.et_class.proofs.Keyed.{HasKeys}
use Rattle.et_class.proofs.Streamed.{SoFar}
use Rattle.et_class.proofs.members.fields_from.Given as goal

abbrev pub invariant-loop : goal.invariant-loop
invariant-loop l = record {
  so_far : SoFar (field_marks l.pool.slots l.interface) l.bytes l.fn.first l.count l.start l.found l.counter l.at l.fields.items;
  keyed : HasKeys l.pool.slots l.keys (member_list l.fields.items);
  constants : map (λ m. m.constant) l.fields.items ≡ map (constant_of l.pool.slots) (member_list l.fields.items);
  no_code : map (λ m. m.code) l.fields.items ≡ map (λ m. None) l.fields.items;
}
