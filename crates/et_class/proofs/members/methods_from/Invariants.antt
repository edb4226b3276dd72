use Rattle.std.proofs.Common.{◌≡◌, map}
use Rattle.et_class.specs.Layout.{member_list}
use Rattle.et_class.specs.Methods.{method_marks}
use Rattle.et_class.specs.Kept.{kept_code}
use Rattle.et_class.proofs.Keyed.{HasKeys}
use Rattle.et_class.proofs.Streamed.{SoFar}
use Rattle.et_class.proofs.members.methods_from.Given as goal

abbrev pub invariant-loop : goal.invariant-loop
invariant-loop l = record {
  so_far : SoFar (method_marks l.pool.slots) l.bytes l.fn.first l.count l.start l.found l.counter l.at l.methods.items;
  keyed : HasKeys l.pool.slots l.keys (member_list l.methods.items);
  codes : map (λ m. m.code) l.methods.items ≡ map (kept_code l.pool.slots) (member_list l.methods.items);
  no_constants : map (λ m. m.constant) l.methods.items ≡ map (λ m. 0) l.methods.items;
}
