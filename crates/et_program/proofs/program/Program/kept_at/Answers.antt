use Rattle.std.proofs.Common.{List, [], ap, ◌∙◌}
use Rattle.std.specs.List.{slice_index_or}
use Rattle.et_program.specs.declared.lookup.resolved.Resolved.{Resolved}
use Rattle.et_program.proofs.PoolLemmas.{kept_right}
use Rattle.et_program.proofs.program.Program.kept_at.Goals as goal

pub returns-in-Some : goal.returns-in-Some
returns-in-Some c =
    let found = c.in-Some.ensures.lookup.3.1 [] ∙ ap (λ (table : List (List Resolved)). slice_index_or table c.number.result []) c.deref.ensures.value in
    kept_right _ _ c.self.inside.resolved.items c.number.result c.args.class c.args.index c.in-Some.pool.now _ c.self.invariant.5 c.self.view_is c.number.ensures.value found c.at.ensures
