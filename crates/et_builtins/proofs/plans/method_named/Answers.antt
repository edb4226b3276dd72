use Rattle.std.proofs.Common.{sym, ap, ◌∙◌}
use Rattle.et_program.specs.Referring.{pool_of_class}
use Rattle.et_builtins.proofs.Referred.{method_found, method_there}
use Rattle.et_builtins.proofs.plans.method_named.Goals as goal

pub returns-clause-value : goal.returns-clause-value
returns-clause-value c = method_found c.args.program.now c.class.result c.index_of.result c.args.site.now c.in-Some.answer (c.requires.pool ∙ ap (pool_of_class c.args.program.now) (sym c.class.ensures)) c.index_of.ensures c.in-Some.ensures.value

pub unreachable-requires : goal.unreachable-requires
unreachable-requires c = method_there c.args.program.now c.class.result c.index_of.result c.args.site.now (c.requires.pool ∙ ap (pool_of_class c.args.program.now) (sym c.class.ensures)) c.index_of.ensures c.in-None.ensures.value c.requires.member
