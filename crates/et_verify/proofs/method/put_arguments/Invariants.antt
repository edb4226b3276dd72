-- The parameters so far, and those still to come.
use Rattle.std.proofs.Common.{◌≡◌, ◌++◌, drop}
use Rattle.std.specs.List.{flat_map}
use Rattle.et_verify.specs.Typings.{parameter_entries, argument_entries}
use Rattle.et_verify.proofs.method.put_arguments.Given as goal

abbrev pub invariant-loop-kind : goal.invariant-loop-kind
invariant-loop-kind l = l.locals.items ++ flat_map parameter_entries (drop l.kind-index l.kinds) ≡ argument_entries l.is_static l.kinds
