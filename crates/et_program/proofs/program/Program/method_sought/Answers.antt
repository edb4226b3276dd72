use Rattle.et_program.proofs.PlaceLemmas.{method_within}
use Rattle.et_program.specs.Entries.{method_at}
use Rattle.et_program.proofs.program.Program.method_sought.Goals as goal

pub returns-in-Named-clause-within : goal.returns-in-Named-clause-within
returns-in-Named-clause-within c = method_within c.args.self.now c.in-Named.name.now c.in-Named.descriptor.now c.args.class _ c.method_by_key.ensures

pub returns-in-Like-clause-within : goal.returns-in-Like-clause-within
returns-in-Like-clause-within c = method_within c.args.self.now (method_at c.args.self.now c.in-Like.method).name (method_at c.args.self.now c.in-Like.method).descriptor c.args.class _ c.method_like.ensures
