use Rattle.std.proofs.Common.{◌≡◌, rules}
use Rattle.et_program.specs.Members.{base_array}
use Rattle.et_program.proofs.PlaceLemmas.{base_array_within}
use Rattle.et_program.proofs.program.Program.base_array.Goals as goal

pub returns-clause-within : goal.returns-clause-within
returns-clause-within c =
    let is : c.flatten.result ≡ base_array c.args.self.now c.args.kind = search rules in
    base_array_within c.args.self.now c.args.kind c.flatten.result is
