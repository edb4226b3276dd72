use Rattle.std.proofs.Common.{◌≡◌, ◌++◌, [], take, if◌then◌else◌}
use Rattle.et_code.specs.Decoding.{instruction_at}
use Rattle.et_code.specs.Starts.{is_start}
use Rattle.et_program.specs.MembersOf.{numbered}
use Rattle.et_program.specs.ArrayTypes.{made_if}
use Rattle.et_link.proofs.linking.arrays.add_made_in.Given as goal

abbrev pub invariant-loop-pc : goal.invariant-loop-pc
invariant-loop-pc l = l.list.items ≡ l.initial.list.items ++ numbered (λ pc b. if is_start l.code pc then made_if l.pool.slots (instruction_at l.code pc) else []) 0 (take l.pc l.code)
