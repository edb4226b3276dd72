use Rattle.std.proofs.Common.{◌≡◌, ◌-◌, length, None}
use Rattle.std.specs.List.{flat_map}
use Rattle.et_base.specs.Marks.{first_from}
use Rattle.et_code.specs.Bodies.{body_of}
use Rattle.et_code.specs.Starts.{starts}
use Rattle.et_code.specs.Rules.{flag, marks_at}
use Rattle.et_code.proofs.Starting.{rest}
use Rattle.et_code.proofs.check.check_instructions.Given as goal

abbrev pub invariant-loop-pc : goal.invariant-loop-pc
invariant-loop-pc l =
    first_from l.first (flat_map (marks_at (body_of l.body) l.tags (flag l.flags)) (rest l.body.code.items l.pc))
    ≡ first_from None (flat_map (marks_at (body_of l.body) l.tags (flag l.flags)) (starts l.body.code.items))

abbrev pub decreases-loop-pc : goal.decreases-loop-pc
decreases-loop-pc l = length l.body.code.items - l.pc
