-- HOW THE OPERANDS OF A CALL ARE TAKEN: the last argument first, and the receiver as the last.
use Rattle.std.specs.Prelude.{if◌then◌else◌, Bool, true, false, List, [], ◌∷◌, reverse, Option, Some, None, option_map, option_and_then}
use Rattle.et_class.specs.PoolOperands.Operand.{Operand}
use Rattle.et_class.specs.PoolOperands.Operand.TheVariants as operand
use Rattle.et_pool.specs.declared.operand.Returned.{Returned}
use Rattle.et_pool.specs.Operands.{Shape, is_returnable}
use Rattle.et_flow.specs.declared.types.EntryType.{EntryType}
use Rattle.et_verify.specs.Effects.{all_kinds, given_by, kinds_returned}
use Rattle.et_verify.specs.Steps.{below_taken, with_given}

abbrev pub arguments_taken : List (Option Operand) → List EntryType → Option (List EntryType)
arguments_taken kinds ops = option_and_then (λ ks. below_taken (reverse ks) ops) (all_kinds kinds)

abbrev pub receiver_taken : Bool → List EntryType → Option (List EntryType)
receiver_taken true ops = Some ops
receiver_taken false ops = below_taken (operand.Reference ∷ []) ops

abbrev pub call_taken : Bool → Shape → List EntryType → Option (List EntryType)
call_taken static shape ops = option_and_then (receiver_taken static) (arguments_taken shape.kinds ops)

abbrev pub called : Bool → Shape → List EntryType → Option (List EntryType)
called static shape ops = option_map (with_given (given_by shape.returned)) (call_taken static shape ops)

-- RETURNS, by what is read off the descriptor of the method
abbrev pub returned_taken : Option Operand → Returned → List EntryType → Option (List EntryType)
returned_taken kind returned ops = if is_returnable kind returned then below_taken (kinds_returned kind) ops else None
