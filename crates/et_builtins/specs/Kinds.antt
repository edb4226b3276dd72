-- What a built-in method uses of its object.
use Rattle.std.specs.Prelude.{ℕ}
use Rattle.et_program.specs.BootMethods.BuiltIn.{BuiltIn}
use Rattle.et_program.specs.BootMethods.BuiltIn.TheVariants.{Nothing, SetMessage, SetMessageAndCause, GetMessage, GetCause, SetTarget, Start, Join, SetReferent, SetReferentAndQueue, GetReferent, ClearReferent, Poll}

-- how many of the slots that the machine itself uses
abbrev pub slots_used : BuiltIn → ℕ
slots_used Nothing = 0
slots_used SetMessage = 2
slots_used SetMessageAndCause = 2
slots_used GetMessage = 2
slots_used GetCause = 2
slots_used SetTarget = 1
slots_used Start = 1
slots_used Join = 0
slots_used SetReferent = 0
slots_used SetReferentAndQueue = 0
slots_used GetReferent = 0
slots_used ClearReferent = 0
slots_used Poll = 0
