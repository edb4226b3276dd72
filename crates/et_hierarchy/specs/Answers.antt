-- What linking answers.
use Rattle.std.specs.Prelude.{List}
use Rattle.et_hierarchy.specs.Outline.{Outline}
use Rattle.et_hierarchy.specs.Faults.{IsLinkFault}
use Rattle.et_hierarchy.specs.declared.fault.SetFault.{SetFault}
use Rattle.et_hierarchy.specs.declared.fault.SetFault.TheVariants.{At, NoMemory}

-- a fault that is reported is the one of the set
abbrev pub IsRefused : List Outline → SetFault → Type 0
IsRefused set (At kind class) = IsLinkFault set kind class
IsRefused set NoMemory = Unit {0}
