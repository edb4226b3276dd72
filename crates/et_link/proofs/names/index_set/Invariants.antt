use Rattle.std.proofs.Common.{◌≡◌, ℕ, List, take}
use Rattle.et_program.specs.Indices.{number_of_name}
use Rattle.et_hierarchy.specs.Outline.{class_place}
use Rattle.et_link.proofs.names.index_set.Given as goal

abbrev pub invariant-loop-i : goal.invariant-loop-i
invariant-loop-i l = (name : List ℕ) → number_of_name l.places name ≡ class_place (take l.i l.set) name
