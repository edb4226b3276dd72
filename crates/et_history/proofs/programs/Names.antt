-- The class of a class file has the name of a class.
use Rattle.std.proofs.Common.{ℕ, ◌+◌, List, ◌++◌, length, refl, inl, inr}
use mathlib.Core.Logic.{⊎_elim}
use Rattle.std.proofs.lemmas.Bool.{cases_Bool}
use Rattle.et_base.specs.Marks.{Mark, Breaks}
use Rattle.et_pool.specs.Looks.{end_of}
use Rattle.et_class.specs.declared.fault.TheConstants.{POOL}
use Rattle.et_class.specs.declared.flags.TheConstants.{INTERFACE}
use Rattle.et_class.specs.Layout.{ClassOf, u2, counted_bytes}
use Rattle.et_class.specs.Names.{has, is_plain_class}
use Rattle.et_class.specs.Rules.{pool_marks, header_marks, members_marks, header_of, members_of}
use Rattle.et_class.specs.Classes.{IsClassFile}
use Rattle.et_program.specs.Loaded.{loaded_class}
use Rattle.et_history.specs.programs.ClassNames.{HasClassName}
use Rattle.et_history.proofs.programs.Marks.{broken_behind}

pub has_class_name : (bytes : List ℕ) (c : ClassOf) → IsClassFile bytes c → HasClassName (loaded_class c)
has_class_name bytes c is =
    let behind : List Mark = header_marks c.slots (end_of 8 c.slots) (header_of c) ++ members_marks c.slots (has c.flags INTERFACE) (end_of 8 c.slots + 6 + length (counted_bytes u2 c.interfaces)) (members_of c) in
    ⊎_elim
    (λ t. t)
    (λ f.
    let broken : Breaks behind (end_of 8 c.slots + 2) POOL = inr (inl (f, refl, refl)) in
    absurd (is.rules (end_of 8 c.slots + 2) POOL (broken_behind (pool_marks c.slots) behind (end_of 8 c.slots + 2) POOL broken)))
    (cases_Bool (is_plain_class c.slots c.this))
