-- The state of a program before the first event.
use Rattle.std.specs.Prelude.{ℕ, ◌+◌, nat_lt, nat_le, ◌&&◌, Bool, if◌then◌else◌, List, [], ◌∷◌, length, replicate, codes, unwrap_or, suc, zero}
use Rattle.et_base.specs.declared.value.Value.TheVariants.{Unset}
use Rattle.et_program.specs.BootClasses.{boot_classes}
use Rattle.et_program.specs.Entries.{Linked}
use Rattle.et_program.specs.Members.{class_named}
use Rattle.et_state.specs.declared.class_state.ClassState.{ClassState}
use Rattle.et_state.specs.declared.class_state.ClassState.TheVariants.{Untouched, Done}
use Rattle.et_state.specs.State.{Kept, kept_of}
use Rattle.et_state.specs.Words.{first_state}

-- the class of the argument array
abbrev pub argument_class : Linked → ℕ
argument_class p = unwrap_or (class_named p (codes "[Ljava/lang/String;")) 0

-- a class of a file is untouched; a built-in class, or an array class, is done. The classes of the files stand behind the
-- built-in ones, and only these two have pools
abbrev pub is_class_of_file : Linked → ℕ → Bool
is_class_of_file p c = nat_le (length boot_classes) c && nat_lt c (length p.pools)

abbrev pub first_class_state : Linked → ℕ → ClassState
first_class_state p c = if is_class_of_file p c then Untouched else Done

-- the first states of so many classes, the first of which has the number c
abbrev pub class_states_from : Linked → ℕ → ℕ → List ClassState
class_states_from p c zero = []
class_states_from p c (suc n) = first_class_state p c ∷ class_states_from p (c + 1) n

-- Object 1 is the argument array, of length 0, and stands in the entry slot of thread 0. Nothing was written to a static
-- slot, and no class of a file has begun.
abbrev pub start : Linked → Kept
start p = kept_of (first_state (argument_class p) (class_states_from p 0 (length p.classes)) (replicate (length p.statics) Unset))
