-- The instructions that test the class of a reference.
use Rattle.std.specs.Prelude.{ℕ, Bool, false, List, ◌∷◌}
use Rattle.et_base.specs.declared.value.Value.{Value}
use Rattle.et_base.specs.declared.value.Value.TheVariants.{Null, Ref}
use Rattle.et_state.specs.State.{Kept}
use Rattle.et_state.specs.Outcome.{Outcome}
use Rattle.et_event.specs.declared.errors.GuestError.TheVariants.{ClassCastException}
use Rattle.et_event.specs.Checks.{Reference, throws_unless}
use Rattle.et_event.specs.Heap.{cast, check_cast, instance_of, leaving_values, truth, type_tested}
use Rattle.et_event.specs.Moments.{Moment, begins, goes}
use Rattle.et_event.specs.Sites.{Site}
use Rattle.et_refs.specs.Changes.{put_outcome}
use Rattle.et_refs.specs.declared.types.casts.TypeTest.{TypeTest}
use Rattle.et_refs.specs.declared.types.casts.TypeTest.TheVariants as test

abbrev pub type_test : TypeTest → Moment → Site → Outcome Kept
type_test test.CheckCast e at = check_cast e at
type_test test.InstanceOf e at = instance_of e at

-- what goes on for a reference, where the class has this name and these operands are below
abbrev pub tested : TypeTest → Moment → Site → List ℕ → List Value → Reference → Outcome Kept
tested test.CheckCast e at name below r = cast e at name below r
tested test.InstanceOf e at name below r = type_tested e at name below r

-- .. for an object, where it passes for one of the class or doesn't
abbrev pub left_by : TypeTest → Moment → Site → List Value → ℕ → Bool → Outcome Kept
left_by test.CheckCast e at below o holds = throws_unless e (begins e) ClassCastException holds (put_outcome e at below (Ref o))
left_by test.InstanceOf e at below o holds = goes (leaving_values e at (truth holds ∷ below) (begins e))

-- .. and for null
abbrev pub left_by_null : TypeTest → Value
left_by_null test.CheckCast = Null
left_by_null test.InstanceOf = truth false
