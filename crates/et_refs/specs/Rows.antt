-- What the instructions on fields, arrays and classes come to, by their rows.
use Rattle.std.specs.Prelude.{◌≡◌, Bool, true, false}
use Rattle.et_state.specs.Threads.{FrameState}
use Rattle.et_heap.specs.Objects.{Objects}
use Rattle.et_state.specs.State.{Kept}
use Rattle.et_state.specs.Outcome.{Outcome}
use Rattle.et_program.specs.Entries.{Linked}
use Rattle.et_event.specs.declared.rows.HeapRow.{HeapRow}
use Rattle.et_event.specs.declared.rows.HeapRow.TheVariants.{GetStatic, NewMultiArray}
use Rattle.et_event.specs.Heap.{new_multi_array}
use Rattle.et_event.specs.Moments.{Moment}
use Rattle.et_event.specs.Sites.{Site}
use Rattle.et_refs.specs.Accesses.{MayWant, wanted_outcome}
use Rattle.et_refs.specs.Changes.{MayChange, change_outcome}
use Rattle.et_refs.specs.declared.rows.Plan.{Plan}
use Rattle.et_refs.specs.declared.rows.Plan.TheVariants as plan

-- the event that carries a plan out
abbrev pub plan_outcome : Moment → Site → Plan → Outcome Kept
plan_outcome e at (plan.Change x) = change_outcome e at x
plan_outcome e at (plan.Access x) = wanted_outcome e at x
plan_outcome e at plan.Arrays = new_multi_array e at

-- what holds of the plan of a row
abbrev pub MayDo : Linked → Objects → FrameState → HeapRow → Plan → Type 0
MayDo p heap f r (plan.Change x) = MayChange heap f x
MayDo p heap f r (plan.Access x) = MayWant p f x
MayDo p heap f r plan.Arrays = r ≡ NewMultiArray

-- the row of getstatic
abbrev pub is_get_static : HeapRow → Bool
is_get_static GetStatic = true
is_get_static other = false
