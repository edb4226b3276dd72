-- What the checks of an event come to: an answer with which it goes on, or what the first of them says that refuses.
use Rattle.std.specs.Prelude.{◌≡◌, Result, Ok, Err}
use Rattle.et_state.specs.State.{Kept}
use Rattle.et_state.specs.Outcome.{Outcome}
use Rattle.et_event.specs.Moments.{Moment, begins, ill_typed, throws}
use Rattle.et_event.specs.Sites.{Site}
use Rattle.et_refs.specs.declared.refusals.Refusal.{Refusal}
use Rattle.et_refs.specs.declared.refusals.Refusal.TheVariants.{IllTyped, Throws}

abbrev pub refusal_outcome : Moment → Refusal → Outcome Kept
refusal_outcome e IllTyped = ill_typed e
refusal_outcome e (Throws error) = throws e error (begins e)

abbrev pub outcome_of : {A : Type 0} → Moment → Result A Refusal → (A → Outcome Kept) → Outcome Kept
outcome_of e (Ok a) go = go a
outcome_of e (Err refusal) go = refusal_outcome e refusal

-- what an instruction does at a place comes to this answer of its checks
abbrev pub ComesTo : {A : Type 0} → (Moment → Site → Outcome Kept) → Moment → Site → Result A Refusal → (Moment → Site → A → Outcome Kept) → Type 0
ComesTo does e at answer go = does e at ≡ outcome_of e answer (go e at)
