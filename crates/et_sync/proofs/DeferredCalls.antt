-- The turns of the event call of monitors: among them are the calls of deferred methods.
use Rattle.std.proofs.Common.{◌≡◌, ℕ, ◌≤◌, length, true, Option, Some, None, inl, inr, sym, ◌∙◌, ap, subst}
use Rattle.std.specs.Prelude.{◌⊎◌, IsSome}
use Rattle.et_program.specs.BuiltIns.{is_deferred}
use Rattle.et_program.specs.Entries.{Linked, method_at}
use Rattle.et_program.specs.Members.{kept}
use Rattle.et_state.specs.declared.stage.Turn.{Turn}
use Rattle.et_state.specs.declared.stage.Turn.TheVariants.{Unwind, Entry, Initialize, Instruction}
use Rattle.et_state.specs.Threads.{turn_of}
use Rattle.et_state.specs.State.{Kept, MachineState, kept_of}
use Rattle.et_state.specs.Words.{thread_at, top}
use Rattle.et_event.specs.declared.families.Family.TheVariants.{Sync}
use Rattle.et_event.specs.declared.rows.CallKind.{CallKind}
use Rattle.et_event.specs.declared.rows.CallRow.TheVariants.{Invoke}
use Rattle.et_event.specs.declared.rows.Row.{Row}
use Rattle.et_event.specs.declared.rows.Row.TheVariants as row
use Rattle.et_event.specs.BuiltIns.{built_in_event}
use Rattle.et_event.specs.Calls.{arguments_of, invoke}
use Rattle.et_event.specs.Families.{family_of, family_of_row, family_of_turn, row_at}
use Rattle.et_event.specs.Moments.{Moment, begins, current_frame, moment}
use Rattle.et_event.specs.Sites.{Site, decoded_at}
use Rattle.et_event.proofs.FamilyTurns.{family_at}
use Rattle.et_event.specs.Places.{IsPlace}
use Rattle.et_event.specs.declared.places.Place.{Place}
use Rattle.et_event.specs.Selected.{deferred_at, deferred_call, selected_method}
use Rattle.et_builtins.specs.Plans.{method_entered, call_planned}
use Rattle.et_builtins.specs.declared.plans.CallPlan.{CallPlan}
use Rattle.et_builtins.specs.declared.plans.CallPlan.TheVariants.{Enters}
use Rattle.et_builtins.proofs.ByCode.{built_in_called}
use Rattle.et_event.proofs.Deferrals.{none_deferred}
use Rattle.et_builtins.proofs.Deferring.{at_place, at_turn, deferred_codeless, deferred_not_native, kept_is}

-- THE ROW OF SUCH A TURN

abbrev pub IsRow : Moment → Site → Row → Type 0
IsRow e at r = (family_of_row (Some r) ≡ Sync) ⊎ IsSome (deferred_at e at r)

pub at_row : (p : Linked) (m : MachineState) (t : ℕ) (place : Place) → turn_of (thread_at m.guest t) ≡ Instruction → IsPlace p (top m.guest t) place → family_of p (kept_of m) t ≡ family_of_row (Some place.row)
    → (family_of p (kept_of m) t ≡ Sync) ⊎ IsSome (deferred_call p (kept_of m) t) → IsRow (moment p m t) place.site place.row
at_row p m t place turn is family h =
    elim h [
      | inl sync ↦ inl (sym family ∙ sync)
      | inr some ↦ inr (subst (λ (r : Option ℕ). IsSome r) (at_place p m t place turn is) some)
    ]

-- A TURN THAT IS NO INSTRUCTION

pub no_entry : (p : Linked) (s : Kept) (t : ℕ) (turn : Turn) → turn_of (thread_at s.guest t) ≡ turn → (family_of_turn turn (row_at (decoded_at p (top s.guest t))) ≡ Sync → ⊥) → deferred_call p s t ≡ None
    → (family_of p s t ≡ Sync) ⊎ IsSome (deferred_call p s t) → ⊥
no_entry p s t turn is other none h =
    elim h [
      | inl sync ↦ other (sym (family_at p s t turn is) ∙ sync)
      | inr some ↦ none_deferred (deferred_call p s t) none some
    ]

-- unwinding, entry and initialization are turns of other calls
pub no_other : (p : Linked) (s : Kept) (t : ℕ) (turn : Turn) → turn ≡ turn_of (thread_at s.guest t) → (turn ≡ Unwind) ⊎ (turn ≡ Entry) ⊎ (turn ≡ Initialize) → (family_of p s t ≡ Sync) ⊎ IsSome (deferred_call p s t) → ⊥
no_other p s t turn here (inl is) h = no_entry p s t Unwind (sym here ∙ is) (λ f. cc) (at_turn p s t Unwind (sym here ∙ is)) h
no_other p s t turn here (inr (inl is)) h = no_entry p s t Entry (sym here ∙ is) (λ f. cc) (at_turn p s t Entry (sym here ∙ is)) h
no_other p s t turn here (inr (inr is)) h = no_entry p s t Initialize (sym here ∙ is) (λ f. cc) (at_turn p s t Initialize (sym here ∙ is)) h

-- A PLAN OF A DEFERRED CALL enters the method, which is done at once

abbrev pub Entering : Moment → Site → CallKind → CallPlan → Type 0
Entering e at kind plan = kept (is_deferred e.program) (method_entered plan) ≡ kept (is_deferred e.program) (selected_method e at kind)

entered_deferred : (e : Moment) (at : Site) (kind : CallKind) (plan : CallPlan) (method count : ℕ) → Entering e at kind plan → IsSome (deferred_at e at (row.Call (Invoke kind))) → plan ≡ Enters method count → is_deferred e.program method ≡ true
entered_deferred e at kind plan method count enters some named =
    kept_is e.program method
    (subst (λ (r : Option ℕ). IsSome r) (sym enters ∙ ap (λ (q : CallPlan). kept (is_deferred e.program) (method_entered q)) named) some)

pub invoke_is : (e : Moment) (at : Site) (kind : CallKind) (plan : CallPlan) (method count : ℕ) → Entering e at kind plan → IsSome (deferred_at e at (row.Call (Invoke kind))) → plan ≡ Enters method count → invoke e at kind ≡ call_planned e at plan
    → count ≤ length (current_frame e).operands → invoke e at kind ≡ built_in_event e at (begins e) (arguments_of e count) (method_at e.program method)
invoke_is e at kind plan method count enters some named is le =
    let deferred : is_deferred e.program method ≡ true = entered_deferred e at kind plan method count enters some named in
    is
    ∙ (ap (λ (q : CallPlan). call_planned e at q) named
    ∙ built_in_called e at (begins e) count method le (deferred_codeless e.program method deferred) (deferred_not_native e.program method deferred))
