-- Which turns call a deferred method, and which methods those are.
use Rattle.std.proofs.Common.{◌≡◌, ℕ, Bool, true, false, ◌&&◌, Option, Some, None, Result, Ok, Err, refl, sym, ◌∙◌, ap}
use Rattle.std.specs.Prelude.{◌||◌, not, if◌then◌else◌, is_none, option_and_then, IsSome}
use Rattle.et_code.specs.Bodies.{Body}
use Rattle.et_code.specs.declared.instr.Instr.{Instr}
use Rattle.et_code.specs.declared.instr.CodeFault.{CodeFault}
use Rattle.et_class.specs.Names.{has}
use Rattle.et_class.specs.declared.flags.TheConstants.{NATIVE}
use Rattle.et_program.specs.BootTable.{is_deferring_class}
use Rattle.et_program.specs.BuiltIns.{is_deferred}
use Rattle.et_program.specs.Entries.{Linked, class_at, method_at, is_abstract, is_static}
use Rattle.et_program.specs.Members.{kept}
use Rattle.et_state.specs.declared.stage.Turn.{Turn}
use Rattle.et_state.specs.declared.stage.Turn.TheVariants.{Instruction}
use Rattle.et_state.specs.Threads.{turn_of}
use Rattle.et_state.specs.State.{Kept, MachineState, kept_of}
use Rattle.et_state.specs.Words.{thread_at, top}
use Rattle.et_event.specs.declared.rows.Row.{Row}
use Rattle.et_event.specs.Families.{row_at}
use Rattle.et_event.specs.Moments.{Moment, current_frame, moment}
use Rattle.et_event.specs.Sites.{Site, decoded_at, site_of}
use Rattle.et_event.specs.Places.{IsPlace}
use Rattle.et_event.specs.declared.places.Place.{Place}
use Rattle.et_event.specs.Selected.{deferred_at, deferred_by, deferred_call, deferred_in}

-- WHICH TURN IT IS

pub at_turn : (p : Linked) (s : Kept) (t : ℕ) (turn : Turn) → turn_of (thread_at s.guest t) ≡ turn → deferred_call p s t ≡ deferred_in (record { program = p; before = s; thread = t }) turn
unfolding deferred_call
at_turn p s t turn is = ap (λ (x : Turn). deferred_in (record { program = p; before = s; thread = t }) x) is

pub at_place : (p : Linked) (m : MachineState) (t : ℕ) (place : Place) → turn_of (thread_at m.guest t) ≡ Instruction → IsPlace p (top m.guest t) place
    → deferred_call p (kept_of m) t ≡ deferred_at (moment p m t) place.site place.row
at_place p m t place turn is =
    let e : Moment = moment p m t in
    at_turn p (kept_of m) t Instruction turn
    ∙ (ap (λ (d : Result (Instr × ℕ) CodeFault). deferred_by e d) is.decoded
    ∙ (ap (λ (r : Option Row). option_and_then (deferred_at e (site_of p (current_frame e) (place.site.instr, place.site.next))) r) is.row
    ∙ ap (λ (at : Site). deferred_at e at place.row) (sym is.site)))

no_row : (e : Moment) (d : Result (Instr × ℕ) CodeFault) → row_at d ≡ None → deferred_by e d ≡ None
no_row e (Err fault) none = refl
no_row e (Ok x) none = ap (λ (r : Option Row). option_and_then (deferred_at e (site_of e.program (current_frame e) x)) r) none

pub at_no_place : (p : Linked) (m : MachineState) (t : ℕ) → turn_of (thread_at m.guest t) ≡ Instruction → row_at (decoded_at p (top m.guest t)) ≡ None → deferred_call p (kept_of m) t ≡ None
at_no_place p m t turn none = at_turn p (kept_of m) t Instruction turn ∙ no_row (moment p m t) (decoded_at p (top m.guest t)) none

-- A DEFERRED METHOD has no code and is not native

abbrev tested : Bool → Bool → Bool → Bool → Bool → Bool
tested codeless static native abstract class = codeless && not (static || native || abstract) && class

codeless_tested : (code : Option Body) (s n a d : Bool) → tested (is_none code) s n a d ≡ true → code ≡ None
codeless_tested None s n a d h = refl
codeless_tested (Some body) s n a d h = cc

not_native : (c s n a d : Bool) → tested c s n a d ≡ true → n ≡ false
not_native c s false a d h = refl
not_native true true true a d h = cc
not_native true false true a d h = cc
not_native false s true a d h = cc

pub deferred_codeless : (p : Linked) (m : ℕ) → is_deferred p m ≡ true → (method_at p m).code ≡ None
deferred_codeless p m h = codeless_tested (method_at p m).code (is_static p m) (has (method_at p m).flags NATIVE) (is_abstract p m) (is_deferring_class (class_at p (method_at p m).class).info.name) h

pub deferred_not_native : (p : Linked) (m : ℕ) → is_deferred p m ≡ true → has (method_at p m).flags NATIVE ≡ false
deferred_not_native p m h = not_native (is_none (method_at p m).code) (is_static p m) (has (method_at p m).flags NATIVE) (is_abstract p m) (is_deferring_class (class_at p (method_at p m).class).info.name) h

kept_by : (b : Bool) (m : ℕ) → IsSome (if b then Some m else None) → b ≡ true
kept_by true m h = refl
kept_by false m h = cc

pub kept_is : (p : Linked) (m : ℕ) → IsSome (kept (is_deferred p) (Some m)) → is_deferred p m ≡ true
kept_is p m h = kept_by (is_deferred p m) m h
