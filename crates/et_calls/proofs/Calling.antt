-- A selected method without code.
use Rattle.std.proofs.Common.{◌≡◌, ℕ, ◌≤◌, Bool, true, false, List, length, None, sym, ◌∙◌, ap, subst}
use Rattle.std.specs.Prelude.{not}
use Rattle.et_class.specs.Names.{has}
use Rattle.et_class.specs.declared.flags.TheConstants.{NATIVE}
use Rattle.et_state.specs.State.{Kept, MachineState}
use Rattle.et_state.specs.Words.{top}
use Rattle.et_program.specs.Entries.{Linked, method_at}
use Rattle.et_state.specs.declared.records.Record.{Record}
use Rattle.et_state.specs.declared.ends.EventEnd.{EventEnd}
use Rattle.et_state.specs.Outcome.{Outcome}
use Rattle.et_event.specs.declared.errors.GuestError.TheVariants.{UnsatisfiedLinkError}
use Rattle.et_event.specs.Answered.{EventAnswers}
use Rattle.et_event.specs.BuiltIns.{built_in_event}
use Rattle.et_event.specs.Calls.{arguments_of, enters_method}
use Rattle.et_event.specs.Checks.{throws_unless}
use Rattle.et_event.specs.Moments.{Moment, moment, begins, current_frame, throws}
use Rattle.et_event.specs.Sites.{Site}
use Rattle.et_builtins.proofs.ByCode.{codeless_called}

-- by whether it is native

abbrev called_by : Moment → Site → ℕ → ℕ → Bool → Outcome Kept
called_by e at method count native =
    throws_unless e (begins e) UnsatisfiedLinkError (not native) (built_in_event e at (begins e) (arguments_of e count) (method_at e.program method))

no_code : (e : Moment) (at : Site) (count method : ℕ) (native : Bool) → count ≤ length (current_frame e).operands → (method_at e.program method).code ≡ None → has (method_at e.program method).flags NATIVE ≡ native
    → called_by e at method count native ≡ enters_method e at (begins e) (arguments_of e count) method
no_code e at count method native le code is = sym (codeless_called e at (begins e) count method le code ∙ ap (λ (b : Bool). called_by e at method count b) is)

pub native_answers : (p : Linked) (t : ℕ) (m m' : MachineState) (out out' : List Record) (end : EventEnd) (at : Site) (count method : ℕ) → count ≤ length (top m.guest t).operands → (method_at p method).code ≡ None
    → has (method_at p method).flags NATIVE ≡ true
    → EventAnswers (throws (moment p m t) UnsatisfiedLinkError (begins (moment p m t))) end m m' out out' → EventAnswers (enters_method (moment p m t) at (begins (moment p m t)) (arguments_of (moment p m t) count) method) end m m' out out'
native_answers p t m m' out out' end at count method le code native a =
    subst (λ (o : Outcome Kept). EventAnswers o end m m' out out') (no_code (moment p m t) at count method true le code native) a

pub other_answers : (p : Linked) (t : ℕ) (m m' : MachineState) (out out' : List Record) (end : EventEnd) (at : Site) (count method : ℕ) → count ≤ length (top m.guest t).operands → (method_at p method).code ≡ None
    → has (method_at p method).flags NATIVE ≡ false
    → EventAnswers (built_in_event (moment p m t) at (begins (moment p m t)) (arguments_of (moment p m t) count) (method_at p method)) end m m' out out'
    → EventAnswers (enters_method (moment p m t) at (begins (moment p m t)) (arguments_of (moment p m t) count) method) end m m' out out'
other_answers p t m m' out out' end at count method le code other a =
    subst (λ (o : Outcome Kept). EventAnswers o end m m' out out') (no_code (moment p m t) at count method false le code other) a
