-- What is answered by a call that leaves some events to another call.
use Rattle.std.proofs.Common.{◌≡◌, ℕ, List, Option, Some, None, sym, subst}
use Rattle.std.specs.Prelude.{◌↔◌, IsSome}
use Rattle.et_state.specs.declared.records.Record.{Record}
use Rattle.et_state.specs.declared.ends.EventEnd.{EventEnd}
use Rattle.et_state.specs.declared.ends.EventEnd.TheVariants as ends
use Rattle.et_state.specs.Outcome.{Outcome}
use Rattle.et_state.specs.Outcome as outcome
use Rattle.et_state.specs.State.{Kept, MachineState}
use Rattle.et_event.specs.Answered.{DefersOrAnswers, EventAnswers}

-- no method is answered where the event is left to no other
pub none_deferred : (r : Option ℕ) → r ≡ None → IsSome r → ⊥
none_deferred None none some = cc
none_deferred (Some m) none some = cc

pub answered : (r : Option ℕ) (o : Outcome Kept) (end : EventEnd) (m m' : MachineState) (out out' : List Record) → r ≡ None → EventAnswers o end m m' out out' → DefersOrAnswers r o end m m' out out'
answered r o end m m' out out' none a = subst (λ (q : Option ℕ). DefersOrAnswers q o end m m' out out') (sym none) a

pub not_answered : (o : Outcome Kept) (method : ℕ) (m m' : MachineState) (out out' : List Record) → EventAnswers o (ends.Native method) m m' out out' → ⊥
not_answered (outcome.Goes next records) method m m' out out' a = a
not_answered (outcome.Waits next) method m m' out out' a = a
not_answered (outcome.IllTyped k pc) method m m' out out' a = a
not_answered outcome.ObjectLimit method m m' out out' a = a

pub native_exactly : (r : Option ℕ) (o : Outcome Kept) (end : EventEnd) (m m' : MachineState) (out out' : List Record) → DefersOrAnswers r o end m m' out out' → (method : ℕ) → (end ≡ ends.Native method) ↔ (r ≡ Some method)
native_exactly None o end m m' out out' a method = (λ is. absurd (not_answered o method m m' out out' (subst (λ (x : EventEnd). EventAnswers o x m m' out out') is a)), λ is. cc)
native_exactly (Some k) o end m m' out out' a method =
    let named : end ≡ ends.Native k = a.0 in
    (λ is. cc, λ is. cc)
