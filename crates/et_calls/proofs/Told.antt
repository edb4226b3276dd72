-- What a turn of calls answers, by what is answered at its place.
use Rattle.std.proofs.Common.{◌≡◌, ℕ, ◌<◌, Bool, true, false, List, length, Option, Some, None, sym, ap, subst, arith}
use Rattle.std.specs.Prelude.{◌↔◌, if◌then◌else◌, Result, Ok, Err, IfOk}
use Rattle.et_program.specs.BuiltIns.{is_deferred}
use Rattle.et_program.specs.Members.{kept}
use Rattle.et_program.specs.Entries.{Linked}
use Rattle.et_state.specs.declared.stage.Turn.TheVariants.{Instruction}
use Rattle.et_state.specs.Threads.{turn_of}
use Rattle.et_state.specs.State.{Kept, MachineState, kept_of}
use Rattle.et_state.specs.Words.{thread_at, top}
use Rattle.et_state.specs.Outcome.{Outcome}
use Rattle.et_state.specs.declared.records.Record.{Record}
use Rattle.et_state.specs.declared.ends.EventEnd.{EventEnd}
use Rattle.et_state.specs.declared.ends.EventEnd.TheVariants as ends
use Rattle.et_event.specs.Event.{does, event}
use Rattle.et_event.specs.Moments.{Moment, moment}
use Rattle.et_event.specs.Places.{IsPlace}
use Rattle.et_event.specs.declared.places.Place.{Place}
use Rattle.et_event.specs.Selected.{deferred_at, deferred_call}
use Rattle.et_event.specs.Answered.{DefersOrAnswers, EventAnswers}
use Rattle.et_event.proofs.Deferrals.{answered, native_exactly}
use Rattle.et_builtins.specs.Plans.{IsCallPlan, method_entered}
use Rattle.et_builtins.specs.declared.plans.CallPlan.{CallPlan}
use Rattle.et_builtins.specs.declared.plans.CallPlan.TheVariants.{IllTyped, Throws, Waits, Initializes, Enters}
use Rattle.et_builtins.proofs.Deferring.{at_place}

-- the answer at a place is that of the turn
pub turn_answers : (p : Linked) (m : MachineState) (t : ℕ) (place : Place) (end : EventEnd) (m' : MachineState) (out out' : List Record) → turn_of (thread_at m.guest t) ≡ Instruction → IsPlace p (top m.guest t) place
    → event p (kept_of m) t ≡ does (moment p m t) place.site place.row → DefersOrAnswers (deferred_at (moment p m t) place.site place.row) (does (moment p m t) place.site place.row) end m m' out out'
    → DefersOrAnswers (deferred_call p (kept_of m) t) (event p (kept_of m) t) end m m' out out'
turn_answers p m t place end m' out out' turn is same a =
    let o : Outcome Kept = does (moment p m t) place.site place.row in
    subst (λ (x : Outcome Kept). DefersOrAnswers (deferred_call p (kept_of m) t) x end m m' out out') (sym same)
    (subst (λ (r : Option ℕ). DefersOrAnswers r o end m m' out out') (sym (at_place p m t place turn is)) a)

-- NO OTHER EVENT is left to another call

pub never_native : (o : Outcome Kept) (end : EventEnd) (m m' : MachineState) (out out' : List Record) → EventAnswers o end m m' out out' → (method : ℕ) → end ≡ ends.Native method → ⊥
never_native o end m m' out out' a method is = let named : None ≡ Some method = (native_exactly None o end m m' out out' a method).0 is in cc

-- .. and where an event is left to no other, its answer says so
pub left_to_none : {E : Type 0} (q : Option ℕ) (o : Outcome Kept) (m m' : MachineState) (out out' : List Record) (r : Result EventEnd E) → q ≡ None → IfOk r (λ end. EventAnswers o end m m' out out') → IfOk r (λ end. DefersOrAnswers q o end m m' out out')
left_to_none q o m m' out out' (Ok end) none a = answered q o end m m' out out' none a
left_to_none q o m m' out out' (Err fault) none a = tt

pub names_none : {E : Type 0} (q : Option ℕ) (o : Outcome Kept) (m m' : MachineState) (out out' : List Record) (r : Result EventEnd E) → q ≡ None → IfOk r (λ end. EventAnswers o end m m' out out') → IfOk r (λ end. (method : ℕ) → (end ≡ ends.Native method) ↔ (q ≡ Some method))
names_none q o m m' out out' (Ok end) none a = native_exactly q o end m m' out out' (answered q o end m m' out out' none a)
names_none q o m m' out out' (Err fault) none a = tt

pub none_within : {E : Type 0} (n : ℕ) (o : Outcome Kept) (m m' : MachineState) (out out' : List Record) (r : Result EventEnd E) → IfOk r (λ end. EventAnswers o end m m' out out') → IfOk r (λ end. (method : ℕ) → end ≡ ends.Native method → method < n)
none_within n o m m' out out' (Ok end) a = λ method is. absurd (never_native o end m m' out out' a method is)
none_within n o m m' out out' (Err fault) a = tt

number_in : EventEnd → ℕ → ℕ
number_in (ends.Native m) n = m
number_in other n = n

pub same_native : (a b : ℕ) → ends.Native a ≡ ends.Native b → a ≡ b
unfolding number_in
same_native a b e = ap (λ (x : EventEnd). number_in x b) e

-- .. and what is left is a call of a method of the program

kept_within : (b : Bool) (k m n : ℕ) → k < n → Some m ≡ (if b then Some k else None) → m < n
kept_within true k m n lt is = let same : m ≡ k = cc in omega (arith, same, lt)
kept_within false k m n lt is = absurd (let e : Some m ≡ None = is in cc)

pub named_within : (e : Moment) (plan : CallPlan) (m : ℕ) → IsCallPlan e plan → Some m ≡ kept (is_deferred e.program) (method_entered plan) → m < length e.program.methods
named_within e (Enters k count) m plan is = kept_within (is_deferred e.program k) k m (length e.program.methods) plan.0 is
named_within e (Initializes k count) m plan is = absurd (let e : Some m ≡ None = is in cc)
named_within e (Throws error) m plan is = absurd (let e : Some m ≡ None = is in cc)
named_within e IllTyped m plan is = absurd (let e : Some m ≡ None = is in cc)
named_within e Waits m plan is = absurd (let e : Some m ≡ None = is in cc)
