-- A static method is called whose class is untouched.
use Rattle.std.proofs.Common.{◌≡◌, ℕ, Bool, true, false, List, [], ◌∷◌, refl, sym, ◌∙◌, ap, subst}
use Rattle.std.specs.Prelude.{if◌then◌else◌}
use Rattle.et_state.specs.declared.class_state.ClassState.{ClassState}
use Rattle.et_state.specs.declared.class_state.ClassState.TheVariants.{Untouched}
use Rattle.et_state.specs.State.{Kept, MachineState}
use Rattle.et_program.specs.Entries.{method_at}
use Rattle.et_state.specs.declared.records.Record.{Record}
use Rattle.et_state.specs.declared.ends.EventEnd.{EventEnd}
use Rattle.et_state.specs.Outcome.{Outcome}
use Rattle.et_event.specs.Answered.{EventAnswers}
use Rattle.et_event.specs.Calls.{arguments_of, enters_method}
use Rattle.et_event.specs.Initialization.{begins_class, is_quiet, needed, prepared, quietly_done, state_of}
use Rattle.et_event.specs.Moments.{Doing, Moment, begins}
use Rattle.et_event.specs.Sites.{Site}
use Rattle.et_builtins.specs.declared.plans.CallPlan.{CallPlan}
use Rattle.et_builtins.specs.declared.plans.CallPlan.TheVariants.{Initializes}
use Rattle.et_builtins.specs.Plans.{call_planned}
use Rattle.et_initialize.specs.Needs.{need_by, need_of}
use Rattle.et_initialize.specs.declared.needs.Need.{Need}
use Rattle.et_initialize.specs.declared.needs.Need.TheVariants.{Quiet, Begins}
use Rattle.et_calls.proofs.CalledByCode.{one_prepared}

-- WHAT AN UNTOUCHED CLASS NEEDS

untouched_need : (e : Moment) (c : ℕ) → state_of (begins e) c ≡ Untouched → need_of e (begins e) c ≡ (if is_quiet e (begins e) c then Quiet else Begins)
untouched_need e c un = ap (λ (x : ClassState). need_by e (begins e) c x) un

quiet_by : (b : Bool) → Quiet ≡ (if b then Quiet else Begins) → b ≡ true
quiet_by true e = refl
quiet_by false e = cc

pub quiet_need : (e : Moment) (c : ℕ) (need : Need) → state_of (begins e) c ≡ Untouched → need ≡ need_of e (begins e) c → need ≡ Quiet → is_quiet e (begins e) c ≡ true
quiet_need e c need un is same = quiet_by (is_quiet e (begins e) c) (sym same ∙ (is ∙ untouched_need e c un))

loud_by : (b : Bool) (need : Need) → need ≡ (if b then Quiet else Begins) → (need ≡ Quiet → ⊥) → b ≡ false
loud_by true need e k = absurd (k e)
loud_by false need e k = refl

pub loud_need : (e : Moment) (c : ℕ) (need : Need) → state_of (begins e) c ≡ Untouched → need ≡ need_of e (begins e) c → (need ≡ Quiet → ⊥) → is_quiet e (begins e) c ≡ false
loud_need e c need un is k = loud_by (is_quiet e (begins e) c) need (is ∙ untouched_need e c un) k

-- the class begins, or the call is done after it

abbrev calls_by : Moment → Site → ℕ → ℕ → Bool → Outcome Kept
calls_by e at method count quiet =
    let c : ℕ = (method_at e.program method).class in
    if quiet then enters_method e at (quietly_done e c (begins e)) (arguments_of e count) method else begins_class e c (begins e)

planned_by : (e : Moment) (at : Site) (method count : ℕ) (quiet : Bool) → state_of (begins e) (method_at e.program method).class ≡ Untouched → is_quiet e (begins e) (method_at e.program method).class ≡ quiet
    → call_planned e at (Initializes method count) ≡ calls_by e at method count quiet
planned_by e at method count quiet un is =
    ap (λ (x : ClassState). needed e (begins e) (method_at e.program method).class x (λ d. enters_method e at d (arguments_of e count) method)) un
    ∙ ap (λ (b : Bool). calls_by e at method count b) is

pub begins_answers : (e : Moment) (at : Site) (method count class : ℕ) (end : EventEnd) (m m' : MachineState) (out out' : List Record) → class ≡ (method_at e.program method).class
    → state_of (begins e) (method_at e.program method).class ≡ Untouched → is_quiet e (begins e) (method_at e.program method).class ≡ false
    → EventAnswers (begins_class e class (begins e)) end m m' out out' → EventAnswers (call_planned e at (Initializes method count)) end m m' out out'
begins_answers e at method count class end m m' out out' name un loud a =
    subst (λ (o : Outcome Kept). EventAnswers o end m m' out out') (ap (λ (c : ℕ). begins_class e c (begins e)) name ∙ sym (planned_by e at method count false un loud)) a

pub quiet_answers : (e : Moment) (at : Site) (method count class : ℕ) (end : EventEnd) (m m' : MachineState) (out out' : List Record) → class ≡ (method_at e.program method).class
    → state_of (begins e) (method_at e.program method).class ≡ Untouched → is_quiet e (begins e) (method_at e.program method).class ≡ true
    → EventAnswers (enters_method e at (prepared e (class ∷ []) (begins e)) (arguments_of e count) method) end m m' out out' → EventAnswers (call_planned e at (Initializes method count)) end m m' out out'
quiet_answers e at method count class end m m' out out' name un quiet a =
    let c : ℕ = (method_at e.program method).class in
    let is : enters_method e at (prepared e (class ∷ []) (begins e)) (arguments_of e count) method ≡ enters_method e at (quietly_done e c (begins e)) (arguments_of e count) method =
    ap (λ (k : ℕ). enters_method e at (prepared e (k ∷ []) (begins e)) (arguments_of e count) method) name
    ∙ ap (λ (d : Doing). enters_method e at d (arguments_of e count) method) (one_prepared e c (begins e) un) in
    subst (λ (o : Outcome Kept). EventAnswers o end m m' out out') (is ∙ sym (planned_by e at method count true un quiet)) a

-- BY THE PLAN

pub plan_answers : (e : Moment) (at : Site) (plan same : CallPlan) (end : EventEnd) (m m' : MachineState) (out out' : List Record) → plan ≡ same
    → EventAnswers (call_planned e at same) end m m' out out' → EventAnswers (call_planned e at plan) end m m' out out'
plan_answers e at plan same end m m' out out' is a = subst (λ (q : CallPlan). EventAnswers (call_planned e at q) end m m' out out') (sym is) a
