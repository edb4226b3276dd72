-- The call that an invoke makes, where it calls a method of texts.
use Rattle.std.proofs.Common.{◌≡◌, ℕ, Bool, true, false, List, [], Option, Some, None, refl, sym, ap, subst, ◌∙◌}
use Rattle.std.specs.Prelude.{if◌then◌else◌, option_and_then, IsSome}
use Rattle.std.specs.Option.{option_map_or}
use Rattle.std.specs.Result.{result_ok}
use Rattle.et_base.specs.declared.value.Value.{Value}
use Rattle.et_builtins.specs.Plans.{IsPassing, method_entered}
use Rattle.et_builtins.specs.declared.plans.CallPlan.{CallPlan}
use Rattle.et_builtins.specs.declared.plans.CallPlan.TheVariants.{Enters}
use Rattle.et_class.specs.Descriptors.{MethodType, method_type}
use Rattle.et_event.specs.Calls.{arguments_of, call_fits, entry_count, is_as, is_static_call}
use Rattle.et_event.specs.Frames.{first_reference}
use Rattle.et_event.specs.Moments.{Moment}
use Rattle.et_event.specs.Selected.{TextCall, passed_at, selected_by, selected_from, selected_method, selected_on, text_call_at, text_call_of, with_resolved}
use Rattle.et_event.specs.Sites.{Member, Site, site_member, names_interface}
use Rattle.et_event.specs.declared.rows.CallKind.{CallKind}
use Rattle.et_event.specs.declared.rows.CallRow.TheVariants.{Invoke}
use Rattle.et_event.specs.declared.rows.Row.TheVariants.{Call}
use Rattle.et_program.specs.BootTexts.TextMethod.{TextMethod}
use Rattle.et_program.specs.BuiltIns.{is_deferred, text_method_of}
use Rattle.et_program.specs.Entries.{is_static}
use Rattle.et_program.specs.Members.{kept}
use Rattle.et_program.specs.Resolution.{resolve_class, resolve_method}

-- WHAT IS THERE where what comes of it is

pub and_then_some : {A B : Type 0} → (f : A → Option B) (r : Option A) → IsSome (option_and_then f r) → (x : A) × (r ≡ Some x) × IsSome (f x)
and_then_some f None h = cc
and_then_some f (Some x) h = (x, refl, h)

where_true : {A : Type 0} → (b : Bool) (r : Option A) → IsSome (if b then r else None) → IsSome r
where_true true r h = h
where_true false r h = cc

pub some_is : {A : Type 0} → (r : Option A) (x : A) → r ≡ Some x → IsSome r
some_is None x is = cc
some_is (Some y) x is = refl

pub none_there : {A : Type 0} → (r : Option A) → r ≡ None → IsSome r → ⊥
none_there None is h = cc
none_there (Some x) is h = cc

-- THE METHOD OF THE PLAN

abbrev pub Entering : Moment → CallKind → Site → CallPlan → Type 0
Entering e kind at plan = kept (is_deferred e.program) (method_entered plan) ≡ kept (is_deferred e.program) (selected_method e at kind)

abbrev pub invoked : Moment → Site → CallKind → Option TextCall
invoked e at kind = text_call_at e at (Call (Invoke kind))

abbrev of_method : Moment → Site → CallKind → ℕ → Option TextCall
of_method e at kind m = text_call_of at (passed_at e at kind) (text_method_of e.program m)

-- by what is entered
entered : (e : Moment) (at : Site) (kind : CallKind) (plan : CallPlan) → Entering e kind at plan → invoked e at kind ≡ option_and_then (of_method e at kind) (kept (is_deferred e.program) (method_entered plan))
entered e at kind plan enters = ap (option_and_then (of_method e at kind)) (sym enters)

pub nothing_entered : (e : Moment) (at : Site) (kind : CallKind) (plan : CallPlan) → Entering e kind at plan → IsSome (invoked e at kind) → method_entered plan ≡ None → ⊥
nothing_entered e at kind plan enters some none =
    none_there (invoked e at kind) (entered e at kind plan enters ∙ ap (λ (r : Option ℕ). option_and_then (of_method e at kind) (kept (is_deferred e.program) r)) none) some

deferred_one : (e : Moment) (at : Site) (kind : CallKind) (m : ℕ) (b : Bool) → IsSome (option_and_then (of_method e at kind) (if b then Some m else None)) → option_and_then (of_method e at kind) (if b then Some m else None) ≡ of_method e at kind m
deferred_one e at kind m true h = refl
deferred_one e at kind m false h = cc

pub method_called : (e : Moment) (at : Site) (kind : CallKind) (plan : CallPlan) (m count : ℕ) → Entering e kind at plan → IsSome (invoked e at kind) → plan ≡ Enters m count → invoked e at kind ≡ of_method e at kind m
method_called e at kind plan m count enters some named =
    let is : invoked e at kind ≡ option_and_then (of_method e at kind) (if is_deferred e.program m then Some m else None) =
    entered e at kind plan enters ∙ ap (λ (q : CallPlan). option_and_then (of_method e at kind) (kept (is_deferred e.program) (method_entered q))) named in
    is ∙ deferred_one e at kind m (is_deferred e.program m) (subst (λ (r : Option TextCall). IsSome r) is some)

-- .. is one of texts
pub no_text_method : (e : Moment) (at : Site) (kind : CallKind) (m : ℕ) → invoked e at kind ≡ of_method e at kind m → IsSome (invoked e at kind) → text_method_of e.program m ≡ None → ⊥
no_text_method e at kind m is some none = none_there (invoked e at kind) (is ∙ ap (text_call_of at (passed_at e at kind)) none) some

pub call_is : (e : Moment) (at : Site) (kind : CallKind) (m : ℕ) (arguments : List Value) (t : TextMethod) → invoked e at kind ≡ of_method e at kind m → text_method_of e.program m ≡ Some t → arguments ≡ passed_at e at kind
    → invoked e at kind ≡ Some (record { at = at; arguments = arguments; method = t })
call_is e at kind m arguments t is method passed =
    is ∙ (ap (text_call_of at (passed_at e at kind)) method ∙ ap (λ (vs : List Value). Some (record { at = at; arguments = vs; method = t })) (sym passed))

-- WHAT IS PASSED

pub passes : (e : Moment) (at : Site) (kind : CallKind) (plan : CallPlan) (m count : ℕ) → IsPassing e at kind plan → plan ≡ Enters m count → arguments_of e count ≡ passed_at e at kind
passes e at kind plan m count h named = subst (λ (q : CallPlan). IsPassing e at kind q) named h

-- THE RECEIVER: no method is selected without one

abbrev arguments_by : Moment → CallKind → MethodType → List Value
arguments_by e kind type = arguments_of e (entry_count (is_static_call kind) type)

from_receives : (e : Moment) (at : Site) (kind : CallKind) (arguments : List Value) (named m : ℕ) → IsSome (selected_from e at kind arguments named m) → IsSome (first_reference arguments)
from_receives e at kind arguments named m h =
    let chosen = where_true (is_as (is_static_call kind) (is_static e.program m)) (option_and_then (selected_on e at kind arguments named m) (first_reference arguments)) h in
    let found = and_then_some (selected_on e at kind arguments named m) (first_reference arguments) chosen in
    some_is (first_reference arguments) found.0 found.1

method_receives : (e : Moment) (at : Site) (kind : CallKind) (named : Member) (type : MethodType) → IsSome (selected_by e at kind named type) → IsSome (first_reference (arguments_by e kind type))
method_receives e at kind named type h =
    let go = selected_from e at kind (arguments_by e kind type) in
    let fits = where_true (call_fits e (is_static_call kind) type) (with_resolved e.program (names_interface at) named go) h in
    let method = result_ok (resolve_class e.program named.owner) in
    let owner = and_then_some (λ (o : ℕ). option_and_then (go o) (result_ok (resolve_method e.program o (names_interface at) named.name named.descriptor))) method fits in
    let found = and_then_some (go owner.0) (result_ok (resolve_method e.program owner.0 (names_interface at) named.name named.descriptor)) owner.2 in
    from_receives e at kind (arguments_by e kind type) owner.0 found.0 found.2

pub receives : (e : Moment) (at : Site) (kind : CallKind) → IsSome (selected_method e at kind) → IsSome (first_reference (passed_at e at kind))
receives e at kind h =
    let named = and_then_some (λ (n : Member). option_and_then (selected_by e at kind n) (method_type n.descriptor)) (site_member at) h in
    let typed = and_then_some (selected_by e at kind named.0) (method_type named.0.descriptor) named.2 in
    let type : option_and_then (λ (n : Member). method_type n.descriptor) (site_member at) ≡ Some typed.0 = ap (option_and_then (λ (n : Member). method_type n.descriptor)) named.1 ∙ typed.1 in
    let passed : passed_at e at kind ≡ arguments_by e kind typed.0 = ap (λ (o : Option MethodType). option_map_or (arguments_by e kind) o []) type in
    subst (λ (vs : List Value). IsSome (first_reference vs)) (sym passed) (method_receives e at kind named.0 typed.0 typed.2)

-- .. nor a deferred one called
kept_some : (test : ℕ → Bool) (r : Option ℕ) → IsSome (kept test r) → IsSome r
kept_some test None h = h
kept_some test (Some m) h = some_is (Some m) m refl

pub invoked_receives : (e : Moment) (at : Site) (kind : CallKind) → IsSome (invoked e at kind) → IsSome (first_reference (passed_at e at kind))
invoked_receives e at kind h =
    let found = and_then_some (of_method e at kind) (kept (is_deferred e.program) (selected_method e at kind)) h in
    receives e at kind (kept_some (is_deferred e.program) (selected_method e at kind) (some_is (kept (is_deferred e.program) (selected_method e at kind)) found.0 found.1))
