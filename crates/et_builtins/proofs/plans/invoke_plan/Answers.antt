use Rattle.std.proofs.Common.{◌≡◌, ℕ, ◌<◌, Option, Some, None, length, refl, sym, ◌∙◌, ap, subst}
use Rattle.std.specs.Prelude.{Result}
use Rattle.et_event.specs.declared.errors.GuestError.{GuestError}
use Rattle.et_program.specs.BuiltIns.{is_deferred}
use Rattle.et_program.specs.Entries.{Linked}
use Rattle.et_state.specs.Threads.{FrameState}
use Rattle.et_event.specs.Places.{IsPlace}
use Rattle.et_event.specs.declared.places.Place.{Place}
use Rattle.et_program.specs.Members.{kept}
use Rattle.et_program.specs.Referring.{pool_of_class}
use Rattle.et_event.specs.Calls.{arguments_of}
use Rattle.et_event.specs.Selected.{selected_from, selected_method}
use Rattle.et_builtins.specs.Plans.{resolving}
use Rattle.et_builtins.proofs.Planning.{checks, fitted, fitted_method, found_by, invoke_is, selected_is}
use Rattle.et_builtins.proofs.Choosing.{resolved_room}
use Rattle.et_builtins.proofs.Shaping.{chosen_by, fits_at, ill_called, invoked_by, none_selected, passed_is, passing}
use Rattle.et_event.proofs.SiteAnswers.{place_pool}
use Rattle.et_builtins.proofs.plans.invoke_plan.Goals as goal
use Rattle.et_event.specs.Moments.{moment}

-- the pool is that of the class that is read
pool_read : (p : Linked) (f : FrameState) (place : Place) (class : ℕ) → IsPlace p f place → class ≡ place.site.class → place.site.pool ≡ pool_of_class p class
pool_read p f place class is same = place_pool p f place is ∙ ap (pool_of_class p) (sym same)

-- WHERE NO METHOD IS NAMED

pub returns-in_default-clause-plan : goal.returns-in_default-clause-plan
returns-in_default-clause-plan g c =
    let e = moment c.args.program.now c.args.machine.now c.args.thread in
    ill_called e c.args.place.now.site c.args.kind c.args.program.now c.class-class.result c.index_of.result (pool_read c.args.program.now _ c.args.place.now c.class-class.result c.requires.place c.class-class.ensures) c.index_of.ensures c.in_default.ensures

pub returns-in_default-clause-deferred : goal.returns-in_default-clause-deferred
returns-in_default-clause-deferred g c =
    let e = moment c.args.program.now c.args.machine.now c.args.thread in
    sym (ap (λ (r : Option ℕ). kept (is_deferred e.program) r) (none_selected e c.args.place.now.site c.args.kind c.args.program.now c.class-class.result c.index_of.result (pool_read c.args.program.now _ c.args.place.now c.class-class.result c.requires.place c.class-class.ensures) c.index_of.ensures c.in_default.ensures))

-- WHAT THE PLAN IS

pub returns-in_default-fitting_call-clause-plan : goal.returns-in_default-fitting_call-clause-plan
returns-in_default-fitting_call-clause-plan g c =
    let e = moment c.args.program.now c.args.machine.now c.args.thread in
    let at = c.args.place.now.site in
    let f = fits_at e at c.args.kind c.class-class.result c.index_of.result c.in-Some.shape.now c.is_static_call.result None (pool_read c.args.program.now _ c.args.place.now c.class-class.result c.requires.place c.class-class.ensures) c.index_of.ensures c.in-Some.ensures c.is_static_call.ensures (c.in_default-fitting_call.ensures.value c.args.program.now) in
    invoke_is e at c.args.kind f.has.member f.has.named ∙ ap (fitted e at c.args.kind f.has.member) f.fits

pub returns-in-Ok-clause-plan : goal.returns-in-Ok-clause-plan
returns-in-Ok-clause-plan g c =
    let e = moment c.args.program.now c.args.machine.now c.args.thread in
    let at = c.args.place.now.site in
    let f = fits_at e at c.args.kind c.class-class.result c.index_of.result c.in-Some.shape.now c.is_static_call.result (Some c.in-Some-fitting_call.count) (pool_read c.args.program.now _ c.args.place.now c.class-class.result c.requires.place c.class-class.ensures) c.index_of.ensures c.in-Some.ensures c.is_static_call.ensures (c.in-Some-fitting_call.ensures.value c.args.program.now) in
    let go = checks e at c.args.kind c.in-Some-fitting_call.count in
    invoked_by e at c.args.kind c.in-Some.shape.now c.in-Some-fitting_call.count c.resolve.result f (λ m named. c.resolve.ensures.value e m go refl named)
    ∙ (ap (λ (r : Result (ℕ × ℕ) GuestError). resolving e r go) c.in-Ok.is ∙ c.resolved_plan.ensures.plan at (sym c.class-class.ensures))

pub returns-in-Err-clause-plan : goal.returns-in-Err-clause-plan
returns-in-Err-clause-plan g c =
    let e = moment c.args.program.now c.args.machine.now c.args.thread in
    let at = c.args.place.now.site in
    let f = fits_at e at c.args.kind c.class-class.result c.index_of.result c.in-Some.shape.now c.is_static_call.result (Some c.in-Some-fitting_call.count) (pool_read c.args.program.now _ c.args.place.now c.class-class.result c.requires.place c.class-class.ensures) c.index_of.ensures c.in-Some.ensures c.is_static_call.ensures (c.in-Some-fitting_call.ensures.value c.args.program.now) in
    let go = checks e at c.args.kind c.in-Some-fitting_call.count in
    invoked_by e at c.args.kind c.in-Some.shape.now c.in-Some-fitting_call.count c.resolve.result f (λ m named. c.resolve.ensures.value e m go refl named)
    ∙ ap (λ (r : Result (ℕ × ℕ) GuestError). resolving e r go) c.in-Err.is

-- WHICH DEFERRED METHOD IS ENTERED

pub returns-in_default-fitting_call-clause-deferred : goal.returns-in_default-fitting_call-clause-deferred
returns-in_default-fitting_call-clause-deferred g c =
    let e = moment c.args.program.now c.args.machine.now c.args.thread in
    let at = c.args.place.now.site in
    let f = fits_at e at c.args.kind c.class-class.result c.index_of.result c.in-Some.shape.now c.is_static_call.result None (pool_read c.args.program.now _ c.args.place.now c.class-class.result c.requires.place c.class-class.ensures) c.index_of.ensures c.in-Some.ensures c.is_static_call.ensures (c.in_default-fitting_call.ensures.value c.args.program.now) in
    sym (ap (λ (r : Option ℕ). kept (is_deferred e.program) r) (selected_is e at c.args.kind f.has.member f.has.named ∙ ap (fitted_method e at c.args.kind f.has.member) f.fits))

pub returns-in-Ok-clause-deferred : goal.returns-in-Ok-clause-deferred
returns-in-Ok-clause-deferred g c =
    let e = moment c.args.program.now c.args.machine.now c.args.thread in
    let at = c.args.place.now.site in
    let f = fits_at e at c.args.kind c.class-class.result c.index_of.result c.in-Some.shape.now c.is_static_call.result (Some c.in-Some-fitting_call.count) (pool_read c.args.program.now _ c.args.place.now c.class-class.result c.requires.place c.class-class.ensures) c.index_of.ensures c.in-Some.ensures c.is_static_call.ensures (c.in-Some-fitting_call.ensures.value c.args.program.now) in
    let from = selected_from e at c.args.kind (arguments_of e c.in-Some-fitting_call.count) in
    let selected : selected_method e at c.args.kind ≡ from c.in-Ok.found.0 c.in-Ok.found.1 =
    chosen_by e at c.args.kind c.in-Some.shape.now c.in-Some-fitting_call.count c.resolve.result f (λ m named. c.resolve.ensures.found m from named) ∙ ap (λ (r : Result (ℕ × ℕ) GuestError). found_by r from) c.in-Ok.is in
    c.resolved_plan.ensures.deferred at (sym c.class-class.ensures) ∙ sym (ap (λ (r : Option ℕ). kept (is_deferred e.program) r) selected)

pub returns-in-Err-clause-deferred : goal.returns-in-Err-clause-deferred
returns-in-Err-clause-deferred g c =
    let e = moment c.args.program.now c.args.machine.now c.args.thread in
    let at = c.args.place.now.site in
    let f = fits_at e at c.args.kind c.class-class.result c.index_of.result c.in-Some.shape.now c.is_static_call.result (Some c.in-Some-fitting_call.count) (pool_read c.args.program.now _ c.args.place.now c.class-class.result c.requires.place c.class-class.ensures) c.index_of.ensures c.in-Some.ensures c.is_static_call.ensures (c.in-Some-fitting_call.ensures.value c.args.program.now) in
    let from = selected_from e at c.args.kind (arguments_of e c.in-Some-fitting_call.count) in
    let selected : selected_method e at c.args.kind ≡ None =
    chosen_by e at c.args.kind c.in-Some.shape.now c.in-Some-fitting_call.count c.resolve.result f (λ m named. c.resolve.ensures.found m from named) ∙ ap (λ (r : Result (ℕ × ℕ) GuestError). found_by r from) c.in-Err.is in
    sym (ap (λ (r : Option ℕ). kept (is_deferred e.program) r) selected)

-- WHAT IS PASSED

pub returns-in-Ok-clause-passes : goal.returns-in-Ok-clause-passes
returns-in-Ok-clause-passes g c =
    let e = moment c.args.program.now c.args.machine.now c.args.thread in
    let at = c.args.place.now.site in
    let f = fits_at e at c.args.kind c.class-class.result c.index_of.result c.in-Some.shape.now c.is_static_call.result (Some c.in-Some-fitting_call.count) (pool_read c.args.program.now _ c.args.place.now c.class-class.result c.requires.place c.class-class.ensures) c.index_of.ensures c.in-Some.ensures c.is_static_call.ensures (c.in-Some-fitting_call.ensures.value c.args.program.now) in
    passing e at c.args.kind c.in-Some-fitting_call.count c.resolved_plan.result c.resolved_plan.ensures.passes (passed_is e at c.in-Some.shape.now f.has c.args.kind c.in-Some-fitting_call.count f.fits)

-- WHAT WAS RESOLVED

pub resolve-requires-clause-pool : goal.resolve-requires-clause-pool
resolve-requires-clause-pool g c = place_pool c.args.program.now _ c.args.place.now c.requires.place

-- WHAT IS RETURNED FITS

pub resolved_plan-requires : goal.resolved_plan-requires
resolved_plan-requires g c =
    let e = moment c.args.program.now c.args.machine.now c.args.thread in
    let at = c.args.place.now.site in
    let f = fits_at e at c.args.kind c.class-class.result c.index_of.result c.in-Some.shape.now c.is_static_call.result (Some c.in-Some-fitting_call.count) (pool_read c.args.program.now _ c.args.place.now c.class-class.result c.requires.place c.class-class.ensures) c.index_of.ensures c.in-Some.ensures c.is_static_call.ensures (c.in-Some-fitting_call.ensures.value c.args.program.now) in
    record {
      callee = record {
        callable = record {
          arguments = record { frame = c.requires.frame; sound = c.requires.sound; operands = c.in-Some-fitting_call.ensures.operands };
          method = c.in-Ok.ensures.within.1;
          room = resolved_room e c.in-Ok.found.1 c.in-Some-fitting_call.count f.has.member.descriptor f.has.type c.in-Some.shape.now (c.in-Ok.ensures.same f.has.member f.has.named) f.has.typed f.has.is c.in-Some-fitting_call.ensures.room;
        };
        current = subst (λ (class : ℕ). class < length e.program.classes) (sym c.class-class.ensures) c.requires.class;
        named = c.in-Ok.ensures.within.0;
      };
    }
