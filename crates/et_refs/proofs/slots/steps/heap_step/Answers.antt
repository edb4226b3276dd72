use Rattle.std.proofs.Common.{◌≡◌, ℕ, true, refl, sym, ap, subst, ◌∙◌}
use Rattle.std.specs.Prelude.{Result, Ok, IfOk}
use Rattle.et_program.specs.declared.info.MethodInfo.{MethodInfo}
use Rattle.et_state.specs.State.{GuestState}
use Rattle.et_state.specs.Words.{top}
use Rattle.et_event.specs.Heap.{heap_event}
use Rattle.et_event.specs.Sites.{Site, pool_of_class, running_method}
use Rattle.et_refs.specs.LiftedChanges.{MayBeLifted, is_lifted_row, lifted_outcome}
use Rattle.et_refs.specs.Reads.{moment_over}
use Rattle.et_refs.specs.Refusals.{outcome_of}
use Rattle.et_refs.specs.declared.refusals.Refusal.{Refusal}
use Rattle.et_refs.specs.declared.slots.steps.LiftedChange.{LiftedChange}
use Rattle.et_refs.specs.declared.slots.steps.LiftedChange.TheVariants as change
use Rattle.et_refs.proofs.Over.{read_steps, site_in}
use Rattle.et_refs.proofs.Storing.{write_steps}
use Rattle.et_refs.proofs.slots.steps.heap_step.Given.{Over}
use Rattle.et_refs.proofs.slots.steps.heap_step.Goals.{After-lifted_change}
use Rattle.et_refs.proofs.slots.steps.heap_step.Goals as goal

-- WHAT WAS FOUND
module _ (g : Over) (c : After-lifted_change g) where
  abbrev method : MethodInfo
  method = running_method c.args.program.now c.args.running.now.frame

  abbrev at : Site
  at = site_in c.args.program.now method c.args.decoded.now

  pool : at.pool ≡ pool_of_class c.args.program.now c.args.class
  pool = ap (λ (k : ℕ). pool_of_class c.args.program.now k) (sym c.requires.method)

  lifted : is_lifted_row c.args.row ≡ true
  lifted = sym c.is_lifted.ensures ∙ c.if-not-is_lifted.false

  -- where the checks come to this, so does the table
  told : (y : LiftedChange) → c.lifted_change.result ≡ Ok y → (guest : GuestState) (t : ℕ) → top guest t ≡ c.args.running.now.frame
      → heap_event (moment_over c.args.program.now c.args.heap.now guest t) at c.args.row ≡ lifted_outcome (moment_over c.args.program.now c.args.heap.now guest t) at y
  told y is guest t same =
      let e = moment_over c.args.program.now c.args.heap.now guest t in
      c.lifted_change.ensures.is guest t at pool c.in-Some.ensures same ∙ ap (λ (r : Result LiftedChange Refusal). outcome_of e r (lifted_outcome e at)) is

  may : (y : LiftedChange) → c.lifted_change.result ≡ Ok y → MayBeLifted c.args.heap.now c.args.running.now.frame y
  may y is = subst (λ (r : Result LiftedChange Refusal). IfOk r (λ x. MayBeLifted c.args.heap.now c.args.running.now.frame x)) is c.lifted_change.ensures.may

pub store-requires-clause-held : goal.store-requires-clause-held
store-requires-clause-held g c =
    c.requires.sound.frame c.in-Ok-Store.x.object (may g (goal.at.store-requires-clause-held g c).After-lifted_change (change.Store c.in-Ok-Store.x) (c.in-Ok-Store.is ∙ ap (λ (y : LiftedChange). Ok y) c.in-Ok-Store.field-0-is)).object

pub returns-in-Ok-Put-clause-steps : goal.returns-in-Ok-Put-clause-steps
returns-in-Ok-Put-clause-steps g c =
    let over = (goal.at.returns-in-Ok-Put-clause-steps g c).After-lifted_change in
    let y = change.Put c.in-Ok-Put.x in
    let is : c.lifted_change.result ≡ Ok y = c.in-Ok-Put.is ∙ ap (λ (z : LiftedChange). Ok z) c.in-Ok-Put.field-0-is in
    read_steps c.args.program.now c.args.heap.now c.args.decoded.now c.args.row (method g over) c.in-Ok-Put.x c.args.running.now c.exchange.new.running refl c.requires.there c.requires.at_row (lifted g over) (may g over y is) (told g over y is) c.exchange.ensures

pub returns-else-not-is_number-clause-steps : goal.returns-else-not-is_number-clause-steps
returns-else-not-is_number-clause-steps g c =
    let over = (goal.at.returns-else-not-is_number-clause-steps g c).After-lifted_change in
    let y = change.Store c.in-Ok-Store.x in
    let is : c.lifted_change.result ≡ Ok y = c.in-Ok-Store.is ∙ ap (λ (z : LiftedChange). Ok z) c.in-Ok-Store.field-0-is in
    write_steps c.args.program.now c.args.heap.now c.store.new.heap c.args.decoded.now c.args.row (method g over) c.in-Ok-Store.x c.args.running.now c.store.new.running refl c.requires.there c.requires.at_row (lifted g over) (may g over y is)
    (sym c.is_number.ensures ∙ c.if-not-is_number.false) (told g over y is) c.store.ensures.heap c.store.ensures.frame
