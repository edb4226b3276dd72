use Rattle.std.proofs.Common.{rules, ◌≡◌, ℕ, false, List, Option, Some, Result, sym, ◌∙◌, ap, subst}
use Rattle.std.specs.Prelude.{◌↔◌, IfOk, IsSome}
use Rattle.et_state.specs.declared.ends.EventEnd.{EventEnd}
use Rattle.et_state.specs.declared.ends.EventEnd.TheVariants as ends
use Rattle.et_state.specs.declared.records.Record.{Record}
use Rattle.et_state.specs.Outcome.{Outcome}
use Rattle.et_state.specs.State.{Kept, MachineState, kept_of}
use Rattle.et_event.specs.Answered.{DefersOrAnswers, EventAnswers}
use Rattle.et_event.specs.Event.{does}
use Rattle.et_event.specs.Heap.{get_static, heap_event}
use Rattle.et_event.specs.Moments.{moment}
use Rattle.et_event.specs.Out.{out_method, out_turn}
use Rattle.et_event.specs.declared.rows.HeapRow.{HeapRow}
use Rattle.et_event.specs.declared.rows.Row.{Row}
use Rattle.et_event.specs.declared.rows.Row.TheVariants.{Heap}
use Rattle.et_event.proofs.Answering.{if_ok}
use Rattle.et_event.proofs.SiteAnswers.{place_pool}
use Rattle.et_refs.specs.Rows.{is_get_static, plan_outcome}
use Rattle.et_refs.specs.declared.rows.Plan.{Plan}
use Rattle.et_refs.proofs.Answering.{answers_as}
use Rattle.et_refs.proofs.OutPlaces.{answers_unless_out, native_where_out, none_left, none_read, static_row}
use Rattle.et_refs.proofs.event.heap_row_event.Given.{Over}
use Rattle.et_refs.proofs.event.heap_row_event.Goals.{After-is_lifted}
use Rattle.et_refs.proofs.event.heap_row_event.Goals as goal

pub plan_of-requires-clause-refers : goal.plan_of-requires-clause-refers
plan_of-requires-clause-refers g c = record {
  frame = c.requires.at.frame;
  class = c.requires.at.place.class;
  index = search rules;
  pool = place_pool c.args.program.now _ c.args.place.now c.requires.at.place;
}

-- GETSTATIC

pub static_read_event-requires-clause-row : goal.static_read_event-requires-clause-row
static_read_event-requires-clause-row g c = c.heap_row-row.ensures ∙ ap (λ (r : HeapRow). Heap r) (static_row c.heap_row-row.result (search rules))

pub returns-then-is_static_read-clause-event : goal.returns-then-is_static_read-clause-event
returns-then-is_static_read-clause-event g c =
    let p = c.args.program.now in
    let m = c.args.machine.now in
    let e = moment p m c.args.thread in
    let at = c.args.place.now.site in
    let same : does e at c.args.place.now.row ≡ get_static e at = ap (λ (r : Row). does e at r) (static_read_event-requires-clause-row g c.before) in
    if_ok c.static_read_event.result
    (λ end a. subst (λ (o : Outcome Kept). DefersOrAnswers (out_method p (kept_of m) c.args.thread) o end m c.static_read_event.new.machine c.args.out.now c.static_read_event.new.out) (sym same) a)
    c.static_read_event.ensures

pub returns-then-is_static_read-clause-native : goal.returns-then-is_static_read-clause-native
returns-then-is_static_read-clause-native g c =
    let p = c.args.program.now in
    let m = c.args.machine.now in
    native_where_out p m c.args.thread (does (moment p m c.args.thread) c.args.place.now.site c.args.place.now.row) c.static_read_event.result c.static_read_event.new.machine c.args.out.now c.static_read_event.new.out (returns-then-is_static_read-clause-event g c)

-- THE OTHER ROWS leave nothing to another call

module _ (g : Over) (c : After-is_lifted g) where
  abbrev m : MachineState
  m = c.args.machine.now

  abbrev left : Option ℕ
  left = out_method c.args.program.now (kept_of m) c.args.thread

  -- what the table says of the row
  abbrev told : Outcome Kept
  told = does (moment c.args.program.now m c.args.thread) c.args.place.now.site c.args.place.now.row

  row_is : told ≡ heap_event (moment c.args.program.now m c.args.thread) c.args.place.now.site c.heap_row-row.result
  row_is = ap (λ (r : Row). does (moment c.args.program.now m c.args.thread) c.args.place.now.site r) c.heap_row-row.ensures

  other : is_get_static c.heap_row-row.result ≡ false
  other = search rules

  no_read : IsSome (out_turn c.args.program.now (kept_of m) c.args.thread) → ⊥
  no_read = none_read c.args.program.now m c.args.thread c.args.place.now c.heap_row-row.result c.requires.turn c.requires.at.place c.heap_row-row.ensures other

  module _ {E : Type 0} (r : Result EventEnd E) (m' : MachineState) (out' : List Record) where
    answered : IfOk r (λ end. EventAnswers told end m m' c.args.out.now out') → IfOk r (λ end. DefersOrAnswers left told end m m' c.args.out.now out')
    answered =
        answers_unless_out c.args.program.now m c.args.thread told r m' c.args.out.now out'
        (none_left c.args.program.now m c.args.thread c.args.place.now c.heap_row-row.result c.requires.turn c.requires.at.place c.heap_row-row.ensures other)

    native : IfOk r (λ end. DefersOrAnswers left told end m m' c.args.out.now out') → IfOk r (λ end. (method : ℕ) → (end ≡ ends.Native method) ↔ (left ≡ Some method))
    native = native_where_out c.args.program.now m c.args.thread told r m' c.args.out.now out'

pub returns-then-is_lifted-clause-event : goal.returns-then-is_lifted-clause-event
returns-then-is_lifted-clause-event g c =
    let at = (goal.at.returns-then-is_lifted-clause-event g c).After-is_lifted in
    answered g at c.lifted_event.result c.lifted_event.new.machine c.lifted_event.new.out (answers_as _ _ c.lifted_event.result _ c.lifted_event.new.machine _ c.lifted_event.new.out (row_is g at) c.lifted_event.ensures.event)

pub returns-then-is_lifted-clause-native : goal.returns-then-is_lifted-clause-native
returns-then-is_lifted-clause-native g c = native g (goal.at.returns-then-is_lifted-clause-native g c).After-is_lifted c.lifted_event.result c.lifted_event.new.machine c.lifted_event.new.out (returns-then-is_lifted-clause-event g c)

pub returns-then-is_lifted-clause-deferred : goal.returns-then-is_lifted-clause-deferred
returns-then-is_lifted-clause-deferred g c = λ some. absurd (no_read g (goal.at.returns-then-is_lifted-clause-deferred g c).After-is_lifted some)

pub returns-in-Ok-Change-clause-event : goal.returns-in-Ok-Change-clause-event
returns-in-Ok-Change-clause-event g c =
    let at = (goal.at.returns-in-Ok-Change-clause-event g c).After-is_lifted in
    answered g at c.carry_out.result c.carry_out.new.machine c.carry_out.new.out (search rules)

pub returns-in-Ok-Change-clause-native : goal.returns-in-Ok-Change-clause-native
returns-in-Ok-Change-clause-native g c = native g (goal.at.returns-in-Ok-Change-clause-native g c).After-is_lifted c.carry_out.result c.carry_out.new.machine c.carry_out.new.out (returns-in-Ok-Change-clause-event g c)

pub returns-in-Ok-Change-clause-deferred : goal.returns-in-Ok-Change-clause-deferred
returns-in-Ok-Change-clause-deferred g c = λ some. absurd (no_read g (goal.at.returns-in-Ok-Change-clause-deferred g c).After-is_lifted some)

pub returns-in-Ok-Access-clause-event : goal.returns-in-Ok-Access-clause-event
returns-in-Ok-Access-clause-event g c =
    let at = (goal.at.returns-in-Ok-Access-clause-event g c).After-is_lifted in
    let e = moment c.args.program.now c.args.machine.now c.args.thread in
    answered g at c.access_event.result c.access_event.new.machine c.access_event.new.out (answers_as _ _ c.access_event.result _ c.access_event.new.machine _ c.access_event.new.out (row_is g at ∙ (c.in-Ok-Access.ensures.is ∙ ap (λ (x : Plan). plan_outcome e c.args.place.now.site x) c.in-Ok-Access.field-0-is)) c.access_event.ensures)

pub returns-in-Ok-Access-clause-native : goal.returns-in-Ok-Access-clause-native
returns-in-Ok-Access-clause-native g c = native g (goal.at.returns-in-Ok-Access-clause-native g c).After-is_lifted c.access_event.result c.access_event.new.machine c.access_event.new.out (returns-in-Ok-Access-clause-event g c)

pub returns-in-Ok-Access-clause-deferred : goal.returns-in-Ok-Access-clause-deferred
returns-in-Ok-Access-clause-deferred g c = λ some. absurd (no_read g (goal.at.returns-in-Ok-Access-clause-deferred g c).After-is_lifted some)

pub returns-in-Ok-Arrays-clause-event : goal.returns-in-Ok-Arrays-clause-event
returns-in-Ok-Arrays-clause-event g c =
    let at = (goal.at.returns-in-Ok-Arrays-clause-event g c).After-is_lifted in
    answered g at c.multi_array_event.result c.multi_array_event.new.machine c.multi_array_event.new.out (search rules)

pub returns-in-Ok-Arrays-clause-native : goal.returns-in-Ok-Arrays-clause-native
returns-in-Ok-Arrays-clause-native g c = native g (goal.at.returns-in-Ok-Arrays-clause-native g c).After-is_lifted c.multi_array_event.result c.multi_array_event.new.machine c.multi_array_event.new.out (returns-in-Ok-Arrays-clause-event g c)

pub returns-in-Ok-Arrays-clause-deferred : goal.returns-in-Ok-Arrays-clause-deferred
returns-in-Ok-Arrays-clause-deferred g c = λ some. absurd (no_read g (goal.at.returns-in-Ok-Arrays-clause-deferred g c).After-is_lifted some)

pub returns-in-Err-clause-event : goal.returns-in-Err-clause-event
returns-in-Err-clause-event g c =
    let at = (goal.at.returns-in-Err-clause-event g c).After-is_lifted in
    answered g at c.refuse.result c.refuse.new.machine c.refuse.new.out (answers_as _ _ c.refuse.result _ c.refuse.new.machine _ c.refuse.new.out (row_is g at ∙ c.in-Err.ensures.is) c.refuse.ensures.ok)

pub returns-in-Err-clause-native : goal.returns-in-Err-clause-native
returns-in-Err-clause-native g c = native g (goal.at.returns-in-Err-clause-native g c).After-is_lifted c.refuse.result c.refuse.new.machine c.refuse.new.out (returns-in-Err-clause-event g c)

pub returns-in-Err-clause-deferred : goal.returns-in-Err-clause-deferred
returns-in-Err-clause-deferred g c = λ some. absurd (no_read g (goal.at.returns-in-Err-clause-deferred g c).After-is_lifted some)
