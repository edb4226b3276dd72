use Rattle.std.proofs.Common.{◌≡◌, ℕ, false, true, List, Option, Result, Err, refl, sym, ◌∙◌, ap}
use Rattle.std.specs.Prelude.{is_some, IfOk}
use Rattle.et_state.specs.declared.ends.EventEnd.{EventEnd}
use Rattle.et_state.specs.declared.records.Record.{Record}
use Rattle.et_state.specs.Outcome.{Outcome}
use Rattle.et_state.specs.State.{Kept, MachineState, kept_of}
use Rattle.et_event.specs.Answered.{DefersOrAnswers, EventAnswers}
use Rattle.et_event.specs.Heap.{get_static}
use Rattle.et_event.specs.Moments.{Moment, moment}
use Rattle.et_event.specs.Out.{out_at, out_method}
use Rattle.et_event.specs.Sites.{Site}
use Rattle.et_event.specs.declared.rows.HeapRow.TheVariants.{GetStatic}
use Rattle.et_event.specs.declared.rows.Row.TheVariants.{Heap}
use Rattle.et_refs.specs.Accesses.{wanted_outcome}
use Rattle.et_refs.specs.Refusals.{refusal_outcome}
use Rattle.et_refs.specs.StaticReads.{wanted_by}
use Rattle.et_refs.specs.declared.doing.accesses.Wanted.{Wanted}
use Rattle.et_refs.proofs.Answering.{answers_as}
use Rattle.et_refs.proofs.OutFound.{found_exactly, found_where}
use Rattle.et_refs.proofs.OutPlaces.{answers_unless_out, is_left_there, left_to_other, not_left}
use Rattle.et_refs.proofs.event.static_read_event.Goals.{After-read_field}
use Rattle.et_refs.proofs.event.static_read_event.Goals as goal

-- NOTHING IS LEFT to another call where something else is read
module _ (c : After-read_field) where
  abbrev m : MachineState
  m = c.args.machine.now

  abbrev e : Moment
  e = moment c.args.program.now m c.args.thread

  abbrev at : Site
  at = c.args.place.now.site

  abbrev left : Option ℕ
  left = out_method c.args.program.now (kept_of m) c.args.thread

  answered : {E : Type 0} (o : Outcome Kept) (r : Result EventEnd E) (m' : MachineState) (out' : List Record) → false ≡ is_some (out_at e at (Heap GetStatic)) → get_static e at ≡ o
      → IfOk r (λ end. EventAnswers o end m m' c.args.out.now out') → IfOk r (λ end. DefersOrAnswers left (get_static e at) end m m' c.args.out.now out')
  answered o r m' out' other is a =
      answers_unless_out c.args.program.now m c.args.thread (get_static e at) r m' c.args.out.now out'
      (not_left c.args.program.now m c.args.thread c.args.place.now (Heap GetStatic) false c.requires.turn c.requires.at.place c.requires.row other refl)
      (answers_as (get_static e at) o r m m' c.args.out.now out' is a)

pub returns-in-Err : goal.returns-in-Err
returns-in-Err c =
    let read = (goal.at.returns-in-Err c).After-read_field in
    answered read (refusal_outcome (e read) c.in-Err.refusal) c.refuse.result c.refuse.new.machine c.refuse.new.out (found_exactly (e read) (at read) (Err c.in-Err.refusal) c.in-Err.ensures.is)
    (c.in-Err.ensures.is (λ x. wanted_outcome (e read) (at read) (wanted_by x))) c.refuse.ensures.ok

pub returns-then-is_out_class : goal.returns-then-is_out_class
returns-then-is_out_class c =
    let read = (goal.at.returns-then-is_out_class c).After-read_field in
    left_to_other c.args.program.now c.args.machine.now c.args.thread (get_static (e read) (at read)) c.left.result c.args.out.now c.left.ensures
    (is_left_there c.args.program.now c.args.machine.now c.args.thread c.args.place.now (Heap GetStatic) true c.requires.turn c.requires.at.place c.requires.row
    (found_where (e read) (at read) c.in-Ok.read true c.in-Ok.ensures.is (sym c.if-is_out_class.true ∙ c.is_out_class.ensures c.args.thread)) refl)

pub returns : goal.returns
returns c =
    let read = (goal.at.returns c).After-read_field in
    answered read (wanted_outcome (e read) (at read) c.wanted.result) c.access_event.result c.access_event.new.machine c.access_event.new.out
    (found_where (e read) (at read) c.in-Ok.read false c.in-Ok.ensures.is (sym c.if-is_out_class.false ∙ c.is_out_class.ensures c.args.thread))
    (c.in-Ok.ensures.is (λ x. wanted_outcome (e read) (at read) (wanted_by x)) ∙ ap (λ (x : Wanted). wanted_outcome (e read) (at read) x) (sym c.wanted.ensures)) c.access_event.ensures
