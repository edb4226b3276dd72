-- What an event of a state with texts makes is reached: a string of a builder, and System.out, are put on the operands.
use Rattle.std.proofs.Common.{ℕ, ◌<◌, ◌&&◌, ◌++◌, ◌∷◌, Bool, List, [], drop, length, Option, Some, None}
use Rattle.std.specs.Prelude.{codes, nat_le, pos, slice_index_or}
use Rattle.std.proofs.lemmas.List.{length_push}
use Rattle.et_base.specs.declared.value.Value.{Value}
use Rattle.et_base.specs.declared.value.Value.TheVariants as value
use Rattle.et_heap.specs.Objects.{ObjectState, new_object, referent_of}
use Rattle.et_program.specs.BootTexts.TextMethod.{TextMethod}
use Rattle.et_program.specs.BootTexts.TextMethod.TheVariants.{Length, CharAt, Equals, Begin, BeginWith, ToString, Append, Print, PrintLine, EndLine}
use Rattle.et_program.specs.Entries.{Linked, class_at, field_at}
use Rattle.et_state.specs.Outcome.{Outcome}
use Rattle.et_state.specs.Outcome as outcome
use Rattle.et_state.specs.Spoken.{silent, text_of}
use Rattle.et_state.specs.State.{Kept}
use Rattle.et_state.specs.Texts.{longest_text, most_units, text_units, with_text}
use Rattle.et_state.specs.Words.{static_at, with_static}
use Rattle.et_event.specs.BuiltIns.{answering, argument}
use Rattle.et_event.specs.Errors.{class_called}
use Rattle.et_event.specs.Event.{event}
use Rattle.et_event.specs.Heap.{leaving_values, truth}
use Rattle.et_event.specs.Kinds.{in_bounds}
use Rattle.et_event.specs.Moments.{Doing, Moment, begins, current_frame, doing_with_guest, fits_heap, goes, ill_typed, instance_made, next_object}
use Rattle.et_event.specs.Out.{out_read}
use Rattle.et_event.specs.Selected.{TextCall}
use Rattle.et_event.specs.Sites.{Site, natural_of}
use Rattle.et_event.specs.TextRows.{ends_with_texts, is_fit_text, is_text_like, rewrites, shown, text_done, text_given, text_row}
use Rattle.et_event.specs.Told.{event_with_texts, keeping}
use Rattle.et_event.specs.declared.errors.GuestError.TheVariants.{OutOfMemoryError, StringIndexOutOfBoundsException}
use Rattle.et_history.proofs.texts.Events.{each_way, moment}
use Rattle.et_history.specs.Reaching.{AreReachedFrom, ReachesNew}
use Rattle.et_history.proofs.NewRows.{Starts, done_new, ended_new, on_top_reached}
use Rattle.et_history.proofs.NewStrings.{first}
use Rattle.et_history.proofs.NewTurns.{event_reaches}
use Rattle.et_history.proofs.NewWays.{New, each_int, ends_reached, one_reached, unless_ill_typed, unless_thrown, where_not_null}
use Rattle.et_history.proofs.soundness.Outcomes.{if_case}

module _ (e : Moment) (here : Starts e) (at : Site) where
  -- ONE OBJECT is made, and put on the operands
  one_on_top : (class : ℕ) (ops : List Value) → AreReachedFrom (length e.before.heap) (leaving_values e at (value.Ref (length e.before.heap) ∷ ops) (instance_made e class (begins e))).state
  one_on_top class ops =
      let n : ℕ = length e.before.heap in
      let object : ObjectState = new_object class 0 (class_at e.program class).info.slots in
      let made : Doing = instance_made e class (begins e) in
      one_reached n (leaving_values e at (value.Ref n ∷ ops) made).state (length_push e.before.heap (Some object)) (on_top_reached e at n ops made here)

  ends_given : (d : Doing) (o : ℕ) (units : List ℕ) → AreReachedFrom (length e.before.heap) d.state → New e (ends_with_texts (text_given o units d))
  ends_given d o units h =
      let few : Bool = nat_le (text_units (with_text o units d.state.guest.texts)) most_units in
      if_case (New e) (fits_heap d.state.heap && few) (goes (text_given o units d)) outcome.ObjectLimit h tt

  rewrites_new : (d : Doing) (o : ℕ) (units : List ℕ) → AreReachedFrom (length e.before.heap) d.state → New e (rewrites e (begins e) o units d)
  rewrites_new d o units h = unless_thrown e (begins e) OutOfMemoryError (nat_le (length units) longest_text) (ends_with_texts (text_given o units d)) (first e here) (ends_given d o units h)

  -- THE ROWS of methods of texts
  module _ (arguments : List Value) where
    answers : (values : List Value) → New e (goes (answering e at arguments values (begins e)))
    answers values = done_new e at (values ++ drop (length arguments) (current_frame e).operands) here

    texts_new : (o : ℕ) (m : TextMethod) → New e (text_done e at (begins e) arguments o m)
    texts_new o Length = answers (value.Int (pos (length (text_of e.before o))) ∷ [])
    texts_new o CharAt =
        each_int e (ill_typed e) tt (argument arguments 1 ∷ []) _ (λ i none.
        unless_thrown e (begins e) StringIndexOutOfBoundsException (in_bounds i (length (text_of e.before o))) _ (first e here) (answers (value.Int (pos (slice_index_or (text_of e.before o) (natural_of i) 0)) ∷ [])))
    texts_new o Equals = answers (truth (is_text_like e o (argument arguments 1)) ∷ [])
    texts_new o Begin = answers []
    texts_new o BeginWith = where_not_null e (begins e) (referent_of (argument arguments 1)) _ (first e here) (λ x. rewrites_new (answering e at arguments [] (begins e)) o (text_of e.before x) (answers []))
    texts_new o ToString =
        let class : ℕ = class_called e.program (codes "java/lang/String") in
        rewrites_new (answering e at arguments (value.Ref (next_object (begins e)) ∷ []) (instance_made e class (begins e))) (next_object (begins e)) (text_of e.before o) (one_on_top class (drop (length arguments) (current_frame e).operands))
    texts_new o (Append kind) =
        rewrites_new (answering e at arguments (value.Ref o ∷ []) (begins e)) o (text_of e.before o ++ shown e.before kind (argument arguments 1)) (answers (value.Ref o ∷ []))
    texts_new o (Print kind) = answers []
    texts_new o (PrintLine kind) = answers []
    texts_new o EndLine = answers []

  -- THE ROW of System.out
  out_made_new : (slot : ℕ) → New e (out_read e at slot value.Unset (begins e))
  out_made_new slot =
      let class : ℕ = class_called e.program (codes "java/io/PrintStream") in
      let n : ℕ = length e.before.heap in
      let object : ObjectState = new_object class 0 (class_at e.program class).info.slots in
      let made : Doing = instance_made e class (begins e) in
      let read : Doing = doing_with_guest (with_static made.state.guest slot (value.Ref n)) made in
      let x : Doing = leaving_values e at (value.Ref n ∷ (current_frame e).operands) read in
      ends_reached e x (one_reached n x.state (length_push e.before.heap (Some object)) (on_top_reached e at n (current_frame e).operands read here))

  out_new : (slot : ℕ) (v : Value) → New e (out_read e at slot v (begins e))
  out_new slot (value.Ref o) = ended_new e at (value.Ref o ∷ (current_frame e).operands) (begins e) (first e here)
  out_new slot value.Unset = out_made_new slot
  out_new slot (value.Int n) = out_made_new slot
  out_new slot (value.Long n) = out_made_new slot
  out_new slot value.LongHigh = out_made_new slot
  out_new slot value.Null = out_made_new slot

row_new : (e : Moment) → Starts e → (call : TextCall) (r : Option ℕ) → New e (text_row e call r)
row_new e here call None = tt
row_new e here call (Some o) = unless_ill_typed e (is_fit_text e (begins e) call.arguments o call.method) _ (texts_new e here call.at call.arguments o call.method)

-- THE EVENT: the table's, with texts beside it
reaches_beside : (s : Kept) (o : Outcome Kept) → ReachesNew (silent s) o → ReachesNew s (keeping s.guest.texts o)
reaches_beside s (outcome.Goes next records) h = h
reaches_beside s (outcome.Waits next) h = h
reaches_beside s (outcome.IllTyped method pc) h = tt
reaches_beside s outcome.ObjectLimit h = tt

pub event_with_texts_reaches : (p : Linked) (s : Kept) (t : ℕ) → t < length s.guest.threads → ReachesNew s (event_with_texts p s t)
event_with_texts_reaches p s t lt =
    let e : Moment = moment p s t in
    each_way (λ o. ReachesNew s o) p s t (reaches_beside s (event p (silent s) t) (event_reaches p (silent s) t lt)) (λ call is. row_new e lt call _) (λ y is. let slot : ℕ = (field_at p y.field).slot in out_new e lt y.at slot (static_at s.guest slot))
