-- The plain instructions, constants, divisions, throws and monitors.
use Rattle.std.proofs.Common.{◌≡◌, ℕ, ◌≤◌, ◌++◌, Bool, true, false, ltb, List, [], ◌∷◌, length, Option, Some, None, refl, sym, ◌∙◌, ap, subst, arith, Contains}
use Rattle.std.specs.Prelude.{ℤ, option_map, slice_index_or}
use Rattle.std.specs.Int.{w32, w64}
use Rattle.std.proofs.lemmas.Bool.{lt-ltb}
use Rattle.std.proofs.lemmas.List.{length-map}
use Rattle.std.proofs.lemmas.Option.{none-some, same_Some}
use Rattle.et_base.specs.declared.value.Value.{Value}
use Rattle.et_base.specs.declared.value.Value.TheVariants as value
use Rattle.et_class.specs.PoolOperands.Operand.{Operand}
use Rattle.et_class.specs.PoolOperands.Operand.TheVariants as operand
use Rattle.et_event.specs.Calls.{returned_by}
use Rattle.et_event.specs.Moments.{Doing, Moment, begins, current_frame, goes, ill_typed, thread_of, with_frame}
use Rattle.et_event.specs.Monitors.{OfObject, may_enter, owns}
use Rattle.et_event.specs.Plain.{constant, divided, divides, frame_after, on_frame, put, quotient}
use Rattle.et_event.specs.Sites.{ALong, AString, AnInt, LoadedConstant, Site, constant_at, local_index, pool_index}
use Rattle.et_event.specs.Strings.{interned, string_object}
use Rattle.et_event.specs.Sync.{monitor_event}
use Rattle.et_event.specs.Throw.{is_throwable, throw}
use Rattle.et_event.specs.declared.errors.GuestError.TheVariants as errors
use Rattle.et_event.specs.declared.rows.Division.{Division}
use Rattle.et_event.specs.declared.rows.FrameRow.{FrameRow}
use Rattle.et_event.specs.declared.rows.FrameRow.TheVariants as row
use Rattle.et_event.specs.declared.rows.Local.{Local}
use Rattle.et_event.specs.declared.rows.Local.TheVariants.{Named}
use Rattle.et_event.specs.declared.rows.MonitorRow.{MonitorRow}
use Rattle.et_event.specs.declared.rows.MonitorRow.TheVariants as monitor
use Rattle.et_event.specs.declared.rows.Number.{Number}
use Rattle.et_event.specs.declared.rows.Number.TheVariants as number
use Rattle.et_event.specs.declared.rows.Rearrangement.{Rearrangement}
use Rattle.et_event.specs.declared.rows.Row.TheVariants as rows
use Rattle.et_heap.specs.Objects.{referent_value}
use Rattle.et_state.specs.Threads.{FrameState}
use Rattle.et_flow.specs.declared.types.EntryType.{EntryType}
use Rattle.et_flow.specs.declared.types.EntryType.TheVariants as entry
use Rattle.et_verify.specs.Effects.{giving, kind_of_constant, taking}
use Rattle.et_verify.specs.Leads.{goes_past, next_places}
use Rattle.et_flow.specs.Stores.{holds}
use Rattle.et_verify.specs.Steps.{moved_where, where_holds}
use Rattle.et_flow.specs.Types.{TypesOf, operand_entries, type_of}
use Rattle.et_verify.proofs.Monotone.{int_is}
use Rattle.et_theorems.specs.typings.Typed.{Typings, Whole}
use Rattle.et_theorems.specs.typings.Values.{AreLocalsOf, AreOperandsOf}
use Rattle.et_theorems.proofs.typings.Here.{Here, behind_there, goes_on, leaves, never_refused, unless_refused}
use Rattle.et_theorems.proofs.typings.Moves.{Gives, gives, takes_all}
use Rattle.et_theorems.proofs.typings.Own.{LeavesTyped, ends_leave, pending_own, weak_frames}
use Rattle.et_theorems.proofs.typings.Plain.{Reaches, Steps, frame_steps, put_steps}
use Rattle.et_theorems.proofs.typings.Switching.{branch_there, switch_there}
use Rattle.et_theorems.proofs.typings.Taking.{int_taken, long_taken, reference_taken}
use Rattle.et_theorems.proofs.typings.Turned.{increased_steps, rearranged_steps, stored_int, stored_reference, stored_wide}
use Rattle.et_theorems.proofs.typings.Ways.{interned_threads, throws_here, unless_thrown, unless_waiting, where_not_null}

module _ (e : Moment) (typings : Typings) (m : ℕ) (at : Site) (r : FrameRow) (ts us : TypesOf) (here : Here e typings m at (rows.Frame r) ts us) where
  abbrev places : List ℕ
  places = next_places (current_frame e).pc at (rows.Frame r)

  frame_goes : (o : Option FrameState) → Steps (current_frame e) us places o → LeavesTyped e typings (on_frame e o)
  frame_goes o s =
      subst (λ (x : Option FrameState). LeavesTyped e typings (on_frame e x)) (sym s.is)
      (goes_on e typings m at (rows.Frame r) ts us here s.frame (begins e) refl s.same s.goes s.operands s.locals)

  -- where it may go
  reaches : Reaches places at r (current_frame e).pc
  reaches = record {
    next = λ past. behind_there (current_frame e).pc at (rows.Frame r) past;
    branch = λ c is. branch_there e (current_frame e).pc at r c is here.row;
    switch = λ is key. switch_there e (current_frame e).pc at r is key here.row;
  }

  past : goes_past (rows.Frame r) ≡ true → Contains places at.next
  past q = behind_there (current_frame e).pc at (rows.Frame r) q

holds_so : (b : Bool) (xs ys : List EntryType) → where_holds b xs ≡ Some ys → (b ≡ true) × (xs ≡ ys)
holds_so true xs ys q = (refl, same_Some xs ys q)
holds_so false xs ys q = cc

module _ (e : Moment) (typings : Typings) (m : ℕ) (at : Site) (ts us : TypesOf) where
  f : FrameState
  f = current_frame e

  stored_by : (kind : Operand) (local : Local) (here : Here e typings m at (rows.Frame (row.Store kind local)) ts us) → Steps (current_frame e) us (next_places (current_frame e).pc at (rows.Frame (row.Store kind local))) (frame_after at (row.Store kind local) (current_frame e))
  stored_by operand.Int local here =
      stored_int (current_frame e) ts us (next_places (current_frame e).pc at (rows.Frame (row.Store operand.Int local))) here.operands at.next (local_index local at) here.locals (takes_all (operand.Int ∷ []) ts.operands us.operands here.after.operands) here.after.locals
      (behind_there (current_frame e).pc at (rows.Frame (row.Store operand.Int local)) refl)
  stored_by operand.Long local here =
      stored_wide (current_frame e) ts us (next_places (current_frame e).pc at (rows.Frame (row.Store operand.Long local))) here.operands at.next (local_index local at) here.locals (takes_all (operand.Long ∷ []) ts.operands us.operands here.after.operands) here.after.locals
      (behind_there (current_frame e).pc at (rows.Frame (row.Store operand.Long local)) refl)
  stored_by operand.Reference local here =
      stored_reference (current_frame e) ts us (next_places (current_frame e).pc at (rows.Frame (row.Store operand.Reference local))) here.operands at.next (local_index local at) here.locals (takes_all (operand.Reference ∷ []) ts.operands us.operands here.after.operands) here.after.locals
      (behind_there (current_frame e).pc at (rows.Frame (row.Store operand.Reference local)) refl)

  added : (here : Here e typings m at (rows.Frame row.Increment) ts us) → Steps (current_frame e) us (next_places (current_frame e).pc at (rows.Frame row.Increment)) (frame_after at row.Increment (current_frame e))
  added here =
      let h = holds_so (holds operand.Int ts.locals (local_index Named at)) ts.locals us.locals here.after.locals in
      increased_steps (current_frame e) ts us (next_places (current_frame e).pc at (rows.Frame row.Increment)) at.next (local_index Named at) at.instr.second
      (here.operands ∙ takes_same here.after.operands) here.locals (int_is (slice_index_or ts.locals (local_index Named at) entry.Free) h.0) h.1 (behind_there (current_frame e).pc at (rows.Frame row.Increment) refl)
    where
      takes_same : moved_where (Some (taking [])) ts.operands ≡ Some us.operands → ts.operands ≡ us.operands
      takes_same q = same_Some ts.operands us.operands (takes_all [] ts.operands us.operands q)

  turned : (x : Rearrangement) (here : Here e typings m at (rows.Frame (row.Rearrange x)) ts us) → Steps (current_frame e) us (next_places (current_frame e).pc at (rows.Frame (row.Rearrange x))) (frame_after at (row.Rearrange x) (current_frame e))
  turned x here =
      rearranged_steps (current_frame e) ts us (next_places (current_frame e).pc at (rows.Frame (row.Rearrange x))) here.operands at.next x
      (subst (λ (xs : List EntryType). AreLocalsOf (current_frame e).locals xs) (same_Some ts.locals us.locals here.after.locals) here.locals) here.after.few here.after.operands
      (behind_there (current_frame e).pc at (rows.Frame (row.Rearrange x)) refl)

  -- ALL PLAIN ROWS
  steps : (r : FrameRow) (here : Here e typings m at (rows.Frame r) ts us) → Steps (current_frame e) us (next_places (current_frame e).pc at (rows.Frame r)) (frame_after at r (current_frame e))
  steps r here =
      frame_steps (returned_by e) at (current_frame e) ts us (next_places (current_frame e).pc at (rows.Frame r)) here.operands here.locals r here.after (reaches e typings m at r ts us here)
      (λ kind local is. subst (λ (x : FrameRow). Steps (current_frame e) us (next_places (current_frame e).pc at (rows.Frame x)) (frame_after at x (current_frame e))) (sym is) (stored_by kind local (subst (λ (x : FrameRow). Here e typings m at (rows.Frame x) ts us) is here)))
      (λ is. subst (λ (x : FrameRow). Steps (current_frame e) us (next_places (current_frame e).pc at (rows.Frame x)) (frame_after at x (current_frame e))) (sym is) (added (subst (λ (x : FrameRow). Here e typings m at (rows.Frame x) ts us) is here)))
      (λ x is. subst (λ (y : FrameRow). Steps (current_frame e) us (next_places (current_frame e).pc at (rows.Frame y)) (frame_after at y (current_frame e))) (sym is) (turned x (subst (λ (y : FrameRow). Here e typings m at (rows.Frame y) ts us) is here)))

  pub frame_typed : (r : FrameRow) (here : Here e typings m at (rows.Frame r) ts us) → LeavesTyped e typings (on_frame e (frame_after at r (current_frame e)))
  frame_typed r here = frame_goes e typings m at r ts us here (frame_after at r (current_frame e)) (steps r here)

  -- CONSTANTS, and quotients

  put_here : (here_locals : AreLocalsOf (current_frame e).locals us.locals) (ops : List Value) (places : List ℕ) → AreOperandsOf ops us.operands → length us.operands ≤ (current_frame e).room → Contains places at.next → Steps (current_frame e) us places (put at.next ops (current_frame e))
  put_here locals ops places are few goes = put_steps (current_frame e) us places at.next ops are locals few goes

  pub constant_typed : (here : Here e typings m at rows.PoolConstant ts us) → LeavesTyped e typings (constant e at (constant_at at.pool (pool_index at)))
  constant_typed here = by (constant_at at.pool (pool_index at)) here.after.operands
    where
      locals : AreLocalsOf (current_frame e).locals us.locals
      locals = subst (λ (xs : List EntryType). AreLocalsOf (current_frame e).locals xs) (same_Some ts.locals us.locals here.after.locals) here.locals

      places : List ℕ
      places = next_places (current_frame e).pc at rows.PoolConstant

      goes_so : (ops : List Value) → AreOperandsOf ops us.operands → LeavesTyped e typings (on_frame e (put at.next ops (current_frame e)))
      goes_so ops are =
          let s : Steps (current_frame e) us (next_places (current_frame e).pc at rows.PoolConstant) (put at.next ops (current_frame e)) =
          put_here locals ops (next_places (current_frame e).pc at rows.PoolConstant) are here.after.few (behind_there (current_frame e).pc at rows.PoolConstant refl) in
          subst (λ (x : Option FrameState). LeavesTyped e typings (on_frame e x)) (sym s.is) (goes_on e typings m at rows.PoolConstant ts us here s.frame (begins e) refl s.same s.goes s.operands s.locals)

      given : (kind : Operand) → moved_where (Some (giving [] kind)) ts.operands ≡ Some us.operands → us.operands ≡ operand_entries kind ++ ts.operands
      given kind q =
          let g : Gives [] kind ts.operands us.operands = gives [] kind ts.operands us.operands q in
          g.given ∙ ap (λ (xs : List EntryType). operand_entries kind ++ xs) (sym (same_Some ts.operands g.left g.taken))

      by : (o : Option LoadedConstant) → moved_where (option_map (λ kind. giving [] kind) (option_map kind_of_constant o)) ts.operands ≡ Some us.operands → LeavesTyped e typings (constant e at o)
      by None q = absurd (none-some us.operands q)
      by (Some (AnInt n)) q = goes_so (value.Int n ∷ (current_frame e).operands) (ap (λ (xs : List EntryType). entry.Int ∷ xs) here.operands ∙ sym (given operand.Int q))
      by (Some (ALong n)) q = goes_so (value.LongHigh ∷ value.Long n ∷ (current_frame e).operands) (ap (λ (xs : List EntryType). entry.LongHigh ∷ entry.Long ∷ xs) here.operands ∙ sym (given operand.Long q))
      by (Some (AString bytes)) q =
          let d : Doing = interned e bytes (begins e) in
          let long : length us.operands ≡ length (entry.Reference ∷ ts.operands) = ap length (given operand.Reference q) in
          let same : length (current_frame e).operands ≡ length ts.operands = sym (length-map (current_frame e).operands type_of) ∙ ap length here.operands in
          let few : length us.operands ≤ (current_frame e).room = here.after.few in
          never_refused e typings m at rows.PoolConstant ts us here (ltb (length (current_frame e).operands) (current_frame e).room) _
          (lt-ltb (length (current_frame e).operands) (current_frame e).room (omega (arith, long, same, few)))
          (ends_leave e typings (with_frame e (record (current_frame e) { pc = at.next; operands = value.Ref (string_object bytes d) ∷ (current_frame e).operands }) d)
          (leaves e typings m at rows.PoolConstant ts us here (value.Ref (string_object bytes d) ∷ (current_frame e).operands) d (interned_threads e bytes (begins e)) refl refl
          (ap (λ (xs : List EntryType). entry.Reference ∷ xs) here.operands ∙ sym (given operand.Reference q))))

  pub divide_typed : (n : Number) (o : Division) (here : Here e typings m at (rows.Divide n o) ts us) → LeavesTyped e typings (divides e at n o)
  divide_typed n o here = by n here
    where
      quotient_typed : (n : Number) (here : Here e typings m at (rows.Divide n o) ts us) (x : Option ℤ) (ops : ℤ → List Value) → ((k : ℤ) → AreOperandsOf (ops k) us.operands) → LeavesTyped e typings (quotient e at x ops)
      quotient_typed n here None ops are = throws_here e typings here.calm errors.ArithmeticException (begins e) refl
      quotient_typed n here (Some k) ops are =
          let s : Steps (current_frame e) us (next_places (current_frame e).pc at (rows.Divide n o)) (put at.next (ops k) (current_frame e)) =
          put_here (subst (λ (xs : List EntryType). AreLocalsOf (current_frame e).locals xs) (same_Some ts.locals us.locals here.after.locals) here.locals) (ops k) (next_places (current_frame e).pc at (rows.Divide n o)) (are k) here.after.few
          (behind_there (current_frame e).pc at (rows.Divide n o) refl) in
          subst (λ (x : Option FrameState). LeavesTyped e typings (on_frame e x)) (sym s.is) (goes_on e typings m at (rows.Divide n o) ts us here s.frame (begins e) refl s.same s.goes s.operands s.locals)

      by : (n : Number) (here : Here e typings m at (rows.Divide n o) ts us) → LeavesTyped e typings (divides e at n o)
      by number.Int h =
          let g : Gives (operand.Int ∷ operand.Int ∷ []) operand.Int ts.operands us.operands = gives (operand.Int ∷ operand.Int ∷ []) operand.Int ts.operands us.operands h.after.operands in
          int_taken (LeavesTyped e typings) (ill_typed e) (operand.Int ∷ []) (current_frame e).operands ts.operands g.left _ h.operands g.taken (λ b more rest are next.
          int_taken (LeavesTyped e typings) (ill_typed e) [] more rest g.left _ are next (λ a below rest2 are2 last.
          quotient_typed number.Int h (divided w32 o a b) (λ k. value.Int k ∷ below) (λ k. ap (λ (xs : List EntryType). entry.Int ∷ xs) (are2 ∙ same_Some rest2 g.left last) ∙ sym g.given)))
      by number.Long h =
          let g : Gives (operand.Long ∷ operand.Long ∷ []) operand.Long ts.operands us.operands = gives (operand.Long ∷ operand.Long ∷ []) operand.Long ts.operands us.operands h.after.operands in
          long_taken (LeavesTyped e typings) (ill_typed e) (operand.Long ∷ []) (current_frame e).operands ts.operands g.left _ h.operands g.taken (λ b more rest are next.
          long_taken (LeavesTyped e typings) (ill_typed e) [] more rest g.left _ are next (λ a below rest2 are2 last.
          quotient_typed number.Long h (divided w64 o a b) (λ k. value.LongHigh ∷ value.Long k ∷ below) (λ k. ap (λ (xs : List EntryType). entry.LongHigh ∷ entry.Long ∷ xs) (are2 ∙ same_Some rest2 g.left last) ∙ sym g.given)))

  -- THROWS AND MONITORS

  pub throw_typed : (here : Here e typings m at rows.Throw ts us) → LeavesTyped e typings (throw e)
  throw_typed here =
      reference_taken (LeavesTyped e typings) (ill_typed e) [] (current_frame e).operands ts.operands us.operands _ here.operands (takes_all (operand.Reference ∷ []) ts.operands us.operands here.after.operands) (λ z below rest stands are last.
      where_not_null e typings here.calm (begins e) z _ refl (λ o is.
      unless_refused e typings m at rows.Throw ts us here (is_throwable e o) _ (λ other. (o, ap (λ (vs : List Value). slice_index_or vs 0 value.Unset) stands ∙ ap referent_value is, other))
      (λ throwable. pending_own e typings o (begins e) here.calm.started (weak_frames e.program typings Whole (thread_of e).frames here.calm.frames))))

  pub monitor_typed : (r : MonitorRow) (here : Here e typings m at (rows.Monitor r) ts us) → LeavesTyped e typings (monitor_event e at r)
  monitor_typed monitor.Enter here =
      reference_taken (LeavesTyped e typings) (ill_typed e) [] (current_frame e).operands ts.operands us.operands _ here.operands (takes_all (operand.Reference ∷ []) ts.operands us.operands here.after.operands) (λ z below rest stands are last.
      where_not_null e typings here.calm (begins e) z _ refl (λ o is.
      unless_waiting e typings here.calm (may_enter e (begins e) (OfObject o)) _
      (leaves e typings m at (rows.Monitor monitor.Enter) ts us here below (begins e) refl refl refl (are ∙ same_Some rest us.operands last))))
  monitor_typed monitor.Exit here =
      reference_taken (LeavesTyped e typings) (ill_typed e) [] (current_frame e).operands ts.operands us.operands _ here.operands (takes_all (operand.Reference ∷ []) ts.operands us.operands here.after.operands) (λ z below rest stands are last.
      where_not_null e typings here.calm (begins e) z _ refl (λ o is.
      unless_thrown e typings here.calm (begins e) errors.IllegalMonitorStateException (owns e (begins e) (OfObject o)) _ refl
      (λ owned. leaves e typings m at (rows.Monitor monitor.Exit) ts us here below (begins e) refl refl refl (are ∙ same_Some rest us.operands last))))
