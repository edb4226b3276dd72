-- The built-in methods without code: what they answer is of the type that their descriptor returns.
use Rattle.std.proofs.Common.{◌≡◌, ℕ, ◌<◌, ◌++◌, ◌==◌, ◌&&◌, Bool, true, false, List, [], ◌∷◌, length, drop, Option, Some, None, refl, sym, ◌∙◌, ap, subst, arith}
use Rattle.std.specs.Prelude.{if◌then◌else◌, find, map, not, nat_lt, option_map, codes, unwrap_or}
use Rattle.std.specs.List.{list_all}
use Rattle.std.specs.Str.{bytes_eq}
use Rattle.std.proofs.lemmas.Bool.{and_parts, false≢true, not-true}
use Rattle.std.proofs.lemmas.Slice.Eq.{bytes_eq-Decides}
use Rattle.std.proofs.lemmas.List.{get_or_append_left, length-set}
use Rattle.std.proofs.lemmas.Option.{none-some, same_Some}
use Rattle.et_base.specs.declared.value.Value.{Value}
use Rattle.et_base.specs.declared.value.Value.TheVariants as value
use Rattle.et_class.specs.Descriptors.{after_dimensions, after_name, is_void, types_of, width_of}
use Rattle.et_class.specs.Names.{has}
use Rattle.et_class.specs.Operands.{operand_kind}
use Rattle.et_class.specs.PoolOperands.Operand.{Operand}
use Rattle.et_class.specs.PoolOperands.Operand.TheVariants as operand
use Rattle.et_class.specs.declared.flags.TheConstants.{ABSTRACT}
use Rattle.et_event.specs.BuiltIns.{answering, argument, done_by, entries_answered, has_thread_ended, is_fit_for, reference_in, row_done, starts_thread, with_thread_for}
use Rattle.et_event.specs.Errors.{class_called}
use Rattle.et_event.specs.Kinds.{or_zero}
use Rattle.et_event.specs.Moments.{Doing, Moment, begins, current_frame, goes, slot_written, thread_of}
use Rattle.et_event.specs.Sites.{Site}
use Rattle.et_event.specs.Sound.{is_of_kind, returned_of}
use Rattle.et_event.specs.declared.errors.GuestError.TheVariants as errors
use Rattle.et_event.specs.declared.rows.CallKind.{CallKind}
use Rattle.et_event.specs.declared.rows.CallRow.TheVariants as call
use Rattle.et_event.specs.declared.rows.Row.TheVariants as rows
use Rattle.et_event.specs.Calls.{arguments_of, entry_count, is_static_call}
use Rattle.et_heap.specs.Objects.{ObjectState, Objects, at, found, object_at, referent_value, slot_of}
use Rattle.et_heap.specs.Queues.{first_value}
use Rattle.et_program.specs.BootMethods.BuiltIn.{BuiltIn}
use Rattle.et_program.specs.BootMethods.BuiltIn.TheVariants as built
use Rattle.et_program.specs.BootTable.{built_ins, is_called}
use Rattle.et_program.specs.BuiltIns.{built_in_of}
use Rattle.et_program.specs.Entries.{Linked, method_at}
use Rattle.et_program.specs.Members.{is_subclass}
use Rattle.et_program.specs.declared.info.MethodInfo.{MethodInfo}
use Rattle.et_history.proofs.soundness.Calling.{returned_as}
use Rattle.et_state.specs.Outcome.{Outcome}
use Rattle.et_state.specs.State.{Kept}
use Rattle.et_state.specs.Threads.{ThreadState, most_threads, new_thread, no_thread, thread_with, with_top_of}
use Rattle.et_flow.specs.declared.types.EntryType.{EntryType}
use Rattle.et_flow.specs.declared.types.EntryType.TheVariants as entry
use Rattle.et_verify.specs.Effects.{result_kind, returned_kind}
use Rattle.et_verify.specs.Steps.{with_given}
use Rattle.et_flow.specs.Types.{TypesOf, operand_entries, type_of}
use Rattle.et_theorems.specs.typings.Typed.{HasTypedSlots, IsTypedThread, Typings}
use Rattle.et_theorems.specs.typings.Values.{AreOperandsOf}
use Rattle.et_theorems.proofs.typings.CallRows.{Calls, DoesBuiltIn, built_in_refuses, left_operands}
use Rattle.et_theorems.proofs.typings.Here.{Here, leaves, unless_refused}
use Rattle.et_theorems.proofs.typings.Own.{LeavesTyped, Own, own_by, slot_threads}
use Rattle.et_theorems.proofs.typings.Ways.{throws_here, unless_thrown, unless_waiting}

-- THE TABLE: nothing is answered where nothing is returned, and else a reference

abbrev is_reference_kind : Option Operand → Bool
is_reference_kind (Some operand.Reference) = true
is_reference_kind other = false

abbrev pub answers_as : ℕ → List ℕ → Bool
answers_as entries returned = if entries == 0 then is_void returned else (not (is_void returned) && is_reference_kind (operand_kind returned))

abbrev pub described : List ℕ → MethodInfo
described descriptor = record { class = 0; name = []; descriptor = descriptor; flags = 0; code = None; deferred = false }

abbrev row_answers : List ℕ × List ℕ × BuiltIn → Bool
row_answers row = answers_as (entries_answered row.2) (returned_of (described row.1))

all_answer : list_all row_answers built_ins ≡ true
unfolding types_of after_dimensions after_name
all_answer = refl

answers_by : (m : MethodInfo) (b : BuiltIn) (rs : List (List ℕ × List ℕ × BuiltIn)) → list_all row_answers rs ≡ true → option_map (λ (row : List ℕ × List ℕ × BuiltIn). row.2) (find (is_called m.name m.descriptor) rs) ≡ Some b → answers_as (entries_answered b) (returned_of m) ≡ true
answers_by m b [] all e = absurd (none-some b e)
answers_by m b (row ∷ rs) all e = by (is_called m.name m.descriptor row) refl e (answers_by m b rs parts.1)
  where
    parts : (row_answers row ≡ true) × (list_all row_answers rs ≡ true)
    parts = and_parts (row_answers row) (list_all row_answers rs) all

    by : (x : Bool) → is_called m.name m.descriptor row ≡ x → option_map (λ (r : List ℕ × List ℕ × BuiltIn). r.2) (if x then Some row else find (is_called m.name m.descriptor) rs) ≡ Some b
        → (option_map (λ (r : List ℕ × List ℕ × BuiltIn). r.2) (find (is_called m.name m.descriptor) rs) ≡ Some b → answers_as (entries_answered b) (returned_of m) ≡ true) → answers_as (entries_answered b) (returned_of m) ≡ true
    by true is q more =
        let type : row.1 ≡ m.descriptor = (bytes_eq-Decides row.1 m.descriptor).0 (and_parts (bytes_eq row.0 m.name) (bytes_eq row.1 m.descriptor) is).1 in
        let same : row.2 ≡ b = same_Some row.2 b q in
        subst (λ (k : BuiltIn). answers_as (entries_answered k) (returned_of m) ≡ true) same (subst (λ (d : List ℕ). answers_as (entries_answered row.2) (returned_of (described d)) ≡ true) type parts.0)
    by false is q more = more q

answers_typed : (m : MethodInfo) (b : BuiltIn) → built_in_of m ≡ Some b → answers_as (entries_answered b) (returned_of m) ≡ true
answers_typed m b e = by (has m.flags ABSTRACT) e
  where
    by : (x : Bool) → (if x then None else option_map (λ (row : List ℕ × List ℕ × BuiltIn). row.2) (find (is_called m.name m.descriptor) built_ins)) ≡ Some b → answers_as (entries_answered b) (returned_of m) ≡ true
    by true q = absurd (none-some b q)
    by false q = answers_by m b built_ins all_answer q

-- .. so what is left is of the types after it

pub nothing_given : (returned : List ℕ) (left : List EntryType) → answers_as 0 returned ≡ true → with_given (returned_kind returned) left ≡ left
nothing_given returned left h = ap (λ (b : Bool). with_given (if b then None else Some (result_kind returned)) left) h

pub reference_given : (returned : List ℕ) (left : List EntryType) → answers_as 1 returned ≡ true → with_given (returned_kind returned) left ≡ entry.Reference ∷ left
reference_given returned left h =
    let p = and_parts (not (is_void returned)) (is_reference_kind (operand_kind returned)) h in
    ap (λ (b : Bool). with_given (if b then None else Some (result_kind returned)) left) (not-true (is_void returned) p.0) ∙ by (operand_kind returned) p.1
  where
    by : (k : Option Operand) → is_reference_kind k ≡ true → operand_entries (unwrap_or k (if width_of returned == 2 then operand.Long else operand.Int)) ++ left ≡ entry.Reference ∷ left
    by None q = absurd (false≢true q)
    by (Some operand.Int) q = absurd (false≢true q)
    by (Some operand.Long) q = absurd (false≢true q)
    by (Some operand.Reference) q = refl

-- WHAT IS READ

reference_read : (v : Value) → is_of_kind (Some operand.Reference) v ≡ true → type_of (or_zero (Some operand.Reference) v) ≡ entry.Reference
reference_read value.Unset h = refl
reference_read (value.Int n) h = absurd (false≢true h)
reference_read (value.Long n) h = absurd (false≢true h)
reference_read value.LongHigh h = absurd (false≢true h)
reference_read value.Null h = refl
reference_read (value.Ref o) h = refl

referent_type : (r : Option ℕ) → type_of (referent_value r) ≡ entry.Reference
referent_type None = refl
referent_type (Some o) = refl

first_type : (waiting : List ℕ) → type_of (first_value waiting) ≡ entry.Reference
first_type [] = refl
first_type (o ∷ more) = refl

-- the message or the cause of a Throwable
slot_typed : (p : Linked) (heap : Objects) (o i : ℕ) → ((k : ℕ) (x : ObjectState) → at heap k ≡ Some x → HasTypedSlots p x) → is_subclass p (object_at heap o).class (class_called p (codes "java/lang/Throwable")) ≡ true → i < 2
    → is_of_kind (Some operand.Reference) (slot_of (object_at heap o) i) ≡ true
slot_typed p heap o i objects below lt = by (at heap o) refl below
  where
    by : (x : Option ObjectState) → at heap o ≡ x → is_subclass p (found x).class (class_called p (codes "java/lang/Throwable")) ≡ true → is_of_kind (Some operand.Reference) (slot_of (found x) i) ≡ true
    by None q b = refl
    by (Some x) q b = objects o x q b i lt

module _ (e : Moment) (typings : Typings) (m : ℕ) (at : Site) (kind : CallKind) (ts us : TypesOf) (here : Here e typings m at (rows.Call (call.Invoke kind)) ts us) (c : Calls at (is_static_call kind) ts.operands us.operands) where
  abbrev P : Outcome Kept → Type 0
  P o = LeavesTyped e typings o

  abbrev args : List Value
  args = arguments_of e (entry_count (is_static_call kind) c.type)

  left_are : AreOperandsOf (drop (length args) (current_frame e).operands) c.left
  left_are = left_operands e typings m at kind ts us here c

  -- it answers these entries
  answers : (values : List Value) → AreOperandsOf (values ++ drop (length args) (current_frame e).operands) us.operands → Own e typings (answering e at args values (begins e))
  answers values are = leaves e typings m at (rows.Call (call.Invoke kind)) ts us here (values ++ drop (length args) (current_frame e).operands) (begins e) refl refl refl are

  module _ (o : ℕ) (b : BuiltIn) (fits : answers_as (entries_answered b) c.type.returned ≡ true) where
    nothing : entries_answered b ≡ 0 → Own e typings (answering e at args [] (begins e))
    nothing none =
        answers [] (left_are ∙ sym (c.given ∙ nothing_given c.type.returned c.left (subst (λ (n : ℕ). answers_as n c.type.returned ≡ true) none fits)))

    one : (v : Value) → entries_answered b ≡ 1 → type_of v ≡ entry.Reference → Own e typings (answering e at args (v ∷ []) (begins e))
    one v single is =
        answers (v ∷ []) (ap (λ (t : EntryType). t ∷ map type_of (drop (length args) (current_frame e).operands)) is
        ∙ (ap (λ (xs : List EntryType). entry.Reference ∷ xs) left_are ∙ sym (c.given ∙ reference_given c.type.returned c.left (subst (λ (n : ℕ). answers_as n c.type.returned ≡ true) single fits))))

    wrote : (i : ℕ) (v : Value) (d : Doing) → Own e typings d → Own e typings (slot_written e o i v d)
    wrote i v d h = own_by e typings d (slot_written e o i v d) (slot_threads e o i v d) h

  started_own : (o : ℕ) (d : Doing) → e.thread < length d.state.guest.threads → Own e typings d → Own e typings (with_thread_for o d)
  started_own o d lt h =
      subst (λ (x : ThreadState). IsTypedThread e.program typings x) (sym (get_or_append_left d.state.guest.threads (new_thread None (Some o) ∷ []) no_thread e.thread lt)) h

  started_length : (values : List Value) → e.thread < length (answering e at args values (begins e)).state.guest.threads
  started_length values = omega (arith, here.calm.started, length-set e.before.guest.threads e.thread (with_top_of (thread_of e) (record (current_frame e) { pc = at.next; operands = values ++ drop (length args) (current_frame e).operands })))

  done_typed : (o : ℕ) (b : BuiltIn) → answers_as (entries_answered b) c.type.returned ≡ true → is_fit_for e (begins e) o b ≡ true → P (row_done e at (begins e) args o b)
  done_typed o built.Nothing fits fit = nothing o built.Nothing fits refl
  done_typed o built.SetMessage fits fit = wrote o built.SetMessage fits 0 (argument args 1) (answering e at args [] (begins e)) (nothing o built.SetMessage fits refl)
  done_typed o built.SetMessageAndCause fits fit =
      let x : Doing = slot_written e o 0 (argument args 1) (answering e at args [] (begins e)) in
      wrote o built.SetMessageAndCause fits 1 (argument args 2) x (wrote o built.SetMessageAndCause fits 0 (argument args 1) (answering e at args [] (begins e)) (nothing o built.SetMessageAndCause fits refl))
  done_typed o built.GetMessage fits fit =
      one o built.GetMessage fits (reference_in (begins e) o 0) refl (reference_read (slot_of (object_at e.before.heap o) 0) (slot_typed e.program e.before.heap o 0 here.calm.objects fit (omega arith)))
  done_typed o built.GetCause fits fit =
      one o built.GetCause fits (reference_in (begins e) o 1) refl (reference_read (slot_of (object_at e.before.heap o) 1) (slot_typed e.program e.before.heap o 1 here.calm.objects fit (omega arith)))
  done_typed o built.SetTarget fits fit = wrote o built.SetTarget fits 0 (argument args 1) (answering e at args [] (begins e)) (nothing o built.SetTarget fits refl)
  done_typed o built.Start fits fit = by (thread_with (begins e).state.guest.threads o)
    where
      go : Outcome Kept
      go = goes (with_thread_for o (answering e at args [] (begins e)))

      by : (t : Option ℕ) → P (starts_thread e (begins e) o (goes (with_thread_for o (answering e at args [] (begins e)))) t)
      by (Some k) = throws_here e typings here.calm errors.IllegalThreadStateException (begins e) refl
      by None =
          unless_thrown e typings here.calm (begins e) errors.OutOfMemoryError (nat_lt (length (begins e).state.guest.threads) most_threads) _ refl
          (λ few. started_own o (answering e at args [] (begins e)) (started_length []) (nothing o built.Start fits refl))
  done_typed o built.Join fits fit = unless_waiting e typings here.calm (has_thread_ended (begins e) (thread_with (begins e).state.guest.threads o)) _ (nothing o built.Join fits refl)
  done_typed o built.SetReferent fits fit = nothing o built.SetReferent fits refl
  done_typed o built.SetReferentAndQueue fits fit = nothing o built.SetReferentAndQueue fits refl
  done_typed o built.GetReferent fits fit = one o built.GetReferent fits (referent_value (object_at e.before.heap o).referent) refl (referent_type (object_at e.before.heap o).referent)
  done_typed o built.ClearReferent fits fit = nothing o built.ClearReferent fits refl
  done_typed o built.Poll fits fit = one o built.Poll fits (first_value (object_at e.before.heap o).waiting) refl (first_type (object_at e.before.heap o).waiting)

  pub built_in_typed : DoesBuiltIn e typings m at kind ts us here c
  built_in_typed owner n k o so chosen receiver called =
      subst (λ (r : Option ℕ). P (done_by e at (begins e) args r (built_in_of (method_at e.program k)))) (sym receiver) (by (built_in_of (method_at e.program k)) refl)
    where
      by : (x : Option BuiltIn) → built_in_of (method_at e.program k) ≡ x → P (done_by e at (begins e) args (Some o) x)
      by None q = throws_here e typings here.calm errors.AbstractMethodError (begins e) refl
      by (Some b) q =
          unless_refused e typings m at (rows.Call (call.Invoke kind)) ts us here (is_fit_for e (begins e) o b) _
          (λ unfit. built_in_refuses e typings m at kind ts us here c owner n o k b so receiver chosen q unfit)
          (λ fit. done_typed o b (subst (λ (r : List ℕ). answers_as (entries_answered b) r ≡ true) (returned_as e kind c.member c.type k c.typed called) (answers_typed (method_at e.program k) b q)) fit)
