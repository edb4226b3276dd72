-- What the instructions make that enter and leave no frame is reached after them.
use Rattle.std.proofs.Common.{◌≡◌, ℕ, zero, suc, ◌+◌, ◌<◌, false, List, [], ◌∷◌, ◌++◌, length, Option, Some, None, refl, ap, arith}
use Rattle.std.specs.Int.{w32, w64}
use Rattle.std.specs.Prelude.{ℤ, pos, int_le, not, nat_le, nat_lt, unwrap_or}
use Rattle.std.specs.List.{list_all}
use Rattle.std.proofs.lemmas.List.{length_push}
use Rattle.et_base.specs.declared.value.Value.{Value}
use Rattle.et_base.specs.declared.value.Value.TheVariants.{Int, Long, LongHigh, Null, Ref}
use Rattle.et_base.proofs.Lists.{Contains-here}
use Rattle.et_graph.specs.Graph.{IsReached}
use Rattle.et_graph.proofs.Walks.{reached_on}
use Rattle.et_pool.specs.Descriptors.{is_field_descriptor}
use Rattle.et_program.specs.Entries.{class_at, field_at}
use Rattle.et_program.specs.Members.{base_array, is_subclass}
use Rattle.et_program.specs.Types.{passes}
use Rattle.et_program.specs.Resolution.{resolve_class, resolve_field}
use Rattle.et_heap.specs.Objects.{ObjectState, new_object, object_at, slot_of}
use Rattle.et_state.specs.Threads.{FrameState, as_ended, with_pending}
use Rattle.et_state.specs.Roots.{graph_of}
use Rattle.et_state.specs.State.{GuestState, Kept}
use Rattle.et_state.specs.Words.{thread_at, static_at}
use Rattle.et_state.specs.Outcome.{Outcome}
use Rattle.et_state.proofs.Places.{operand_root}
use Rattle.et_state.proofs.Steps.{with_top_root}
use Rattle.et_state.proofs.UnderWay.{root_is_reached}
use Rattle.et_event.specs.declared.rows.Division.{Division}
use Rattle.et_event.specs.declared.rows.Elements.{Elements}
use Rattle.et_event.specs.declared.rows.HeapRow.{HeapRow}
use Rattle.et_event.specs.declared.rows.HeapRow.TheVariants as row
use Rattle.et_event.specs.declared.rows.MonitorRow.{MonitorRow}
use Rattle.et_event.specs.declared.rows.MonitorRow.TheVariants.{Enter, Exit}
use Rattle.et_event.specs.declared.rows.Number.{Number}
use Rattle.et_event.specs.declared.rows.Number.TheVariants as number
use Rattle.et_event.specs.declared.errors.GuestError.TheVariants as errors
use Rattle.et_event.specs.Checks.{Reference, entries_of}
use Rattle.et_event.specs.Heap.{naturals, field_fits, is_out, is_static_at, element_of_array, length_of, passes_element, may_be_made, leaving_values, with_field, with_class, with_holder, with_element, resolved_class, resolved_field, get_static, put_static, get_field, put_field, load_element, store_element, array_length, new_instance, new_array_of, new_array, new_reference_array, with_lengths, arrays_made, new_multi_array, cast, type_tested, truth, heap_event}
use Rattle.et_event.specs.Moments.{Moment, Doing, object_class, current_frame, thread_of, begins, next_object, instance_made, array_made, slot_written, static_written, pending_now, with_frame, with_thread_state, ill_typed, ends_event, goes}
use Rattle.et_event.specs.Monitors.{OfObject, monitor_of, may_enter, owns, entered, left, left_once}
use Rattle.et_event.specs.Kinds.{kind_of_field, or_zero, narrowed, are_elements, in_bounds, is_array_element, kept_element, kind_of_elements}
use Rattle.et_event.specs.Operands.{operand_kind}
use Rattle.et_event.specs.Plain.{on_frame, constant, divided, quotient, divides, put}
use Rattle.et_event.specs.Sites.{Site, Member, LoadedConstant, AnInt, ALong, AString, site_member, class_operand, natural_of}
use Rattle.et_event.specs.Strings.{interned, string_object}
use Rattle.et_event.specs.Sync.{monitor_event, end_of_thread}
use Rattle.et_event.specs.Throw.{is_throwable, throw}
use Rattle.et_history.proofs.NewStrings.{OfStrings, first, thread_strings, top_strings, slot_strings, static_strings, monitor_strings, interned_strings}
use Rattle.et_history.proofs.NewArrays.{Planted, arrays_planted}
use Rattle.et_history.proofs.NewWays.{New, reached_beyond, one_reached, goes_new, ends_reached, ends_new, throws_new, unless_ill_typed, unless_thrown, where_resolved, where_not_null, unless_waiting, initialized_new, each_int, each_long, each_reference, each_value}

-- the thread of the event was started
abbrev pub Starts : Moment → Type 0
Starts e = e.thread < length e.before.guest.threads

pub on_top : (e : Moment) (pc : ℕ) (ops : List Value) (d : Doing) → OfStrings e d.state → OfStrings e (with_frame e (record (current_frame e) { pc = pc; operands = ops }) d).state
on_top e pc ops d h = top_strings e (record (current_frame e) { pc = pc; operands = ops }) d h

pub leaving_strings : (e : Moment) (at : Site) (ops : List Value) (d : Doing) → OfStrings e d.state → OfStrings e (leaving_values e at ops d).state
leaving_strings e at ops d h = on_top e at.next ops d h

pub done_new : (e : Moment) (at : Site) (ops : List Value) → Starts e → New e (goes (leaving_values e at ops (begins e)))
done_new e at ops here = goes_new e (leaving_values e at ops (begins e)) (leaving_strings e at ops (begins e) (first e here))

pub ended_new : (e : Moment) (at : Site) (ops : List Value) (d : Doing) → OfStrings e d.state → New e (ends_event (leaving_values e at ops d))
ended_new e at ops d h = ends_new e (leaving_values e at ops d) (leaving_strings e at ops d h)

written_new : (e : Moment) (at : Site) (o i : ℕ) (v : Value) (ops : List Value) → Starts e → New e (goes (slot_written e o i v (leaving_values e at ops (begins e))))
written_new e at o i v ops here =
    goes_new e (slot_written e o i v (leaving_values e at ops (begins e))) (slot_strings e o i v (leaving_values e at ops (begins e)) (leaving_strings e at ops (begins e) (first e here)))

-- WHAT IS NAMED

field_new : (e : Moment) (o : Option Member) (go : Member → Outcome Kept) → ((m : Member) → New e (go m)) → New e (with_field e o go)
field_new e None go h = tt
field_new e (Some m) go h = unless_ill_typed e (is_field_descriptor m.descriptor) (go m) (h m)

class_new : (e : Moment) (o : Option (List ℕ)) (go : List ℕ → Outcome Kept) → ((name : List ℕ) → New e (go name)) → New e (with_class e o go)
class_new e None go h = tt
class_new e (Some name) go h = h name

class_resolved : (e : Moment) (name : List ℕ) (go : ℕ → Outcome Kept) → Starts e → ((c : ℕ) → New e (go c)) → New e (resolved_class e (begins e) name go)
class_resolved e name go here h = where_resolved e (begins e) (resolve_class e.program name) go (first e here) h

field_resolved : (e : Moment) (m : Member) (go : ℕ → Outcome Kept) → Starts e → ((f : ℕ) → New e (go f)) → New e (resolved_field e (begins e) m go)
field_resolved e m go here h = class_resolved e m.owner _ here (λ owner. where_resolved e (begins e) (resolve_field e.program owner m.name m.descriptor) go (first e here) h)

-- FIELDS

get_static_new : (e : Moment) (at : Site) → Starts e → New e (get_static e at)
get_static_new e at here =
    field_new e (site_member at) _ (λ m.
    unless_ill_typed e (field_fits e (current_frame e).operands m) _ (
    field_resolved e m _ here (λ f.
    unless_thrown e (begins e) errors.IncompatibleClassChangeError (is_static_at e.program f) _ (first e here) (
    initialized_new e (begins e) (field_at e.program f).class _ (first e here) (λ d h.
    ended_new e at (entries_of (or_zero (operand_kind m.descriptor) (static_at d.state.guest (field_at e.program f).slot)) ++ (current_frame e).operands) d h)))))

put_static_new : (e : Moment) (at : Site) → Starts e → New e (put_static e at)
put_static_new e at here =
    field_new e (site_member at) _ (λ m.
    each_value e (ill_typed e) tt (kind_of_field m.descriptor) (current_frame e).operands _ (λ v below.
    field_resolved e m _ here (λ f.
    unless_thrown e (begins e) errors.IncompatibleClassChangeError (is_static_at e.program f) _ (first e here) (
    unless_thrown e (begins e) errors.NoSuchFieldError (not (is_out e.program f)) _ (first e here) (
    initialized_new e (begins e) (field_at e.program f).class _ (first e here) (λ d h.
    ends_new e (static_written e (field_at e.program f).slot (narrowed m.descriptor v) (leaving_values e at below d))
    (static_strings e (field_at e.program f).slot (narrowed m.descriptor v) (leaving_values e at below d) (leaving_strings e at below d h))))))))

holder_new : (e : Moment) (f : ℕ) (r : Reference) (go : ℕ → Outcome Kept) → Starts e → ((o : ℕ) → New e (go o)) → New e (with_holder e (begins e) f r go)
holder_new e f r go here h =
    where_not_null e (begins e) r _ (first e here) (λ o. unless_ill_typed e (is_subclass e.program (object_class (begins e) o) (field_at e.program f).class) (go o) (h o))

get_field_new : (e : Moment) (at : Site) → Starts e → New e (get_field e at)
get_field_new e at here =
    field_new e (site_member at) _ (λ m.
    each_reference e (ill_typed e) tt (current_frame e).operands _ (λ r below.
    unless_ill_typed e (field_fits e below m) _ (
    field_resolved e m _ here (λ f.
    unless_thrown e (begins e) errors.IncompatibleClassChangeError (not (is_static_at e.program f)) _ (first e here) (
    holder_new e f r _ here (λ o.
    done_new e at (entries_of (or_zero (operand_kind m.descriptor) (slot_of (object_at e.before.heap o) (field_at e.program f).slot)) ++ below) here))))))

put_field_new : (e : Moment) (at : Site) → Starts e → New e (put_field e at)
put_field_new e at here =
    field_new e (site_member at) _ (λ m.
    each_value e (ill_typed e) tt (kind_of_field m.descriptor) (current_frame e).operands _ (λ v more.
    each_reference e (ill_typed e) tt more _ (λ r below.
    field_resolved e m _ here (λ f.
    unless_thrown e (begins e) errors.IncompatibleClassChangeError (not (is_static_at e.program f)) _ (first e here) (
    holder_new e f r _ here (λ o. written_new e at o (field_at e.program f).slot (narrowed m.descriptor v) below here))))))

-- ELEMENTS

element_new : (e : Moment) (kind : Elements) (r : Reference) (i : ℤ) (go : ℕ → Outcome Kept) → Starts e → ((o : ℕ) → New e (go o)) → New e (with_element e kind r i go)
element_new e kind r i go here h =
    where_not_null e (begins e) r _ (first e here) (λ o.
    unless_ill_typed e (are_elements kind (element_of_array e o)) _ (
    unless_thrown e (begins e) errors.ArrayIndexOutOfBoundsException (in_bounds i (length_of e o)) (go o) (first e here) (h o)))

load_element_new : (e : Moment) (at : Site) (kind : Elements) → Starts e → New e (load_element e at kind)
load_element_new e at kind here =
    each_int e (ill_typed e) tt (current_frame e).operands _ (λ i more.
    each_reference e (ill_typed e) tt more _ (λ r below.
    element_new e kind r i _ here (λ o.
    done_new e at (entries_of (or_zero (Some (kind_of_elements kind)) (slot_of (object_at e.before.heap o) (natural_of i))) ++ below) here)))

store_element_new : (e : Moment) (at : Site) (kind : Elements) → Starts e → New e (store_element e at kind)
store_element_new e at kind here =
    each_value e (ill_typed e) tt (Some (kind_of_elements kind)) (current_frame e).operands _ (λ v most.
    each_int e (ill_typed e) tt most _ (λ i more.
    each_reference e (ill_typed e) tt more _ (λ r below.
    element_new e kind r i _ here (λ o.
    unless_thrown e (begins e) errors.ArrayStoreException (passes_element e v (element_of_array e o)) (goes (slot_written e o (natural_of i) (kept_element kind v) (leaving_values e at below (begins e)))) (first e here)
    (written_new e at o (natural_of i) (kept_element kind v) below here)))))

array_length_new : (e : Moment) (at : Site) → Starts e → New e (array_length e at)
array_length_new e at here =
    each_reference e (ill_typed e) tt (current_frame e).operands _ (λ r below.
    where_not_null e (begins e) r _ (first e here) (λ o. unless_ill_typed e (is_array_element (element_of_array e o)) _ (done_new e at (Int (pos (length_of e o)) ∷ below) here)))

-- MAKING: what is made stands on top of the operands

pub on_top_reached : (e : Moment) (at : Site) (o : ℕ) (ops : List Value) (d : Doing) → e.thread < length d.state.guest.threads → IsReached (graph_of (leaving_values e at (Ref o ∷ ops) d).state) o
on_top_reached e at o ops d lt =
    let f : FrameState = record (current_frame e) { pc = at.next; operands = Ref o ∷ ops } in
    root_is_reached (leaving_values e at (Ref o ∷ ops) d).state o (with_top_root d.state.guest e.thread f o lt (operand_root f 0 o (omega arith) (Contains-here o [])))

new_instance_new : (e : Moment) (at : Site) → Starts e → New e (new_instance e at)
new_instance_new e at here =
    class_new e (class_operand at) _ (λ name.
    unless_ill_typed e (nat_le (1 + length (current_frame e).operands) (current_frame e).room) _ (
    class_resolved e name _ here (λ class.
    unless_thrown e (begins e) errors.InstantiationError (may_be_made e.program class) _ (first e here) (
    initialized_new e (begins e) class _ (first e here) (λ d h.
    let object : ObjectState = new_object class 0 (class_at e.program class).info.slots in
    let x : Doing = leaving_values e at (Ref (next_object d) ∷ (current_frame e).operands) (instance_made e class d) in
    ends_reached e x
    (reached_beyond e d.state x.state h refl
    (one_reached (next_object d) x.state (length_push d.state.heap (Some object)) (on_top_reached e at (next_object d) (current_frame e).operands (instance_made e class d) h.thread))))))))

array_of_new : (e : Moment) (at : Site) (class : ℕ) (elements : ℤ) (below : List Value) → Starts e → New e (new_array_of e at class elements below)
array_of_new e at class elements below here =
    let n : ℕ = natural_of elements in
    let d : Doing = begins e in
    let x : Doing = leaving_values e at (Ref (next_object d) ∷ below) (array_made e class n d) in
    unless_thrown e d errors.NegativeArraySizeException (int_le (pos 0) elements) _ (first e here)
    (ends_reached e x
    (reached_beyond e d.state x.state (first e here) refl
    (one_reached (next_object d) x.state (length_push d.state.heap (Some (new_object class n n))) (on_top_reached e at (next_object d) below (array_made e class n d) here))))

new_array_new : (e : Moment) (at : Site) → Starts e → New e (new_array e at)
new_array_new e at here =
    each_int e (ill_typed e) tt (current_frame e).operands _ (λ elements below. array_of_new e at (unwrap_or (base_array e.program (natural_of at.instr.first)) 0) elements below here)

new_reference_array_new : (e : Moment) (at : Site) → Starts e → New e (new_reference_array e at)
new_reference_array_new e at here =
    class_new e (class_operand at) _ (λ name.
    each_int e (ill_typed e) tt (current_frame e).operands _ (λ elements below.
    class_resolved e name _ here (λ class. array_of_new e at (unwrap_or (class_at e.program class).array 0) elements below here)))

lengths_new : (e : Moment) (n : ℕ) (found : List ℤ) (ops : List Value) (go : List ℤ → List Value → Outcome Kept) → ((ls : List ℤ) (below : List Value) → New e (go ls below)) → New e (with_lengths n found (ill_typed e) ops go)
lengths_new e zero found ops go h = h found ops
lengths_new e (suc n) found ops go h = each_int e (ill_typed e) tt ops _ (λ i below. lengths_new e n (i ∷ found) below go h)

-- of several dimensions: the first array is on top, and from it a path leads to the others
multi_new : (e : Moment) (at : Site) (class : ℕ) (ls : List ℤ) (below : List Value) → Starts e → New e (ends_event (leaving_values e at (Ref (next_object (begins e)) ∷ below) (arrays_made e class (naturals ls) (begins e))))
multi_new e at class [] below here = ended_new e at (Ref (next_object (begins e)) ∷ below) (begins e) (first e here)
multi_new e at class (l ∷ ls) below here =
    let d : Doing = begins e in
    let o : ℕ = next_object d in
    let y : Doing = arrays_made e class (naturals (l ∷ ls)) d in
    let x : Doing = leaving_values e at (Ref o ∷ below) y in
    let all : Planted d y = arrays_planted e class (natural_of l) (naturals ls) d in
    let threads : length y.state.guest.threads ≡ length e.before.guest.threads = ap (λ (g : GuestState). length g.threads) all.guest in
    let top : IsReached (graph_of x.state) o = on_top_reached e at o below y (omega arith) in
    ends_reached e x (λ k le lt. reached_on (graph_of x.state) o k top (all.leads k le lt))

new_multi_array_new : (e : Moment) (at : Site) → Starts e → New e (new_multi_array e at)
new_multi_array_new e at here =
    class_new e (class_operand at) _ (λ name.
    lengths_new e (natural_of at.instr.second) [] (current_frame e).operands _ (λ ls below.
    class_resolved e name _ here (λ class.
    unless_thrown e (begins e) errors.NegativeArraySizeException (list_all (int_le (pos 0)) ls) _ (first e here) (multi_new e at class ls below here))))

-- TYPE TESTS

cast_new : (e : Moment) (at : Site) (name : List ℕ) (below : List Value) (r : Reference) → Starts e → New e (cast e at name below r)
cast_new e at name below None here = done_new e at (Null ∷ below) here
cast_new e at name below (Some o) here =
    class_resolved e name _ here (λ class. unless_thrown e (begins e) errors.ClassCastException (passes e.program (object_class (begins e) o) class) _ (first e here) (done_new e at (Ref o ∷ below) here))

tested_new : (e : Moment) (at : Site) (name : List ℕ) (below : List Value) (r : Reference) → Starts e → New e (type_tested e at name below r)
tested_new e at name below None here = done_new e at (truth false ∷ below) here
tested_new e at name below (Some o) here = class_resolved e name _ here (λ class. done_new e at (truth (passes e.program (object_class (begins e) o) class) ∷ below) here)

pub heap_new : (e : Moment) (at : Site) (r : HeapRow) → Starts e → New e (heap_event e at r)
heap_new e at row.GetStatic here = get_static_new e at here
heap_new e at row.PutStatic here = put_static_new e at here
heap_new e at row.GetField here = get_field_new e at here
heap_new e at row.PutField here = put_field_new e at here
heap_new e at (row.LoadElement kind) here = load_element_new e at kind here
heap_new e at (row.StoreElement kind) here = store_element_new e at kind here
heap_new e at row.New here = new_instance_new e at here
heap_new e at row.NewArray here = new_array_new e at here
heap_new e at row.NewReferenceArray here = new_reference_array_new e at here
heap_new e at row.NewMultiArray here = new_multi_array_new e at here
heap_new e at row.ArrayLength here = array_length_new e at here
heap_new e at row.CheckCast here = class_new e (class_operand at) _ (λ name. each_reference e (ill_typed e) tt (current_frame e).operands _ (λ r below. cast_new e at name below r here))
heap_new e at row.InstanceOf here = class_new e (class_operand at) _ (λ name. each_reference e (ill_typed e) tt (current_frame e).operands _ (λ r below. tested_new e at name below r here))

-- EXCEPTIONS, THE END OF A THREAD, MONITORS

pub throw_new : (e : Moment) → Starts e → New e (throw e)
throw_new e here =
    each_reference e (ill_typed e) tt (current_frame e).operands _ (λ r below.
    where_not_null e (begins e) r _ (first e here) (λ o.
    unless_ill_typed e (is_throwable e o) _
    (goes_new e (pending_now e o (begins e)) (thread_strings e (with_pending (Some o) (thread_at (begins e).state.guest e.thread)) (begins e) (first e here)))))

pub end_new : (e : Moment) → Starts e → New e (end_of_thread e)
end_new e here = goes_new e (with_thread_state e (as_ended (thread_of e)) (begins e)) (thread_strings e (as_ended (thread_of e)) (begins e) (first e here))

pub monitor_new : (e : Moment) (at : Site) (r : MonitorRow) → Starts e → New e (monitor_event e at r)
monitor_new e at Enter here =
    each_reference e (ill_typed e) tt (current_frame e).operands _ (λ r below.
    where_not_null e (begins e) r _ (first e here) (λ o.
    let x : Doing = leaving_values e at below (begins e) in
    unless_waiting e (may_enter e (begins e) (OfObject o)) (goes (entered e (OfObject o) x))
    (goes_new e (entered e (OfObject o) x)
    (monitor_strings e (OfObject o) (record { owner = Some e.thread; count = (monitor_of x (OfObject o)).count + 1 }) x (leaving_strings e at below (begins e) (first e here))))))
monitor_new e at Exit here =
    each_reference e (ill_typed e) tt (current_frame e).operands _ (λ r below.
    where_not_null e (begins e) r _ (first e here) (λ o.
    let x : Doing = leaving_values e at below (begins e) in
    unless_thrown e (begins e) errors.IllegalMonitorStateException (owns e (begins e) (OfObject o)) (goes (left (OfObject o) x)) (first e here)
    (goes_new e (left (OfObject o) x) (monitor_strings e (OfObject o) (left_once (monitor_of x (OfObject o))) x (leaving_strings e at below (begins e) (first e here))))))

-- PLAIN ROWS

pub on_frame_new : (e : Moment) (o : Option FrameState) → Starts e → New e (on_frame e o)
on_frame_new e None here = tt
on_frame_new e (Some f) here = goes_new e (with_frame e f (begins e)) (top_strings e f (begins e) (first e here))

pub constant_new : (e : Moment) (at : Site) (k : Option LoadedConstant) → Starts e → New e (constant e at k)
constant_new e at None here = tt
constant_new e at (Some (AnInt n)) here = on_frame_new e (put at.next (Int n ∷ (current_frame e).operands) (current_frame e)) here
constant_new e at (Some (ALong n)) here = on_frame_new e (put at.next (LongHigh ∷ Long n ∷ (current_frame e).operands) (current_frame e)) here
constant_new e at (Some (AString bytes)) here =
    let x : Doing = interned e bytes (begins e) in
    unless_ill_typed e (nat_lt (length (current_frame e).operands) (current_frame e).room) _ (
    ends_new e (with_frame e (record (current_frame e) { pc = at.next; operands = Ref (string_object bytes x) ∷ (current_frame e).operands }) x)
    (on_top e at.next (Ref (string_object bytes x) ∷ (current_frame e).operands) x (interned_strings e bytes (begins e) (first e here))))

quotient_new : (e : Moment) (at : Site) (o : Option ℤ) (operands : ℤ → List Value) → Starts e → New e (quotient e at o operands)
quotient_new e at None operands here = throws_new e errors.ArithmeticException (begins e) (first e here)
quotient_new e at (Some n) operands here = on_frame_new e (put at.next (operands n) (current_frame e)) here

pub divides_new : (e : Moment) (at : Site) (n : Number) (o : Division) → Starts e → New e (divides e at n o)
divides_new e at number.Int o here =
    each_int e (ill_typed e) tt (current_frame e).operands _ (λ b more. each_int e (ill_typed e) tt more _ (λ a below. quotient_new e at (divided w32 o a b) (λ n. Int n ∷ below) here))
divides_new e at number.Long o here =
    each_long e (ill_typed e) tt (current_frame e).operands _ (λ b more. each_long e (ill_typed e) tt more _ (λ a below. quotient_new e at (divided w64 o a b) (λ n. LongHigh ∷ Long n ∷ below) here))
