-- The rows that enter and leave no frame.
use Rattle.et_base.specs.declared.value.Value.{Value}
use Rattle.et_base.specs.declared.value.Value.TheVariants.{Int, Long, LongHigh, Null, Ref, Unset}
use Rattle.et_class.specs.Names.{has}
use Rattle.et_event.specs.Checks.{Reference, entries_of}
use Rattle.et_event.specs.Heap.{array_length, arrays_made, cast, element_of_array, field_fits, get_field, get_static, heap_event, is_out, is_static_at, leaving_values, length_of, load_element, may_be_made, naturals, new_array, new_array_of, new_instance, new_multi_array, new_reference_array, passes_element, put_field, put_static, resolved_class, resolved_field, store_element, truth, type_tested, with_class, with_element, with_field, with_holder}
use Rattle.et_event.specs.Kinds.{are_elements, in_bounds, is_array_element, kept_element, kind_of_elements, kind_of_field, narrowed, or_zero}
use Rattle.et_event.specs.Moments.{Doing, Moment, array_made, begins, current_frame, ends_event, goes, ill_typed, instance_made, next_object, number_of_value, object_class, pending_now, slot_written, static_written, thread_of, with_frame, with_thread_state}
use Rattle.et_event.specs.Monitors.{OfObject, entered, left, may_enter, owns}
use Rattle.et_event.specs.Operands.{operand_kind}
use Rattle.et_event.specs.Plain.{constant, divided, divides, on_frame, put, quotient}
use Rattle.et_event.specs.Programs.{HasDimensions, IsArrayClass}
use Rattle.et_event.specs.Sites.{ALong, AString, AnInt, LoadedConstant, Member, Site, class_operand, natural_of, site_member}
use Rattle.et_event.specs.PoolOperands.Operand.{Operand}
use Rattle.et_event.specs.Sound.{HasField, IsSoundObject, is_of_kind, slots_by}
use Rattle.et_event.specs.Strings.{interned, string_object}
use Rattle.et_event.specs.Sync.{end_of_thread, monitor_event}
use Rattle.et_event.specs.Throw.{is_throwable, throw}
use Rattle.et_event.specs.declared.rows.Division.{Division}
use Rattle.et_event.specs.declared.rows.Elements.{Elements}
use Rattle.et_event.specs.declared.rows.HeapRow.{HeapRow}
use Rattle.et_event.specs.declared.rows.MonitorRow.{MonitorRow}
use Rattle.et_event.specs.declared.rows.Number.{Number}
use Rattle.et_graph.specs.Graph.{IsReached}
use Rattle.et_state.specs.Roots.{graph_of}
use Rattle.et_heap.specs.Objects.{IsHeld, at, object_at, slot_of}
use Rattle.et_pool.specs.Descriptors.{is_field_descriptor}
use Rattle.et_program.specs.Entries.{Linked, class_at, field_at}
use Rattle.et_program.specs.Members.{base_array, is_subclass}
use Rattle.et_program.specs.Resolution.{resolve_class, resolve_field}
use Rattle.et_program.specs.Types.{passes}
use Rattle.et_program.specs.declared.info.Element.{Element}
use Rattle.et_program.specs.declared.info.Element.TheVariants.{Base, Class, NoArray}
use Rattle.et_history.proofs.soundness.Arrays.{length-naturals}
use Rattle.et_history.proofs.soundness.Fields.{IsField, field_found, kind_of_one}
use Rattle.et_event.proofs.Values.{narrowed_kind}
use Rattle.et_history.proofs.soundness.Values.{element_kind}
use Rattle.et_history.proofs.soundness.Objects.{found_there}
use Rattle.et_history.proofs.soundness.Classes.{class_within}
use Rattle.et_state.specs.Outcome.{Outcome}
use Rattle.et_state.specs.State.{Kept}
use Rattle.et_state.specs.Threads.{FrameState, as_ended}
use Rattle.et_state.specs.Words.{static_at}
use Rattle.et_history.proofs.steps.Given.{kept_fine, lengths_does, truth_fine}
use Rattle.et_history.proofs.steps.AtHand.{near, near_held, near_reached, operands_near}
use Rattle.et_history.proofs.steps.Heaps.{slots_fine, statics_fine}
use Rattle.et_history.proofs.steps.Held.{Ready, frame_fine}
use Rattle.et_history.proofs.steps.Plain.{FineFrameSome, put_fine}
use Rattle.et_history.proofs.steps.Typed.{kept_plain, narrowed_given, narrowed_plain, reference_or_none}
use Rattle.et_history.proofs.steps.Small.{string_held}
use Rattle.et_history.proofs.steps.Taken.{any_int, any_long, any_reference, any_value, fine_entries, fine_read}
use Rattle.et_history.proofs.steps.Values.{fine_at, fine_grows, fines_append, fines_grow, frame_grows}
use Rattle.et_history.proofs.steps.Ways.{end_leads, ends_lead, initialized_leads, throws_lead, unless_ill_typed, unless_thrown, unless_waiting, where_not_null, where_resolved}
use Rattle.et_history.proofs.steps.Words.{fine_narrowed}
use Rattle.et_history.specs.steps.Steps.{Begins, Comes, Ends, EntersMonitor, GoesOn, Interns, IsAtMonitor, IsFramed, IsReference, IsTyped, IsUnder, Leads, LeavesMonitor, Level, Locked, Making, Pends, Plainly, StringsAlone, WithArray, WithArrays, WithInstance, WritesSlot, WritesStatic, kind_of_static}
use Rattle.et_history.specs.steps.Values.{Fine, FineFrame, FineSome, Fines}
use Rattle.std.proofs.Common.{List, None, Ok, Option, Some, [], arith, false, inr, length, inl, refl, subst, sym, true, ℕ, ◌++◌, ◌+◌, ◌<◌, ◌∙◌, ◌∷◌, ◌≡◌, ◌⊎◌}
use Rattle.std.proofs.lemmas.Bool.{and_parts, false≢true, ltb-true, not-true}
use Rattle.std.specs.Int.{w32, w64}
use Rattle.std.specs.List.{list_all}
use Rattle.et_event.specs.Errors.{class_called}
use Rattle.std.specs.Prelude.{codes, ◌≤◌, int_le, int_lt, nat_le, nat_lt, negsuc, not, pos, unwrap_or, ℤ}
use Rattle.et_event.specs.declared.rows.HeapRow.TheVariants as row
use Rattle.et_event.specs.declared.errors.GuestError.TheVariants as errors
use Rattle.et_event.specs.declared.rows.Number.TheVariants as number
use Rattle.et_event.specs.declared.rows.Elements.TheVariants as elements
use Rattle.et_event.specs.declared.rows.MonitorRow.TheVariants as monitor

-- the classes of the arrays that the row makes
pub record MakesArrays (p : Linked) (at : Site) (r : HeapRow) : Type 0 where
  pub base : r ≡ row.NewArray → IsArrayClass p (unwrap_or (base_array p (natural_of at.instr.first)) 0)
  pub single : r ≡ row.NewReferenceArray → (name : List ℕ) (class : ℕ) → class_operand at ≡ Some name → resolve_class p name ≡ Ok class → IsArrayClass p (unwrap_or (class_at p class).array 0)
  pub multi : r ≡ row.NewMultiArray → (name : List ℕ) (class : ℕ) → class_operand at ≡ Some name → resolve_class p name ≡ Ok class → (0 < natural_of at.instr.second) × HasDimensions p (natural_of at.instr.second) class

-- an array has a slot for each element
pub no_elements : (kind : Elements) → are_elements kind NoArray ≡ true → ⊥
no_elements elements.Int q = false≢true q
no_elements elements.Long q = false≢true q
no_elements elements.Reference q = false≢true q
no_elements elements.Byte q = false≢true q
no_elements elements.Char q = false≢true q
no_elements elements.Short q = false≢true q

array_slots : (kind : Elements) (x : Element) (slots n : ℕ) → are_elements kind x ≡ true → slots_by x slots n ≡ n
array_slots kind NoArray slots n is = absurd (no_elements kind is)
array_slots kind (Base base) slots n is = refl
array_slots kind (Class class) slots n is = refl

natural_within : (i : ℤ) (n : ℕ) → in_bounds i n ≡ true → natural_of i < n
natural_within (pos k) n is = ltb-true k n (and_parts (int_le (pos 0) (pos k)) (int_lt (pos k) (pos n)) is).1
natural_within (negsuc k) n is = absurd (false≢true is)

pub end_leads_on : (e : Moment) → Leads e (end_of_thread e)
end_leads_on e = Plainly Level (with_thread_state e (as_ended (thread_of e)) (begins e)) Ends

module _ (e : Moment) (ready : Ready e) (framed : IsFramed e) where
  pub operands_fine : Fines e.before.heap (current_frame e).operands
  operands_fine = (frame_fine e ready).operands

  pub later_fine : (s : Kept) (vs : List Value) → IsUnder e s → Fines e.before.heap vs → Fines s.heap vs
  later_fine s vs u f = fines_grow e.before.heap s.heap vs u.stays f

  -- what is at hand is held
  far : (vs : List Value) → Fines (near e) vs → Fines e.before.heap vs
  far vs f = fines_grow (near e) e.before.heap vs (near_held e) f

  hand_operands : Fines (near e) (current_frame e).operands
  hand_operands = operands_near e ready framed

  -- the topmost frame with another pc and other operands
  pub top_fine : (s : Kept) (pc : ℕ) (ops : List Value) → IsUnder e s → Fines s.heap ops → FineFrame s.heap (record (current_frame e) { pc = pc; operands = ops })
  top_fine s pc ops u f =
      let was : FineFrame s.heap (current_frame e) = frame_grows e.before.heap s.heap (current_frame e) u.stays (frame_fine e ready) in
      record { locals = was.locals; operands = f; lock = was.lock }

  pub on_top : {k : Making} (pc : ℕ) (ops : List Value) (d : Doing) → Comes e k Level d → (IsUnder e d.state → Fines d.state.heap ops) → Comes e k Level (with_frame e (record (current_frame e) { pc = pc; operands = ops }) d)
  on_top pc ops d h f = GoesOn (record (current_frame e) { pc = pc; operands = ops }) d h framed (λ u. top_fine d.state pc ops u (f u))

  pub leaving_comes : (at : Site) (ops : List Value) (d : Doing) → Comes e StringsAlone Level d → (IsUnder e d.state → Fines d.state.heap ops) → Comes e StringsAlone Level (leaving_values e at ops d)
  leaving_comes at ops d h f = on_top at.next ops d h f

  done_leads : (at : Site) (ops : List Value) → Fines e.before.heap ops → Leads e (goes (leaving_values e at ops (begins e)))
  done_leads at ops f = Plainly Level (leaving_values e at ops (begins e)) (leaving_comes at ops (begins e) Begins (λ u. f))

  written_leads : (at : Site) (o i : ℕ) (v : Value) (ops : List Value) → IsHeld e.before.heap o → i < length (object_at e.before.heap o).slots → IsReference v ⊎ (number_of_value (slot_of (object_at e.before.heap o) i) ≡ 0)
      → IsReference v ⊎ (is_subclass e.program (object_at e.before.heap o).class (class_called e.program (codes "java/lang/Throwable")) ≡ true → 2 ≤ i) → Fine e.before.heap v → Fines e.before.heap ops
      → IsReached (graph_of e.before) o → Leads e (goes (slot_written e o i v (leaving_values e at ops (begins e))))
  written_leads at o i v ops held inside plain own fine f hand =
      let x : Doing = leaving_values e at ops (begins e) in
      Plainly Level (slot_written e o i v x) (WritesSlot Level o i v x (leaving_comes at ops (begins e) Begins (λ u. f)) (λ u. record { held = held; slot = inr inside; value = fine }) (record { slot = λ cause. inside; plain = plain; own = own; at_hand = inl hand }))

  -- WHAT IS NAMED

  field_leads : (o : Option Member) (go : Member → Outcome Kept) → ((m : Member) → is_field_descriptor m.descriptor ≡ true → Leads e (go m)) → Leads e (with_field e o go)
  field_leads None go h = tt
  field_leads (Some m) go h = unless_ill_typed e ready (is_field_descriptor m.descriptor) (go m) (λ is. h m is)

  class_leads : (o : Option (List ℕ)) (go : List ℕ → Outcome Kept) → ((name : List ℕ) → o ≡ Some name → Leads e (go name)) → Leads e (with_class e o go)
  class_leads None go h = tt
  class_leads (Some name) go h = h name refl

  class_resolved : (name : List ℕ) (go : ℕ → Outcome Kept) → ((c : ℕ) → resolve_class e.program name ≡ Ok c → Leads e (go c)) → Leads e (resolved_class e (begins e) name go)
  class_resolved name go h = where_resolved e ready (begins e) (resolve_class e.program name) go Begins h

  field_resolved : (m : Member) (go : ℕ → Outcome Kept) → ((f : ℕ) → IsField e.program m.descriptor f → Leads e (go f)) → Leads e (resolved_field e (begins e) m go)
  field_resolved m go h = class_resolved m.owner _ (λ owner is. where_resolved e ready (begins e) (resolve_field e.program owner m.name m.descriptor) _ Begins (λ f found. h f (field_found e.program owner m.name m.descriptor f found)))

  -- FIELDS

  get_static_leads : (at : Site) → Leads e (get_static e at)
  get_static_leads at =
      field_leads (site_member at) _ (λ m named.
      unless_ill_typed e ready (field_fits e (current_frame e).operands m) _ (λ fits.
      field_resolved m _ (λ f is.
      unless_thrown e ready (begins e) errors.IncompatibleClassChangeError (is_static_at e.program f) _ Begins (λ static.
      initialized_leads e ready (begins e) (field_at e.program f).class _ Begins (λ d h.
      let v : Value = or_zero (operand_kind m.descriptor) (static_at d.state.guest (field_at e.program f).slot) in
      let ops : List Value = entries_of v ++ (current_frame e).operands in
      end_leads e ready Level (leaving_values e at ops d) (leaving_comes at ops d h (λ u.
      fines_append d.state.heap (entries_of v) (current_frame e).operands
      (fine_entries d.state.heap v (fine_read d.state.heap (operand_kind m.descriptor) (static_at d.state.guest (field_at e.program f).slot) (fine_at d.state.heap d.state.guest.statics (field_at e.program f).slot (statics_fine d.state u.sound))))
      (later_fine d.state (current_frame e).operands u operands_fine))))))))

  -- a value of the type of the field that is named
  field_typed : (m : Member) (k : ℕ) (v : Value) → is_field_descriptor m.descriptor ≡ true → IsField e.program m.descriptor k → IsTyped (kind_of_field m.descriptor) v → IsTyped (operand_kind (field_at e.program k).descriptor) v
  field_typed m k v named is typed =
      subst (λ (type : List ℕ). IsTyped (operand_kind type) v) (sym is.descriptor) (record { kind = kind_of_one e.program m.descriptor v (is_field_descriptor m.descriptor) typed.kind named; given = typed.given })

  static_typed : (m : Member) (k : ℕ) (v : Value) → is_field_descriptor m.descriptor ≡ true → IsField e.program m.descriptor k → is_static_at e.program k ≡ true → IsTyped (kind_of_field m.descriptor) v
      → IsTyped (kind_of_static e.program (field_at e.program k).slot) (narrowed m.descriptor v)
  static_typed m k v named is static typed =
      let t : IsTyped (operand_kind (field_at e.program k).descriptor) v = field_typed m k v named is typed in
      subst (λ (n : ℕ). IsTyped (operand_kind (field_at e.program n).descriptor) (narrowed m.descriptor v)) (sym (ready.may.slots.statics k is.within static).1)
      (record { kind = narrowed_kind (operand_kind (field_at e.program k).descriptor) m.descriptor v t.kind; given = narrowed_given m.descriptor v t.given })

  put_static_leads : (at : Site) → Leads e (put_static e at)
  put_static_leads at =
      field_leads (site_member at) _ (λ m named.
      any_value (Leads e) (ill_typed e) tt e.before.heap (kind_of_field m.descriptor) (current_frame e).operands _ operands_fine (λ v below fine typed f.
      field_resolved m _ (λ k is.
      unless_thrown e ready (begins e) errors.IncompatibleClassChangeError (is_static_at e.program k) _ Begins (λ static.
      unless_thrown e ready (begins e) errors.NoSuchFieldError (not (is_out e.program k)) _ Begins (λ open_field.
      initialized_leads e ready (begins e) (field_at e.program k).class _ Begins (λ d h.
      let x : Doing = leaving_values e at below d in
      end_leads e ready Level (static_written e (field_at e.program k).slot (narrowed m.descriptor v) x)
      (WritesStatic (field_at e.program k).slot (narrowed m.descriptor v) x (leaving_comes at below d h (λ u. later_fine d.state below u f)) (ready.may.slots.statics k is.within static).0
      (λ u. fine_narrowed x.state.heap m.descriptor v (fine_grows e.before.heap x.state.heap v u.stays fine)) (static_typed m k v named is static typed)
      (subst (λ (n : ℕ). is_out e.program n ≡ false) (sym (ready.may.slots.statics k is.within static).1) (not-true (is_out e.program k) open_field)))))))))

  holder_leads : (f : ℕ) (r : Reference) (go : ℕ → Outcome Kept) → FineSome (near e) r → ((o : ℕ) → IsHeld (near e) o → is_subclass e.program (object_at e.before.heap o).class (field_at e.program f).class ≡ true → Leads e (go o)) → Leads e (with_holder e (begins e) f r go)
  holder_leads f r go held h =
      where_not_null e ready (near e) (begins e) r _ Begins held (λ o there. unless_ill_typed e ready (is_subclass e.program (object_class (begins e) o) (field_at e.program f).class) (go o) (h o there))

  read_fine : (o i : ℕ) → Fine e.before.heap (slot_of (object_at e.before.heap o) i)
  read_fine o i = fine_at e.before.heap (object_at e.before.heap o).slots i (slots_fine e.before o ready.knows.sound.held)

  get_field_leads : (at : Site) → Leads e (get_field e at)
  get_field_leads at =
      field_leads (site_member at) _ (λ m named.
      any_reference (Leads e) (ill_typed e) tt (near e) (current_frame e).operands _ hand_operands (λ r below held f.
      unless_ill_typed e ready (field_fits e below m) _ (λ fits.
      field_resolved m _ (λ k is.
      unless_thrown e ready (begins e) errors.IncompatibleClassChangeError (not (is_static_at e.program k)) _ Begins (λ instance.
      holder_leads k r _ held (λ o there below_it.
      let v : Value = or_zero (operand_kind m.descriptor) (slot_of (object_at e.before.heap o) (field_at e.program k).slot) in
      done_leads at (entries_of v ++ below) (fines_append e.before.heap (entries_of v) below
      (fine_entries e.before.heap v (fine_read e.before.heap (operand_kind m.descriptor) (slot_of (object_at e.before.heap o) (field_at e.program k).slot) (read_fine o (field_at e.program k).slot))) (far below f))))))))

  -- the object of a field has its slot
  pub object_sound : (o : ℕ) → IsHeld e.before.heap o → IsSoundObject e.program (object_at e.before.heap o)
  object_sound o there = (ready.knows.sound.objects o (object_at e.before.heap o) (found_there e.before.heap o there)).0

  field_there : (o k : ℕ) → IsHeld e.before.heap o → k < length e.program.fields → is_static_at e.program k ≡ false → is_subclass e.program (object_at e.before.heap o).class (field_at e.program k).class ≡ true
      → HasField e.program (object_at e.before.heap o) k
  field_there o k there within instance below_it = (object_sound o there).fields k within instance below_it

  -- no field stands in the slots of a Throwable that the machine itself uses, and no array is one
  field_free : (o k : ℕ) → IsHeld e.before.heap o → k < length e.program.fields → is_static_at e.program k ≡ false → is_subclass e.program (object_at e.before.heap o).class (field_at e.program k).class ≡ true
      → is_subclass e.program (object_at e.before.heap o).class (class_called e.program (codes "java/lang/Throwable")) ≡ true → 2 ≤ (field_at e.program k).slot
  field_free o k there within instance below_it below =
      (ready.may.machine_slots.throwables (object_at e.before.heap o).class (object_sound o there).class below).free k (record { within = within; instance = instance; below = below_it })

  no_throwable : (kind : Elements) (o : ℕ) → IsHeld e.before.heap o → are_elements kind (element_of_array e o) ≡ true → is_subclass e.program (object_at e.before.heap o).class (class_called e.program (codes "java/lang/Throwable")) ≡ true → ⊥
  no_throwable kind o there are below =
      no_elements kind (subst (λ (x : Element). are_elements kind x ≡ true) (ready.may.machine_slots.throwables (object_at e.before.heap o).class (object_sound o there).class below).bare are)

  put_field_leads : (at : Site) → Leads e (put_field e at)
  put_field_leads at =
      field_leads (site_member at) _ (λ m named.
      any_value (Leads e) (ill_typed e) tt (near e) (kind_of_field m.descriptor) (current_frame e).operands _ hand_operands (λ v more fine typed f.
      any_reference (Leads e) (ill_typed e) tt (near e) more _ f (λ r below held g.
      field_resolved m _ (λ k is.
      unless_thrown e ready (begins e) errors.IncompatibleClassChangeError (not (is_static_at e.program k)) _ Begins (λ instance.
      holder_leads k r _ held (λ o hand below_it.
      let there : IsHeld e.before.heap o = near_held e o hand in
      let has : HasField e.program (object_at e.before.heap o) k = field_there o k there is.within (not-true (is_static_at e.program k) instance) below_it in
      let old : Value = slot_of (object_at e.before.heap o) (field_at e.program k).slot in
      written_leads at o (field_at e.program k).slot (narrowed m.descriptor v) below there has.slot
      (narrowed_plain m.descriptor v old (reference_or_none (operand_kind (field_at e.program k).descriptor) v old (field_typed m k v named is typed) has.value))
      (inr (λ below_throwable. field_free o k there is.within (not-true (is_static_at e.program k) instance) below_it below_throwable)) (fine_narrowed e.before.heap m.descriptor v (fine_grows (near e) e.before.heap v (near_held e) fine)) (far below g) (near_reached e o hand)))))))

  -- ELEMENTS

  element_leads : (kind : Elements) (r : Reference) (i : ℤ) (go : ℕ → Outcome Kept) → FineSome (near e) r → ((o : ℕ) → IsHeld (near e) o → are_elements kind (element_of_array e o) ≡ true → natural_of i < length (object_at e.before.heap o).slots → Leads e (go o)) → Leads e (with_element e kind r i go)
  element_leads kind r i go held h =
      where_not_null e ready (near e) (begins e) r _ Begins held (λ o hand.
      let there : IsHeld e.before.heap o = near_held e o hand in
      unless_ill_typed e ready (are_elements kind (element_of_array e o)) _ (λ elements.
      unless_thrown e ready (begins e) errors.ArrayIndexOutOfBoundsException (in_bounds i (length_of e o)) (go o) Begins (λ within.
      let count : length (object_at e.before.heap o).slots ≡ length_of e o =
      (object_sound o there).slots ∙ array_slots kind (element_of_array e o) (class_at e.program (object_at e.before.heap o).class).info.slots (length_of e o) elements in
      let lt : natural_of i < length_of e o = natural_within i (length_of e o) within in
      h o hand elements (omega arith))))

  load_element_leads : (at : Site) (kind : Elements) → Leads e (load_element e at kind)
  load_element_leads at kind =
      any_int (Leads e) (ill_typed e) tt (near e) (current_frame e).operands _ hand_operands (λ i more f.
      any_reference (Leads e) (ill_typed e) tt (near e) more _ f (λ r below held g.
      element_leads kind r i _ held (λ o there are inside.
      let v : Value = or_zero (Some (kind_of_elements kind)) (slot_of (object_at e.before.heap o) (natural_of i)) in
      done_leads at (entries_of v ++ below) (fines_append e.before.heap (entries_of v) below
      (fine_entries e.before.heap v (fine_read e.before.heap (Some (kind_of_elements kind)) (slot_of (object_at e.before.heap o) (natural_of i)) (read_fine o (natural_of i)))) (far below g)))))

  element_plain : (kind : Elements) (o i : ℕ) (v : Value) → IsHeld e.before.heap o → are_elements kind (element_of_array e o) ≡ true → i < length (object_at e.before.heap o).slots → IsTyped (Some (kind_of_elements kind)) v
      → IsReference (kept_element kind v) ⊎ (number_of_value (slot_of (object_at e.before.heap o) i) ≡ 0)
  element_plain kind o i v there are inside typed =
      let old : Value = slot_of (object_at e.before.heap o) i in
      let was : is_of_kind (Some (kind_of_elements kind)) old ≡ true =
      elim (object_sound o there).elements [
        | inl all ↦ subst (λ (k : Option Operand). is_of_kind k old ≡ true) (element_kind kind (element_of_array e o) are) (all i Unset inside)
        | inr none ↦ absurd (no_elements kind (subst (λ (x : Element). are_elements kind x ≡ true) none are))
      ] in
      kept_plain kind v old (reference_or_none (Some (kind_of_elements kind)) v old typed was)

  store_element_leads : (at : Site) (kind : Elements) → Leads e (store_element e at kind)
  store_element_leads at kind =
      any_value (Leads e) (ill_typed e) tt (near e) (Some (kind_of_elements kind)) (current_frame e).operands _ hand_operands (λ v most fine typed f.
      any_int (Leads e) (ill_typed e) tt (near e) most _ f (λ i more g.
      any_reference (Leads e) (ill_typed e) tt (near e) more _ g (λ r below held j.
      element_leads kind r i _ held (λ o hand are inside.
      let there : IsHeld e.before.heap o = near_held e o hand in
      unless_thrown e ready (begins e) errors.ArrayStoreException (passes_element e v (element_of_array e o)) (goes (slot_written e o (natural_of i) (kept_element kind v) (leaving_values e at below (begins e)))) Begins
      (λ passed. written_leads at o (natural_of i) (kept_element kind v) below there inside (element_plain kind o (natural_of i) v there are inside typed) (inr (λ below_throwable. absurd (no_throwable kind o there are below_throwable))) (kept_fine e.before.heap kind v (fine_grows (near e) e.before.heap v (near_held e) fine)) (far below j) (near_reached e o hand))))))

  array_length_leads : (at : Site) → Leads e (array_length e at)
  array_length_leads at =
      any_reference (Leads e) (ill_typed e) tt e.before.heap (current_frame e).operands _ operands_fine (λ r below held f.
      where_not_null e ready e.before.heap (begins e) r _ Begins held (λ o there.
      unless_ill_typed e ready (is_array_element (element_of_array e o)) _ (λ is. done_leads at (Int (pos (length_of e o)) ∷ below) (tt, f))))

  -- MAKING

  new_leads : (at : Site) → Leads e (new_instance e at)
  new_leads at =
      class_leads (class_operand at) _ (λ name named.
      unless_ill_typed e ready (nat_le (1 + length (current_frame e).operands) (current_frame e).room) _ (λ fits.
      class_resolved name _ (λ class is.
      unless_thrown e ready (begins e) errors.InstantiationError (may_be_made e.program class) _ Begins (λ may.
      initialized_leads e ready (begins e) class _ Begins (λ d h.
      let lt : class < length e.program.classes = class_within e.program name class is in
      ends_lead e ready (leaving_values e at (Ref (next_object d) ∷ (current_frame e).operands) (instance_made e class d))
      (WithInstance at class (current_frame e).operands d h framed lt (ready.may.slots.made class lt may) operands_fine))))))

  array_of_leads : (at : Site) (class : ℕ) (elements : ℤ) (below : List Value) → IsArrayClass e.program class → Fines e.before.heap below → Leads e (new_array_of e at class elements below)
  array_of_leads at class elements below array f =
      unless_thrown e ready (begins e) errors.NegativeArraySizeException (int_le (pos 0) elements) _ Begins (λ fine.
      ends_lead e ready (leaving_values e at (Ref (next_object (begins e)) ∷ below) (array_made e class (natural_of elements) (begins e))) (WithArray at class (natural_of elements) below framed array f))

  new_array_leads : (at : Site) → MakesArrays e.program at row.NewArray → Leads e (new_array e at)
  new_array_leads at makes =
      any_int (Leads e) (ill_typed e) tt e.before.heap (current_frame e).operands _ operands_fine (λ elements below f. array_of_leads at (unwrap_or (base_array e.program (natural_of at.instr.first)) 0) elements below (makes.base refl) f)

  new_reference_array_leads : (at : Site) → MakesArrays e.program at row.NewReferenceArray → Leads e (new_reference_array e at)
  new_reference_array_leads at makes =
      class_leads (class_operand at) _ (λ name named.
      any_int (Leads e) (ill_typed e) tt e.before.heap (current_frame e).operands _ operands_fine (λ elements below f.
      class_resolved name _ (λ class is. array_of_leads at (unwrap_or (class_at e.program class).array 0) elements below (makes.single refl name class named is) f)))

  multi_leads : (at : Site) (class : ℕ) (ls : List ℤ) (below : List Value) → 0 < length ls → HasDimensions e.program (length (naturals ls)) class → Fines e.before.heap below
      → Leads e (ends_event (leaving_values e at (Ref (next_object (begins e)) ∷ below) (arrays_made e class (naturals ls) (begins e))))
  multi_leads at class [] below some has f = absurd (omega arith)
  multi_leads at class (n ∷ ls) below some has f =
      ends_lead e ready (leaving_values e at (Ref (next_object (begins e)) ∷ below) (arrays_made e class (naturals (n ∷ ls)) (begins e))) (WithArrays at class (natural_of n) (naturals ls) below framed has f)

  new_multi_array_leads : (at : Site) → MakesArrays e.program at row.NewMultiArray → Leads e (new_multi_array e at)
  new_multi_array_leads at makes =
      class_leads (class_operand at) _ (λ name named.
      lengths_does (Leads e) (ill_typed e) tt e.before.heap (natural_of at.instr.second) [] (current_frame e).operands _ operands_fine (λ ls below many f.
      class_resolved name _ (λ class is.
      unless_thrown e ready (begins e) errors.NegativeArraySizeException (list_all (int_le (pos 0)) ls) _ Begins (λ fine.
      let has = makes.multi refl name class named is in
      let some = has.0 in
      let count : natural_of at.instr.second ≡ length (naturals ls) = omega (arith, many, length-naturals ls) in
      multi_leads at class ls below (omega arith) (subst (λ (n : ℕ). HasDimensions e.program n class) count has.1) f))))

  -- TYPE TESTS

  cast_leads : (at : Site) (name : List ℕ) (below : List Value) (r : Reference) → FineSome e.before.heap r → Fines e.before.heap below → Leads e (cast e at name below r)
  cast_leads at name below None held f = done_leads at (Null ∷ below) (tt, f)
  cast_leads at name below (Some o) held f =
      class_resolved name _ (λ class is. unless_thrown e ready (begins e) errors.ClassCastException (passes e.program (object_class (begins e) o) class) _ Begins (λ passed. done_leads at (Ref o ∷ below) (held, f)))

  tested_leads : (at : Site) (name : List ℕ) (below : List Value) (r : Reference) → Fines e.before.heap below → Leads e (type_tested e at name below r)
  tested_leads at name below None f = done_leads at (truth false ∷ below) (tt, f)
  tested_leads at name below (Some o) f =
      class_resolved name _ (λ class is. done_leads at (truth (passes e.program (object_class (begins e) o) class) ∷ below) (truth_fine e.before.heap (passes e.program (object_class (begins e) o) class), f))

  pub heap_leads : (at : Site) (r : HeapRow) → MakesArrays e.program at r → Leads e (heap_event e at r)
  heap_leads at row.GetStatic makes = get_static_leads at
  heap_leads at row.PutStatic makes = put_static_leads at
  heap_leads at row.GetField makes = get_field_leads at
  heap_leads at row.PutField makes = put_field_leads at
  heap_leads at (row.LoadElement kind) makes = load_element_leads at kind
  heap_leads at (row.StoreElement kind) makes = store_element_leads at kind
  heap_leads at row.New makes = new_leads at
  heap_leads at row.NewArray makes = new_array_leads at makes
  heap_leads at row.NewReferenceArray makes = new_reference_array_leads at makes
  heap_leads at row.NewMultiArray makes = new_multi_array_leads at makes
  heap_leads at row.ArrayLength makes = array_length_leads at
  heap_leads at row.CheckCast makes =
      class_leads (class_operand at) _ (λ name named. any_reference (Leads e) (ill_typed e) tt e.before.heap (current_frame e).operands _ operands_fine (λ r below held f. cast_leads at name below r held f))
  heap_leads at row.InstanceOf makes =
      class_leads (class_operand at) _ (λ name named. any_reference (Leads e) (ill_typed e) tt e.before.heap (current_frame e).operands _ operands_fine (λ r below held f. tested_leads at name below r f))

  -- EXCEPTIONS AND MONITORS

  pub throw_leads : Leads e (throw e)
  throw_leads =
      any_reference (Leads e) (ill_typed e) tt e.before.heap (current_frame e).operands _ operands_fine (λ r below held f.
      where_not_null e ready e.before.heap (begins e) r _ Begins held (λ o there.
      unless_ill_typed e ready (is_throwable e o) _ (λ is. Plainly Level (pending_now e o (begins e)) (Pends Level o (begins e) Begins (λ u. there)))))

  pub monitor_leads : (at : Site) (r : MonitorRow) → IsAtMonitor e → Leads e (monitor_event e at r)
  monitor_leads at monitor.Enter is =
      any_reference (Leads e) (ill_typed e) tt e.before.heap (current_frame e).operands _ operands_fine (λ r below held f.
      where_not_null e ready e.before.heap (begins e) r _ Begins held (λ o there.
      let x : Doing = leaving_values e at below (begins e) in
      unless_waiting e ready (may_enter e (begins e) (OfObject o)) (goes (entered e (OfObject o) x)) (λ may. Plainly Locked (entered e (OfObject o) x) (EntersMonitor o x (leaving_comes at below (begins e) Begins (λ u. f)) is there))))
  monitor_leads at monitor.Exit is =
      any_reference (Leads e) (ill_typed e) tt e.before.heap (current_frame e).operands _ operands_fine (λ r below held f.
      where_not_null e ready e.before.heap (begins e) r _ Begins held (λ o there.
      let x : Doing = leaving_values e at below (begins e) in
      unless_thrown e ready (begins e) errors.IllegalMonitorStateException (owns e (begins e) (OfObject o)) (goes (left (OfObject o) x)) Begins
      (λ owned. Plainly Locked (left (OfObject o) x) (LeavesMonitor o x (leaving_comes at below (begins e) Begins (λ u. f)) is there))))

  -- PLAIN ROWS

  pub on_frame_leads : (o : Option FrameState) → FineFrameSome e.before.heap o → Leads e (on_frame e o)
  on_frame_leads None fine = tt
  on_frame_leads (Some f) fine = Plainly Level (with_frame e f (begins e)) (GoesOn f (begins e) Begins framed (λ u. fine))

  put_leads : (pc : ℕ) (ops : List Value) → Fines e.before.heap ops → Leads e (on_frame e (put pc ops (current_frame e)))
  put_leads pc ops f = on_frame_leads (put pc ops (current_frame e)) (put_fine e.before.heap pc ops (current_frame e) (frame_fine e ready) f)

  pub constant_leads : (at : Site) (c : Option LoadedConstant) → Leads e (constant e at c)
  constant_leads at None = tt
  constant_leads at (Some (AnInt n)) = put_leads at.next (Int n ∷ (current_frame e).operands) (tt, operands_fine)
  constant_leads at (Some (ALong n)) = put_leads at.next (LongHigh ∷ Long n ∷ (current_frame e).operands) (tt, (tt, operands_fine))
  constant_leads at (Some (AString bytes)) =
      let x : Doing = interned e bytes (begins e) in
      unless_ill_typed e ready (nat_lt (length (current_frame e).operands) (current_frame e).room) _ (λ fits.
      end_leads e ready Level (with_frame e (record (current_frame e) { pc = at.next; operands = Ref (string_object bytes x) ∷ (current_frame e).operands }) x)
      (on_top at.next (Ref (string_object bytes x) ∷ (current_frame e).operands) x (Interns bytes (begins e) Begins) (λ u. (string_held e bytes (begins e) u.sound, later_fine x.state (current_frame e).operands u operands_fine))))

  quotient_leads : (at : Site) (o : Option ℤ) (operands : ℤ → List Value) → ((n : ℤ) → Fines e.before.heap (operands n)) → Leads e (quotient e at o operands)
  quotient_leads at None operands fine = throws_lead e ready errors.ArithmeticException (begins e) Begins
  quotient_leads at (Some n) operands fine = put_leads at.next (operands n) (fine n)

  pub divides_leads : (at : Site) (n : Number) (o : Division) → Leads e (divides e at n o)
  divides_leads at number.Int o =
      any_int (Leads e) (ill_typed e) tt e.before.heap (current_frame e).operands _ operands_fine (λ b more f. any_int (Leads e) (ill_typed e) tt e.before.heap more _ f (λ a below g.
      quotient_leads at (divided w32 o a b) (λ n. Int n ∷ below) (λ n. (tt, g))))
  divides_leads at number.Long o =
      any_long (Leads e) (ill_typed e) tt e.before.heap (current_frame e).operands _ operands_fine (λ b more f. any_long (Leads e) (ill_typed e) tt e.before.heap more _ f (λ a below g.
      quotient_leads at (divided w64 o a b) (λ n. LongHigh ∷ Long n ∷ below) (λ n. (tt, (tt, g)))))
