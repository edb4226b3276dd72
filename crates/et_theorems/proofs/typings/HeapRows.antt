-- The instructions on fields, arrays and classes: check 1 passes, and what they leave is of the types after.
use Rattle.std.proofs.Common.{◌≡◌, ℕ, ◌+◌, ◌≤◌, ◌++◌, ◌==◌, Bool, true, false, leb, List, [], ◌∷◌, length, Option, Some, None, Ok, IsSome, refl, sym, ◌∙◌, ap, subst, arith, suc, zero}
use Rattle.std.specs.Prelude.{ℤ, pos, if◌then◌else◌, map, unwrap_or, replicate, not, int_le}
use Rattle.std.specs.List.{list_all}
use Rattle.std.proofs.lemmas.Bool.{le-leb, not-true}
use Rattle.std.proofs.lemmas.List.{length-map, length-append, map-append}
use Rattle.et_base.specs.declared.value.Value.{Value}
use Rattle.et_base.specs.declared.value.Value.TheVariants as value
use Rattle.et_class.specs.PoolOperands.Operand.{Operand}
use Rattle.et_class.specs.PoolOperands.Operand.TheVariants as operand
use Rattle.et_class.specs.Operands.{operand_kind}
use Rattle.et_class.specs.Descriptors.{is_field_descriptor, width_of}
use Rattle.et_event.specs.Checks.{Reference, entries_of, with_value}
use Rattle.et_event.specs.Heap.{arrays_made, array_length, cast, check_cast, element_of_array, field_fits, get_field, get_static, heap_event, instance_of, is_out, is_static_at, leaving_values, length_of, load_element, may_be_made, naturals, new_array, new_array_of, new_instance, new_multi_array, new_reference_array, passes_element, put_field, put_static, resolved_class, resolved_field, store_element, truth, type_tested, with_class, with_element, with_field, with_holder, with_lengths}
use Rattle.et_event.specs.Kinds.{are_elements, in_bounds, is_array_element, kept_element, kind_of_elements, kind_of_field, narrowed, or_zero}
use Rattle.et_event.specs.Moments.{Doing, Moment, array_made, begins, current_frame, ends_event, goes, ill_typed, instance_made, next_object, object_class, slot_written, static_written}
use Rattle.et_event.specs.Sites.{Member, Site, class_operand, natural_of, site_member}
use Rattle.et_event.specs.Sound.{is_of_kind}
use Rattle.et_event.specs.declared.errors.GuestError.TheVariants as errors
use Rattle.et_event.specs.declared.rows.Elements.{Elements}
use Rattle.et_event.specs.declared.rows.HeapRow.{HeapRow}
use Rattle.et_event.specs.declared.rows.HeapRow.TheVariants as heap
use Rattle.et_event.specs.declared.rows.Row.TheVariants as rows
use Rattle.et_heap.specs.Objects.{object_at, referent_value, slot_of}
use Rattle.et_program.specs.Entries.{field_at}
use Rattle.et_program.specs.Members.{is_subclass}
use Rattle.et_program.specs.Referring.{field_in_owner, field_of_member}
use Rattle.et_program.specs.Resolution.{resolve_class, resolve_field}
use Rattle.et_program.specs.Types.{passes}
use Rattle.et_history.proofs.soundness.Fields.{IsField, field_found, field_value}
use Rattle.et_theorems.proofs.typings.Held.{arrays_threads, element_read}
use Rattle.et_theorems.proofs.typings.Moves.{Gives, NamesClass, Reads, Writes, gives, names_class, reads, read_entries, takes_all, width_is, writes}
use Rattle.et_event.specs.Checks.{not_null, throws_unless}
use Rattle.et_event.specs.declared.errors.GuestError.{GuestError}
use Rattle.std.specs.Prelude.{slice_index_or}
use Rattle.std.proofs.lemmas.List.{append_assoc}
use Rattle.std.proofs.lemmas.Option.{same_Some}
use Rattle.et_state.specs.Outcome.{Outcome}
use Rattle.et_state.specs.State.{Kept}
use Rattle.et_state.specs.Threads.{operand_of}
use Rattle.et_state.specs.Words.{static_at}
use Rattle.et_flow.specs.declared.types.EntryType.{EntryType}
use Rattle.et_flow.specs.declared.types.EntryType.TheVariants as entry
use Rattle.et_verify.specs.Effects.{giving, result_kind}
use Rattle.et_verify.specs.Steps.{below_taken}
use Rattle.et_flow.specs.Types.{TypesOf, operand_entries, type_of}
use Rattle.et_theorems.specs.typings.Refused.{FailsHolder, FailsRow, StandsBelow}
use Rattle.et_theorems.specs.typings.Typed.{Typings}
use Rattle.et_theorems.specs.typings.Values.{AreOperandsOf}
use Rattle.et_theorems.proofs.typings.Here.{Here, leaves, never_refused, unless_refused}
use Rattle.et_theorems.proofs.typings.Own.{AsBefore, LeavesTyped, ends_leave, own_by, slot_threads, static_threads}
use Rattle.et_theorems.proofs.typings.Taking.{behind, int_at, int_taken, reference_taken, value_at, value_long, value_taken, truth_type}
use Rattle.et_theorems.proofs.typings.Ways.{begun_well, unless_thrown, where_initialized, where_not_null, where_resolved}

module _ (e : Moment) (typings : Typings) (m : ℕ) (at : Site) (r : HeapRow) (ts us : TypesOf) (here : Here e typings m at (rows.Heap r) ts us) where
  abbrev P : Outcome Kept → Type 0
  P o = LeavesTyped e typings o

  abbrev ops : List Value
  ops = (current_frame e).operands

  -- HOW THEY END

  done : (values : List Value) → AreOperandsOf values us.operands → P (goes (leaving_values e at values (begins e)))
  done values are = leaves e typings m at (rows.Heap r) ts us here values (begins e) refl refl refl are

  ends : (values : List Value) (d : Doing) → AsBefore e d → AreOperandsOf values us.operands → P (ends_event (leaving_values e at values d))
  ends values d same are = ends_leave e typings (leaving_values e at values d) (leaves e typings m at (rows.Heap r) ts us here values d same refl refl are)

  wrote : (o i : ℕ) (v : Value) (values : List Value) → AreOperandsOf values us.operands → P (goes (slot_written e o i v (leaving_values e at values (begins e))))
  wrote o i v values are =
      own_by e typings (leaving_values e at values (begins e)) (slot_written e o i v (leaving_values e at values (begins e))) (slot_threads e o i v (leaving_values e at values (begins e)))
      (leaves e typings m at (rows.Heap r) ts us here values (begins e) refl refl refl are)

  -- a value on top of what is left
  on_left : (v : List Value) (below : List Value) (kind : Operand) (left : List EntryType) → us.operands ≡ operand_entries kind ++ left → map type_of v ≡ operand_entries kind → AreOperandsOf below left → AreOperandsOf (v ++ below) us.operands
  on_left v below kind left given top are =
      map-append type_of v below ∙ (ap (λ (xs : List EntryType). xs ++ map type_of below) top ∙ (ap (λ (xs : List EntryType). operand_entries kind ++ xs) are ∙ sym given))

  -- it has room
  fits : (n : ℕ) (below : List Value) (kind : Operand) (left : List EntryType) → us.operands ≡ operand_entries kind ++ left → AreOperandsOf below left → n ≡ length (operand_entries kind) → leb (n + length below) (current_frame e).room ≡ true
  fits n below kind left given are wide =
      let few : length us.operands ≤ (current_frame e).room = here.after.few in
      let long : length us.operands ≡ length (operand_entries kind) + length left = ap length given ∙ length-append (operand_entries kind) left in
      let same : length below ≡ length left = sym (length-map below type_of) ∙ ap length are in
      le-leb (n + length below) (current_frame e).room (omega (arith, few, long, same, wide))

  -- WHAT IS NAMED

  where_field : (o : Option Member) (x : Member) (go : Member → Outcome Kept) → o ≡ Some x → is_field_descriptor x.descriptor ≡ true → P (go x) → P (with_field e o go)
  where_field o x go is field h = subst (λ (y : Option Member). P (with_field e y go)) (sym is) (never_refused e typings m at (rows.Heap r) ts us here (is_field_descriptor x.descriptor) (go x) field h)

  where_class : (o : Option (List ℕ)) (name : List ℕ) (go : List ℕ → Outcome Kept) → o ≡ Some name → P (go name) → P (with_class e o go)
  where_class o name go is h = subst (λ (y : Option (List ℕ)). P (with_class e y go)) (sym is) h

  class_resolved : (name : List ℕ) (go : ℕ → Outcome Kept) → ((c : ℕ) → resolve_class e.program name ≡ Ok c → P (go c)) → P (resolved_class e (begins e) name go)
  class_resolved name go h = where_resolved e typings here.calm (begins e) (resolve_class e.program name) go refl h

  -- the class of the field, and the field
  record Found (x : Member) (f : ℕ) : Type 0 where
    field_is : IsField e.program x.descriptor f
    found : field_of_member e.program x ≡ Ok f

  found_so : (x : Member) (owner f : ℕ) → resolve_class e.program x.owner ≡ Ok owner → resolve_field e.program owner x.name x.descriptor ≡ Ok f → Found x f
  found_so x owner f a b = record {
    field_is = field_found e.program owner x.name x.descriptor f b;
    found = ap (field_in_owner e.program x) a ∙ b;
  }

  field_resolved : (x : Member) (go : ℕ → Outcome Kept) → ((f : ℕ) → Found x f → P (go f)) → P (resolved_field e (begins e) x go)
  field_resolved x go h =
      class_resolved x.owner _ (λ owner a. where_resolved e typings here.calm (begins e) (resolve_field e.program owner x.name x.descriptor) _ refl (λ f b. h f (found_so x owner f a b)))

  -- no field is of a type without operands
  kind_there : (x : Member) (f : ℕ) → Found x f → IsSome (operand_kind x.descriptor)
  kind_there x f is = subst (λ (d : List ℕ). IsSome (operand_kind d)) is.field_is.descriptor (here.calm.kinds.fields f is.field_is.within)

  read : (x : Member) (f : ℕ) (v : Value) → Found x f → is_of_kind (operand_kind (field_at e.program f).descriptor) v ≡ true → map type_of (entries_of (or_zero (operand_kind x.descriptor) v)) ≡ operand_entries (result_kind x.descriptor)
  read x f v is kind =
      read_entries (operand_kind x.descriptor) (if width_of x.descriptor == 2 then operand.Long else operand.Int) v (kind_there x f is) (subst (λ (d : List ℕ). is_of_kind (operand_kind d) v ≡ true) is.field_is.descriptor kind)

  thrown : (error : GuestError) (b : Bool) (go : Outcome Kept) → (b ≡ true → P go) → P (throws_unless e (begins e) error b go)
  thrown error b go h = unless_thrown e typings here.calm (begins e) error b go refl h

  not_none : (x : Reference) (go : ℕ → Outcome Kept) → ((o : ℕ) → x ≡ Some o → P (go o)) → P (not_null e (begins e) x go)
  not_none x go h = where_not_null e typings here.calm (begins e) x go refl h

  -- FIELDS

  get_static_typed : r ≡ heap.GetStatic → Reads (site_member at) [] ts.operands us.operands → P (get_static e at)
  get_static_typed is h =
      let x : Member = h.member in
      let g : Gives [] (result_kind x.descriptor) ts.operands us.operands = h.gives in
      let given : us.operands ≡ operand_entries (result_kind x.descriptor) ++ ts.operands = g.given ∙ ap (λ (xs : List EntryType). operand_entries (result_kind x.descriptor) ++ xs) (sym (same_Some ts.operands g.left g.taken)) in
      where_field (site_member at) x _ h.named h.field
      (never_refused e typings m at (rows.Heap r) ts us here (field_fits e ops x) _ (fits (width_of x.descriptor) ops (result_kind x.descriptor) ts.operands given here.operands (sym (width_is x.descriptor)))
      (field_resolved x _ (λ f found.
      thrown errors.IncompatibleClassChangeError (is_static_at e.program f) _ (λ static.
      where_initialized e typings here.calm (field_at e.program f).class (begins e) _ refl (begun_well e typings here.calm) (λ d same well.
      let v : Value = static_at d.state.guest (field_at e.program f).slot in
      let place = here.calm.may.slots.statics f found.field_is.within static in
      let kind : is_of_kind (operand_kind (field_at e.program f).descriptor) v ≡ true =
      subst (λ (k : ℕ). is_of_kind (operand_kind (field_at e.program k).descriptor) v ≡ true) place.1 (well.statics.1 (field_at e.program f).slot place.0).value in
      ends (entries_of (or_zero (operand_kind x.descriptor) v) ++ ops) d same
      (on_left (entries_of (or_zero (operand_kind x.descriptor) v)) ops (result_kind x.descriptor) ts.operands given (read x f v found kind) here.operands))))))

  kind_written_is : (x : Member) (kind : Operand) → is_field_descriptor x.descriptor ≡ true → operand_kind x.descriptor ≡ Some kind → kind_of_field x.descriptor ≡ Some kind
  kind_written_is x kind field is = ap (λ (b : Bool). if b then operand_kind x.descriptor else None) field ∙ is

  of_written : (k : Option Operand) (kind : Operand) (go : Value → List Value → Outcome Kept) → k ≡ Some kind → P (with_value (Some kind) (ill_typed e) ops go) → P (with_value k (ill_typed e) ops go)
  of_written k kind go is h = subst (λ (x : Option Operand). P (with_value x (ill_typed e) ops go)) (sym is) h

  put_static_typed : Writes (site_member at) [] ts.operands us.operands → P (put_static e at)
  put_static_typed h =
      let x : Member = h.member in
      where_field (site_member at) x _ h.named h.field
      (of_written (kind_of_field x.descriptor) h.kind _ (kind_written_is x h.kind h.field h.kind_is)
      (value_taken P (ill_typed e) h.kind [] ops ts.operands us.operands _ here.operands h.taken (λ v below rest of_kind are last.
      field_resolved x _ (λ f found.
      thrown errors.IncompatibleClassChangeError (is_static_at e.program f) _ (λ static.
      thrown errors.NoSuchFieldError (not (is_out e.program f)) _ (λ other.
      where_initialized e typings here.calm (field_at e.program f).class (begins e) _ refl (begun_well e typings here.calm) (λ d same well.
      let y : Doing = leaving_values e at below d in
      let z : Doing = static_written e (field_at e.program f).slot (narrowed x.descriptor v) y in
      ends_leave e typings z (own_by e typings y z (static_threads e (field_at e.program f).slot (narrowed x.descriptor v) y)
      (leaves e typings m at (rows.Heap r) ts us here below d same refl refl (are ∙ same_Some rest us.operands last))))))))))

  -- the object of a field, so far below the top
  holder : (x : Member) (f : ℕ) (z : Reference) (place : Member → ℕ) (go : ℕ → Outcome Kept) → site_member at ≡ Some x → Found x f → operand_of (current_frame e) (place x) ≡ referent_value z → (FailsHolder e at place → FailsRow e at (rows.Heap r))
      → ((o : ℕ) → z ≡ Some o → is_subclass e.program (object_class (begins e) o) (field_at e.program f).class ≡ true → P (go o)) → P (with_holder e (begins e) f z go)
  holder x f z place go named found stands fails h =
      not_none z _ (λ o is.
      unless_refused e typings m at (rows.Heap r) ts us here (is_subclass e.program (object_class (begins e) o) (field_at e.program f).class) (go o)
      (λ other. fails (record { member = x; named = named; field = f; found = found.found; object = o; held = stands ∙ ap referent_value is; other = other })) (h o is))

  get_field_typed : r ≡ heap.GetField → Reads (site_member at) (operand.Reference ∷ []) ts.operands us.operands → P (get_field e at)
  get_field_typed is h =
      let x : Member = h.member in
      let g : Gives (operand.Reference ∷ []) (result_kind x.descriptor) ts.operands us.operands = h.gives in
      where_field (site_member at) x _ h.named h.field
      (reference_taken P (ill_typed e) [] ops ts.operands g.left _ here.operands g.taken (λ z below rest stands are last.
      let left : us.operands ≡ operand_entries (result_kind x.descriptor) ++ rest = g.given ∙ ap (λ (xs : List EntryType). operand_entries (result_kind x.descriptor) ++ xs) (sym (same_Some rest g.left last)) in
      never_refused e typings m at (rows.Heap r) ts us here (field_fits e below x) _ (fits (width_of x.descriptor) below (result_kind x.descriptor) rest left are (sym (width_is x.descriptor)))
      (field_resolved x _ (λ f found.
      thrown errors.IncompatibleClassChangeError (not (is_static_at e.program f)) _ (λ instance.
      holder x f z (λ y. 0) _ h.named found (ap (λ (vs : List Value). slice_index_or vs 0 value.Unset) stands) (λ fails. subst (λ (q : HeapRow). FailsRow e at (rows.Heap q)) (sym is) fails) (λ o z_is below_it.
      let v : Value = slot_of (object_at e.before.heap o) (field_at e.program f).slot in
      let kind : is_of_kind (operand_kind (field_at e.program f).descriptor) v ≡ true =
      field_value e.program (begins e).state o f (begun_well e typings here.calm) found.field_is.within (not-true (is_static_at e.program f) instance) below_it in
      done (entries_of (or_zero (operand_kind x.descriptor) v) ++ below) (on_left (entries_of (or_zero (operand_kind x.descriptor) v)) below (result_kind x.descriptor) rest left (read x f v found kind) are)))))))

  put_field_typed : r ≡ heap.PutField → Writes (site_member at) (operand.Reference ∷ []) ts.operands us.operands → P (put_field e at)
  put_field_typed is h =
      let x : Member = h.member in
      where_field (site_member at) x _ h.named h.field
      (of_written (kind_of_field x.descriptor) h.kind _ (kind_written_is x h.kind h.field h.kind_is)
      (value_at P (ill_typed e) h.kind (operand.Reference ∷ []) ops ts.operands us.operands _ here.operands h.taken (λ v more rest there of_kind are next.
      reference_taken P (ill_typed e) [] more rest us.operands _ are next (λ z below rest2 stands are2 last.
      field_resolved x _ (λ f found.
      thrown errors.IncompatibleClassChangeError (not (is_static_at e.program f)) _ (λ instance.
      let wide : width_of x.descriptor ≡ length (entries_of v) =
      sym (width_is x.descriptor) ∙ (ap (λ (k : Option Operand). length (operand_entries (unwrap_or k (if width_of x.descriptor == 2 then operand.Long else operand.Int)))) h.kind_is ∙ sym (value_long h.kind v of_kind)) in
      let held : operand_of (current_frame e) (width_of x.descriptor) ≡ referent_value z =
      ap (λ (n : ℕ). slice_index_or ops n value.Unset) wide ∙ (ap (λ (vs : List Value). slice_index_or vs (length (entries_of v)) value.Unset) (there ∙ ap (λ (vs : List Value). entries_of v ++ vs) stands) ∙ behind (entries_of v) (referent_value z) below) in
      holder x f z (λ (y : Member). width_of y.descriptor) _ h.named found held (λ fails. subst (λ (q : HeapRow). FailsRow e at (rows.Heap q)) (sym is) fails) (λ o z_is below_it.
      wrote o (field_at e.program f).slot (narrowed x.descriptor v) below (are2 ∙ same_Some rest2 us.operands last))))))))

  -- ELEMENTS

  element : (kind : Elements) (z : Reference) (i : ℤ) (k : ℕ) (go : ℕ → Outcome Kept) → operand_of (current_frame e) k ≡ referent_value z → ((o : ℕ) → StandsBelow e k o → are_elements kind (element_of_array e o) ≡ false → FailsRow e at (rows.Heap r))
      → ((o : ℕ) → z ≡ Some o → are_elements kind (element_of_array e o) ≡ true → in_bounds i (length_of e o) ≡ true → P (go o)) → P (with_element e kind z i go)
  element kind z i k go stands fails h =
      not_none z _ (λ o is.
      unless_refused e typings m at (rows.Heap r) ts us here (are_elements kind (element_of_array e o)) _ (λ other. fails o (stands ∙ ap referent_value is) other) (λ elements.
      thrown errors.ArrayIndexOutOfBoundsException (in_bounds i (length_of e o)) (go o) (λ within. h o is elements within)))

  load_element_typed : (kind : Elements) → r ≡ heap.LoadElement kind → Gives (operand.Int ∷ operand.Reference ∷ []) (kind_of_elements kind) ts.operands us.operands → P (load_element e at kind)
  load_element_typed kind is g =
      int_at P (ill_typed e) (operand.Reference ∷ []) ops ts.operands g.left _ here.operands g.taken (λ i more rest there are next.
      reference_taken P (ill_typed e) [] more rest g.left _ are next (λ z below rest2 stands are2 last.
      let left : us.operands ≡ operand_entries (kind_of_elements kind) ++ rest2 = g.given ∙ ap (λ (xs : List EntryType). operand_entries (kind_of_elements kind) ++ xs) (sym (same_Some rest2 g.left last)) in
      let top : operand_of (current_frame e) 1 ≡ referent_value z = ap (λ (vs : List Value). slice_index_or vs 1 value.Unset) (there ∙ ap (λ (vs : List Value). value.Int i ∷ vs) stands) in
      element kind z i 1 _ top (λ o held other. subst (λ (q : HeapRow). FailsRow e at (rows.Heap q)) (sym is) (o, held, other)) (λ o z_is elements within.
      let v : Value = slot_of (object_at e.before.heap o) (natural_of i) in
      done (entries_of (or_zero (Some (kind_of_elements kind)) v) ++ below)
      (on_left (entries_of (or_zero (Some (kind_of_elements kind)) v)) below (kind_of_elements kind) rest2 left
      (read_entries (Some (kind_of_elements kind)) operand.Int v refl (element_read e.program e.before kind o (natural_of i) here.calm.sound elements)) are2))))

  store_element_typed : (kind : Elements) → r ≡ heap.StoreElement kind → below_taken (kind_of_elements kind ∷ operand.Int ∷ operand.Reference ∷ []) ts.operands ≡ Some us.operands → P (store_element e at kind)
  store_element_typed kind is taken =
      value_at P (ill_typed e) (kind_of_elements kind) (operand.Int ∷ operand.Reference ∷ []) ops ts.operands us.operands _ here.operands taken (λ v most rest there of_kind are next.
      int_at P (ill_typed e) (operand.Reference ∷ []) most rest us.operands _ are next (λ i more rest2 index are2 then_next.
      reference_taken P (ill_typed e) [] more rest2 us.operands _ are2 then_next (λ z below rest3 stands are3 last.
      let n : ℕ = length (operand_entries (kind_of_elements kind)) in
      let all : ops ≡ entries_of v ++ value.Int i ∷ referent_value z ∷ below = there ∙ ap (λ (vs : List Value). entries_of v ++ vs) (index ∙ ap (λ (vs : List Value). value.Int i ∷ vs) stands) in
      let same : ops ≡ (entries_of v ++ value.Int i ∷ []) ++ referent_value z ∷ below = all ∙ sym (append_assoc (entries_of v) (value.Int i ∷ []) (referent_value z ∷ below)) in
      let long : n + 1 ≡ length (entries_of v ++ value.Int i ∷ []) = ap (λ (k : ℕ). k + 1) (sym (value_long (kind_of_elements kind) v of_kind)) ∙ sym (length-append (entries_of v) (value.Int i ∷ [])) in
      let top : operand_of (current_frame e) (n + 1) ≡ referent_value z =
      ap (λ (k : ℕ). slice_index_or ops k value.Unset) long ∙ (ap (λ (vs : List Value). slice_index_or vs (length (entries_of v ++ value.Int i ∷ [])) value.Unset) same ∙ behind (entries_of v ++ value.Int i ∷ []) (referent_value z) below) in
      element kind z i (n + 1) _ top (λ o held other. subst (λ (q : HeapRow). FailsRow e at (rows.Heap q)) (sym is) (o, held, other)) (λ o z_is elements within.
      thrown errors.ArrayStoreException (passes_element e v (element_of_array e o)) _ (λ passed.
      wrote o (natural_of i) (kept_element kind v) below (are3 ∙ same_Some rest3 us.operands last))))))

  array_length_typed : r ≡ heap.ArrayLength → Gives (operand.Reference ∷ []) operand.Int ts.operands us.operands → P (array_length e at)
  array_length_typed is g =
      reference_taken P (ill_typed e) [] ops ts.operands g.left _ here.operands g.taken (λ z below rest stands are last.
      not_none z _ (λ o z_is.
      unless_refused e typings m at (rows.Heap r) ts us here (is_array_element (element_of_array e o)) _
      (λ other. subst (λ (q : HeapRow). FailsRow e at (rows.Heap q)) (sym is) (o, ap (λ (vs : List Value). slice_index_or vs 0 value.Unset) stands ∙ ap referent_value z_is, other))
      (λ array. done (value.Int (pos (length_of e o)) ∷ below) (on_left (value.Int (pos (length_of e o)) ∷ []) below operand.Int rest (g.given ∙ ap (λ (xs : List EntryType). entry.Int ∷ xs) (sym (same_Some rest g.left last))) refl are))))

  -- MAKING

  one_reference : (o : ℕ) (below : List Value) (rest left : List EntryType) → us.operands ≡ operand_entries operand.Reference ++ left → Some rest ≡ Some left → AreOperandsOf below rest → AreOperandsOf (value.Ref o ∷ below) us.operands
  one_reference o below rest left given last are = on_left (value.Ref o ∷ []) below operand.Reference rest (given ∙ ap (λ (xs : List EntryType). entry.Reference ∷ xs) (sym (same_Some rest left last))) refl are

  new_typed : NamesClass (class_operand at) (giving [] operand.Reference) ts.operands us.operands → P (new_instance e at)
  new_typed h =
      let g : Gives [] operand.Reference ts.operands us.operands = gives [] operand.Reference ts.operands us.operands h.moves in
      where_class (class_operand at) h.name _ h.named
      (never_refused e typings m at (rows.Heap r) ts us here (leb (1 + length ops) (current_frame e).room) _
      (fits 1 ops operand.Reference ts.operands (g.given ∙ ap (λ (xs : List EntryType). entry.Reference ∷ xs) (sym (same_Some ts.operands g.left g.taken))) here.operands refl)
      (class_resolved h.name _ (λ class found.
      thrown errors.InstantiationError (may_be_made e.program class) _ (λ may.
      where_initialized e typings here.calm class (begins e) _ refl (begun_well e typings here.calm) (λ d same well.
      let x : Doing = instance_made e class d in
      ends (value.Ref (next_object d) ∷ ops) x same (one_reference (next_object d) ops ts.operands g.left g.given g.taken here.operands))))))

  array_typed : (class : ℕ) (elements : ℤ) (below : List Value) → AreOperandsOf (value.Ref (next_object (begins e)) ∷ below) us.operands → P (new_array_of e at class elements below)
  array_typed class elements below are =
      thrown errors.NegativeArraySizeException (int_le (pos 0) elements) _ (λ fine.
      ends (value.Ref (next_object (begins e)) ∷ below) (array_made e class (natural_of elements) (begins e)) refl are)

  new_array_typed : Gives (operand.Int ∷ []) operand.Reference ts.operands us.operands → P (new_array e at)
  new_array_typed g =
      int_taken P (ill_typed e) [] ops ts.operands g.left _ here.operands g.taken (λ elements below rest are last.
      array_typed _ elements below (one_reference (next_object (begins e)) below rest g.left g.given last are))

  new_reference_array_typed : NamesClass (class_operand at) (giving (operand.Int ∷ []) operand.Reference) ts.operands us.operands → P (new_reference_array e at)
  new_reference_array_typed h =
      let g : Gives (operand.Int ∷ []) operand.Reference ts.operands us.operands = gives (operand.Int ∷ []) operand.Reference ts.operands us.operands h.moves in
      where_class (class_operand at) h.name _ h.named
      (int_taken P (ill_typed e) [] ops ts.operands g.left _ here.operands g.taken (λ elements below rest are last.
      class_resolved h.name _ (λ class found.
      array_typed _ elements below (one_reference (next_object (begins e)) below rest g.left g.given last are))))

  lengths_typed : (n : ℕ) (given : List ℤ) (vs : List Value) (types left : List EntryType) (go : List ℤ → List Value → Outcome Kept) → AreOperandsOf vs types → below_taken (replicate n operand.Int) types ≡ Some left
      → ((ls : List ℤ) (below : List Value) → AreOperandsOf below left → P (go ls below)) → P (with_lengths n given (ill_typed e) vs go)
  lengths_typed zero given vs types left go are taken h = h given vs (are ∙ same_Some types left taken)
  lengths_typed (suc n) given vs types left go are taken h =
      int_taken P (ill_typed e) (replicate n operand.Int) vs types left _ are taken (λ i below rest are2 more.
      lengths_typed n (i ∷ given) below rest left go are2 more h)

  new_multi_array_typed : NamesClass (class_operand at) (giving (replicate (natural_of at.instr.second) operand.Int) operand.Reference) ts.operands us.operands → P (new_multi_array e at)
  new_multi_array_typed h =
      let kinds : List Operand = replicate (natural_of at.instr.second) operand.Int in
      let g : Gives kinds operand.Reference ts.operands us.operands = gives kinds operand.Reference ts.operands us.operands h.moves in
      where_class (class_operand at) h.name _ h.named
      (lengths_typed (natural_of at.instr.second) [] ops ts.operands g.left _ here.operands g.taken (λ ls below are.
      class_resolved h.name _ (λ class found.
      thrown errors.NegativeArraySizeException (list_all (int_le (pos 0)) ls) _ (λ fine.
      ends (value.Ref (next_object (begins e)) ∷ below) (arrays_made e class (naturals ls) (begins e)) (arrays_threads e class (naturals ls) (begins e)) (one_reference (next_object (begins e)) below g.left g.left g.given refl are)))))

  -- TYPE TESTS

  cast_typed : NamesClass (class_operand at) (giving (operand.Reference ∷ []) operand.Reference) ts.operands us.operands → P (check_cast e at)
  cast_typed h =
      let g : Gives (operand.Reference ∷ []) operand.Reference ts.operands us.operands = gives (operand.Reference ∷ []) operand.Reference ts.operands us.operands h.moves in
      where_class (class_operand at) h.name _ h.named
      (reference_taken P (ill_typed e) [] ops ts.operands g.left _ here.operands g.taken (λ z below rest stands are last.
      by z below (λ v top. on_left (v ∷ []) below operand.Reference rest (g.given ∙ ap (λ (xs : List EntryType). entry.Reference ∷ xs) (sym (same_Some rest g.left last))) top are)))
    where
      by : (z : Reference) (below : List Value) → ((v : Value) → map type_of (v ∷ []) ≡ entry.Reference ∷ [] → AreOperandsOf (v ∷ below) us.operands) → P (cast e at h.name below z)
      by None below k = done (value.Null ∷ below) (k value.Null refl)
      by (Some o) below k =
          class_resolved h.name _ (λ class found.
          thrown errors.ClassCastException (passes e.program (object_class (begins e) o) class) _ (λ passed. done (value.Ref o ∷ below) (k (value.Ref o) refl)))

  tested_typed : NamesClass (class_operand at) (giving (operand.Reference ∷ []) operand.Int) ts.operands us.operands → P (instance_of e at)
  tested_typed h =
      let g : Gives (operand.Reference ∷ []) operand.Int ts.operands us.operands = gives (operand.Reference ∷ []) operand.Int ts.operands us.operands h.moves in
      where_class (class_operand at) h.name _ h.named
      (reference_taken P (ill_typed e) [] ops ts.operands g.left _ here.operands g.taken (λ z below rest stands are last.
      by z below (λ b. on_left (truth b ∷ []) below operand.Int rest (g.given ∙ ap (λ (xs : List EntryType). entry.Int ∷ xs) (sym (same_Some rest g.left last))) (ap (λ (t : EntryType). t ∷ []) (truth_type b)) are)))
    where
      by : (z : Reference) (below : List Value) → ((b : Bool) → AreOperandsOf (truth b ∷ below) us.operands) → P (type_tested e at h.name below z)
      by None below k = done (truth false ∷ below) (k false)
      by (Some o) below k = class_resolved h.name _ (λ class found. done (truth (passes e.program (object_class (begins e) o) class) ∷ below) (k (passes e.program (object_class (begins e) o) class)))

-- ALL ROWS

pub heap_typed : (e : Moment) (typings : Typings) (m : ℕ) (at : Site) (r : HeapRow) (ts us : TypesOf) → Here e typings m at (rows.Heap r) ts us → LeavesTyped e typings (heap_event e at r)
heap_typed e typings m at heap.GetStatic ts us here = get_static_typed e typings m at heap.GetStatic ts us here refl (reads (site_member at) [] ts.operands us.operands here.after.operands)
heap_typed e typings m at heap.PutStatic ts us here = put_static_typed e typings m at heap.PutStatic ts us here (writes (site_member at) [] ts.operands us.operands here.after.operands)
heap_typed e typings m at heap.GetField ts us here = get_field_typed e typings m at heap.GetField ts us here refl (reads (site_member at) (operand.Reference ∷ []) ts.operands us.operands here.after.operands)
heap_typed e typings m at heap.PutField ts us here = put_field_typed e typings m at heap.PutField ts us here refl (writes (site_member at) (operand.Reference ∷ []) ts.operands us.operands here.after.operands)
heap_typed e typings m at (heap.LoadElement kind) ts us here = load_element_typed e typings m at (heap.LoadElement kind) ts us here kind refl (gives (operand.Int ∷ operand.Reference ∷ []) (kind_of_elements kind) ts.operands us.operands here.after.operands)
heap_typed e typings m at (heap.StoreElement kind) ts us here = store_element_typed e typings m at (heap.StoreElement kind) ts us here kind refl (takes_all (kind_of_elements kind ∷ operand.Int ∷ operand.Reference ∷ []) ts.operands us.operands here.after.operands)
heap_typed e typings m at heap.New ts us here = new_typed e typings m at heap.New ts us here (names_class (class_operand at) (giving [] operand.Reference) ts.operands us.operands here.after.operands)
heap_typed e typings m at heap.NewArray ts us here = new_array_typed e typings m at heap.NewArray ts us here (gives (operand.Int ∷ []) operand.Reference ts.operands us.operands here.after.operands)
heap_typed e typings m at heap.NewReferenceArray ts us here = new_reference_array_typed e typings m at heap.NewReferenceArray ts us here (names_class (class_operand at) (giving (operand.Int ∷ []) operand.Reference) ts.operands us.operands here.after.operands)
heap_typed e typings m at heap.NewMultiArray ts us here =
    new_multi_array_typed e typings m at heap.NewMultiArray ts us here (names_class (class_operand at) (giving (replicate (natural_of at.instr.second) operand.Int) operand.Reference) ts.operands us.operands here.after.operands)
heap_typed e typings m at heap.ArrayLength ts us here = array_length_typed e typings m at heap.ArrayLength ts us here refl (gives (operand.Reference ∷ []) operand.Int ts.operands us.operands here.after.operands)
heap_typed e typings m at heap.CheckCast ts us here = cast_typed e typings m at heap.CheckCast ts us here (names_class (class_operand at) (giving (operand.Reference ∷ []) operand.Reference) ts.operands us.operands here.after.operands)
heap_typed e typings m at heap.InstanceOf ts us here = tested_typed e typings m at heap.InstanceOf ts us here (names_class (class_operand at) (giving (operand.Reference ∷ []) operand.Int) ts.operands us.operands here.after.operands)
