-- EVENTS THAT CHECK 7 REFUSES, which no typing rules out: check 1 is passed, and an object is of a class that the instruction
-- can't take.
use Rattle.std.specs.Prelude.{◌≡◌, ℕ, ◌+◌, ◌⊎◌, true, false, List, length, codes, Option, Some, None, Ok, IsSome}
use Rattle.std.specs.Result.{result_ok}
use Rattle.et_base.specs.declared.value.Value.{Value}
use Rattle.et_base.specs.declared.value.Value.TheVariants.{Ref}
use Rattle.et_class.specs.Descriptors.{MethodType, method_type, width_of}
use Rattle.et_program.specs.BootMethods.BuiltIn.{BuiltIn}
use Rattle.et_program.specs.BootTexts.TextMethod.{TextMethod}
use Rattle.et_program.specs.BuiltIns.{built_in_of, text_method_of}
use Rattle.et_program.specs.Entries.{field_at, method_at}
use Rattle.et_program.specs.Members.{is_subclass}
use Rattle.et_program.specs.Referring.{field_of_member}
use Rattle.et_program.specs.Resolution.{resolve_class, resolve_method, select, select_special}
use Rattle.et_state.specs.declared.stage.Turn.TheVariants.{Entry}
use Rattle.et_state.specs.Threads.{operand_of, turn_of}
use Rattle.et_event.specs.declared.rows.CallKind.{CallKind}
use Rattle.et_event.specs.declared.rows.CallKind.TheVariants.{Virtual, Special, Static, Interface}
use Rattle.et_event.specs.declared.rows.CallRow.{CallRow}
use Rattle.et_event.specs.declared.rows.CallRow.TheVariants as call
use Rattle.et_event.specs.declared.rows.HeapRow.{HeapRow}
use Rattle.et_event.specs.declared.rows.HeapRow.TheVariants as heap
use Rattle.et_event.specs.declared.rows.Row.{Row}
use Rattle.et_event.specs.declared.rows.Row.TheVariants as rows
use Rattle.et_event.specs.BuiltIns.{is_fit_for}
use Rattle.et_event.specs.Calls.{arguments_of, entry_count, fits_resolved, is_of_owner, is_static_call, returned_by, special_class}
use Rattle.et_event.specs.Errors.{class_called}
use Rattle.et_event.specs.Frames.{first_reference}
use Rattle.et_event.specs.Heap.{element_of_array}
use Rattle.et_event.specs.Kinds.{are_elements, is_array_element, kind_of_elements}
use Rattle.et_event.specs.Moments.{Moment, begins, current_frame, object_class, thread_of}
use Rattle.et_event.specs.Sites.{Site, Member, names_interface, site_member}
use Rattle.et_event.specs.TextRows.{is_fit_text}
use Rattle.et_event.specs.Throw.{is_throwable}
use Rattle.et_history.specs.soundness.Places.{IsAtRow}
use Rattle.et_theorems.specs.typings.Values.{types_of}
use Rattle.et_flow.specs.Types.{operand_entries}
use Rattle.et_verify.specs.Steps.{types_after}

-- so far below the topmost operand stands an object
abbrev pub StandsBelow : Moment → ℕ → ℕ → Type 0
StandsBelow e k o = operand_of (current_frame e) k ≡ Ref o

-- it is of no class that has the field
pub record FailsHolder (e : Moment) (at : Site) (place : Member → ℕ) : Type 0 where
  pub member : Member
  pub named : site_member at ≡ Some member
  pub field : ℕ
  pub found : field_of_member e.program member ≡ Ok field
  pub object : ℕ
  pub held : StandsBelow e (place member) object
  pub other : is_subclass e.program (object_class (begins e) object) (field_at e.program field).class ≡ false

abbrev pub FailsHeap : Moment → Site → HeapRow → Type 0
FailsHeap e at heap.GetField = FailsHolder e at (λ m. 0)
FailsHeap e at heap.PutField = FailsHolder e at (λ (m : Member). width_of m.descriptor)
FailsHeap e at (heap.LoadElement kind) = (o : ℕ) × StandsBelow e 1 o × (are_elements kind (element_of_array e o) ≡ false)
FailsHeap e at (heap.StoreElement kind) =
    (o : ℕ) × StandsBelow e (length (operand_entries (kind_of_elements kind)) + 1) o × (are_elements kind (element_of_array e o) ≡ false)
FailsHeap e at heap.ArrayLength = (o : ℕ) × StandsBelow e 0 o × (is_array_element (element_of_array e o) ≡ false)
FailsHeap e at other = ⊥

-- a call that names a method of a class: the object is of no class that has the method, or the method takes no such argument
abbrev pub FailsResolved : Moment → CallKind → List Value → ℕ → ℕ → Type 0
FailsResolved e Virtual arguments m o = fits_resolved e (begins e) arguments m o ≡ false
FailsResolved e Special arguments m o = fits_resolved e (begins e) arguments m o ≡ false
FailsResolved e Static arguments m o = ⊥
FailsResolved e Interface arguments m o = ⊥

abbrev pub selected : Moment → Site → CallKind → ℕ → ℕ → ℕ → Option ℕ
selected e at Virtual named m o = result_ok (select e.program (object_class (begins e) o) m false)
selected e at Special named m o = result_ok (select_special e.program at.class (special_class e.program named) m)
selected e at Static named m o = None
selected e at Interface named m o = result_ok (select e.program (object_class (begins e) o) m true)

-- .. or a built-in method is selected that works on objects of another class
pub record FailsBuiltIn (e : Moment) (at : Site) (kind : CallKind) (named m o : ℕ) : Type 0 where
  pub method : ℕ
  pub is_selected : selected e at kind named m o ≡ Some method
  pub built_in : BuiltIn
  pub is_built_in : built_in_of (method_at e.program method) ≡ Some built_in
  pub unfit : is_fit_for e (begins e) o built_in ≡ false

-- .. or a method of texts is selected that works on objects of another class, or takes another object as an argument
pub record FailsText (e : Moment) (at : Site) (kind : CallKind) (arguments : List Value) (named m o : ℕ) : Type 0 where
  pub method : ℕ
  pub is_selected : selected e at kind named m o ≡ Some method
  pub text : TextMethod
  pub is_text : text_method_of e.program method ≡ Some text
  pub unfit : is_fit_text e (begins e) arguments o text ≡ false

pub record FailsCall (e : Moment) (at : Site) (kind : CallKind) : Type 0 where
  pub member : Member
  pub named : site_member at ≡ Some member
  pub type : MethodType
  pub typed : method_type member.descriptor ≡ Some type
  pub class : ℕ
  pub class_found : resolve_class e.program member.owner ≡ Ok class
  pub method : ℕ
  pub method_found : resolve_method e.program class (names_interface at) member.name member.descriptor ≡ Ok method
  pub object : ℕ
  pub receiver : first_reference (arguments_of e (entry_count (is_static_call kind) type)) ≡ Some object
  pub fails : FailsResolved e kind (arguments_of e (entry_count (is_static_call kind) type)) method object
      ⊎ (FailsBuiltIn e at kind class method object ⊎ FailsText e at kind (arguments_of e (entry_count (is_static_call kind) type)) class method object)

abbrev pub FailsCallRow : Moment → Site → CallRow → Type 0
FailsCallRow e at (call.Invoke kind) = FailsCall e at kind
FailsCallRow e at (call.Return kind) = ⊥

-- check 7 of each row
abbrev pub FailsRow : Moment → Site → Row → Type 0
FailsRow e at (rows.Heap r) = FailsHeap e at r
FailsRow e at (rows.Call r) = FailsCallRow e at r
FailsRow e at rows.Throw = (o : ℕ) × StandsBelow e 0 o × (is_throwable e o ≡ false)
FailsRow e at other = ⊥

-- an instruction passes check 1, with the very values of its frame, and fails check 7
pub record IsRefusedAt (e : Moment) : Type 0 where
  pub at : Site
  pub row : Row
  pub stands : IsAtRow e at row
  pub passes : IsSome (types_after (current_frame e).room (returned_by e) at row (types_of (current_frame e)))
  pub fails : FailsRow e at row

-- .. or so does the entry of a thread: its object is of no class that has the `run` of Thread
pub record IsRefusedEntry (e : Moment) : Type 0 where
  pub enters : turn_of (thread_of e) ≡ Entry
  pub object : ℕ
  pub has : (thread_of e).object ≡ Some object
  pub method : ℕ
  pub found : resolve_method e.program (class_called e.program (codes "java/lang/Thread")) false (codes "run") (codes "()V") ≡ Ok method
  pub other : is_of_owner e (begins e) method object ≡ false

abbrev pub IsRefused : Moment → Type 0
IsRefused e = IsRefusedAt e ⊎ IsRefusedEntry e
