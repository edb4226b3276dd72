-- A call of a method of texts: on which object it is selected, and from which method of which class.
use Rattle.std.proofs.Common.{◌≡◌, ℕ, true, false, List, Option, Some, Ok}
use Rattle.std.specs.Prelude.{option_and_then}
use Rattle.std.specs.Result.{result_ok}
use Rattle.et_base.specs.declared.value.Value.{Value}
use Rattle.et_event.specs.Calls.{fits_resolved, is_as, is_static_call, special_class}
use Rattle.et_event.specs.Frames.{first_reference}
use Rattle.et_event.specs.Moments.{Moment, begins, object_class}
use Rattle.et_event.specs.Selected.{selected_from, selected_on, with_resolved}
use Rattle.et_event.specs.Sites.{Member, Site, names_interface}
use Rattle.et_event.specs.declared.rows.CallKind.{CallKind}
use Rattle.et_event.specs.declared.rows.CallKind.TheVariants.{Interface, Special, Static, Virtual}
use Rattle.et_program.specs.Entries.{is_static}
use Rattle.et_program.specs.Resolution.{resolve_class, resolve_method, select, select_special}
use Rattle.et_history.proofs.texts.Called.{and_then_some, if_some, result_some}
use Rattle.et_theorems.specs.typings.Refused.{selected}

pub record Chosen (e : Moment) (at : Site) (kind : CallKind) (named : Member) (arguments : List Value) (k : ℕ) : Type 0 where
  pub owner : ℕ
  pub class_found : resolve_class e.program named.owner ≡ Ok owner
  pub resolved : ℕ
  pub method_found : resolve_method e.program owner (names_interface at) named.name named.descriptor ≡ Ok resolved
  pub wanted : is_as (is_static_call kind) (is_static e.program resolved) ≡ true
  pub object : ℕ
  pub receiver : first_reference arguments ≡ Some object
  pub is_selected : selected e at kind owner resolved object ≡ Some k

selected_so : (e : Moment) (at : Site) (kind : CallKind) (arguments : List Value) (owner n o k : ℕ) → selected_on e at kind arguments owner n o ≡ Some k → selected e at kind owner n o ≡ Some k
selected_so e at Virtual arguments owner n o k h = (if_some (fits_resolved e (begins e) arguments n o) (result_ok (select e.program (object_class (begins e) o) n false)) k h).1
selected_so e at Special arguments owner n o k h = (if_some (fits_resolved e (begins e) arguments n o) (result_ok (select_special e.program at.class (special_class e.program owner) n)) k h).1
selected_so e at Static arguments owner n o k h = h
selected_so e at Interface arguments owner n o k h = h

pub chosen : (e : Moment) (at : Site) (kind : CallKind) (named : Member) (arguments : List Value) (k : ℕ) → with_resolved e.program (names_interface at) named (selected_from e at kind arguments) ≡ Some k → Chosen e at kind named arguments k
chosen e at kind named arguments k h =
    let go : ℕ → ℕ → Option ℕ = selected_from e at kind arguments in
    let class = and_then_some (λ (owner : ℕ). option_and_then (go owner) (result_ok (resolve_method e.program owner (names_interface at) named.name named.descriptor))) (result_ok (resolve_class e.program named.owner)) k h in
    let method = and_then_some (go class.0) (result_ok (resolve_method e.program class.0 (names_interface at) named.name named.descriptor)) k class.2 in
    let wanted = if_some (is_as (is_static_call kind) (is_static e.program method.0)) (option_and_then (selected_on e at kind arguments class.0 method.0) (first_reference arguments)) k method.2 in
    let on = and_then_some (selected_on e at kind arguments class.0 method.0) (first_reference arguments) k wanted.1 in
    record {
      owner = class.0;
      class_found = result_some (resolve_class e.program named.owner) class.0 class.1;
      resolved = method.0;
      method_found = result_some (resolve_method e.program class.0 (names_interface at) named.name named.descriptor) method.0 method.1;
      wanted = wanted.0;
      object = on.0;
      receiver = on.1;
      is_selected = selected_so e at kind arguments class.0 method.0 on.0 k on.2;
    }
