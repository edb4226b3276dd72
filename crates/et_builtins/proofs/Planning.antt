-- The receiver of a call, and what is selected.
use Rattle.std.proofs.Common.{◌≡◌, ℕ, ◌<◌, Bool, true, false, List, length, Option, Some, None, refl, ◌∙◌, ap}
use Rattle.std.specs.Prelude.{if◌then◌else◌, option_and_then, Result, IfOk}
use Rattle.std.specs.Result.{result_ok}
use Rattle.et_heap.proofs.References.{there_is}
use Rattle.et_base.specs.declared.value.Value.{Value}
use Rattle.et_heap.specs.Objects.{IsHeld, at, found, object_at}
use Rattle.et_state.specs.State.{Kept, MachineState, kept_of}
use Rattle.et_program.specs.Entries.{Linked, is_static}
use Rattle.et_program.specs.Resolution.{resolve_class, resolve_method, select}
use Rattle.et_event.specs.declared.errors.GuestError.{GuestError}
use Rattle.et_event.specs.declared.errors.GuestError.TheVariants.{IncompatibleClassChangeError}
use Rattle.et_event.specs.declared.rows.CallKind.TheVariants.{Virtual, Special, Static, Interface}
use Rattle.et_event.specs.Calls.{arguments_of, call_fits, dispatched, enters_method, entry_count, invoke, is_as, is_static_call, special_class, with_method, with_type}
use Rattle.et_event.specs.declared.rows.CallKind.{CallKind}
use Rattle.et_builtins.specs.Arguments.{fitting}
use Rattle.et_builtins.specs.Plans.{HasCallRoom, fits_in_kind, is_interface_call, selection_in}
use Rattle.et_builtins.proofs.Choosing.{select_room, special_room}
use Rattle.et_program.specs.declared.errors.LinkError.{LinkError}
use Rattle.et_event.specs.Selected.{selected_by, selected_from, selected_method, selected_on, with_resolved}
use Rattle.et_pool.specs.Descriptors.{MethodType, method_type}
use Rattle.et_state.specs.Outcome.{Outcome}
use Rattle.et_event.specs.Checks.{ill_typed_unless, not_null, resolved, after_selection, throws_unless}
use Rattle.et_event.specs.Frames.{first_reference}
use Rattle.et_event.specs.Moments.{Moment, begins, object_class, ill_typed}
use Rattle.et_event.specs.Sites.{Member, Site, site_member, names_interface}
use Rattle.et_event.specs.Sound.{IsSoundFor}

pub class_within : (p : Linked) (m : MachineState) (o : ℕ) → IsSoundFor p (kept_of m) → IsHeld m.heap o → (object_at m.heap o).class < length p.classes
class_within p m o sound held = (sound.objects o (found (at m.heap o)) (there_is (at m.heap o) held)).0.class

-- WHAT THE TABLE SAYS OF A RECEIVER

-- an invoke on an object
abbrev pub on_object : Moment → Site → CallKind → List Value → (named m o : ℕ) → Outcome Kept
on_object e at kind args named m o =
    ill_typed_unless e (fits_in_kind e kind args m o) (after_selection e (begins e) (selection_in e.program kind at.class named m (object_class (begins e) o)) (enters_method e at (begins e) args))

-- .. is one on the receiver
pub on_receiver : (e : Moment) (at : Site) (kind : CallKind) (args : List Value) (named m : ℕ) (r : Option ℕ) → (kind ≡ Static → ⊥) → first_reference args ≡ r
    → dispatched e at kind args named m ≡ not_null e (begins e) r (λ o. on_object e at kind args named m o)
on_receiver e at Virtual args named m r receives h = ap (λ (q : Option ℕ). not_null e (begins e) q (λ o. on_object e at Virtual args named m o)) h
on_receiver e at Special args named m r receives h = ap (λ (q : Option ℕ). not_null e (begins e) q (λ o. on_object e at Special args named m o)) h
on_receiver e at Static args named m r receives h = absurd (receives refl)
on_receiver e at Interface args named m r receives h = ap (λ (q : Option ℕ). not_null e (begins e) q (λ o. on_object e at Interface args named m o)) h

-- .. and selects what it selects
pub selects_on : (e : Moment) (at : Site) (kind : CallKind) (args : List Value) (named m o : ℕ) → (kind ≡ Static → ⊥)
    → selected_on e at kind args named m o ≡ (if fits_in_kind e kind args m o then result_ok (selection_in e.program kind at.class named m (object_class (begins e) o)) else None)
selects_on e at Virtual args named m o receives = refl
selects_on e at Special args named m o receives = refl
selects_on e at Static args named m o receives = absurd (receives refl)
selects_on e at Interface args named m o receives = refl

pub selection_room : (e : Moment) (kind : CallKind) (current named m class count : ℕ) (r : Result ℕ LinkError) → r ≡ selection_in e.program kind current named m class → HasCallRoom e m count → IfOk r (λ n. HasCallRoom e n count)
selection_room e Virtual current named m class count r is room = select_room e class m count false r is room
selection_room e Special current named m class count r is room = special_room e current (special_class e.program named) m count r is room
selection_room e Static current named m class count r is room = select_room e class m count false r is room
selection_room e Interface current named m class count r is room = select_room e class m count true r is room

pub other_selection : (p : Linked) (kind : CallKind) (current named m class : ℕ) → (kind ≡ Special → ⊥) → select p class m (is_interface_call kind) ≡ selection_in p kind current named m class
other_selection p Virtual current named m class other = refl
other_selection p Special current named m class other = absurd (other refl)
other_selection p Static current named m class other = refl
other_selection p Interface current named m class other = refl

-- THE CHECKS BEFORE THE RECEIVER

abbrev pub checks : Moment → Site → CallKind → ℕ → ℕ → ℕ → Outcome Kept
checks e at kind count owner method =
    throws_unless e (begins e) IncompatibleClassChangeError (is_as (is_static_call kind) (is_static e.program method)) (dispatched e at kind (arguments_of e count) owner method)

abbrev pub resolves : Moment → Member → Bool → (ℕ → ℕ → Outcome Kept) → Outcome Kept
resolves e m by_interface go =
    resolved e (begins e) (resolve_class e.program m.owner) (λ owner. resolved e (begins e) (resolve_method e.program owner by_interface m.name m.descriptor) (go owner))

-- by how many entries are passed, if the call may be done
abbrev pub fitted : Moment → Site → CallKind → Member → Option ℕ → Outcome Kept
fitted e at kind m None = ill_typed e
fitted e at kind m (Some count) = resolves e m (names_interface at) (checks e at kind count)

by_fit : (e : Moment) (at : Site) (kind : CallKind) (m : Member) (type : MethodType) (b : Bool)
    → ill_typed_unless e b (resolves e m (names_interface at) (checks e at kind (entry_count (is_static_call kind) type))) ≡ fitted e at kind m (if b then Some (entry_count (is_static_call kind) type) else None)
by_fit e at kind m type true = refl
by_fit e at kind m type false = refl

by_type : (e : Moment) (at : Site) (kind : CallKind) (m : Member) (o : Option MethodType)
    → with_type e o (λ type. ill_typed_unless e (call_fits e (is_static_call kind) type) (resolves e m (names_interface at) (checks e at kind (entry_count (is_static_call kind) type)))) ≡ fitted e at kind m (fitting e (is_static_call kind) o)
by_type e at kind m None = refl
by_type e at kind m (Some type) = by_fit e at kind m type (call_fits e (is_static_call kind) type)

pub invoke_is : (e : Moment) (at : Site) (kind : CallKind) (m : Member) → site_member at ≡ Some m → invoke e at kind ≡ fitted e at kind m (fitting e (is_static_call kind) (method_type m.descriptor))
invoke_is e at kind m h =
    ap (λ (o : Option Member). with_method e o (λ n type. ill_typed_unless e (call_fits e (is_static_call kind) type) (resolves e n (names_interface at) (checks e at kind (entry_count (is_static_call kind) type))))) h
    ∙ by_type e at kind m (method_type m.descriptor)

-- WHAT IS SELECTED, by how many entries are passed, if the call may be done

abbrev pub fitted_method : Moment → Site → CallKind → Member → Option ℕ → Option ℕ
fitted_method e at kind m None = None
fitted_method e at kind m (Some count) = with_resolved e.program (names_interface at) m (selected_from e at kind (arguments_of e count))

method_by_fit : (e : Moment) (at : Site) (kind : CallKind) (m : Member) (count : ℕ) (b : Bool)
    → (if b then with_resolved e.program (names_interface at) m (selected_from e at kind (arguments_of e count)) else None) ≡ fitted_method e at kind m (if b then Some count else None)
method_by_fit e at kind m count true = refl
method_by_fit e at kind m count false = refl

method_by_type : (e : Moment) (at : Site) (kind : CallKind) (m : Member) (o : Option MethodType) → option_and_then (selected_by e at kind m) o ≡ fitted_method e at kind m (fitting e (is_static_call kind) o)
method_by_type e at kind m None = refl
method_by_type e at kind m (Some type) = method_by_fit e at kind m (entry_count (is_static_call kind) type) (call_fits e (is_static_call kind) type)

pub selected_is : (e : Moment) (at : Site) (kind : CallKind) (m : Member) → site_member at ≡ Some m → selected_method e at kind ≡ fitted_method e at kind m (fitting e (is_static_call kind) (method_type m.descriptor))
selected_is e at kind m h =
    ap (λ (o : Option Member). option_and_then (λ (named : Member). option_and_then (selected_by e at kind named) (method_type named.descriptor)) o) h
    ∙ method_by_type e at kind m (method_type m.descriptor)

-- .. where the method is static or not as the invoke wants it
pub from_by : (e : Moment) (at : Site) (kind : CallKind) (count named m : ℕ) (b : Bool) → is_as (is_static_call kind) (is_static e.program m) ≡ b
    → selected_from e at kind (arguments_of e count) named m ≡ (if b then option_and_then (selected_on e at kind (arguments_of e count) named m) (first_reference (arguments_of e count)) else None)
from_by e at kind count named m b is = ap (λ (x : Bool). if x then option_and_then (selected_on e at kind (arguments_of e count) named m) (first_reference (arguments_of e count)) else None) is

-- .. by what was resolved
abbrev pub found_by : Result (ℕ × ℕ) GuestError → (ℕ → ℕ → Option ℕ) → Option ℕ
found_by r go = option_and_then (λ (x : ℕ × ℕ). go x.0 x.1) (result_ok r)
