-- A turn that calls a method of texts: what it stands at, what it passes, and what is selected.
use Rattle.std.proofs.Common.{◌≡◌, ℕ, Bool, true, false, List, [], Option, Some, None, Result, Ok, Err, refl, sym, ◌∙◌, ap, subst}
use Rattle.std.specs.Prelude.{if◌then◌else◌, option_and_then}
use Rattle.std.specs.Option.{option_map_or}
use Rattle.std.specs.Result.{result_ok}
use Rattle.std.proofs.lemmas.Option.{none-some, same_Some}
use Rattle.et_base.specs.declared.value.Value.{Value}
use Rattle.et_class.specs.Descriptors.{MethodType, method_type}
use Rattle.et_code.specs.declared.instr.Instr.{Instr}
use Rattle.et_code.specs.declared.instr.CodeFault.{CodeFault}
use Rattle.et_program.specs.BootTexts.TextMethod.{TextMethod}
use Rattle.et_program.specs.BuiltIns.{is_deferred, text_method_of}
use Rattle.et_program.specs.Entries.{Linked, is_static, method_at}
use Rattle.et_program.specs.Members.{kept}
use Rattle.et_program.specs.Resolution.{resolve_class, resolve_method, select, select_special}
use Rattle.et_state.specs.State.{Kept}
use Rattle.et_state.specs.Threads.{turn_of}
use Rattle.et_state.specs.declared.stage.Turn.{Turn}
use Rattle.et_state.specs.declared.stage.Turn.TheVariants.{Instruction}
use Rattle.et_event.specs.Calls.{arguments_of, call_fits, entry_count, fits_resolved, is_as, is_static_call, special_class}
use Rattle.et_event.specs.Frames.{first_reference}
use Rattle.et_event.specs.Moments.{Moment, begins, current_frame, object_class, thread_of}
use Rattle.et_event.specs.Selected.{TextCall, deferred_at, passed_at, selected_by, selected_from, selected_method as method_selected, selected_on, text_call, text_call_at, text_call_by, text_call_in, text_call_of, with_resolved}
use Rattle.et_event.specs.Sites.{Member, Site, decoded_at, names_interface, site_member, site_of}
use Rattle.et_event.specs.Table.{row_of}
use Rattle.et_event.specs.declared.rows.CallKind.{CallKind}
use Rattle.et_event.specs.declared.rows.CallKind.TheVariants.{Interface, Special, Static, Virtual}
use Rattle.et_event.specs.declared.rows.CallRow.TheVariants.{Invoke}
use Rattle.et_event.specs.declared.rows.Row.{Row}
use Rattle.et_event.specs.declared.rows.Row.TheVariants.{Call}
use Rattle.et_history.specs.soundness.Methods.{IsInstanceMethod, IsMethod}
use Rattle.et_history.proofs.soundness.Invoking.{as_wanted}
use Rattle.et_history.proofs.soundness.Resolving.{resolved_method, selected_method, selected_special}

-- what a chain gives comes from what stands before it
pub and_then_some : {A B : Type 0} (f : A → Option B) (o : Option A) (b : B) → option_and_then f o ≡ Some b → (a : A) × (o ≡ Some a) × (f a ≡ Some b)
and_then_some f None b e = absurd (none-some b e)
and_then_some f (Some a) b e = (a, refl, e)

pub if_some : {A : Type 0} (c : Bool) (o : Option A) (a : A) → (if c then o else None) ≡ Some a → (c ≡ true) × (o ≡ Some a)
if_some true o a e = (refl, e)
if_some false o a e = absurd (none-some a e)

kept_some : (test : ℕ → Bool) (o : Option ℕ) (m : ℕ) → kept test o ≡ Some m → o ≡ Some m
kept_some test None m e = absurd (none-some m e)
kept_some test (Some k) m e = (if_some (test k) (Some k) m e).1

-- THE CALL

pub record IsTextCall (e : Moment) (call : TextCall) : Type 0 where
  pub turn : turn_of (thread_of e) ≡ Instruction
  pub decoded : Instr × ℕ
  pub is : decoded_at e.program (current_frame e) ≡ Ok decoded
  pub kind : CallKind
  pub row : row_of decoded.0.opcode ≡ Some (Call (Invoke kind))
  pub site : call.at ≡ site_of e.program (current_frame e) decoded
  pub member : Member
  pub names : site_member (site_of e.program (current_frame e) decoded) ≡ Some member
  pub type : MethodType
  pub typed : method_type member.descriptor ≡ Some type
  pub fits : call_fits e (is_static_call kind) type ≡ true
  pub arguments : call.arguments ≡ arguments_of e (entry_count (is_static_call kind) type)
  pub selected : ℕ
  pub found : with_resolved e.program (names_interface (site_of e.program (current_frame e) decoded)) member (selected_from e (site_of e.program (current_frame e) decoded) kind (arguments_of e (entry_count (is_static_call kind) type))) ≡ Some selected
  pub method : text_method_of e.program selected ≡ Some call.method

record IsGiven (at : Site) (arguments : List Value) (method : Option TextMethod) (call : TextCall) : Type 0 where
  site : call.at ≡ at
  arguments_are : call.arguments ≡ arguments
  method_is : method ≡ Some call.method

given : (at : Site) (arguments : List Value) (method : Option TextMethod) (call : TextCall) → text_call_of at arguments method ≡ Some call → IsGiven at arguments method call
given at arguments None call h = absurd (none-some call h)
given at arguments (Some m) call h =
    let made : TextCall = record { at = at; arguments = arguments; method = m } in
    let same : made ≡ call = same_Some made call h in
    record { site = sym (ap (λ (c : TextCall). c.at) same); arguments_are = sym (ap (λ (c : TextCall). c.arguments) same); method_is = ap (λ (c : TextCall). Some c.method) same }

abbrev passed_by : Moment → CallKind → Option MethodType → List Value
passed_by e kind o = option_map_or (λ (t : MethodType). arguments_of e (entry_count (is_static_call kind) t)) o []

passed_is : (e : Moment) (at : Site) (kind : CallKind) (named : Member) (type : MethodType) → site_member at ≡ Some named → method_type named.descriptor ≡ Some type → passed_at e at kind ≡ arguments_of e (entry_count (is_static_call kind) type)
passed_is e at kind named type is typed =
    let one : passed_at e at kind ≡ passed_by e kind (method_type named.descriptor) = ap (λ (o : Option Member). passed_by e kind (option_and_then (λ (m : Member). method_type m.descriptor) o)) is in
    let two : passed_by e kind (method_type named.descriptor) ≡ passed_by e kind (Some type) = ap (λ (o : Option MethodType). passed_by e kind o) typed in
    one ∙ two

called_by : (e : Moment) (x : Instr × ℕ) (kind : CallKind) (call : TextCall) (m : ℕ) (named : Member) (type : MethodType) → turn_of (thread_of e) ≡ Instruction → decoded_at e.program (current_frame e) ≡ Ok x → row_of x.0.opcode ≡ Some (Call (Invoke kind))
    → IsGiven (site_of e.program (current_frame e) x) (passed_at e (site_of e.program (current_frame e) x) kind) (text_method_of e.program m) call → site_member (site_of e.program (current_frame e) x) ≡ Some named → method_type named.descriptor ≡ Some type
    → call_fits e (is_static_call kind) type ≡ true → with_resolved e.program (names_interface (site_of e.program (current_frame e) x)) named (selected_from e (site_of e.program (current_frame e) x) kind (arguments_of e (entry_count (is_static_call kind) type))) ≡ Some m → IsTextCall e call
called_by e x kind call m named type turn is row g names typed fits found = record {
  turn = turn;
  decoded = x;
  is = is;
  kind = kind;
  row = row;
  site = g.site;
  member = named;
  names = names;
  type = type;
  typed = typed;
  fits = fits;
  arguments = g.arguments_are ∙ passed_is e (site_of e.program (current_frame e) x) kind named type names typed;
  selected = m;
  found = found;
  method = g.method_is;
}

called_at : (e : Moment) (x : Instr × ℕ) (kind : CallKind) (call : TextCall) → turn_of (thread_of e) ≡ Instruction → decoded_at e.program (current_frame e) ≡ Ok x → row_of x.0.opcode ≡ Some (Call (Invoke kind))
    → text_call_at e (site_of e.program (current_frame e) x) (Call (Invoke kind)) ≡ Some call → IsTextCall e call
called_at e x kind call turn is row h =
    let p : Linked = e.program in
    let at : Site = site_of p (current_frame e) x in
    let a = and_then_some (λ m. text_call_of at (passed_at e at kind) (text_method_of p m)) (deferred_at e at (Call (Invoke kind))) call h in
    let b = and_then_some (λ (named : Member). option_and_then (selected_by e at kind named) (method_type named.descriptor)) (site_member at) a.0 (kept_some (is_deferred p) (method_selected e at kind) a.0 a.1) in
    let c = and_then_some (selected_by e at kind b.0) (method_type b.0.descriptor) a.0 b.2 in
    let d = if_some (call_fits e (is_static_call kind) c.0) (with_resolved p (names_interface at) b.0 (selected_from e at kind (arguments_of e (entry_count (is_static_call kind) c.0)))) a.0 c.2 in
    called_by e x kind call a.0 b.0 c.0 turn is row (given at (passed_at e at kind) (text_method_of p a.0) call a.2) b.1 c.1 d.0 d.1

by_its_row : (e : Moment) (x : Instr × ℕ) (r : Row) (call : TextCall) → turn_of (thread_of e) ≡ Instruction → decoded_at e.program (current_frame e) ≡ Ok x → row_of x.0.opcode ≡ Some r → text_call_at e (site_of e.program (current_frame e) x) r ≡ Some call → IsTextCall e call
by_its_row e x (Call (Invoke kind)) call turn is row h = called_at e x kind call turn is row h
by_its_row e x other call turn is row h = absurd (none-some call h)

by_decoded : (e : Moment) (x : Result (Instr × ℕ) CodeFault) (call : TextCall) → turn_of (thread_of e) ≡ Instruction → decoded_at e.program (current_frame e) ≡ x → text_call_by e x ≡ Some call → IsTextCall e call
by_decoded e (Err fault) call turn is h = absurd (none-some call h)
by_decoded e (Ok x) call turn is h =
    let r = and_then_some (text_call_at e (site_of e.program (current_frame e) x)) (row_of x.0.opcode) call h in
    by_its_row e x r.0 call turn is r.1 r.2

by_its_turn : (e : Moment) (turn : Turn) (call : TextCall) → turn_of (thread_of e) ≡ turn → text_call_in e turn ≡ Some call → IsTextCall e call
by_its_turn e Instruction call is h = by_decoded e (decoded_at e.program (current_frame e)) call is refl h
by_its_turn e other call is h = absurd (none-some call h)

pub text_called : (p : Linked) (s : Kept) (t : ℕ) (call : TextCall) → text_call p s t ≡ Some call → IsTextCall (record { program = p; before = s; thread = t }) call
unfolding text_call
text_called p s t call h =
    let e : Moment = record { program = p; before = s; thread = t } in
    by_its_turn e (turn_of (thread_of e)) call refl h

-- THE METHOD that is selected is one of the name and the descriptor that the call names, and the receiver is there

pub result_some : {A B : Type 0} (r : Result A B) (a : A) → result_ok r ≡ Some a → r ≡ Ok a
result_some (Ok b) a h = ap Ok (same_Some b a h)
result_some (Err fault) a h = absurd (none-some a h)

pub record IsSelected (e : Moment) (call : TextCall) (c : IsTextCall e call) : Type 0 where
  pub receiver : ℕ
  pub first : first_reference call.arguments ≡ Some receiver
  pub instance : is_static_call c.kind ≡ false
  pub method : IsMethod e.program c.member.name c.member.descriptor c.selected

as_named : (p : Linked) (m k : ℕ) (name type : List ℕ) → IsMethod p name type m → IsInstanceMethod p (method_at p m).name (method_at p m).descriptor k → IsMethod p name type k
as_named p m k name type is found = record { within = found.method.within; named = found.method.named ∙ is.named; descriptor = found.method.descriptor ∙ is.descriptor }

on_kind : (e : Moment) (at : Site) (kind : CallKind) (arguments : List Value) (owner m o k : ℕ) (name type : List ℕ) → IsMethod e.program name type m → is_static e.program m ≡ is_static_call kind → selected_on e at kind arguments owner m o ≡ Some k
    → (is_static_call kind ≡ false) × IsMethod e.program name type k
on_kind e at Virtual arguments owner m o k name type is instance h =
    let f = if_some (fits_resolved e (begins e) arguments m o) (result_ok (select e.program (object_class (begins e) o) m false)) k h in
    (refl, as_named e.program m k name type is (selected_method e.program (object_class (begins e) o) m false k is.within instance (result_some (select e.program (object_class (begins e) o) m false) k f.1)))
on_kind e at Special arguments owner m o k name type is instance h =
    let f = if_some (fits_resolved e (begins e) arguments m o) (result_ok (select_special e.program at.class (special_class e.program owner) m)) k h in
    (refl, as_named e.program m k name type is (selected_special e.program at.class (special_class e.program owner) m k is.within instance (result_some (select_special e.program at.class (special_class e.program owner) m) k f.1)))
on_kind e at Static arguments owner m o k name type is instance h = absurd (none-some k h)
on_kind e at Interface arguments owner m o k name type is instance h =
    (refl, as_named e.program m k name type is (selected_method e.program (object_class (begins e) o) m true k is.within instance (result_some (select e.program (object_class (begins e) o) m true) k h)))

pub is_selected : (e : Moment) (call : TextCall) (c : IsTextCall e call) → IsSelected e call c
is_selected e call c =
    let p : Linked = e.program in
    let at : Site = site_of p (current_frame e) c.decoded in
    let arguments : List Value = arguments_of e (entry_count (is_static_call c.kind) c.type) in
    let named : Member = c.member in
    let a = and_then_some (λ owner. option_and_then (selected_from e at c.kind arguments owner) (result_ok (resolve_method p owner (names_interface at) named.name named.descriptor))) (result_ok (resolve_class p named.owner)) c.selected c.found in
    let b = and_then_some (selected_from e at c.kind arguments a.0) (result_ok (resolve_method p a.0 (names_interface at) named.name named.descriptor)) c.selected a.2 in
    let d = if_some (is_as (is_static_call c.kind) (is_static p b.0)) (option_and_then (selected_on e at c.kind arguments a.0 b.0) (first_reference arguments)) c.selected b.2 in
    let r = and_then_some (selected_on e at c.kind arguments a.0 b.0) (first_reference arguments) c.selected d.1 in
    let is : IsMethod p named.name named.descriptor b.0 = resolved_method p a.0 (names_interface at) named.name named.descriptor b.0 (result_some (resolve_method p a.0 (names_interface at) named.name named.descriptor) b.0 b.1) in
    let k = on_kind e at c.kind arguments a.0 b.0 r.0 c.selected named.name named.descriptor is (as_wanted (is_static_call c.kind) (is_static p b.0) d.0) r.2 in
    record { receiver = r.0; first = subst (λ (vs : List Value). first_reference vs ≡ Some r.0) (sym c.arguments) r.1; instance = k.0; method = k.1 }
