-- The shape of a call, and the member that its instruction names.
use Rattle.std.proofs.Common.{◌≡◌, ℕ, Bool, true, false, List, [], Option, Some, None, refl, sym, ◌∙◌, ap}
use Rattle.std.specs.Option.{option_map_or}
use Rattle.std.specs.Prelude.{if◌then◌else◌, option_map, option_and_then, Result}
use Rattle.et_pool.specs.Descriptors.{MethodType, method_type}
use Rattle.et_pool.specs.Entries.{Item}
use Rattle.et_pool.specs.Operands.{Shape, shape_of, shape_in}
use Rattle.et_program.specs.Entries.{Linked}
use Rattle.et_program.specs.Referring.{Member, pool_of_class, member_described}
use Rattle.et_program.specs.Shapes.{shape_referred}
use Rattle.et_event.specs.declared.errors.GuestError.{GuestError}
use Rattle.et_event.specs.declared.rows.CallKind.{CallKind}
use Rattle.et_event.specs.Calls.{arguments_of, call_fits, entry_count, invoke, is_static_call, with_method}
use Rattle.et_event.specs.Checks.{ill_typed_unless}
use Rattle.et_event.specs.Moments.{Moment, ill_typed}
use Rattle.et_event.specs.Sites.{Site, site_member, names_interface, pool_index}
use Rattle.et_builtins.specs.Arguments.{fitting}
use Rattle.et_builtins.specs.Plans.{HasCount, IsPassing, resolving}
use Rattle.et_builtins.specs.declared.plans.CallPlan.{CallPlan}
use Rattle.et_builtins.specs.declared.plans.CallPlan.TheVariants.{Enters}
use Rattle.et_event.specs.Selected.{passed_at, selected_by, selected_from, selected_method, with_resolved}
use Rattle.et_builtins.proofs.Planning.{checks, fitted, fitted_method, found_by, invoke_is, resolves, selected_is}

abbrev named_shape : Option Member → Option Shape
named_shape o = option_and_then (λ (m : Member). shape_in m.descriptor) o

shape_is : (p : Linked) (class index : ℕ) (at : Site) → at.pool ≡ pool_of_class p class → index ≡ pool_index at → shape_referred p class index ≡ named_shape (site_member at)
shape_is p class index at pool same =
    ap (λ (s : List (Option Item)). named_shape (member_described s index)) (sym pool) ∙ ap (λ (i : ℕ). named_shape (member_described at.pool i)) same

-- THE MEMBER AND THE TYPE of which a shape is

pub record HasShape (at : Site) (shape : Shape) : Type 0 where
  pub member : Member
  pub named : site_member at ≡ Some member
  pub type : MethodType
  pub typed : method_type member.descriptor ≡ Some type
  pub is : shape ≡ shape_of type

by_type : (at : Site) (shape : Shape) (m : Member) (o : Option MethodType) → site_member at ≡ Some m → method_type m.descriptor ≡ o → Some shape ≡ option_map shape_of o → HasShape at shape
by_type at shape m None named typed e = cc
by_type at shape m (Some type) named typed e = let s : shape ≡ shape_of type = cc in record { member = m; named = named; type = type; typed = typed; is = s }

by_member : (at : Site) (shape : Shape) (o : Option Member) → site_member at ≡ o → Some shape ≡ named_shape o → HasShape at shape
by_member at shape None named e = cc
by_member at shape (Some m) named e = by_type at shape m (method_type m.descriptor) named refl e

pub shaped : (p : Linked) (class index : ℕ) (at : Site) (shape : Shape) → at.pool ≡ pool_of_class p class → index ≡ pool_index at → Some shape ≡ shape_referred p class index → HasShape at shape
shaped p class index at shape pool same e = by_member at shape (site_member at) refl (e ∙ shape_is p class index at pool same)

-- how many entries a call takes, by the type
pub typed_fitting : (e : Moment) (at : Site) (shape : Shape) (h : HasShape at shape) (b static : Bool) (r : Option ℕ) → b ≡ static → r ≡ fitting e b (Some h.type) → fitting e static (method_type h.member.descriptor) ≡ r
typed_fitting e at shape h b static r same is =
    ap (λ (o : Option MethodType). fitting e static o) h.typed ∙ (ap (λ (s : Bool). fitting e s (Some h.type)) (sym same) ∙ sym is)

-- .. at a place, with the member that is named there
pub record FitsAt (e : Moment) (at : Site) (kind : CallKind) (shape : Shape) (r : Option ℕ) : Type 0 where
  pub has : HasShape at shape
  pub fits : fitting e (is_static_call kind) (method_type has.member.descriptor) ≡ r

pub fits_at : (e : Moment) (at : Site) (kind : CallKind) (class index : ℕ) (shape : Shape) (b : Bool) (r : Option ℕ) → at.pool ≡ pool_of_class e.program class → index ≡ pool_index at → Some shape ≡ shape_referred e.program class index
    → b ≡ is_static_call kind → ((type : MethodType) → shape ≡ shape_of type → r ≡ fitting e b (Some type)) → FitsAt e at kind shape r
fits_at e at kind class index shape b r pool same referred static is =
    let h : HasShape at shape = shaped e.program class index at shape pool same referred in
    record { has = h; fits = typed_fitting e at shape h b (is_static_call kind) r static (is h.type h.is) }

-- what the invoke comes to then, and what it selects, by what was resolved
pub invoked_by : (e : Moment) (at : Site) (kind : CallKind) (shape : Shape) (count : ℕ) (r : Result (ℕ × ℕ) GuestError) → FitsAt e at kind shape (Some count)
    → ((m : Member) → site_member at ≡ Some m → resolves e m (names_interface at) (checks e at kind count) ≡ resolving e r (checks e at kind count))
    → invoke e at kind ≡ resolving e r (checks e at kind count)
invoked_by e at kind shape count r f answer =
    invoke_is e at kind f.has.member f.has.named ∙ (ap (fitted e at kind f.has.member) f.fits ∙ answer f.has.member f.has.named)

pub chosen_by : (e : Moment) (at : Site) (kind : CallKind) (shape : Shape) (count : ℕ) (r : Result (ℕ × ℕ) GuestError) → FitsAt e at kind shape (Some count)
    → ((m : Member) → site_member at ≡ Some m → with_resolved e.program (names_interface at) m (selected_from e at kind (arguments_of e count)) ≡ found_by r (selected_from e at kind (arguments_of e count)))
    → selected_method e at kind ≡ found_by r (selected_from e at kind (arguments_of e count))
chosen_by e at kind shape count r f answer =
    selected_is e at kind f.has.member f.has.named ∙ (ap (fitted_method e at kind f.has.member) f.fits ∙ answer f.has.member f.has.named)

-- .. and they are those that the invoke passes
by_count : (e : Moment) (at : Site) (kind : CallKind) (type : MethodType) (count : ℕ) (b : Bool) → (if b then Some (entry_count (is_static_call kind) type) else None) ≡ Some count → arguments_of e count ≡ arguments_of e (entry_count (is_static_call kind) type)
by_count e at kind type count true is = let same : entry_count (is_static_call kind) type ≡ count = cc in ap (arguments_of e) (sym same)
by_count e at kind type count false is = cc

pub passed_is : (e : Moment) (at : Site) (shape : Shape) (h : HasShape at shape) (kind : CallKind) (count : ℕ) → fitting e (is_static_call kind) (method_type h.member.descriptor) ≡ Some count → arguments_of e count ≡ passed_at e at kind
passed_is e at shape h kind count some =
    let typed : fitting e (is_static_call kind) (Some h.type) ≡ Some count = ap (λ (o : Option MethodType). fitting e (is_static_call kind) o) (sym h.typed) ∙ some in
    let named : option_and_then (λ (n : Member). method_type n.descriptor) (site_member at) ≡ Some h.type = ap (option_and_then (λ (n : Member). method_type n.descriptor)) h.named ∙ h.typed in
    by_count e at kind h.type count (call_fits e (is_static_call kind) h.type) typed
    ∙ sym (ap (λ (o : Option MethodType). option_map_or (λ (type : MethodType). arguments_of e (entry_count (is_static_call kind) type)) o []) named)

pub passing : (e : Moment) (at : Site) (kind : CallKind) (count : ℕ) (plan : CallPlan) → HasCount count plan → arguments_of e count ≡ passed_at e at kind → IsPassing e at kind plan
passing e at kind count (Enters method n) has is = ap (arguments_of e) has ∙ is
passing e at kind count _ has is = tt

-- WHERE THERE IS NONE, a call has no meaning

no_type : (o : Option MethodType) → None ≡ option_map shape_of o → o ≡ None
no_type None e = refl
no_type (Some type) e = cc

by_no_member : (e : Moment) (at : Site) (kind : CallKind) (o : Option Member) → site_member at ≡ o → None ≡ named_shape o → invoke e at kind ≡ ill_typed e
by_no_member e at kind None named none =
    ap (λ (o : Option Member). with_method e o (λ n type. ill_typed_unless e (call_fits e (is_static_call kind) type) (resolves e n (names_interface at) (checks e at kind (entry_count (is_static_call kind) type))))) named
by_no_member e at kind (Some m) named none =
    invoke_is e at kind m named ∙ ap (λ (o : Option MethodType). fitted e at kind m (fitting e (is_static_call kind) o)) (no_type (method_type m.descriptor) none)

pub ill_called : (e : Moment) (at : Site) (kind : CallKind) (p : Linked) (class index : ℕ) → at.pool ≡ pool_of_class p class → index ≡ pool_index at → None ≡ shape_referred p class index → invoke e at kind ≡ ill_typed e
ill_called e at kind p class index pool same none = by_no_member e at kind (site_member at) refl (none ∙ shape_is p class index at pool same)

by_none_selected : (e : Moment) (at : Site) (kind : CallKind) (o : Option Member) → site_member at ≡ o → None ≡ named_shape o → selected_method e at kind ≡ None
by_none_selected e at kind None named none = ap (λ (o : Option Member). option_and_then (λ (n : Member). option_and_then (selected_by e at kind n) (method_type n.descriptor)) o) named
by_none_selected e at kind (Some m) named none =
    selected_is e at kind m named ∙ ap (λ (o : Option MethodType). fitted_method e at kind m (fitting e (is_static_call kind) o)) (no_type (method_type m.descriptor) none)

pub none_selected : (e : Moment) (at : Site) (kind : CallKind) (p : Linked) (class index : ℕ) → at.pool ≡ pool_of_class p class → index ≡ pool_index at → None ≡ shape_referred p class index → selected_method e at kind ≡ None
none_selected e at kind p class index pool same none = by_none_selected e at kind (site_member at) refl (none ∙ shape_is p class index at pool same)
