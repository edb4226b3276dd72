-- What an instruction names is what the entry of the pool at its index refers to.
use Rattle.std.proofs.Common.{◌≡◌, ℕ, ◌==◌, Bool, true, List, Option, Some, None, is_some, refl, sym, ◌∙◌, ap, subst}
use Rattle.std.specs.Prelude.{Result, Ok, Err, IfOk, option_map, option_and_then}
use Rattle.std.specs.Result.{result_ok}
use Rattle.std.proofs.lemmas.Option.{same_Some}
use Rattle.et_pool.specs.Entries.{Item}
use Rattle.et_pool.specs.Looks.{tag_at}
use Rattle.et_pool.specs.declared.tags.TheConstants.{INTERFACE_METHODREF}
use Rattle.et_program.specs.Entries.{Linked, method_at}
use Rattle.et_program.specs.declared.errors.LinkError.{LinkError}
use Rattle.et_program.specs.declared.lookup.referring.NamedMethod.{NamedMethod}
use Rattle.et_program.specs.Referring.{Member, pool_of_class, member_described, named_in, method_in_owner, method_of_member, method_referred}
use Rattle.et_program.specs.Resolution.{resolve_class, resolve_method}
use Rattle.et_state.specs.Outcome.{Outcome}
use Rattle.et_state.specs.State.{Kept}
use Rattle.et_event.specs.Checks.{resolved}
use Rattle.et_event.specs.Errors.{error_of}
use Rattle.et_event.specs.Moments.{Moment, begins, throws}
use Rattle.et_event.specs.Sites.{Site, site_member, names_interface, pool_index}
use Rattle.et_event.specs.Selected.{with_resolved}
use Rattle.et_builtins.proofs.Planning.{resolves}
use Rattle.et_builtins.proofs.Choosing.{resolved_same}

-- WHAT THE TABLE HAS

abbrev answer_at : Linked → Site → Option (Result NamedMethod LinkError)
answer_at p at = option_map (method_of_member p (names_interface at)) (site_member at)

referred_is : (p : Linked) (class index : ℕ) (at : Site) → at.pool ≡ pool_of_class p class → index ≡ pool_index at → method_referred p class index ≡ answer_at p at
referred_is p class index at pool same =
    ap (λ (s : List (Option Item)). option_map (method_of_member p (tag_at s index == INTERFACE_METHODREF)) (member_described s index)) (sym pool)
    ∙ ap (λ (i : ℕ). option_map (method_of_member p (tag_at at.pool i == INTERFACE_METHODREF)) (member_described at.pool i)) same

pub method_found : (p : Linked) (class index : ℕ) (at : Site) (answer : Result NamedMethod LinkError) → at.pool ≡ pool_of_class p class → index ≡ pool_index at → Some answer ≡ method_referred p class index
    → (m : Member) → site_member at ≡ Some m → answer ≡ method_of_member p (names_interface at) m
method_found p class index at answer pool same found m is =
    same_Some answer (method_of_member p (names_interface at) m) (found ∙ (referred_is p class index at pool same ∙ ap (option_map (method_of_member p (names_interface at))) is))

nothing_there : (f : Member → Result NamedMethod LinkError) (o : Option Member) → None ≡ option_map f o → is_some o ≡ true → ⊥
nothing_there f None none some = absurd (cc)
nothing_there f (Some m) none some = absurd (cc)

pub method_there : (p : Linked) (class index : ℕ) (at : Site) → at.pool ≡ pool_of_class p class → index ≡ pool_index at → None ≡ method_referred p class index → is_some (site_member at) ≡ true → ⊥
method_there p class index at pool same none some = nothing_there (method_of_member p (names_interface at)) (site_member at) (none ∙ referred_is p class index at pool same) some

-- WHAT THE TABLE OF EVENTS SAYS of what was resolved

abbrev pub going : Moment → Result NamedMethod LinkError → (ℕ → ℕ → Outcome Kept) → Outcome Kept
going e (Ok x) go = go x.class x.method
going e (Err error) go = throws e (error_of error) (begins e)

in_owner : (e : Moment) (go : ℕ → ℕ → Outcome Kept) (owner : ℕ) (q : Result ℕ LinkError) → resolved e (begins e) q (go owner) ≡ going e (named_in owner q) go
in_owner e go owner (Ok method) = refl
in_owner e go owner (Err error) = refl

by_owner : (e : Moment) (m : Member) (b : Bool) (go : ℕ → ℕ → Outcome Kept) (o : Result ℕ LinkError)
    → resolved e (begins e) o (λ owner. resolved e (begins e) (resolve_method e.program owner b m.name m.descriptor) (go owner)) ≡ going e (method_in_owner e.program b m o) go
by_owner e m b go (Ok owner) = in_owner e go owner (resolve_method e.program owner b m.name m.descriptor)
by_owner e m b go (Err error) = refl

pub method_resolves : (e : Moment) (p : Linked) (m : Member) (b : Bool) (r : Result NamedMethod LinkError) (go : ℕ → ℕ → Outcome Kept) → e.program ≡ p → r ≡ method_of_member p b m → resolves e m b go ≡ going e r go
method_resolves e p m b r go same is =
    by_owner e m b go (resolve_class e.program m.owner) ∙ ap (λ (x : Result NamedMethod LinkError). going e x go) (ap (λ (l : Linked). method_of_member l b m) same ∙ sym is)

-- WHICH METHOD IS SELECTED by what was resolved

abbrev pub finding : Result NamedMethod LinkError → (ℕ → ℕ → Option ℕ) → Option ℕ
finding r go = option_and_then (λ (x : NamedMethod). go x.class x.method) (result_ok r)

found_in : (go : ℕ → ℕ → Option ℕ) (owner : ℕ) (q : Result ℕ LinkError) → option_and_then (go owner) (result_ok q) ≡ finding (named_in owner q) go
found_in go owner (Ok method) = refl
found_in go owner (Err error) = refl

found_owner : (p : Linked) (m : Member) (b : Bool) (go : ℕ → ℕ → Option ℕ) (o : Result ℕ LinkError)
    → option_and_then (λ owner. option_and_then (go owner) (result_ok (resolve_method p owner b m.name m.descriptor))) (result_ok o) ≡ finding (method_in_owner p b m o) go
found_owner p m b go (Ok owner) = found_in go owner (resolve_method p owner b m.name m.descriptor)
found_owner p m b go (Err error) = refl

pub method_finds : (p : Linked) (m : Member) (b : Bool) (r : Result NamedMethod LinkError) (go : ℕ → ℕ → Option ℕ) → r ≡ method_of_member p b m → with_resolved p b m go ≡ finding r go
method_finds p m b r go is = found_owner p m b go (resolve_class p m.owner) ∙ ap (λ (x : Result NamedMethod LinkError). finding x go) (sym is)

-- THE DESCRIPTOR of what was resolved

abbrev IsDescribed : Linked → List ℕ → Result NamedMethod LinkError → Type 0
IsDescribed p d r = IfOk r (λ (x : NamedMethod). (method_at p x.method).descriptor ≡ d)

same_in : (p : Linked) (d : List ℕ) (owner : ℕ) (q : Result ℕ LinkError) → IfOk q (λ k. (method_at p k).descriptor ≡ d) → IsDescribed p d (named_in owner q)
same_in p d owner (Ok method) h = h
same_in p d owner (Err error) h = tt

same_owner : (p : Linked) (m : Member) (b : Bool) (o : Result ℕ LinkError) → IsDescribed p m.descriptor (method_in_owner p b m o)
same_owner p m b (Ok owner) = same_in p m.descriptor owner (resolve_method p owner b m.name m.descriptor) (resolved_same p owner b m.name m.descriptor)
same_owner p m b (Err error) = tt

pub method_same : (p : Linked) (m : Member) (b : Bool) (r : Result NamedMethod LinkError) → r ≡ method_of_member p b m → IsDescribed p m.descriptor r
method_same p m b r is = subst (IsDescribed p m.descriptor) (sym is) (same_owner p m b (resolve_class p m.owner))
