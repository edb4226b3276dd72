-- The field that an instruction names is what the entry of the pool at its index refers to.
use Rattle.std.proofs.Common.{◌≡◌, ℕ, ◌<◌, Bool, true, false, List, length, Option, Some, None, unwrap_or, refl, sym, ◌∙◌, ap, subst}
use Rattle.std.specs.Prelude.{Result, Ok, Err, IfOk, IsSome, option_map}
use Rattle.std.specs.Option.{option_map_or}
use Rattle.std.proofs.lemmas.Option.{same_Some}
use Rattle.et_class.specs.Descriptors.{is_field_descriptor}
use Rattle.et_pool.specs.Entries.{Item}
use Rattle.et_program.specs.Entries.{Linked, field_at}
use Rattle.et_program.specs.declared.errors.LinkError.{LinkError}
use Rattle.et_program.specs.Referring.{Member, pool_of_class, member_described, field_in_owner, field_of_member}
use Rattle.et_program.specs.Resolution.{resolve_class, resolve_field}
use Rattle.et_state.specs.Outcome.{Outcome}
use Rattle.et_state.specs.State.{Kept}
use Rattle.et_event.specs.Checks.{ill_typed_unless, resolved}
use Rattle.et_event.specs.Heap.{resolved_field, with_field}
use Rattle.et_event.specs.Moments.{Moment, begins, ill_typed}
use Rattle.et_event.specs.Sites.{Site, site_member, pool_index}
use Rattle.et_refs.specs.NamedFields.{IsNamedBy, named_as, no_member}
use Rattle.et_refs.specs.declared.slots.fields.NamedField.{NamedField}
use Rattle.et_refs.proofs.Reading.{field_described}

-- WHAT AN ENTRY NAMES

-- a member that is a field, and what it means
pub record IsFieldFound (p : Linked) (o : Option Member) (answer : Result ℕ LinkError) : Type 0 where
  pub member : Member
  pub there : o ≡ Some member
  pub field : is_field_descriptor member.descriptor ≡ true
  pub answered : answer ≡ field_of_member p member

pub found_field : (p : Linked) (o : Option Member) (answer : Result ℕ LinkError) → option_map_or (λ (m : Member). is_field_descriptor m.descriptor) o false ≡ true → Some answer ≡ option_map (field_of_member p) o → IsFieldFound p o answer
found_field p None answer h e = cc
found_field p (Some m) answer h e = record { member = m; there = refl; field = h; answered = same_Some answer (field_of_member p m) e }

-- there is one where there is a field
pub field_there : (f : Member → Result ℕ LinkError) (o : Option Member) → option_map_or (λ (m : Member). is_field_descriptor m.descriptor) o false ≡ true → None ≡ option_map f o → ⊥
field_there f None h e = cc
field_there f (Some m) h e = cc

pub some_field : (o : Option Member) → option_map_or (λ (m : Member). is_field_descriptor m.descriptor) o false ≡ true → IsSome o
some_field None h = cc
some_field (Some m) h = refl

pub not_there : (o : Option Member) → None ≡ o → IsSome o → ⊥
not_there None e h = cc
not_there (Some m) e h = cc

pub no_field : (e : Moment) (o : Option Member) (go : Member → Outcome Kept) → option_map_or (λ (m : Member). is_field_descriptor m.descriptor) o false ≡ false → with_field e o go ≡ ill_typed e
no_field e None go h = refl
no_field e (Some m) go h = ap (λ (b : Bool). ill_typed_unless e b (go m)) h

pub site_described : (p : Linked) (class index : ℕ) (at : Site) → at.pool ≡ pool_of_class p class → pool_index at ≡ index → site_member at ≡ member_described (pool_of_class p class) index
site_described p class index at pool same =
    ap (λ (s : List (Option Item)). member_described s (pool_index at)) pool ∙ ap (λ (i : ℕ). member_described (pool_of_class p class) i) same

-- .. as it is named
module _ (p : Linked) (class index : ℕ) (x : NamedField) (f : IsFieldFound p (member_described (pool_of_class p class) index) x.answer) (same : x.descriptor.now ≡ f.member.descriptor) where
  named_is : named_as p class index x ≡ f.member
  named_is =
      ap (λ (o : Option Member). record (unwrap_or o no_member) { descriptor = x.descriptor.now }) f.there
      ∙ ap (λ (d : List ℕ). record f.member { descriptor = d }) same

  pub field_goes : (e : Moment) (at : Site) (go : Member → Outcome Kept) → at.pool ≡ pool_of_class p class → pool_index at ≡ index → with_field e (site_member at) go ≡ go (named_as p class index x)
  field_goes e at go pool is =
      ap (λ (o : Option Member). with_field e o go) (site_described p class index at pool is ∙ f.there)
      ∙ (ap (λ (b : Bool). ill_typed_unless e b (go f.member)) f.field ∙ ap go (sym named_is))

  pub field_typed : is_field_descriptor x.descriptor.now ≡ true
  field_typed = ap (λ (d : List ℕ). is_field_descriptor d) same ∙ f.field

  pub named_by : IfOk x.answer (λ k. k < length p.fields) → IsNamedBy p (named_as p class index x) x
  named_by within = record { descriptor = refl; answer = f.answered ∙ ap (field_of_member p) (sym named_is); within = within }

-- WHAT THE TABLE OF EVENTS SAYS of what was resolved

by_owner : (e : Moment) (m : Member) (go : ℕ → Outcome Kept) (o : Result ℕ LinkError)
    → resolved e (begins e) o (λ owner. resolved e (begins e) (resolve_field e.program owner m.name m.descriptor) go) ≡ resolved e (begins e) (field_in_owner e.program m o) go
by_owner e m go (Ok owner) = refl
by_owner e m go (Err error) = refl

pub field_resolves : (e : Moment) (m : Member) (r q : Result ℕ LinkError) (go : ℕ → Outcome Kept) → r ≡ field_of_member e.program m → r ≡ q → resolved_field e (begins e) m go ≡ resolved e (begins e) q go
field_resolves e m r q go is same = by_owner e m go (resolve_class e.program m.owner) ∙ ap (λ (x : Result ℕ LinkError). resolved e (begins e) x go) (sym is ∙ same)

-- THE DESCRIPTOR of what was resolved

abbrev IsDescribed : Linked → List ℕ → Result ℕ LinkError → Type 0
IsDescribed p d r = IfOk r (λ (f : ℕ). (field_at p f).descriptor ≡ d)

same_owner : (p : Linked) (m : Member) (o : Result ℕ LinkError) → IsDescribed p m.descriptor (field_in_owner p m o)
same_owner p m (Ok owner) = field_described p owner m.name m.descriptor
same_owner p m (Err error) = tt

pub field_same : (p : Linked) (m : Member) (r q : Result ℕ LinkError) → r ≡ field_of_member p m → r ≡ q → IsDescribed p m.descriptor q
field_same p m r q is same = subst (IsDescribed p m.descriptor) (sym is ∙ same) (same_owner p m (resolve_class p m.owner))
