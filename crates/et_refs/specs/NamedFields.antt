-- A field as an instruction names it, with what it was resolved to.
use Rattle.std.specs.Prelude.{◌≡◌, ℕ, ◌<◌, Bool, true, false, not, List, [], length, unwrap_or, Result, IfOk}
use Rattle.et_class.specs.Names.{has}
use Rattle.et_class.specs.declared.flags.TheConstants.{STATIC}
use Rattle.et_program.specs.Entries.{Linked, field_at}
use Rattle.et_program.specs.Referring.{Member, field_of_member, member_described, pool_of_class}
use Rattle.et_state.specs.Outcome.{Outcome}
use Rattle.et_state.specs.State.{Kept}
use Rattle.et_event.specs.declared.errors.GuestError.TheVariants.{IncompatibleClassChangeError}
use Rattle.et_event.specs.Checks.{throws_unless}
use Rattle.et_event.specs.Heap.{is_static_at, resolved_field}
use Rattle.et_event.specs.Moments.{Moment, begins}
use Rattle.et_refs.specs.Refusals.{outcome_of}
use Rattle.et_refs.specs.declared.slots.fields.NamedField.{NamedField}
use Rattle.et_refs.specs.declared.refusals.Refusal.{Refusal}

abbrev pub no_member : Member
no_member = record { owner = []; name = []; descriptor = [] }

-- the member that the entry at an index of the pool of a class gives, with the descriptor as it is named
abbrev pub named_as : Linked → ℕ → ℕ → NamedField → Member
named_as p class index x = record (unwrap_or (member_described (pool_of_class p class) index) no_member) { descriptor = x.descriptor.now }

-- the descriptor is that of this member, and the answer that of its resolution
pub record IsNamedBy (p : Linked) (m : Member) (x : NamedField) : Type 0 where
  pub descriptor : m.descriptor ≡ x.descriptor.now
  pub answer : x.answer ≡ field_of_member p m
  pub within : IfOk x.answer (λ f. f < length p.fields)

abbrev pub IsAnswered : Linked → NamedField → Type 0
IsAnswered p x = (m : Member) × IsNamedBy p m x

-- a field of this descriptor, static or not
pub record IsFieldOf (p : Linked) (static : Bool) (type : List ℕ) (f : ℕ) : Type 0 where
  pub within : f < length p.fields
  pub flag : has (field_at p f).flags STATIC ≡ static
  pub descriptor : (field_at p f).descriptor ≡ type

-- a field is static where that is wanted, and isn't where it isn't
abbrev pub as_wanted : Bool → Bool → Bool
as_wanted true static = static
as_wanted false static = not static

-- what goes on with the field that a member means, where it is as wanted
abbrev pub with_meant : Moment → Member → Bool → (ℕ → Outcome Kept) → Outcome Kept
with_meant e m static go =
    resolved_field e (begins e) m (λ f. throws_unless e (begins e) IncompatibleClassChangeError (as_wanted static (is_static_at e.program f)) (go f))

-- .. comes to this answer in each state
abbrev pub MeansField : Linked → NamedField → Bool → (Moment → (ℕ → Outcome Kept) → ℕ → Outcome Kept) → Result ℕ Refusal → Type 0
MeansField p x static check answer =
    (m : Member) (s : Kept) (t : ℕ) (go : ℕ → Outcome Kept) → IsNamedBy p m x →
    with_meant (record { program = p; before = s; thread = t }) m static (check (record { program = p; before = s; thread = t }) go) ≡ outcome_of (record { program = p; before = s; thread = t }) answer go
