-- What is kept of the entries of the pools.
use Rattle.std.specs.Prelude.{◌≡◌, ℕ, ◌<◌, true, List, [], length, Some, Ok, Err}
use Rattle.std.specs.List.{slice_index_or}
use Rattle.et_program.specs.declared.lookup.referring.MemberAt.{MemberAt}
use Rattle.et_program.specs.declared.lookup.referring.NamedMethod.{NamedMethod}
use Rattle.et_program.specs.declared.lookup.resolved.Resolved.{Resolved}
use Rattle.et_program.specs.declared.lookup.resolved.Resolved.TheVariants.{Nothing, Class, NoClass, Field, NoField, Method, NoMethod}
use Rattle.et_program.specs.Entries.{Linked}
use Rattle.et_program.specs.Referring.{Member, class_referred, field_referred, is_field_referred, method_referred}

abbrev pub shown_names : MemberAt → Member
shown_names m = record { owner = m.owner.now; name = m.name.now; descriptor = m.descriptor.now }

-- the class and the method are of the program
pub record IsNamedWithin (p : Linked) (x : NamedMethod) : Type 0 where
  pub class : x.class < length p.classes
  pub method : x.method < length p.methods

abbrev pub method_under : ℕ → ℕ → NamedMethod
method_under class method = record { class = class; method = method }

-- what is kept of an entry is what it refers to, or the error of its resolution; of a Fieldref entry only where its descriptor
-- is that of a field
abbrev pub IsResolved : Linked → ℕ → ℕ → Resolved → Type 0
IsResolved p class index Nothing = Unit {0}
IsResolved p class index (Class c) = (class_referred p class index ≡ Some (Ok c)) × (c < length p.classes)
IsResolved p class index (NoClass e) = class_referred p class index ≡ Some (Err e)
IsResolved p class index (Field f) = (field_referred p class index ≡ Some (Ok f)) × (f < length p.fields) × (is_field_referred p class index ≡ true)
IsResolved p class index (NoField e) = (field_referred p class index ≡ Some (Err e)) × (is_field_referred p class index ≡ true)
IsResolved p class index (Method k m) = (method_referred p class index ≡ Some (Ok (method_under k m))) × IsNamedWithin p (method_under k m)
IsResolved p class index (NoMethod e) = method_referred p class index ≡ Some (Err e)

-- what is kept of the entry at an index of the pool of a class
abbrev pub resolved_at : List (List Resolved) → ℕ → ℕ → Resolved
resolved_at table class index = slice_index_or (slice_index_or table class []) index Nothing

-- all that is kept is right
abbrev pub AreResolved : Linked → List (List Resolved) → Type 0
AreResolved p table = (class index : ℕ) → IsResolved p class index (resolved_at table class index)
