-- Rules that all hold.
use Rattle.std.proofs.Common.{◌≡◌, ℕ, ◌+◌, true, List, [], ◌∷◌, ◌++◌, length, refl, inl, inr}
use mathlib.Core.Logic.{⊎_elim}
use Rattle.std.specs.Prelude.{All}
use Rattle.std.proofs.lemmas.Bool.{cases_Bool}
use Rattle.std.proofs.lemmas.List.Elements.{All-nil, All-cons}
use Rattle.et_base.specs.Marks.{Mark, Breaks}
use Rattle.et_pool.specs.Looks.{end_of}
use Rattle.et_class.specs.declared.flags.TheConstants.{INTERFACE}
use Rattle.et_class.specs.Names.{has}
use Rattle.et_class.specs.Layout.{ClassOf, member_bytes, attribute_bytes, u2, counted_bytes}
use Rattle.et_class.specs.Along.{along}
use Rattle.et_class.specs.Fields.{field_marks, attribute_marks}
use Rattle.et_class.specs.Rules.{pool_marks, header_marks, header_of}
use Rattle.et_class.specs.Methods.{method_marks}
use Rattle.et_class.specs.Classes.{IsClassFile}

-- no rule of these is broken
pub record AreWell (ms : List Mark) : Type 0 where
  pub none : (place kind : ℕ) → Breaks ms place kind → ⊥

broken_before : (ms ns : List Mark) (place kind : ℕ) → Breaks ms place kind → Breaks (ms ++ ns) place kind
broken_before [] ns place kind h = absurd h
broken_before (m ∷ ms) ns place kind h = ⊎_elim (λ here. inl here) (λ later. inr (broken_before ms ns place kind later)) h

pub broken_behind : (ms ns : List Mark) (place kind : ℕ) → Breaks ns place kind → Breaks (ms ++ ns) place kind
broken_behind [] ns place kind h = h
broken_behind (m ∷ ms) ns place kind h = inr (broken_behind ms ns place kind h)

pub well_before : (ms ns : List Mark) → AreWell (ms ++ ns) → AreWell ms
well_before ms ns h = record { none = λ place kind b. h.none place kind (broken_before ms ns place kind b) }

pub well_behind : (ms ns : List Mark) → AreWell (ms ++ ns) → AreWell ns
well_behind ms ns h = record { none = λ place kind b. h.none place kind (broken_behind ms ns place kind b) }

pub well_first : (m : Mark) (ms : List Mark) → AreWell (m ∷ ms) → m.holds ≡ true
well_first m ms h = ⊎_elim (λ y. y) (λ n. absurd (h.none m.place m.kind (inl (n, refl, refl)))) (cases_Bool m.holds)

pub well_rest : (m : Mark) (ms : List Mark) → AreWell (m ∷ ms) → AreWell ms
well_rest m ms h = record { none = λ place kind b. h.none place kind (inr b) }

-- what the rules on each of some things say
pub along_each : {X : Type 0} (Q : X → Type 0) (bytes : X → List ℕ) (marks : List X → ℕ → X → List Mark) → ((before : List X) (place : ℕ) (x : X) → AreWell (marks before place x) → Q x)
    → (before : List X) (place : ℕ) (xs : List X) → AreWell (along bytes marks before place xs) → All Q xs
unfolding along
along_each Q bytes marks says before place [] h = All-nil Q
along_each Q bytes marks says before place (x ∷ xs) h =
    let rest : List Mark = along bytes marks (before ++ x ∷ []) (place + length (bytes x)) xs in
    All-cons Q x xs (says before place x (well_before (marks before place x) rest h)) (along_each Q bytes marks says (before ++ x ∷ []) (place + length (bytes x)) xs (well_behind (marks before place x) rest h))

-- THE MEMBERS OF A CLASS FILE

abbrev pub fields_place : ClassOf → ℕ
fields_place c = end_of 8 c.slots + 6 + length (counted_bytes u2 c.interfaces) + 2

abbrev pub methods_place : ClassOf → ℕ
methods_place c = end_of 8 c.slots + 6 + length (counted_bytes u2 c.interfaces) + length (counted_bytes member_bytes c.fields) + 2

pub record AreWellMembers (c : ClassOf) : Type 0 where
  pub fields : AreWell (along member_bytes (field_marks c.slots (has c.flags INTERFACE)) [] (fields_place c) c.fields)
  pub methods : AreWell (along member_bytes (method_marks c.slots) [] (methods_place c) c.methods)

pub well_members : (bytes : List ℕ) (c : ClassOf) → IsClassFile bytes c → AreWellMembers c
well_members bytes c is =
    let place : ℕ = end_of 8 c.slots + 6 + length (counted_bytes u2 c.interfaces) in
    let header : List Mark = header_marks c.slots (end_of 8 c.slots) (header_of c) in
    let fields : List Mark = along member_bytes (field_marks c.slots (has c.flags INTERFACE)) [] (fields_place c) c.fields in
    let methods : List Mark = along member_bytes (method_marks c.slots) [] (methods_place c) c.methods in
    let others : List Mark = along attribute_bytes (attribute_marks c.slots) [] (place + length (counted_bytes member_bytes c.fields) + length (counted_bytes member_bytes c.methods) + 2) c.attributes in
    let members : AreWell (fields ++ (methods ++ others)) = well_behind header (fields ++ (methods ++ others)) (well_behind (pool_marks c.slots) (header ++ (fields ++ (methods ++ others))) (record { none = is.rules })) in
    record { fields = well_before fields (methods ++ others) members; methods = well_before methods others (well_behind fields (methods ++ others) members) }
