-- What the names of a class file are: bytes, and not empty.
use Rattle.std.proofs.Common.{◌≡◌, ℕ, ◌+◌, ◌<◌, ◌^◌, true, List, [], ◌∷◌, length, map, Option, None, Some, refl, sym, subst, arith}
use Rattle.std.specs.Prelude.{All}
use Rattle.std.proofs.lemmas.Bool.{and_parts, false≢true}
use Rattle.std.proofs.lemmas.List.{length-map}
use Rattle.std.proofs.lemmas.List.Elements.{All-map}
use Rattle.std.proofs.lemmas.Option.{none-some}
use Rattle.et_text.specs.Ranges.{IsText}
use Rattle.et_pool.specs.Descriptors.{MethodType, method_type}
use Rattle.et_pool.specs.Entries.{Item}
use Rattle.et_pool.specs.Looks.{end_of, utf8_at, class_name_at}
use Rattle.et_class.specs.Layout.{ClassOf, MemberOf, u2, counted_bytes, member_bytes}
use Rattle.et_class.specs.Methods.{method_marks}
use Rattle.et_class.specs.Names.{is_nonempty, is_member_new, has_member_name}
use Rattle.et_class.specs.Spelling.{IsClassSpelled}
use Rattle.et_class.proofs.Respelled.{class_spelled}
use Rattle.et_program.specs.Files.{or_empty}
use Rattle.et_program.specs.Linking.{IsOfFile}
use Rattle.et_program.specs.Loaded.{LoadedMember, LoadedClass, loaded_class, loaded_method, loaded_field}
use Rattle.et_program.specs.MembersOf.{pool_text}
use Rattle.et_history.specs.programs.Rules.{KeepsMethodRules}
use Rattle.et_history.proofs.programs.Marks.{AreWell, well_first, well_rest, along_each}
use Rattle.et_history.proofs.programs.Places.{at_mapped}
use Rattle.et_history.proofs.programs.PromisedFiles.{keeps_method_rules}
use Rattle.et_theorems.proofs.MemberMarks.{well_methods}
use Rattle.et_theorems.proofs.traces.PoolTexts.{AreSmall, texts_small, classes_named}
use Rattle.et_theorems.proofs.traces.ApartMethods.{HasKey, HasApartMethods, file_apart}

-- a text of a pool
abbrev AreSmallTexts : List (Option Item) → Type 0
AreSmallTexts slots = (i : ℕ) (name : List ℕ) → utf8_at slots i ≡ Some name → AreSmall name

-- .. and the name of a class
abbrev AreClassNames : List (Option Item) → Type 0
AreClassNames slots = (i : ℕ) (name : List ℕ) → class_name_at slots i ≡ Some name → 0 < length name

-- a method has a name and a descriptor that a line can tell
pub record HasMemberTexts (slots : List (Option Item)) (m : LoadedMember) : Type 0 where
  pub name : IsText (pool_text slots m.name)
  pub descriptor : IsText (pool_text slots m.descriptor)

-- what a trace asks of the class of a file
pub record HasTexts (c : LoadedClass) : Type 0 where
  pub small : AreSmallTexts c.pool.slots
  pub classes : AreClassNames c.pool.slots
  pub methods : All (HasMemberTexts c.pool.slots) c.methods
  pub apart : HasApartMethods c
  pub few : length c.fields < 2 ^ 16

-- THE METHODS of a class file

pub record IsNamedMethod (slots : List (Option Item)) (m : MemberOf) : Type 0 where
  pub name : List ℕ
  pub name_is : utf8_at slots m.name ≡ Some name
  pub some : 0 < length name

named_by_length : (slots : List (Option Item)) (m : MemberOf) (o : Option (List ℕ)) → utf8_at slots m.name ≡ o → is_nonempty o ≡ true → IsNamedMethod slots m
named_by_length slots m None e h = absurd (false≢true h)
named_by_length slots m (Some []) e h = absurd (false≢true h)
named_by_length slots m (Some (a ∷ bytes)) e h = record { name = a ∷ bytes; name_is = e; some = omega arith }

named_method : (slots : List (Option Item)) (before : List MemberOf) (place : ℕ) (m : MemberOf) → AreWell (method_marks slots before place m) → IsNamedMethod slots m
named_method slots before place m h =
    named_by_length slots m (utf8_at slots m.name) refl (and_parts (has_member_name slots m) (is_member_new slots before m) (well_first _ _ (well_rest _ _ h))).0

-- what has a method type is a text
typed_text : (slots : List (Option Item)) (i : ℕ) (type : MethodType) → method_type (pool_text slots i) ≡ Some type → (text : List ℕ) × (utf8_at slots i ≡ Some text) × (0 < length text)
typed_text slots i type h = by (utf8_at slots i) refl h
  where
    by : (o : Option (List ℕ)) → utf8_at slots i ≡ o → method_type (or_empty o) ≡ Some type → (text : List ℕ) × (utf8_at slots i ≡ Some text) × (0 < length text)
    by None e k = absurd (none-some type k)
    by (Some []) e k = absurd (none-some type k)
    by (Some (a ∷ text)) e k = (a ∷ text, e, omega arith)

is_text_of : (slots : List (Option Item)) (i : ℕ) (text : List ℕ) → AreSmallTexts slots → utf8_at slots i ≡ Some text → 0 < length text → IsText (pool_text slots i)
is_text_of slots i text small e some = subst (λ (o : Option (List ℕ)). IsText (or_empty o)) (sym e) (some, small i text e)

method_texts : (slots : List (Option Item)) (m : MemberOf) (type : MethodType) → AreSmallTexts slots → IsNamedMethod slots m → method_type (pool_text slots m.descriptor) ≡ Some type → HasMemberTexts slots (loaded_method slots m)
method_texts slots m type small named typed =
    let d = typed_text slots m.descriptor type typed in
    record { name = is_text_of slots m.name named.name small named.name_is named.some; descriptor = is_text_of slots m.descriptor d.0 small d.1 d.2 }

method_key : (slots : List (Option Item)) (m : MemberOf) (type : MethodType) → IsNamedMethod slots m → method_type (pool_text slots m.descriptor) ≡ Some type → HasKey slots m
method_key slots m type named typed =
    let d = typed_text slots m.descriptor type typed in
    record { name = named.name; descriptor = d.0; name_is = named.name_is; descriptor_is = d.1 }

-- THE CLASS

abbrev methods_place : ClassOf → ℕ
methods_place c = end_of 8 c.slots + 6 + length (counted_bytes u2 c.interfaces) + length (counted_bytes member_bytes c.fields) + 2

-- what holds of what a list was made to holds of what it was made of
mapped_back : {X Y : Type 0} (P : Y → Type 0) (f : X → Y) (xs : List X) → All P (map f xs) → All (λ x. P (f x)) xs
mapped_back P f xs h i d lt = subst P (at_mapped f xs i d (f d) lt) (h i (f d) (let same = length-map xs f in omega (arith, same, lt)))

pub has_texts : (c : ClassOf) → IsOfFile c → HasTexts (loaded_class c)
has_texts c file =
    let spelled : IsClassSpelled file.bytes c = class_spelled file.bytes c file.are_bytes file.is.read in
    let small : AreSmallTexts c.slots = texts_small c.slots spelled.can_be.slots in
    let rules : KeepsMethodRules (loaded_class c) = keeps_method_rules file.bytes c file.is in
    let well = well_methods file.bytes c file.is in
    let named : All (IsNamedMethod c.slots) c.methods = along_each (IsNamedMethod c.slots) member_bytes (method_marks c.slots) (λ before place m w. named_method c.slots before place m w) [] (methods_place c) c.methods well in
    let types = mapped_back (λ (m : LoadedMember). (type : MethodType) × (method_type (pool_text c.slots m.descriptor) ≡ Some type)) (loaded_method c.slots) c.methods
    (λ i d lt. let t = rules.types i d lt in (t.0, t.1)) in
    record {
      small = small;
      classes = classes_named file.bytes c file.is;
      methods = All-map (HasMemberTexts c.slots) (loaded_method c.slots) c.methods (λ i d lt. let t = types i d lt in method_texts c.slots _ t.0 small (named i d lt) t.1);
      apart = λ k. file_apart c.slots (methods_place c) c.methods (λ i d lt. let t = types i d lt in method_key c.slots _ t.0 (named i d lt) t.1) well k;
      few = subst (λ (n : ℕ). n < 2 ^ 16) (sym (length-map c.fields (loaded_field c.slots))) spelled.can_be.fields.few;
    }
