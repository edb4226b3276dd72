-- A new object of a built-in class that declares no field is sound.
use Rattle.std.proofs.Common.{◌≡◌, ℕ, ◌+◌, ◌<◌, ◌≤◌, true, false, ◌==◌, ◌||◌, List, [], ◌∷◌, ◌++◌, length, Option, Some, sym, ◌∙◌, ap, subst, inr, arith}
use mathlib.Core.Logic.{⊎_elim}
use Rattle.std.specs.Prelude.{All, codes, unwrap_or}
use Rattle.std.specs.List.{slice_index_or, list_any}
use Rattle.std.proofs.lemmas.Bool.{eqb-true, or_cases, both_ways}
use Rattle.std.proofs.lemmas.List.{length-replicate}
use Rattle.std.proofs.lemmas.List.Elements.{All-nil, All-cons, All-head, All-tail, All-append, All-map}
use Rattle.et_base.specs.declared.value.Value.{Value}
use Rattle.et_base.specs.declared.value.Value.TheVariants.{Unset}
use Rattle.et_pool.specs.Entries.{Constants}
use Rattle.et_hierarchy.specs.Outline.{no_outline}
use Rattle.et_hierarchy.specs.Links.{links}
use Rattle.et_hierarchy.specs.Ancestry.{Ancestry, IsAncestry}
use Rattle.et_program.specs.declared.info.FieldInfo.{FieldInfo}
use Rattle.et_program.specs.declared.info.Element.TheVariants.{NoArray}
use Rattle.et_program.specs.Entries.{ClassEntry, Linked, no_class, no_field, class_at, field_at}
use Rattle.et_program.specs.Members.{is_subclass, is_above}
use Rattle.et_program.specs.Loaded.{LoadedClass}
use Rattle.et_program.specs.Files.{boots, set_of}
use Rattle.et_program.specs.MembersOf.{numbered, fields_of, file_fields, file_field}
use Rattle.et_program.proofs.DeclaredFields.{all_fields}
use Rattle.et_program.specs.Slots.{placed, placed_behind, slots_above}
use Rattle.et_program.specs.Classes.{Heads, set_class, array_class}
use Rattle.et_program.specs.ProgramOf.{heads_of, class_names_of, program_with, IsProgramOf}
use Rattle.et_link.proofs.TabledLemmas.{length-set, length-classes}
use Rattle.et_heap.specs.Objects.{new_object}
use Rattle.et_event.specs.declared.errors.GuestError.{GuestError}
use Rattle.et_event.specs.Errors.{class_called, error_class, error_name}
use Rattle.et_event.specs.Sound.{IsSoundObject, slots_by}
use Rattle.et_event.specs.Programs.{MakesSound, new_of, MayHold}
use Rattle.et_program.proofs.Standing.{named_in_tables}
use Rattle.et_history.proofs.programs.Places.{at_numbered, one_of}
use Rattle.et_history.proofs.programs.BuiltIn.{has_no_fields, no_fields_within, none_behind, boot_place, fields_of_others, IsFieldless, of_error, of_string}
use Rattle.et_history.proofs.programs.PlacesAbove.{NoField, IsFree, free_above}

-- FIELDS: each is of a class that declares one

abbrev OfOther : FieldInfo → Type 0
OfOther f = has_no_fields boots f.class ≡ false

pub numbered_all : {X Y : Type 0} (P : Y → Type 0) (f : ℕ → X → List Y) (k : ℕ) (xs : List X) → ((j : ℕ) (x : X) → k ≤ j → All P (f j x)) → All P (numbered f k xs)
numbered_all P f k [] h = All-nil P
numbered_all P f k (x ∷ xs) h = All-append P (f k x) (numbered f (k + 1) xs) (h k x (omega arith)) (numbered_all P f (k + 1) xs (λ j y le. h j y (omega arith)))

declared_by_others : (files : List LoadedClass) → All OfOther (fields_of files)
declared_by_others files =
    all_fields OfOther files fields_of_others
    (numbered_all OfOther file_fields (length boots) files (λ j c le. All-map OfOther (file_field c.pool.slots j) c.fields (λ i d lt. none_behind boots j le)))

pub placed_all : (P : ℕ → Type 0) (base : ℕ → ℕ) (before fs : List FieldInfo) → All (λ (f : FieldInfo). P f.class) fs → All (λ (f : FieldInfo). P f.class) (placed_behind base before fs)
placed_all P base before [] h = All-nil (λ (f : FieldInfo). P f.class)
placed_all P base before (f ∷ fs) h =
    All-cons (λ (g : FieldInfo). P g.class) _ (placed_behind base (before ++ f ∷ []) fs) (All-head (λ (g : FieldInfo). P g.class) f fs h) (placed_all P base (before ++ f ∷ []) fs (All-tail (λ (g : FieldInfo). P g.class) f fs h))

pub fields_elsewhere : (files : List LoadedClass) (rows : List Ancestry) → All OfOther (placed (fields_of files) rows)
fields_elsewhere files rows = placed_all (λ k. has_no_fields boots k ≡ false) (slots_above (fields_of files) rows) [] (fields_of files) (declared_by_others files)

-- CLASSES of the table in a program

pub class_in : (files : List LoadedClass) (rows : List Ancestry) (pools : List Constants) (k : ℕ) → k < length (set_of files) → class_at (program_with files rows pools) k ≡ set_class (heads_of files rows) k (slice_index_or (set_of files) k no_outline)
class_in files rows pools k lt =
    let h : Heads = heads_of files rows in
    at_numbered (λ j c. set_class h j c) 0 (set_of files) (numbered (λ j name. array_class h j name ∷ []) (length (set_of files)) (class_names_of files)) k no_outline no_class lt
    ∙ ap (λ i. set_class h i (slice_index_or (set_of files) k no_outline)) (let same : 0 + k ≡ k = omega arith in same)

pub named_in : (files : List LoadedClass) (rows : List Ancestry) (pools : List Constants) (name : List ℕ) (k : ℕ) → boot_place name ≡ Some k → class_called (program_with files rows pools) name ≡ k
named_in files rows pools name k h = ap (λ (o : Option ℕ). unwrap_or o 0) (named_in_tables files rows pools name k h)

-- what a class that declares no field is below declares none either
pub no_field_above : (p : Linked) (c q : ℕ) → NoField c → All NoField (class_at p c).supers → All NoField (class_at p c).superinterfaces → is_subclass p c q ≡ true → NoField q
no_field_above p c q itself supers interfaces h =
    ⊎_elim
    (λ e. subst NoField (eqb-true c q e) itself)
    (λ r. ⊎_elim (λ e. one_of NoField q (class_at p c).supers e supers) (λ e. one_of NoField q (class_at p c).superinterfaces e interfaces) (or_cases (list_any (λ k. k == q) (class_at p c).supers) (is_above p q c) r))
    (or_cases (c == q) (list_any (λ k. k == q) (class_at p c).supers || is_above p q c) h)

-- NEW OBJECTS

pub new_sound : (files : List LoadedClass) (rows : List Ancestry) (pools : List Constants) → IsAncestry (links (set_of files)) rows → (k : ℕ) → NoField k
    → IsSoundObject (program_with files rows pools) (new_object k 0 (class_at (program_with files rows pools) k).info.slots)
new_sound files rows pools is k h =
    let p : Linked = program_with files rows pools in
    let n : length (set_of files) ≡ length boots + length files = length-set files in
    let lt : k < length boots = no_fields_within boots k h in
    let total : length p.classes ≡ length (set_of files) + length (class_names_of files) = length-classes (heads_of files rows) (set_of files) (class_names_of files) in
    let c : class_at p k ≡ set_class (heads_of files rows) k (slice_index_or (set_of files) k no_outline) = class_in files rows pools k (omega arith) in
    let free : IsFree rows k = free_above files rows is k h in
    let supers : All NoField (class_at p k).supers = subst (λ (x : ClassEntry). All NoField x.supers) (sym c) free.above.supers in
    let interfaces : All NoField (class_at p k).superinterfaces = subst (λ (x : ClassEntry). All NoField x.superinterfaces) (sym c) free.above.superinterfaces in
    let inside : k < length p.classes = omega arith in
    let element : (class_at p k).info.element ≡ NoArray = ap (λ (x : ClassEntry). x.info.element) c in
    record {
      class = inside;
      slots = length-replicate (class_at p k).info.slots Unset ∙ ap (λ e. slots_by e (class_at p k).info.slots 0) (sym element);
      fields = λ f l static below. absurd (both_ways (has_no_fields boots (field_at p f).class) (fields_elsewhere files rows f no_field l) (no_field_above p k (field_at p f).class h supers interfaces below));
      elements = inr element;
    }

named_sound : (files : List LoadedClass) (rows : List Ancestry) (pools : List Constants) → IsAncestry (links (set_of files)) rows → (name : List ℕ) → IsFieldless name → IsSoundObject (program_with files rows pools) (new_of (program_with files rows pools) name)
named_sound files rows pools is name x =
    let p : Linked = program_with files rows pools in
    subst (λ (c : ℕ). IsSoundObject p (new_object c 0 (class_at p c).info.slots)) (sym (named_in files rows pools name x.place x.found)) (new_sound files rows pools is x.place x.fieldless)

pub makes_sound : (files : List LoadedClass) (p : Linked) → IsProgramOf files p → MakesSound p
makes_sound files p is =
    subst (λ (q : Linked). MakesSound q) (sym is.tables) (record {
      string = named_sound files is.rows p.pools is.ancestry (codes "java/lang/String") of_string;
      error = λ error. named_sound files is.rows p.pools is.ancestry (error_name error) (of_error error);
    })

-- .. and may hold any value in any slot, since no field stands there

new_holds : (files : List LoadedClass) (rows : List Ancestry) (pools : List Constants) → IsAncestry (links (set_of files)) rows → (k i : ℕ) (v : Value) → NoField k → MayHold (program_with files rows pools) k i v
new_holds files rows pools is k i v h =
    let p : Linked = program_with files rows pools in
    let n : length (set_of files) ≡ length boots + length files = length-set files in
    let lt : k < length boots = no_fields_within boots k h in
    let c : class_at p k ≡ set_class (heads_of files rows) k (slice_index_or (set_of files) k no_outline) = class_in files rows pools k (omega arith) in
    let free : IsFree rows k = free_above files rows is k h in
    let supers : All NoField (class_at p k).supers = subst (λ (x : ClassEntry). All NoField x.supers) (sym c) free.above.supers in
    let interfaces : All NoField (class_at p k).superinterfaces = subst (λ (x : ClassEntry). All NoField x.superinterfaces) (sym c) free.above.superinterfaces in
    record {
      fields = λ f l static below e. absurd (both_ways (has_no_fields boots (field_at p f).class) (fields_elsewhere files rows f no_field l) (no_field_above p k (field_at p f).class h supers interfaces below));
      elements = inr (ap (λ (x : ClassEntry). x.info.element) c);
    }

pub errors_hold : (files : List LoadedClass) (p : Linked) → IsProgramOf files p → (error : GuestError) (i : ℕ) (v : Value) → MayHold p (error_class p error) i v
errors_hold files p is error i v =
    let q : Linked = program_with files is.rows p.pools in
    let x : IsFieldless (error_name error) = of_error error in
    subst (λ (z : Linked). MayHold z (error_class z error) i v) (sym is.tables)
    (subst (λ (c : ℕ). MayHold q c i v) (sym (named_in files is.rows p.pools (error_name error) x.place x.found)) (new_holds files is.rows p.pools is.ancestry x.place i v x.fieldless))
