-- The slots that the machine itself uses.
use Rattle.std.proofs.Common.{◌≡◌, ℕ, ◌+◌, ◌<◌, ◌≤◌, ◌⊎◌, ◌==◌, ◌||◌, ◌&&◌, Bool, true, false, not, List, [], ◌∷◌, length, map, replicate, Option, None, Some, refl, sym, ◌∙◌, ap, subst, inl, inr, arith, Contains}
use mathlib.Core.Logic.{⊎_elim}
use Rattle.std.specs.Prelude.{All, codes, sum_by}
use Rattle.std.specs.List.{slice_index_or, list_any, list_all}
use Rattle.std.specs.Option.{option_and_then}
use Rattle.std.specs.Str.{bytes_eq}
use Rattle.std.proofs.lemmas.Bool.{eqb-true, eq-eqb, or_cases, and_parts, both_ways, cases_Bool, cases_lt, not-true}
use Rattle.std.proofs.lemmas.List.{length-map, length-replicate}
use Rattle.std.proofs.lemmas.List.Sums.{sum_by-cons}
use Rattle.std.proofs.lemmas.List.Elements.{All-nil, All-cons, All-map}
use Rattle.et_base.proofs.Lists.{Contains-cons}
use Rattle.et_base.specs.declared.value.Value.TheVariants.{Unset}
use Rattle.et_boot.specs.Classes.{no_boot_class}
use Rattle.et_class.specs.Names.{has}
use Rattle.et_class.specs.declared.flags.TheConstants.{STATIC, INTERFACE}
use Rattle.et_pool.specs.Entries.{Constants}
use Rattle.et_hierarchy.specs.Outline.{Outline, no_outline, class_place}
use Rattle.et_hierarchy.specs.Links.{LinkEntry, links, links_of}
use Rattle.et_hierarchy.specs.Ancestry.{Ancestry, ancestry_at, supers_over, IsAncestry}
use Rattle.et_hierarchy.proofs.Names.{same_name}
use Rattle.et_program.specs.Entries.{ClassEntry, Linked, no_field, class_at, field_at, is_interface}
use Rattle.et_program.specs.Members.{is_subclass, is_above}
use Rattle.et_program.specs.declared.info.FieldInfo.{FieldInfo}
use Rattle.et_program.specs.Files.{boots, set_of, boot_outline, file_outline}
use Rattle.et_program.specs.Loaded.{LoadedClass}
use Rattle.et_program.specs.LinkFaults.{IsLinkable}
use Rattle.et_program.proofs.DeclaredFields.{all_fields}
use Rattle.et_program.specs.MembersOf.{numbered, fields_of, boot_fields, file_fields, file_field}
use Rattle.et_program.specs.ProgramOf.{class_names_of, program_with, IsProgramOf}
use Rattle.et_program.specs.Slots.{own_slots, slots_above}
use Rattle.et_link.proofs.TabledLemmas.{length-set, length-placed}
use Rattle.et_event.specs.Errors.{class_called}
use Rattle.et_event.specs.Sound.{HasField, IsSoundObject}
use Rattle.et_heap.specs.Objects.{new_object}
use Rattle.et_event.specs.Programs.{HasInstanceField, HasSlots, KeepsFree, IsTarget, KeepsTarget, HasMachineSlots}
use Rattle.et_event.specs.Interfaces.{KnowsInterfaces}
use Rattle.et_history.proofs.programs.Interfaces.{HaveStaticFields}
use Rattle.et_program.proofs.Standing.{place_in_set}
use Rattle.et_history.proofs.programs.PlacesAbove.{link_at}
use Rattle.et_history.proofs.programs.BuiltIn.{boot_place}
use Rattle.et_history.proofs.programs.Lists.{all_pass}
use Rattle.et_history.proofs.programs.Chains.{chain_above, apart}
use Rattle.et_history.proofs.programs.Making.{numbered_all, named_in}
use Rattle.et_history.proofs.programs.Places.{at_map, one_of}
use Rattle.et_history.proofs.programs.Slotted.{layout, has_slots, field_is, is_placed, low as field_low, class_below, slots_are, no_array, below_is, in_lineage}
use Rattle.et_history.specs.programs.Fields.{HasStaticFields}
use Rattle.et_history.proofs.programs.Above.{interface_is, knows_interfaces}
use Rattle.et_history.proofs.programs.Classes.{length_all, array_in}
use Rattle.et_history.proofs.programs.Static.{fields_static}
use Rattle.et_history.proofs.programs.Bodies.{thread_place}

-- THE TABLE: class t of it is right below Object, is no interface, and declares so many slots

record IsTop (t count : ℕ) : Type 0 where
  low : 4 < t
  within : t < length boots
  kind : has (slice_index_or boots t no_boot_class).flags INTERFACE ≡ false
  superclass : (slice_index_or boots t no_boot_class).super_name ≡ Some (codes "java/lang/Object")
  own : (fields : List FieldInfo) → own_slots fields t ≡ count

throwable_is : IsTop 10 2
unfolding boots
throwable_is = record { low = omega arith; within = omega arith; kind = refl; superclass = refl; own = λ fields. refl }

thread_is : IsTop 6 1
unfolding boots
thread_is = record { low = omega arith; within = omega arith; kind = refl; superclass = refl; own = λ fields. refl }

throwable_place : boot_place (codes "java/lang/Throwable") ≡ Some 10
unfolding boots
throwable_place = refl

object_place : boot_place (codes "java/lang/Object") ≡ Some 0
unfolding boots
object_place = refl

object_top : (slice_index_or boots 0 no_boot_class).super_name ≡ None
unfolding boots
object_top = refl

object_bare : (fields : List FieldInfo) → own_slots fields 0 ≡ 0
unfolding boots
object_bare fields = refl

-- a field of Thread is `target`

abbrev is_target : FieldInfo → Bool
is_target f = bytes_eq f.name (codes "target") && bytes_eq f.descriptor (codes "Ljava/lang/Runnable;")

abbrev is_target_if : FieldInfo → Bool
is_target_if f = not (f.class == 6) || is_target f

targets_alone : (static : Bool) → list_all is_target_if (numbered (boot_fields static) 0 boots) ≡ true
unfolding boots
targets_alone true = refl
targets_alone false = refl

abbrev IsTargetIf : FieldInfo → Type 0
IsTargetIf f = f.class ≡ 6 → is_target f ≡ true

target_by : (f : FieldInfo) → is_target_if f ≡ true → IsTargetIf f
target_by f h e =
    ⊎_elim
    (λ n. absurd (both_ways (f.class == 6) (not-true (f.class == 6) n) (eq-eqb f.class 6 e)))
    (λ y. y)
    (or_cases (not (f.class == 6)) (is_target f) h)

targets_in : (files : List LoadedClass) → All IsTargetIf (fields_of files)
targets_in files =
    let many : 6 < length boots = thread_is.within in
    all_fields IsTargetIf files
    (λ static i d lt. target_by (slice_index_or (numbered (boot_fields static) 0 boots) i d) (all_pass is_target_if (numbered (boot_fields static) 0 boots) (targets_alone static) i d lt))
    (numbered_all IsTargetIf file_fields (length boots) files (λ j c le. All-map IsTargetIf (file_field c.pool.slots j) c.fields (λ i d lt e. absurd (omega arith))))

-- no field is one of Throwable

abbrev is_no_throwable : FieldInfo → Bool
is_no_throwable f = not (f.class == 10)

throwable_bare : (static : Bool) → list_all is_no_throwable (numbered (boot_fields static) 0 boots) ≡ true
unfolding boots
throwable_bare true = refl
throwable_bare false = refl

abbrev IsOther : FieldInfo → Type 0
IsOther f = f.class ≡ 10 → ⊥

others_in : (files : List LoadedClass) → All IsOther (fields_of files)
others_in files =
    let many : 10 < length boots = throwable_is.within in
    all_fields IsOther files
    (λ static i d lt e.
    let f : FieldInfo = slice_index_or (numbered (boot_fields static) 0 boots) i d in
    both_ways (f.class == 10) (not-true (f.class == 10) (all_pass is_no_throwable (numbered (boot_fields static) 0 boots) (throwable_bare static) i d lt)) (eq-eqb f.class 10 e))
    (numbered_all IsOther file_fields (length boots) files (λ j c le. All-map IsOther (file_field c.pool.slots j) c.fields (λ i d lt e. omega arith)))

-- A PROGRAM

module _ (files : List LoadedClass) (rows : List Ancestry) (pools : List Constants) (is : IsAncestry (links (set_of files)) rows) where
  open layout files rows pools use {p, declared, own, above}

  abbrev supers : ℕ → List ℕ
  supers k = (ancestry_at rows k).supers

  abbrev set_length : ℕ
  set_length = length (set_of files)

  -- FIELDS

  -- an instance field stands behind the slots of the superclasses of its class
  low : (f : ℕ) → f < length p.fields → has (field_at p f).flags STATIC ≡ false → above (field_at p f).class ≤ (field_at p f).slot
  low f lt static = field_low files rows pools is f (is_placed files rows pools is f lt static)

  is_of_thread : (f : ℕ) → f < length p.fields → (field_at p f).class ≡ 6 → is_target (field_at p f) ≡ true
  is_of_thread f lt =
      let inside : f < length (fields_of files) = subst (λ (n : ℕ). f < n) (length-placed (slots_above (fields_of files) rows) [] (fields_of files)) lt in
      subst IsTargetIf (sym (field_is files rows pools is f lt)) (targets_in files f no_field inside)

  is_of_other : (f : ℕ) → f < length p.fields → (field_at p f).class ≡ 10 → ⊥
  is_of_other f lt =
      let inside : f < length (fields_of files) = subst (λ (n : ℕ). f < n) (length-placed (slots_above (fields_of files) rows) [] (fields_of files)) lt in
      subst IsOther (sym (field_is files rows pools is f lt)) (others_in files f no_field inside)

  -- CLASSES

  above_each : (k : ℕ) → k < length boots → supers k ≡ supers_over rows (option_and_then (class_place (set_of files)) (slice_index_or boots k no_boot_class).super_name)
  above_each k lt =
      let n : length (set_of files) ≡ length boots + length files = length-set files in
      let m : length (links (set_of files)) ≡ length (set_of files) = length-map (set_of files) (links_of (set_of files)) in
      ap (λ (r : Ancestry). r.supers) (is.row k (omega arith)) ∙ ap (λ (l : LinkEntry). supers_over rows l.above) (link_at files k lt)

  object_supers : supers 0 ≡ []
  object_supers =
      let some : 6 < length boots = thread_is.within in
      above_each 0 (omega arith) ∙ ap (λ (o : Option (List ℕ)). supers_over rows (option_and_then (class_place (set_of files)) o)) object_top

  top_supers : (t count : ℕ) → IsTop t count → supers t ≡ 0 ∷ []
  top_supers t count top =
      above_each t top.within
      ∙ (ap (λ (o : Option (List ℕ)). supers_over rows (option_and_then (class_place (set_of files)) o)) top.superclass
      ∙ (ap (λ (o : Option ℕ). supers_over rows o) (place_in_set files (codes "java/lang/Object") 0 object_place) ∙ ap (λ (l : List ℕ). 0 ∷ l) object_supers))

  -- no slot stands above it
  top_above : (t count : ℕ) → IsTop t count → above t ≡ 0
  top_above t count top =
      ap (λ (l : List ℕ). sum_by (own_slots (fields_of files)) l) (top_supers t count top)
      ∙ (sum_by-cons (own_slots (fields_of files)) 0 [] ∙ (let none : own 0 + 0 ≡ 0 = omega (arith, object_bare (fields_of files)) in none))

  module _ (plain : HaveStaticFields p) (faces : KnowsInterfaces p) (slots : HasSlots p) where
    top_kind : (t count : ℕ) → IsTop t count → is_interface p t ≡ false
    top_kind t count top =
        let n : length (set_of files) ≡ length boots + length files = length-set files in
        let w : t < length boots = top.within in
        interface_is files rows pools t (omega arith)
        ∙ (ap (λ (o : Outline). o.is_interface) (at_map boot_outline boots (map file_outline files) t no_boot_class no_outline w) ∙ top.kind)

    -- such a class is no superinterface
    not_above : (t count c : ℕ) → IsTop t count → is_above p t c ≡ false
    not_above t count c top = ⊎_elim (λ y. absurd (both_ways (is_interface p t) (top_kind t count top) (faces.superinterfaces c t y))) (λ n. n) (cases_Bool (is_above p t c))

    -- the classes above an array class stand in front of it
    not_of_array : (t count c : ℕ) → IsTop t count → set_length ≤ c → c < length p.classes → is_subclass p c t ≡ true → ⊥
    not_of_array t count c top le lt h =
        let n : length (set_of files) ≡ length boots + length files = length-set files in
        let w : t < length boots = top.within in
        let l : 4 < t = top.low in
        ⊎_elim
        (λ e. let same : c ≡ t = eqb-true c t e in omega arith)
        (λ r.
        ⊎_elim
        (λ s.
        let in_one : list_any (λ k. k == t) (0 ∷ []) ≡ true = subst (λ (x : ClassEntry). list_any (λ k. k == t) x.supers ≡ true) (array_in files rows pools c le lt) s in
        let low : t ≡ 0 = one_of (λ k. k ≡ 0) t (0 ∷ []) in_one (All-cons (λ k. k ≡ 0) 0 [] refl (All-nil (λ k. k ≡ 0))) in
        omega arith)
        (λ i. both_ways (is_above p t c) (not_above t count c top) i)
        (or_cases (list_any (λ k. k == t) (class_at p c).supers) (is_above p t c) r))
        (or_cases (c == t) (list_any (λ k. k == t) (class_at p c).supers || is_above p t c) h)

    -- each class below it has its slots
    room : (t count c : ℕ) → IsTop t count → c < set_length → Contains (c ∷ supers c) t → count ≤ (class_at p c).info.slots
    room t count c top lt h =
        let total : (class_at p c).info.slots ≡ above c + own c = slots_are files rows pools is c lt in
        let mine : own t ≡ count = top.own (fields_of files) in
        elim (Contains-cons c (supers c) t h) [
          | inl same ↦ let here : own c ≡ count = ap (λ (k : ℕ). own_slots (fields_of files) k) same ∙ mine in omega arith
          | inr there ↦ let up : above t + own t ≤ above c = chain_above (fields_of files) (links (set_of files)) rows is c (supers c) refl t there in omega arith
        ]

    -- the class of a field has slots
    some_own : (f : ℕ) → f < length p.fields → has (field_at p f).flags STATIC ≡ false → (field_at p f).slot < above (field_at p f).class + own (field_at p f).class
    some_own f lt static =
        let q : ℕ = (field_at p f).class in
        let inside : q < set_length = class_below files rows pools is f lt in
        let n : length p.classes ≡ set_length + length (class_names_of files) = length_all files rows pools in
        let sound : IsSoundObject p (new_object q 0 (class_at p q).info.slots) = slots.instances q (omega arith) (no_array files rows pools is q inside) in
        let at : HasField p (new_object q 0 (class_at p q).info.slots) f = sound.fields f lt static (itself q (list_any (λ k. k == q) (class_at p q).supers || is_above p q q)) in
        let size : length (replicate (class_at p q).info.slots Unset) ≡ (class_at p q).info.slots = length-replicate (class_at p q).info.slots Unset in
        let total : (class_at p q).info.slots ≡ above q + own q = slots_are files rows pools is q inside in
        let slot : (field_at p f).slot < length (replicate (class_at p q).info.slots Unset) = at.slot in
        omega arith
      where
        itself : (q : ℕ) (b : Bool) → ((q == q) || b) ≡ true
        itself q b = ap (λ (x : Bool). x || b) (eq-eqb q q refl)

    -- a field of an object of a class below it is one of its own, or stands behind its slots
    beyond : (t count c f : ℕ) → IsTop t count → c < set_length → Contains (c ∷ supers c) t → HasInstanceField p c f → ((field_at p f).class ≡ t) ⊎ (count ≤ (field_at p f).slot)
    beyond t count c f top lt h field =
        let q : ℕ = (field_at p f).class in
        let bottom : above q ≤ (field_at p f).slot = low f field.within field.instance in
        let high : (field_at p f).slot < above q + own q = some_own f field.within field.instance in
        let none : above t ≡ 0 = top_above t count top in
        let mine : own t ≡ count = top.own (fields_of files) in
        elim (apart (fields_of files) (links (set_of files)) rows is c (supers c) refl t q h (in_lineage files rows pools is c f plain lt field)) [
          | inl same ↦ inl (sym same)
          | inr other ↦ elim other [ inl le ↦ inr (omega arith) | inr le ↦ absurd (omega arith) ]
        ]

    called : (t : ℕ) (name : List ℕ) → boot_place name ≡ Some t → class_called p name ≡ t
    called t name e = named_in files rows pools name t e

    -- THE LAW

    throwable_free : (c f : ℕ) → c < set_length → Contains (c ∷ supers c) 10 → HasInstanceField p c f → 2 ≤ (field_at p f).slot
    throwable_free c f lt h field =
        elim (beyond 10 2 c f throwable_is lt h field) [
          | inl same ↦ absurd (is_of_other f field.within same)
          | inr le ↦ le
        ]

    throwable_at : (c : ℕ) → c < length p.classes → is_subclass p c 10 ≡ true → KeepsFree p c 2
    throwable_at c inside h =
        elim (cases_lt c set_length) [
          | inl lt ↦
              let at : Contains (c ∷ supers c) 10 = below_is files rows pools is c 10 lt (not_above 10 2 c throwable_is) h in
              record { bare = no_array files rows pools is c lt; room = room 10 2 c throwable_is lt at; free = λ f field. throwable_free c f lt at field }
          | inr le ↦ absurd (not_of_array 10 2 c throwable_is le inside h)
        ]

    thread_target : (c f : ℕ) → c < set_length → Contains (c ∷ supers c) 6 → HasInstanceField p c f → (field_at p f).slot < 1 → IsTarget p f
    thread_target c f lt h field first =
        elim (beyond 6 1 c f thread_is lt h field) [
          | inl same ↦
              let parts = and_parts (bytes_eq (field_at p f).name (codes "target")) (bytes_eq (field_at p f).descriptor (codes "Ljava/lang/Runnable;")) (is_of_thread f field.within same) in
              record {
                class = same ∙ sym (called 6 (codes "java/lang/Thread") thread_place);
                name = same_name (field_at p f).name (codes "target") parts.0;
                descriptor = same_name (field_at p f).descriptor (codes "Ljava/lang/Runnable;") parts.1;
              }
          | inr le ↦ absurd (omega arith)
        ]

    thread_at : (c : ℕ) → c < length p.classes → is_subclass p c 6 ≡ true → KeepsTarget p c
    thread_at c inside h =
        elim (cases_lt c set_length) [
          | inl lt ↦
              let at : Contains (c ∷ supers c) 6 = below_is files rows pools is c 6 lt (not_above 6 1 c thread_is) h in
              record { bare = no_array files rows pools is c lt; room = room 6 1 c thread_is lt at; target = λ f field first. thread_target c f lt at field first }
          | inr le ↦ absurd (not_of_array 6 1 c thread_is le inside h)
        ]

    machine_slots : HasMachineSlots p
    machine_slots = record {
      throwables = λ c inside h. throwable_at c inside (subst (λ (t : ℕ). is_subclass p c t ≡ true) (called 10 (codes "java/lang/Throwable") throwable_place) h);
      threads = λ c inside h. thread_at c inside (subst (λ (t : ℕ). is_subclass p c t ≡ true) (called 6 (codes "java/lang/Thread") thread_place) h);
    }

pub has_machine_slots : (files : List LoadedClass) (p : Linked) → All HasStaticFields files → IsLinkable files → IsProgramOf files p → HasMachineSlots p
has_machine_slots files p static linkable is =
    let q : Linked = program_with files is.rows p.pools in
    let there : IsProgramOf files q = subst (λ (x : Linked). IsProgramOf files x) is.tables is in
    let plain : HaveStaticFields q = fields_static files q static linkable there in
    subst (λ (x : Linked). HasMachineSlots x) (sym is.tables) (machine_slots files is.rows p.pools is.ancestry plain (knows_interfaces files q linkable there) (has_slots files q there plain))
