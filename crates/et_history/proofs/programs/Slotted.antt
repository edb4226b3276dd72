-- The objects of a program have a slot of their own for each of their fields.
use Rattle.std.proofs.Common.{◌≡◌, ℕ, zero, suc, ◌+◌, ◌-◌, ◌<◌, ◌≤◌, ◌==◌, ◌||◌, ◌&&◌, Bool, true, false, cond, not, List, [], ◌∷◌, ◌++◌, length, take, replicate, refl, sym, ◌∙◌, ap, subst, inl, inr, arith, Contains}
use mathlib.Core.Logic.{⊎_elim}
use Rattle.std.specs.Prelude.{All, count_by, nat_lt, nat_le, if◌then◌else◌}
use Rattle.std.specs.List.{slice_index_or, list_any, list_all}
use Rattle.std.proofs.lemmas.Bool.{eqb-true, eq-eqb, and_left, or_cases, and_parts, both_ways, cases_lt, leb-true, ltb-true, false≢true, ne_eqb}
use Rattle.std.proofs.lemmas.List.{length-replicate, get_or-replicate, get_or-append_right, length-append}
use Rattle.std.proofs.lemmas.List.Sums.{sum_by-append}
use Rattle.std.proofs.lemmas.List.Elements.{All-nil, All-cons, All-map, All-replicate}
use Rattle.et_base.proofs.Lists.{Contains-here, Contains-there, Contains-cons, has_contains}
use Rattle.et_base.specs.declared.value.Value.{Value}
use Rattle.et_base.specs.declared.value.Value.TheVariants.{Unset}
use Rattle.et_boot.specs.Classes.{BootClassOf, no_boot_class}
use Rattle.et_class.specs.Names.{has}
use Rattle.et_class.specs.declared.flags.TheConstants.{STATIC, INTERFACE, ABSTRACT}
use Rattle.et_pool.specs.Entries.{Constants}
use Rattle.et_hierarchy.specs.Ancestry.{Ancestry, ancestry_at, IsAncestry}
use Rattle.et_hierarchy.specs.Links.{links}
use Rattle.et_hierarchy.specs.Outline.{no_outline}
use Rattle.et_program.specs.Entries.{ClassEntry, Linked, no_class, no_field, class_at, field_at}
use Rattle.et_program.specs.Members.{is_above, is_subclass}
use Rattle.et_program.specs.declared.info.Element.{Element}
use Rattle.et_program.specs.declared.info.Element.TheVariants.{NoArray, Base, Class}
use Rattle.et_program.specs.declared.info.FieldInfo.{FieldInfo}
use Rattle.et_program.specs.Classes.{set_class, array_class}
use Rattle.et_program.specs.Files.{boots, set_of}
use Rattle.et_program.specs.Loaded.{LoadedClass}
use Rattle.et_program.specs.MembersOf.{numbered, fields_of, boot_fields, file_fields, file_field}
use Rattle.et_program.specs.ProgramOf.{heads_of, class_names_of, program_with, IsProgramOf}
use Rattle.et_program.specs.Slots.{is_static_field, is_instance_of, own_slots, slots_above, slot_of_field}
use Rattle.et_link.proofs.TabledLemmas.{length-singles, length-classes, length-placed, fields_within}
use Rattle.et_heap.specs.Objects.{new_object}
use Rattle.et_event.specs.Heap.{may_be_made}
use Rattle.et_event.specs.Kinds.{is_array_element}
use Rattle.et_event.specs.Operands.{operand_kind}
use Rattle.et_event.specs.Sound.{is_of_kind, kind_of_element, slots_by, HasField, IsSoundObject}
use Rattle.et_event.specs.Programs.{HasInstanceField, HasSlots}
use Rattle.et_history.proofs.programs.Interfaces.{HaveStaticFields}
use Rattle.et_history.proofs.programs.PlacesAbove.{NoField}
use Rattle.et_history.proofs.programs.Arguments.{no_field_of}
use Rattle.et_history.proofs.programs.BuiltIn.{object_fieldless, cloneable_fieldless, serializable_fieldless}
use Rattle.et_history.proofs.programs.Lists.{all_pass, if_true}
use Rattle.et_history.proofs.programs.Chains.{chain_above, apart}
use Rattle.et_history.proofs.programs.Counts.{count_none, count_within, count_before, placed_at, StandsIn, places_at}
use Rattle.et_history.proofs.programs.Making.{numbered_all, placed_all, fields_elsewhere, class_in}
use Rattle.et_history.proofs.programs.Starting.{unset_fits}

-- HOW MANY FIELDS a class declares: no more than it has slots of its own

abbrev are_enough : List BootClassOf → ℕ → List BootClassOf → Bool
are_enough table k [] = true
are_enough table k (c ∷ cs) = nat_le (count_by (is_instance_of k) (numbered (boot_fields false) 0 table)) c.slots && are_enough table (k + 1) cs

table_enough : are_enough boots 0 boots ≡ true
unfolding boots
table_enough = refl

enough_at : (table : List BootClassOf) (j : ℕ) (cs : List BootClassOf) (k : ℕ) → k < length cs → are_enough table j cs ≡ true → count_by (is_instance_of (j + k)) (numbered (boot_fields false) 0 table) ≤ (slice_index_or cs k no_boot_class).slots
enough_at table j [] k lt h = absurd (omega arith)
enough_at table j (c ∷ cs) zero lt h =
    let here : nat_le (count_by (is_instance_of j) (numbered (boot_fields false) 0 table)) c.slots ≡ true = (and_parts (nat_le (count_by (is_instance_of j) (numbered (boot_fields false) 0 table)) c.slots) (are_enough table (j + 1) cs) h).0 in
    subst (λ (i : ℕ). count_by (is_instance_of i) (numbered (boot_fields false) 0 table) ≤ c.slots) (let same : j ≡ j + 0 = omega arith in same) (leb-true (count_by (is_instance_of j) (numbered (boot_fields false) 0 table)) c.slots here)
enough_at table j (c ∷ cs) (suc k) lt h =
    let rest : are_enough table (j + 1) cs ≡ true = (and_parts (nat_le (count_by (is_instance_of j) (numbered (boot_fields false) 0 table)) c.slots) (are_enough table (j + 1) cs) h).1 in
    subst (λ (i : ℕ). count_by (is_instance_of i) (numbered (boot_fields false) 0 table) ≤ (slice_index_or cs k no_boot_class).slots) (let same : j + 1 + k ≡ j + suc k = omega arith in same) (enough_at table (j + 1) cs k (omega arith) rest)

none_of_files : (files : List LoadedClass) (q : ℕ) → q < length boots → count_by (is_instance_of q) (numbered file_fields (length boots) files) ≡ 0
none_of_files files q lt =
    let P = λ (f : FieldInfo). is_instance_of q f ≡ false in
    count_none (is_instance_of q) (numbered file_fields (length boots) files)
    (numbered_all P file_fields (length boots) files (λ j c le. All-map P (file_field c.pool.slots j) c.fields (λ i d l. and_left (j == q) _ (ne_eqb j q (λ e. absurd (omega arith))))))

statics_static : list_all is_static_field (numbered (boot_fields true) 0 boots) ≡ true
unfolding boots
statics_static = refl

never_instance : (a b : Bool) → b ≡ true → (a && not b) ≡ false
never_instance true true e = refl
never_instance false true e = refl
never_instance a false e = absurd (false≢true e)

none_of_statics : (q : ℕ) → count_by (is_instance_of q) (numbered (boot_fields true) 0 boots) ≡ 0
none_of_statics q =
    let fs : List FieldInfo = numbered (boot_fields true) 0 boots in
    count_none (is_instance_of q) fs
    (λ i d lt. let f : FieldInfo = slice_index_or fs i d in never_instance (f.class == q) (is_static_field f) (all_pass is_static_field fs statics_static i d lt))

own_by : (files : List LoadedClass) (q : ℕ) (b : Bool) → nat_lt q (length boots) ≡ b → count_by (is_instance_of q) (fields_of files) ≤ (if b then (slice_index_or boots q no_boot_class).slots else count_by (is_instance_of q) (fields_of files))
own_by files q true e =
    let lt : q < length boots = ltb-true q (length boots) e in
    let zero_q : 0 + q ≡ q = omega arith in
    let fields = numbered (boot_fields false) 0 boots in
    let own = numbered file_fields (length boots) files in
    let front : count_by (is_instance_of q) fields ≤ (slice_index_or boots q no_boot_class).slots =
    subst (λ (i : ℕ). count_by (is_instance_of i) fields ≤ (slice_index_or boots q no_boot_class).slots) zero_q (enough_at boots 0 boots q lt table_enough) in
    let both : count_by (is_instance_of q) (fields ++ own) ≡ count_by (is_instance_of q) fields + count_by (is_instance_of q) own = sum_by-append (λ f. cond (is_instance_of q f) 1 0) fields own in
    let all : count_by (is_instance_of q) (fields_of files) ≡ count_by (is_instance_of q) (fields ++ own) + count_by (is_instance_of q) (numbered (boot_fields true) 0 boots) =
    sum_by-append (λ f. cond (is_instance_of q f) 1 0) (fields ++ own) (numbered (boot_fields true) 0 boots) in
    omega (arith, none_of_files files q lt, none_of_statics q)
own_by files q false e = omega arith

own_enough : (files : List LoadedClass) (q : ℕ) → count_by (is_instance_of q) (fields_of files) ≤ own_slots (fields_of files) q
own_enough files q = own_by files q (nat_lt q (length boots)) refl

-- A PROGRAM, its fields as they are declared, and by the class how many slots an object has of its own and of those above

pub record Layout : Type 0 where
  pub p : Linked
  pub declared : ℕ → FieldInfo
  pub own : ℕ → ℕ
  pub above : ℕ → ℕ

abbrev pub layout : List LoadedClass → List Ancestry → List Constants → Layout
layout files rows pools = record {
  p = program_with files rows pools;
  declared = λ f. slice_index_or (fields_of files) f no_field;
  own = λ q. own_slots (fields_of files) q;
  above = λ q. slots_above (fields_of files) rows q;
}

module _ (files : List LoadedClass) (rows : List Ancestry) (pools : List Constants) (is : IsAncestry (links (set_of files)) rows) where
  open layout files rows pools use {p, declared, own, above}

  pub field_is : (f : ℕ) → f < length p.fields → field_at p f ≡ record (declared f) { slot = slot_of_field (slots_above (fields_of files) rows) (take f (fields_of files)) (declared f) }
  field_is f lt = placed_at (slots_above (fields_of files) rows) [] (fields_of files) f (subst (λ (n : ℕ). f < n) (length-placed (slots_above (fields_of files) rows) [] (fields_of files)) lt)

  -- an instance field
  pub record IsPlaced (f : ℕ) : Type 0 where
    within : f < length (fields_of files)
    test : is_instance_of (field_at p f).class (declared f) ≡ true
    slot : (field_at p f).slot ≡ above (field_at p f).class + count_by (is_instance_of (field_at p f).class) (take f (fields_of files))

  slot_by : (b : Bool) (n m : ℕ) → b ≡ false → (if b then n else m) ≡ m
  slot_by true n m e = cc
  slot_by false n m e = refl

  test_by : (a b : Bool) → a ≡ true → b ≡ false → (a && not b) ≡ true
  test_by true false e g = refl
  test_by true true e g = cc
  test_by false b e g = cc

  pub is_placed : (f : ℕ) → f < length p.fields → has (field_at p f).flags STATIC ≡ false → IsPlaced f
  is_placed f lt static =
      let e = field_is f lt in
      let g : FieldInfo = declared f in
      let before : List FieldInfo = take f (fields_of files) in
      let class : (field_at p f).class ≡ g.class = ap (λ (x : FieldInfo). x.class) e in
      let plain : is_static_field g ≡ false = sym (ap (λ (x : FieldInfo). has x.flags STATIC) e) ∙ static in
      let slot : (field_at p f).slot ≡ above g.class + count_by (is_instance_of g.class) before =
      ap (λ (x : FieldInfo). x.slot) e ∙ slot_by (is_static_field g) (count_by is_static_field before) (above g.class + count_by (is_instance_of g.class) before) plain in
      record {
        within = subst (λ (n : ℕ). f < n) (length-placed (slots_above (fields_of files) rows) [] (fields_of files)) lt;
        test = subst (λ (q : ℕ). is_instance_of q g ≡ true) (sym class) (test_by (g.class == g.class) (is_static_field g) (eq-eqb g.class g.class refl) plain);
        slot = subst (λ (q : ℕ). (field_at p f).slot ≡ above q + count_by (is_instance_of q) before) (sym class) slot;
      }

  -- it stands among the slots that its class declares
  high : (f : ℕ) → IsPlaced f → (field_at p f).slot + 1 ≤ above (field_at p f).class + own (field_at p f).class
  high f at =
      let q : ℕ = (field_at p f).class in
      let less : count_by (is_instance_of q) (take f (fields_of files)) + 1 ≤ count_by (is_instance_of q) (fields_of files) = count_within (is_instance_of q) (fields_of files) f no_field at.within at.test in
      omega (arith, at.slot, own_enough files q)

  pub low : (f : ℕ) → IsPlaced f → above (field_at p f).class ≤ (field_at p f).slot
  low f at = omega (arith, at.slot)

  -- two of one class in one slot are one
  same_class : (f g : ℕ) → IsPlaced f → IsPlaced g → (field_at p f).class ≡ (field_at p g).class → (field_at p f).slot ≡ (field_at p g).slot → f ≡ g
  same_class f g a b class slot =
      let q : ℕ = (field_at p f).class in
      let ga : is_instance_of q (declared g) ≡ true = subst (λ (k : ℕ). is_instance_of k (declared g) ≡ true) (sym class) b.test in
      let gb : (field_at p g).slot ≡ above q + count_by (is_instance_of q) (take g (fields_of files)) = subst (λ (k : ℕ). (field_at p g).slot ≡ above k + count_by (is_instance_of k) (take g (fields_of files))) (sym class) b.slot in
      elim (cases_lt f g) [
        | inl lt ↦ let less = count_before (is_instance_of q) (fields_of files) f g no_field a.within a.test lt in absurd (omega (arith, a.slot, gb, slot, less))
        | inr le ↦
            elim (cases_lt g f) [
              | inl lt ↦ let less = count_before (is_instance_of q) (fields_of files) g f no_field b.within ga lt in absurd (omega (arith, a.slot, gb, slot, less))
              | inr ge ↦ omega arith
            ]
      ]

  -- CLASSES

  abbrev set_length : ℕ
  set_length = length (set_of files)

  pub class_is : (c : ℕ) → c < set_length → class_at p c ≡ set_class (heads_of files rows) c (slice_index_or (set_of files) c no_outline)
  class_is c lt = class_in files rows pools c lt

  -- what stands behind the set has no fields above it
  record IsBare (x : ClassEntry) : Type 0 where
    supers : All NoField x.supers
    interfaces : All NoField x.superinterfaces

  arrays_bare : All IsBare (numbered (λ k name. array_class (heads_of files rows) k name ∷ []) set_length (class_names_of files))
  arrays_bare =
      numbered_all IsBare (λ k name. array_class (heads_of files rows) k name ∷ []) set_length (class_names_of files) (λ j name le.
      All-cons IsBare (array_class (heads_of files rows) j name) []
      (record { supers = All-cons NoField 0 [] object_fieldless (All-nil NoField); interfaces = All-cons NoField 2 (4 ∷ []) cloneable_fieldless (All-cons NoField 4 [] serializable_fieldless (All-nil NoField)) }) (All-nil IsBare))

  none_bare : IsBare no_class
  none_bare = record { supers = All-nil NoField; interfaces = All-nil NoField }

  any_bare : (xs : List ClassEntry) (k : ℕ) → All IsBare xs → IsBare (slice_index_or xs k no_class)
  any_bare xs k all =
      elim (cases_lt k (length xs)) [
        | inl lt ↦ all k no_class lt
        | inr le ↦ subst (λ (x : ClassEntry). IsBare x) (sym (past xs k le)) none_bare
      ]
    where
      past : (ys : List ClassEntry) (j : ℕ) → length ys ≤ j → slice_index_or ys j no_class ≡ no_class
      past [] j le = refl
      past (y ∷ ys) zero le = absurd (omega arith)
      past (y ∷ ys) (suc j) le = past ys j (omega arith)

  behind_bare : (c : ℕ) → set_length ≤ c → IsBare (class_at p c)
  behind_bare c le =
      let front : List ClassEntry = numbered (λ k o. set_class (heads_of files rows) k o ∷ []) 0 (set_of files) in
      let back : List ClassEntry = numbered (λ k name. array_class (heads_of files rows) k name ∷ []) set_length (class_names_of files) in
      let n : length front ≡ set_length = length-singles (λ k o. set_class (heads_of files rows) k o) 0 (set_of files) in
      let there : class_at p c ≡ slice_index_or back (c - length front) no_class = get_or-append_right front back (length front) c no_class refl (omega arith) in
      subst (λ (x : ClassEntry). IsBare x) (sym there) (any_bare back (c - length front) arrays_bare)

  pub class_below : (f : ℕ) → f < length p.fields → (field_at p f).class < set_length
  class_below f lt = placed_all (λ k. k < set_length) (slots_above (fields_of files) rows) [] (fields_of files) (fields_within files) f no_field lt

  no_field_behind : (c f : ℕ) → set_length ≤ c → HasInstanceField p c f → ⊥
  no_field_behind c f le h =
      let b : IsBare (class_at p c) = behind_bare c le in
      let in_set : (field_at p f).class < set_length = class_below f h.within in
      no_field_of p c (field_at p f).class (omega arith) (fields_elsewhere files rows f no_field h.within) b.supers b.interfaces h.below

  -- a class of the set has the slots of its superclasses, and its own
  pub slots_are : (c : ℕ) → c < set_length → (class_at p c).info.slots ≡ above c + own c
  slots_are c lt = ap (λ (x : ClassEntry). x.info.slots) (class_is c lt)

  pub no_array : (c : ℕ) → c < set_length → (class_at p c).info.element ≡ NoArray
  no_array c lt = ap (λ (x : ClassEntry). x.info.element) (class_is c lt)

  -- what a class is below is the class or a superclass of it, unless it is an interface
  pub below_is : (c q : ℕ) → c < set_length → is_above p q c ≡ false → is_subclass p c q ≡ true → Contains (c ∷ (ancestry_at rows c).supers) q
  below_is c q lt out h =
      ⊎_elim
      (λ e. subst (λ (k : ℕ). Contains (c ∷ (ancestry_at rows c).supers) k) (eqb-true c q e) (Contains-here c (ancestry_at rows c).supers))
      (λ r.
      ⊎_elim
      (λ s. Contains-there c (ancestry_at rows c).supers q (has_contains (ancestry_at rows c).supers q (subst (λ (x : ClassEntry). list_any (λ k. k == q) x.supers ≡ true) (class_is c lt) s)))
      (λ i. absurd (both_ways (is_above p q c) out i))
      (or_cases (list_any (λ k. k == q) (class_at p c).supers) (is_above p q c) r))
      (or_cases (c == q) (list_any (λ k. k == q) (class_at p c).supers || is_above p q c) h)

  -- the class of a field of an object is that of the object, or a superclass
  pub in_lineage : (c f : ℕ) → HaveStaticFields p → c < set_length → HasInstanceField p c f → Contains (c ∷ (ancestry_at rows c).supers) (field_at p f).class
  in_lineage c f plain lt h = below_is c (field_at p f).class lt (plain c f h.within h.instance) h.below

  slot_within : (c f : ℕ) → HaveStaticFields p → c < set_length → HasInstanceField p c f → (field_at p f).slot < (class_at p c).info.slots
  slot_within c f plain lt h =
      let q : ℕ = (field_at p f).class in
      let at : IsPlaced f = is_placed f h.within h.instance in
      let top = high f at in
      let all : (class_at p c).info.slots ≡ above c + own c = slots_are c lt in
      let le : above q + own q ≤ above c + own c = within_class c (ancestry_at rows c).supers refl q (in_lineage c f plain lt h) in
      omega arith
    where
      within_class : (k : ℕ) (xs : List ℕ) → (ancestry_at rows k).supers ≡ xs → (q : ℕ) → Contains (k ∷ xs) q → above q + own q ≤ above k + own k
      within_class k xs e q d =
          elim (Contains-cons k xs q d) [
            | inl same ↦ subst (λ (i : ℕ). above i + own i ≤ above k + own k) same (let le : above k + own k ≤ above k + own k = omega arith in le)
            | inr there ↦ let up = chain_above (fields_of files) (links (set_of files)) rows is k xs e q there in let le : above q + own q ≤ above k + own k = omega arith in le
          ]

  -- an array class is abstract

  abbrev IsAbstract : ClassEntry → Type 0
  IsAbstract x = not (has x.info.flags INTERFACE || has x.info.flags ABSTRACT) ≡ false

  arrays_abstract : All IsAbstract (numbered (λ k name. array_class (heads_of files rows) k name ∷ []) set_length (class_names_of files))
  arrays_abstract = numbered_all IsAbstract (λ k name. array_class (heads_of files rows) k name ∷ []) set_length (class_names_of files) (λ j name le. All-cons IsAbstract (array_class (heads_of files rows) j name) [] refl (All-nil IsAbstract))

  behind_abstract : (c : ℕ) → set_length ≤ c → c < length p.classes → may_be_made p c ≡ false
  behind_abstract c le lt =
      let front : List ClassEntry = numbered (λ k o. set_class (heads_of files rows) k o ∷ []) 0 (set_of files) in
      let back : List ClassEntry = numbered (λ k name. array_class (heads_of files rows) k name ∷ []) set_length (class_names_of files) in
      let n : length front ≡ set_length = length-singles (λ k o. set_class (heads_of files rows) k o) 0 (set_of files) in
      let all : length (front ++ back) ≡ length front + length back = length-append front back in
      let there : class_at p c ≡ slice_index_or back (c - length front) no_class = get_or-append_right front back (length front) c no_class refl (omega arith) in
      subst (λ (x : ClassEntry). IsAbstract x) (sym there) (arrays_abstract (c - length front) no_class (omega arith))

  no_made_array : (c : ℕ) → c < length p.classes → may_be_made p c ≡ true → (class_at p c).info.element ≡ NoArray
  no_made_array c inside may =
      elim (cases_lt c set_length) [
        | inl lt ↦ no_array c lt
        | inr le ↦ absurd (both_ways (may_be_made p c) (behind_abstract c le inside) may)
      ]

  owner_within : (f : ℕ) → f < length p.fields → (field_at p f).class < length p.classes
  owner_within f lt =
      let n : length p.classes ≡ set_length + length (class_names_of files) = length-classes (heads_of files rows) (set_of files) (class_names_of files) in
      let below : (field_at p f).class < set_length = class_below f lt in
      omega arith

  -- THE LAWS

  own_slot : (c f g : ℕ) → HaveStaticFields p → HasInstanceField p c f → HasInstanceField p c g → (field_at p f).slot ≡ (field_at p g).slot → f ≡ g
  own_slot c f g plain a b slot =
      elim (cases_lt c set_length) [
        | inl lt ↦
            let fa : IsPlaced f = is_placed f a.within a.instance in
            let gb : IsPlaced g = is_placed g b.within b.instance in
            let fh = high f fa in
            let fl = low f fa in
            let gh = high g gb in
            let gl = low g gb in
            elim (apart (fields_of files) (links (set_of files)) rows is c (ancestry_at rows c).supers refl (field_at p f).class (field_at p g).class (in_lineage c f plain lt a) (in_lineage c g plain lt b)) [
              | inl same ↦ same_class f g fa gb same slot
              | inr other ↦ elim other [ inl le ↦ absurd (omega arith) | inr le ↦ absurd (omega arith) ]
            ]
        | inr le ↦ absurd (no_field_behind c f le a)
      ]

  all_unset : (e : Element) (n : ℕ) → All (λ v. is_of_kind (kind_of_element e) v ≡ true) (replicate n Unset)
  all_unset e n = All-replicate (λ v. is_of_kind (kind_of_element e) v ≡ true) n Unset (unset_fits (kind_of_element e))

  slots_of_array : (e : Element) (s n : ℕ) → is_array_element e ≡ true → slots_by e s n ≡ n
  slots_of_array NoArray s n h = absurd (false≢true h)
  slots_of_array (Base k) s n h = refl
  slots_of_array (Class c) s n h = refl

  new_instance : (c : ℕ) → HaveStaticFields p → c < length p.classes → (class_at p c).info.element ≡ NoArray → IsSoundObject p (new_object c 0 (class_at p c).info.slots)
  new_instance c plain inside element =
      let n : ℕ = (class_at p c).info.slots in
      record {
        class = inside;
        slots = length-replicate n Unset ∙ ap (λ (e : Element). slots_by e n 0) (sym element);
        fields = λ f lt static below. has_field f (record { within = lt; instance = static; below = below });
        elements = inr element;
      }
    where
      has_field : (f : ℕ) → HasInstanceField p c f → HasField p (new_object c 0 (class_at p c).info.slots) f
      has_field f h =
          elim (cases_lt c set_length) [
            | inl lt ↦
                let slot : (field_at p f).slot < (class_at p c).info.slots = slot_within c f plain lt h in
                record {
                  slot = subst (λ (k : ℕ). (field_at p f).slot < k) (sym (length-replicate (class_at p c).info.slots Unset)) slot;
                  value = ap (λ (v : Value). is_of_kind (operand_kind (field_at p f).descriptor) v) (get_or-replicate (class_at p c).info.slots (field_at p f).slot Unset Unset slot) ∙ unset_fits (operand_kind (field_at p f).descriptor);
                }
            | inr le ↦ absurd (no_field_behind c f le h)
          ]

  array_behind : (c : ℕ) → is_array_element (class_at p c).info.element ≡ true → set_length ≤ c
  array_behind c h =
      elim (cases_lt c set_length) [
        | inl lt ↦ absurd (false≢true (sym (ap (λ (e : Element). is_array_element e) (no_array c lt)) ∙ h))
        | inr le ↦ le
      ]

  new_array : (c n : ℕ) → c < length p.classes → is_array_element (class_at p c).info.element ≡ true → IsSoundObject p (new_object c n n)
  new_array c n inside array = record {
    class = inside;
    slots = length-replicate n Unset ∙ sym (slots_of_array (class_at p c).info.element (class_at p c).info.slots n array);
    fields = λ f lt static below. absurd (no_field_behind c f (array_behind c array) (record { within = lt; instance = static; below = below }));
    elements = inl (all_unset (class_at p c).info.element n);
  }

  no_fields_of_arrays : (c f : ℕ) → HasInstanceField p c f → (class_at p c).info.element ≡ NoArray
  no_fields_of_arrays c f h =
      elim (cases_lt c set_length) [
        | inl lt ↦ no_array c lt
        | inr le ↦ absurd (no_field_behind c f le h)
      ]

  static_place : (f : ℕ) → f < length p.fields → has (field_at p f).flags STATIC ≡ true → ((field_at p f).slot < length p.statics) × (slice_index_or p.statics (field_at p f).slot 0 ≡ f)
  static_place f lt static =
      let e = field_is f lt in
      let g : FieldInfo = declared f in
      let before : List FieldInfo = take f (fields_of files) in
      let test : is_static_field g ≡ true = sym (ap (λ (x : FieldInfo). has x.flags STATIC) e) ∙ static in
      let slot : (field_at p f).slot ≡ count_by is_static_field before = ap (λ (x : FieldInfo). x.slot) e ∙ if_true (is_static_field g) (count_by is_static_field before) (above g.class + count_by (is_instance_of g.class) before) test in
      let inside : f < length (fields_of files) = subst (λ (n : ℕ). f < n) (length-placed (slots_above (fields_of files) rows) [] (fields_of files)) lt in
      let at : StandsIn p.statics (count_by is_static_field before) (0 + f) = places_at is_static_field 0 (fields_of files) f no_field inside test in
      let there : StandsIn p.statics (field_at p f).slot (0 + f) = subst (λ (i : ℕ). StandsIn p.statics i (0 + f)) (sym slot) at in
      (there.within, there.is ∙ (let same : 0 + f ≡ f = omega arith in same))

  slotted : HaveStaticFields p → HasSlots p
  slotted plain = record {
    instances = λ c inside element. new_instance c plain inside element;
    arrays = λ c n inside array. new_array c n inside array;
    own = λ c f g a b slot. own_slot c f g plain a b slot;
    bare = λ c f h. no_fields_of_arrays c f h;
    owners = λ f lt. owner_within f lt;
    made = λ c inside may. no_made_array c inside may;
    statics = λ f lt static. static_place f lt static;
  }

pub has_slots : (files : List LoadedClass) (p : Linked) → IsProgramOf files p → HaveStaticFields p → HasSlots p
has_slots files p is plain =
    subst (λ (q : Linked). HasSlots q) (sym is.tables) (slotted files is.rows p.pools is.ancestry (subst (λ (q : Linked). HaveStaticFields q) is.tables plain))
