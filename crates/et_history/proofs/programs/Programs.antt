-- The constants and the initialization of the classes of a program.
use Rattle.std.proofs.Common.{◌≡◌, ℕ, ◌+◌, ◌<◌, ◌≤◌, Bool, true, false, ◌&&◌, ◌==◌, List, [], length, take, Option, None, Some, IfSome, is_some, refl, sym, ◌∙◌, ap, subst, arith}
use Rattle.std.specs.Prelude.{All, count_by, codes}
use Rattle.std.specs.List.{slice_index_or, filter}
use Rattle.std.specs.Option.{option_to_list}
use Rattle.std.specs.Str.{bytes_eq}
use Rattle.std.proofs.lemmas.Bool.{and_parts, not-true, eqb-true, false_from_ne_true, false≢true}
use Rattle.std.proofs.lemmas.List.{length-map, get_or_default}
use Rattle.std.proofs.lemmas.List.Elements.{All-nil, All-append, All-map, All-weaker}
use Rattle.et_link.proofs.TabledLemmas.{all_left}
use Rattle.et_code.specs.Bodies.{Body}
use Rattle.et_class.specs.Names.{has}
use Rattle.et_class.specs.declared.flags.TheConstants.{STATIC}
use Rattle.et_pool.specs.Entries.{Constants}
use Rattle.et_pool.specs.Descriptors.{is_void, types_of}
use Rattle.et_hierarchy.specs.Outline.{outline_at}
use Rattle.et_hierarchy.specs.Links.{LinkEntry, links, links_of, no_links}
use Rattle.et_hierarchy.specs.Ancestry.{Ancestry, IsAncestry}
use Rattle.et_hierarchy.proofs.Names.{same_name}
use Rattle.et_hierarchy.proofs.LinkLemmas.{are_within}
use Rattle.et_program.specs.declared.info.FieldInfo.{FieldInfo}
use Rattle.et_program.specs.declared.info.MethodInfo.{MethodInfo}
use Rattle.et_program.specs.Entries.{ClassEntry, Linked, no_field, no_method, class_at, method_at, field_at}
use Rattle.et_program.specs.Classes.{prerequisites_of}
use Rattle.et_program.specs.Files.{boots, set_of}
use Rattle.et_program.specs.Heads.{is_initializer, initializer_of, has_constant, constants_of}
use Rattle.et_program.specs.Loaded.{LoadedClass}
use Rattle.et_program.specs.LinkFaults.{IsLinkable}
use Rattle.et_program.proofs.DeclaredFields.{all_fields}
use Rattle.et_program.specs.MembersOf.{methods_of, fields_of, boot_field, boot_fields, file_field, file_fields, is_boot_static, HasPools}
use Rattle.et_program.specs.ProgramOf.{class_names_of, heads_of, program_with, IsProgramOf}
use Rattle.et_program.specs.Slots.{is_static_field, is_instance_of, slots_above, slot_of_field}
use Rattle.et_event.specs.Errors.{class_called}
use Rattle.et_event.specs.Heap.{is_out}
use Rattle.et_event.specs.Operands.{operand_kind}
use Rattle.et_event.specs.Sites.{LoadedConstant, constant_at, no_constants, pool_of_class}
use Rattle.et_event.specs.Sound.{is_of_kind, returned_of}
use Rattle.et_event.specs.Programs.{HasConstant, IsInitializer, HasInitializers, value_like}
use Rattle.et_base.proofs.Positions.{Passes, position_passes}
use Rattle.et_event.specs.InitializationOrder.{IsStaticOf, HasConstants, IsInOrder}
use Rattle.et_history.proofs.programs.Counts.{placed_at, StandsIn, places_at}
use Rattle.et_history.proofs.programs.Making.{named_in}
use Rattle.et_history.proofs.programs.TextClasses.{system_place, system_within}
use Rattle.et_history.specs.programs.Fields.{HasStaticConstants, HasTypedConstants}
use Rattle.et_history.proofs.programs.Classes.{length_all, class_cases}
use Rattle.et_history.proofs.programs.Supers.{IsInterface}
use Rattle.et_history.proofs.programs.Lists.{all_numbered, all_places, Ascends, places_ascend, if_true}
use Rattle.et_history.proofs.programs.Order.{orders, own, within_all, run_kinds}
use Rattle.et_history.proofs.programs.Threads.{pool_is}

-- FIELDS WITH CONSTANTS

abbrev IsStaticIf : FieldInfo → Type 0
IsStaticIf f = has_constant f ≡ true → has f.flags STATIC ≡ true

constants_static : (files : List LoadedClass) → All HasStaticConstants files → All IsStaticIf (fields_of files)
constants_static files static =
    all_fields IsStaticIf files
    (λ static. all_numbered IsStaticIf (boot_fields static) 0 boots (λ i c lt e. All-map IsStaticIf (boot_field (0 + i)) (filter (is_boot_static static) c.fields) (λ j d l h. absurd (false≢true h))))
    (all_numbered IsStaticIf file_fields (length boots) files (λ i c lt e. All-map IsStaticIf (file_field c.pool.slots (length boots + i)) c.fields (λ j d l h. subst HasStaticConstants e (static i c lt) j d l (not-true _ h))))

-- .. are of files, and so none is System.out
abbrev IsOfFileIf : FieldInfo → Type 0
IsOfFileIf f = has_constant f ≡ true → length boots ≤ f.class

constants_of_files : (files : List LoadedClass) → All IsOfFileIf (fields_of files)
constants_of_files files =
    all_fields IsOfFileIf files
    (λ static. all_numbered IsOfFileIf (boot_fields static) 0 boots (λ i c lt e. All-map IsOfFileIf (boot_field (0 + i)) (filter (is_boot_static static) c.fields) (λ j d l h. absurd (false≢true h))))
    (all_numbered IsOfFileIf file_fields (length boots) files (λ i c lt e. All-map IsOfFileIf (file_field c.pool.slots (length boots + i)) c.fields (λ j d l h. omega arith)))

abbrev IsTypedIf : List Constants → FieldInfo → Type 0
IsTypedIf pools f = (k : LoadedConstant) → has_constant f ≡ true → constant_at (slice_index_or pools f.class no_constants).slots f.constant ≡ Some k → is_of_kind (operand_kind f.descriptor) (value_like k) ≡ true

constants_typed : (files : List LoadedClass) (pools : List Constants) → HasPools files pools → All HasTypedConstants files → All (IsTypedIf pools) (fields_of files)
constants_typed files pools has_pools typed =
    let T = IsTypedIf pools in
    all_fields T files
    (λ static. all_numbered T (boot_fields static) 0 boots (λ i c lt e. All-map T (boot_field (0 + i)) (filter (is_boot_static static) c.fields) (λ j d l k h. absurd (false≢true h))))
    (all_numbered T file_fields (length boots) files
    (λ i c lt e.
    All-map T (file_field c.pool.slots (length boots + i)) c.fields
    (λ j d l k h at.
    subst HasTypedConstants e (typed i c lt) j d l k (not-true _ h)
    (sym (ap (λ (q : Constants). constant_at q.slots (slice_index_or c.fields j d).constant) (pool_is files pools has_pools i c lt e)) ∙ at))))

module _ (files : List LoadedClass) (rows : List Ancestry) (pools : List Constants) (static : All HasStaticConstants files) where
  abbrev p : Linked
  p = program_with files rows pools

  abbrev declared : ℕ → FieldInfo
  declared f = slice_index_or (fields_of files) f no_field

  field_is : (f : ℕ) → f < length (fields_of files) → field_at p f ≡ record (declared f) { slot = slot_of_field (slots_above (fields_of files) rows) (take f (fields_of files)) (declared f) }
  field_is f lt = placed_at (slots_above (fields_of files) rows) [] (fields_of files) f lt

  -- a static field stands in its slot
  static_place : (f : ℕ) → f < length (fields_of files) → has (declared f).flags STATIC ≡ true → StandsIn p.statics (field_at p f).slot f
  static_place f lt test =
      let g : FieldInfo = declared f in
      let before : List FieldInfo = take f (fields_of files) in
      let slot : (field_at p f).slot ≡ count_by is_static_field before = ap (λ (x : FieldInfo). x.slot) (field_is f lt) ∙ if_true (is_static_field g) (count_by is_static_field before) (slots_above (fields_of files) rows g.class + count_by (is_instance_of g.class) before) test in
      let at : StandsIn p.statics (count_by is_static_field before) (0 + f) = places_at is_static_field 0 (fields_of files) f no_field lt test in
      let same : 0 + f ≡ f = omega arith in
      subst (λ (i : ℕ). StandsIn p.statics i f) (sym slot) (subst (λ (i : ℕ). StandsIn p.statics (count_by is_static_field before) i) same at)

  record IsConstant (c f : ℕ) : Type 0 where
    within : f < length (fields_of files)
    class : (declared f).class ≡ c
    constant : has_constant (declared f) ≡ true
    stands : StandsIn p.statics (field_at p f).slot f

  constant_is : (c i : ℕ) (x : FieldInfo) → i < length (fields_of files) → slice_index_or (fields_of files) i x ≡ x → ((x.class == c) && has_constant x) ≡ true → IsConstant c (0 + i)
  constant_is c i x lt e t =
      let d : x ≡ declared i = sym e ∙ get_or_default (fields_of files) i x no_field lt in
      let parts = and_parts (x.class == c) (has_constant x) t in
      let constant : has_constant (declared i) ≡ true = subst (λ (y : FieldInfo). has_constant y ≡ true) d parts.1 in
      let same : i ≡ 0 + i = omega arith in
      subst (IsConstant c) same (record {
        within = lt;
        class = sym (ap (λ (y : FieldInfo). y.class) d) ∙ eqb-true x.class c parts.0;
        constant = constant;
        stands = static_place i lt (constants_static files static i no_field lt constant);
      })

  all_constants : (c : ℕ) → All (IsConstant c) (constants_of (fields_of files) c)
  all_constants c = all_places (IsConstant c) (λ (f : FieldInfo). (f.class == c) && has_constant f) 0 (fields_of files) (constant_is c)

  static_of : (c f : ℕ) → IsConstant c f → IsStaticOf p c f
  static_of c f h = record {
    class = ap (λ (x : FieldInfo). x.class) (field_is f h.within) ∙ h.class;
    slot = h.stands.within;
    stands = h.stands.is;
  }

  has_constants : (c : ℕ) → HasConstants p c
  has_constants c =
      let both : All (IsStaticOf p c) (class_at p c).info.constants × Ascends (class_at p c).info.constants =
      class_cases files rows pools (λ (x : ClassEntry). All (IsStaticOf p c) x.info.constants × Ascends x.info.constants) c
      (λ lt. (All-weaker (IsConstant c) (IsStaticOf p c) (static_of c) _ (all_constants c), places_ascend (λ (f : FieldInfo). (f.class == c) && has_constant f) 0 (fields_of files)))
      (λ name le lt. (All-nil (IsStaticOf p c), λ i j l m. absurd (omega arith)))
      (All-nil (IsStaticOf p c), λ i j l m. absurd (omega arith)) in
      record { fields = both.0; once = both.1 }

  module _ (is : IsAncestry (links (set_of files)) rows) (linkable : IsLinkable files) where
    pub ordered : IsInOrder (program_with files rows pools)
    ordered = record {
      constants = λ c lt. has_constants c;
      within = λ c lt. within_all files rows pools is linkable c;
      orders = λ c k j lt h g. orders files rows pools is linkable c k j lt h g;
    }

    -- INITIALIZATION

    module _ (has_pools : HasPools files pools) (typed : All HasTypedConstants files) where
      -- the class System is none of a file
      no_system : (f : ℕ) → IsConstant (declared f).class f → is_out p f ≡ false
      no_system f h =
          let class : (field_at p f).class ≡ (declared f).class = ap (λ (x : FieldInfo). x.class) (field_is f h.within) in
          let system : class_called p (codes "java/lang/System") ≡ 13 = named_in files rows pools (codes "java/lang/System") 13 system_place in
          let of_file : length boots ≤ (declared f).class = constants_of_files files f no_field h.within h.constant in
          false_from_ne_true (is_out p f) (λ e.
          let same : (field_at p f).class ≡ class_called p (codes "java/lang/System") = eqb-true (field_at p f).class (class_called p (codes "java/lang/System")) e in
          absurd (omega (arith, class, system, of_file, same, system_within)))

      constant_of_class : (c f : ℕ) → IsConstant c f → HasConstant p c f
      constant_of_class c f h = record {
        class = ap (λ (x : FieldInfo). x.class) (field_is f h.within) ∙ h.class;
        other = no_system f (record { within = h.within; class = refl; constant = h.constant; stands = h.stands });
        slot = h.stands.within;
        place = h.stands.is;
        typed = λ k.
            subst (λ (x : FieldInfo). constant_at (pool_of_class p x.class) x.constant ≡ Some k → is_of_kind (operand_kind x.descriptor) (value_like k) ≡ true) (sym (field_is f h.within))
            (constants_typed files pools has_pools typed f no_field h.within k h.constant);
      }

      prerequisites : (c : ℕ) (b : Bool) → c < length (set_of files) → All (λ k. k < length (set_of files)) (prerequisites_of (heads_of files rows) c b)
      prerequisites c true lt = All-nil (λ k. k < length (set_of files))
      prerequisites c false lt =
          let P = λ (k : ℕ). k < length (set_of files) in
          let n : length (links (set_of files)) ≡ length (set_of files) = length-map (set_of files) (links_of (set_of files)) in
          let l : LinkEntry = slice_index_or (links (set_of files)) c no_links in
          All-append P (option_to_list l.above) _ (all_left P (option_to_list l.above) l.interfaces (are_within (set_of files) c no_links (omega arith)))
          (All-weaker (IsInterface (set_of files)) P (λ k h. h.within) _ (run_kinds files rows pools is linkable c lt))

      void_by : (m : MethodInfo) → m.descriptor ≡ codes "()V" → is_void (returned_of m) ≡ true
      unfolding types_of
      void_by m e = subst (λ (t : List ℕ). is_void (returned_of (record m { descriptor = t })) ≡ true) (sym e) refl

      code_by : (m : ℕ) (o : Option Body) → (method_at p m).code ≡ o → is_some o ≡ true → m < length p.methods → is_void (returned_of (method_at p m)) ≡ true → IsInitializer p m
      code_by m None e h lt void = absurd (false≢true h)
      code_by m (Some b) e h lt void = record { method = lt; body = b; code = e; void = void }

      initializer_is : (c m : ℕ) → initializer_of (methods_of files) c ≡ Some m → IsInitializer p m
      initializer_is c m e =
          let t = λ (x : MethodInfo). (x.class == c) && is_initializer x in
          let at : Passes t no_method 0 (methods_of files) m = subst (λ (o : Option ℕ). IfSome o (Passes t no_method 0 (methods_of files))) e (position_passes t no_method 0 (methods_of files)) in
          let same : at.place ≡ m = omega (arith, at.is) in
          let within : m < length (methods_of files) = omega (arith, at.is, at.within) in
          let passes : t (method_at p m) ≡ true = subst (λ (i : ℕ). t (method_at p i) ≡ true) same at.passes in
          let x : MethodInfo = method_at p m in
          let parts = and_parts (bytes_eq x.name (codes "<clinit>")) (bytes_eq x.descriptor (codes "()V") && is_some x.code) (and_parts (x.class == c) (is_initializer x) passes).1 in
          let two = and_parts (bytes_eq x.descriptor (codes "()V")) (is_some x.code) parts.1 in
          code_by m x.code refl two.1 within (void_by x (same_name x.descriptor (codes "()V") two.0))

      pub initialized : HasInitializers (program_with files rows pools)
      initialized =
          let all : length p.classes ≡ length (set_of files) + length (class_names_of files) = length_all files rows pools in
          let P = λ (k : ℕ). k < length p.classes in
          record {
            orders = λ c. within_all files rows pools is linkable c;
            own = λ c lt. own files rows pools is linkable c lt;
            constants = λ c lt.
                class_cases files rows pools (λ (x : ClassEntry). All (HasConstant p c) x.info.constants) c
                (λ l. All-weaker (IsConstant c) (HasConstant p c) (constant_of_class c) _ (all_constants c)) (λ name le l. All-nil (HasConstant p c)) (All-nil (HasConstant p c));
            prerequisites = λ c lt.
                class_cases files rows pools (λ (x : ClassEntry). All P x.info.prerequisites) c
                (λ l. All-weaker (λ k. k < length (set_of files)) P (λ k h. omega arith) _ (prerequisites c (outline_at (set_of files) c).is_interface l)) (λ name le l. All-nil P) (All-nil P);
            clinits = λ c m lt.
                class_cases files rows pools (λ (x : ClassEntry). x.info.clinit ≡ Some m → IsInitializer p m) c (λ l e. initializer_is c m e) (λ name le l e. absurd (nothing m e)) (λ e. absurd (nothing m e));
          }
        where
          nothing : (m : ℕ) → None ≡ Some m → ⊥
          nothing m e = cc

pub in_order : (files : List LoadedClass) (p : Linked) → All HasStaticConstants files → IsLinkable files → IsProgramOf files p → IsInOrder p
in_order files p static linkable is = subst IsInOrder (sym is.tables) (ordered files is.rows p.pools static is.ancestry linkable)

pub has_initializers : (files : List LoadedClass) (p : Linked) → All HasStaticConstants files → All HasTypedConstants files → IsLinkable files → IsProgramOf files p → HasInitializers p
has_initializers files p static typed linkable is = subst HasInitializers (sym is.tables) (initialized files is.rows p.pools static is.ancestry linkable is.pools typed)
