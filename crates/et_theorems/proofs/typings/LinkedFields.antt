-- The fields of a linked program are of types of which there are operands, and its initializers take nothing.
use Rattle.std.proofs.Common.{◌-◌, ◌≡◌, ℕ, ◌+◌, ◌<◌, ◌==◌, ◌&&◌, ◌||◌, Bool, true, false, List, [], ◌∷◌, length, map, Option, Some, None, IsSome, refl, sym, ◌∙◌, ap, subst, arith, inl, inr}
use Rattle.std.specs.Prelude.{All, IfSome, codes, if◌then◌else◌, is_some}
use Rattle.std.specs.List.{list_all, slice_index_or}
use Rattle.std.specs.Str.{bytes_eq}
use Rattle.std.proofs.lemmas.Bool.{and_parts, cases_eq, false≢true, true≢false, not-true, ne_eqb}
use Rattle.std.proofs.lemmas.List.Elements.{All-cons, All-map, All-nil}
use Rattle.et_base.proofs.Positions.{Passes, position_passes}
use Rattle.et_class.specs.Descriptors.{after_class, after_dimensions, after_element, is_base, is_field_descriptor, is_floating, is_text_end}
use Rattle.et_class.specs.Classes.{IsClassFile}
use Rattle.et_class.specs.Fields.{field_marks, is_floating_type, is_type}
use Rattle.et_class.specs.Layout.{ClassOf, MemberOf, counted_bytes, member_bytes, u2}
use Rattle.et_class.specs.Names.{has}
use Rattle.et_class.specs.Operands.{operand_kind}
use Rattle.et_class.specs.declared.flags.TheConstants.{INTERFACE}
use Rattle.et_pool.specs.Looks.{end_of, utf8_at}
use Rattle.et_pool.specs.Entries.{Item}
use Rattle.et_program.specs.Files.{or_empty}
use Rattle.et_program.specs.Linking.{IsOfFile}
use Rattle.et_event.specs.Programs.{is_initializing}
use Rattle.et_hierarchy.proofs.Names.{same_name}
use Rattle.et_hierarchy.specs.Ancestry.{Ancestry}
use Rattle.et_link.proofs.TabledLemmas.{length-placed}
use Rattle.et_history.proofs.programs.Classes.{class_cases}
use Rattle.et_history.proofs.programs.Counts.{placed_at}
use Rattle.et_history.proofs.programs.Lists.{all_numbered}
use Rattle.et_history.proofs.programs.Marks.{AreWell, along_each, well_first, well_rest}
use Rattle.et_theorems.proofs.MemberMarks.{well_fields}
use Rattle.et_program.proofs.DeclaredFields.{all_fields}
use Rattle.et_program.specs.Entries.{ClassEntry, Linked, class_at, field_at, method_at, no_field, no_method}
use Rattle.et_program.specs.Files.{boots}
use Rattle.et_program.specs.Heads.{initializer_of, is_initializer}
use Rattle.et_program.specs.Loaded.{LoadedClass, LoadedMember, loaded_class, loaded_field}
use Rattle.et_program.specs.MembersOf.{boot_fields, fields_of, file_field, file_fields, methods_of, numbered, pool_text}
use Rattle.et_program.specs.ProgramOf.{program_with}
use Rattle.et_program.specs.Slots.{slots_above}
use Rattle.et_pool.specs.Entries.{Constants}
use Rattle.et_program.specs.declared.info.FieldInfo.{FieldInfo}
use Rattle.et_program.specs.declared.info.MethodInfo.{MethodInfo}

-- A TYPE that is neither D nor F, nor an array over them, has operands

none_of : (a b c d e f g h : Bool) → a ≡ false → b ≡ false → c ≡ false → d ≡ false → e ≡ false → f ≡ false → g ≡ false → h ≡ false → (a || b || c || d || e || f || g || h) ≡ false
none_of true b c d e f g h p1 p2 p3 p4 p5 p6 p7 p8 = absurd (true≢false p1)
none_of false true c d e f g h p1 p2 p3 p4 p5 p6 p7 p8 = absurd (true≢false p2)
none_of false false true d e f g h p1 p2 p3 p4 p5 p6 p7 p8 = absurd (true≢false p3)
none_of false false false true e f g h p1 p2 p3 p4 p5 p6 p7 p8 = absurd (true≢false p4)
none_of false false false false true f g h p1 p2 p3 p4 p5 p6 p7 p8 = absurd (true≢false p5)
none_of false false false false false true g h p1 p2 p3 p4 p5 p6 p7 p8 = absurd (true≢false p6)
none_of false false false false false false true h p1 p2 p3 p4 p5 p6 p7 p8 = absurd (true≢false p7)
none_of false false false false false false false true p1 p2 p3 p4 p5 p6 p7 p8 = absurd (true≢false p8)
none_of false false false false false false false false p1 p2 p3 p4 p5 p6 p7 p8 = refl

no_type : (a : ℕ) (rest : List ℕ) → (a == 91) ≡ false → (a == 76) ≡ false → is_base a ≡ false → is_field_descriptor (a ∷ rest) ≡ false
unfolding after_dimensions
no_type a rest x y z =
    ap (λ (b : Bool). is_text_end (if b then (if 255 == 0 then None else after_dimensions (255 - 1) rest) else after_element a rest)) x
    ∙ (ap (λ (b : Bool). is_text_end (if b then after_class rest else (if is_base a then Some rest else None))) y ∙ ap (λ (b : Bool). is_text_end (if b then Some rest else None)) z)

nothing_typed : is_field_descriptor [] ≡ true → ⊥
unfolding after_dimensions
nothing_typed h = false≢true h

operand_there : (d : List ℕ) → is_field_descriptor d ≡ true → is_floating d ≡ false → IsSome (operand_kind d)
operand_there [] h f = absurd (nothing_typed h)
operand_there (a ∷ rest) h f =
    letter 91 refl (λ n91. letter 76 refl (λ n76. letter 66 refl (λ n66. letter 67 refl (λ n67. letter 73 refl (λ n73. letter 74 refl (λ n74. letter 83 refl (λ n83. letter 90 refl (λ n90.
    floating 68 (λ q. true≢false q) (λ n68. floating 70 (λ q. true≢false q) (λ n70.
    absurd (true≢false (sym h ∙ no_type a rest (ne_eqb a 91 n91) (ne_eqb a 76 n76)
    (none_of (a == 66) (a == 67) (a == 68) (a == 70) (a == 73) (a == 74) (a == 83) (a == 90) (ne_eqb a 66 n66) (ne_eqb a 67 n67) (ne_eqb a 68 n68) (ne_eqb a 70 n70) (ne_eqb a 73 n73) (ne_eqb a 74 n74) (ne_eqb a 83 n83) (ne_eqb a 90 n90))))))))))))))
  where
    letter : (n : ℕ) → IsSome (operand_kind (n ∷ rest)) → ((a ≡ n → ⊥) → IsSome (operand_kind (a ∷ rest))) → IsSome (operand_kind (a ∷ rest))
    letter n some more = elim (cases_eq a n) [
      | inl same ↦ subst (λ (k : ℕ). IsSome (operand_kind (k ∷ rest))) (sym same) some
      | inr ne ↦ more ne
    ]

    floating : (n : ℕ) → (is_floating (n ∷ rest) ≡ false → ⊥) → ((a ≡ n → ⊥) → IsSome (operand_kind (a ∷ rest))) → IsSome (operand_kind (a ∷ rest))
    floating n never more = elim (cases_eq a n) [
      | inl same ↦ absurd (never (subst (λ (k : ℕ). is_floating (k ∷ rest) ≡ false) same f))
      | inr ne ↦ more ne
    ]

-- THE FIELDS OF A CLASS FILE

record IsOperandField (slots : List (Option Item)) (m : MemberOf) : Type 0 where
  type : is_type (utf8_at slots m.descriptor) ≡ true
  plain : is_floating_type (utf8_at slots m.descriptor) ≡ false

operand_field : (slots : List (Option Item)) (interface : Bool) (before : List MemberOf) (place : ℕ) (m : MemberOf) → AreWell (field_marks slots interface before place m) → IsOperandField slots m
operand_field slots interface before place m h =
    let rest = well_rest _ _ (well_rest _ _ h) in
    record { type = well_first _ _ rest; plain = not-true (is_floating_type (utf8_at slots m.descriptor)) (well_first _ _ (well_rest _ _ rest)) }

operand_fields : (bytes : List ℕ) (c : ClassOf) → IsClassFile bytes c → All (IsOperandField c.slots) c.fields
operand_fields bytes c is =
    let face : Bool = has c.flags INTERFACE in
    let place : ℕ = end_of 8 c.slots + 6 + length (counted_bytes u2 c.interfaces) in
    along_each (IsOperandField c.slots) member_bytes (field_marks c.slots face) (λ before at m w. operand_field c.slots face before at m w) [] (place + 2) c.fields (well_fields bytes c is)

text_there : (o : Option (List ℕ)) → is_type o ≡ true → is_floating_type o ≡ false → IsSome (operand_kind (or_empty o))
text_there None h f = absurd (false≢true h)
text_there (Some d) h f = operand_there d h f

abbrev HasOperands : LoadedClass → Type 0
HasOperands c = All (λ (f : LoadedMember). IsSome (operand_kind (pool_text c.pool.slots f.descriptor))) c.fields

file_operands : (bytes : List ℕ) (c : ClassOf) → IsClassFile bytes c → HasOperands (loaded_class c)
file_operands bytes c is =
    All-map (λ (f : LoadedMember). IsSome (operand_kind (pool_text c.slots f.descriptor))) (loaded_field c.slots) c.fields
    (λ i d lt. let h : IsOperandField c.slots (slice_index_or c.fields i d) = operand_fields bytes c is i d lt in text_there (utf8_at c.slots (slice_index_or c.fields i d).descriptor) h.type h.plain)

files_operands : (cs : List ClassOf) → All IsOfFile cs → All HasOperands (map loaded_class cs)
files_operands cs h = All-map HasOperands loaded_class cs (λ i d lt. let f : IsOfFile (slice_index_or cs i d) = h i d lt in file_operands f.bytes (slice_index_or cs i d) f.is)

-- .. OF A PROGRAM

abbrev IsOperand : FieldInfo → Type 0
IsOperand f = IsSome (operand_kind f.descriptor)

each_of : (t : FieldInfo → Bool) (Q : FieldInfo → Type 0) → ((x : FieldInfo) → t x ≡ true → Q x) → (xs : List FieldInfo) → list_all t xs ≡ true → All Q xs
each_of t Q says [] h = All-nil Q
each_of t Q says (x ∷ xs) h =
    let parts = and_parts (t x) (list_all t xs) h in
    All-cons Q x xs (says x parts.0) (each_of t Q says xs parts.1)

built_in_test : (static : Bool) → list_all (λ (f : FieldInfo). is_some (operand_kind f.descriptor)) (numbered (boot_fields static) 0 boots) ≡ true
unfolding boots
built_in_test true = refl
built_in_test false = refl

declared_operands : (files : List LoadedClass) → All HasOperands files → All IsOperand (fields_of files)
declared_operands files typed =
    all_fields IsOperand files
    (λ static. each_of (λ (f : FieldInfo). is_some (operand_kind f.descriptor)) IsOperand (λ x h. h) (numbered (boot_fields static) 0 boots) (built_in_test static))
    (all_numbered IsOperand file_fields (length boots) files
    (λ i c lt e. All-map IsOperand (file_field c.pool.slots (length boots + i)) c.fields (λ j d l. subst HasOperands e (typed i c lt) j d l)))

module _ (files : List LoadedClass) (rows : List Ancestry) (pools : List Constants) where
  abbrev p : Linked
  p = program_with files rows pools

  pub fields_operands : All HasOperands files → (f : ℕ) → f < length (program_with files rows pools).fields → IsSome (operand_kind (field_at (program_with files rows pools) f).descriptor)
  fields_operands typed f lt =
      let inside : f < length (fields_of files) = subst (λ (n : ℕ). f < n) (length-placed (slots_above (fields_of files) rows) [] (fields_of files)) lt in
      subst (λ (x : FieldInfo). IsSome (operand_kind x.descriptor)) (sym (placed_at (slots_above (fields_of files) rows) [] (fields_of files) f inside)) (declared_operands files typed f no_field inside)

  -- INITIALIZERS

  abbrev IsNamed : ℕ → Type 0
  IsNamed m = (is_initializing p m ≡ true) × ((method_at p m).descriptor ≡ codes "()V")

  initializer_named : (c m : ℕ) → initializer_of (methods_of files) c ≡ Some m → IsNamed m
  initializer_named c m e =
      let t = λ (x : MethodInfo). (x.class == c) && is_initializer x in
      let at : Passes t no_method 0 (methods_of files) m = subst (λ (o : Option ℕ). IfSome o (Passes t no_method 0 (methods_of files))) e (position_passes t no_method 0 (methods_of files)) in
      let same : at.place ≡ m = omega (arith, at.is) in
      let passes : t (method_at p m) ≡ true = subst (λ (i : ℕ). t (method_at p i) ≡ true) same at.passes in
      let x : MethodInfo = method_at p m in
      let parts = and_parts (bytes_eq x.name (codes "<clinit>")) (bytes_eq x.descriptor (codes "()V") && is_some x.code) (and_parts (x.class == c) (is_initializer x) passes).1 in
      let two = and_parts (bytes_eq x.descriptor (codes "()V")) (is_some x.code) parts.1 in
      (parts.0, same_name x.descriptor (codes "()V") two.0)

  nothing : (m : ℕ) → None ≡ Some m → ⊥
  nothing m e = cc

  pub initializers_named : (c m : ℕ) → (class_at (program_with files rows pools) c).info.clinit ≡ Some m → (is_initializing (program_with files rows pools) m ≡ true) × ((method_at (program_with files rows pools) m).descriptor ≡ codes "()V")
  initializers_named c m =
      class_cases files rows pools (λ (x : ClassEntry). x.info.clinit ≡ Some m → IsNamed m) c (λ l e. initializer_named c m e) (λ name le l e. absurd (nothing m e)) (λ e. absurd (nothing m e))

pub linked_operands : (cs : List ClassOf) (rows : List Ancestry) (pools : List Constants) → All IsOfFile cs → (f : ℕ) → f < length (program_with (map loaded_class cs) rows pools).fields → IsSome (operand_kind (field_at (program_with (map loaded_class cs) rows pools) f).descriptor)
linked_operands cs rows pools h f lt = fields_operands (map loaded_class cs) rows pools (files_operands cs h) f lt
