-- What the rules on the methods of class files say.
use Rattle.std.proofs.Common.{◌≡◌, ℕ, ◌+◌, ◌≤◌, Bool, true, false, not, ◌||◌, ◌==◌, cond, List, [], ◌∷◌, map, Option, None, Some, is_some, Result, Ok, Err, refl, sym, ◌∙◌, ap, subst, inl, inr}
use mathlib.Core.Logic.{⊎_elim}
use Rattle.std.specs.Prelude.{All, sum_by, nat_le, option_map, option_and_then, if◌then◌else◌}
use Rattle.std.specs.List.{list_any, find, flat_map}
use Rattle.std.proofs.lemmas.Bool.{and_parts, or_cases, both_ways, eqb-true, leb-true, false≢true}
use Rattle.std.proofs.lemmas.List.Elements.{All-head, All-tail, All-map}
use Rattle.et_base.specs.Marks.{Mark, Breaks, MarksAre, mark}
use Rattle.et_base.specs.Numbers.{AreBytes}
use Rattle.et_pool.specs.Entries.{Item}
use Rattle.et_pool.specs.Looks.{utf8_at, tag_of_slot}
use Rattle.et_pool.specs.Descriptors.{MethodType, method_type, shape_of_method, width_of}
use Rattle.et_pool.specs.declared.descriptor.MethodShape.{MethodShape}
use Rattle.et_code.specs.declared.instr.Instr.{Instr}
use Rattle.et_code.specs.declared.instr.CodeFault.{CodeFault}
use Rattle.et_code.specs.Bodies.{Body}
use Rattle.et_code.specs.Rules.{code_marks}
use Rattle.et_code.specs.Starts.{IsStart, starts}
use Rattle.et_code.proofs.Starting.{starts_are_all}
use Rattle.et_class.specs.declared.fault.TheConstants.{ATTRIBUTE}
use Rattle.et_class.specs.declared.flags.TheConstants.{STATIC, NATIVE, ABSTRACT}
use Rattle.et_class.specs.declared.names.TheConstants.{CLINIT}
use Rattle.et_class.specs.Names.{has, is_text}
use Rattle.et_class.specs.Layout.{ClassOf, MemberOf, AttributeOf, member_bytes, attribute_bytes}
use Rattle.et_class.specs.Along.{along}
use Rattle.et_class.specs.Fields.{attribute_marks}
use Rattle.et_class.specs.Codes.{CodeOf, code_at, named_marks, decoding_marks, mark_moved, body_marks}
use Rattle.et_class.specs.Methods as methods
use Rattle.et_class.specs.Methods.{is_method_flags, is_init, shape_at, receiver_words, is_shape_well, arguments_fit_locals, is_code, code_attribute_marks, code_marks_if, method_attribute_marks_if, method_attribute_marks, is_code_well, method_marks, body_in, code_of}
use Rattle.et_class.specs.Classes.{IsClassFile}
use Rattle.et_class.proofs.Found.{found_some}
use Rattle.et_class.proofs.Respelled.{class_spelled}
use Rattle.et_event.specs.Calls.{entry_count}
use Rattle.et_program.specs.Files.{or_empty}
use Rattle.et_program.specs.Loaded.{LoadedMember, loaded_class, loaded_method}
use Rattle.et_program.specs.MembersOf.{pool_text}
use Rattle.et_history.proofs.programs.Marks.{AreWell, along_each, methods_place, well_before, well_behind, well_first, well_members, well_rest}
use Rattle.et_history.specs.programs.Rules.{is_clinit_name, KeepsNames, KeepsCode, KeepsMethodRules, KeepsCodeRules}

-- A METHOD

-- the rules on its code
pub record IsWellCode (slots : List (Option Item)) (m : MemberOf) (a : AttributeOf) : Type 0 where
  pub code : CodeOf
  pub is : code_at a.body ≡ Ok code
  pub locals : arguments_fit_locals (receiver_words slots m) code.body.max_locals (shape_at slots m) ≡ true
  pub place : ℕ
  pub rules : AreWell (body_marks slots place code.body)

-- .. and those on all of it
pub record IsWellMethod (slots : List (Option Item)) (m : MemberOf) : Type 0 where
  pub flags : (methods.is_clinit slots m || is_method_flags m.flags) ≡ true
  pub code : is_code_well slots m ≡ true
  pub shape : is_shape_well (receiver_words slots m) (is_init slots m) (shape_at slots m) ≡ true
  pub attributes : All (λ (a : AttributeOf). is_code slots a ≡ true → IsWellCode slots m a) m.attributes

well_if : (b : Bool) (ms : List Mark) → AreWell (cond b ms []) → b ≡ true → AreWell ms
well_if true ms h e = h
well_if false ms h e = absurd (false≢true e)

well_unless : (b : Bool) (place kind : ℕ) (ms : List Mark) → AreWell (cond b (mark place kind false ∷ []) ms) → AreWell ms
well_unless true place kind ms h = absurd (false≢true (well_first _ [] h))
well_unless false place kind ms h = h

well_items : (slots : List (Option Item)) (m : MemberOf) (place : ℕ) (a : AttributeOf) (r : Result CodeOf (ℕ × ℕ)) → code_at a.body ≡ r → AreWell (code_attribute_marks slots (receiver_words slots m) (shape_at slots m) place r) → IsWellCode slots m a
well_items slots m place a (Err f) e h = absurd (false≢true (well_first _ [] h))
well_items slots m place a (Ok c) e h =
    let behind = well_behind (along attribute_bytes (attribute_marks slots) [] (place + 6 + c.first) c.attributes) _ h in
    record { code = c; is = e; locals = well_first _ _ behind; place = place + 10; rules = well_rest _ _ behind }

well_code : (slots : List (Option Item)) (m : MemberOf) (seen : Bool) (place : ℕ) (a : AttributeOf) → AreWell (method_attribute_marks_if slots m seen place a) → is_code slots a ≡ true → IsWellCode slots m a
well_code slots m seen place a h e =
    well_items slots m place a (code_at a.body) refl
    (well_unless seen place ATTRIBUTE (code_attribute_marks slots (receiver_words slots m) (shape_at slots m) place (code_at a.body)) (well_if (is_code slots a) (code_marks_if slots m seen place a) (well_rest _ _ h) e))

well_method : (slots : List (Option Item)) (before : List MemberOf) (place : ℕ) (m : MemberOf) → AreWell (method_marks slots before place m) → IsWellMethod slots m
well_method slots before place m h =
    let rest = well_rest _ _ (well_rest _ _ h) in
    record {
      flags = well_first _ _ h;
      code = well_first _ _ rest;
      shape = well_first _ _ (well_rest _ _ rest);
      attributes =
          along_each (λ (a : AttributeOf). is_code slots a ≡ true → IsWellCode slots m a) attribute_bytes (method_attribute_marks slots m)
          (λ earlier at a w. well_code slots m (list_any (is_code slots) earlier) at a w) [] (place + 8) m.attributes
          (well_rest _ _ (well_rest _ _ (well_rest _ _ rest)));
    }

pub well_methods : (bytes : List ℕ) (c : ClassOf) → IsClassFile bytes c → All (IsWellMethod c.slots) c.methods
well_methods bytes c is = along_each (IsWellMethod c.slots) member_bytes (method_marks c.slots) (λ before at m w. well_method c.slots before at m w) [] (methods_place c) c.methods (well_members bytes c is).methods

-- ITS CODE

pub found : {X : Type 0} (t : X → Bool) (Q : X → Type 0) (xs : List X) → All (λ x. t x ≡ true → Q x) xs → (a : X) → find t xs ≡ Some a → Q a
found t Q [] h a e = absurd (none e)
  where
    none : None ≡ Some a → ⊥
    none q = cc
found {X} t Q (x ∷ xs) h a e = by (t x) refl (found t Q xs (All-tail (λ z. t z ≡ true → Q z) x xs h) a) e
  where
    same : Some x ≡ Some a → x ≡ a
    same q = cc

    by : (b : Bool) → t x ≡ b → (find t xs ≡ Some a → Q a) → cond b (Some x) (find t xs) ≡ Some a → Q a
    by true y rest q = subst Q (same q) (All-head (λ z. t z ≡ true → Q z) x xs h y)
    by false n rest q = rest q

-- the code of a method keeps the rules
pub record IsWellBody (slots : List (Option Item)) (m : MemberOf) (b : Body) : Type 0 where
  pub locals : arguments_fit_locals (receiver_words slots m) b.max_locals (shape_at slots m) ≡ true
  pub place : ℕ
  pub rules : AreWell (body_marks slots place b)

-- what a method has as its code, by its first Code attribute
record HasCodeBy (slots : List (Option Item)) (m : MemberOf) : Type 0 where
  there : is_some (code_of slots m) ≡ list_any (is_code slots) m.attributes
  well : (b : Body) → code_of slots m ≡ Some b → IsWellBody slots m b

code_by : (slots : List (Option Item)) (m : MemberOf) → IsWellMethod slots m → HasCodeBy slots m
code_by slots m w = by (find (is_code slots) m.attributes) refl
  where
    nothing : (b : Body) → None ≡ Some b → ⊥
    nothing b e = cc

    same : (a b : Body) → Some a ≡ Some b → a ≡ b
    same a b e = cc

    by : (o : Option AttributeOf) → find (is_code slots) m.attributes ≡ o → HasCodeBy slots m
    by None e =
        let none : code_of slots m ≡ None = ap (λ (o : Option AttributeOf). option_and_then (λ a. body_in (code_at a.body)) o) e in
        record {
          there = ap (λ (o : Option Body). is_some o) none ∙ sym (found_some (is_code slots) m.attributes ∙ ap (λ (o : Option AttributeOf). is_some o) e);
          well = λ b h. absurd (nothing b (sym none ∙ h));
        }
    by (Some a) e =
        let x : IsWellCode slots m a = found (is_code slots) (IsWellCode slots m) m.attributes w.attributes a e in
        let some : code_of slots m ≡ Some x.code.body = ap (λ (o : Option AttributeOf). option_and_then (λ a. body_in (code_at a.body)) o) e ∙ ap body_in x.is in
        record {
          there = ap (λ (o : Option Body). is_some o) some ∙ sym (found_some (is_code slots) m.attributes ∙ ap (λ (o : Option AttributeOf). is_some o) e);
          well = λ b h. subst (IsWellBody slots m) (same x.code.body b (sym some ∙ h)) (record { locals = x.locals; place = x.place; rules = x.rules });
        }

-- ITS NAME AND ITS TYPE

name_same : (o : Option (List ℕ)) → is_text o CLINIT.now ≡ is_clinit_name (or_empty o)
name_same None = refl
name_same (Some bytes) = refl

clinit_same : (slots : List (Option Item)) (m : MemberOf) → methods.is_clinit slots m ≡ is_clinit_name (pool_text slots m.name)
clinit_same slots m = name_same (utf8_at slots m.name)

abbrev takes_none : List (Option Item) → MemberOf → Bool
takes_none slots m = has m.flags STATIC || is_clinit_name (pool_text slots m.name)

receiver_is : (slots : List (Option Item)) (m : MemberOf) → receiver_words slots m ≡ (if takes_none slots m then 0 else 1)
receiver_is slots m = ap (λ (b : Bool). if has m.flags STATIC || b then 0 else 1) (clinit_same slots m)

abbrev shape_by : Option (List ℕ) → Option MethodShape
shape_by o = option_and_then (λ d. option_map shape_of_method (method_type d)) o

-- a method type has the entries of its shape
typed_by : (receiver : ℕ) (init : Bool) (o : Option (List ℕ)) → is_shape_well receiver init (shape_by o) ≡ true → (type : MethodType) × (method_type (or_empty o) ≡ Some type) × (sum_by width_of type.parameters + receiver ≤ 255)
typed_by receiver init None h = absurd (false≢true h)
typed_by receiver init (Some d) h = by (method_type d) refl h
  where
    by : (t : Option MethodType) → method_type d ≡ t → is_shape_well receiver init (option_map shape_of_method t) ≡ true → (type : MethodType) × (method_type d ≡ Some type) × (sum_by width_of type.parameters + receiver ≤ 255)
    by None e k = absurd (false≢true k)
    by (Some type) e k = (type, e, leb-true (sum_by width_of type.parameters + receiver) 255 (and_parts (nat_le (sum_by width_of type.parameters + receiver) 255) _ k).0)

room_by : (receiver locals : ℕ) (o : Option (List ℕ)) (type : MethodType) → arguments_fit_locals receiver locals (shape_by o) ≡ true → method_type (or_empty o) ≡ Some type → sum_by width_of type.parameters + receiver ≤ locals
room_by receiver locals None type h e = absurd (nothing e)
  where
    nothing : None ≡ Some type → ⊥
    nothing q = cc
room_by receiver locals (Some d) type h e =
    leb-true (sum_by width_of type.parameters + receiver) locals (subst (λ (t : Option MethodType). arguments_fit_locals receiver locals (option_map shape_of_method t) ≡ true) e h)

code_where : (a b some : Bool) → cond a (not some) some ≡ true → some ≡ not a
code_where true b true h = absurd (false≢true h)
code_where true b false h = refl
code_where false b some h = h

-- THE RULES ON METHODS

pub keeps_method_rules : (bytes : List ℕ) (c : ClassOf) → IsClassFile bytes c → KeepsMethodRules (loaded_class c)
keeps_method_rules bytes c is =
    let all : All (IsWellMethod c.slots) c.methods = well_methods bytes c is in
    record {
      flags = All-map (λ (m : LoadedMember). is_clinit_name (pool_text c.slots m.name) ≡ false → is_method_flags m.flags ≡ true) (loaded_method c.slots) c.methods (λ i d lt. flags_of _ (all i d lt));
      codes = All-map (λ (m : LoadedMember). is_clinit_name (pool_text c.slots m.name) ≡ false → is_some m.code ≡ not (has m.flags NATIVE || has m.flags ABSTRACT)) (loaded_method c.slots) c.methods (λ i d lt. codes_of _ (all i d lt));
      types = All-map (λ (m : LoadedMember). (type : MethodType) × (method_type (pool_text c.slots m.descriptor) ≡ Some type) × (entry_count (has m.flags STATIC || is_clinit_name (pool_text c.slots m.name)) type ≤ 255)) (loaded_method c.slots) c.methods (λ i d lt. type_of _ (all i d lt));
      room = All-map (λ (m : LoadedMember). (body : Body) (type : MethodType) → m.code ≡ Some body → method_type (pool_text c.slots m.descriptor) ≡ Some type → entry_count (has m.flags STATIC || is_clinit_name (pool_text c.slots m.name)) type ≤ body.max_locals) (loaded_method c.slots) c.methods (λ i d lt. room_of _ (all i d lt));
    }
  where
    other : (m : MemberOf) → is_clinit_name (pool_text c.slots m.name) ≡ false → methods.is_clinit c.slots m ≡ false
    other m n = clinit_same c.slots m ∙ n

    flags_of : (m : MemberOf) → IsWellMethod c.slots m → is_clinit_name (pool_text c.slots m.name) ≡ false → is_method_flags m.flags ≡ true
    flags_of m w n = ⊎_elim (λ y. absurd (both_ways (methods.is_clinit c.slots m) (other m n) y)) (λ y. y) (or_cases (methods.is_clinit c.slots m) (is_method_flags m.flags) w.flags)

    codes_of : (m : MemberOf) → IsWellMethod c.slots m → is_clinit_name (pool_text c.slots m.name) ≡ false → is_some (code_of c.slots m) ≡ not (has m.flags NATIVE || has m.flags ABSTRACT)
    codes_of m w n =
        let some : Bool = list_any (is_code c.slots) m.attributes in
        let none : Bool = has m.flags NATIVE || has m.flags ABSTRACT in
        (code_by c.slots m w).there
        ∙ ⊎_elim (λ y. absurd (both_ways (methods.is_clinit c.slots m) (other m n) y)) (λ y. code_where none none some y) (or_cases (methods.is_clinit c.slots m) (cond none (not some) some) w.code)

    counted_by : (m : MemberOf) (type : MethodType) (n : ℕ) → sum_by width_of type.parameters + receiver_words c.slots m ≤ n → entry_count (takes_none c.slots m) type ≤ n
    counted_by m type n h = subst (λ (k : ℕ). sum_by width_of type.parameters + k ≤ n) (receiver_is c.slots m) h

    type_of : (m : MemberOf) → IsWellMethod c.slots m → (type : MethodType) × (method_type (pool_text c.slots m.descriptor) ≡ Some type) × (entry_count (takes_none c.slots m) type ≤ 255)
    type_of m w =
        let t = typed_by (receiver_words c.slots m) (is_init c.slots m) (utf8_at c.slots m.descriptor) w.shape in
        (t.0, t.1, counted_by m t.0 255 t.2)

    room_of : (m : MemberOf) → IsWellMethod c.slots m → (body : Body) (type : MethodType) → code_of c.slots m ≡ Some body → method_type (pool_text c.slots m.descriptor) ≡ Some type → entry_count (takes_none c.slots m) type ≤ body.max_locals
    room_of m w body type e t =
        counted_by m type body.max_locals (room_by (receiver_words c.slots m) body.max_locals (utf8_at c.slots m.descriptor) type ((code_by c.slots m w).well body e).locals t)

-- THE RULES ON CODE

-- those on each place of a list
each_well : (f : ℕ → List Mark) (pcs : List ℕ) (pc : ℕ) → list_any (λ s. s == pc) pcs ≡ true → AreWell (flat_map f pcs) → AreWell (f pc)
each_well f [] pc e h = absurd (false≢true e)
each_well f (p ∷ pcs) pc e h =
    ⊎_elim
    (λ s. subst (λ (q : ℕ). AreWell (f q)) (eqb-true p pc s) (well_before (f p) (flat_map f pcs) h))
    (λ r. each_well f pcs pc r (well_behind (f p) (flat_map f pcs) h))
    (or_cases (p == pc) (list_any (λ s. s == pc) pcs) e)

moved_breaks : (place : ℕ) (ms : List Mark) (p k : ℕ) → Breaks ms p k → Breaks (map (mark_moved place) ms) (place + p) k
moved_breaks place [] p k h = absurd h
moved_breaks place (m ∷ ms) p k h = ⊎_elim (λ here. inl (here.0, ap (λ (n : ℕ). place + n) here.1, here.2)) (λ later. inr (moved_breaks place ms p k later)) h

unmoved : (place : ℕ) (ms : List Mark) → AreWell (map (mark_moved place) ms) → MarksAre ms None
unmoved place ms h p k b = h.none (place + p) k (moved_breaks place ms p k b)

keeps_code : (slots : List (Option Item)) (m : MemberOf) (b : Body) → IsWellBody slots m b → KeepsCode slots b
keeps_code slots m b w = record {
  rules = unmoved w.place (code_marks b (map tag_of_slot slots)) (well_behind (flat_map (named_marks slots (w.place + 4) b.code) (starts b.code)) _ w.rules);
  names = λ pc x start e. names_of (w.place + 4 + pc) x (subst (λ (r : Result (Instr × ℕ) CodeFault). AreWell (decoding_marks slots (w.place + 4 + pc) r)) e (here pc start));
}
  where
    here : (pc : ℕ) → IsStart b.code pc → AreWell (named_marks slots (w.place + 4) b.code pc)
    here pc start =
        each_well (named_marks slots (w.place + 4) b.code) (starts b.code) pc ((starts_are_all b.code pc).1 start)
        (well_before (flat_map (named_marks slots (w.place + 4) b.code) (starts b.code)) (map (mark_moved w.place) (code_marks b (map tag_of_slot slots))) w.rules)

    names_of : (place : ℕ) (x : Instr × ℕ) → AreWell (decoding_marks slots place (Ok x)) → KeepsNames slots x.0
    names_of place x h = record { member = well_first _ _ h; class = well_first _ _ (well_rest _ _ h) }

pub keeps_code_rules : (bytes : List ℕ) (c : ClassOf) → AreBytes bytes → IsClassFile bytes c → KeepsCodeRules (loaded_class c)
keeps_code_rules bytes c are is = record {
  few = (class_spelled bytes c are is.read).can_be.slots.few;
  methods = All-map (λ (m : LoadedMember). (body : Body) → m.code ≡ Some body → KeepsCode c.slots body) (loaded_method c.slots) c.methods
      (λ i d lt body e. keeps_code c.slots _ body ((code_by c.slots _ (well_methods bytes c is i d lt)).well body e));
}
