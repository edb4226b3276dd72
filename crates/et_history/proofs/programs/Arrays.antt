-- The classes of the arrays that instructions make.
use Rattle.std.proofs.Common.{◌≡◌, ℕ, zero, suc, ◌+◌, ◌-◌, ◌<◌, ◌≤◌, ◌^◌, Bool, true, false, cond, not, ◌&&◌, ◌||◌, ◌==◌, ℤ, List, [], ◌∷◌, ◌++◌, length, take, drop, map, Option, None, Some, IfSome, is_some, option_map, Result, Ok, Err, refl, sym, ◌∙◌, ap, subst, inl, inr, arith, Contains}
use Rattle.std.specs.Prelude.{All, IsSome, codes, unwrap_or, pos, negsuc, int_le, if◌then◌else◌}
use Rattle.std.specs.List.{prefix_len, slice_index_or, list_any, list_all, flat_map, position_from}
use Rattle.std.specs.Option.{ok_or, option_to_list}
use Rattle.std.specs.Str.{bytes_eq}
use Rattle.std.proofs.lemmas.Bool.{and_parts, both_ways, cases_lt, not-true, leb-true, eqb-true, eq-eqb, false≢true, or_parts}
use Rattle.std.proofs.lemmas.List.{length-append}
use Rattle.std.proofs.lemmas.List.Elements.{All-nil, All-cons, All-append, All-map, All-contains, Contains-append_right}
use Rattle.et_base.proofs.Lists.{Contains-none, Contains-here, Contains-there, same_bytes}
use Rattle.et_boot.specs.Classes.{BootClassOf, thread_pool}
use Rattle.et_pool.specs.Entries.{Item, Constants, slots_of}
use Rattle.et_pool.specs.Looks.{class_name_at, tag_of_slot}
use Rattle.et_pool.specs.Descriptors.{is_array, dimensions}
use Rattle.et_code.specs.declared.instr.CodeFault.{CodeFault}
use Rattle.et_code.specs.declared.instr.Instr.{Instr}
use Rattle.et_code.specs.Bodies.{Body}
use Rattle.et_code.specs.Decoding.{instruction_at}
use Rattle.et_code.specs.Kept.{HasInstruction, IsKeptCode}
use Rattle.et_code.specs.Rules.{is_array_kind}
use Rattle.et_code.specs.Starts.{IsStart, is_start}
use Rattle.et_code.proofs.Keeping.{kept_code}
use Rattle.et_code.proofs.Starting.{starts_are_all, in_code}
use Rattle.et_class.specs.Codes.{index_of, is_class_well}
use Rattle.et_class.specs.Names.{is_plain_name}
use Rattle.et_hierarchy.specs.Outline.{Outline, outline_at, no_outline, class_place}
use Rattle.et_hierarchy.specs.Ancestry.{Ancestry}
use Rattle.et_hierarchy.proofs.Names.{same_name, missing}
use Rattle.et_program.specs.declared.info.MethodInfo.{MethodInfo}
use Rattle.et_program.specs.declared.info.Element.{Element}
use Rattle.et_program.specs.declared.info.Element.TheVariants.{Base, Class}
use Rattle.et_program.specs.declared.kind.Leaf.{Leaf}
use Rattle.et_program.specs.declared.kind.Leaf.TheVariants as leaf
use Rattle.et_program.specs.Entries.{ClassEntry, Linked, no_class, no_method, class_at, method_at}
use Rattle.et_program.specs.Members.{class_named, is_base_array, base_array}
use Rattle.et_program.specs.Resolution.{resolve_class}
use Rattle.et_program.specs.declared.errors.LinkError.{LinkError}
use Rattle.et_program.specs.ArrayTypes.{base_letter, array_over, made_by, made_if, made_in, made_in_method, named_arrays, file_arrays, arrays_met, is_type_known, leaf_of, leaf_element, class_element, element_of, array_at}
use Rattle.et_program.specs.Classes.{array_class}
use Rattle.et_program.specs.Files.{boots, set_of, boot_outline, file_outline, or_empty}
use Rattle.et_program.specs.Loaded.{LoadedClass, LoadedMember}
use Rattle.et_program.specs.MembersOf.{methods_of, file_methods, file_method, HasPools}
use Rattle.et_program.specs.ProgramOf.{heads_of, class_names_of, program_with, IsProgramOf}
use Rattle.et_event.specs.declared.rows.HeapRow.TheVariants.{NewArray, NewReferenceArray, NewMultiArray}
use Rattle.et_event.specs.declared.rows.Row.TheVariants.{Heap}
use Rattle.et_event.specs.Kinds as kinds
use Rattle.et_event.specs.Sites.{natural_of, no_constants, pool_of_class}
use Rattle.et_event.specs.Table.{row_of}
use Rattle.et_event.specs.Programs.{IsArrayClass, IsInstruction, NamesClass, HasDimensions, HasArrays}
use Rattle.et_base.proofs.Positions.{Passes, position_passes}
use Rattle.et_history.specs.programs.ClassNames.{HasClassName}
use Rattle.et_history.proofs.programs.Making.{class_in}
use Rattle.et_history.proofs.programs.Places.{one_of}
use Rattle.et_history.proofs.programs.Classes.{length_all, array_in}
use Rattle.et_history.specs.programs.Rules.{KeepsCode, KeepsCodeRules}
use Rattle.et_history.proofs.programs.ArrayNames.{IsArrayName, IsNumbered, all_names, met_is_named, one_more, known_below, number_of, flat_has, numbered_has}
use Rattle.et_history.proofs.programs.Instructions.{base_opcode, single_opcode, multi_opcode, class_index}
use Rattle.et_history.proofs.programs.Methods.{IsBuiltIn, IsRun, built_in_methods, all_methods}
use Rattle.et_history.proofs.programs.Threads.{IsPlain, Each, all_of, run_is_plain, few_slots, pool_is, thread_slots}

-- NO CLASS OF THE SET has the name of an array

abbrev has_plain_name : BootClassOf → Bool
has_plain_name c = not (is_array c.name)

boots_plain : list_all has_plain_name boots ≡ true
unfolding boots
boots_plain = refl

all_plain : (cs : List BootClassOf) → list_all has_plain_name cs ≡ true → All (λ (o : Outline). is_array o.name ≡ false) (map boot_outline cs)
all_plain [] h = All-nil (λ (o : Outline). is_array o.name ≡ false)
all_plain (c ∷ cs) h =
    let parts = and_parts (has_plain_name c) (list_all has_plain_name cs) h in
    All-cons (λ (o : Outline). is_array o.name ≡ false) (boot_outline c) (map boot_outline cs) (not-true (is_array c.name) parts.0) (all_plain cs parts.1)

plain_by : (o : Option (List ℕ)) → is_plain_name o ≡ true → is_array (or_empty o) ≡ false
plain_by None h = absurd (false≢true h)
plain_by (Some name) h = not-true (is_array name) h

pub set_plain : (files : List LoadedClass) → All HasClassName files → All (λ (o : Outline). is_array o.name ≡ false) (set_of files)
set_plain files named =
    let P = λ (o : Outline). is_array o.name ≡ false in
    All-append P (map boot_outline boots) (map file_outline files) (all_plain boots boots_plain) (All-map P file_outline files (λ i d lt. let c : LoadedClass = slice_index_or files i d in plain_by (class_name_at c.pool.slots c.this) (named i d lt)))

-- WHAT IS MET in a method

-- an instruction of a class with this pool, and the arrays that it makes are met
record IsMaker (met : List (List ℕ)) (slots : List (Option Item)) (i : Instr) : Type 0 where
  few : length slots < 2 ^ 16
  kind : is_array_kind i ≡ true
  class : is_class_well i (class_name_at slots (index_of i.first)) ≡ true
  made : (y : List ℕ) → Contains (made_by slots i) y → Contains met y

abbrev AreMakers : List (List ℕ) → List Constants → MethodInfo → Type 0
AreMakers met pools x = (body : Body) (pc : ℕ) (i : Instr × ℕ) → x.code ≡ Some body → IsStart body.code pc → instruction_at body.code pc ≡ Ok i → IsMaker met (slice_index_or pools x.class no_constants).slots i.0

plain_makes : (met : List (List ℕ)) (i : Instr) → IsPlain i → IsMaker met (slots_of thread_pool) i
plain_makes met i w =
    let one = or_parts (i.opcode == 0xbc) ((i.opcode == 0xbd) || (i.opcode == 0xc5)) w.makes in
    let two = or_parts (i.opcode == 0xbd) (i.opcode == 0xc5) one.1 in
    let nothing : made_by (slots_of thread_pool) i ≡ [] = made_none (i.opcode == 0xbc) (i.opcode == 0xbd) _ _ one.0 two.0 in
    record {
      few = few_slots;
      kind = ap (λ (b : Bool). not b || (int_le (pos 4) i.first && int_le i.first (pos 11))) one.0;
      class = w.class;
      made = λ y c. absurd (Contains-none y (subst (λ (ys : List (List ℕ)). Contains ys y) nothing c));
    }
  where
    made_none : (a b : Bool) (xs ys : List (List ℕ)) → a ≡ false → b ≡ false → cond a xs (cond b ys []) ≡ []
    made_none false false xs ys e f = refl
    made_none false true xs ys e f = cc
    made_none true b xs ys e f = cc

run_makes : (files : List LoadedClass) (pools : List Constants) → HasPools files pools → (x : MethodInfo) → IsBuiltIn x → AreMakers (arrays_met files) pools x
run_makes files pools has_pools x h body pc i e start at =
    let r : IsRun x body = h.run body e in
    let w : IsPlain i.0 = run_is_plain pc i (subst (λ (c : List ℕ). IsStart c pc) r.code start) (sym (ap (λ (c : List ℕ). instruction_at c pc) r.code) ∙ at) in
    let slots : (slice_index_or pools x.class no_constants).slots ≡ slots_of thread_pool = ap (λ (k : ℕ). (slice_index_or pools k no_constants).slots) r.class ∙ thread_slots files pools has_pools in
    subst (λ (s : List (Option Item)). IsMaker (arrays_met files) s i.0) (sym slots) (plain_makes (arrays_met files) i.0 w)

made_here : (slots : List (Option Item)) (code : List ℕ) (pc : ℕ) (x : Instr × ℕ) (y : List ℕ) → IsStart code pc → instruction_at code pc ≡ Ok x → Contains (made_by slots x.0) y → Contains (made_in slots code) y
made_here slots code pc x y start e c =
    let test : is_start code pc ≡ true = (starts_are_all code pc).1 start in
    let same : (0 + pc) ≡ pc = omega arith in
    numbered_has (λ pc b. if is_start code pc then made_if slots (instruction_at code pc) else []) 0 code pc 0 y (in_code code pc start)
    (subst (λ (n : ℕ). Contains (if is_start code n then made_if slots (instruction_at code n) else []) y) (sym same)
    (subst (λ (b : Bool). Contains (cond b (made_if slots (instruction_at code pc)) []) y) (sym test)
    (subst (λ (r : Result (Instr × ℕ) CodeFault). Contains (made_if slots r) y) (sym e) c)))

at_contains : {X : Type 0} (xs : List X) (i : ℕ) (d : X) → i < length xs → Contains xs (slice_index_or xs i d)
at_contains [] i d lt = absurd (omega arith)
at_contains (x ∷ xs) zero d lt = Contains-here x xs
at_contains (x ∷ xs) (suc i) d lt = Contains-there x xs _ (at_contains xs i d (omega arith))

-- .. in a method of a file
met_there : (files : List LoadedClass) (c : LoadedClass) (m : LoadedMember) (body : Body) (pc : ℕ) (x : Instr × ℕ) (y : List ℕ) → Contains files c → Contains c.methods m → m.code ≡ Some body → IsStart body.code pc → instruction_at body.code pc ≡ Ok x → Contains (made_by c.pool.slots x.0) y → Contains (arrays_met files) y
met_there files c m body pc x y in_files in_methods e start at made =
    let here : Contains (made_in_method c.pool.slots m.code) y = subst (λ (o : Option Body). Contains (made_in_method c.pool.slots o) y) (sym e) (made_here c.pool.slots body.code pc x y start at made) in
    let there : Contains (file_arrays c) y =
    Contains-append_right (named_arrays c.pool.slots) _ y (flat_has (λ (n : LoadedMember). made_in_method c.pool.slots n.code) c.methods m y in_methods here) in
    Contains-there (codes "[Ljava/lang/String;") (flat_map file_arrays files) y (flat_has file_arrays files c y in_files there)

kind_kept : (b : Body) (tags : List ℕ) (pc : ℕ) (x : Instr × ℕ) → IsKeptCode b tags → IsStart b.code pc → instruction_at b.code pc ≡ Ok x → is_array_kind x.0 ≡ true
kind_kept b tags pc x k start e =
    let h : HasInstruction b tags pc = k.instructions pc start in
    subst (λ (i : Instr). is_array_kind i ≡ true) (ap (λ (z : Instr × ℕ). z.0) (same (h.instruction, h.next) (sym h.decoded ∙ e))) h.keeps.kind
  where
    okay : (z : Instr × ℕ) → Result (Instr × ℕ) CodeFault
    okay z = Ok z

    same : (z : Instr × ℕ) → okay z ≡ okay x → z ≡ x
    same z q = cc

file_makes : (files : List LoadedClass) (pools : List Constants) → HasPools files pools → (i : ℕ) (c : LoadedClass) → i < length files → slice_index_or files i c ≡ c → KeepsCodeRules c → All (AreMakers (arrays_met files) pools) (file_methods (length boots + i) c)
file_makes files pools has_pools i c lt e rules =
    let in_files : Contains files c = subst (λ (z : LoadedClass). Contains files z) e (at_contains files i c lt) in
    All-map (AreMakers (arrays_met files) pools) (file_method c.pool.slots (length boots + i)) c.methods
    (λ j d l body pc x f start at.
    let k : KeepsCode c.pool.slots body = rules.methods j d l body f in
    subst (λ (q : Constants). IsMaker (arrays_met files) q.slots x.0) (sym (pool_is files pools has_pools i c lt e))
    (record {
      few = rules.few;
      kind = kind_kept body (map tag_of_slot c.pool.slots) pc x (kept_code body (map tag_of_slot c.pool.slots) k.rules) start at;
      class = (k.names pc x start at).class;
      made = λ y made. met_there files c (slice_index_or c.methods j d) body pc x y in_files (at_contains c.methods j d l) f start at made;
    }))

makers : (files : List LoadedClass) (pools : List Constants) → HasPools files pools → All KeepsCodeRules files → All (AreMakers (arrays_met files) pools) (methods_of files)
makers files pools has_pools rules =
    all_methods (AreMakers (arrays_met files) pools) files (λ i d lt. run_makes files pools has_pools _ (built_in_methods i d lt))
    (λ i c lt e. file_makes files pools has_pools i c lt e (subst KeepsCodeRules e (rules i c lt)))

-- THE CLASS of an array type

module _ (files : List LoadedClass) (rows : List Ancestry) (pools : List Constants) (named : All HasClassName files) where
  abbrev p : Linked
  p = program_with files rows pools

  abbrev names : List (List ℕ)
  names = class_names_of files

  abbrev place : List ℕ → Option ℕ
  place = class_place (set_of files)

  abbrev set_length : ℕ
  set_length = length (set_of files)

  -- class k is that of the arrays of this name
  record IsClassOf (k : ℕ) (name : List ℕ) : Type 0 where
    within : k < length p.classes
    is : class_at p k ≡ array_class (heads_of files rows) k name
    among : Contains names name

  good : (name : List ℕ) → Contains names name → IsArrayName place names name
  good name c = All-contains (IsArrayName place names) names name (all_names place (arrays_met files)) c

  -- the class of a name
  record HasClass (name : List ℕ) : Type 0 where
    class : ℕ
    numbered : array_at set_length names name ≡ Some class
    of : IsClassOf class name

  class_of_name : (name : List ℕ) → Contains names name → HasClass name
  class_of_name name c =
      let n : IsNumbered set_length names name = number_of set_length names name c in
      let k : ℕ = set_length + n.place in
      let total : length p.classes ≡ set_length + length names = length_all files rows pools in
      let w : n.place < length names = n.within in
      let inside : k < length p.classes = omega arith in
      let back : k - set_length ≡ n.place = omega arith in
      record {
        class = k;
        numbered = n.is;
        of = record {
          within = inside;
          is = array_in files rows pools k (omega arith) inside ∙ (ap (λ (i : ℕ). array_class (heads_of files rows) k (slice_index_or names i [])) back ∙ ap (λ (x : List ℕ). array_class (heads_of files rows) k x) n.named);
          among = c;
        };
      }

  -- its elements

  leaf_by : (o : Option Leaf) → is_some o ≡ true → kinds.is_array_element (leaf_element o) ≡ true
  leaf_by None h = absurd (false≢true h)
  leaf_by (Some (leaf.Base b)) h = refl
  leaf_by (Some (leaf.Class k)) h = refl

  element_is : (k : ℕ) (name : List ℕ) → IsClassOf k name → (class_at p k).info.element ≡ element_of place (array_at set_length names) name
  element_is k name h = ap (λ (x : ClassEntry). x.info.element) h.is

  has_element : (name : List ℕ) → Contains names name → kinds.is_array_element (element_of place (array_at set_length names) name) ≡ true
  has_element name c = by (is_array (drop 1 name)) refl
    where
      by : (b : Bool) → is_array (drop 1 name) ≡ b → kinds.is_array_element (cond b (class_element (array_at set_length names (drop 1 name))) (leaf_element (leaf_of place name))) ≡ true
      by true e = ap (λ (o : Option ℕ). kinds.is_array_element (class_element o)) (class_of_name (drop 1 name) ((good name c).below e)).numbered
      by false e = leaf_by (leaf_of place name) (good name c).known

  array_class_is : (k : ℕ) (name : List ℕ) → IsClassOf k name → IsArrayClass p k
  array_class_is k name h = record { within = h.within; array = ap (λ (e : Element). kinds.is_array_element e) (element_is k name h) ∙ has_element name h.among }

  -- NAMES THAT RESOLVE

  nothing : (k : ℕ) → None ≡ Some k → ⊥
  nothing k e = cc

  abbrev okay : ℕ → Result ℕ LinkError
  okay k = Ok k

  ok_some : (o : Option ℕ) (f : LinkError) (k : ℕ) → ok_or o f ≡ okay k → o ≡ Some k
  ok_some None f k e = absurd (no e)
    where
      no : Err f ≡ okay k → ⊥
      no q = cc
  ok_some (Some j) f k e = ap Some (same e)
    where
      same : okay j ≡ okay k → j ≡ k
      same q = cc

  -- a class that a name resolves to has the name
  record IsFound (name : List ℕ) (k : ℕ) : Type 0 where
    within : k < length p.classes
    name_is : name ≡ (class_at p k).info.name

  some_same : (j k : ℕ) → Some j ≡ Some k → j ≡ k
  some_same j k e = cc

  found : (name : List ℕ) (k : ℕ) → resolve_class p name ≡ Ok k → IsFound name k
  found name k e = by (class_named p name) (ok_some (class_named p name) _ k e) (position_passes (λ (c : ClassEntry). bytes_eq name c.info.name) no_class 0 p.classes)
    where
      by : (o : Option ℕ) → o ≡ Some k → IfSome o (Passes (λ (c : ClassEntry). bytes_eq name c.info.name) no_class 0 p.classes) → IsFound name k
      by None q h = absurd (nothing k q)
      by (Some j) q h =
          let here : j ≡ k = some_same j k q in
          let same : h.place ≡ k = omega (arith, h.is) in
          record {
            within = omega (arith, h.within);
            name_is = same_name name (class_at p k).info.name (subst (λ (i : ℕ). bytes_eq name (class_at p i).info.name ≡ true) same h.passes);
          }

  plain_name : (k : ℕ) → k < set_length → is_array (class_at p k).info.name ≡ false
  plain_name k lt = ap (λ (x : ClassEntry). is_array x.info.name) (class_in files rows pools k lt) ∙ set_plain files named k no_outline lt

  -- behind the set stand the classes of arrays
  found_behind : (k : ℕ) (name : List ℕ) → set_length ≤ k → IsFound name k → IsClassOf k name
  found_behind k name le f =
      let total : length p.classes ≡ set_length + length names = length_all files rows pools in
      let w : k < length p.classes = f.within in
      let is : class_at p k ≡ array_class (heads_of files rows) k (slice_index_or names (k - set_length) []) = array_in files rows pools k le w in
      let same : name ≡ slice_index_or names (k - set_length) [] = f.name_is ∙ ap (λ (x : ClassEntry). x.info.name) is in
      record {
        within = w;
        is = is ∙ ap (λ (x : List ℕ). array_class (heads_of files rows) k x) (sym same);
        among = subst (λ (x : List ℕ). Contains names x) (sym same) (at_contains names (k - set_length) [] (omega arith));
      }

  -- an array type resolves to its class
  resolved_array : (name : List ℕ) (k : ℕ) → is_array name ≡ true → resolve_class p name ≡ Ok k → IsClassOf k name
  resolved_array name k array e =
      let f : IsFound name k = found name k e in
      elim (cases_lt k set_length) [
        | inl lt ↦ absurd (both_ways (is_array name) (ap is_array f.name_is ∙ plain_name k lt) array)
        | inr le ↦ found_behind k name le f
      ]

  -- ARRAYS OF A CLASS

  place_some : (name : List ℕ) (k : ℕ) → k < set_length → name ≡ (class_at p k).info.name → is_some (place name) ≡ true
  place_some name k lt e = by (place name) refl
    where
      by : (o : Option ℕ) → place name ≡ o → is_some o ≡ true
      by (Some j) q = refl
      by None q =
          let other : bytes_eq name (outline_at (set_of files) k).name ≡ false = missing (set_of files) 0 name q k lt in
          let same : name ≡ (outline_at (set_of files) k).name = e ∙ ap (λ (x : ClassEntry). x.info.name) (class_in files rows pools k lt) in
          absurd (both_ways (bytes_eq name (outline_at (set_of files) k).name) other (subst (λ (x : List ℕ). bytes_eq name x ≡ true) same (same_bytes name)))

  take_front : (xs ys : List ℕ) → take (length xs) (xs ++ ys) ≡ xs
  take_front [] ys = refl
  take_front (x ∷ xs) ys = ap (λ (l : List ℕ). x ∷ l) (take_front xs ys)

  is_class_known : (o : Option ℕ) → is_some o ≡ true → is_some (option_map (λ (k : ℕ). leaf.Class k) o) ≡ true
  is_class_known None h = h
  is_class_known (Some k) h = refl

  known_class : (name : List ℕ) → is_some (place name) ≡ true → is_type_known place (91 ∷ 76 ∷ (name ++ 59 ∷ [])) ≡ true
  known_class name h =
      let rest : List ℕ = name ++ 59 ∷ [] in
      let size : length rest ≡ length name + 1 = length-append name (59 ∷ []) in
      let less : length rest - 1 ≡ length name = omega arith in
      let front : take (length rest - 1) rest ≡ name = ap (λ (n : ℕ). take n rest) less ∙ take_front name (59 ∷ []) in
      known_below place 91 (76 ∷ rest) refl
      ∙ is_class_known (place (take (length rest - 1) rest)) (ap (λ (x : List ℕ). is_some (place x)) front ∙ h)

  known_over : (name : List ℕ) (k : ℕ) → resolve_class p name ≡ Ok k → is_type_known place (array_over name) ≡ true
  known_over name k e = by (is_array name) refl
    where
      plain : is_array name ≡ false → is_some (place name) ≡ true
      plain q =
          let f : IsFound name k = found name k e in
          elim (cases_lt k set_length) [
            | inl lt ↦ place_some name k lt f.name_is
            | inr le ↦ absurd (both_ways (is_array name) q (good name (found_behind k name le f).among).array)
          ]

      by : (b : Bool) → is_array name ≡ b → is_type_known place (cond b (91 ∷ name) (91 ∷ 76 ∷ (name ++ 59 ∷ []))) ≡ true
      by true q = known_below place 91 name refl ∙ (good name (resolved_array name k q e).among).known
      by false q = known_class name (plain q)

  over_is_array : (name : List ℕ) → is_array (array_over name) ≡ true
  over_is_array name = by (is_array name)
    where
      by : (b : Bool) → is_array (cond b (91 ∷ name) (91 ∷ 76 ∷ (name ++ 59 ∷ []))) ≡ true
      by true = refl
      by false = refl

  array_is : (name : List ℕ) (k : ℕ) → resolve_class p name ≡ Ok k → (class_at p k).array ≡ array_at set_length names (array_over name)
  array_is name k e =
      let f : IsFound name k = found name k e in
      own f ∙ ap (λ (x : List ℕ). array_at set_length names (array_over x)) (sym f.name_is)
    where
      own : IsFound name k → (class_at p k).array ≡ array_at set_length names (array_over (class_at p k).info.name)
      own f =
          elim (cases_lt k set_length) [
            | inl lt ↦ subst (λ (x : ClassEntry). x.array ≡ array_at set_length names (array_over x.info.name)) (sym (class_in files rows pools k lt)) refl
            | inr le ↦ subst (λ (x : ClassEntry). x.array ≡ array_at set_length names (array_over x.info.name)) (sym (array_in files rows pools k le f.within)) refl
          ]

  single_array : (name : List ℕ) (k : ℕ) → resolve_class p name ≡ Ok k → Contains (arrays_met files) (array_over name) → IsArrayClass p (unwrap_or (class_at p k).array 0)
  single_array name k e met =
      let there : Contains names (array_over name) = met_is_named place (arrays_met files) (array_over name) met (over_is_array name) (known_over name k e) in
      let c : HasClass (array_over name) = class_of_name (array_over name) there in
      subst (λ (o : Option ℕ). IsArrayClass p (unwrap_or o 0)) (sym (array_is name k e ∙ c.numbered)) (array_class_is c.class (array_over name) c.of)

  -- ARRAYS OF ARRAYS

  dimensions_below : (name : List ℕ) (n : ℕ) → suc (suc n) ≤ dimensions name → (is_array (drop 1 name) ≡ true) × (suc n ≤ dimensions (drop 1 name))
  dimensions_below [] n le = absurd (omega arith)
  dimensions_below (a ∷ rest) n le = by (a == 91) refl le
    where
      some : (ys : List ℕ) → suc n ≤ dimensions ys → is_array ys ≡ true
      some [] lt = absurd (omega arith)
      some (b ∷ ys) lt = first (b == 91) lt
        where
          first : (t : Bool) → suc n ≤ length (take (cond t (1 + prefix_len (λ c. c == 91) ys) 0) (b ∷ ys)) → t ≡ true
          first true h = refl
          first false h = absurd (omega arith)

      by : (t : Bool) → (a == 91) ≡ t → suc (suc n) ≤ length (take (cond t (1 + prefix_len (λ c. c == 91) rest) 0) (a ∷ rest)) → (is_array rest ≡ true) × (suc n ≤ dimensions rest)
      by true e h =
          let same : a ≡ 91 = eqb-true a 91 e in
          let more : dimensions (91 ∷ rest) ≡ suc (dimensions rest) = one_more rest in
          let all : suc (suc n) ≤ dimensions (91 ∷ rest) = subst (λ (c : ℕ). suc (suc n) ≤ length (take (1 + prefix_len (λ z. z == 91) rest) (c ∷ rest))) same h in
          let fewer : suc n ≤ dimensions rest = omega arith in
          (some rest fewer, fewer)
      by false e h = absurd (omega arith)

  some_dimension : (name : List ℕ) → 1 ≤ dimensions name → is_array name ≡ true
  some_dimension [] le = absurd (omega arith)
  some_dimension (a ∷ rest) le = by (a == 91) le
    where
      by : (t : Bool) → 1 ≤ length (take (cond t (1 + prefix_len (λ c. c == 91) rest) 0) (a ∷ rest)) → t ≡ true
      by true h = refl
      by false h = absurd (omega arith)

  deep : (n k : ℕ) (name : List ℕ) → IsClassOf k name → n ≤ dimensions name → HasDimensions p n k
  deep zero k name h le = tt
  deep (suc zero) k name h le = array_class_is k name h
  deep (suc (suc n)) k name h le =
      let below = dimensions_below name n le in
      let c : HasClass (drop 1 name) = class_of_name (drop 1 name) ((good name h.among).below below.0) in
      let element : (class_at p k).info.element ≡ Class c.class =
      element_is k name h
      ∙ (ap (λ (b : Bool). cond b (class_element (array_at set_length names (drop 1 name))) (leaf_element (leaf_of place name))) below.0
      ∙ ap (λ (o : Option ℕ). class_element o) c.numbered) in
      (array_class_is k name h, (c.class, element, deep (suc n) c.class (drop 1 name) c.of below.1))

  -- ARRAYS OF A BASE TYPE

  abbrev base_name : ℕ → List ℕ
  base_name k = 91 ∷ base_letter k ∷ []

  record IsBase (k : ℕ) : Type 0 where
    index : index_of (pos k) ≡ k
    known : is_type_known place (base_name k) ≡ true
    element : element_of place (array_at set_length names) (base_name k) ≡ Base k

  bases : Each IsBase (4 ∷ 5 ∷ 6 ∷ 7 ∷ 8 ∷ 9 ∷ 10 ∷ 11 ∷ [])
  bases = (
    record { index = refl; known = refl; element = refl },
    (
      record { index = refl; known = refl; element = refl },
      (
        record { index = refl; known = refl; element = refl },
        (
          record { index = refl; known = refl; element = refl },
          (
            record { index = refl; known = refl; element = refl },
            (
              record { index = refl; known = refl; element = refl },
              (
                record { index = refl; known = refl; element = refl },
                (record { index = refl; known = refl; element = refl }, tt),
              ),
            ),
          ),
        ),
      ),
    ),
  )

  among_eight : (k : ℕ) → 4 ≤ k → k ≤ 11 → list_any (λ j. j == k) (4 ∷ 5 ∷ 6 ∷ 7 ∷ 8 ∷ 9 ∷ 10 ∷ 11 ∷ []) ≡ true
  among_eight k low high =
      elim (cases_lt k 5) [
        | inl lt ↦ is 4 (omega arith) refl
        | inr le ↦ elim (cases_lt k 6) [
          | inl lt ↦ is 5 (omega arith) refl
          | inr le ↦ elim (cases_lt k 7) [
            | inl lt ↦ is 6 (omega arith) refl
            | inr le ↦ elim (cases_lt k 8) [
              | inl lt ↦ is 7 (omega arith) refl
              | inr le ↦ elim (cases_lt k 9) [
                | inl lt ↦ is 8 (omega arith) refl
                | inr le ↦ elim (cases_lt k 10) [
                  | inl lt ↦ is 9 (omega arith) refl
                  | inr le ↦ elim (cases_lt k 11) [
                    | inl lt ↦ is 10 (omega arith) refl
                    | inr le ↦ is 11 (omega arith) refl
                  ]
                ]
              ]
            ]
          ]
        ]
      ]
    where
      is : (n : ℕ) → n ≡ k → list_any (λ j. j == n) (4 ∷ 5 ∷ 6 ∷ 7 ∷ 8 ∷ 9 ∷ 10 ∷ 11 ∷ []) ≡ true → list_any (λ j. j == k) (4 ∷ 5 ∷ 6 ∷ 7 ∷ 8 ∷ 9 ∷ 10 ∷ 11 ∷ []) ≡ true
      is n e h = subst (λ (m : ℕ). list_any (λ j. j == m) (4 ∷ 5 ∷ 6 ∷ 7 ∷ 8 ∷ 9 ∷ 10 ∷ 11 ∷ []) ≡ true) e h

  base_is : (k : ℕ) → 4 ≤ k → k ≤ 11 → IsBase k
  base_is k low high = one_of IsBase k (4 ∷ 5 ∷ 6 ∷ 7 ∷ 8 ∷ 9 ∷ 10 ∷ 11 ∷ []) (among_eight k low high) (all_of IsBase (4 ∷ 5 ∷ 6 ∷ 7 ∷ 8 ∷ 9 ∷ 10 ∷ 11 ∷ []) bases)

  some_passes : {X : Type 0} (t : X → Bool) (i : ℕ) (xs : List X) (k : ℕ) (d : X) → k < length xs → t (slice_index_or xs k d) ≡ true → IsSome (position_from t i xs)
  some_passes t i [] k d lt h = absurd (omega arith)
  some_passes t i (x ∷ xs) zero d lt h = subst (λ (b : Bool). IsSome (cond b (Some i) (position_from t (i + 1) xs))) (sym h) refl
  some_passes t i (x ∷ xs) (suc k) d lt h = by (t x) (some_passes t (i + 1) xs k d (omega arith) h)
    where
      by : (b : Bool) → IsSome (position_from t (i + 1) xs) → IsSome (cond b (Some i) (position_from t (i + 1) xs))
      by true r = refl
      by false r = r

  base_array_is : (k : ℕ) → 4 ≤ k → k ≤ 11 → Contains (arrays_met files) (base_name k) → IsSome (base_array p k)
  base_array_is k low high met =
      let b : IsBase k = base_is k low high in
      let there : Contains names (base_name k) = met_is_named place (arrays_met files) (base_name k) met refl b.known in
      let c : HasClass (base_name k) = class_of_name (base_name k) there in
      let element : (class_at p c.class).info.element ≡ Base k = element_is c.class (base_name k) c.of ∙ b.element in
      some_passes (λ (x : ClassEntry). is_base_array k x.info.element) 0 p.classes c.class no_class c.of.within
      (ap (λ (e : Element). is_base_array k e) element ∙ eq-eqb k k refl)

  -- THE LAW

  module _ (has_pools : HasPools files pools) (rules : All KeepsCodeRules files) where
    maker : (m : ℕ) (x : Instr × ℕ) → IsInstruction p m x → IsMaker (arrays_met files) (pool_of_class p (method_at p m).class) x.0
    maker m x i = makers files pools has_pools rules m no_method i.method i.body i.pc x i.code i.start i.at

    base : (m : ℕ) (x : Instr × ℕ) → IsInstruction p m x → row_of x.0.opcode ≡ Some (Heap NewArray) → IsSome (base_array p (natural_of x.0.first))
    base m x i row =
        let opcode : x.0.opcode ≡ 0xbc = base_opcode x.0.opcode row in
        let k = maker m x i in
        by x.0.first
        (subst (λ (o : ℕ). (not (o == 0xbc) || (int_le (pos 4) x.0.first && int_le x.0.first (pos 11))) ≡ true) opcode k.kind)
        (λ y c. k.made y (subst (λ (o : ℕ). Contains (cond (o == 0xbc) ((91 ∷ base_letter (index_of x.0.first) ∷ []) ∷ []) (cond (o == 0xbd) (option_to_list (option_map array_over (class_name_at (pool_of_class p (method_at p m).class) (index_of x.0.first)))) [])) y) (sym opcode) c))
      where
        by : (n : ℤ) → (int_le (pos 4) n && int_le n (pos 11)) ≡ true → ((y : List ℕ) → Contains ((91 ∷ base_letter (index_of n) ∷ []) ∷ []) y → Contains (arrays_met files) y) → IsSome (base_array p (natural_of n))
        by (negsuc n) h made = absurd (false≢true h)
        by (pos n) h made =
            let parts = and_parts (int_le (pos 4) (pos n)) (int_le (pos n) (pos 11)) h in
            let low : 4 ≤ n = leb-true 4 n parts.0 in
            let high : n ≤ 11 = leb-true n 11 parts.1 in
            base_array_is n low high
            (subst (λ (j : ℕ). Contains (arrays_met files) (91 ∷ base_letter j ∷ [])) (base_is n low high).index (made (91 ∷ base_letter (index_of (pos n)) ∷ []) (Contains-here _ [])))

    single : (m : ℕ) (x : Instr × ℕ) (class : ℕ) → IsInstruction p m x → row_of x.0.opcode ≡ Some (Heap NewReferenceArray) → NamesClass p m x class → IsArrayClass p (unwrap_or (class_at p class).array 0)
    single m x class i row n =
        let opcode : x.0.opcode ≡ 0xbd = single_opcode x.0.opcode row in
        let k = maker m x i in
        let slots : List (Option Item) = pool_of_class p (method_at p m).class in
        let index : index_of x.0.first ≡ natural_of x.0.first = class_index slots x.0.first n.name k.few n.operand in
        let made : made_by slots x.0 ≡ array_over n.name ∷ [] =
        ap (λ (o : ℕ). cond (o == 0xbc) ((91 ∷ base_letter (index_of x.0.first) ∷ []) ∷ []) (cond (o == 0xbd) (option_to_list (option_map array_over (class_name_at slots (index_of x.0.first)))) [])) opcode
        ∙ (ap (λ (j : ℕ). option_to_list (option_map array_over (class_name_at slots j))) index ∙ ap (λ (o : Option (List ℕ)). option_to_list (option_map array_over o)) n.operand) in
        single_array n.name class n.resolves (k.made (array_over n.name) (subst (λ (ys : List (List ℕ)). Contains ys (array_over n.name)) (sym made) (Contains-here (array_over n.name) [])))

    multi : (m : ℕ) (x : Instr × ℕ) (class : ℕ) → IsInstruction p m x → row_of x.0.opcode ≡ Some (Heap NewMultiArray) → NamesClass p m x class → (0 < natural_of x.0.second) × HasDimensions p (natural_of x.0.second) class
    multi m x class i row n =
        let opcode : x.0.opcode ≡ 0xc5 = multi_opcode x.0.opcode row in
        let k = maker m x i in
        let slots : List (Option Item) = pool_of_class p (method_at p m).class in
        let index : index_of x.0.first ≡ natural_of x.0.first = class_index slots x.0.first n.name k.few n.operand in
        let named_so : class_name_at slots (index_of x.0.first) ≡ Some n.name = ap (λ (j : ℕ). class_name_at slots j) index ∙ n.operand in
        let well : is_class_well x.0 (Some n.name) ≡ true = subst (λ (o : Option (List ℕ)). is_class_well x.0 o ≡ true) named_so k.class in
        by x.0.second
        (subst (λ (o : ℕ). cond (o == 0xbb) (not (is_array n.name)) (cond (o == 0xbd) (not (dimensions n.name == 255)) (not (o == 0xc5) || (int_le (pos 1) x.0.second && int_le x.0.second (pos (dimensions n.name))))) ≡ true) opcode well)
      where
        by : (s : ℤ) → (int_le (pos 1) s && int_le s (pos (dimensions n.name))) ≡ true → (0 < natural_of s) × HasDimensions p (natural_of s) class
        by (negsuc s) h = absurd (false≢true h)
        by (pos s) h =
            let parts = and_parts (int_le (pos 1) (pos s)) (int_le (pos s) (pos (dimensions n.name))) h in
            let low : 1 ≤ s = leb-true 1 s parts.0 in
            let high : s ≤ dimensions n.name = leb-true s (dimensions n.name) parts.1 in
            let some : 1 ≤ dimensions n.name = omega arith in
            let first : 0 < s = omega arith in
            (first, deep s class n.name (resolved_array n.name class (some_dimension n.name some) n.resolves) high)

    arrays : HasArrays p
    arrays = record { base = λ m x i row. base m x i row; single = λ m x class i row n. single m x class i row n; multi = λ m x class i row n. multi m x class i row n }

pub has_arrays : (files : List LoadedClass) (p : Linked) → All HasClassName files → All KeepsCodeRules files → IsProgramOf files p → HasArrays p
has_arrays files p named rules is = subst HasArrays (sym is.tables) (arrays files is.rows p.pools named is.pools rules)
