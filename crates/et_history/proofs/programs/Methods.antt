-- The methods of a program.
use Rattle.std.proofs.Common.{◌≡◌, ℕ, ◌+◌, ◌<◌, ◌≤◌, ◌^◌, Bool, true, false, not, ◌&&◌, ◌||◌, ◌==◌, List, [], ◌∷◌, length, Option, None, Some, IfSome, is_some, Ok, refl, sym, ◌∙◌, ap, subst, arith}
use mathlib.Core.Logic.{⊎_elim}
use Rattle.std.specs.Prelude.{All, IsSome, codes, nat_le, unwrap_or}
use Rattle.std.specs.List.{slice_index_or, list_all}
use Rattle.std.specs.Option.{option_map_or}
use Rattle.std.specs.Str.{bytes_eq}
use Rattle.std.proofs.lemmas.Bool.{and_parts, or_cases, both_ways, not-true, leb-true, eqb-true, false≢true, or_parts}
use Rattle.std.proofs.lemmas.List.Elements.{All-nil, All-cons, All-append, All-map}
use Rattle.et_boot.specs.Classes.{thread_pool, thread_run}
use Rattle.et_pool.specs.Entries.{Item, Constants, slots_of}
use Rattle.et_pool.specs.Looks.{class_name_at}
use Rattle.et_pool.specs.Descriptors.{MethodType, method_type, types_of}
use Rattle.et_code.specs.declared.instr.Instr.{Instr}
use Rattle.et_code.specs.Bodies.{Body}
use Rattle.et_code.specs.Decoding.{instruction_at}
use Rattle.et_code.specs.Starts.{IsStart}
use Rattle.et_class.specs.Codes.{index_of, member_name, names_member, is_member_well, is_class_well}
use Rattle.et_class.specs.Methods.{is_method_flags}
use Rattle.et_class.specs.Names.{has, is_text}
use Rattle.et_class.specs.declared.names.TheConstants.{CLINIT}
use Rattle.et_class.specs.declared.flags.TheConstants.{STATIC, NATIVE, ABSTRACT, FINAL, PRIVATE, SYNCHRONIZED}
use Rattle.et_hierarchy.specs.Ancestry.{Ancestry}
use Rattle.et_hierarchy.proofs.Names.{same_name}
use Rattle.et_program.specs.declared.info.MethodInfo.{MethodInfo}
use Rattle.et_program.specs.Entries.{Linked, no_method, method_at}
use Rattle.et_program.specs.Files.{boots, set_of}
use Rattle.et_program.specs.Loaded.{LoadedClass}
use Rattle.et_program.specs.LinkFaults.{IsLinkable}
use Rattle.et_program.specs.declared.fault.LinkFaultKind.TheVariants.{NoMain}
use Rattle.et_program.specs.MembersOf.{numbered, methods_of, boot_methods, file_methods, file_method, HasPools}
use Rattle.et_program.specs.ProgramOf.{is_main, main_of, program_with, IsProgramOf}
use Rattle.et_link.proofs.TabledLemmas.{length-set}
use Rattle.et_event.specs.declared.rows.CallKind.{CallKind}
use Rattle.et_event.specs.declared.rows.CallRow.TheVariants.{Invoke}
use Rattle.et_event.specs.declared.rows.Row.TheVariants.{Call}
use Rattle.et_event.specs.Calls.{entry_count}
use Rattle.et_event.specs.Sites.{Site, Member, site_member, natural_of, no_constants, pool_of_class}
use Rattle.et_event.specs.Table.{row_of}
use Rattle.et_event.specs.Programs.{HasBuiltInMethods}
use Rattle.et_base.proofs.Positions.{Passes, position_passes}
use Rattle.et_history.proofs.programs.Lists.{all_numbered}
use Rattle.et_history.specs.programs.Rules.{is_clinit_name, KeepsNames, KeepsCode, KeepsMethodRules, KeepsCodeRules}
use Rattle.et_history.proofs.programs.Instructions.{NamesMember, call_opcode, member_index, member_named}
use Rattle.et_history.proofs.programs.Threads.{IsPlain, run_is_plain, few_slots, pool_is, thread_slots}

-- WHAT HOLDS OF EACH METHOD

abbrev takes_none : MethodInfo → Bool
takes_none x = has x.flags STATIC || is_clinit_name x.name

-- an instruction of a class with this pool
pub record IsWellInstruction (slots : List (Option Item)) (i : Instr) : Type 0 where
  pub few : length slots < 2 ^ 16
  pub member : is_member_well slots i ≡ true
  pub class : is_class_well i (class_name_at slots (index_of i.first)) ≡ true

pub record IsWellMethod (pools : List Constants) (x : MethodInfo) : Type 0 where
  pub arguments : (body : Body) (type : MethodType) → x.code ≡ Some body → method_type x.descriptor ≡ Some type → entry_count (takes_none x) type ≤ body.max_locals
  pub static : has x.flags STATIC ≡ true → is_clinit_name x.name ≡ false → x.code ≡ None → has x.flags NATIVE ≡ true
  pub code : (body : Body) (pc : ℕ) (i : Instr × ℕ) → x.code ≡ Some body → IsStart body.code pc → instruction_at body.code pc ≡ Ok i → IsWellInstruction (slice_index_or pools x.class no_constants).slots i.0

-- what holds of those of the built-in classes and of each file holds of all
pub all_methods : (P : MethodInfo → Type 0) (files : List LoadedClass) → All P (numbered boot_methods 0 boots) → ((i : ℕ) (c : LoadedClass) → i < length files → slice_index_or files i c ≡ c → All P (file_methods (length boots + i) c)) → All P (methods_of files)
all_methods P files built_in each = All-append P (numbered boot_methods 0 boots) (numbered file_methods (length boots) files) built_in (all_numbered P file_methods (length boots) files each)

-- THE BUILT-IN ONES: none is static, and one has code

abbrev has_room : MethodInfo → Body → Bool
has_room x b = option_map_or (λ (t : MethodType). nat_le (entry_count (takes_none x) t) b.max_locals) (method_type x.descriptor) true

abbrev is_run : MethodInfo → Option Body → Bool
is_run x None = true
is_run x (Some b) = (x.class == 6) && (bytes_eq b.code thread_run.code && has_room x b)

abbrev is_built_in : MethodInfo → Bool
is_built_in x = not (has x.flags STATIC) && is_run x x.code

all_built_in : list_all is_built_in (numbered boot_methods 0 boots) ≡ true
unfolding boots types_of
all_built_in = refl

pub record IsRun (x : MethodInfo) (b : Body) : Type 0 where
  pub class : x.class ≡ 6
  pub code : b.code ≡ thread_run.code
  pub room : has_room x b ≡ true

pub record IsBuiltIn (x : MethodInfo) : Type 0 where
  pub plain : has x.flags STATIC ≡ false
  pub run : (b : Body) → x.code ≡ Some b → IsRun x b

built_in_by : (x : MethodInfo) → is_built_in x ≡ true → IsBuiltIn x
built_in_by x h =
    let parts = and_parts (not (has x.flags STATIC)) (is_run x x.code) h in
    record { plain = not-true (has x.flags STATIC) parts.0; run = λ b e. by b (subst (λ (o : Option Body). is_run x o ≡ true) e parts.1) }
  where
    by : (b : Body) → is_run x (Some b) ≡ true → IsRun x b
    by b k =
        let two = and_parts (x.class == 6) (bytes_eq b.code thread_run.code && has_room x b) k in
        let three = and_parts (bytes_eq b.code thread_run.code) (has_room x b) two.1 in
        record { class = eqb-true x.class 6 two.0; code = same_name b.code thread_run.code three.0; room = three.1 }

pub each_of : (t : MethodInfo → Bool) (Q : MethodInfo → Type 0) → ((x : MethodInfo) → t x ≡ true → Q x) → (xs : List MethodInfo) → list_all t xs ≡ true → All Q xs
each_of t Q says [] h = All-nil Q
each_of t Q says (x ∷ xs) h =
    let parts = and_parts (t x) (list_all t xs) h in
    All-cons Q x xs (says x parts.0) (each_of t Q says xs parts.1)

pub built_in_methods : All IsBuiltIn (numbered boot_methods 0 boots)
built_in_methods = each_of is_built_in IsBuiltIn built_in_by (numbered boot_methods 0 boots) all_built_in

run_well : (files : List LoadedClass) (pools : List Constants) → HasPools files pools → (x : MethodInfo) → IsBuiltIn x → IsWellMethod pools x
run_well files pools has_pools x h = record {
  arguments = λ body type e t.
      leb-true (entry_count (takes_none x) type) body.max_locals
      (subst (λ (o : Option MethodType). option_map_or (λ (t : MethodType). nat_le (entry_count (takes_none x) t) body.max_locals) o true ≡ true) t (h.run body e).room);
  static = λ s n e. absurd (both_ways (has x.flags STATIC) h.plain s);
  code = λ body pc i e start at.
      let r : IsRun x body = h.run body e in
      let w : IsPlain i.0 = run_is_plain pc i (subst (λ (c : List ℕ). IsStart c pc) r.code start) (sym (ap (λ (c : List ℕ). instruction_at c pc) r.code) ∙ at) in
      let slots : (slice_index_or pools x.class no_constants).slots ≡ slots_of thread_pool = ap (λ (k : ℕ). (slice_index_or pools k no_constants).slots) r.class ∙ thread_slots files pools has_pools in
      subst (λ (s : List (Option Item)). IsWellInstruction s i.0) (sym slots) (record { few = few_slots; member = w.member; class = w.class });
}

-- THOSE OF FILES

-- what has the flags of a method isn't abstract and static
abbrev abstract_flags : ℕ → Bool
abstract_flags flags = has flags FINAL || has flags NATIVE || has flags PRIVATE || has flags STATIC || has flags SYNCHRONIZED

not_both : (flags : ℕ) → is_method_flags flags ≡ true → has flags STATIC ≡ true → has flags ABSTRACT ≡ false
not_both flags h s =
    ⊎_elim
    (λ n. not-true (has flags ABSTRACT) n)
    (λ n.
    let one = or_parts (has flags FINAL || has flags NATIVE || has flags PRIVATE || has flags STATIC) (has flags SYNCHRONIZED) (not-true (abstract_flags flags) n) in
    let two = or_parts (has flags FINAL || has flags NATIVE || has flags PRIVATE) (has flags STATIC) one.0 in
    absurd (both_ways (has flags STATIC) two.1 s))
    (or_cases (not (has flags ABSTRACT)) (not (abstract_flags flags)) (and_parts _ (not (has flags ABSTRACT) || not (abstract_flags flags)) h).1)

native_by : (native abstract : Bool) (code : Option Body) → is_some code ≡ not (native || abstract) → code ≡ None → abstract ≡ false → native ≡ true
native_by true abstract code h e a = refl
native_by false abstract code h e a =
    let some : is_some code ≡ true = h ∙ ap not a in
    absurd (false≢true (sym (ap (λ (o : Option Body). is_some o) e) ∙ some))

file_well : (files : List LoadedClass) (pools : List Constants) → HasPools files pools → (i : ℕ) (c : LoadedClass) → i < length files → slice_index_or files i c ≡ c → KeepsMethodRules c → KeepsCodeRules c → All (IsWellMethod pools) (file_methods (length boots + i) c)
file_well files pools has_pools i c lt e rules codes =
    All-map (IsWellMethod pools) (file_method c.pool.slots (length boots + i)) c.methods
    (λ j d l. record {
      arguments = λ body type f t. rules.room j d l body type f t;
      static = λ s n f. native_by _ _ _ (rules.codes j d l n) f (not_both _ (rules.flags j d l n) s);
      code = λ body pc x f start at.
          let k : KeepsCode c.pool.slots body = codes.methods j d l body f in
          let w : KeepsNames c.pool.slots x.0 = k.names pc x start at in
          subst (λ (q : Constants). IsWellInstruction q.slots x.0) (sym (pool_is files pools has_pools i c lt e)) (record { few = codes.few; member = w.member; class = w.class });
    })

pub well_methods : (files : List LoadedClass) (pools : List Constants) → HasPools files pools → All KeepsMethodRules files → All KeepsCodeRules files → All (IsWellMethod pools) (methods_of files)
well_methods files pools has_pools rules codes =
    all_methods (IsWellMethod pools) files (λ i d lt. run_well files pools has_pools _ (built_in_methods i d lt))
    (λ i c lt e. file_well files pools has_pools i c lt e (subst KeepsMethodRules e (rules i c lt)) (subst KeepsCodeRules e (codes i c lt)))

-- WHAT IS CALLED

not_clinit : (name : List ℕ) (i : Instr) (slots : List (Option Item)) → is_member_well slots i ≡ true → names_member i.opcode ≡ true → member_name slots (index_of i.first) ≡ Some name → is_clinit_name name ≡ false
not_clinit name i slots h names e =
    ⊎_elim
    (λ n. absurd (both_ways (names_member i.opcode) (not-true (names_member i.opcode) n) names))
    (λ y.
    let parts = and_parts (not (is_text (member_name slots (index_of i.first)) CLINIT.now)) _ y in
    sym (ap (λ (o : Option (List ℕ)). is_text o CLINIT.now) e) ∙ not-true (is_text (member_name slots (index_of i.first)) CLINIT.now) parts.0)
    (or_cases (not (names_member i.opcode)) _ h)

called_name : (slots : List (Option Item)) (at : Site) (kind : CallKind) (named : Member) → IsWellInstruction slots at.instr → at.pool ≡ slots → row_of at.instr.opcode ≡ Some (Call (Invoke kind)) → site_member at ≡ Some named → is_clinit_name named.name ≡ false
called_name slots at kind named w e row is =
    let n : NamesMember at.pool at.instr.first named.name = member_named at named is in
    let v : IsWellInstruction at.pool at.instr = subst (λ (s : List (Option Item)). IsWellInstruction s at.instr) (sym e) w in
    let index : index_of at.instr.first ≡ natural_of at.instr.first = member_index at.pool at.instr.first n.pair v.few n.is in
    not_clinit named.name at.instr at.pool v.member (call_opcode at.instr.opcode kind row) (ap (λ (i : ℕ). member_name at.pool i) index ∙ n.named)

-- MAIN

pub record IsMain (methods : List MethodInfo) (m : ℕ) : Type 0 where
  pub within : m < length methods
  pub test : is_main (slice_index_or methods m no_method) ≡ true

some_main : (methods : List MethodInfo) → (main_of methods ≡ None → ⊥) → IsMain methods (unwrap_or (main_of methods) 0)
some_main methods h = by (main_of methods) refl (position_passes is_main no_method 0 methods)
  where
    by : (o : Option ℕ) → main_of methods ≡ o → IfSome o (Passes is_main no_method 0 methods) → IsMain methods (unwrap_or o 0)
    by None e p = absurd (h e)
    by (Some m) e p =
        let same : p.place ≡ m = omega (arith, p.is) in
        record { within = omega (arith, p.is, p.within); test = subst (λ (i : ℕ). is_main (slice_index_or methods i no_method) ≡ true) same p.passes }

has_main : (files : List LoadedClass) → 0 < length files → IsLinkable files → IsMain (methods_of files) (unwrap_or (main_of (methods_of files)) 0)
has_main files some linkable = some_main (methods_of files) (λ e. let n : length (set_of files) ≡ length boots + length files = length-set files in linkable NoMain (length boots) (omega arith) (refl, e))

some_is : (o : Option Body) → is_some o ≡ true → IsSome o
some_is None e = absurd (false≢true e)
some_is (Some b) e = refl

-- THE LAW

abbrev codes_main : List ℕ
codes_main = codes "main"

abbrev codes_type : List ℕ
codes_type = codes "([Ljava/lang/String;)V"

methods_have : (files : List LoadedClass) (rows : List Ancestry) (pools : List Constants) → 0 < length files → HasPools files pools → All KeepsMethodRules files → All KeepsCodeRules files → IsLinkable files → HasBuiltInMethods (program_with files rows pools)
methods_have files rows pools some has_pools rules codes linkable =
    let p : Linked = program_with files rows pools in
    let all : All (IsWellMethod pools) (methods_of files) = well_methods files pools has_pools rules codes in
    let m : IsMain (methods_of files) p.main = has_main files some linkable in
    let x : MethodInfo = method_at p p.main in
    let one = and_parts (x.class == length boots) (bytes_eq x.name codes_main && (bytes_eq x.descriptor codes_type && (has x.flags STATIC && is_some x.code))) m.test in
    let two = and_parts (bytes_eq x.name codes_main) (bytes_eq x.descriptor codes_type && (has x.flags STATIC && is_some x.code)) one.1 in
    let three = and_parts (bytes_eq x.descriptor codes_type) (has x.flags STATIC && is_some x.code) two.1 in
    let four = and_parts (has x.flags STATIC) (is_some x.code) three.1 in
    record {
      arguments = λ k body type lt e t. (all k no_method lt).arguments body type e t;
      static = λ k lt s n e. (all k no_method lt).static s n e;
      calls = λ k at kind named i e row is. called_name (pool_of_class p (method_at p k).class) at kind named ((all k no_method i.method).code i.body i.pc (at.instr, at.next) i.code i.start i.at) e row is;
      main = m.within;
      main_static = four.0;
      main_name = same_name x.name codes_main two.0;
      main_type = same_name x.descriptor codes_type three.0;
      main_code = some_is x.code four.1;
    }

pub has_methods : (files : List LoadedClass) (p : Linked) → 0 < length files → All KeepsMethodRules files → All KeepsCodeRules files → IsLinkable files → IsProgramOf files p → HasBuiltInMethods p
has_methods files p some rules codes linkable is = subst HasBuiltInMethods (sym is.tables) (methods_have files is.rows p.pools some is.pools rules codes linkable)
