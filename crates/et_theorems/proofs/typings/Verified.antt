-- A linked program of which each method of the files has a typing has one for each method with code.
use Rattle.std.proofs.Common.{◌≡◌, ℕ, ◌+◌, ◌<◌, ◌==◌, ◌&&◌, Bool, true, false, ltb, List, length, map, Option, Some, None, refl, sym, ◌∙◌, subst, arith, Contains}
use Rattle.std.specs.Prelude.{All, codes, not, nat_lt}
use Rattle.std.specs.List.{list_all}
use Rattle.std.specs.Str.{bytes_eq}
use Rattle.std.proofs.lemmas.Bool.{and_parts, eqb-true, true≢false, not-true, lt-ltb, ltb-true, or_from}
use Rattle.std.proofs.lemmas.List.{get_or_default}
use Rattle.std.proofs.lemmas.List.Elements.{All-map}
use Rattle.et_boot.specs.Classes.{thread_run}
use Rattle.et_class.specs.Names.{has}
use Rattle.et_class.specs.declared.flags.TheConstants.{STATIC}
use Rattle.et_code.specs.Bodies.{Body}
use Rattle.et_event.specs.Programs.{is_initializing}
use Rattle.et_hierarchy.proofs.Names.{same_name}
use Rattle.et_hierarchy.specs.Ancestry.{Ancestry}
use Rattle.et_history.proofs.programs.Counts.{StandsIn, places_at}
use Rattle.et_history.proofs.programs.Methods.{all_methods, each_of}
use Rattle.et_history.proofs.programs.Threads.{thread_slots}
use Rattle.et_pool.specs.Entries.{Constants}
use Rattle.et_program.specs.Entries.{Linked, is_static, method_at, no_method}
use Rattle.et_program.specs.Files.{boots}
use Rattle.et_program.specs.Linking.{IsLinked}
use Rattle.et_program.specs.Loaded.{LoadedClass, loaded_class}
use Rattle.et_program.specs.MembersOf.{HasPools, boot_body, boot_methods, file_method, methods_of, numbered}
use Rattle.et_program.specs.ProgramOf.{IsProgramOf, is_of_file, program_with}
use Rattle.et_program.specs.declared.info.MethodInfo.{MethodInfo}
use Rattle.et_flow.specs.Flows.{Typing}
use Rattle.et_verify.specs.Typings.{IsTyping, IsVerified}
use Rattle.et_theorems.specs.typings.Typed.{AreTypings, Typings}
use Rattle.et_theorems.proofs.typings.LinkedFields.{initializers_named, linked_operands}
use Rattle.et_theorems.proofs.typings.RunTyping.{run_typed, run_typing}
use Rattle.et_history.proofs.programs.Bodies.{body_is}

-- THE BUILT-IN METHODS: the one with code is `run` of Thread

abbrev is_run_body : Body → Bool
is_run_body b = (b.max_stack == 1) && ((b.max_locals == 1) && (bytes_eq b.code thread_run.code && (length b.table == 0)))

abbrev is_run : MethodInfo → Option Body → Bool
is_run x None = true
is_run x (Some b) = (x.class == 6) && (is_run_body b && (bytes_eq x.descriptor (codes "()V") && (not (has x.flags STATIC) && not (bytes_eq x.name (codes "<clinit>")))))

all_run : list_all (λ (x : MethodInfo). is_run x x.code) (numbered boot_methods 0 boots) ≡ true
unfolding boots
all_run = refl

record IsRunMethod (x : MethodInfo) (body : Body) : Type 0 where
  class : x.class ≡ 6
  body_is : body ≡ boot_body thread_run
  descriptor : x.descriptor ≡ codes "()V"
  instance : has x.flags STATIC ≡ false
  named : bytes_eq x.name (codes "<clinit>") ≡ false

run_method : (x : MethodInfo) (b : Body) → is_run x (Some b) ≡ true → IsRunMethod x b
run_method x b h =
    let one = and_parts (x.class == 6) (is_run_body b && (bytes_eq x.descriptor (codes "()V") && (not (has x.flags STATIC) && not (bytes_eq x.name (codes "<clinit>"))))) h in
    let two = and_parts (is_run_body b) (bytes_eq x.descriptor (codes "()V") && (not (has x.flags STATIC) && not (bytes_eq x.name (codes "<clinit>")))) one.1 in
    let three = and_parts (bytes_eq x.descriptor (codes "()V")) (not (has x.flags STATIC) && not (bytes_eq x.name (codes "<clinit>"))) two.1 in
    let four = and_parts (not (has x.flags STATIC)) (not (bytes_eq x.name (codes "<clinit>"))) three.1 in
    record {
      class = eqb-true x.class 6 one.0;
      body_is = body_is b two.0;
      descriptor = same_name x.descriptor (codes "()V") three.0;
      instance = not-true (has x.flags STATIC) four.0;
      named = not-true (bytes_eq x.name (codes "<clinit>")) four.1;
    }

-- what is of no file and has code is this one
abbrev RunsBuiltIn : MethodInfo → Type 0
RunsBuiltIn x = (body : Body) → is_of_file x ≡ false → x.code ≡ Some body → IsRunMethod x body

of_file : (n i : ℕ) → not (nat_lt (n + i) n) ≡ false → ⊥
of_file n i h = by (nat_lt (n + i) n) refl h
  where
    by : (b : Bool) → nat_lt (n + i) n ≡ b → not b ≡ false → ⊥
    by true q k = absurd (let lt : n + i < n = ltb-true (n + i) n q in omega (arith, lt))
    by false q k = true≢false k

all_built_in : (files : List LoadedClass) → All RunsBuiltIn (methods_of files)
all_built_in files =
    all_methods RunsBuiltIn files
    (each_of (λ (x : MethodInfo). is_run x x.code) RunsBuiltIn (λ x h body other code. run_method x body (subst (λ (o : Option Body). is_run x o ≡ true) code h)) (numbered boot_methods 0 boots) all_run)
    (λ i c lt e. All-map RunsBuiltIn (file_method c.pool.slots (length boots + i)) c.methods (λ j d l body other code. absurd (of_file (length boots) i other)))

-- THE TYPINGS
module _ (files : List LoadedClass) (rows : List Ancestry) (pools : List Constants) (has_pools : HasPools files pools) (verified : IsVerified (program_with files rows pools)) where
  abbrev p : Linked
  p = program_with files rows pools

  contained : (m : ℕ) → ltb m (length (program_with files rows pools).methods) ≡ true → is_of_file (method_at (program_with files rows pools) m) ≡ true → Contains (program_with files rows pools).file_methods m
  contained m within file =
      let lt : m < length (methods_of files) = ltb-true m (length (methods_of files)) within in
      let s : StandsIn (program_with files rows pools).file_methods _ (0 + m) = places_at is_of_file 0 (methods_of files) m no_method lt file in
      (_, s.within, get_or_default (program_with files rows pools).file_methods _ m 0 s.within ∙ (s.is ∙ (let same : 0 + m ≡ m = omega arith in same)))

  typing_by : (m : ℕ) (within file : Bool) → ltb m (length (program_with files rows pools).methods) ≡ within → is_of_file (method_at (program_with files rows pools) m) ≡ file → Typing
  typing_by m true true q r = (verified m (contained m q r)).typing
  typing_by m true false q r = run_typing
  typing_by m false file q r = run_typing

  typings : Typings
  typings m = typing_by m (ltb m (length (program_with files rows pools).methods)) (is_of_file (method_at (program_with files rows pools) m)) refl refl

  typed_by : (m : ℕ) (body : Body) → m < length (program_with files rows pools).methods → (method_at (program_with files rows pools) m).code ≡ Some body → (within file : Bool) (q : ltb m (length (program_with files rows pools).methods) ≡ within) (r : is_of_file (method_at (program_with files rows pools) m) ≡ file)
      → IsTyping (program_with files rows pools) m body (typing_by m within file q r)
  unfolding typing_by
  typed_by m body lt code true true q r = (verified m (contained m q r)).is body code
  typed_by m body lt code true false q r =
      let x : IsRunMethod (method_at p m) body = all_built_in files m no_method lt body r code in
      subst (λ (b : Body). IsTyping (program_with files rows pools) m b run_typing) (sym x.body_is)
      (run_typed (program_with files rows pools) m x.class (thread_slots files pools has_pools) x.descriptor (or_from (is_static (program_with files rows pools) m) (is_initializing (program_with files rows pools) m) x.instance x.named))
  typed_by m body lt code false file q r = absurd (true≢false (sym (lt-ltb m (length (program_with files rows pools).methods) lt) ∙ q))

  all_typed : (m : ℕ) (body : Body) → m < length (program_with files rows pools).methods → (method_at (program_with files rows pools) m).code ≡ Some body → IsTyping (program_with files rows pools) m body (typings m)
  unfolding typings
  all_typed m body lt code = typed_by m body lt code (ltb m (length (program_with files rows pools).methods)) (is_of_file (method_at (program_with files rows pools) m)) refl refl

pub record HasTypings (p : Linked) : Type 0 where
  pub typings : Typings
  pub are : AreTypings p typings

pub linked_typings : (p : Linked) → IsLinked p → IsVerified p → HasTypings p
linked_typings p linked verified =
    let files : List LoadedClass = map loaded_class linked.classes in
    let is : IsProgramOf files p = linked.program in
    let q : Linked = program_with files is.rows p.pools in
    let checked : IsVerified q = subst IsVerified is.tables verified in
    subst HasTypings (sym is.tables)
    (record {
      typings = typings files is.rows p.pools is.pools checked;
      are = record {
        typing = all_typed files is.rows p.pools is.pools checked;
        fields = linked_operands linked.classes is.rows p.pools linked.of_files;
        initializers = λ c m lt e. initializers_named files is.rows p.pools c m e;
      };
    })
