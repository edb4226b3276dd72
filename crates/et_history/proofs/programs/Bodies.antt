-- The code of the methods of a program keeps the rules, and `run` of Thread is called on an object.
use Rattle.std.proofs.Common.{◌≡◌, ℕ, ◌+◌, ◌<◌, Bool, true, false, cond, ◌&&◌, ◌==◌, List, [], ◌∷◌, ◌++◌, length, map, Option, None, Some, Result, Ok, Err, refl, sym, ◌∙◌, ap, subst, arith}
use mathlib.Core.Logic.{⊎_elim}
use Rattle.std.specs.Prelude.{All, codes}
use Rattle.std.specs.List.{slice_index_or, list_all, position_from}
use Rattle.std.specs.Option.{option_or, ok_or}
use Rattle.std.specs.Str.{bytes_eq}
use Rattle.std.proofs.lemmas.Bool.{and_parts, both_ways, eqb-true}
use Rattle.std.proofs.lemmas.List.Elements.{All-map}
use Rattle.et_boot.specs.Classes.{thread_pool, thread_run}
use Rattle.et_base.specs.Marks.{Mark, MarksAre}
use Rattle.et_base.proofs.Lists.{none_long}
use Rattle.et_pool.specs.Entries.{Constants, slots_of}
use Rattle.et_pool.specs.Looks.{tag_of_slot}
use Rattle.et_code.specs.declared.body.TableRow.{TableRow}
use Rattle.et_code.specs.Bodies.{Body}
use Rattle.et_code.specs.Decoding.{instruction_at}
use Rattle.et_code.specs.Forms.{form_of}
use Rattle.et_code.specs.Rules.{KeepsRules, code_marks, rows_marks}
use Rattle.et_code.specs.Starts.{starts_from}
use Rattle.et_class.specs.Names.{has}
use Rattle.et_class.specs.declared.flags.TheConstants.{STATIC}
use Rattle.et_hierarchy.specs.Ancestry.{Ancestry}
use Rattle.et_hierarchy.proofs.Names.{same_name}
use Rattle.et_program.specs.declared.info.MethodInfo.{MethodInfo}
use Rattle.et_program.specs.declared.errors.LinkError.{LinkError}
use Rattle.et_program.specs.declared.errors.LinkError.TheVariants.{NoSuchMethod, IncompatibleClassChange}
use Rattle.et_program.specs.Entries.{Linked, no_method, class_at, method_at, is_static, is_interface}
use Rattle.et_program.specs.Members.{is_method, method_in, first_in, resolved_above}
use Rattle.et_program.specs.Resolution.{resolve_method}
use Rattle.et_program.specs.Files.{boots}
use Rattle.et_program.specs.Loaded.{LoadedClass}
use Rattle.et_program.specs.MembersOf.{numbered, methods_of, boot_body, boot_methods, file_methods, file_method}
use Rattle.et_program.specs.ProgramOf.{program_with}
use Rattle.et_history.proofs.programs.BuiltIn.{boot_place}
use Rattle.et_history.proofs.programs.Making.{named_in}
use Rattle.et_event.specs.Errors.{class_called}
use Rattle.et_history.specs.programs.Rules.{KeepsCodeRules}
use Rattle.et_history.proofs.programs.Methods.{IsBuiltIn, built_in_methods, all_methods, each_of}
use Rattle.et_history.proofs.programs.Threads.{in_front}

-- RULES that all hold

hold_all : (ms : List Mark) → list_all (λ (m : Mark). m.holds) ms ≡ true → MarksAre ms None
hold_all [] h p k b = b
hold_all (m ∷ ms) h p k b =
    let parts = and_parts m.holds (list_all (λ (m : Mark). m.holds) ms) h in
    ⊎_elim (λ here. both_ways m.holds here.0 parts.0) (λ later. hold_all ms parts.1 p k later) b

run_holds : list_all (λ (m : Mark). m.holds) (code_marks (boot_body thread_run) (map tag_of_slot (slots_of thread_pool))) ≡ true
unfolding starts_from instruction_at form_of rows_marks
run_holds = refl

run_keeps : KeepsRules (boot_body thread_run)
run_keeps = record { tags = map tag_of_slot (slots_of thread_pool); kept = hold_all (code_marks (boot_body thread_run) (map tag_of_slot (slots_of thread_pool))) run_holds }

-- THE BUILT-IN METHODS: the one with code has this code

abbrev is_run_body : Body → Bool
is_run_body b = (b.max_stack == 1) && ((b.max_locals == 1) && (bytes_eq b.code thread_run.code && (length b.table == 0)))

abbrev runs : Option Body → Bool
runs None = true
runs (Some b) = is_run_body b

all_run : list_all (λ (x : MethodInfo). runs x.code) (numbered boot_methods 0 boots) ≡ true
unfolding boots
all_run = refl

pub body_is : (b : Body) → is_run_body b ≡ true → b ≡ boot_body thread_run
body_is b h =
    let one = and_parts (b.max_stack == 1) ((b.max_locals == 1) && (bytes_eq b.code thread_run.code && (length b.table == 0))) h in
    let two = and_parts (b.max_locals == 1) (bytes_eq b.code thread_run.code && (length b.table == 0)) one.1 in
    let three = and_parts (bytes_eq b.code thread_run.code) (length b.table == 0) two.1 in
    ap (λ (n : ℕ). record { max_stack = n; max_locals = b.max_locals; code = b.code; table = b.table }) (eqb-true b.max_stack 1 one.0)
    ∙ (ap (λ (n : ℕ). record { max_stack = 1; max_locals = n; code = b.code; table = b.table }) (eqb-true b.max_locals 1 two.0)
    ∙ (ap (λ (c : List ℕ). record { max_stack = 1; max_locals = 1; code = c; table = b.table }) (same_name b.code thread_run.code three.0)
    ∙ ap (λ (t : List TableRow). record { max_stack = 1; max_locals = 1; code = thread_run.code; table = t }) (none_long b.table (eqb-true (length b.table) 0 three.1))))

abbrev HasRules : MethodInfo → Type 0
HasRules x = (body : Body) → x.code ≡ Some body → KeepsRules body

run_rules : (x : MethodInfo) → runs x.code ≡ true → HasRules x
run_rules x h body e = subst KeepsRules (sym (body_is body (subst (λ (o : Option Body). runs o ≡ true) e h))) run_keeps

file_rules : (i : ℕ) (c : LoadedClass) → KeepsCodeRules c → All HasRules (file_methods (length boots + i) c)
file_rules i c rules =
    All-map HasRules (file_method c.pool.slots (length boots + i)) c.methods
    (λ j d l body e. record { tags = map tag_of_slot c.pool.slots; kept = (rules.methods j d l body e).rules })

pub have_rules : (files : List LoadedClass) → All KeepsCodeRules files → All HasRules (methods_of files)
have_rules files rules =
    all_methods HasRules files (each_of (λ (x : MethodInfo). runs x.code) HasRules run_rules (numbered boot_methods 0 boots) all_run)
    (λ i c lt e. file_rules i c (subst KeepsCodeRules e (rules i c lt)))

-- `run` OF THREAD

pub thread_place : boot_place (codes "java/lang/Thread") ≡ Some 6
unfolding boots
thread_place = refl

run_place : position_from (is_method (codes "run") (codes "()V") 6) 0 (numbered boot_methods 0 boots) ≡ Some 10
unfolding boots
run_place = refl

run_within : 10 < length (numbered boot_methods 0 boots)
unfolding boots
run_within = omega arith

some_front : {X : Type 0} (t : X → Bool) (k : ℕ) (xs ys : List X) (j : ℕ) → position_from t k xs ≡ Some j → position_from t k (xs ++ ys) ≡ Some j
some_front t k [] ys j e = absurd (none e)
  where
    none : None ≡ Some j → ⊥
    none q = cc
some_front t k (x ∷ xs) ys j e = by (t x) e (λ q. some_front t (k + 1) xs ys j q)
  where
    by : (b : Bool) → cond b (Some k) (position_from t (k + 1) xs) ≡ Some j → (position_from t (k + 1) xs ≡ Some j → position_from t (k + 1) (xs ++ ys) ≡ Some j) → cond b (Some k) (position_from t (k + 1) (xs ++ ys)) ≡ Some j
    by true q more = q
    by false q more = more q

module _ (files : List LoadedClass) (rows : List Ancestry) (pools : List Constants) where
  abbrev p : Linked
  p = program_with files rows pools

  run_in : method_in p (codes "run") (codes "()V") 6 ≡ Some 10
  run_in = some_front (is_method (codes "run") (codes "()V") 6) 0 (numbered boot_methods 0 boots) (numbered file_methods (length boots) files) 10 run_place

  run_plain : is_static p 10 ≡ false
  run_plain =
      let there : method_at p 10 ≡ slice_index_or (numbered boot_methods 0 boots) 10 no_method = in_front (numbered boot_methods 0 boots) (numbered file_methods (length boots) files) 10 no_method run_within in
      let h : IsBuiltIn (slice_index_or (numbered boot_methods 0 boots) 10 no_method) = built_in_methods 10 no_method run_within in
      ap (λ (x : MethodInfo). has x.flags STATIC) there ∙ h.plain

  abbrev okay : ℕ → Result ℕ LinkError
  okay k = Ok k

  resolved : (m : ℕ) → resolve_method p 6 false (codes "run") (codes "()V") ≡ okay m → is_static p m ≡ false
  resolved m e = by (is_interface p 6) (sym (ap (λ (o : Option ℕ). cond (is_interface p 6) (Err IncompatibleClassChange) (ok_or (option_or (option_or o (first_in (method_in p (codes "run") (codes "()V")) (class_at p 6).supers)) (resolved_above p (codes "run") (codes "()V") 6)) NoSuchMethod)) run_in) ∙ e)
    where
      refused : Err IncompatibleClassChange ≡ okay m → ⊥
      refused q = cc

      same : okay 10 ≡ okay m → 10 ≡ m
      same q = cc

      by : (b : Bool) → cond b (Err IncompatibleClassChange) (okay 10) ≡ okay m → is_static p m ≡ false
      by true q = absurd (refused q)
      by false q = subst (λ (i : ℕ). is_static p i ≡ false) (same q) run_plain

  pub runs_on_object : (m : ℕ) → resolve_method (program_with files rows pools) (class_called (program_with files rows pools) (codes "java/lang/Thread")) false (codes "run") (codes "()V") ≡ Ok m → is_static (program_with files rows pools) m ≡ false
  runs_on_object m e = resolved m (subst (λ (c : ℕ). resolve_method p c false (codes "run") (codes "()V") ≡ okay m) (named_in files rows pools (codes "java/lang/Thread") 6 thread_place) e)
