-- The first state of a program is sound.
use Rattle.std.proofs.Common.{◌≡◌, ℕ, zero, suc, ◌+◌, ◌<◌, ◌≤◌, ◌^◌, Bool, true, false, cond, List, [], ◌∷◌, ◌++◌, length, replicate, Option, Some, None, IfSome, refl, sym, ◌∙◌, ap, subst, arith}
use Rattle.std.specs.Prelude.{All, unwrap_or, codes}
use Rattle.std.specs.List.{slice_index_or}
use Rattle.std.specs.Str.{bytes_eq}
use Rattle.std.proofs.lemmas.List.{length-replicate, get_or-replicate}
use Rattle.std.proofs.lemmas.List.Elements.{All-nil, All-cons, All-same, All-append, All-replicate, All-contains}
use Rattle.std.proofs.lemmas.Option.{none-some, same_Some}
use Rattle.et_heap.proofs.References.{none_unset}
use Rattle.et_history.proofs.soundness.Growing.{free_is_sound}
use Rattle.et_base.specs.declared.value.Value.{Value}
use Rattle.et_base.specs.declared.value.Value.TheVariants.{Unset}
use Rattle.et_program.specs.Entries.{ClassEntry, Linked, field_at}
use Rattle.et_program.specs.Members.{class_named}
use Rattle.et_program.proofs.PlaceLemmas.{position_within}
use Rattle.et_program.specs.Loaded.{LoadedClass}
use Rattle.et_program.specs.Files.{boots, set_of}
use Rattle.et_program.specs.ProgramOf.{heads_of, class_names_of, program_with, IsProgramOf}
use Rattle.et_link.proofs.TabledLemmas.{length-set, length-classes}
use Rattle.et_heap.specs.Objects.{ObjectState, Objects, IsHeld, at, object_at, new_object, free_monitor}
use Rattle.et_heap.specs.Refs.{refs_of}
use Rattle.et_state.specs.declared.class_state.ClassState.TheVariants.{Untouched, Done}
use Rattle.et_state.specs.State.{GuestState}
use Rattle.et_state.specs.Words.{static_at}
use Rattle.et_state.specs.Roots.{roots_of}
use Rattle.et_state.specs.Sound.{IsSound}
use Rattle.et_state.specs.declared.records.Record.TheVariants.{Alloc}
use Rattle.et_state.specs.Naming.{Names, IsNamed}
use Rattle.et_event.specs.PoolOperands.Operand.{Operand}
use Rattle.et_event.specs.PoolOperands.Operand.TheVariants as operand
use Rattle.et_event.specs.Operands.{operand_kind}
use Rattle.et_event.specs.Sound.{is_of_kind, IsSoundObject, IsSoundMonitor, IsSoundThread, IsSoundClassState, IsSoundStatic, IsSoundFor}
use Rattle.et_state.specs.Start.{argument_class, is_class_of_file, first_class_state, class_states_from, start}
use Rattle.et_event.specs.Start.{start_records}
use Rattle.et_history.specs.programs.ClassNames.{HasClassName}
use Rattle.et_history.proofs.programs.Arguments.{arguments_sound}

-- WHAT IS REFERRED TO

-- the objects of a first state whose argument array is of class c
abbrev first_heap : ℕ → Objects
first_heap c = None ∷ Some (new_object c 0 0) ∷ []

roots_held : (p : Linked) → All (IsHeld (start p).heap) (roots_of (start p).guest)
roots_held p =
    let P = IsHeld (first_heap (argument_class p)) in
    let refs : List ℕ = refs_of (replicate (length p.statics) Unset) in
    All-cons P 1 (refs ++ []) tt (All-append P refs [] (All-same P refs [] (none_unset (length p.statics)) (All-nil P)) (All-nil P))

no_referent : (c u o : ℕ) → (object_at (first_heap c) u).referent ≡ Some o → ⊥
no_referent c zero o e = none-some o e
no_referent c (suc zero) o e = none-some o e
no_referent c (suc (suc u)) o e = none-some o e

start_held : (p : Linked) → IsSound (start p)
start_held p =
    let heap : Objects = first_heap (argument_class p) in
    record {
      room = (let some : 0 < 2 = omega arith in some);
      none = λ h. h;
      roots = λ o c. All-contains (IsHeld heap) (roots_of (start p).guest) o (roots_held p) c;
      slots = λ u o c. All-contains (λ (x : ℕ × ℕ). IsHeld heap x.1) [] (u, o) (All-nil (λ (x : ℕ × ℕ). IsHeld heap x.1)) c;
      referents = λ u o e. absurd (no_referent (argument_class p) u o e);
    }

-- OBJECTS AND MONITORS

array_alone : (p : Linked) (g : GuestState) (c o : ℕ) (x : ObjectState) → IsSoundObject p (new_object c 0 0) → at (first_heap c) o ≡ Some x → IsSoundObject p x × IsSoundMonitor g x.monitor
array_alone p g c zero x sound e = absurd (none-some x e)
array_alone p g c (suc zero) x sound e =
    let same : new_object c 0 0 ≡ x = same_Some (new_object c 0 0) x e in
    (subst (λ (y : ObjectState). IsSoundObject p y) same sound, subst (λ (y : ObjectState). IsSoundMonitor g y.monitor) same (free_is_sound g))
array_alone p g c (suc (suc o)) x sound e = absurd (none-some x e)

-- THE THREAD

thread_sound : (p : Linked) (t : ℕ) → t < 1 → IsSoundThread p (start p) t
thread_sound p zero lt = record { frames = tt; few_frames = (let few : 0 ≤ 1024 = omega arith in few); object = λ l e. absurd (omega arith) }
thread_sound p (suc t) lt = absurd (omega arith)

-- CLASSES

pub length-states : (p : Linked) (c n : ℕ) → length (class_states_from p c n) ≡ n
length-states p c zero = refl
length-states p c (suc n) = ap suc (length-states p (c + 1) n)

state_sound : (g : GuestState) (b : Bool) → IsSoundClassState g (cond b Untouched Done)
state_sound g true = tt
state_sound g false = tt

states_sound : (p : Linked) (g : GuestState) (c n : ℕ) → All (IsSoundClassState g) (class_states_from p c n)
states_sound p g c zero = All-nil (IsSoundClassState g)
states_sound p g c (suc n) = All-cons (IsSoundClassState g) (first_class_state p c) (class_states_from p (c + 1) n) (state_sound g (is_class_of_file p c)) (states_sound p g (c + 1) n)

-- STATIC SLOTS

pub unset_fits : (k : Option Operand) → is_of_kind k Unset ≡ true
unset_fits None = refl
unset_fits (Some operand.Int) = refl
unset_fits (Some operand.Long) = refl
unset_fits (Some operand.Reference) = refl

static_sound : (p : Linked) (i : ℕ) → i < length p.statics → IsSoundStatic p (start p).guest i
static_sound p i lt =
    let unset : static_at (start p).guest i ≡ Unset = get_or-replicate (length p.statics) i Unset Unset lt in
    let kind : Option Operand = operand_kind (field_at p (slice_index_or p.statics i 0)).descriptor in
    record { value = ap (λ (v : Value). is_of_kind kind v) unset ∙ unset_fits kind; untouched = λ u. unset }

-- THE STATE

started : (p : Linked) → IsSoundObject p (new_object (argument_class p) 0 0) → IsSoundFor p (start p)
started p sound =
    let g : GuestState = (start p).guest in
    let n : ℕ = length p.classes in
    let states : length (class_states_from p 0 n) ≡ n = length-states p 0 n in
    record {
      held = start_held p;
      clock = (let low : 0 ≤ 2 ^ 40 = omega arith in low);
      fits = refl;
      objects = λ o x e. array_alone p g (argument_class p) o x sound e;
      threads = λ t lt. thread_sound p t lt;
      few_threads = (let few : 1 ≤ 64 = omega arith in few);
      entry = λ a b. refl;
      classes = (states, states_sound p g 0 n);
      class_monitors = (length-replicate (length (class_states_from p 0 n)) free_monitor ∙ states, All-replicate (IsSoundMonitor g) (length (class_states_from p 0 n)) free_monitor (free_is_sound g));
      statics = (length-replicate (length p.statics) Unset, λ i lt. static_sound p i lt);
    }

pub start_sound : (files : List LoadedClass) (p : Linked) → All HasClassName files → IsProgramOf files p → IsSoundFor p (start p)
start_sound files p named is =
    subst (λ (q : Linked). IsSoundFor q (start q)) (sym is.tables) (started (program_with files is.rows p.pools) (arguments_sound files is.rows p.pools named))

-- THE RECORDS

pub or_first : (o : Option ℕ) (n : ℕ) → 0 < n → IfSome o (λ c. c < n) → unwrap_or o 0 < n
or_first None n some h = some
or_first (Some c) n some h = h

boots_are_some : 0 < length boots
unfolding boots
boots_are_some = omega arith

has_classes : (files : List LoadedClass) (p : Linked) → IsProgramOf files p → 0 < length p.classes
has_classes files p is =
    let q : Linked = program_with files is.rows p.pools in
    let total : length q.classes ≡ length (set_of files) + length (class_names_of files) = length-classes (heads_of files is.rows) (set_of files) (class_names_of files) in
    let set : length (set_of files) ≡ length boots + length files = length-set files in
    let some : 0 < length boots = boots_are_some in
    subst (λ (x : Linked). 0 < length x.classes) (sym is.tables) (let has : 0 < length q.classes = omega arith in has)

pub records_named : (names : Names) (files : List LoadedClass) (p : Linked) → names.class_count ≡ length p.classes → IsProgramOf files p → All (IsNamed names) (start_records p)
records_named names files p same is =
    let lt : argument_class p < length p.classes =
    or_first (class_named p (codes "[Ljava/lang/String;")) (length p.classes) (has_classes files p is) (position_within (λ (c : ClassEntry). bytes_eq (codes "[Ljava/lang/String;") c.info.name) p.classes) in
    let C = λ (c : ℕ). c < names.class_count in
    let named : argument_class p < names.class_count = omega arith in
    All-cons (IsNamed names) (Alloc 0 0 1 (argument_class p) 24 0) [] (record { classes = All-cons C (argument_class p) [] named (All-nil C); methods = All-nil (λ m. m < names.method_count) }) (All-nil (IsNamed names))
