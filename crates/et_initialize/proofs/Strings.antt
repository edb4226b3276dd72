-- The strings of constants.
use Rattle.std.proofs.Common.{◌≡◌, ℕ, List, [], ◌∷◌, ◌++◌, length, Option, Some, None, refl, sym, ◌∙◌, ap, subst, Contains, append-nil}
use Rattle.std.specs.Prelude.{if◌then◌else◌, is_some, codes, unwrap_or, slice_get}
use Rattle.std.proofs.lemmas.Option.{unwrap_or-slice_get}
use Rattle.et_state.proofs.Interned.{object_pushed, object_in}
use Rattle.et_base.specs.declared.value.Value.{Value}
use Rattle.et_base.specs.declared.value.Value.TheVariants.{Unset, Ref}
use Rattle.et_heap.specs.Refs.{refs_of_value}
use Rattle.et_state.specs.Interned.{object_of, interned_objects}
use Rattle.et_state.specs.State.{Kept, MachineState}
use Rattle.et_state.specs.Words.{static_at, steps_guest, with_static, with_string}
use Rattle.et_state.specs.declared.records.Record.{Record}
use Rattle.et_state.specs.declared.records.Record.TheVariants.{Update}
use Rattle.et_event.specs.Errors.{class_called}
use Rattle.et_event.specs.Moments.{Moment, Doing, doing_with_guest, instance_made, next_object, number_of_value, static_written}
use Rattle.et_event.specs.Telling.{so_far, with_kept, StandsAt, TellsUpdate}
use Rattle.et_pool.specs.Entries.{Item, Constants}
use Rattle.et_pool.specs.Looks.{string_at}
use Rattle.et_program.specs.Entries.{Linked, field_at}
use Rattle.et_initialize.specs.Texts.{constant_text as text_in}
use Rattle.et_program.specs.declared.info.FieldInfo.{FieldInfo}
use Rattle.et_event.specs.Sites.{constant_at, pool_of_class, no_constants}
use Rattle.et_event.specs.Strings.{interned, string_object}
use Rattle.et_event.specs.Initialization.{constant_set, field_set}

abbrev pub Strings : Type 0
Strings = List (List ℕ × ℕ)

-- the string is made
abbrev pub making : Moment → List ℕ → Doing → Doing
making e bytes d =
    let x = instance_made e (class_called e.program (codes "java/lang/String")) d in
    doing_with_guest (with_string x.state.guest bytes (next_object d)) x

pub makes : (e : Moment) (bytes : List ℕ) (d : Doing) → object_of d.state.guest.interned bytes ≡ None → interned e bytes d ≡ making e bytes d
makes e bytes d none = ap (λ (o : Option ℕ). if is_some o then d else making e bytes d) none

pub has_made : (e : Moment) (bytes : List ℕ) (d : Doing) (o : ℕ) → object_of d.state.guest.interned bytes ≡ Some o → interned e bytes d ≡ d
has_made e bytes d o some = ap (λ (r : Option ℕ). if is_some r then d else making e bytes d) some

-- it has the number that is next
pub made_string : (e : Moment) (bytes : List ℕ) (d : Doing) (o : ℕ) → object_of d.state.guest.interned bytes ≡ None → o ≡ length d.state.heap → o ≡ string_object bytes (interned e bytes d)
made_string e bytes d o none is =
    is ∙ sym (ap (λ (x : Doing). string_object bytes x) (makes e bytes d none) ∙ ap (λ (r : Option ℕ). unwrap_or r 0) (object_pushed d.state.guest.interned bytes (length d.state.heap) none))

-- either there is an object, or it is made
pub by_interned : (P : Doing → Type 0) (e : Moment) (bytes : List ℕ) (d : Doing) → (object_of d.state.guest.interned bytes ≡ None → P (making e bytes d)) → ((o : ℕ) → object_of d.state.guest.interned bytes ≡ Some o → P d) → P (interned e bytes d)
by_interned P e bytes d new old = case (object_of d.state.guest.interned bytes) refl
  where
    case : (r : Option ℕ) → object_of d.state.guest.interned bytes ≡ r → P (interned e bytes d)
    case None h = subst P (sym (makes e bytes d h)) (new h)
    case (Some o) h = subst P (sym (has_made e bytes d o h)) (old o h)

-- its object is that of a string
pub object_listed : (e : Moment) (bytes : List ℕ) (d : Doing) → Contains (interned_objects (interned e bytes d).state.guest.interned) (string_object bytes (interned e bytes d))
object_listed e bytes d = by_interned (λ (x : Doing). Contains (interned_objects x.state.guest.interned) (string_object bytes x)) e bytes d
    (λ none. let is : object_of (making e bytes d).state.guest.interned bytes ≡ Some (length d.state.heap) = object_pushed d.state.guest.interned bytes (length d.state.heap) none in
    listed (making e bytes d) (length d.state.heap) is)
    (λ o some. listed d o some)
  where
    listed : (x : Doing) (o : ℕ) → object_of x.state.guest.interned bytes ≡ Some o → Contains (interned_objects x.state.guest.interned) (string_object bytes x)
    listed x o h = subst (λ (k : ℕ). Contains (interned_objects x.state.guest.interned) k) (sym (ap (λ (r : Option ℕ). unwrap_or r 0) h)) (object_in x.state.guest.interned bytes o h)

-- A FIELD OF A CLASS WITHOUT A POOL gets nothing
pub empty_pool : (p : Linked) (f : ℕ) (info : FieldInfo) → info ≡ field_at p f → slice_get p.pools info.class ≡ None → pool_of_class p (field_at p f).class ≡ []
empty_pool p f info is none =
    let at : slice_get p.pools (field_at p f).class ≡ None = ap (λ (i : FieldInfo). slice_get p.pools i.class) (sym is) ∙ none in
    ap (λ (c : Constants). c.slots) (sym (unwrap_or-slice_get p.pools (field_at p f).class no_constants) ∙ ap (λ (o : Option Constants). unwrap_or o no_constants) at)

pub no_text_of : (p : Linked) (f : ℕ) (info : FieldInfo) → info ≡ field_at p f → slice_get p.pools info.class ≡ None → None ≡ text_in p f
no_text_of p f info is none = sym (ap (λ (pool : List (Option Item)). string_at pool (field_at p f).constant) (empty_pool p f info is none))

no_pool : (e : Moment) (f : ℕ) (d : Doing) (info : FieldInfo) → info ≡ field_at e.program f → slice_get e.program.pools info.class ≡ None → field_set e d f ≡ d
no_pool e f d info is none =
    ap (λ (pool : List (Option Item)). constant_set e (field_at e.program f) (constant_at pool (field_at e.program f).constant) d) (empty_pool e.program f info is none)

pub no_pool_field : (e : Moment) (f : ℕ) (m : MachineState) (out : List Record) (info : FieldInfo) → info ≡ field_at e.program f → slice_get e.program.pools info.class ≡ None → StandsAt (field_set e (so_far m out) f) m m out
no_pool_field e f m out info is none =
    let same = no_pool e f (so_far m out) info is none in
    (sym (ap (λ (x : Doing). with_kept m x.state) same), sym (ap (λ (x : Doing). x.records) same))

-- A STRING IS WRITTEN to a static slot to which nothing was written: making it writes none
pub still_unset : (e : Moment) (bytes : List ℕ) (i : ℕ) (d : Doing) → static_at d.state.guest i ≡ Unset → static_at (interned e bytes d).state.guest i ≡ Unset
still_unset e bytes i d unset = by_interned (λ (x : Doing). static_at x.state.guest i ≡ Unset) e bytes d (λ none. unset) (λ o some. unset)

pub string_written : (e : Moment) (i o k event : ℕ) (old : Value) (d : Doing) (m m₁ m₂ : MachineState) (out₁ out₂ : List Record) → StandsAt d m m₁ out₁ → static_at d.state.guest i ≡ Unset → o ≡ k → old ≡ static_at m₁.guest i
    → m₂ ≡ steps_guest m₁ (with_static m₁.guest i (Ref o)) (refs_of_value (static_at m₁.guest i)) → event ≡ m₂.guest.clock → TellsUpdate event e.thread 0 i old (Ref o) out₁ out₂ → StandsAt (static_written e i (Ref k) d) m m₂ out₂
string_written e i o k event old d m m₁ m₂ out₁ out₂ at unset same stood is time told =
    let slot = λ (n : ℕ) (z : MachineState). steps_guest z (with_static z.guest i (Ref n)) (refs_of_value (static_at z.guest i)) in
    let s : Kept = record { heap = d.state.heap; guest = with_static d.state.guest i (Ref k) } in
    let machine : m₂ ≡ with_kept m s =
    is ∙ (ap (λ (z : MachineState). slot o z) at.0 ∙ (ap (λ (n : ℕ). slot n (with_kept m d.state)) same
    ∙ (ap (λ (v : Value). steps_guest (with_kept m d.state) s.guest (refs_of_value v)) unset
    ∙ ap (λ (l : List ℕ). let z : MachineState = record { heap = s.heap; guest = s.guest; lost = l } in z) (append-nil m.lost)))) in
    let was : old ≡ static_at d.state.guest i = stood ∙ ap (λ (z : MachineState). static_at z.guest i) at.0 in
    let clock : s.guest.clock ≡ event = sym (time ∙ ap (λ (z : MachineState). z.guest.clock) machine) in (
      machine,
      told e.program e.before s clock
          ∙ (ap (λ (l : List Record). l ++ Update s.guest.clock e.thread 0 i (number_of_value old) o ∷ []) at.1
          ∙ (ap (λ (v : Value). d.records ++ Update s.guest.clock e.thread 0 i (number_of_value v) o ∷ []) was
          ∙ ap (λ (n : ℕ). d.records ++ Update s.guest.clock e.thread 0 i (number_of_value (static_at d.state.guest i)) n ∷ []) same)),
    )
