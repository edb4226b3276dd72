-- What the rows of the methods of texts come to.
use Rattle.std.proofs.Common.{◌≡◌, ℕ, ◌<◌, ◌≤◌, ℤ, Bool, true, false, List, [], ◌∷◌, length, Option, Some, None, pos, refl, sym, ap, subst, ◌∙◌}
use Rattle.std.specs.Prelude.{if◌then◌else◌, slice_index_or}
use Rattle.et_base.specs.declared.value.Value.{Value}
use Rattle.et_base.specs.declared.value.Value.TheVariants.{Int, Ref}
use Rattle.et_base.proofs.Options.{none_by_test}
use Rattle.et_heap.specs.Objects.{referent_of}
use Rattle.et_state.specs.Outcome.{Outcome}
use Rattle.et_state.specs.Spoken.{text_of}
use Rattle.et_state.specs.State.{Kept, MachineState}
use Rattle.et_state.specs.Texts.{Texts, no_texts, text_units, longest_text, most_units, with_text}
use Rattle.et_state.specs.declared.ends.EventEnd.{EventEnd}
use Rattle.et_state.specs.declared.ends.EventEnd.TheVariants as ends
use Rattle.et_state.specs.declared.records.Record.{Record}
use Rattle.et_program.specs.BootTexts.TextMethod.TheVariants.{BeginWith, CharAt}
use Rattle.et_program.specs.Entries.{Linked}
use Rattle.et_event.specs.Answered.{EventAnswers, TextAnswers}
use Rattle.et_event.specs.BuiltIns.{answering, argument}
use Rattle.et_event.specs.Calls.{arguments_of}
use Rattle.et_event.specs.Checks.{not_null, throws_unless, with_int}
use Rattle.et_event.specs.Kinds.{in_bounds}
use Rattle.et_event.specs.Moments.{Moment, Doing, begins, fits_heap, goes, ill_typed, moment, throws}
use Rattle.et_event.specs.Sites.{Site, natural_of}
use Rattle.et_event.specs.TextRows.{rewrites, text_done, text_given}
use Rattle.et_event.specs.declared.errors.GuestError.TheVariants.{NullPointerException, OutOfMemoryError, StringIndexOutOfBoundsException}
use Rattle.et_strings.specs.Calls.{text_moment}
use Rattle.et_strings.specs.TextUnits.{unit_numbered}
use Rattle.et_strings.proofs.Answering.{AnswersValues, given-beside, giving, goes-beside, limit-beside, rewrites-goes, rewrites-limit, rewrites-throws, thrown-beside}

-- A VALUE IS GIVEN

pub value-beside : (p : Linked) (m m' : MachineState) (x : Texts) (t n : ℕ) (at : Site) (v w : Value) (end : EventEnd) (out : List Record) → m.guest.texts ≡ no_texts → v ≡ w → AnswersValues p t n at (v ∷ []) end m m' out
    → TextAnswers (goes (giving p m x t n at (w ∷ []))) end m m' x x out out
value-beside p m m' x t n at v w end out none same h =
    subst (λ (k : Value). TextAnswers (goes (giving p m x t n at (k ∷ []))) end m m' x x out out) same (given-beside p m m' x t n at (v ∷ []) end out none h)

-- THE UNIT OF A NUMBER

abbrev unit_given : Moment → Site → Doing → List Value → ℕ → ℤ → Outcome Kept
unit_given e at d arguments o i = goes (answering e at arguments (Int (pos (slice_index_or (text_of e.before o) (natural_of i) 0)) ∷ []) d)

numbered : (e : Moment) (at : Site) (d : Doing) (arguments : List Value) (o : ℕ) (i : ℤ) → argument arguments 1 ≡ Int i
    → text_done e at d arguments o CharAt ≡ throws_unless e d StringIndexOutOfBoundsException (in_bounds i (length (text_of e.before o))) (unit_given e at d arguments o i)
numbered e at d arguments o i is =
    ap (λ (v : Value). with_int (ill_typed e) (v ∷ []) (λ j none. throws_unless e d StringIndexOutOfBoundsException (in_bounds j (length (text_of e.before o))) (unit_given e at d arguments o j))) is

some_unit : (b : Bool) (v unit : ℕ) → (if b then Some v else None) ≡ Some unit → (b ≡ true) × (v ≡ unit)
some_unit true v unit is = (refl, cc)
some_unit false v unit is = cc

-- there is one
pub char-given : (e : Moment) (at : Site) (d : Doing) (arguments : List Value) (o : ℕ) (i : ℤ) (unit : ℕ) → argument arguments 1 ≡ Int i → unit_numbered (text_of e.before o) i ≡ Some unit
    → text_done e at d arguments o CharAt ≡ goes (answering e at arguments (Int (pos unit) ∷ []) d)
char-given e at d arguments o i unit is some =
    let h = some_unit (in_bounds i (length (text_of e.before o))) (slice_index_or (text_of e.before o) (natural_of i) 0) unit some in
    numbered e at d arguments o i is
    ∙ (ap (λ (b : Bool). throws_unless e d StringIndexOutOfBoundsException b (unit_given e at d arguments o i)) h.0
    ∙ ap (λ (u : ℕ). goes (answering e at arguments (Int (pos u) ∷ []) d)) h.1)

-- there is none
pub char-throws : (e : Moment) (at : Site) (d : Doing) (arguments : List Value) (o : ℕ) (i : ℤ) → argument arguments 1 ≡ Int i → unit_numbered (text_of e.before o) i ≡ None
    → text_done e at d arguments o CharAt ≡ throws e StringIndexOutOfBoundsException d
char-throws e at d arguments o i is none =
    numbered e at d arguments o i is
    ∙ ap (λ (b : Bool). throws_unless e d StringIndexOutOfBoundsException b (unit_given e at d arguments o i)) (none_by_test (in_bounds i (length (text_of e.before o))) (slice_index_or (text_of e.before o) (natural_of i) 0) none)

-- A TEXT IS GIVEN

pub text-beside : (p : Linked) (m m' : MachineState) (x x' : Texts) (t n o : ℕ) (units : List ℕ) (at : Site) (vs : List Value) (end : EventEnd) (out : List Record) → m.guest.texts ≡ no_texts → x' ≡ with_text o units x → AnswersValues p t n at vs end m m' out
    → TextAnswers (goes (text_given o units (giving p m x t n at vs))) end m m' x x' out out
text-beside p m m' x x' t n o units at vs end out none same h =
    let with : Kept = (text_given o units (giving p m x t n at vs)).state in
    subst (λ (y : Texts). TextAnswers (goes (text_given o units (giving p m x t n at vs))) end m m' x y out out) (sym same)
    (goes-beside (answering (moment p m t) at (arguments_of (moment p m t) n) vs (begins (moment p m t))).state with _ x end m m' out out none refl h)

-- .. in the words of a row that rewrites one
abbrev pub rewriting : Linked → MachineState → Texts → ℕ → ℕ → ℕ → List ℕ → Site → List Value → Outcome Kept
rewriting p m x t n o units at vs = rewrites (text_moment p m x t) (begins (text_moment p m x t)) o units (giving p m x t n at vs)

pub rewritten : (p : Linked) (m m' : MachineState) (x x' : Texts) (t n o : ℕ) (units : List ℕ) (at : Site) (vs : List Value) (end : EventEnd) (out : List Record) (k : Outcome Kept) → k ≡ rewriting p m x t n o units at vs → m.guest.texts ≡ no_texts
    → fits_heap m.heap ≡ true → length units ≤ longest_text → text_units (with_text o units x) ≤ most_units → x' ≡ with_text o units x → AnswersValues p t n at vs end m m' out
    → TextAnswers k end m m' x x' out out
rewritten p m m' x x' t n o units at vs end out k is none fits short few same h =
    subst (λ (q : Outcome Kept). TextAnswers q end m m' x x' out out) (sym (is ∙ rewrites-goes (text_moment p m x t) o units (giving p m x t n at vs) short fits few))
    (text-beside p m m' x x' t n o units at vs end out none same h)

pub too_many : (p : Linked) (m : MachineState) (x : Texts) (t n o : ℕ) (units : List ℕ) (at : Site) (vs : List Value) (out : List Record) (k : Outcome Kept) → k ≡ rewriting p m x t n o units at vs → length units ≤ longest_text → most_units < text_units (with_text o units x)
    → TextAnswers k ends.ObjectLimit m m x x out out
too_many p m x t n o units at vs out k is short many = limit-beside k m x out (is ∙ rewrites-limit (text_moment p m x t) o units (giving p m x t n at vs) short many)

pub too_long : (p : Linked) (m m' : MachineState) (x : Texts) (t n o : ℕ) (units : List ℕ) (at : Site) (vs : List Value) (end : EventEnd) (out out' : List Record) (k : Outcome Kept) → k ≡ rewriting p m x t n o units at vs → m.guest.texts ≡ no_texts → longest_text < length units
    → EventAnswers (throws (moment p m t) OutOfMemoryError (begins (moment p m t))) end m m' out out' → TextAnswers k end m m' x x out out'
too_long p m m' x t n o units at vs end out out' k is none long h =
    subst (λ (q : Outcome Kept). TextAnswers q end m m' x x out out') (sym (is ∙ rewrites-throws (text_moment p m x t) o units (giving p m x t n at vs) long)) (thrown-beside p m m' x t OutOfMemoryError end out out' none h)

-- A CONSTRUCTOR WITH A STRING

pub begun-with : (e : Moment) (at : Site) (d : Doing) (arguments : List Value) (o y : ℕ) → argument arguments 1 ≡ Ref y → text_done e at d arguments o BeginWith ≡ rewrites e d o (text_of e.before y) (answering e at arguments [] d)
begun-with e at d arguments o y is = ap (λ (v : Value). not_null e d (referent_of v) (λ z. rewrites e d o (text_of e.before z) (answering e at arguments [] d))) is

pub begun-null : (e : Moment) (at : Site) (d : Doing) (arguments : List Value) (o : ℕ) → referent_of (argument arguments 1) ≡ None → text_done e at d arguments o BeginWith ≡ throws e NullPointerException d
begun-null e at d arguments o none = ap (λ (r : Option ℕ). not_null e d r (λ z. rewrites e d o (text_of e.before z) (answering e at arguments [] d))) none
