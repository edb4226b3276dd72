-- The rows of methods of texts, and that of System.out, are made of steps, with other texts beside them.
use Rattle.std.proofs.Common.{◌≡◌, ℕ, ◌≤◌, ◌++◌, ◌∷◌, ◌&&◌, ◌||◌, ◌==◌, ◌⊎◌, Bool, true, false, List, [], drop, length, Option, Some, None, refl, sym, ap, subst, inl, inr, arith}
use Rattle.std.specs.Prelude.{ℤ, codes, nat_le, pos, slice_index_or, if◌then◌else◌}
use Rattle.std.proofs.lemmas.Bool.{and_parts, eq-eqb, leb-true}
use Rattle.et_base.specs.declared.value.Value.{Value}
use Rattle.et_base.specs.declared.value.Value.TheVariants as value
use Rattle.et_heap.specs.Objects.{IsHeld, ObjectState, found, new_object, object_at, referent_of}
use Rattle.et_program.specs.BootTexts.TextMethod.{TextMethod}
use Rattle.et_program.specs.BootTexts.TextMethod.TheVariants.{Length, CharAt, Equals, Begin, BeginWith, ToString, Append, Print, PrintLine, EndLine}
use Rattle.et_program.specs.Entries.{class_at}
use Rattle.et_program.specs.Members.{is_subclass}
use Rattle.et_state.specs.Outcome.{Outcome}
use Rattle.et_state.specs.Outcome as outcome
use Rattle.et_state.specs.Spoken.{spoken, text_of}
use Rattle.et_state.specs.State.{Kept}
use Rattle.et_state.specs.Texts.{Texts, longest_text, most_units, text_units, with_text}
use Rattle.et_state.specs.Threads.{as_entered, has_frame}
use Rattle.et_state.specs.Words.{thread_at}
use Rattle.et_state.specs.declared.records.Record.{Record}
use Rattle.et_event.specs.BuiltIns.{answering, argument, is_object_of_class, is_of_its_class, text_argument}
use Rattle.et_event.specs.Checks.{Reference, ill_typed_unless, not_null, throws_unless, with_int}
use Rattle.et_event.specs.Errors.{class_called, error_class}
use Rattle.et_event.specs.Heap.{truth}
use Rattle.et_event.specs.Kinds.{in_bounds}
use Rattle.et_event.specs.Moments.{Doing, Moment, begins, current_frame, ends_event, entry_given_up, fits_heap, goes, ill_typed, instance_made, next_object, pending_now, throws, with_thread_state}
use Rattle.et_event.specs.Sites.{Site, natural_of}
use Rattle.et_event.specs.SoundTexts.{is_text_class}
use Rattle.et_event.specs.TextRows.{ends_with_texts, is_fit_text, is_text_like, rewrites, shown, text_done, text_given}
use Rattle.et_event.specs.declared.errors.GuestError.{GuestError}
use Rattle.et_event.specs.declared.errors.GuestError.TheVariants.{NullPointerException, OutOfMemoryError, StringIndexOutOfBoundsException}
use Rattle.et_history.proofs.steps.Calls.{answering_comes}
use Rattle.et_history.proofs.steps.Given.{truth_fine}
use Rattle.et_state.proofs.Steps.{newest_held}
use Rattle.et_history.proofs.steps.Held.{Ready}
use Rattle.et_history.proofs.steps.Records.{newest_at}
use Rattle.et_history.proofs.steps.Rows.{operands_fine}
use Rattle.et_history.proofs.steps.Values.{fines_drop}
use Rattle.et_history.specs.steps.Steps.{Begins, Ended, IsFramed, Level, Plainly, WithError, WithInstance}
use Rattle.et_history.specs.steps.Values.{Fines}
use Rattle.et_history.proofs.soundness.Outcomes.{if_case}

-- THE TEXTS after a row: as they were, or one object was given one

pub record IsGiven (e : Moment) (next : Kept) : Type 0 where
  pub object : ℕ
  pub units : List ℕ
  pub texts : next.guest.texts ≡ with_text object units e.before.guest.texts
  pub held : IsHeld next.heap object
  pub class : is_text_class e.program (object_at next.heap object).class ≡ true
  pub short : length units ≤ longest_text
  pub few : (units ≡ []) ⊎ (text_units next.guest.texts ≤ most_units)

abbrev pub GivesTexts : Moment → Kept → Type 0
GivesTexts e next = (next.guest.texts ≡ e.before.guest.texts) ⊎ IsGiven e next

-- with the texts as they were it is made of steps
pub record EndsBeside (e : Moment) (next : Kept) (records : List Record) : Type 0 where
  pub ended : Ended e (record { state = spoken e.before.guest.texts next; records = records })
  pub texts : GivesTexts e next

-- a row never waits
abbrev pub LeadsBeside : Moment → Outcome Kept → Type 0
LeadsBeside e (outcome.Goes next records) = EndsBeside e next records
LeadsBeside e (outcome.Waits next) = ⊥
LeadsBeside e (outcome.IllTyped method pc) = Unit {0}
LeadsBeside e outcome.ObjectLimit = Unit {0}

ends_beside : (e : Moment) (d : Doing) (x : Texts) → Ended e d → d.state.guest.texts ≡ e.before.guest.texts → GivesTexts e (spoken x d.state) → EndsBeside e (spoken x d.state) d.records
ends_beside e d x h same gives = record { ended = subst (λ (s : Kept). Ended e (record { state = s; records = d.records })) (ap (λ (t : Texts). spoken t d.state) same) h; texts = gives }

module _ (e : Moment) (ready : Ready e) (framed : IsFramed e) where
  goes_beside : (d : Doing) → Ended e d → d.state.guest.texts ≡ e.before.guest.texts → LeadsBeside e (goes d)
  goes_beside d h same = ends_beside e d d.state.guest.texts h same (inl same)

  pub ends_event_beside : (d : Doing) → Ended e d → d.state.guest.texts ≡ e.before.guest.texts → LeadsBeside e (ends_event d)
  ends_event_beside d h same = if_case (LeadsBeside e) (fits_heap d.state.heap) (goes d) outcome.ObjectLimit (goes_beside d h same) tt

  -- AN EXCEPTION is thrown

  throws_beside : (error : GuestError) → LeadsBeside e (throws e error (begins e))
  throws_beside error =
      let d : Doing = begins e in
      let x : Doing = with_thread_state e (as_entered (thread_at d.state.guest e.thread)) d in
      let class : ℕ = error_class e.program error in
      ends_event_beside (pending_now e (next_object d) (instance_made e class (entry_given_up e d))) (WithError error d Begins)
      (if_case (λ (y : Doing). (pending_now e (next_object d) (instance_made e class y)).state.guest.texts ≡ e.before.guest.texts) (has_frame (thread_at d.state.guest e.thread).frames) d x refl refl)

  unless_thrown : (error : GuestError) (b : Bool) (go : Outcome Kept) → (b ≡ true → LeadsBeside e go) → LeadsBeside e (throws_unless e (begins e) error b go)
  unless_thrown error true go h = h refl
  unless_thrown error false go h = throws_beside error

  where_not_null : (r : Reference) (go : ℕ → Outcome Kept) → ((o : ℕ) → LeadsBeside e (go o)) → LeadsBeside e (not_null e (begins e) r go)
  where_not_null None go h = throws_beside NullPointerException
  where_not_null (Some o) go h = h o

  where_int : (vs : List Value) (go : ℤ → List Value → Outcome Kept) → ((i : ℤ) (below : List Value) → LeadsBeside e (go i below)) → LeadsBeside e (with_int (ill_typed e) vs go)
  where_int (value.Int n ∷ below) go h = h n below
  where_int other go h = tt

  pub unless_ill_typed : (b : Bool) (go : Outcome Kept) → (b ≡ true → LeadsBeside e go) → LeadsBeside e (ill_typed_unless e b go)
  unless_ill_typed true go h = h refl
  unless_ill_typed false go h = tt

  -- A TEXT IS GIVEN to an object of a class that has texts

  record MayBeGiven (d : Doing) (o : ℕ) : Type 0 where
    ended : Ended e d
    same : d.state.guest.texts ≡ e.before.guest.texts
    held : IsHeld d.state.heap o
    class : is_text_class e.program (object_at d.state.heap o).class ≡ true

  given_beside : (d : Doing) (o : ℕ) (units : List ℕ) → MayBeGiven d o → length units ≤ longest_text → (units ≡ []) ⊎ (text_units (with_text o units d.state.guest.texts) ≤ most_units) → LeadsBeside e (goes (text_given o units d))
  given_beside d o units may short few =
      ends_beside e d (with_text o units d.state.guest.texts) may.ended may.same
      (inr (record { object = o; units = units; texts = ap (λ (t : Texts). with_text o units t) may.same; held = may.held; class = may.class; short = short; few = few }))

  ends_given : (d : Doing) (o : ℕ) (units : List ℕ) → MayBeGiven d o → length units ≤ longest_text → LeadsBeside e (ends_with_texts (text_given o units d))
  ends_given d o units may short = by (fits_heap d.state.heap && few) refl
    where
      few : Bool
      few = nat_le (text_units (with_text o units d.state.guest.texts)) most_units

      by : (b : Bool) → (fits_heap d.state.heap && few) ≡ b → LeadsBeside e (if b then goes (text_given o units d) else outcome.ObjectLimit)
      by false is = tt
      by true is = given_beside d o units may short (inr (leb-true (text_units (with_text o units d.state.guest.texts)) most_units (and_parts (fits_heap d.state.heap) few is).1))

  rewrites_beside : (d : Doing) (o : ℕ) (units : List ℕ) → MayBeGiven d o → LeadsBeside e (rewrites e (begins e) o units d)
  rewrites_beside d o units may =
      unless_thrown OutOfMemoryError (nat_le (length units) longest_text) (ends_with_texts (text_given o units d)) (λ short. ends_given d o units may (leb-true (length units) longest_text short))

  -- WHAT IS ANSWERED

  answered : (at : Site) (arguments values : List Value) → Fines e.before.heap values → Ended e (answering e at arguments values (begins e))
  answered at arguments values f = Plainly Level (answering e at arguments values (begins e)) (answering_comes e ready framed at arguments values (begins e) Begins (λ u. f))

  answers : (at : Site) (arguments values : List Value) → Fines e.before.heap values → LeadsBeside e (goes (answering e at arguments values (begins e)))
  answers at arguments values f = goes_beside (answering e at arguments values (begins e)) (answered at arguments values f) refl

  -- a string builder has a text
  builder_class : (c : ℕ) → is_subclass e.program c (class_called e.program (codes "java/lang/StringBuilder")) ≡ true → is_text_class e.program c ≡ true
  builder_class c below = by (c == class_called e.program (codes "java/lang/String")) below
    where
      by : (b : Bool) {x : Bool} → x ≡ true → (b || x) ≡ true
      by true h = refl
      by false h = h

  string_class : is_text_class e.program (class_called e.program (codes "java/lang/String")) ≡ true
  string_class =
      let c : ℕ = class_called e.program (codes "java/lang/String") in
      ap (λ (b : Bool). b || is_subclass e.program c (class_called e.program (codes "java/lang/StringBuilder"))) (eq-eqb c c refl)

  builder_given : (at : Site) (arguments values : List Value) (o : ℕ) → IsHeld e.before.heap o → Fines e.before.heap values → is_object_of_class e (begins e) o (codes "java/lang/StringBuilder") ≡ true → MayBeGiven (answering e at arguments values (begins e)) o
  builder_given at arguments values o held f below = record { ended = answered at arguments values f; same = refl; held = held; class = builder_class (object_at e.before.heap o).class below }

  -- a string is made
  string_given : (at : Site) (arguments : List Value) → MayBeGiven (answering e at arguments (value.Ref (next_object (begins e)) ∷ []) (instance_made e (class_called e.program (codes "java/lang/String")) (begins e))) (next_object (begins e))
  string_given at arguments =
      let class : ℕ = class_called e.program (codes "java/lang/String") in
      let new : ObjectState = new_object class 0 (class_at e.program class).info.slots in
      let below : List Value = drop (length arguments) (current_frame e).operands in
      record {
        ended = WithInstance at class below (begins e) Begins framed ready.may.makes.string.class ready.may.texts.string (fines_drop e.before.heap (length arguments) (current_frame e).operands (operands_fine e ready framed));
        same = refl;
        held = newest_held e.before.heap new;
        class = subst (λ (c : ℕ). is_text_class e.program c ≡ true) (sym (ap (λ (x : Option ObjectState). (found x).class) (newest_at e.before.heap new))) string_class;
      }

  builder_by : (fits : Bool) (o : ℕ) → (fits && is_object_of_class e (begins e) o (codes "java/lang/StringBuilder")) ≡ true → is_object_of_class e (begins e) o (codes "java/lang/StringBuilder") ≡ true
  builder_by fits o fit = (and_parts fits (is_object_of_class e (begins e) o (codes "java/lang/StringBuilder")) fit).1

  -- THE ROWS
  pub done_beside : (at : Site) (arguments : List Value) (o : ℕ) (m : TextMethod) → IsHeld e.before.heap o → is_fit_text e (begins e) arguments o m ≡ true → LeadsBeside e (text_done e at (begins e) arguments o m)
  done_beside at arguments o Length held fit = answers at arguments (value.Int (pos (length (text_of e.before o))) ∷ []) (tt, tt)
  done_beside at arguments o CharAt held fit =
      where_int (argument arguments 1 ∷ []) _ (λ i none.
      unless_thrown StringIndexOutOfBoundsException (in_bounds i (length (text_of e.before o))) _ (λ inside. answers at arguments (value.Int (pos (slice_index_or (text_of e.before o) (natural_of i) 0)) ∷ []) (tt, tt)))
  done_beside at arguments o Equals held fit = answers at arguments (truth (is_text_like e o (argument arguments 1)) ∷ []) (truth_fine e.before.heap (is_text_like e o (argument arguments 1)), tt)
  done_beside at arguments o Begin held fit = given_beside (answering e at arguments [] (begins e)) o [] (builder_given at arguments [] o held tt (builder_by (is_of_its_class e (begins e) arguments (text_argument Begin)) o fit)) (omega arith) (inl refl)
  done_beside at arguments o BeginWith held fit =
      where_not_null (referent_of (argument arguments 1)) _ (λ x. rewrites_beside (answering e at arguments [] (begins e)) o (text_of e.before x) (builder_given at arguments [] o held tt (builder_by (is_of_its_class e (begins e) arguments (text_argument BeginWith)) o fit)))
  done_beside at arguments o ToString held fit =
      rewrites_beside (answering e at arguments (value.Ref (next_object (begins e)) ∷ []) (instance_made e (class_called e.program (codes "java/lang/String")) (begins e))) (next_object (begins e)) (text_of e.before o) (string_given at arguments)
  done_beside at arguments o (Append kind) held fit =
      rewrites_beside (answering e at arguments (value.Ref o ∷ []) (begins e)) o (text_of e.before o ++ shown e.before kind (argument arguments 1)) (builder_given at arguments (value.Ref o ∷ []) o held (held, tt) (builder_by (is_of_its_class e (begins e) arguments (text_argument (Append kind))) o fit))
  done_beside at arguments o (Print kind) held fit = answers at arguments [] tt
  done_beside at arguments o (PrintLine kind) held fit = answers at arguments [] tt
  done_beside at arguments o EndLine held fit = answers at arguments [] tt
