-- What a call answers that does a row of texts, by what is answered of a machine that has none.
use Rattle.std.proofs.Common.{◌≡◌, ℕ, ◌<◌, ◌≤◌, Bool, true, false, List, [], ◌++◌, length, refl, sym, ap, subst, ◌∙◌, append-nil}
use Rattle.std.specs.Prelude.{if◌then◌else◌, nat_le, unwrap_or, ◌&&◌}
use Rattle.std.proofs.lemmas.Bool.{le-leb, lt-leb}
use Rattle.et_base.specs.declared.value.Value.{Value}
use Rattle.et_program.specs.Entries.{Linked}
use Rattle.et_state.specs.Answers.{SaysWhereDone}
use Rattle.et_state.specs.Moves.{Led}
use Rattle.et_state.specs.Outcome.{Outcome}
use Rattle.et_state.specs.Outcome as outcome
use Rattle.et_state.specs.Spoken.{spoken, silent}
use Rattle.et_state.specs.State.{Kept, MachineState, kept_of}
use Rattle.et_state.specs.Texts.{Texts, no_texts, text_units, longest_text, most_units, with_text}
use Rattle.et_state.specs.Threads.{as_entered, has_frame}
use Rattle.et_state.specs.Words.{thread_at, top}
use Rattle.et_state.specs.declared.ends.EventEnd.{EventEnd}
use Rattle.et_state.specs.declared.ends.EventEnd.TheVariants as ends
use Rattle.et_state.specs.declared.records.Record.{Record}
use Rattle.et_event.specs.Answered.{EventAnswers, TextAnswers}
use Rattle.et_event.specs.BuiltIns.{answering}
use Rattle.et_event.specs.Calls.{arguments_of}
use Rattle.et_event.specs.Checks.{throws_unless}
use Rattle.et_event.specs.Errors.{error_class}
use Rattle.et_event.specs.Moments.{Moment, Doing, moment, begins, fits_heap, goes, ill_typed, instance_made, next_object, pending_now, throws, with_thread_state}
use Rattle.et_event.specs.Sites.{Site}
use Rattle.et_event.specs.TextRows.{ends_with_texts, rewrites, text_given}
use Rattle.et_event.specs.declared.errors.GuestError.{GuestError}
use Rattle.et_event.specs.declared.errors.GuestError.TheVariants.{OutOfMemoryError}
use Rattle.et_strings.specs.Calls.{text_moment}

-- A STATE WITH TEXTS, and the same without, as the machine has it

pub led-silent : (next with : Kept) (m m' : MachineState) → m.guest.texts ≡ no_texts → spoken m.guest.texts with ≡ next → Led (kept_of m) next m' → Led (kept_of m) (silent with) m'
led-silent next with m m' none same led = subst (λ (k : Kept). Led (kept_of m) k m') (sym same ∙ ap (λ (t : Texts). spoken t with) none) led

-- what leads to it is answered alike where texts stand beside the machine
pub goes-beside : (next with : Kept) (records : List Record) (x : Texts) (end : EventEnd) (m m' : MachineState) (out out' : List Record) → m.guest.texts ≡ no_texts → spoken m.guest.texts with ≡ next
    → EventAnswers (outcome.Goes next records) end m m' out out' → TextAnswers (outcome.Goes with records) end m m' x with.guest.texts out out'
goes-beside next with records x ends.Done m m' out out' none same h = (led-silent next with m m' none same h.0, refl, h.1)
goes-beside next with records x _ m m' out out' none same h = absurd h

-- .. where all that was made fits
abbrev fitting : Bool → Kept → List Record → Outcome Kept
fitting fits next records = if fits then outcome.Goes next records else outcome.ObjectLimit

fitting-beside : (fits : Bool) (next with : Kept) (records : List Record) (end : EventEnd) (m m' : MachineState) (out out' : List Record) → m.guest.texts ≡ no_texts → spoken m.guest.texts with ≡ next
    → EventAnswers (fitting fits next records) end m m' out out' → TextAnswers (fitting fits with records) end m m' with.guest.texts with.guest.texts out out'
fitting-beside true next with records end m m' out out' none same h = goes-beside next with records with.guest.texts end m m' out out' none same h
fitting-beside false next with records ends.ObjectLimit m m' out out' none same h = (h.0, refl, h.1)
fitting-beside false next with records _ m m' out out' none same h = absurd h

-- A VALUE IS GIVEN, or nothing

abbrev pub AnswersValues : Linked → ℕ → ℕ → Site → List Value → EventEnd → MachineState → MachineState → List Record → Type 0
AnswersValues p t n at vs end m m' out = EventAnswers (goes (answering (moment p m t) at (arguments_of (moment p m t) n) vs (begins (moment p m t)))) end m m' out out

abbrev pub giving : Linked → MachineState → Texts → ℕ → ℕ → Site → List Value → Doing
giving p m x t n at vs = answering (text_moment p m x t) at (arguments_of (text_moment p m x t) n) vs (begins (text_moment p m x t))

pub given-beside : (p : Linked) (m m' : MachineState) (x : Texts) (t n : ℕ) (at : Site) (vs : List Value) (end : EventEnd) (out : List Record) → m.guest.texts ≡ no_texts → AnswersValues p t n at vs end m m' out
    → TextAnswers (goes (giving p m x t n at vs)) end m m' x x out out
given-beside p m m' x t n at vs end out none h =
    goes-beside (answering (moment p m t) at (arguments_of (moment p m t) n) vs (begins (moment p m t))).state (giving p m x t n at vs).state _ x end m m' out out none refl h

-- AN ERROR IS THROWN

abbrev thrown : Moment → GuestError → Bool → Doing
thrown e error has =
    let d : Doing = if has then begins e else with_thread_state e (as_entered (thread_at (begins e).state.guest e.thread)) (begins e) in
    pending_now e (next_object (begins e)) (instance_made e (error_class e.program error) d)

abbrev thrown_at : Moment → GuestError → Bool → Outcome Kept
thrown_at e error has = fitting (fits_heap (thrown e error has).state.heap) (thrown e error has).state (thrown e error has).records

by_frame : (p : Linked) (m m' : MachineState) (x : Texts) (t : ℕ) (error : GuestError) (end : EventEnd) (out out' : List Record) (has : Bool) → m.guest.texts ≡ no_texts → EventAnswers (thrown_at (moment p m t) error has) end m m' out out'
    → TextAnswers (thrown_at (text_moment p m x t) error has) end m m' x x out out'
by_frame p m m' x t error end out out' true none h =
    let d : Doing = thrown (moment p m t) error true in
    fitting-beside (fits_heap d.state.heap) d.state (thrown (text_moment p m x t) error true).state d.records end m m' out out' none refl h
by_frame p m m' x t error end out out' false none h =
    let d : Doing = thrown (moment p m t) error false in
    fitting-beside (fits_heap d.state.heap) d.state (thrown (text_moment p m x t) error false).state d.records end m m' out out' none refl h

pub thrown-beside : (p : Linked) (m m' : MachineState) (x : Texts) (t : ℕ) (error : GuestError) (end : EventEnd) (out out' : List Record) → m.guest.texts ≡ no_texts → EventAnswers (throws (moment p m t) error (begins (moment p m t))) end m m' out out'
    → TextAnswers (throws (text_moment p m x t) error (begins (text_moment p m x t))) end m m' x x out out'
thrown-beside p m m' x t error end out out' none h = by_frame p m m' x t error end out out' (has_frame (thread_at m.guest t).frames) none h

-- IT HAS NO MEANING

pub ill-beside : (p : Linked) (m : MachineState) (x : Texts) (t : ℕ) (end : EventEnd) (out : List Record) → end ≡ ends.IllTyped (unwrap_or (top m.guest t).method 0) (top m.guest t).pc → TextAnswers (ill_typed (text_moment p m x t)) end m m x x out out
ill-beside p m x t end out is = subst (λ (k : EventEnd). TextAnswers (ill_typed (text_moment p m x t)) k m m x x out out) (sym is) (refl, refl, refl, refl, refl)

-- A TEXT IS GIVEN

both_full : (a b : Bool) → b ≡ false → (a && b) ≡ false
both_full true b is = is
both_full false b is = refl

-- it is short enough
shorter : (e : Moment) (o : ℕ) (units : List ℕ) (d : Doing) → length units ≤ longest_text → rewrites e (begins e) o units d ≡ ends_with_texts (text_given o units d)
shorter e o units d short = ap (λ (b : Bool). throws_unless e (begins e) OutOfMemoryError b (ends_with_texts (text_given o units d))) (le-leb (length units) longest_text short)

abbrev ending : ℕ → List ℕ → Doing → Bool → Outcome Kept
ending o units d fits = if fits then goes (text_given o units d) else outcome.ObjectLimit

-- .. and all fit
pub rewrites-goes : (e : Moment) (o : ℕ) (units : List ℕ) (d : Doing) → length units ≤ longest_text → fits_heap d.state.heap ≡ true → text_units (with_text o units d.state.guest.texts) ≤ most_units
    → rewrites e (begins e) o units d ≡ goes (text_given o units d)
rewrites-goes e o units d short fits few =
    let total : ℕ = text_units (with_text o units d.state.guest.texts) in
    shorter e o units d short
    ∙ (ap (λ (b : Bool). ending o units d (b && nat_le total most_units)) fits ∙ ap (λ (b : Bool). ending o units d b) (le-leb total most_units few))

-- .. and all units don't
pub rewrites-limit : (e : Moment) (o : ℕ) (units : List ℕ) (d : Doing) → length units ≤ longest_text → most_units < text_units (with_text o units d.state.guest.texts) → rewrites e (begins e) o units d ≡ outcome.ObjectLimit
rewrites-limit e o units d short many =
    let total : ℕ = text_units (with_text o units d.state.guest.texts) in
    shorter e o units d short ∙ ap (λ (b : Bool). ending o units d b) (both_full (fits_heap d.state.heap) (nat_le total most_units) (lt-leb total most_units many))

-- it is too long
pub rewrites-throws : (e : Moment) (o : ℕ) (units : List ℕ) (d : Doing) → longest_text < length units → rewrites e (begins e) o units d ≡ throws e OutOfMemoryError (begins e)
rewrites-throws e o units d long = ap (λ (b : Bool). throws_unless e (begins e) OutOfMemoryError b (ends_with_texts (text_given o units d))) (lt-leb (length units) longest_text long)

-- WHAT DOESN'T FIT

pub limit-beside : (o : Outcome Kept) (m : MachineState) (x : Texts) (out : List Record) → o ≡ outcome.ObjectLimit → TextAnswers o ends.ObjectLimit m m x x out out
limit-beside o m x out is = subst (λ (k : Outcome Kept). TextAnswers k ends.ObjectLimit m m x x out out) (sym is) (refl, refl, refl)

-- WHAT IS PRINTED

pub says : (d : Doing) (end : EventEnd) (m m' : MachineState) (x x' : Texts) (out out' : List Record) (bytes old new : List ℕ) → TextAnswers (goes d) end m m' x x' out out' → new ≡ old ++ bytes → SaysWhereDone end bytes old new
says d ends.Done m m' x x' out out' bytes old new h is = is
says d _ m m' x x' out out' bytes old new h is = absurd h

pub says-nothing : (end : EventEnd) (old : List ℕ) → SaysWhereDone end [] old old
says-nothing ends.Done old = sym (append-nil old)
says-nothing ends.Waited old = sym (append-nil old)
says-nothing (ends.IllTyped method pc) old = refl
says-nothing ends.ObjectLimit old = refl
says-nothing (ends.Native method) old = refl
