-- The turn of an initializer: what it waits for is needed, or its class goes on.
use Rattle.std.proofs.Common.{◌≡◌, ℕ, ◌<◌, Bool, true, false, List, length, All, Result, Option, sym, ◌∙◌, ap, subst, get_or, take, arith}
use Rattle.std.specs.Prelude.{◌==◌, if◌then◌else◌, IfOk, find, take_while, not}
use Rattle.std.specs.List.{list_all}
use Rattle.std.proofs.lemmas.List.{get_or_default, take_all}
use Rattle.et_base.proofs.Firsts.{true_false}
use Rattle.et_state.specs.declared.class_state.ClassState.{ClassState}
use Rattle.et_state.specs.declared.class_state.ClassState.TheVariants.{Untouched, Begun, Done, Failed}
use Rattle.et_state.specs.State.{Kept, MachineState, kept_of}
use Rattle.et_state.specs.Words.{class_state_at}
use Rattle.et_program.specs.Entries.{Linked, class_at}
use Rattle.et_state.specs.declared.records.Record.{Record}
use Rattle.et_state.specs.declared.ends.EventEnd.{EventEnd}
use Rattle.et_state.specs.Outcome.{Outcome}
use Rattle.et_event.specs.Moments.{Moment, moment, Doing, begins, ends_event as ending}
use Rattle.et_event.specs.Answered.{EventAnswers}
use Rattle.et_event.specs.Sound.{IsSoundFor}
use Rattle.et_event.specs.Initialization.{prepared, enters_clinit, is_quiet, is_ready, is_ready_state, initialized, initialization_step, step_by}
use Rattle.et_initialize.specs.declared.needs.Need.{Need}
use Rattle.et_initialize.specs.declared.needs.Need.TheVariants.{Ready, Waits, Quiet, Begins}
use Rattle.et_initialize.specs.Needs.{need_by, need_of, met}
use Rattle.et_event.specs.InitializationOrder.{IsInOrder}
use Rattle.et_initialize.proofs.Needing.{begins_untouched}
use Rattle.et_initialize.proofs.Preparing.{blocked, blocker_state, turns_none, turns_prepared, all_pass, first_fails}
use Rattle.et_initialize.specs.Asked.{after}

-- an answer to the same outcome
pub answers_alike : {E : Type 0} (r : Result EventEnd E) (x y : Outcome Kept) (m m' : MachineState) (out out' : List Record) → x ≡ y → IfOk r (λ end. EventAnswers y end m m' out out') → IfOk r (λ end. EventAnswers x end m m' out out')
answers_alike r x y m m' out out' e h = subst (λ (z : Outcome Kept). IfOk r (λ end. EventAnswers z end m m' out out')) (sym e) h

-- A BLOCKER
pub met_at : (p : Linked) (t b : ℕ) (ks : List ℕ) (m : MachineState) (n k : Need) → IsInOrder p → All (λ k. k < length p.classes) ks → IsSoundFor p (kept_of m) → list_all (is_ready (moment p m t) (begins (moment p m t))) ks ≡ true
    → is_ready (moment p m t) (begins (moment p m t)) b ≡ false → n ≡ need_of (moment p m t) (begins (moment p m t)) b → n ≡ k → initialized (moment p m t) (after p m t ks) b ending ≡ met (moment p m t) (after p m t ks) b ending k
met_at p t b ks m n k has all sound ready not_ready e is =
    let q = moment p m t in
    let d = begins q in
    let turns = turns_prepared q d d ks has all ready (turns_none q d sound.classes.0) in
    blocked q d (after p m t ks) b ending has not_ready turns ∙ ap (λ (x : Need). met q (after p m t ks) b ending x) (sym e ∙ is)

-- .. it is as far as it was
blocked_state : (p : Linked) (t b : ℕ) (ks : List ℕ) (m : MachineState) → IsInOrder p → All (λ k. k < length p.classes) ks → IsSoundFor p (kept_of m) → list_all (is_ready (moment p m t) (begins (moment p m t))) ks ≡ true
    → is_ready (moment p m t) (begins (moment p m t)) b ≡ false → class_state_at (after p m t ks).state.guest b ≡ class_state_at m.guest b
blocked_state p t b ks m has all sound ready not_ready =
    let q = moment p m t in
    let d = begins q in
    blocker_state q d (after p m t ks) b has not_ready (turns_prepared q d d ks has all ready (turns_none q d sound.classes.0))

-- .. untouched where it begins
pub blocked_untouched : (p : Linked) (t b : ℕ) (ks : List ℕ) (m : MachineState) (n : Need) → IsInOrder p → All (λ k. k < length p.classes) ks → IsSoundFor p (kept_of m) → list_all (is_ready (moment p m t) (begins (moment p m t))) ks ≡ true
    → is_ready (moment p m t) (begins (moment p m t)) b ≡ false → n ≡ need_of (moment p m t) (begins (moment p m t)) b → n ≡ Begins → class_state_at (after p m t ks).state.guest b ≡ Untouched
blocked_untouched p t b ks m n has all sound ready not_ready e is =
    blocked_state p t b ks m has all sound ready not_ready ∙ begins_untouched (moment p m t) (begins (moment p m t)) b (class_state_at m.guest b) (sym e ∙ is)

-- .. and the event does not go on
ready_either : (b : Bool) → b ≡ false → ((if b then Ready else Waits) ≡ Ready → ⊥) × ((if b then Ready else Waits) ≡ Quiet → ⊥)
ready_either true h = absurd (true_false h)
ready_either false h = (λ e. cc, λ e. cc)

quiet_either : (b : Bool) → b ≡ false → ((if b then Quiet else Begins) ≡ Ready → ⊥) × ((if b then Quiet else Begins) ≡ Quiet → ⊥)
quiet_either true h = absurd (true_false h)
quiet_either false h = (λ e. cc, λ e. cc)

stopped : (e : Moment) (d : Doing) (b : ℕ) (s : ClassState) → is_ready_state e d b s ≡ false → (need_by e d b s ≡ Ready → ⊥) × (need_by e d b s ≡ Quiet → ⊥)
stopped e d b Untouched h = quiet_either (is_quiet e d b) h
stopped e d b (Begun t) h = ready_either (t == e.thread) h
stopped e d b Done h = absurd (true_false h)
stopped e d b Failed h = (λ e. cc, λ e. cc)

pub not_ready : (p : Linked) (t b : ℕ) (m : MachineState) (n : Need) → is_ready (moment p m t) (begins (moment p m t)) b ≡ false → n ≡ need_of (moment p m t) (begins (moment p m t)) b → n ≡ Ready → ⊥
not_ready p t b m n h e is = (stopped (moment p m t) (begins (moment p m t)) b (class_state_at m.guest b) h).0 (sym e ∙ is)

pub not_quiet : (p : Linked) (t b : ℕ) (m : MachineState) (n : Need) → is_ready (moment p m t) (begins (moment p m t)) b ≡ false → n ≡ need_of (moment p m t) (begins (moment p m t)) b → n ≡ Quiet → ⊥
not_quiet p t b m n h e is = (stopped (moment p m t) (begins (moment p m t)) b (class_state_at m.guest b) h).1 (sym e ∙ is)

-- THE STEP of an initializer
pub step_on : (p : Linked) (t c : ℕ) (m : MachineState) (ks : List ℕ) → ks ≡ (class_at p c).info.prerequisites → list_all (is_ready (moment p m t) (begins (moment p m t))) ks ≡ true
    → initialization_step (moment p m t) c ≡ enters_clinit (moment p m t) c (class_at p c).info.clinit (after p m t ks)
step_on p t c m ks e ready =
    let q = moment p m t in
    let r : ℕ → Bool = is_ready q (begins q) in
    let h = all_pass r ks ready in
    ap (λ (xs : List ℕ). step_by q c (prepared q (take_while r xs) (begins q)) (find (λ k. not (r k)) xs)) (sym e)
    ∙ (ap (λ (xs : List ℕ). step_by q c (prepared q xs (begins q)) (find (λ k. not (r k)) ks)) h.0
    ∙ ap (λ (o : Option ℕ). step_by q c (after p m t ks) o) h.1)

pub all_within : (n : ℕ) (ks js : List ℕ) → ks ≡ js → All (λ k. k < n) js → All (λ k. k < n) ks
all_within n ks js e all = subst (λ (xs : List ℕ). All (λ k. k < n) xs) (sym e) all

pub all_ready : (e : Moment) (ks : List ℕ) (n : ℕ) → n ≡ length ks → list_all (is_ready e (begins e)) (take n ks) ≡ true → list_all (is_ready e (begins e)) ks ≡ true
all_ready e ks n is ready = subst (λ (xs : List ℕ). list_all (is_ready e (begins e)) xs ≡ true) (take_all n ks (omega arith)) ready

same_blocker : (ks : List ℕ) (n b : ℕ) → n < length ks → b ≡ get_or ks n b → get_or ks n 0 ≡ b
same_blocker ks n b lt read = sym (read ∙ get_or_default ks n b 0 lt)

pub blocker_fails : (e : Moment) (ks : List ℕ) (n b : ℕ) → n < length ks → b ≡ get_or ks n b → is_ready e (begins e) (get_or ks n 0) ≡ false → is_ready e (begins e) b ≡ false
blocker_fails e ks n b lt read fails = subst (λ (i : ℕ). is_ready e (begins e) i ≡ false) (same_blocker ks n b lt read) fails

pub step_blocked : (p : Linked) (t c : ℕ) (m : MachineState) (ks : List ℕ) (n b : ℕ) → ks ≡ (class_at p c).info.prerequisites → n < length ks → b ≡ get_or ks n b → list_all (is_ready (moment p m t) (begins (moment p m t))) (take n ks) ≡ true
    → is_ready (moment p m t) (begins (moment p m t)) (get_or ks n 0) ≡ false → initialization_step (moment p m t) c ≡ initialized (moment p m t) (after p m t (take n ks)) b ending
step_blocked p t c m ks n b e lt read ready fails =
    let q = moment p m t in
    let r : ℕ → Bool = is_ready q (begins q) in
    let h = first_fails r ks n lt ready fails in
    ap (λ (xs : List ℕ). step_by q c (prepared q (take_while r xs) (begins q)) (find (λ k. not (r k)) xs)) (sym e)
    ∙ (ap (λ (xs : List ℕ). step_by q c (prepared q xs (begins q)) (find (λ k. not (r k)) ks)) h.0
    ∙ (ap (λ (o : Option ℕ). step_by q c (after p m t (take n ks)) o) h.1
    ∙ ap (λ (i : ℕ). initialized q (after p m t (take n ks)) i ending) (same_blocker ks n b lt read)))
