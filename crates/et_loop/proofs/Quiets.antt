-- Quiet events, one after the other: as the guest does them, and as events of the history.
use Rattle.std.proofs.Common.{◌≡◌, ℕ, zero, suc, ◌+◌, ◌-◌, ◌%◌, ◌<◌, ◌≤◌, ◌==◌, ◌++◌, Bool, true, false, if◌then◌else◌, List, [], Contains, length, Option, Some, None, refl, sym, ◌∙◌, ap, subst, inl, inr, arith}
use Rattle.std.specs.Prelude.{slice_index}
use Rattle.std.proofs.lemmas.Grind.{common_steps}
use Rattle.et_base.specs.declared.value.End.{End}
use Rattle.et_base.specs.declared.value.End.TheVariants as how
use Rattle.et_graph.specs.Graph.{Graph, IsMade, IsReached}
use Rattle.et_graph.specs.Steps.{Step}
use Rattle.et_graph.proofs.Walks.{reached_all}
use Rattle.et_graph.proofs.Sound.{stepped_pair, fresh_range}
use Rattle.et_graph.proofs.Ties.{tied_pair}
use Rattle.et_state.specs.declared.records.Record.{Record}
use Rattle.et_state.specs.declared.ends.EventEnd.{EventEnd}
use Rattle.et_state.specs.declared.ends.EventEnd.TheVariants as ends
use Rattle.et_state.specs.Answers.{Answers, SaysWhereDone, TicksWhereDone}
use Rattle.et_state.specs.Outcome.{Outcome, state_after, records_of, end_by}
use Rattle.et_state.specs.Outcome as outcome
use Rattle.et_state.specs.Naming.{Mentions, mentions_after, lines_of}
use Rattle.et_state.specs.History.{Setting, is_flush_point, picked_turn, outcome_step, ending}
use Rattle.et_binary.specs.Formats.{lines_written_in}
use Rattle.et_loop.specs.Kept.{IsStepTo, Settles}
use Rattle.et_loop.specs.Quiet.{event_at, IsQuiet, AreQuiet, GoesQuietly, GoQuietly, IsStep}
use Rattle.et_loop.specs.Run.{end_after, StepsTo, StopsAt}
use Rattle.et_loop.specs.Said.{SaysStep}
use Rattle.et_loop.specs.Stamping.{AreMade, HasStamps, StepsWhereDone}
use Rattle.et_loop.specs.Told.{IsToldByStamps}
use Rattle.et_loop.specs.Visits.{visits_of_event}
use Rattle.et_loop.proofs.Counts.{event_allowed}
use Rattle.et_loop.proofs.Turns.{history_sound}

-- WHAT IS REFERRED TO WAS MADE

pub reached_there : (g : Graph) → AreMade g → (o : ℕ) → IsReached g o → IsMade g o
reached_there g made = reached_all (λ o. IsMade g o) g made.roots (λ u x c m. made.pairs u x c)

pub step_there : (g h : Graph) (lost : List ℕ) → AreMade g → IsStepTo g h lost → AreMade h
step_there g h lost made s =
    let step : Step = record { after = h; fresh = s.0; lost = lost } in
    let count : h.made ≡ g.made + length s.0 = s.1.draft.made in
    let more : (o : ℕ) → IsMade g o → IsMade h o = λ o m. (m.0, omega (arith, m.1, count)) in
    record {
      roots = λ r c. (s.1.draft.roots_held r c).0;
      pairs = λ u x c. elim (stepped_pair g step u x c) [
        | inl old ↦ more x (made.pairs u x old)
        | inr new ↦ elim ((s.1.draft.pairs_known u x new).1) [
          | inl r ↦ more x (reached_there g made x r)
          | inr f ↦ let range = fresh_range g step s.1 x f in (omega (arith, range.0), omega (arith, range.1, count))
        ]
      ];
    }

pub settled_there : (due : Bool) (g h : Graph) → Settles due g h → AreMade g → AreMade h
settled_there true g h c made =
    let middle : Graph = c.0 in
    let more : (o : ℕ) → IsMade g o → IsMade middle o = λ o m. (m.0, omega (arith, m.1, c.1.made)) in
    let there : AreMade middle = record {
      roots = λ r d. more r (made.roots r (subst (λ (os : List ℕ). Contains os r) c.1.roots d));
      pairs = λ u x d. more x (made.pairs u x ((c.1.pairs u x).0 d).0);
    } in
    let on : (o : ℕ) → IsMade middle o → IsMade h o = λ o m. (m.0, omega (arith, m.1, c.2.made)) in
    record {
      roots = λ r d. on r (there.roots r (subst (λ (os : List ℕ). Contains os r) c.2.roots d));
      pairs = λ u x d. elim (tied_pair middle h c.2 u x d) [
        | inl old ↦ on x (there.pairs u x old)
        | inr both ↦ on x (reached_there middle there x both.1)
      ];
    }
settled_there false g h e made = subst (λ (x : Graph). AreMade x) (sym e) made

pub settled_stamps : (due : Bool) (g h : Graph) (stamps : List ℕ) → Settles due g h → HasStamps g stamps → HasStamps h stamps
settled_stamps true g h stamps c has = record { few = omega (arith, has.few, c.1.made, c.2.made); places = omega (arith, has.places, c.1.made, c.2.made) }
settled_stamps false g h stamps e has = subst (λ (x : Graph). HasStamps x stamps) (sym e) has

pub told_there : (graphs : ℕ → Graph) (e : ℕ) (g : Graph) (stamps : ℕ → ℕ) → IsToldByStamps graphs e g stamps → AreMade g
told_there graphs e g stamps told =
    let kept = told.1.kept in
    let sound = history_sound told.0 told.1.history in
    record {
      roots = λ r c. let m = sound.roots_made r (subst (λ (os : List ℕ). Contains os r) kept.roots c) in (m.0, omega (arith, m.1, kept.made));
      pairs = λ u x c. let m = (sound.pairs_made u x ((kept.pairs u x).0 c).0).1 in (m.0, omega (arith, m.1, kept.made));
    }

-- WHAT AN EVENT ANSWERS

pub none_by : {S : Type 0} (t u : ℕ) (o : Outcome S) → end_by t o ≡ None → end_by u o ≡ None
none_by t u (outcome.Goes next records) e = refl
none_by t u (outcome.Waits next) e = refl
none_by t u (outcome.IllTyped method pc) e = absurd (let h : Some (how.IllTyped t method pc) ≡ None = e in cc)
none_by t u outcome.ObjectLimit e = absurd (let h : Some how.ObjectLimit ≡ None = e in cc)

-- what is answered tells how the history goes on
module _ {S : Type 0} (t : ℕ) (o : Outcome S) (end : EventEnd) (s s' : S) (records : List Record) where
  pub record IsAnswered : Type 0 where
    pub next : end_by t o ≡ end_after t end
    pub state : s' ≡ state_after s o
    pub told : records ≡ records_of o

pub answered_is : {S : Type 0} (t : ℕ) (o : Outcome S) (end : EventEnd) (s s' : S) (records : List Record) → Answers o end s s' [] records → IsAnswered t o end s s' records
answered_is t (outcome.Goes next told) ends.Done s s' records h = record { next = refl; state = h.0; told = h.1 }
answered_is t (outcome.Waits next) ends.Waited s s' records h = record { next = refl; state = h.0; told = h.1 }
answered_is t (outcome.IllTyped m p) (ends.IllTyped method pc) s s' records h = record {
  next = ap (λ (x : ℕ). Some (how.IllTyped t x p)) (sym h.0) ∙ ap (λ (x : ℕ). Some (how.IllTyped t method x)) (sym h.1);
  state = h.2;
  told = h.3;
}
answered_is t outcome.ObjectLimit ends.ObjectLimit s s' records h = record { next = refl; state = h.0; told = h.1 }
answered_is t _ _ s s' records h = absurd h

-- where the history ends, nothing was done
ended_at : {S : Type 0} (t : ℕ) (o : Outcome S) (s : S) (end : End) → end_by t o ≡ Some end → state_after s o ≡ s
ended_at t (outcome.Goes next told) s end e = absurd (let h : None ≡ Some end = e in cc)
ended_at t (outcome.Waits next) s end e = absurd (let h : None ≡ Some end = e in cc)
ended_at t (outcome.IllTyped m p) s end e = refl
ended_at t outcome.ObjectLimit s end e = refl

native_never : {S : Type 0} (method : ℕ) (o : Outcome S) (s s' : S) (records : List Record) → Answers o (ends.Native method) s s' [] records → ⊥
native_never method (outcome.Goes next told) s s' records h = h
native_never method (outcome.Waits next) s s' records h = h
native_never method (outcome.IllTyped m p) s s' records h = h
native_never method outcome.ObjectLimit s s' records h = h

pub is_native : {S : Type 0} (method : ℕ) (end : EventEnd) (o : Outcome S) (s s' : S) (records : List Record) → end ≡ ends.Native method → Answers o end s s' [] records → ⊥
is_native method end o s s' records e h = native_never method o s s' records (subst (λ (x : EventEnd). Answers o x s s' [] records) e h)

-- .. and where it goes on, a step was done, and the clock went on
pub step_done : (t : ℕ) (end : EventEnd) (g h : Graph) (lost : List ℕ) → ((method : ℕ) → end ≡ ends.Native method → ⊥) → end_after t end ≡ None → StepsWhereDone end g h lost → IsStepTo g h lost
step_done t ends.Done g h lost never after s = s
step_done t ends.Waited g h lost never after s = s
step_done t (ends.IllTyped method pc) g h lost never after s = absurd (let e : Some (how.IllTyped t method pc) ≡ None = after in cc)
step_done t ends.ObjectLimit g h lost never after s = absurd (let e : Some how.ObjectLimit ≡ None = after in cc)
step_done t (ends.Native method) g h lost never after s = absurd (never method refl)

pub tick_done : (t : ℕ) (end : EventEnd) (old new : ℕ) → ((method : ℕ) → end ≡ ends.Native method → ⊥) → end_after t end ≡ None → TicksWhereDone end old new → new ≡ old + 1
tick_done t ends.Done old new never after s = s
tick_done t ends.Waited old new never after s = s
tick_done t (ends.IllTyped method pc) old new never after s = absurd (let e : Some (how.IllTyped t method pc) ≡ None = after in cc)
tick_done t ends.ObjectLimit old new never after s = absurd (let e : Some how.ObjectLimit ≡ None = after in cc)
tick_done t (ends.Native method) old new never after s = absurd (never method refl)

-- what it prints, where the event was that of this thread
say_end : {S : Type 0} (given : Setting S) (said : S → ℕ → List ℕ) (e : ℕ) (s : S) (bytes : List ℕ) (thread : ℕ) (end : EventEnd) → ((method : ℕ) → end ≡ ends.Native method → ⊥) → SaysWhereDone end (said s (picked_turn given (suc e) s)) [] bytes
    → SaysStep given said e s bytes (end_after thread end)
say_end given said e s bytes thread ends.Done never says = says
say_end given said e s bytes thread ends.Waited never says = says
say_end given said e s bytes thread (ends.IllTyped method pc) never says = says
say_end given said e s bytes thread ends.ObjectLimit never says = says
say_end given said e s bytes thread (ends.Native method) never says = absurd (never method refl)

-- THE EVENT OF THE THREAD AT A PLACE, which is the one that the history picks
module _ {S : Type 0} (given : Setting S) (said : S → ℕ → List ℕ) (place e : ℕ) (s : S) (some : 0 < length (given.rule.unended s)) (within : e < given.limit) (turn : given.pick (suc e) % length (given.rule.unended s) ≡ place) where
  abbrev at_place : Outcome S
  at_place = event_at given.rule.event said given.rule.unended given.rule.graph place s

  pub thread_is : slice_index (given.rule.unended s) place ≡ picked_turn given (suc e) s
  thread_is = ap (λ (k : ℕ). slice_index (given.rule.unended s) k) (sym turn)

  outcome_is : at_place ≡ outcome_step given (suc e) s
  outcome_is = ap (λ (t : ℕ). given.rule.event s t) thread_is

  not_over : (length (given.rule.unended s) == 0) ≡ false
  not_over = grind (arith, common_steps)

  not_at_limit : (e == given.limit) ≡ false
  not_at_limit = grind (arith, common_steps)

  ending_is : (end : Option End) → end_by (slice_index (given.rule.unended s) place) at_place ≡ end → ending given e s ≡ end
  ending_is end is =
      ap (λ (b : Bool). if b then Some how.Finished else (if e == given.limit then Some how.EventLimit else end_by (picked_turn given (suc e) s) (outcome_step given (suc e) s))) not_over
      ∙ (ap (λ (b : Bool). if b then Some how.EventLimit else end_by (picked_turn given (suc e) s) (outcome_step given (suc e) s)) not_at_limit
      ∙ (ap (λ (t : ℕ). end_by t (given.rule.event s t)) (sym thread_is) ∙ is))

  pub visits_are : (old new : ℕ) → new ≤ old + 8 + ((given.rule.graph (state_after s at_place)).made - (given.rule.graph s).made) → new ≤ old + visits_of_event given e s
  visits_are old new few = event_allowed given e s (slice_index (given.rule.unended s) place) old new not_over not_at_limit thread_is few

  pub quiet_goes : (s' : S) (old new : List ℕ) → is_flush_point given.interval e ≡ false → IsQuiet given.rule.event said given.rule.unended given.rule.graph place e s s' old new → GoesQuietly given said e s s' old new
  quiet_goes s' old new between h = record {
    between = between;
    goes = ending_is None (none_by 0 (slice_index (given.rule.unended s) place) at_place h.done);
    state = h.state ∙ ap (λ (o : Outcome S). state_after s o) outcome_is;
    told = ap (λ (o : Outcome S). records_of o) (sym outcome_is) ∙ h.told;
    unsaid = ap (λ (t : ℕ). said s t) (sym thread_is) ∙ h.unsaid;
    made = h.made;
    marks = h.marks;
  }

  module _ (end : EventEnd) (s' : S) (records : List Record) (answers : Answers at_place end s s' [] records) (m m' : Mentions) (out out' : List ℕ) (thread : ℕ) (is : thread ≡ slice_index (given.rule.unended s) place) where
    answered : IsAnswered (slice_index (given.rule.unended s) place) at_place end s s' records
    answered = answered_is (slice_index (given.rule.unended s) place) at_place end s s' records answers

    how_is : (next : Option End) → end_after thread end ≡ next → ending given e s ≡ next
    how_is next after = ending_is next (answered.next ∙ (ap (λ (t : ℕ). end_after t end) (sym is) ∙ after))

    pub last_says : (next : Option End) (bytes : List ℕ) → end_after thread end ≡ next → SaysWhereDone end (said s (slice_index (given.rule.unended s) place)) [] bytes → SaysStep given said e s bytes next
    last_says next bytes after says =
        subst (λ (x : Option End). SaysStep given said e s bytes x) after
        (say_end given said e s bytes thread end (λ method native. is_native method end at_place s s' records native answers) (subst (λ (t : ℕ). SaysWhereDone end (said s t) [] bytes) thread_is says))

    pub last_goes : end_after thread end ≡ None → m' ≡ mentions_after given.names m records → out' ≡ out ++ lines_written_in given.format (lines_of given.names m records) → StepsTo given e s m s' m' out out'
    last_goes after mentions lines =
        let told : records ≡ records_of (outcome_step given (suc e) s) = answered.told ∙ ap (λ (o : Outcome S). records_of o) outcome_is in
        record {
          goes = how_is None after;
          state = answered.state ∙ ap (λ (o : Outcome S). state_after s o) outcome_is;
          mentions = mentions ∙ ap (λ (rs : List Record). mentions_after given.names m rs) told;
          lines = lines ∙ ap (λ (rs : List Record). out ++ lines_written_in given.format (lines_of given.names m rs)) told;
        }

    pub last_stops : (over : End) → end_after thread end ≡ Some over → m' ≡ m → out' ≡ out → StopsAt given e s m s' m' out out' over
    last_stops over after mentions lines = record {
      ends = how_is (Some over) after;
      state = answered.state ∙ ended_at (slice_index (given.rule.unended s) place) at_place s over (answered.next ∙ (ap (λ (t : ℕ). end_after t end) (sym is) ∙ after));
      mentions = mentions;
      lines = lines;
    }

-- THE HISTORY ENDS BEFORE ANY EVENT
pub ending_finished : {S : Type 0} (given : Setting S) (e : ℕ) (s : S) → length (given.rule.unended s) ≡ 0 → ending given e s ≡ Some how.Finished
ending_finished given e s none =
    let over : (length (given.rule.unended s) == 0) ≡ true = grind (arith, common_steps) in
    ap (λ (b : Bool). if b then Some how.Finished else (if e == given.limit then Some how.EventLimit else end_by (picked_turn given (suc e) s) (outcome_step given (suc e) s))) over

pub ending_limit : {S : Type 0} (given : Setting S) (e : ℕ) (s : S) → 0 < length (given.rule.unended s) → e ≡ given.limit → ending given e s ≡ Some how.EventLimit
ending_limit given e s some at =
    let on : (length (given.rule.unended s) == 0) ≡ false = grind (arith, common_steps) in
    let over : (e == given.limit) ≡ true = grind (arith, common_steps) in
    ap (λ (b : Bool). if b then Some how.Finished else (if e == given.limit then Some how.EventLimit else end_by (picked_turn given (suc e) s) (outcome_step given (suc e) s))) on
    ∙ ap (λ (b : Bool). if b then Some how.EventLimit else end_by (picked_turn given (suc e) s) (outcome_step given (suc e) s)) over

pub step_over : {S : Type 0} (given : Setting S) (said : S → ℕ → List ℕ) (e : ℕ) (s : S) (stamps : List ℕ) (visits : ℕ) (m : Mentions) (out bytes : List ℕ) (over : End) → ending given e s ≡ Some over → bytes ≡ []
    → IsStep given said e s stamps visits visits m s m out out bytes stamps (record { quiet = 0; end = Some over })
unfolding GoQuietly
step_over given said e s stamps visits m out bytes over is none =
    let now : e ≡ e + 0 = omega arith in
    record {
      mid = s;
      between = stamps;
      comes = record { events = (refl, refl); later = λ more. absurd (omega arith); visits = omega arith };
      goes = record { ends = subst (λ (n : ℕ). ending given n s ≡ Some over) now is; state = refl; mentions = refl; lines = refl };
      says = none;
      stamped = refl;
    }

-- SO MANY QUIET EVENTS
module _ {S : Type 0} (given : Setting S) (said : S → ℕ → List ℕ) (place most count e : ℕ) (s : S) (old : List ℕ) (counted : length (given.rule.unended s) ≡ count) (some : 0 < count)
    (turn : (k : ℕ) → k < most → given.pick (e + 1 + k) % count ≡ place) (limit : e + most ≤ given.limit) (flushes : 1 < most → (k : ℕ) → k < most → is_flush_point given.interval (e + k) ≡ false) where
  -- what they lead to
  pub record IsAfter (k : ℕ) (s' : S) (new : List ℕ) : Type 0 where
    pub go : GoQuietly given said k e s s' old new
    pub same_count : length (given.rule.unended s') ≡ count
    pub same_turn : slice_index (given.rule.unended s') place ≡ slice_index (given.rule.unended s) place
    pub made : (given.rule.graph s').made ≡ (given.rule.graph s).made
    pub long : length new ≡ length old
    pub there : AreMade (given.rule.graph s) → AreMade (given.rule.graph s')

  pub turn_at : (k : ℕ) (s' : S) → k < most → length (given.rule.unended s') ≡ count → given.pick (suc (e + k)) % length (given.rule.unended s') ≡ place
  turn_at k s' lt same =
      let next : e + 1 + k ≡ suc (e + k) = omega arith in
      subst (λ (n : ℕ). given.pick (suc (e + k)) % n ≡ place) (sym same) (subst (λ (n : ℕ). given.pick n % count ≡ place) next (turn k lt))

  pub quiet_after : (k : ℕ) (s' : S) (new : List ℕ) → k < most → AreQuiet given.rule.event said given.rule.unended given.rule.graph place k e s s' old new → IsAfter k s' new
  unfolding AreQuiet GoQuietly
  quiet_after zero s' new lt h = record {
    go = h;
    same_count = ap (λ (x : S). length (given.rule.unended x)) h.0 ∙ counted;
    same_turn = ap (λ (x : S). slice_index (given.rule.unended x) place) h.0;
    made = ap (λ (x : S). (given.rule.graph x).made) h.0;
    long = ap (λ (xs : List ℕ). length xs) h.1;
    there = λ made. subst (λ (x : S). AreMade (given.rule.graph x)) (sym h.0) made;
  }
  quiet_after (suc k) s' new lt h =
      let mid : S = h.0 in
      let between : List ℕ = h.1 in
      let before : IsAfter k mid between = quiet_after k mid between (omega arith) h.2 in
      let last : IsQuiet given.rule.event said given.rule.unended given.rule.graph place (e + k) mid s' between new = h.3 in
      let held : 0 < length (given.rule.unended mid) = omega (arith, before.same_count) in
      let is = quiet_goes given said place (e + k) mid held (omega (arith, limit)) (turn_at k mid (omega arith) before.same_count) s' between new (flushes (omega arith) k (omega arith)) last in
      record {
        go = (mid, between, before.go, is);
        same_count = last.count ∙ before.same_count;
        same_turn = last.turn ∙ before.same_turn;
        made = last.made ∙ before.made;
        long = last.long ∙ before.long;
        there = λ made. step_there (given.rule.graph mid) (given.rule.graph s') last.marks.0 (before.there made) last.marks.1;
      }
