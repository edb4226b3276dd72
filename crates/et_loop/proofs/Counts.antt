-- How many visits a run makes.
use Rattle.std.proofs.Common.{◌≡◌, ℕ, suc, ◌+◌, ◌-◌, ◌*◌, ◌≤◌, ◌==◌, Bool, true, false, if◌then◌else◌, List, length, Option, Some, None, not, refl, sym, ◌∙◌, ap, subst, arith}
use Rattle.et_base.specs.declared.value.End.{End}
use Rattle.et_base.specs.declared.value.End.TheVariants.{Finished, EventLimit}
use Rattle.et_graph.specs.Graph.{Graph}
use Rattle.et_state.specs.declared.records.Record.{Record}
use Rattle.et_state.specs.Outcome.{Outcome, state_after, end_by}
use Rattle.et_state.specs.Outcome as outcome
use Rattle.et_state.specs.Naming.{Mentions}
use Rattle.et_state.specs.History.{Setting, is_flush_point, picked_turn, outcome_step, ending, settled, left_by}
use Rattle.et_loop.specs.Kept.{Settles}
use Rattle.et_loop.specs.Stamping.{Passes}
use Rattle.et_loop.specs.Run.{due_state, Turns, Advances, Concludes}
use Rattle.et_loop.specs.Visits.{visits_at, visits_below, allowed_visits, visits_to, due_visits, last_visits, event_visits, turn_visits, made_after, visits_of_event, visits_of_turn}
use Rattle.et_loop.proofs.TurnLemmas.{settled_is}

-- A TURN

pub settled_as_many : (due : Bool) (g h : Graph) → Settles due g h → h.made ≡ g.made
settled_as_many true g h c = c.2.made ∙ c.1.made
settled_as_many false g h e = ap (λ (x : Graph). x.made) e

-- an event that answers what it leads to visits as often as it may
pub event_within : {S : Type 0} (graph : S → Graph) (s : S) (thread : ℕ) (o : Outcome S) → 8 + ((graph (state_after s o)).made - (graph s).made) ≤ event_visits (end_by thread o) ((graph (state_after s o)).made - (graph s).made)
event_within graph s thread (outcome.Goes next records) = omega arith
event_within graph s thread (outcome.Waits next) = omega arith
event_within graph s thread (outcome.IllTyped method pc) = omega arith
event_within graph s thread outcome.ObjectLimit = omega arith

-- the history ends there, or the event is done by the thread that has the turn
pub event_allowed : {S : Type 0} (given : Setting S) (e : ℕ) (s : S) (thread old new : ℕ) → (length (given.rule.unended s) == 0) ≡ false → (e == given.limit) ≡ false → thread ≡ picked_turn given (suc e) s
    → new ≤ old + 8 + ((given.rule.graph (state_after s (given.rule.event s thread))).made - (given.rule.graph s).made) → new ≤ old + visits_of_event given e s
event_allowed given e s thread old new some within turn few =
    let made : ℕ = made_after given e s - (given.rule.graph s).made in
    let few' : new ≤ old + 8 + made = subst (λ (t : ℕ). new ≤ old + 8 + ((given.rule.graph (state_after s (given.rule.event s t))).made - (given.rule.graph s).made)) turn few in
    let on : end_by (picked_turn given (suc e) s) (outcome_step given (suc e) s) ≡ ending given e s =
    sym (ap (λ (b : Bool). if b then Some Finished else (if e == given.limit then Some EventLimit else end_by (picked_turn given (suc e) s) (outcome_step given (suc e) s))) some
    ∙ ap (λ (b : Bool). if b then Some EventLimit else end_by (picked_turn given (suc e) s) (outcome_step given (suc e) s)) within) in
    let most = subst (λ (x : Option End). 8 + made ≤ event_visits x made) on (event_within given.rule.graph s (picked_turn given (suc e) s) (outcome_step given (suc e) s)) in
    omega (arith, few', most)

due_within : (due : Bool) (flush : ℕ) → due_visits due flush ≤ flush
due_within true flush = omega arith
due_within false flush = omega arith

-- a flush where it is due, and an event
turn_within : (end : Option End) (due : Bool) (flush made between after old flushed new : ℕ) → between ≡ made → flushed ≤ old + due_visits due flush → new ≤ flushed + event_visits end (after - between) → new ≤ old + turn_visits end due flush (after - made)
turn_within None due flush made between after old flushed new same a b = omega (arith, a, b, same)
turn_within (Some end) due flush made between after old flushed new same a b = let few = due_within due flush in omega (arith, a, b, few)

-- .. of which the flush alone was made
flush_within : (end : Option End) (due : Bool) (flush made old new : ℕ) → new ≤ old + due_visits due flush → new ≤ old + turn_visits end due flush made
flush_within None due flush made old new a = omega (arith, a)
flush_within (Some end) due flush made old new a = let few = due_within due flush in omega (arith, a, few)

last_within : (due : Bool) (flush last old flushed stopped new : ℕ) → flushed ≤ old + due_visits due flush → stopped ≤ flushed + 8 → new ≤ stopped + last_visits due last → (due ≡ false → last ≡ flush) → new ≤ old + flush + 8
last_within true flush last old flushed stopped new a b d same = omega (arith, a, b, d)
last_within false flush last old flushed stopped new a b d same = let f = same refl in omega (arith, a, b, d, f)

module _ {S : Type 0} (reached : Graph → ℕ → Bool) (given : Setting S) (flush_visits : (ℕ → Bool) → S → ℕ) (e : ℕ) (s : S) (due : Bool) (old flushed : ℕ) (at : due ≡ is_flush_point given.interval e) (flush_few : flushed ≤ old + due_visits due (flush_visits (reached (given.rule.graph s)) s)) where
  abbrev flush_now : ℕ
  flush_now = flush_visits (reached (given.rule.graph s)) s

  due_few : flushed ≤ old + due_visits (is_flush_point given.interval e) flush_now
  due_few = subst (λ (b : Bool). flushed ≤ old + due_visits b flush_now) at flush_few

  pub turn_flushed : flushed ≤ old + visits_of_turn reached given flush_visits e s
  turn_flushed = flush_within (ending given e (settled reached given e s)) (is_flush_point given.interval e) flush_now (made_after given e (settled reached given e s) - (given.rule.graph s).made) old flushed due_few

  module _ (s' : S) (is : s' ≡ settled reached given e s) (new : ℕ) (few : new ≤ flushed + visits_of_event given e s') where
    pub turn_allowed : (given.rule.graph s').made ≡ (given.rule.graph s).made → new ≤ old + visits_of_turn reached given flush_visits e s
    turn_allowed same =
        let g : Graph = given.rule.graph (settled reached given e s) in
        let made : g.made ≡ (given.rule.graph s).made = ap (λ (x : S). (given.rule.graph x).made) (sym is) ∙ same in
        let event : new ≤ flushed + event_visits (ending given e (settled reached given e s)) (made_after given e (settled reached given e s) - g.made) = subst (λ (x : S). new ≤ flushed + visits_of_event given e x) is few in
        turn_within (ending given e (settled reached given e s)) (is_flush_point given.interval e) flush_now (given.rule.graph s).made g.made (made_after given e (settled reached given e s)) old flushed new made due_few event

    -- .. and a last flush, where the history ends
    pub last_turn_allowed : (end : End) (last now : ℕ) → ending given e s' ≡ Some end → now ≤ new + last_visits due last → (due ≡ false → last ≡ flush_now) → now ≤ old + visits_of_turn reached given flush_visits e s
    last_turn_allowed end last now ends after same =
        let over : ending given e (settled reached given e s) ≡ Some end = ap (λ (x : S). ending given e x) (sym is) ∙ ends in
        let event : new ≤ flushed + 8 = subst (λ (x : Option End). new ≤ flushed + event_visits x (made_after given e s' - (given.rule.graph s').made)) ends few in
        let all : now ≤ old + flush_now + 8 = last_within due flush_now last old flushed new now flush_few event after same in
        subst (λ (x : Option End). now ≤ old + turn_visits x (is_flush_point given.interval e) flush_now (made_after given e (settled reached given e s) - (given.rule.graph s).made)) (sym over) (omega (arith, all))

-- a flush where it is due leads to the settled state
pub settled_state : {S : Type 0} (reached : Graph → ℕ → Bool) (given : Setting S) (e : ℕ) (s s' : S) (due : Bool) → due ≡ is_flush_point given.interval e → s' ≡ due_state due (given.rule.flushed (reached (given.rule.graph s)) s) s → s' ≡ settled reached given e s
settled_state reached given e s s' due at is = is ∙ (ap (λ (b : Bool). due_state b (given.rule.flushed (reached (given.rule.graph s)) s) s) at ∙ settled_is reached given s (is_flush_point given.interval e))

-- a turn that is done, and one that ends the history
pub turn_done : {S : Type 0} (reached : Graph → ℕ → Bool) (given : Setting S) (flush_visits : (ℕ → Bool) → S → ℕ) (e : ℕ) (s s' : S) (old new : ℕ) → ending given e (settled reached given e s) ≡ None → s' ≡ state_after (settled reached given e s) (outcome_step given (suc e) (settled reached given e s))
    → new ≤ old + visits_of_turn reached given flush_visits e s → new ≤ old + due_visits (is_flush_point given.interval e) (flush_visits (reached (given.rule.graph s)) s) + 8 + ((given.rule.graph s').made - (given.rule.graph s).made)
turn_done {S = S} reached given flush_visits e s s' old new goes is few =
    let flush : ℕ = flush_visits (reached (given.rule.graph s)) s in
    let more : ℕ = made_after given e (settled reached given e s) - (given.rule.graph s).made in
    let on : new ≤ old + (due_visits (is_flush_point given.interval e) flush + (8 + more)) = subst (λ (x : Option End). new ≤ old + turn_visits x (is_flush_point given.interval e) flush more) goes few in
    let same : (given.rule.graph s').made ≡ made_after given e (settled reached given e s) = ap (λ (x : S). (given.rule.graph x).made) is in
    omega (arith, on, same)

pub turn_over : {S : Type 0} (reached : Graph → ℕ → Bool) (given : Setting S) (flush_visits : (ℕ → Bool) → S → ℕ) (e : ℕ) (s : S) (end : End) (old new : ℕ) → ending given e (settled reached given e s) ≡ Some end
    → new ≤ old + visits_of_turn reached given flush_visits e s → new ≤ old + flush_visits (reached (given.rule.graph s)) s + 8
turn_over reached given flush_visits e s end old new ends few =
    let flush : ℕ = flush_visits (reached (given.rule.graph s)) s in
    let over : new ≤ old + (flush + 8) = subst (λ (x : Option End). new ≤ old + turn_visits x (is_flush_point given.interval e) flush (made_after given e (settled reached given e s) - (given.rule.graph s).made)) ends few in
    omega (arith, over)

-- a last flush, where there was none before
pub last_flush : (due : Bool) (flush other old now : ℕ) → (due ≡ false → now ≤ old + due_visits (not due) flush) → now ≤ old + due_visits (not due) other → now ≤ old + last_visits due flush
last_flush true flush other old now first none = none
last_flush false flush other old now first none = first refl

-- a turn makes no object fewer
pub passes_grow : (due : Bool) (e : ℕ) (g h : Graph) (old new : ℕ → ℕ) → Passes due e g h old new → g.made ≤ h.made
passes_grow due e g h old new p =
    let a = settled_as_many due g p.0 p.1 in
    let b = p.2.1.1.draft.made in
    omega (arith, a, b)

module _ {S : Type 0} (reached : Graph → ℕ → Bool) (given : Setting S) (flush_visits : (ℕ → Bool) → S → ℕ) (e : ℕ) (s : S) (last : ℕ → ℕ) (m : Mentions) (s' : S) (last' : ℕ → ℕ) (m' : Mentions) (out out' : List ℕ) (next : Option End) (turns : Turns reached given e s last m s' last' m' out out' next) (old new : ℕ) (few : new ≤ old + visits_of_turn reached given flush_visits e s) where
  pub going_few : next ≡ None → new ≤ old + due_visits (is_flush_point given.interval e) (flush_visits (reached (given.rule.graph s)) s) + 8 + ((given.rule.graph s').made - (given.rule.graph s).made)
  going_few is =
      let goes : Advances reached given e s last m s' last' m' out out' = subst (λ (x : Option End). Turns reached given e s last m s' last' m' out out' x) is turns in
      turn_done reached given flush_visits e s s' old new goes.goes goes.state few

  pub ending_few : (end : End) → next ≡ Some end → new ≤ old + flush_visits (reached (given.rule.graph s)) s + 8
  ending_few end is =
      let ends : Concludes reached given e s last m s' last' m' out out' end = subst (λ (x : Option End). Turns reached given e s last m s' last' m' out out' x) is turns in
      turn_over reached given flush_visits e s end old new ends.ends few

-- A RUN

due_if : (b : Bool) (n : ℕ) → due_visits b n ≡ (if b then n else 0)
due_if true n = refl
due_if false n = refl

module _ {S : Type 0} (reached : Graph → ℕ → Bool) (given : Setting S) (flush_visits : (ℕ → Bool) → S → ℕ) (start : S) (made : List Record) where
  abbrev first_made : ℕ
  first_made = (given.rule.graph start).made

  -- the visits before the turn after event e, which left s
  pub record AreSoFar (e : ℕ) (s : S) (first now : ℕ) : Type 0 where
    pub grown : (given.rule.graph start).made ≤ (given.rule.graph s).made
    pub few : now ≤ first + visits_below reached given flush_visits start made e + 8 * e + ((given.rule.graph s).made - (given.rule.graph start).made)

  pub none_so_far : (first : ℕ) → AreSoFar 0 start first first
  none_so_far first = record { grown = omega arith; few = omega arith }

  below_next : (e : ℕ) → visits_below reached given flush_visits start made (suc e) ≡ visits_below reached given flush_visits start made e + (if is_flush_point given.interval e then visits_at reached given flush_visits start made e else 0)
  unfolding visits_below
  below_next e = refl

  module _ (e : ℕ) (s : S) (first now : ℕ) (so : AreSoFar e s first now) (at : s ≡ left_by reached given start made e) where
    abbrev flush : ℕ
    flush = flush_visits (reached (given.rule.graph s)) s

    flush_is : flush ≡ visits_at reached given flush_visits start made e
    flush_is = ap (λ (x : S). flush_visits (reached (given.rule.graph x)) x) at

    pub more_so_far : (s' : S) (next : ℕ) → (given.rule.graph s).made ≤ (given.rule.graph s').made → next ≤ now + due_visits (is_flush_point given.interval e) flush + 8 + ((given.rule.graph s').made - (given.rule.graph s).made) → (n : ℕ) → n ≡ suc e → AreSoFar n s' first next
    more_so_far s' next grow t n is =
        let due = due_if (is_flush_point given.interval e) flush ∙ ap (λ (k : ℕ). if is_flush_point given.interval e then k else 0) flush_is in
        let below = ap (λ (k : ℕ). visits_below reached given flush_visits start made k) is ∙ below_next e in
        let few = so.few in
        let grown = so.grown in
        record { grown = omega (arith, grown, grow); few = omega (arith, few, grown, grow, t, due, below, is) }

    pub last_allowed : (next : ℕ) → next ≤ now + flush + 8 → next ≤ first + allowed_visits reached given flush_visits start made e
    last_allowed next t =
        let many = ap (λ (x : S). (given.rule.graph x).made) at in
        let few = so.few in
        omega (arith, few, t, flush_is, many)

    -- the visits of a run that is cut off in this turn
    pub cut_allowed : (next : ℕ) → next ≤ now + visits_of_turn reached given flush_visits e s → next ≤ first + visits_to reached given flush_visits start made e
    cut_allowed next t =
        let many = ap (λ (x : S). (given.rule.graph x).made) at in
        let turn = ap (λ (x : S). visits_of_turn reached given flush_visits e x) at in
        let few = so.few in
        omega (arith, few, t, many, turn)
