-- Quiet events of a machine, one after the other, and the one behind them.
use Rattle.std.proofs.Common.{◌≡◌, ℕ, zero, suc, ◌+◌, ◌-◌, ◌*◌, ◌<◌, ◌≤◌, List, [], length, Contains, Some, None, refl, sym, ◌∙◌, ap, subst, arith}
use Rattle.std.specs.Prelude.{slice_index}
use Rattle.std.proofs.lemmas.Grind.{get_or_default_zero}
use Rattle.et_graph.specs.Graph.{Graph}
use Rattle.et_program.specs.Entries.{Linked}
use Rattle.et_event.specs.Told.{event_with_texts, said_by}
use Rattle.et_history.specs.Settings.{IsSoundRun, unended_threads}
use Rattle.et_state.specs.Roots.{graph_of}
use Rattle.et_state.specs.State.{Kept}
use Rattle.et_state.specs.declared.records.Record.{Record}
use Rattle.et_base.specs.declared.value.End.TheVariants as ended
use Rattle.et_state.specs.declared.ends.EventEnd.{EventEnd}
use Rattle.et_state.specs.declared.ends.EventEnd.TheVariants as ends
use Rattle.et_state.specs.Answers.{Answers, SaysWhereDone, TicksWhereDone}
use Rattle.et_state.specs.Outcome.{Outcome, state_after}
use Rattle.et_loop.specs.Kept.{IsStepTo}
use Rattle.et_loop.specs.Quiet.{event_at, IsQuiet, AreQuiet, ComesTo, IsStretch, IsBrokenOff}
use Rattle.et_loop.specs.Run.{end_after}
use Rattle.et_loop.specs.Stamping.{StepsWhereDone, StampsMark, AreMade, HasStamps}
use Rattle.et_loop.proofs.Marking.{lost_made}
use Rattle.et_loop.proofs.Quiets.{IsAnswered, answered_is, is_native, step_done, tick_done, reached_there, step_there}

-- what is lost is stamped, and nothing was made
pub quiet_marks : (e : ℕ) (g h : Graph) (lost old new : List ℕ) → h.made ≡ g.made → IsStepTo g h lost → ((o : ℕ) → Contains lost o → slice_index new o ≡ e) → ((o : ℕ) → ¬ Contains lost o → slice_index new o ≡ slice_index old o)
    → StampsMark e g h (slice_index old) (slice_index new)
quiet_marks e g h lost old new same step each others =
    (lost, step, record { fresh = λ o a b. absurd (omega (arith, same)); lost_before = λ o le c. each o c; kept = λ o side out. others o out })

-- what an event prints that was done, where nothing was printed
said_none : (end : EventEnd) (said bytes : List ℕ) → end_after 0 end ≡ None → ((method : ℕ) → end ≡ ends.Native method → ⊥) → SaysWhereDone end said [] bytes → bytes ≡ [] → said ≡ []
said_none ends.Done said bytes done native says none = sym says ∙ none
said_none ends.Waited said bytes done native says none = sym says ∙ none
said_none (ends.IllTyped method pc) said bytes done native says none = absurd (let e : Some (ended.IllTyped 0 method pc) ≡ None = done in cc)
said_none ends.ObjectLimit said bytes done native says none = absurd (let e : Some ended.ObjectLimit ≡ None = done in cc)
said_none (ends.Native method) said bytes done native says none = absurd (native method refl)

-- the clock went on by one
pub ticks_where : (end : EventEnd) (old new : ℕ) → end_after 0 end ≡ None → ((method : ℕ) → end ≡ ends.Native method → ⊥) → TicksWhereDone end old new → new ≡ old + 1
ticks_where end old new done native h = tick_done 0 end old new native done h

-- SO MANY QUIET EVENTS BEHIND OTHERS
module _ (p : Linked) (place : ℕ) where
  abbrev pub Quiets : ℕ → ℕ → Kept → Kept → List ℕ → List ℕ → Type 0
  Quiets k e s s' old new = AreQuiet (event_with_texts p) (said_by p) unended_threads graph_of place k e s s' old new

  quiet_behind : (k quiet e : ℕ) (s mid s' : Kept) (old between new : List ℕ) → Quiets quiet e s mid old between → Quiets k (e + quiet) mid s' between new → Quiets (quiet + k) e s s' old new
  unfolding AreQuiet
  quiet_behind zero quiet e s mid s' old between new first h =
      let none : quiet ≡ quiet + 0 = omega arith in
      subst (λ (n : ℕ). Quiets n e s s' old new) none
      (subst (λ (x : Kept). Quiets quiet e s x old new) (sym h.0) (subst (λ (xs : List ℕ). Quiets quiet e s mid old xs) (sym h.1) first))
  quiet_behind (suc k) quiet e s mid s' old between new first h =
      let more : suc (quiet + k) ≡ quiet + suc k = omega arith in
      let later : e + quiet + k ≡ e + (quiet + k) = omega arith in
      let last : IsQuiet (event_with_texts p) (said_by p) unended_threads graph_of place (e + (quiet + k)) h.0 s' h.1 new =
      subst (λ (n : ℕ). IsQuiet (event_with_texts p) (said_by p) unended_threads graph_of place n h.0 s' h.1 new) later h.3 in
      let all : Quiets (suc (quiet + k)) e s s' old new = (h.0, h.1, quiet_behind k quiet e s mid h.0 old between h.1 first h.2, last) in
      subst (λ (n : ℕ). Quiets n e s s' old new) more all

  -- what they leave as it is
  record Leaves (s s' : Kept) (old new : List ℕ) : Type 0 where
    pub made : (graph_of s').made ≡ (graph_of s).made
    pub count : length (unended_threads s') ≡ length (unended_threads s)
    pub turn : slice_index (unended_threads s') place ≡ slice_index (unended_threads s) place
    pub long : length new ≡ length old
    pub there : AreMade (graph_of s) → AreMade (graph_of s')

  quiet_leaves : (k e : ℕ) (s s' : Kept) (old new : List ℕ) → Quiets k e s s' old new → Leaves s s' old new
  unfolding AreQuiet
  quiet_leaves zero e s s' old new h = record {
    made = ap (λ (x : Kept). (graph_of x).made) h.0;
    count = ap (λ (x : Kept). length (unended_threads x)) h.0;
    turn = ap (λ (x : Kept). slice_index (unended_threads x) place) h.0;
    long = ap (λ (xs : List ℕ). length xs) h.1;
    there = λ made. subst (λ (x : Kept). AreMade (graph_of x)) (sym h.0) made;
  }
  quiet_leaves (suc k) e s s' old new h =
      let first : Leaves s h.0 old h.1 = quiet_leaves k e s h.0 old h.1 h.2 in
      let last : IsQuiet (event_with_texts p) (said_by p) unended_threads graph_of place (e + k) h.0 s' h.1 new = h.3 in
      record {
        made = last.made ∙ first.made;
        count = last.count ∙ first.count;
        turn = last.turn ∙ first.turn;
        long = last.long ∙ first.long;
        there = λ made. step_there (graph_of h.0) (graph_of s') last.marks.0 (first.there made) last.marks.1;
      }

module _ (p : Linked) (place most e : ℕ) (s : Kept) (old : List ℕ) (thread threads objects before : ℕ) where
  -- after so many quiet events
  pub record IsGoing (quiet : ℕ) (mid : Kept) (new : List ℕ) (out : List Record) (bytes : List ℕ) (visits : ℕ) : Type 0 where
    pub few : quiet < most
    pub events : AreQuiet (event_with_texts p) (said_by p) unended_threads graph_of place quiet e s mid old new
    pub clock : mid.guest.clock ≡ e + quiet
    pub sound : IsSoundRun p mid
    pub made : AreMade (graph_of mid)
    pub stamps : HasStamps (graph_of mid) new
    pub empty : out ≡ []
    pub unsaid : bytes ≡ []
    pub same_objects : (graph_of mid).made ≡ objects
    pub same_threads : length (unended_threads mid) ≡ threads
    pub same_thread : slice_index (unended_threads mid) place ≡ thread
    pub allowed : visits ≤ before + 8 * quiet

  pub going_first : (out : List Record) (bytes : List ℕ) → 0 < most → s.guest.clock ≡ e → IsSoundRun p s → AreMade (graph_of s) → HasStamps (graph_of s) old → out ≡ [] → bytes ≡ [] → (graph_of s).made ≡ objects → length (unended_threads s) ≡ threads → slice_index (unended_threads s) place ≡ thread
      → IsGoing 0 s old out bytes before
  unfolding AreQuiet
  going_first out bytes some clock sound made stamps empty unsaid same_objects same_threads same_thread = record {
    few = some;
    events = (refl, refl);
    clock = omega (arith, clock);
    sound = sound;
    made = made;
    stamps = stamps;
    empty = empty;
    unsaid = unsaid;
    same_objects = same_objects;
    same_threads = same_threads;
    same_thread = same_thread;
    allowed = omega arith;
  }

module _ {p : Linked} {place most e : ℕ} {s : Kept} {old : List ℕ} {thread threads objects before quiet : ℕ} {mid : Kept} {new : List ℕ} {out : List Record} {bytes : List ℕ} {visits : ℕ} (g : IsGoing p place most e s old thread threads objects before quiet mid new out bytes visits) where
  -- the thread has not ended
  pub is_there : place < threads → Contains (unended_threads mid) thread
  is_there lt =
      let inside : place < length (unended_threads mid) = omega (arith, lt, g.same_threads) in
      (place, inside, get_or_default_zero (unended_threads mid) place thread inside ∙ g.same_thread)

  -- SO MANY MORE QUIET ONES
  pub going_quietly : (k : ℕ) (s' : Kept) (new' : List ℕ) → k ≤ most - 1 - quiet → ((at : ℕ) → slice_index (unended_threads mid) at ≡ thread → Quiets p at k mid.guest.clock mid s' new new')
      → s'.guest.clock ≡ mid.guest.clock + k → IsSoundRun p s' → (visits' : ℕ) → visits' ≤ visits + 8 * k → IsGoing p place most e s old thread threads objects before (quiet + k) s' new' out bytes visits'
  going_quietly k s' new' few each clock sound visits' seen =
      let quiets : Quiets p place k (e + quiet) mid s' new new' = subst (λ (n : ℕ). Quiets p place k n mid s' new new') g.clock (each place g.same_thread) in
      let same : Leaves p place mid s' new new' = quiet_leaves p place k (e + quiet) mid s' new new' quiets in
      record {
        few = omega (arith, few, g.few);
        events = quiet_behind p place k quiet e s mid s' old new new' g.events quiets;
        clock = omega (arith, clock, g.clock);
        sound = sound;
        made = same.there g.made;
        stamps = record { few = omega (arith, g.stamps.few, same.made); places = omega (arith, g.stamps.places, same.made, same.long) };
        empty = g.empty;
        unsaid = g.unsaid;
        same_objects = same.made ∙ g.same_objects;
        same_threads = same.count ∙ g.same_threads;
        same_thread = same.turn ∙ g.same_thread;
        allowed = omega (arith, seen, g.allowed);
      }

  -- ITS NEXT EVENT
  module _ (end : EventEnd) (s' : Kept) (out' : List Record) (bytes' : List ℕ) (lost : List ℕ) (after : ℕ) where
    comes : after ≤ visits + 8 + ((graph_of (state_after mid (event_with_texts p mid thread))).made - (graph_of mid).made) → ComesTo (event_with_texts p) (said_by p) unended_threads graph_of place most e s old new before after quiet mid
    comes few =
        let now : after ≤ visits + 8 + ((graph_of (state_after mid (event_with_texts p mid (slice_index (unended_threads mid) place)))).made - (graph_of mid).made) =
        subst (λ (t : ℕ). after ≤ visits + 8 + ((graph_of (state_after mid (event_with_texts p mid t))).made - (graph_of mid).made)) (sym g.same_thread) few in
        record { few = g.few; events = g.events; visits = omega (arith, now, g.allowed) }

    pub going_broken : after ≤ visits + 8 + ((graph_of (state_after mid (event_with_texts p mid thread))).made - (graph_of mid).made) → IsBrokenOff (event_with_texts p) (said_by p) unended_threads graph_of place most e s old new before after
    going_broken few = record { quiet = quiet; mid = mid; comes = comes few }

    answers_now : Answers (event_with_texts p mid thread) end mid s' out out' → Answers (event_at (event_with_texts p) (said_by p) unended_threads graph_of place mid) end mid s' [] out'
    answers_now h =
        subst (λ (t : ℕ). Answers (event_with_texts p mid t) end mid s' [] out') (sym g.same_thread)
        (subst (λ (rs : List Record). Answers (event_with_texts p mid thread) end mid s' rs out') g.empty h)

    says_now : SaysWhereDone end (said_by p mid thread) bytes bytes' → SaysWhereDone end (said_by p mid (slice_index (unended_threads mid) place)) [] bytes'
    says_now h =
        subst (λ (t : ℕ). SaysWhereDone end (said_by p mid t) [] bytes') (sym g.same_thread)
        (subst (λ (bs : List ℕ). SaysWhereDone end (said_by p mid thread) bs bytes') g.unsaid h)

    pub going_ends : Answers (event_with_texts p mid thread) end mid s' out out' → SaysWhereDone end (said_by p mid thread) bytes bytes' → StepsWhereDone end (graph_of mid) (graph_of s') lost → after ≤ visits + 8 + ((graph_of (state_after mid (event_with_texts p mid thread))).made - (graph_of mid).made)
        → IsStretch (event_with_texts p) (said_by p) unended_threads graph_of place most e s old new before after s' out' bytes' lost (record { quiet = quiet; end = end })
    going_ends h says step few = record { mid = mid; comes = comes few; answers = answers_now h; says = says_now says; step = step }

    pub going_native : Answers (event_with_texts p mid thread) end mid s' out out' → (method : ℕ) → end ≡ ends.Native method → ⊥
    going_native h method is = is_native method end (event_at (event_with_texts p) (said_by p) unended_threads graph_of place mid) mid s' out' is (answers_now h)

    -- a quiet one
    module _ (h : Answers (event_with_texts p mid thread) end mid s' out out') (says : SaysWhereDone end (said_by p mid thread) bytes bytes') (step : StepsWhereDone end (graph_of mid) (graph_of s') lost) (done : end_after 0 end ≡ None) where
      led : IsStepTo (graph_of mid) (graph_of s') lost
      led = step_done 0 end (graph_of mid) (graph_of s') lost (going_native h) done step

      -- what it lost has a stamp
      pub lost_there : (graph_of s').made ≡ objects → (o : ℕ) → Contains lost o → o < length new
      lost_there same o c =
          let le = lost_made (graph_of mid) (graph_of s') lost (reached_there (graph_of mid) g.made) led o c in
          omega (arith, le, same, g.same_objects, g.stamps.places)

      pub going_on : (new' : List ℕ) → quiet + 1 < most → out' ≡ [] → bytes' ≡ [] → (graph_of s').made ≡ objects → length (unended_threads s') ≡ threads → slice_index (unended_threads s') place ≡ thread
          → length new' ≡ length new → ((o : ℕ) → Contains lost o → slice_index new' o ≡ e + quiet) → ((o : ℕ) → ¬ Contains lost o → slice_index new' o ≡ slice_index new o)
          → s'.guest.clock ≡ e + quiet + 1 → IsSoundRun p s' → after ≤ visits + 8 + ((graph_of (state_after mid (event_with_texts p mid thread))).made - (graph_of mid).made) → IsGoing p place most e s old thread threads objects before (quiet + 1) s' new' out' bytes' after
      unfolding AreQuiet
      going_on new' more told unsaid same count there long each others clock sound few =
          let o : Outcome Kept = event_at (event_with_texts p) (said_by p) unended_threads graph_of place mid in
          let a : IsAnswered 0 o end mid s' out' = answered_is 0 o end mid s' out' (answers_now h) in
          let made : (graph_of s').made ≡ (graph_of mid).made = same ∙ sym g.same_objects in
          let is : IsQuiet (event_with_texts p) (said_by p) unended_threads graph_of place (e + quiet) mid s' new new' = record {
            done = a.next ∙ done;
            state = a.state;
            told = sym a.told ∙ told;
            unsaid = said_none end _ bytes' done (going_native h) (says_now says) unsaid;
            made = made;
            count = count ∙ sym g.same_threads;
            turn = there ∙ sym g.same_thread;
            marks = quiet_marks (e + quiet) (graph_of mid) (graph_of s') lost new new' made led each others;
            long = long;
          } in
          let all : AreQuiet (event_with_texts p) (said_by p) unended_threads graph_of place (suc quiet) e s s' old new' = (mid, new, g.events, is) in
          let next : suc quiet ≡ quiet + 1 = omega arith in
          let comes_there = comes few in
          let state : s' ≡ state_after mid o = a.state in
          let grown : (graph_of (state_after mid (event_with_texts p mid thread))).made ≡ (graph_of mid).made =
          ap (λ (t : ℕ). (graph_of (state_after mid (event_with_texts p mid t))).made) (sym g.same_thread) ∙ (ap (λ (x : Kept). (graph_of x).made) (sym state) ∙ made) in
          record {
            few = more;
            events = subst (λ (k : ℕ). AreQuiet (event_with_texts p) (said_by p) unended_threads graph_of place k e s s' old new') next all;
            clock = omega (arith, clock);
            sound = sound;
            made = step_there (graph_of mid) (graph_of s') lost g.made led;
            stamps = record { few = omega (arith, g.stamps.few, made); places = omega (arith, g.stamps.places, made, long) };
            empty = told;
            unsaid = unsaid;
            same_objects = same;
            same_threads = count;
            same_thread = there;
            allowed = omega (arith, few, grown, g.allowed);
          }
