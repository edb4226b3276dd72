-- The history in which nothing is freed, and that of what a machine keeps: their states match, so they tell the same.
use Rattle.std.proofs.Common.{◌≡◌, ℕ, zero, suc, ◌<◌, ◌≤◌, ◌^◌, ◌==◌, ◌↔◌, ◌⊎◌, Bool, true, false, List, ◌++◌, length, Option, Some, None, refl, sym, ◌∙◌, ap, subst, inl, inr, arith, rules, ◌∷◌, ◌+◌, [], Contains}
use Rattle.std.specs.Prelude.{◌%◌, slice_index, IsTrue, if◌then◌else◌, map}
use mathlib.Core.Path.{fun_ext}
use Rattle.std.proofs.Math.Nat.{mod-lt}
use Rattle.std.proofs.lemmas.Bool.{eq-eqb, true≢false, cases_eq, cases_lt, eqb-false}
use Rattle.std.proofs.lemmas.List.{length-map}
use Rattle.std.proofs.lemmas.List.Elements.{Contains-append_left, Contains-get_or, Contains-append_cases}
use Rattle.et_base.specs.declared.value.End.{End}
use Rattle.et_base.specs.declared.value.End.TheVariants.{Finished, EventLimit}
use Rattle.et_base.proofs.Tests.{below_other}
use Rattle.et_graph.specs.Graph.{Graph, IsReached, Decides}
use Rattle.et_graph.proofs.Walks.{walk_more}
use Rattle.et_heap.specs.Objects.{ObjectState, Objects, IsHeld, is_there}
use Rattle.et_heap.specs.Remaining.{left_place, remaining}
use Rattle.et_heap.specs.Refs.{pairs_of, gone_of}
use Rattle.et_heap.proofs.HeapLists.{held_within, pair_at, pair_held, gone_at, at_gone}
use Rattle.et_state.specs.Past.{IsPast, first_of, reporting}
use Rattle.et_state.specs.Roots.{graph, graph_of}
use Rattle.et_state.specs.Sound.{IsSound}
use Rattle.et_state.specs.Start.{start}
use Rattle.et_state.specs.State.{State, Kept}
use Rattle.et_state.specs.Texts.{texts_left}
use Rattle.et_state.specs.Words.{IsUnended}
use Rattle.et_state.specs.Enqueuing.{newcomers, begins_to_wait, flushed_heap}
use Rattle.et_state.proofs.Enqueued.{past_flushed, length-flushed, joined_held}
use Rattle.et_state.proofs.Pasts.{reached_kept}
use Rattle.et_program.specs.Entries.{Linked}
use Rattle.et_state.specs.declared.options.Options.{Options}
use Rattle.et_state.specs.Options.{pick_of}
use Rattle.et_state.specs.History.{Setting, Rule, IsLastEvent, trace_of}
use Rattle.et_state.specs.Outcome.{Outcome, end_by}
use Rattle.et_state.specs.Outcome as outcome
use Rattle.et_event.specs.Told.{event_with_texts}
use Rattle.et_event.specs.Sound.{IsSoundFor}
use Rattle.et_event.specs.Start.{start_records}
use Rattle.et_event.proofs.Beside.{sound-spoken}
use Rattle.et_history.proofs.programs.Flushing.{sound_left}
use Rattle.et_io.specs.Sink.{Log, with_more, TakesPrefix}
use Rattle.et_loop.specs.declared.options.Ran.{Ran}
use Rattle.et_loop.specs.Traced.{WritesTrace, WritesPrefix}
use Rattle.et_binary.specs.Formats.{trace_bytes}
use Rattle.et_loop.specs.Kept.{IsKeptPart}
use Rattle.et_loop.specs.Said.{said_to, Says, SaysPrefix, IsCutSaid}
use Rattle.et_loop.specs.Visits.{allowed_visits, IsCut}
use Rattle.et_history.specs.Settings.{flush_visits_of, setting, unended_threads, flushed_of}
use Rattle.et_history.specs.steps.Changing.{KeepsMonitors, LeadsToSound}
use Rattle.et_history.specs.Histories.{picked, state_at, settled_at, moment_at, whole_picked, whole_at, whole_settled_at, IsHistory, HistoryComesTo, WholeComesTo}
use Rattle.et_history.specs.Same.{TellsTheSame, IsHere}
use Rattle.et_history.specs.Whole.{beside, cleared, whole_event, whole_flushed, whole_setting, whole_start, whole_visits_of, whole_said}
use Rattle.et_history.proofs.Alike.{is_open, settled_alike, LooksAlike, LeadsAlike, IsTurn, Mirrors, all_alike, looks_alike, last_alike, deaths_alike, lines_alike, trace_alike, last_there, last_back, goes_back, allowed_alike, cut_alike, said_alike, cut_said_alike}
use Rattle.et_history.proofs.texts.Events.{event_with_texts_keeps_monitors as event_keeps_monitors, event_with_texts_leads_to_sound as event_leads_to_sound}
use Rattle.et_history.proofs.Unended.{unended_thread}

-- THE GRAPHS

-- of what is reported, the numbers are gone
pub reported_gone : (s : State) → IsPast s.kept.heap s.reported → ¬ IsHeld s.reported 0 → (u : ℕ) → IsHeld s.reported u → Contains (gone_of s.kept.heap) u
reported_gone s past none u there =
    let some : 0 < u = elim (cases_eq u 0) [
      | inl e ↦ absurd (none (subst (λ (n : ℕ). IsHeld s.reported n) e there))
      | inr ne ↦ omega arith
    ] in
    let within = past.within in
    let lt : u < length s.kept.heap = (let l = held_within s.reported u there in omega arith) in
    at_gone s.kept.heap u some lt (λ held. past.apart u held there)

-- what is kept has all pairs but those of reported objects
graph_is_kept : (s : State) → IsPast s.kept.heap s.reported → ¬ IsHeld s.reported 0 → IsKeptPart (graph_of s.kept) (graph s)
graph_is_kept s past none = record {
  made = refl;
  roots = refl;
  gone = refl;
  pairs = λ u x. (
    (λ c. (Contains-append_left (pairs_of s.kept.heap) (pairs_of s.reported) (u, x) c, (λ gone. (gone_at s.kept.heap u gone).2 (pair_held s.kept.heap u x (pair_at s.kept.heap u x c))))),
    (λ b. elim (Contains-append_cases (pairs_of s.kept.heap) (pairs_of s.reported) (u, x) b.0) [
      | inl c ↦ c
      | inr c ↦ absurd (b.1 (reported_gone s past none u (pair_held s.reported u x (pair_at s.reported u x c))))
    ]),
  );
}

-- WHAT IS REACHED

same_tests : (a b : Bool) → (IsTrue a → IsTrue b) → (IsTrue b → IsTrue a) → a ≡ b
same_tests true b f g = sym (f refl)
same_tests false true f g = g refl
same_tests false false f g = refl

-- what is reached over what is kept is reached over all
pub reached_all : (s : State) (o : ℕ) → IsReached (graph_of s.kept) o → IsReached (graph s) o
reached_all s o r = (r.0, r.1, (r.2.0, walk_more (pairs_of s.kept.heap) (pairs_of s.kept.heap ++ pairs_of s.reported) (λ u x c. Contains-append_left (pairs_of s.kept.heap) (pairs_of s.reported) (u, x) c) r.0 r.2.0 o r.2.1))

pub same_reached : (reached : Graph → ℕ → Bool) → Decides reached → (s : State) → IsSound s.kept → IsPast s.kept.heap s.reported → reached (graph_of s.kept) ≡ reached (graph s)
same_reached reached decides s sound past =
    fun_ext (λ o. same_tests (reached (graph_of s.kept) o) (reached (graph s) o)
    (λ t. (decides (graph s) o).1 (reached_all s o ((decides (graph_of s.kept) o).0 t)))
    (λ t. (decides (graph_of s.kept) o).1 (reached_kept s sound past o ((decides (graph s) o).0 t))))

-- AN EVENT

-- what is made is new, so what is reported stays apart
past_on : (h h' reported : Objects) → length h ≤ length h' → ((o : ℕ) → IsHeld h' o → IsHeld h o ⊎ (length h ≤ o)) → IsPast h reported → IsPast h' reported
past_on h h' reported longer fresh past = record {
  within = (let a = past.within in omega (arith, longer));
  apart = λ o held there.
      elim (fresh o held) [
        | inl was ↦ past.apart o was there
        | inr new ↦ (let a = past.within in let b = held_within reported o there in absurd (omega (arith, new)))
      ];
}

pub is_now : (b : Bool) → IsTrue b → b ≡ true
is_now b t = search (rules, t)

pub now_is : (b : Bool) → b ≡ true → IsTrue b
now_is b e = search (rules, e)

pub tells : (g : Graph) (here : ℕ → Bool) → ((o : ℕ) → IsTrue (here o) ↔ IsReached g o) → (o : ℕ) → (here o ≡ true) ↔ IsReached g o
tells g here h o = (λ e. (h o).0 (now_is (here o) e), λ r. is_now (here o) ((h o).1 r))

-- the thread that is picked was started and has not ended
pub picked_unended : (s : Kept) (k : ℕ) → (length (unended_threads s) == 0) ≡ false → IsUnended s.guest (slice_index (unended_threads s) (k % length (unended_threads s)))
picked_unended s k some = by (length (unended_threads s)) refl
  where
    us : List ℕ
    us = unended_threads s

    by : (n : ℕ) → length us ≡ n → IsUnended s.guest (slice_index us (k % length us))
    by zero e = absurd (true≢false (sym (eq-eqb (length us) 0 e) ∙ some))
    by (suc n) e =
        let positive : 0 < length us = omega arith in
        unended_thread s.guest (slice_index us (k % length us)) (Contains-get_or us (k % length us) 0 (mod-lt k positive))

-- no object has the number 0
left_none : (b : Bool) (x : Option ObjectState) → ¬ is_there x → is_there (if b then None else x) → ⊥
left_none true x none h = h
left_none false x none h = none h

reporting_none : (here : ℕ → Bool) (k : ℕ) (xs rs : Objects) → ¬ IsHeld xs 0 → ¬ IsHeld rs 0 → ¬ IsHeld (reporting here k xs rs) 0
reporting_none here k [] rs a b h = h
reporting_none here k (x ∷ xs) [] a b h = left_none (here k) x a h
reporting_none here k (x ∷ xs) (None ∷ rs) a b h = left_none (here k) x a h
reporting_none here k (x ∷ xs) (Some r ∷ rs) a b h = b tt

-- A FLUSH: what is in the state is in it after the flush

place_here : (here : ℕ → Bool) (b : Bool) (x r : Option ObjectState) → is_there x ⊎ is_there r → is_there (left_place here b x) ⊎ is_there (first_of r (if b then None else x))
place_here here b x (Some r) h = inr tt
place_here here true (Some x) None h = inl tt
place_here here false (Some x) None h = inr tt
place_here here b None None (inl a) = absurd a
place_here here b None None (inr a) = absurd a

flush_here : (here : ℕ → Bool) (k : ℕ) (xs rs : Objects) (o : ℕ) → length rs ≤ length xs → IsHeld xs o ⊎ IsHeld rs o → IsHeld (remaining here k xs) o ⊎ IsHeld (reporting here k xs rs) o
flush_here here k [] [] o le h = h
flush_here here k [] (r ∷ rs) o le h = absurd (omega (arith, le))
flush_here here k (x ∷ xs) [] zero le h = place_here here (here k) x None h
flush_here here k (x ∷ xs) [] (suc o) le h = flush_here here (k + 1) xs [] o (omega arith) h
flush_here here k (x ∷ xs) (r ∷ rs) zero le h = place_here here (here k) x r h
flush_here here k (x ∷ xs) (r ∷ rs) (suc o) le h = flush_here here (k + 1) xs rs o (omega (arith, le)) h

there_cleared : (here : ℕ → Bool) (x : Option ObjectState) → is_there x → is_there (cleared here x)
there_cleared here None h = h
there_cleared here (Some x) h = tt

cleared_there : (here : ℕ → Bool) (x : Option ObjectState) → is_there (cleared here x) → is_there x
cleared_there here None h = h
cleared_there here (Some x) h = tt

held_cleared : (here : ℕ → Bool) (xs : Objects) (o : ℕ) → IsHeld xs o → IsHeld (map (cleared here) xs) o
held_cleared here [] o h = h
held_cleared here (x ∷ xs) zero h = there_cleared here x h
held_cleared here (x ∷ xs) (suc o) h = held_cleared here xs o h

cleared_held : (here : ℕ → Bool) (xs : Objects) (o : ℕ) → IsHeld (map (cleared here) xs) o → IsHeld xs o
cleared_held here [] o h = h
cleared_held here (x ∷ xs) zero h = cleared_there here x h
cleared_held here (x ∷ xs) (suc o) h = cleared_held here xs o h

pub flushed_here : (here : ℕ → Bool) (s : State) (o : ℕ) → IsPast s.kept.heap s.reported → IsHere s o → IsHere (whole_flushed here s) o
flushed_here here s o past h = elim (flush_here here 0 s.kept.heap s.reported o past.within h) [
  | inl held ↦ inl (joined_held (newcomers here s.kept.heap) (begins_to_wait here s.kept.heap) (remaining here 0 s.kept.heap) o held)
  | inr there ↦ inr (held_cleared here (reporting here 0 s.kept.heap s.reported) o there)
]

past_cleared : (here : ℕ → Bool) (s : State) → IsPast s.kept.heap s.reported → IsPast (whole_flushed here s).kept.heap (whole_flushed here s).reported
past_cleared here s past =
    let rs : Objects = reporting here 0 s.kept.heap s.reported in
    let after = past_flushed s here past in
    record {
      within = omega (arith, length-map rs (cleared here), after.within);
      apart = λ o held there. after.apart o held (cleared_held here rs o there);
    }

-- THE STATES THAT MATCH: what the machine keeps is the part that isn't reported, and is sound
pub record Stands (p : Linked) (options : Options) (e : ℕ) (t : State) : Type 0 where
  pub past : IsPast t.kept.heap t.reported
  pub none : ¬ IsHeld t.reported 0
  -- each number that was given is of an object that is in the state
  pub full : (o : ℕ) → 0 < o → o < length t.kept.heap → IsHere t o
  pub state : IsSoundFor p t.kept
  pub clock : t.kept.guest.clock ≡ e
  pub within : e ≤ options.limit

abbrev pub Matches : Linked → Options → ℕ → Kept → State → Type 0
Matches p options e s t = (t.kept ≡ s) × Stands p options e t

-- what is new is held, so all numbers stay in the state
full_on : (t : State) (h : Objects) → ((o : ℕ) → 0 < o → o < length t.kept.heap → IsHere t o) → ((o : ℕ) → IsHeld t.kept.heap o → IsHeld h o) → ((o : ℕ) → length t.kept.heap ≤ o → o < length h → IsHeld h o)
    → (o : ℕ) → 0 < o → o < length h → IsHeld h o ⊎ IsHeld t.reported o
full_on t h was stays new o some lt = elim (cases_lt o (length t.kept.heap)) [
  | inl old ↦ elim (was o some old) [ inl held ↦ inl (stays o held) | inr past ↦ inr past ]
  | inr le ↦ inl (new o le lt)
]

after_event : (p : Linked) (options : Options) (e : ℕ) (t : State) (thread : ℕ) (x : Outcome Kept) → KeepsMonitors (record { program = p; before = t.kept; thread = thread }) x → LeadsToSound p x → Stands p options e t → e < options.limit
    → LeadsAlike (λ a b. Matches p options (suc e) a b) thread t.kept t x (beside t.reported x)
after_event p options e t thread (outcome.Goes next records) h keeps stands below = record {
  ends = refl;
  records = refl;
  next = λ goes. (
    refl,
    record {
      past = past_on t.kept.heap next.heap t.reported h.changes.longer (λ o held. elim (h.changes.fresh o held) [ inl was ↦ inl was | inr new ↦ inr new.0 ]) stands.past;
      none = stands.none;
      full = full_on t next.heap stands.full h.changes.stays h.changes.full;
      state = keeps;
      clock = (let a = h.changes.clock in omega (arith, stands.clock));
      within = omega (arith, below);
    },
  );
}
after_event p options e t thread (outcome.Waits next) h keeps stands below = record {
  ends = refl;
  records = refl;
  next = λ goes. (
    refl,
    record {
      past = subst (λ (x : Kept). IsPast x.heap t.reported) (sym h) (record { within = stands.past.within; apart = stands.past.apart });
      none = stands.none;
      full = subst (λ (x : Kept). (o : ℕ) → 0 < o → o < length x.heap → IsHeld x.heap o ⊎ IsHeld t.reported o) (sym h) stands.full;
      state = keeps;
      clock = ap (λ (x : Kept). x.guest.clock) h ∙ (let a = stands.clock in omega arith);
      within = omega (arith, below);
    },
  );
}
after_event p options e t thread (outcome.IllTyped method pc) h keeps stands below = record { ends = refl; records = refl; next = λ goes. absurd (ended goes) }
  where
    ended : {x : End} → Some x ≡ None → ⊥
    ended q = cc
after_event p options e t thread outcome.ObjectLimit h keeps stands below = record { ends = refl; records = refl; next = λ goes. absurd (ended goes) }
  where
    ended : {x : End} → Some x ≡ None → ⊥
    ended q = cc

first_full : (x : ObjectState) (o : ℕ) → 0 < o → o < length (None ∷ Some x ∷ []) → IsHeld (None ∷ Some x ∷ []) o ⊎ IsHeld [] o
first_full x zero some lt = absurd (omega (arith, some))
first_full x (suc zero) some lt = inl tt
first_full x (suc (suc o)) some lt = absurd (omega (arith, lt))

module _ (reached : Graph → ℕ → Bool) (p : Linked) (options : Options) (pick : ℕ → ℕ) (runs : IsHistory reached p options) where
  abbrev pub given : Setting Kept
  given = picked p options pick

  abbrev pub whole : Rule State
  whole = (whole_setting p options).rule

  abbrev pub M : ℕ → Kept → State → Type 0
  M = Matches p options

  same : (e : ℕ) (t : State) → Stands p options e t → reached (graph_of t.kept) ≡ reached (graph t)
  same e t stands = same_reached reached runs.decides t stands.state.held stands.past

  looks : (e : ℕ) (s : Kept) (t : State) → M e s t → LooksAlike reached (graph_of s) (graph t)
  looks e s t m = subst (λ (x : Kept). LooksAlike reached (graph_of x) (graph t)) m.0 (record { made = refl; gone = refl; same = same e t m.1 })

  flush : (e : ℕ) (s : Kept) (t : State) → M e s t → M e (flushed_of (reached (graph_of s)) s) (whole_flushed (reached (graph t)) t)
  flush e s t m =
      let k : Kept = t.kept in
      let now : ℕ → Bool = reached (graph_of k) in
      let all : ℕ → Bool = reached (graph t) in
      let alike : flushed_of all k ≡ flushed_of now k = ap (λ (h : ℕ → Bool). flushed_of h k) (sym (same e t m.1)) in
      let left : Kept = record { heap = flushed_heap now k.heap; guest = k.guest } in
      let state : IsSoundFor p (flushed_of now k) = sound-spoken p left (texts_left now k.guest.texts) (sound_left p k now m.1.state (λ o held. tells (graph_of k) now (runs.decides (graph_of k)) o)) in
      subst (λ (x : Kept). M e (flushed_of (reached (graph_of x)) x) (whole_flushed all t)) m.0 (
        alike,
        record {
          past = past_cleared all t m.1.past;
          none = λ there. reporting_none all 0 k.heap t.reported m.1.state.held.none m.1.none (cleared_held all (reporting all 0 k.heap t.reported) 0 there);
          full = λ o some lt. flushed_here all t o m.1.past (m.1.full o some (omega (arith, length-flushed all k.heap, lt)));
          state = subst (λ (x : Kept). IsSoundFor p x) (sym alike) state;
          clock = m.1.clock;
          within = m.1.within;
        },
      )

  -- what the event of the turn does to the heap
  pub keeps_at : (e : ℕ) (t : State) (thread : ℕ) → Stands p options e t → IsTurn reached given whole M e t.kept thread → KeepsMonitors (record { program = p; before = t.kept; thread = thread }) (event_with_texts p t.kept thread)
  keeps_at e t thread stands turn =
      event_keeps_monitors p t.kept thread stands.state (subst (λ (i : ℕ). IsUnended t.kept.guest i) (sym turn.thread_is) (picked_unended t.kept (pick (suc e)) turn.some)) runs.run.runnable

  turn : (e : ℕ) (s : Kept) (t : State) (thread : ℕ) → M e s t → IsTurn reached given whole M e s thread → LeadsAlike (λ a b. M (suc e) a b) thread s t (event_with_texts p s thread) (whole_event p t thread)
  turn e s t thread m =
      subst (λ (x : Kept). IsTurn reached given whole M e x thread → LeadsAlike (λ a b. M (suc e) a b) thread x t (event_with_texts p x thread) (whole_event p t thread)) m.0
      (λ turn.
      let k : Kept = t.kept in
      let unended : IsUnended k.guest thread = subst (λ (i : ℕ). IsUnended k.guest i) (sym turn.thread_is) (picked_unended k (pick (suc e)) turn.some) in
      let below : e < options.limit = below_other e options.limit m.1.within (eqb-false e options.limit turn.within) in
      let few : k.guest.clock < 2 ^ 40 = (let clock = m.1.clock in omega (arith, below, runs.options_are.limit)) in
      after_event p options e t thread (event_with_texts p k thread) (event_keeps_monitors p k thread m.1.state unended runs.run.runnable) (event_leads_to_sound p k thread m.1.state unended runs.run.runnable few) m.1 below)

  pub mirrors : Mirrors reached given whole M
  mirrors = record { unended = λ e s t m. ap (λ (x : Kept). unended_threads x) (sym m.0); looks = looks; flush = flush; event = turn }

  pub first : M 0 (start p) (whole_start p)
  first = (refl, record { past = record { within = omega arith; apart = λ o held there. absurd there }; none = λ there. absurd there; full = first_full _; state = runs.run.state; clock = refl; within = omega arith })

  pub tells_same : (e : ℕ) → HistoryComesTo reached p options pick e → TellsTheSame reached p options pick e
  tells_same e goes =
      let m = all_alike reached given whole M mirrors (start p) (whole_start p) (start_records p) first e goes in
      let like = looks_alike reached given whole M mirrors (start p) (whole_start p) (start_records p) first e goes in
      record {
        kept = m.0;
        past = m.1.past;
        sound = m.1.state;
        clock = m.1.clock;
        graphs = graph_is_kept (whole_at reached p options pick e) m.1.past m.1.none;
        reached_same = λ o. ap (λ (f : ℕ → Bool). f o) (sym like.same);
        last = λ o. sym (last_alike reached given whole M mirrors (start p) (whole_start p) (start_records p) first o e goes);
        deaths_same = sym (deaths_alike reached given whole M mirrors (start p) (whole_start p) (start_records p) first e goes);
        lines = sym (lines_alike reached given whole M mirrors (start p) (whole_start p) (start_records p) first e goes);
      }

  -- the history ends there in the same way, with the same trace
  pub ends_there : (e : ℕ) (end : End) → IsLastEvent reached given (start p) (start_records p) e end → IsLastEvent reached (whole_picked p options pick) (whole_start p) (start_records p) e end
  ends_there e end last = last_there reached given whole M mirrors (start p) (whole_start p) (start_records p) first e end last

  pub ends_back : (e : ℕ) (end : End) → IsLastEvent reached (whole_picked p options pick) (whole_start p) (start_records p) e end → IsLastEvent reached given (start p) (start_records p) e end
  ends_back e end last = last_back reached given whole M mirrors (start p) (whole_start p) (start_records p) first e end last

  pub same_trace : (e : ℕ) (end : End) → IsLastEvent reached given (start p) (start_records p) e end → trace_of reached given (start p) (start_records p) e end ≡ trace_of reached (whole_picked p options pick) (whole_start p) (start_records p) e end
  same_trace e end last = trace_alike reached given whole M mirrors (start p) (whole_start p) (start_records p) first e end last.first

  same_visits : (e : ℕ) (s : Kept) (t : State) → M e s t → flush_visits_of (reached (graph_of s)) s ≡ whole_visits_of (reached (graph t)) t
  same_visits e s t m = subst (λ (x : Kept). flush_visits_of (reached (graph_of x)) x ≡ whole_visits_of (reached (graph t)) t) m.0 (ap (λ (h : ℕ → Bool). flush_visits_of h t.kept) (same e t m.1))

  pub same_allowed : (e : ℕ) (end : End) → IsLastEvent reached given (start p) (start_records p) e end
      → allowed_visits reached given flush_visits_of (start p) (start_records p) e ≡ allowed_visits reached (whole_picked p options pick) whole_visits_of (whole_start p) (start_records p) e
  same_allowed e end last = allowed_alike reached given whole M mirrors (start p) (whole_start p) (start_records p) first flush_visits_of whole_visits_of same_visits e last.first

  pub same_cut : (before after : Log) (old new : ℕ) → IsCut reached given flush_visits_of (start p) (start_records p) before after old new → IsCut reached (whole_picked p options pick) whole_visits_of (whole_start p) (start_records p) before after old new
  same_cut before after old new c = cut_alike reached given whole M mirrors (start p) (whole_start p) (start_records p) first flush_visits_of whole_visits_of same_visits before after old new c

  -- what is printed, by a rule that reads what the machine keeps
  pub same_said : (said : Kept → ℕ → List ℕ) (e : ℕ) → HistoryComesTo reached p options pick e
      → said_to reached given said (start p) (start_records p) e ≡ said_to reached (whole_picked p options pick) (whole_said said) (whole_start p) (start_records p) e
  same_said said e goes = said_alike reached given whole M mirrors (start p) (whole_start p) (start_records p) first said (whole_said said) (λ k s t thread m. ap (λ x. said x thread) (sym m.0)) e goes

  pub same_cut_said : (said : Kept → ℕ → List ℕ) (before after : Log) (old new : ℕ) → IsCutSaid reached given said (start p) (start_records p) flush_visits_of before after old new
      → IsCutSaid reached (whole_picked p options pick) (whole_said said) (whole_start p) (start_records p) whole_visits_of before after old new
  same_cut_said said before after old new c = cut_said_alike reached given whole M mirrors (start p) (whole_start p) (start_records p) first flush_visits_of whole_visits_of same_visits said (whole_said said) (λ k s t thread m. ap (λ x. said x thread) (sym m.0)) before after old new c

  -- the states that match, before and after the flush that may be due
  pub all_match : (e : ℕ) → HistoryComesTo reached p options pick e → M e (state_at reached p options pick e) (whole_at reached p options pick e)
  all_match e goes = all_alike reached given whole M mirrors (start p) (whole_start p) (start_records p) first e goes

  pub settled_match : (e : ℕ) → HistoryComesTo reached p options pick e → M e (settled_at reached p options pick e) (whole_settled_at reached p options pick e)
  settled_match e goes = settled_alike reached given whole M mirrors e _ _ (all_match e goes)

  pub go_on : (e : ℕ) → WholeComesTo reached p options pick e → HistoryComesTo reached p options pick e
  go_on e goes = goes_back reached given whole M mirrors (start p) (whole_start p) (start_records p) first e goes

  pub state_sound : (e : ℕ) → HistoryComesTo reached p options pick e → IsSoundFor p (state_at reached p options pick e)
  state_sound e goes = let m = all_match e goes in subst (λ (x : Kept). IsSoundFor p x) m.0 m.1.state

  -- what is known of event e + 1
  pub record Next (e : ℕ) : Type 0 where
    pub sound : IsSoundFor p (settled_at reached p options pick e)
    pub keeps : KeepsMonitors (moment_at reached p options pick e) (event_with_texts p (settled_at reached p options pick e) (moment_at reached p options pick e).thread)
    pub done : end_by (moment_at reached p options pick e).thread (event_with_texts p (settled_at reached p options pick e) (moment_at reached p options pick e).thread) ≡ None

  pub next : (e : ℕ) → HistoryComesTo reached p options pick (suc e) → Next e
  next e goes =
      let s : Kept = settled_at reached p options pick e in
      let thread : ℕ = (moment_at reached p options pick e).thread in
      let m = settled_match e (λ k lt. goes k (omega (arith, lt))) in
      let sound : IsSoundFor p s = subst (λ (x : Kept). IsSoundFor p x) m.0 m.1.state in
      let on = is_open (length (unended_threads s) == 0) (e == options.limit) Finished EventLimit (end_by thread (event_with_texts p s thread)) (goes e (omega arith)) in
      record {
        sound = sound;
        keeps = event_keeps_monitors p s thread sound (picked_unended s (pick (suc e)) on.some) runs.run.runnable;
        done = on.done;
      }

-- THE LAWS

pub tells_the_same : (reached : Graph → ℕ → Bool) (p : Linked) (options : Options) (pick : ℕ → ℕ) (e : ℕ) → IsHistory reached p options → HistoryComesTo reached p options pick e → TellsTheSame reached p options pick e
tells_the_same reached p options pick e runs goes = tells_same reached p options pick runs e goes

pub trace : (reached : Graph → ℕ → Bool) (p : Linked) (options : Options) (ran : Ran) (before after : Log) → IsHistory reached p options
    → WritesTrace reached (setting p options) (start p) (start_records p) ran before after ↔ WritesTrace reached (whole_setting p options) (whole_start p) (start_records p) ran before after
trace reached p options ran before after runs =
    let pick : ℕ → ℕ = pick_of options.schedule in (
      (λ w. record {
        ends = ends_there reached p options pick runs ran.event ran.end w.ends;
        taken = w.taken ∙ ap (λ ls. with_more before (trace_bytes options.format ls)) (same_trace reached p options pick runs ran.event ran.end w.ends);
      }),
      (λ w.
          let last = ends_back reached p options pick runs ran.event ran.end w.ends in
          record {
            ends = last;
            taken = w.taken ∙ ap (λ ls. with_more before (trace_bytes options.format ls)) (sym (same_trace reached p options pick runs ran.event ran.end last));
          }),
    )

pub prefix : (reached : Graph → ℕ → Bool) (p : Linked) (options : Options) (before after : Log) → IsHistory reached p options
    → WritesPrefix reached (setting p options) (start p) (start_records p) before after ↔ WritesPrefix reached (whole_setting p options) (whole_start p) (start_records p) before after
prefix reached p options before after runs =
    let pick : ℕ → ℕ = pick_of options.schedule in (
      (λ w e end last.
          let back = ends_back reached p options pick runs e end last in
          subst (λ ls. TakesPrefix before after (trace_bytes options.format ls)) (same_trace reached p options pick runs e end back) (w e end back)),
      (λ w e end last.
          subst (λ ls. TakesPrefix before after (trace_bytes options.format ls)) (sym (same_trace reached p options pick runs e end last)) (w e end (ends_there reached p options pick runs e end last))),
    )

pub visits : (reached : Graph → ℕ → Bool) (p : Linked) (options : Options) (e : ℕ) (end : End) → IsHistory reached p options
    → IsLastEvent reached (setting p options) (start p) (start_records p) e end
    → allowed_visits reached (setting p options) flush_visits_of (start p) (start_records p) e ≡ allowed_visits reached (whole_setting p options) whole_visits_of (whole_start p) (start_records p) e
visits reached p options e end runs last = same_allowed reached p options (pick_of options.schedule) runs e end last

pub cut : (reached : Graph → ℕ → Bool) (p : Linked) (options : Options) (before after : Log) (old new : ℕ) → IsHistory reached p options
    → IsCut reached (setting p options) flush_visits_of (start p) (start_records p) before after old new → IsCut reached (whole_setting p options) whole_visits_of (whole_start p) (start_records p) before after old new
cut reached p options before after old new runs c = same_cut reached p options (pick_of options.schedule) runs before after old new c

pub ends : (reached : Graph → ℕ → Bool) (p : Linked) (options : Options) (pick : ℕ → ℕ) (e : ℕ) (end : End) → IsHistory reached p options
    → IsLastEvent reached (picked p options pick) (start p) (start_records p) e end ↔ IsLastEvent reached (whole_picked p options pick) (whole_start p) (start_records p) e end
ends reached p options pick e end runs = (ends_there reached p options pick runs e end, ends_back reached p options pick runs e end)

-- what is printed
pub says : (reached : Graph → ℕ → Bool) (p : Linked) (options : Options) (said : Kept → ℕ → List ℕ) (ran : Ran) (before after : Log) → IsHistory reached p options
    → Says reached (setting p options) said (start p) (start_records p) ran before after → Says reached (whole_setting p options) (whole_said said) (whole_start p) (start_records p) ran before after
says reached p options said ran before after runs w =
    let pick : ℕ → ℕ = pick_of options.schedule in
    record {
      ends = ends_there reached p options pick runs ran.event ran.end w.ends;
      taken = w.taken ∙ ap (λ bytes. with_more before bytes) (same_said reached p options pick runs said ran.event w.ends.first);
    }

pub says_prefix : (reached : Graph → ℕ → Bool) (p : Linked) (options : Options) (said : Kept → ℕ → List ℕ) (before after : Log) → IsHistory reached p options
    → SaysPrefix reached (setting p options) said (start p) (start_records p) before after → SaysPrefix reached (whole_setting p options) (whole_said said) (whole_start p) (start_records p) before after
says_prefix reached p options said before after runs w e end last =
    let pick : ℕ → ℕ = pick_of options.schedule in
    let back = ends_back reached p options pick runs e end last in
    subst (λ bytes. TakesPrefix before after bytes) (same_said reached p options pick runs said e back.first) (w e end back)

pub says_cut : (reached : Graph → ℕ → Bool) (p : Linked) (options : Options) (said : Kept → ℕ → List ℕ) (before after : Log) (old new : ℕ) → IsHistory reached p options
    → IsCutSaid reached (setting p options) said (start p) (start_records p) flush_visits_of before after old new → IsCutSaid reached (whole_setting p options) (whole_said said) (whole_start p) (start_records p) whole_visits_of before after old new
says_cut reached p options said before after old new runs c = same_cut_said reached p options (pick_of options.schedule) runs said before after old new c
