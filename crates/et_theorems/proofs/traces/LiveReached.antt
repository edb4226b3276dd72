-- The live bytes of a trace are those of the objects that are reached then or later.
use Rattle.std.proofs.Common.{◌≡◌, ℕ, zero, suc, ◌+◌, ◌-◌, ◌<◌, ◌≤◌, nat_le, not, ◌&&◌, Bool, true, false, List, [], ◌++◌, sum_by, refl, sym, ◌∙◌, ap, subst, inl, inr, arith, append_assoc, append-nil}
use Rattle.std.specs.Prelude.{if◌then◌else◌}
use Rattle.std.proofs.lemmas.Bool.{true≢false, false≢true, or_cases, or_left, or_right, false_from_ne_true, cases_lt, cases_eq, le-leb}
use Rattle.std.proofs.lemmas.List.Sums.{sum_by-append}
use Rattle.et_base.specs.declared.line.TraceLine.{TraceLine}
use Rattle.et_base.specs.declared.value.End.{End}
use Rattle.et_base.proofs.Lists.{has_contains, contains_has}
use Rattle.et_graph.specs.Graph.{Graph, Decides}
use Rattle.et_heap.specs.Objects.{IsHeld}
use Rattle.et_heap.proofs.HeapLists.{gone_at, held_within}
use Rattle.et_program.specs.Entries.{Linked}
use Rattle.et_state.specs.History.{Setting, is_flush_point, flush_lines, is_gone, last_reached, lines_to, mentions_to, records_at, deaths, how_of, trace_of}
use Rattle.et_state.specs.Naming.{lines_of}
use Rattle.et_state.specs.Roots.{graph, numbers_from}
use Rattle.et_state.specs.State.{State}
use Rattle.et_state.specs.declared.options.Options.{Options}
use Rattle.et_state.specs.declared.records.Record.{Record}
use Rattle.et_event.specs.Start.{start_records}
use Rattle.et_loop.proofs.Dates.{IsIn, deaths_in, in_deaths}
use Rattle.et_history.specs.Allocations.{IsMadeAt, AreAllocations, next_number}
use Rattle.et_history.specs.Histories.{whole_picked}
use Rattle.et_history.specs.Same.{IsHere}
use Rattle.et_history.specs.Whole.{whole_start}
use Rattle.et_replay.specs.Curve.{dies_before, live, live_size}
use Rattle.et_theorems.specs.traces.LiveBytes.{object_size, is_reached_from, bytes_reached}
use Rattle.et_theorems.proofs.traces.DeathLines.{IsListed, told_trace, trace_told, trace_ends}
use Rattle.et_history.proofs.Reporting.{found_before}
use Rattle.et_theorems.proofs.traces.Reported.{now, made_by, Knows, flushed_out}
use Rattle.et_theorems.proofs.traces.LiveSums.{rest_told, end_none, told_bytes, late_none}
use Rattle.et_history.proofs.Reached.{last_within}

-- lines only come to the end
module _ {S : Type 0} (reached : Graph → ℕ → Bool) (given : Setting S) (start : S) (made : List Record) where
  more_lines : (e n : ℕ) → (rest : List TraceLine) × (lines_to reached given start made (e + n) ≡ lines_to reached given start made e ++ rest)
  unfolding lines_to
  more_lines e zero =
      let same : e + 0 ≡ e = omega arith in
      ([], ap (λ (k : ℕ). lines_to reached given start made k) same ∙ sym (append-nil (lines_to reached given start made e)))
  more_lines e (suc n) =
      let same : e + suc n ≡ suc (e + n) = omega arith in
      let old = more_lines e n in
      let flush : List TraceLine = if is_flush_point given.interval (e + n) then flush_lines (e + n) (deaths reached given start made (e + n)) else [] in
      let new : List TraceLine = lines_of given.names (mentions_to reached given start made (e + n)) (records_at reached given start made (suc (e + n))) in
      let first : List TraceLine = lines_to reached given start made e in (
        old.0 ++ flush ++ new,
        ap (λ (k : ℕ). lines_to reached given start made k) same
            ∙ (ap (λ (ls : List TraceLine). ls ++ flush ++ new) old.1
            ∙ (ap (λ (ls : List TraceLine). ls ++ new) (append_assoc first old.0 flush) ∙ append_assoc first (old.0 ++ flush) new)),
      )

-- THE WORDS OF A RUN: the state that event e left, how many objects were made by then, the lines up to it, the deaths of a flush
-- there; the whole trace; and whether object o is reached at event e or one of the next n.
pub record RunWords : Type 0 where
  pub state : ℕ → State
  pub made : ℕ → ℕ
  pub lines : ℕ → List TraceLine
  pub dead : ℕ → List (ℕ × ℕ)
  pub trace : List TraceLine
  pub from : ℕ → ℕ → ℕ → Bool

abbrev pub run_words : (Graph → ℕ → Bool) → Linked → Options → (ℕ → ℕ) → ℕ → End → RunWords
run_words reached p options pick last end = record {
  state = λ e. now reached p options pick e;
  made = λ e. made_by reached p options pick e;
  lines = λ e. lines_to reached (whole_picked p options pick) (whole_start p) (start_records p) e;
  dead = λ e. deaths reached (whole_picked p options pick) (whole_start p) (start_records p) e;
  trace = trace_of reached (whole_picked p options pick) (whole_start p) (start_records p) last end;
  from = λ o e n. is_reached_from reached (whole_picked p options pick) (whole_start p) (start_records p) o e n;
}

-- what a line adds, where it dies exactly where it is not reached any more
chosen : (a d b : Bool) (x y : ℕ) → a ≡ true → (b ≡ true → d ≡ false) → (b ≡ false → d ≡ true) → x ≡ y → (if a && not d then x else 0) ≡ (if b then y else 0)
chosen false d b x y early alive dead same = absurd (false≢true early)
chosen true true true x y early alive dead same = absurd (true≢false (alive refl))
chosen true false true x y early alive dead same = same
chosen true true false x y early alive dead same = refl
chosen true false false x y early alive dead same = absurd (false≢true (dead refl))

module _ (reached : Graph → ℕ → Bool) (p : Linked) (options : Options) (pick : ℕ → ℕ) (last : ℕ) (end : End) (decides : Decides reached) (knows : Knows reached p options pick last) where
  open run_words reached p options pick last end use {state, made, lines, dead, trace, from}

  abbrev IsNow : ℕ → ℕ → Bool → Type 0
  IsNow e o b = reached (graph (state e)) o ≡ b

  abbrev last_of : ℕ → ℕ → ℕ
  last_of o n = last_reached reached (whole_picked p options pick) (whole_start p) (start_records p) o n

  -- THE LAST EVENT at which an object is reached

  seen_step : (o k n l : ℕ) (b : Bool) → IsNow (suc n) o b → k ≤ suc n → IsNow k o true → (k ≤ n → k ≤ l) → k ≤ (if b then suc n else l)
  seen_step o k n l true is le seen was = le
  seen_step o k n l false is le seen was = elim (cases_eq k (suc n)) [
    | inl same ↦ absurd (true≢false (sym seen ∙ (ap (λ (j : ℕ). reached (graph (state j)) o) same ∙ is)))
    | inr ne ↦ was (omega (arith, le, ne))
  ]

  later_seen : (o k n : ℕ) → k ≤ n → IsNow k o true → k ≤ last_of o n
  unfolding last_reached
  later_seen o k zero le seen = le
  later_seen o k (suc n) le seen = seen_step o k n (last_of o n) (reached (graph (state (suc n))) o) refl le seen (λ within. later_seen o k n within seen)

  last_step : (o n l : ℕ) (b : Bool) → IsNow (suc n) o b → (0 < l → IsNow l o true) → 0 < (if b then suc n else l) → IsNow (if b then suc n else l) o true
  last_step o n l true is was some = is
  last_step o n l false is was some = was some

  last_seen : (o n : ℕ) → 0 < last_of o n → IsNow (last_of o n) o true
  unfolding last_reached
  last_seen o zero some = absurd (omega (arith, some))
  last_seen o (suc n) some = last_step o n (last_of o n) (reached (graph (state (suc n))) o) refl (last_seen o n) some

  -- AN EVENT OR A LATER ONE at which it is reached

  pub from_seen : (o e n k : ℕ) → e ≤ k → k ≤ e + n → IsNow k o true → from o e n ≡ true
  unfolding is_reached_from
  from_seen o e zero k low high seen = let same : k ≡ e = omega (arith, low, high) in subst (λ (j : ℕ). IsNow j o true) same seen
  from_seen o e (suc n) k low high seen = elim (cases_eq k (e + suc n)) [
    | inl same ↦ or_right (from o e n) (reached (graph (state (e + suc n))) o) (subst (λ (j : ℕ). IsNow j o true) same seen)
    | inr ne ↦ or_left (from o e n) (reached (graph (state (e + suc n))) o) (from_seen o e n k low (omega (arith, high, ne)) seen)
  ]

  pub seen_from : (o e n : ℕ) → from o e n ≡ true → (k : ℕ) × (e ≤ k) × (k ≤ e + n) × IsNow k o true
  unfolding is_reached_from
  seen_from o e zero h = (e, omega arith, omega arith, h)
  seen_from o e (suc n) h = elim (or_cases (from o e n) (reached (graph (state (e + suc n))) o) h) [
    | inl before ↦ let k = seen_from o e n before in (k.0, k.1, (let le = k.2 in omega arith), k.3)
    | inr here ↦ (e + suc n, omega arith, omega arith, here)
  ]

  -- OBJECTS that were made

  pub here_below : (e o : ℕ) → e ≤ last → IsHere (state e) o → o < next_number (state e)
  here_below e o le (inl held) = held_within (state e).kept.heap o held
  here_below e o le (inr there) =
      let lt = held_within (state e).reported o there in
      let within = (knows.same e le).past.within in
      omega (arith, lt, within)

  pub made_on : (e n o : ℕ) → e ≤ n → n ≤ last → 0 < o → o ≤ made e → IsHere (state n) o
  made_on e n o le within some is =
      let m : ℕ = n - e in
      let same : e + m ≡ n = omega arith in
      subst (λ (k : ℕ). IsHere (state k) o) same (knows.here e m o (omega (arith, same, within)) (knows.all e o (omega (arith, le, within)) some is))

  -- where it is not reached any more, it was last reached before
  last_before : (e f o : ℕ) → e ≤ last → f ≤ last → 0 < o → o ≤ made e → ((k : ℕ) → e ≤ k → k ≤ last → IsNow k o true → ⊥) → last_of o f < e
  last_before e f o le within some is out = elim (cases_lt (last_of o f) e) [
    | inl lt ↦ lt
    | inr high ↦ elim (cases_eq (last_of o f) 0) [
      | inl none ↦
          let first : e ≡ 0 = omega (arith, high, none) in
          absurd (out 0 (omega (arith, first)) (omega arith) (knows.first o some (subst (λ (k : ℕ). o ≤ made k) first is)))
      | inr ne ↦ absurd (out (last_of o f) high (let up = last_within reached p options pick f o in omega (arith, up, within)) (last_seen o f (omega (arith, ne))))
    ]
  ]

  held_listed : (e f o : ℕ) → 0 < o → IsHeld (state f).kept.heap o → IsNow f o false → last_of o f < e → IsListed e o (dead f)
  held_listed e f o some held out lt =
      let g : Graph = graph (state f) in
      let below = held_within (state f).kept.heap o held in
      let is : IsIn (reached g) (is_gone g) (λ k. last_of k f) g.made o (last_of o f) = record {
        above = some;
        within = omega (arith, below);
        out = out;
        held = false_from_ne_true (is_gone g o) (λ h. (gone_at (state f).kept.heap o (has_contains g.gone o h)).2 held);
        at = refl;
      } in
      (last_of o f, in_deaths (reached g) (is_gone g) (λ k. last_of k f) g.made o (last_of o f) is, lt)

  -- A D LINE of a time before the event stands exactly where the object is not reached then or later
  module _ (e o : ℕ) (le : e ≤ last) (some : 0 < o) (is : o ≤ made e) where
    pub dies_when : from o e (last - e) ≡ false → dies_before trace e o ≡ true
    dies_when none =
        let out : (k : ℕ) → e ≤ k → k ≤ last → IsNow k o true → ⊥ = λ k low high seen. false≢true (sym none ∙ from_seen o e (last - e) k low (omega (arith, le, high)) seen) in
        elim (made_on e last o le (omega arith) some is) [
          | inl held ↦
              trace_ends e o reached (whole_picked p options pick) (whole_start p) (start_records p) last end
              (held_listed e last o some held (false_from_ne_true (reached (graph (state last)) o) (out last le (omega arith))) (last_before e last o le (omega arith) some is out))
          | inr there ↦
              let f = found_before reached p options pick last o there in
              let lt = f.1 in
              trace_told e o reached (whole_picked p options pick) (whole_start p) (start_records p) last end
              (f.0, f.1, f.2.due, held_listed e f.0 o some f.2.held f.2.out (last_before e f.0 o le (omega (arith, lt)) some is out))
        ]

    -- what a flush listed is not reached after it
    listed_out : (f k : ℕ) → f ≤ last → (f < last → is_flush_point options.interval f ≡ true) → IsListed e o (dead f) → e ≤ k → k ≤ last → IsNow k o true → ⊥
    listed_out f k within due listed low high seen =
        let g : Graph = graph (state f) in
        let i = deaths_in (reached g) (is_gone g) (λ j. last_of j f) g.made o listed.0 listed.1 in
        let time = i.at in
        let lt = listed.2 in
        elim (cases_lt f k) [
          | inl after ↦ elim (knows.all f o within i.above i.within) [
            | inl held ↦ flushed_out reached p options pick last decides knows f k o (record { due = due (omega (arith, after, high)); held = held; out = i.out }) after high seen
            | inr there ↦ true≢false (sym (contains_has g.gone o ((knows.gone f o within).1 there)) ∙ i.held)
          ]
          | inr before ↦ let up = later_seen o k f before seen in absurd (omega (arith, time, lt, up, low))
        ]

    pub lives_when : from o e (last - e) ≡ true → dies_before trace e o ≡ false
    lives_when h =
        let k = seen_from o e (last - e) h in
        let below = k.2 in
        let high : k.0 ≤ last = omega (arith, below, le) in
        false_from_ne_true (dies_before trace e o) (λ dies. elim (told_trace e o reached (whole_picked p options pick) (whole_start p) (start_records p) last end dies) [
          | inl before ↦ listed_out before.0 k.0 (let lt = before.1 in omega arith) (λ lt. before.2) before.3 k.1 high k.3
          | inr now ↦ listed_out last k.0 (omega arith) (λ lt. absurd (omega (arith, lt))) now k.1 high k.3
        ])

  -- THE SUM
  module _ (e : ℕ) (le : e ≤ last) where
    abbrev term : ℕ → ℕ
    term o = if from o e (last - e) then object_size p (state e) o else 0

    one_term : (born object size elements : ℕ) → 0 < object → IsMadeAt p state e born object size elements → (if nat_le born e && not (dies_before trace e object) then size else 0) ≡ term object
    one_term born object size elements some made_at =
        let below = here_below e object le made_at.here in
        let is : object ≤ made e = omega (arith, below) in
        chosen (nat_le born e) (dies_before trace e object) (from object e (last - e)) size (object_size p (state e) object) (le-leb born e made_at.within) (lives_when e object le some is) (dies_when e object le some is) made_at.size_is

    -- the A lines after those of event e are of later events
    pub late : 0 < next_number (state e) → (born object size elements : ℕ) → next_number (state e) ≤ object → IsMadeAt p state last born object size elements → e < born
    late some born object size elements above made_at = elim (cases_lt e born) [
      | inl lt ↦ lt
      | inr early ↦
          let number = made_at.made in
          let positive : 0 < object = omega (arith, some, above) in
          let below = here_below e object le (made_on born e object early le positive (omega (arith, number))) in
          absurd (omega (arith, below, above))
    ]

    -- the lines up to event e, and those behind them
    pub split : (rest : List TraceLine) × (lines last ≡ lines e ++ rest) × AreAllocations (IsMadeAt p state last) 1 (lines e ++ rest) (next_number (state last))
    split =
        let m : ℕ = last - e in
        let same : e + m ≡ last = omega (arith, le) in
        let more = more_lines reached (whole_picked p options pick) (whole_start p) (start_records p) e m in
        let is : lines last ≡ lines e ++ more.0 = ap (λ (k : ℕ). lines k) (sym same) ∙ more.1 in
        (more.0, is, subst (λ (ls : List TraceLine). AreAllocations (IsMadeAt p state last) 1 ls (next_number (state last))) is (knows.told last (omega arith)))

    pub live_is : live trace e ≡ bytes_reached reached (whole_picked p options pick) (whole_start p) (start_records p) (object_size p) e last
    live_is =
        let more = split in
        let first = knows.told e le in
        let sum = told_bytes trace e (IsMadeAt p state e) term one_term 1 (next_number (state e)) (lines e) (omega arith) first in
        let count = sum.1 in
        let rest = rest_told (IsMadeAt p state last) (IsMadeAt p state e) 1 (next_number (state e)) (next_number (state last)) (lines e) more.0 first more.2 in
        let none : sum_by (live_size trace e) more.0 ≡ 0 = late_none trace e (IsMadeAt p state last) (next_number (state e)) (late (omega (arith, count))) (next_number (state e)) (next_number (state last)) more.0 (omega arith) rest in
        let whole : sum_by (live_size trace e) trace ≡ sum_by (live_size trace e) (lines last) = end_none trace e (lines last) last (dead last) (how_of end) in
        let parts : sum_by (live_size trace e) (lines last) ≡ sum_by (live_size trace e) (lines e) + sum_by (live_size trace e) more.0 =
        ap (λ (ls : List TraceLine). sum_by (live_size trace e) ls) more.1 ∙ sum_by-append (live_size trace e) (lines e) more.0 in
        let numbers : sum.0 ≡ made e = omega (arith, count) in
        let told = sum.2 in
        let total : sum_by (live_size trace e) trace ≡ sum_by term (numbers_from 1 sum.0) = omega (arith, whole, parts, none, told) in
        total ∙ ap (λ (n : ℕ). sum_by term (numbers_from 1 n)) numbers
