use Rattle.std.proofs.Common.{◌≡◌, ℕ, ◌<◌, ◌≤◌, ◌↔◌, Bool, true, false, Contains, inl, inr, refl, sym, subst, arith}
use Rattle.std.proofs.lemmas.Bool.{cases_eq, cases_lt, false_from_ne_true}
use Rattle.et_base.proofs.Lists.{has_contains}
use Rattle.et_base.specs.declared.line.TraceLine.TheVariants.{Death}
use Rattle.et_event.specs.Start.{start_records}
use Rattle.et_history.specs.Deaths.{DiesBy}
use Rattle.et_history.specs.Whole.{whole_start}
use Rattle.et_graph.specs.Graph.{Graph, IsMade, IsReached}
use Rattle.et_loop.proofs.Dates.{in_deaths}
use Rattle.et_state.specs.History.{is_gone, last_reached}
use Rattle.et_state.specs.Roots.{graph}
use Rattle.et_theorems.specs.Runs.{state_at, Run, IsTraced, IsFlushed, deaths_at, lines_of, picks_of, setting_of}
use Rattle.et_theorems.proofs.Histories.{history_of}
use Rattle.et_theorems.proofs.DeathLines.{told_trace, trace_told, trace_ends}
use Rattle.et_theorems.proofs.theorems.deaths_are_told_exactly.Goals as goal

exact : (c : goal.After-nothing_is_freed) (r : Run) (e o time : ℕ) → IsTraced r → e ≤ r.last → Contains (deaths_at r e) (o, time) ↔ DiesBy r.reached r.program r.options (picks_of r) e o time
exact c r e o time is le =
    let ended = c.programs_are_linked.ensures.ended r is in
    c.deaths_are_exact.ensures.exact r.reached r.program r.options (picks_of r) e o time (record { is = history_of r ended; comes = λ k lt. is.ends.first k (omega (arith, lt, le)) })

pub returns-clause-exact : goal.returns-clause-exact
returns-clause-exact c = exact c

pub returns-clause-lines : goal.returns-clause-lines
returns-clause-lines c r o time is = (to, from)
  where
    dies : (e : ℕ) → e ≤ r.last → Contains (deaths_at r e) (o, time) → DiesBy r.reached r.program r.options (picks_of r) e o time
    dies e le = (exact c r e o time is le).0

    to : Contains (lines_of r) (Death o time) → (e : ℕ) × IsFlushed r e × DiesBy r.reached r.program r.options (picks_of r) e o time
    to has =
        elim (told_trace o time r.reached (setting_of r) (whole_start r.program) (start_records r.program) r.last r.end has) [
          | inl told ↦ let lt = told.1 in let le : told.0 ≤ r.last = omega (arith, lt) in (told.0, record { within = le; due = inl told.2 }, dies told.0 le told.3)
          | inr last ↦ let le : r.last ≤ r.last = omega arith in (r.last, record { within = le; due = inr refl }, dies r.last le last)
        ]

    at_last : Contains (deaths_at r r.last) (o, time) → Contains (lines_of r) (Death o time)
    at_last has = trace_ends o time r.reached (setting_of r) (whole_start r.program) (start_records r.program) r.last r.end has

    from : (e : ℕ) × IsFlushed r e × DiesBy r.reached r.program r.options (picks_of r) e o time → Contains (lines_of r) (Death o time)
    from h =
        let e = h.0 in
        let le = h.1.within in
        let has : Contains (deaths_at r e) (o, time) = (exact c r e o time is le).1 h.2 in
        elim (cases_eq e r.last) [
          | inl same ↦ at_last (subst (λ k. Contains (deaths_at r k) (o, time)) same has)
          | inr ne ↦ elim h.1.due [
            | inl due ↦ trace_told o time r.reached (setting_of r) (whole_start r.program) (start_records r.program) r.last r.end (e, omega (arith, le, ne), due, has)
            | inr same ↦ absurd (ne same)
          ]
        ]

-- ONE TIME AT MOST

-- no flush tells a death again
untold : (c : goal.After-nothing_is_freed) (r : Run) (e f o time other : ℕ) → IsTraced r → IsFlushed r e → IsFlushed r f → e < f
    → DiesBy r.reached r.program r.options (picks_of r) e o time → DiesBy r.reached r.program r.options (picks_of r) f o other → ⊥
untold c r e f o time other is at later lt dies again =
    elim at.due [
      | inl due ↦ again.untold (e, lt, due, time, (exact c r e o time is at.within).1 dies)
      | inr same ↦ let le = later.within in omega (arith, lt, same, le)
    ]

-- .. and each has one time
not_before : (r : Run) (e o time other : ℕ) → DiesBy r.reached r.program r.options (picks_of r) e o time → DiesBy r.reached r.program r.options (picks_of r) e o other → time < other → ⊥
not_before r e o time other dies again lt = dies.last.not_later other lt again.last.within again.last.reached_then

one_time : (c : goal.After-nothing_is_freed) (r : Run) (e f o time other : ℕ) → IsTraced r → IsFlushed r e → IsFlushed r f
    → DiesBy r.reached r.program r.options (picks_of r) e o time → DiesBy r.reached r.program r.options (picks_of r) f o other → time ≡ other
one_time c r e f o time other is at later dies again =
    elim (cases_eq e f) [
      | inl same ↦
          let here : DiesBy r.reached r.program r.options (picks_of r) e o other = subst (λ k. DiesBy r.reached r.program r.options (picks_of r) k o other) (sym same) again in
          elim (cases_eq time other) [
            | inl equal ↦ equal
            | inr ne ↦ elim (cases_lt time other) [
              | inl lt ↦ absurd (not_before r e o time other dies here lt)
              | inr le ↦ absurd (not_before r e o other time here dies (omega (arith, le, ne)))
            ]
          ]
      | inr ne ↦ elim (cases_lt e f) [
        | inl lt ↦ absurd (untold c r e f o time other is at later lt dies again)
        | inr le ↦ absurd (untold c r f e o other time is later at (omega (arith, le, ne)) again dies)
      ]
    ]

pub returns-clause-once : goal.returns-clause-once
returns-clause-once c r o time other is has again =
    let a = (returns-clause-lines c r o time is).0 has in
    let b = (returns-clause-lines c r o other is).0 again in
    one_time c r a.0 b.0 o time other is a.1 b.1 a.2 b.2

-- ALL ARE TOLD

told_line : (c : goal.After-nothing_is_freed) (r : Run) (e o time : ℕ) → IsTraced r → IsFlushed r e → Contains (deaths_at r e) (o, time) → Contains (lines_of r) (Death o time)
told_line c r e o time is at has = (returns-clause-lines c r o time is).1 (e, at, (exact c r e o time is at.within).0 has)

-- the object was reported before the end, or the last flush tells its death
told_by : (c : goal.After-nothing_is_freed) (r : Run) (o : ℕ) (b : Bool) → IsTraced r → IsMade (graph (state_at r r.last)) o → ¬ IsReached (graph (state_at r r.last)) o
    → is_gone (graph (state_at r r.last)) o ≡ b → (time : ℕ) × Contains (lines_of r) (Death o time)
told_by c r o true is made out gone =
    let ended = c.programs_are_linked.ensures.ended r is in
    let reported = (c.nothing_is_freed.ensures.gone r.reached r.program r.options (picks_of r) r.last o (record { is = history_of r ended; comes = is.ends.first })).0 (has_contains (graph (state_at r r.last)).gone o gone) in
    let told = (c.deaths_are_exact.ensures.reported r.reached r.program r.options (picks_of r) r.last o (record { is = history_of r ended; comes = is.ends.first })).0 reported in
    let lt = told.1 in
    (told.3, told_line c r told.0 o told.3 is (record { within = omega (arith, lt); due = inl told.2 }) told.4)
told_by c r o false is made out gone =
    let g : Graph = graph (state_at r r.last) in
    let last : ℕ → ℕ = λ k. last_reached r.reached (setting_of r) (whole_start r.program) (start_records r.program) k r.last in
    let has = in_deaths (r.reached g) (is_gone g) last g.made o (last o) (record {
      above = made.0;
      within = made.1;
      out = false_from_ne_true (r.reached g o) (λ t. out ((is.decides g o).0 t));
      held = gone;
      at = refl;
    }) in
    (last o, told_line c r r.last o (last o) is (record { within = omega arith; due = inr refl }) has)

pub returns-clause-all : goal.returns-clause-all
returns-clause-all c r o is made out = told_by c r o (is_gone (graph (state_at r r.last)) o) is made out refl
