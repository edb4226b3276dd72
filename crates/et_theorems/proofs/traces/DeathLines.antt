-- The D lines of a history with times before an event are those of the deaths at its flushes with such times.
use Rattle.std.proofs.Common.{◌≡◌, ℕ, ◌<◌, ◌==◌, ◌⊎◌, nat_lt, Bool, true, List, [], ◌∷◌, Contains, refl, sym, ap, subst, inl, inr}
use Rattle.std.specs.List.{list_any}
use Rattle.std.proofs.lemmas.Bool.{false≢true, and_parts, and_from, or_cases, or_left, or_right, eqb-true, eq-eqb, ltb-true, lt-ltb}
use Rattle.et_base.specs.declared.line.TraceLine.{TraceLine}
use Rattle.et_base.specs.declared.line.TraceLine.TheVariants as line
use Rattle.et_base.specs.declared.value.End.{End}
use Rattle.et_base.proofs.Lists.{Contains-none, Contains-here, Contains-there, Contains-cons}
use Rattle.et_graph.specs.Graph.{Graph}
use Rattle.et_state.specs.declared.records.Record.{Record}
use Rattle.et_state.specs.History.{Setting, is_flush_point, deaths, trace_of}
use Rattle.et_replay.specs.Curve.{tells_before, dies_before}
use Rattle.et_theorems.proofs.DeathLines as death_lines

module _ (e o : ℕ) where
  abbrev tells : List TraceLine → Bool
  tells ls = list_any (tells_before e o) ls

  -- a line that tells it is a D line
  is_death : (l : TraceLine) → tells_before e o l ≡ true → (t : ℕ) × (l ≡ line.Death o t) × (t < e)
  is_death (line.Death object time) h =
      let both = and_parts (object == o) (nat_lt time e) h in
      (time, ap (λ (k : ℕ). line.Death k time) (eqb-true object o both.0), ltb-true time e both.1)
  is_death _ h = absurd (false≢true h)

  told_in : (ls : List TraceLine) → tells ls ≡ true → (t : ℕ) × Contains ls (line.Death o t) × (t < e)
  told_in [] h = absurd (false≢true h)
  told_in (l ∷ ls) h =
      elim (or_cases (tells_before e o l) (tells ls) h) [
        | inl here ↦ let is = is_death l here in (is.0, subst (λ (x : TraceLine). Contains (l ∷ ls) x) is.1 (Contains-here l ls), is.2)
        | inr there ↦ let more = told_in ls there in (more.0, Contains-there l ls (line.Death o more.0) more.1, more.2)
      ]

  in_told : (ls : List TraceLine) (t : ℕ) → Contains ls (line.Death o t) → t < e → tells ls ≡ true
  in_told [] t c lt = absurd (Contains-none (line.Death o t) c)
  in_told (l ∷ ls) t c lt =
      elim (Contains-cons l ls (line.Death o t) c) [
        | inl same ↦
            or_left (tells_before e o l) (tells ls)
            (subst (λ (x : TraceLine). tells_before e o x ≡ true) (sym same) (and_from (o == o) (nat_lt t e) (eq-eqb o o refl) (lt-ltb t e lt)))
        | inr there ↦ or_right (tells_before e o l) (tells ls) (in_told ls t there lt)
      ]

  -- the deaths have the object, with a time before the event
  abbrev pub IsListed : List (ℕ × ℕ) → Type 0
  IsListed ds = (t : ℕ) × Contains ds (o, t) × (t < e)

  module _ {S : Type 0} (reached : Graph → ℕ → Bool) (given : Setting S) (start : S) (made : List Record) where
    abbrev dead : ℕ → List (ℕ × ℕ)
    dead n = deaths reached given start made n

    -- a flush before event n listed the object, with a time before the event
    abbrev pub IsListedBefore : ℕ → Type 0
    IsListedBefore n = (f : ℕ) × (f < n) × (is_flush_point given.interval f ≡ true) × IsListed (dead f)

    -- THE TRACE, at whose end stands a flush
    pub told_trace : (last : ℕ) (end : End) → dies_before (trace_of reached given start made last end) e o ≡ true → IsListedBefore last ⊎ IsListed (dead last)
    told_trace last end h =
        let told = told_in (trace_of reached given start made last end) h in
        elim (death_lines.told_trace o told.0 reached given start made last end told.1) [
          | inl before ↦ inl (before.0, before.1, before.2, (told.0, before.3, told.2))
          | inr now ↦ inr (told.0, now, told.2)
        ]

    pub trace_told : (last : ℕ) (end : End) → IsListedBefore last → dies_before (trace_of reached given start made last end) e o ≡ true
    trace_told last end l =
        in_told (trace_of reached given start made last end) l.3.0 (death_lines.trace_told o l.3.0 reached given start made last end (l.0, l.1, l.2, l.3.1)) l.3.2

    pub trace_ends : (last : ℕ) (end : End) → IsListed (dead last) → dies_before (trace_of reached given start made last end) e o ≡ true
    trace_ends last end l = in_told (trace_of reached given start made last end) l.0 (death_lines.trace_ends o l.0 reached given start made last end l.1) l.2
