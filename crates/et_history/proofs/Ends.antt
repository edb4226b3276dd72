-- A history ends at the first event after which an end comes; at the limit one comes.
use Rattle.std.proofs.Common.{◌≡◌, ℕ, zero, suc, ◌<◌, ◌⊎◌, inl, inr, Bool, true, false, List, Option, Some, None, refl, subst, eq-eqb, arith}
use Rattle.std.specs.Prelude.{if◌then◌else◌}
use Rattle.std.proofs.lemmas.Bool.{cases_lt, false≢true}
use Rattle.et_loop.proofs.RunLemmas.{none_some}
use Rattle.et_base.specs.declared.value.End.{End}
use Rattle.et_base.specs.declared.value.End.TheVariants.{Finished, EventLimit}
use Rattle.et_graph.specs.Graph.{Graph}
use Rattle.et_state.specs.declared.records.Record.{Record}
use Rattle.et_state.specs.History.{Setting, IsLastEvent, ending, settled, left_by}
use Rattle.et_history.specs.Ends.{HasOneEnd}

comes : (empty full : Bool) (by : Option End) → full ≡ true → (if empty then Some Finished else (if full then Some EventLimit else by)) ≡ None → ⊥
comes true full by is none = cc
comes false true by is none = cc
comes false false by is none = false≢true is

one_end : (o : Option End) (end other : End) → o ≡ Some end → o ≡ Some other → other ≡ end
one_end o end other is was = cc

module _ {S : Type 0} (reached : Graph → ℕ → Bool) (given : Setting S) (start : S) (made : List Record) where
  abbrev ends_at : ℕ → Option End
  ends_at e = ending given e (settled reached given e (left_by reached given start made e))

  abbrev GoesOnTo : ℕ → Type 0
  GoesOnTo n = (k : ℕ) → k < n → ends_at k ≡ None

  record EndsBefore (n : ℕ) : Type 0 where
    event : ℕ
    end : End
    before : event < n
    last : IsLastEvent reached given start made event end

  goes_on : (n : ℕ) → GoesOnTo n → ends_at n ≡ None → GoesOnTo (suc n)
  goes_on n goes none k lt = elim (cases_lt k n) [
    | inl below ↦ goes k below
    | inr le ↦ let same : n ≡ k = omega arith in subst (λ j. ends_at j ≡ None) same none
  ]

  next : (n : ℕ) (o : Option End) → ends_at n ≡ o → GoesOnTo n → GoesOnTo (suc n) ⊎ EndsBefore (suc n)
  next n None is goes = inl (goes_on n goes is)
  next n (Some end) is goes = inr (record { event = n; end = end; before = omega arith; last = record { ends = is; first = goes } })

  looked : (n : ℕ) → GoesOnTo n ⊎ EndsBefore n
  looked zero = inl (λ k lt. absurd (omega arith))
  looked (suc n) = elim (looked n) [
    | inl goes ↦ next n (ends_at n) refl goes
    | inr r ↦ inr (record { event = r.event; end = r.end; before = omega (arith, r.before); last = r.last })
  ]

  within : EndsBefore (suc given.limit)
  within = elim (looked (suc given.limit)) [
    | inl goes ↦ absurd (comes _ _ _ (eq-eqb given.limit given.limit refl) (goes given.limit (omega arith)))
    | inr r ↦ r
  ]

  only : (e f : ℕ) (end other : End) → IsLastEvent reached given start made e end → IsLastEvent reached given start made f other → (f ≡ e) × (other ≡ end)
  only e f end other a b = elim (cases_lt e f) [
    | inl below ↦ absurd (none_some (ends_at e) end (b.first e below) a.ends)
    | inr le ↦ elim (cases_lt f e) [
      | inl below ↦ absurd (none_some (ends_at f) other (a.first f below) b.ends)
      | inr ge ↦
          let same : f ≡ e = omega arith in
          (same, one_end (ends_at e) end other a.ends (subst (λ k. ends_at k ≡ Some other) same b.ends))
    ]
  ]

  pub has_one_end : HasOneEnd reached given start made
  has_one_end = record {
    event = within.event;
    end = within.end;
    within = omega (arith, within.before);
    last = within.last;
    only = λ f other last. only within.event f within.end other within.last last;
  }
