-- The objects that a trace shows live, by the numbers of the objects that its A lines make.
use Rattle.std.proofs.Common.{◌≡◌, ℕ, suc, ◌+◌, ◌<◌, ◌≤◌, nat_le, not, ◌&&◌, Bool, true, false, cond, List, [], ◌∷◌, ◌++◌, filter, Option, Some, refl, ◌∙◌, ap, arith}
use Rattle.std.specs.Prelude.{map}
use Rattle.std.specs.List.{cons_option, filter_map}
use Rattle.std.proofs.lemmas.Bool.{lt-leb}
use Rattle.std.proofs.lemmas.List.Elements.{filter-append, filter_map-append}
use Rattle.et_base.specs.declared.line.TraceLine.{TraceLine}
use Rattle.et_base.specs.declared.line.TraceLine.TheVariants as line
use Rattle.et_state.specs.History.{flush_lines}
use Rattle.et_state.specs.Roots.{numbers_from}
use Rattle.et_history.specs.Allocations.{TellsOf, next_behind, AreAllocations}
use Rattle.et_replay.specs.Curve.{dies_before}
use Rattle.et_snapshot.specs.Snapshot.{makes_live}
use Rattle.et_theorems.specs.traces.Snapshots.{object_made}
use Rattle.et_theorems.proofs.traces.LiveSums.{next_rises}

module _ (lines : List TraceLine) (e : ℕ) where
  -- the objects of those of these lines that make a live one
  abbrev pub shown : List TraceLine → List ℕ
  shown ls = filter_map object_made (filter (makes_live lines e) ls)

  pub shown_both : (xs ys : List TraceLine) → shown (xs ++ ys) ≡ shown xs ++ shown ys
  shown_both xs ys =
      ap (λ (ls : List TraceLine). filter_map object_made ls) (filter-append (makes_live lines e) xs ys)
      ∙ filter_map-append object_made (filter (makes_live lines e) xs) (filter (makes_live lines e) ys)

  deaths_none : (ds : List (ℕ × ℕ)) → shown (map (λ (d : ℕ × ℕ). line.Death d.0 d.1) ds) ≡ []
  deaths_none [] = refl
  deaths_none (d ∷ ds) = deaths_none ds

  pub flush_none : (n : ℕ) (ds : List (ℕ × ℕ)) → shown (flush_lines n ds) ≡ []
  flush_none n ds = deaths_none ds

  -- a line that makes an object, which is live or not
  one_shown : (b c : Bool) (next : ℕ) (l : TraceLine) (ls : List TraceLine) (os : List ℕ) → object_made l ≡ Some next → b ≡ c → shown ls ≡ os → filter_map object_made (cond b (l ∷ filter (makes_live lines e) ls) (filter (makes_live lines e) ls)) ≡ cond c (next ∷ os) os
  one_shown true true next l ls os is same rest = ap (λ (o : Option ℕ). cons_option o (shown ls)) is ∙ ap (λ (xs : List ℕ). next ∷ xs) rest
  one_shown true false next l ls os is same rest = absurd (let h : true ≡ false = same in cc)
  one_shown false true next l ls os is same rest = absurd (let h : false ≡ true = same in cc)
  one_shown false false next l ls os is same rest = rest

  module _ (P : (event object size elements : ℕ) → Type 0) (g : ℕ → Bool)
      (so : (born object size elements : ℕ) → 0 < object → P born object size elements → (nat_le born e && not (dies_before lines e object)) ≡ g object) where
    -- how many objects the lines make, and those that are live
    pub record Shows (next end : ℕ) (ls : List TraceLine) : Type 0 where
      pub count : ℕ
      pub end_is : end ≡ next + count
      pub shown_is : shown ls ≡ filter g (numbers_from next count)

    shows_one : (next end : ℕ) (l : TraceLine) (ls : List TraceLine) → object_made l ≡ Some next → makes_live lines e l ≡ g next → Shows (next + 1) end ls → Shows next end (l ∷ ls)
    shows_one next end l ls is live s =
        let end_is = s.end_is in
        record { count = suc s.count; end_is = omega (arith, end_is); shown_is = one_shown (makes_live lines e l) (g next) next l ls (filter g (numbers_from (next + 1) s.count)) is live s.shown_is }

    shows_other : (next end : ℕ) (l : TraceLine) (ls : List TraceLine) → makes_live lines e l ≡ false → Shows next end ls → Shows next end (l ∷ ls)
    shows_other next end l ls none s = record {
      count = s.count;
      end_is = s.end_is;
      shown_is = ap (λ (b : Bool). filter_map object_made (cond b (l ∷ filter (makes_live lines e) ls) (filter (makes_live lines e) ls))) none ∙ s.shown_is;
    }

    pub shows_up : (next end : ℕ) (ls : List TraceLine) → 0 < next → AreAllocations P next ls end → Shows next end ls
    shows_up next end [] some h = record { count = 0; end_is = omega (arith, h); shown_is = refl }
    shows_up next end (line.Alloc event thread object class size elements ∷ ls) some h =
        let same : object ≡ next = h.0.0 in
        shows_one next end (line.Alloc event thread object class size elements) ls (ap (λ (n : ℕ). Some n) same) (so event object size elements (omega (arith, same, some)) h.0.1 ∙ ap g same)
        (shows_up (next + 1) end ls (omega (arith, some)) h.1)
    shows_up next end (other ∷ ls) some h = shows_other next end other ls refl (shows_up next end ls some h.1)

  -- LINES OF LATER EVENTS make none that is live at this one
  early : (born : ℕ) (dies : Bool) → e < born → (nat_le born e && not dies) ≡ false
  early born dies lt = ap (λ (b : Bool). b && not dies) (lt-leb born e lt)

  module _ (P : (event object size elements : ℕ) → Type 0) (from : ℕ)
      (late : (born object size elements : ℕ) → from ≤ object → P born object size elements → e < born) where
    not_live : (next : ℕ) (l : TraceLine) → from ≤ next → TellsOf P next l → makes_live lines e l ≡ false
    not_live next (line.Alloc event thread object class size elements) le h =
        let same : object ≡ next = h.0 in
        early event (dies_before lines e object) (late event object size elements (omega (arith, same, le)) h.1)
    not_live next other le h = refl

    pub late_shows_none : (next end : ℕ) (ls : List TraceLine) → from ≤ next → AreAllocations P next ls end → shown ls ≡ []
    late_shows_none next end [] le h = refl
    late_shows_none next end (l ∷ ls) le h =
        let up = next_rises lines e P from late next l in
        ap (λ (b : Bool). filter_map object_made (cond b (l ∷ filter (makes_live lines e) ls) (filter (makes_live lines e) ls))) (not_live next l le h.0)
        ∙ late_shows_none (next_behind P next l) end ls (omega (arith, le, up)) h.1
