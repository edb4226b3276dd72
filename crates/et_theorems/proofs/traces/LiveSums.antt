-- The live bytes of a trace, as a sum over the numbers of the objects that its A lines make.
use Rattle.std.proofs.Common.{◌≡◌, ℕ, suc, ◌+◌, ◌<◌, ◌≤◌, nat_le, not, ◌&&◌, Bool, List, [], ◌∷◌, ◌++◌, sum_by, refl, sym, ◌∙◌, ap, subst, arith}
use Rattle.std.specs.Prelude.{if◌then◌else◌, map}
use Rattle.std.proofs.lemmas.Bool.{lt-leb}
use Rattle.std.proofs.lemmas.List.Sums.{sum_by-append, sum_by-cons}
use Rattle.et_base.specs.declared.line.TraceLine.{TraceLine}
use Rattle.et_base.specs.declared.line.TraceLine.TheVariants as line
use Rattle.et_state.specs.History.{flush_lines}
use Rattle.et_state.specs.Roots.{numbers_from}
use Rattle.et_history.specs.Allocations.{TellsOf, next_behind, AreAllocations}
use Rattle.et_replay.specs.Curve.{dies_before, live_size}

-- what is left of the lines where the first ones are known
next_same : (P Q : (event object size elements : ℕ) → Type 0) (next : ℕ) (l : TraceLine) → next_behind P next l ≡ next_behind Q next l
next_same P Q next (line.Header version interval) = refl
next_same P Q next (line.Class number name) = refl
next_same P Q next (line.Method number class name descriptor) = refl
next_same P Q next (line.Alloc event thread object class size elements) = refl
next_same P Q next (line.Update event thread object slot old new) = refl
next_same P Q next (line.Enter event thread method receiver) = refl
next_same P Q next (line.Exit event thread method) = refl
next_same P Q next (line.Unwind event thread method exception) = refl
next_same P Q next (line.Flush event deaths) = refl
next_same P Q next (line.Death object time) = refl
next_same P Q next (line.Finish event how) = refl

pub rest_told : (P Q : (event object size elements : ℕ) → Type 0) (a b c : ℕ) (xs ys : List TraceLine) → AreAllocations Q a xs b → AreAllocations P a (xs ++ ys) c → AreAllocations P b ys c
rest_told P Q a b c [] ys h g = subst (λ (n : ℕ). AreAllocations P n ys c) h g
rest_told P Q a b c (l ∷ xs) ys h g =
    rest_told P Q (next_behind P a l) b c xs ys (subst (λ (n : ℕ). AreAllocations Q n xs b) (sym (next_same P Q a l)) h.1) g.1

module _ (lines : List TraceLine) (e : ℕ) where
  abbrev bytes : List TraceLine → ℕ
  bytes ls = sum_by (live_size lines e) ls

  -- a line that makes nothing has no bytes
  abbrev one_size : (born object size : ℕ) → ℕ
  one_size born object size = if nat_le born e && not (dies_before lines e object) then size else 0

  deaths_none : (ds : List (ℕ × ℕ)) → bytes (map (λ (d : ℕ × ℕ). line.Death d.0 d.1) ds) ≡ 0
  deaths_none [] = refl
  deaths_none (d ∷ ds) = let rest = deaths_none ds in omega (arith, rest)

  pub end_none : (ls : List TraceLine) (n : ℕ) (ds : List (ℕ × ℕ)) (how : ℕ) → bytes (ls ++ flush_lines n ds ++ line.Finish n how ∷ []) ≡ bytes ls
  end_none ls n ds how =
      let all = sum_by-append (live_size lines e) (ls ++ flush_lines n ds) (line.Finish n how ∷ []) in
      let both = sum_by-append (live_size lines e) ls (flush_lines n ds) in
      let none = deaths_none ds in
      omega (arith, all, both, none)

  module _ (P : (event object size elements : ℕ) → Type 0) (g : ℕ → ℕ)
      (so : (born object size elements : ℕ) → 0 < object → P born object size elements → one_size born object size ≡ g object) where
    -- the numbers of the objects that the lines make, and the sum over them
    pub record Adds (next end : ℕ) (ls : List TraceLine) : Type 0 where
      pub count : ℕ
      pub end_is : end ≡ next + count
      pub sum_is : bytes ls ≡ sum_by g (numbers_from next count)

    adds_other : (next end : ℕ) (l : TraceLine) (ls : List TraceLine) → live_size lines e l ≡ 0 → Adds next end ls → Adds next end (l ∷ ls)
    adds_other next end l ls none a = record { count = a.count; end_is = a.end_is; sum_is = (let more = a.sum_is in let both = sum_by-cons (live_size lines e) l ls in omega (arith, none, more, both)) }

    adds_one : (next end : ℕ) (l : TraceLine) (ls : List TraceLine) → live_size lines e l ≡ g next → Adds (next + 1) end ls → Adds next end (l ∷ ls)
    adds_one next end l ls one a =
        let both = sum_by-cons (live_size lines e) l ls in
        let numbers = sum_by-cons g next (numbers_from (next + 1) a.count) in
        let more = a.sum_is in
        let end_is = a.end_is in
        record { count = suc a.count; end_is = omega (arith, end_is); sum_is = omega (arith, one, both, numbers, more) }

    pub adds_up : (next end : ℕ) (ls : List TraceLine) → 0 < next → AreAllocations P next ls end → Adds next end ls
    adds_up next end [] some h = record { count = 0; end_is = omega (arith, h); sum_is = refl }
    adds_up next end (line.Alloc event thread object class size elements ∷ ls) some h =
        let same : object ≡ next = h.0.0 in
        let one : one_size event object size ≡ g object = so event object size elements (omega (arith, same, some)) h.0.1 in
        adds_one next end (line.Alloc event thread object class size elements) ls (one ∙ ap g same) (adds_up (next + 1) end ls (omega (arith, some)) h.1)
    adds_up next end (other ∷ ls) some h = adds_other next end other ls refl (adds_up next end ls some h.1)

    pub told_bytes : (next end : ℕ) (ls : List TraceLine) → 0 < next → AreAllocations P next ls end → (n : ℕ) × (end ≡ next + n) × (bytes ls ≡ sum_by g (numbers_from next n))
    told_bytes next end ls some h = let a = adds_up next end ls some h in (a.count, a.end_is, a.sum_is)

  -- LINES OF LATER EVENTS have no bytes that are live
  early : (born : ℕ) (dies : Bool) (size : ℕ) → e < born → (if nat_le born e && not dies then size else 0) ≡ 0
  early born dies size lt = ap (λ (b : Bool). if b && not dies then size else 0) (lt-leb born e lt)

  module _ (P : (event object size elements : ℕ) → Type 0) (from : ℕ)
      (late : (born object size elements : ℕ) → from ≤ object → P born object size elements → e < born) where
    none_more : (l : TraceLine) (ls : List TraceLine) → live_size lines e l ≡ 0 → bytes ls ≡ 0 → bytes (l ∷ ls) ≡ 0
    none_more l ls none rest = let both = sum_by-cons (live_size lines e) l ls in omega (arith, none, rest, both)

    line_none : (next : ℕ) (l : TraceLine) → from ≤ next → TellsOf P next l → live_size lines e l ≡ 0
    line_none next (line.Alloc event thread object class size elements) le h =
        let same : object ≡ next = h.0 in
        early event (dies_before lines e object) size (late event object size elements (omega (arith, same, le)) h.1)
    line_none next other le h = refl

    pub next_rises : (next : ℕ) (l : TraceLine) → next ≤ next_behind P next l
    next_rises next (line.Alloc event thread object class size elements) = omega arith
    next_rises next other = omega arith

    pub late_none : (next end : ℕ) (ls : List TraceLine) → from ≤ next → AreAllocations P next ls end → bytes ls ≡ 0
    late_none next end [] le h = refl
    late_none next end (l ∷ ls) le h =
        let up = next_rises next l in
        none_more l ls (line_none next l le h.0) (late_none (next_behind P next l) end ls (omega (arith, le, up)) h.1)
