-- What is reported stays apart from what is held.
use Rattle.std.proofs.Common.{◌≡◌, ℕ, zero, suc, ◌+◌, ◌-◌, ◌<◌, ◌≤◌, Bool, true, false, List, [], ◌∷◌, ◌++◌, length, Option, Some, None, Contains, refl, sym, ap, subst, inl, inr, arith, if◌then◌else◌}
use Rattle.std.proofs.lemmas.Bool.{cases_eq}
use Rattle.std.proofs.lemmas.List.Elements.{Contains-append_cases}
use Rattle.et_state.proofs.Wholes.{length-remaining}
use Rattle.et_graph.specs.Graph.{IsReached, IsWalk}
use Rattle.et_heap.specs.Objects.{ObjectState, Objects, IsHeld, is_there}
use Rattle.et_heap.specs.Refs.{pairs_of, gone_of}
use Rattle.et_heap.specs.Remaining.{left_place, remaining}
use Rattle.et_heap.proofs.HeapLists.{pair_at, pair_held, held_within, gone_at, at_gone}
use Rattle.et_state.specs.State.{State, Kept}
use Rattle.et_state.specs.Roots.{graph, graph_of, fresh_of}
use Rattle.et_state.specs.Past.{IsPast, reporting, first_of}
use Rattle.et_state.specs.Sound.{IsSound}
use Rattle.et_state.specs.Moves.{IsUnderWay}

length-reporting : (here : ℕ → Bool) (k : ℕ) (xs rs : Objects) → length (reporting here k xs rs) ≡ length xs
length-reporting here k [] rs = refl
length-reporting here k (x ∷ xs) [] = ap suc (length-reporting here (k + 1) xs [])
length-reporting here k (x ∷ xs) (r ∷ rs) = ap suc (length-reporting here (k + 1) xs rs)

place_apart : (here : ℕ → Bool) (b : Bool) (x r : Option ObjectState) → (is_there x → ¬ is_there r) → is_there (left_place here b x) → is_there (first_of r (if b then None else x)) → ⊥
place_apart here true (Some x) None apart a c = c
place_apart here true (Some x) (Some r) apart a c = apart tt tt
place_apart here false (Some x) r apart a c = a
place_apart here b None r apart a c = a

flush_apart : (here : ℕ → Bool) (k : ℕ) (xs rs : Objects) (u : ℕ) → IsPast xs rs → IsHeld (remaining here k xs) u → IsHeld (reporting here k xs rs) u → ⊥
flush_apart here k [] rs u past a b = absurd a
flush_apart here k (x ∷ xs) [] zero past a b = place_apart here (here k) x None (λ c d. d) a b
flush_apart here k (x ∷ xs) [] (suc u) past a b = flush_apart here (k + 1) xs [] u (record { within = omega arith; apart = λ o c d. past.apart (suc o) c d }) a b
flush_apart here k (x ∷ xs) (r ∷ rs) zero past a b = place_apart here (here k) x r (past.apart 0) a b
flush_apart here k (x ∷ xs) (r ∷ rs) (suc u) past a b = flush_apart here (k + 1) xs rs u (record { within = (let le = past.within in omega arith); apart = λ o c d. past.apart (suc o) c d }) a b

-- objects are reported
pub past_cleared : (here : ℕ → Bool) (heap reported : Objects) → IsPast heap reported → IsPast (remaining here 0 heap) (reporting here 0 heap reported)
past_cleared here heap reported past = record {
  within = (let a = length-reporting here 0 heap reported in let b = length-remaining here 0 heap in omega arith);
  apart = λ u a b. flush_apart here 0 heap reported u past a b;
}

walk_kept : (s : State) → IsSound s.kept → IsPast s.kept.heap s.reported → (u : ℕ) (walk : List ℕ) (o : ℕ) → IsHeld s.kept.heap u → IsWalk (pairs_of s.kept.heap ++ pairs_of s.reported) u walk o → IsWalk (pairs_of s.kept.heap) u walk o
walk_kept s sound past u [] o h w = w
walk_kept s sound past u (x ∷ walk) o h w =
    elim (Contains-append_cases (pairs_of s.kept.heap) (pairs_of s.reported) (u, x) w.0) [
      | inl c ↦ (c, walk_kept s sound past x walk o (sound.slots u x c) w.1)
      | inr c ↦ absurd (past.apart u h (pair_held s.reported u x (pair_at s.reported u x c)))
    ]

-- what is reached over all objects is reached over the held ones
pub reached_kept : (s : State) → IsSound s.kept → IsPast s.kept.heap s.reported → (o : ℕ) → IsReached (graph s) o → IsReached (graph_of s.kept) o
reached_kept s sound past o r = (r.0, r.1, (r.2.0, walk_kept s sound past r.0 r.2.0 o (sound.roots r.0 r.1) r.2.1))

-- an event keeps what is reported apart from what is held
pub past_on_way : (s x : Kept) (lost : List ℕ) (reported : Objects) → IsUnderWay s x lost → IsPast s.heap reported → IsPast x.heap reported
past_on_way s x lost reported w past =
    let made : length x.heap - 1 ≡ length s.heap - 1 + length (fresh_of s x) = w.draft.made in
    let first : 0 < length s.heap = w.first.room in
    let last : 0 < length x.heap = w.sound.room in
    let within : length reported ≤ length s.heap = past.within in
    record {
      within = omega arith;
      apart = λ o held there.
          let lt : o < length s.heap = let l = held_within reported o there in omega arith in
          let positive : 0 < o = elim (cases_eq o 0) [
            | inl e ↦ absurd (w.sound.none (subst (λ (n : ℕ). IsHeld x.heap n) e held))
            | inr ne ↦ omega arith
          ] in
          let gone : Contains (gone_of s.heap) o = at_gone s.heap o positive lt (λ h. past.apart o h there) in
          (gone_at x.heap o (subst (λ (os : List ℕ). Contains os o) (sym w.draft.gone) gone)).2 held;
    }
