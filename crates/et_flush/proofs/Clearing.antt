-- The references whose referents become null, as they are swept one after the other.
use Rattle.std.proofs.Common.{◌≡◌, ℕ, suc, ◌+◌, ◌<◌, ◌≤◌, Bool, true, false, List, [], ◌∷◌, ◌++◌, length, get_or, Option, Some, None, Contains, sym, refl, ◌∙◌, ap, subst, inl, inr, arith, drop, append-nil, append_assoc}
use Rattle.std.specs.Prelude.{if◌then◌else◌}
use Rattle.std.proofs.lemmas.List.{drop_all}
use Rattle.std.proofs.lemmas.Bool.{cases_lt}
use Rattle.std.proofs.lemmas.List.Elements.{Contains-append_cases}
use Rattle.et_state.proofs.Enqueued.{one_of}
use Rattle.et_base.proofs.Lists.{Contains-none}
use Rattle.et_heap.specs.Objects.{ObjectState, Objects, IsHeld, is_there, at}
use Rattle.et_heap.specs.Cleared.{loses_referent, cleared_references}
use Rattle.et_flush.proofs.Sweeping.{swept, place_before, none_between, first_dropped}

-- the object at number k, where its referent becomes null
abbrev pub cleared_place : (ℕ → Bool) → Bool → ℕ → Option ObjectState → List ℕ
cleared_place here b k p = if loses_referent here b p then k ∷ [] else []

none_cleared : (here : ℕ → Bool) (b : Bool) (k : ℕ) (p : Option ObjectState) → (is_there p → ⊥) → cleared_place here b k p ≡ []
none_cleared here b k None out = refl
none_cleared here b k (Some x) out = absurd (out tt)

pub cleared_end : (here : ℕ → Bool) (n : ℕ) (xs : Objects) → length xs ≤ n → cleared_references here n (drop n xs) ≡ []
cleared_end here n xs all = ap (λ (ys : Objects). cleared_references here n ys) (drop_all n xs all)

cleared_left : (here : ℕ → Bool) (n : ℕ) (xs : Objects) → n < length xs → cleared_references here n (drop n xs) ≡ cleared_place here (here n) n (get_or xs n None) ++ cleared_references here (n + 1) (drop (n + 1) xs)
cleared_left here n xs lt = ap (λ (ys : Objects). cleared_references here n ys) (first_dropped n xs lt)

cleared_same : (here : ℕ → Bool) (xs : Objects) (n : ℕ) → (IsHeld xs n → ⊥) → cleared_references here (n + 1) (drop (n + 1) xs) ≡ cleared_references here n (drop n xs)
cleared_same here xs n out =
    elim (cases_lt n (length xs)) [
      | inl lt ↦ sym (cleared_left here n xs lt ∙ ap (λ (rs : List ℕ). rs ++ cleared_references here (n + 1) (drop (n + 1) xs)) (none_cleared here (here n) n (get_or xs n None) out))
      | inr past ↦ cleared_end here (n + 1) xs (omega arith) ∙ sym (cleared_end here n xs past)
    ]

-- where nothing is held, nothing is cleared
pub cleared_to : (here : ℕ → Bool) (n m : ℕ) (xs : Objects) → n ≤ m → ((u : ℕ) → n ≤ u → u < m → IsHeld xs u → ⊥) → cleared_references here n (drop n xs) ≡ cleared_references here m (drop m xs)
cleared_to here n m xs le out = none_between (λ (k : ℕ). cleared_references here k (drop k xs)) xs (cleared_same here xs) n m le out

-- the list once a place was swept
pub cleared_step : (here : ℕ → Bool) (xs ys : Objects) (n o : ℕ) (all cs cs' : List ℕ) → ys ≡ swept here n 0 xs → o ≡ n → n < length xs → cs ++ cleared_references here n (drop n xs) ≡ all
    → cs' ≡ cs ++ cleared_place here (here o) o (at ys o) → cs' ++ cleared_references here (n + 1) (drop (n + 1) xs) ≡ all
cleared_step here xs ys n o all cs cs' before same lt sum is =
    let rest : List ℕ = cleared_references here (n + 1) (drop (n + 1) xs) in
    let place : cleared_place here (here o) o (at ys o) ≡ cleared_place here (here n) n (get_or xs n None) =
    ap (λ (p : Option ObjectState). cleared_place here (here o) o p) (place_before here xs ys n o before same) ∙ ap (λ (k : ℕ). cleared_place here (here k) k (get_or xs n None)) same in
    ap (λ (rs : List ℕ). rs ++ rest) is
    ∙ (append_assoc cs (cleared_place here (here o) o (at ys o)) rest
    ∙ (ap (λ (rs : List ℕ). cs ++ (rs ++ rest)) place ∙ (ap (λ (rs : List ℕ). cs ++ rs) (sym (cleared_left here n xs lt)) ∙ sum)))

-- a place whose referent became null is put on the list, and no other one
pub listed_where : (b c : Bool) (cs : List ℕ) (o : ℕ) → b ≡ c → b ≡ true → cs ++ o ∷ [] ≡ cs ++ (if c then o ∷ [] else [])
listed_where b c cs o same on = ap (λ (d : Bool). cs ++ (if d then o ∷ [] else [])) (sym on ∙ same)

pub unlisted_where : (b c : Bool) (cs : List ℕ) (o : ℕ) → b ≡ c → b ≡ false → cs ≡ cs ++ (if c then o ∷ [] else [])
unlisted_where b c cs o same off = sym (append-nil cs) ∙ ap (λ (d : Bool). cs ++ (if d then o ∷ [] else [])) (sym off ∙ same)

pub all_cleared : (here : ℕ → Bool) (xs : Objects) (n : ℕ) (all cs : List ℕ) → cs ++ cleared_references here n (drop n xs) ≡ all → length xs ≤ n → cs ≡ all
all_cleared here xs n all cs sum past = sym (append-nil cs) ∙ (ap (λ (rs : List ℕ). cs ++ rs) (sym (cleared_end here n xs past)) ∙ sum)

-- WHICH THEY ARE

loses_there : (here : ℕ → Bool) (b : Bool) (x : Option ObjectState) → loses_referent here b x ≡ true → is_there x × (b ≡ true)
loses_there here b None e = absurd cc
loses_there here true (Some x) e = (tt, refl)
loses_there here false (Some x) e = absurd cc

pub cleared_at : (here : ℕ → Bool) (k : ℕ) (xs : Objects) (r : ℕ) → Contains (cleared_references here k xs) r → (j : ℕ) × (r ≡ k + j) × IsHeld xs j × (here r ≡ true)
cleared_at here k [] r c = absurd (Contains-none r c)
cleared_at here k (x ∷ xs) r c =
    elim (Contains-append_cases (if loses_referent here (here k) x then k ∷ [] else []) (cleared_references here (k + 1) xs) r c) [
      | inl d ↦
          let one = one_of (loses_referent here (here k) x) k r d in
          let there = loses_there here (here k) x one.1 in
          (0, (let e = one.0 in omega arith), there.0, subst (λ (n : ℕ). here n ≡ true) one.0 there.1)
      | inr d ↦ let h = cleared_at here (k + 1) xs r d in (suc h.0, (let e = h.1 in omega arith), h.2, h.3)
    ]

-- each of them is held and stays
pub cleared_stays : (here : ℕ → Bool) (xs : Objects) (r : ℕ) → Contains (cleared_references here 0 xs) r → IsHeld xs r × (here r ≡ true)
cleared_stays here xs r c =
    let h = cleared_at here 0 xs r c in
    let e : h.0 ≡ r = let f = h.1 in omega arith in
    (subst (λ (n : ℕ). IsHeld xs n) e h.2, h.3)
