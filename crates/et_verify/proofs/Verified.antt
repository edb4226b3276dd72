-- The methods of the files, one after another.
use Rattle.std.proofs.Common.{◌≡◌, ℕ, zero, suc, ◌+◌, ◌<◌, ◌≤◌, Bool, true, false, cond, List, [], ◌∷◌, ◌++◌, length, take, drop, get_or, filter, map, ◌^◌, refl, sym, ◌∙◌, ap, subst, ◌⊎◌, inl, inr, arith, add-one, Contains}
use Rattle.std.specs.Prelude.{is_some, IsSome, if◌then◌else◌}
use Rattle.std.proofs.Math.Seq.{take-suc, split_at, get_or-append_seam}
use Rattle.std.proofs.lemmas.Bool.{cases_eq, cases_lt}
use Rattle.std.proofs.lemmas.List.Elements.{Contains-push_cases, Contains-append_right, Contains-get_or}
use Rattle.std.proofs.lemmas.List.{length-take-le, get_or_append_left}
use Rattle.std.proofs.lemmas.List.Filters.{length-filter_more}
use Rattle.et_program.specs.Entries.{Linked, method_at}
use Rattle.et_program.specs.Linking.{IsLinked}
use Rattle.et_program.specs.Loaded.{loaded_class}
use Rattle.et_program.specs.MembersOf.{methods_of}
use Rattle.et_program.specs.ProgramOf.{is_of_file}
use Rattle.et_program.specs.Slots.{places_from}
use Rattle.et_program.specs.Tables.{IsTabled}
use Rattle.et_verify.specs.Typings.{HasTyping, IsVerified}
use Rattle.et_verify.specs.Verdicts.{IsFirstRejected}

-- the first so many have typings
abbrev pub AreSeen : Linked → ℕ → Type 0
AreSeen p n = (k : ℕ) → Contains (take n p.file_methods) k → HasTyping p k

-- .. and so many of them have code
abbrev pub has_code : Linked → ℕ → Bool
has_code p m = is_some (method_at p m).code

abbrev pub counted : Linked → ℕ → ℕ
counted p n = length (filter (has_code p) (take n p.file_methods))

pub none_seen : (p : Linked) → AreSeen p 0
none_seen p k c = absurd (omega (arith, c.1))

pub next_seen : (p : Linked) (n d : ℕ) → n < length p.file_methods → AreSeen p n → HasTyping p (get_or p.file_methods n d) → AreSeen p (n + 1)
next_seen p n d lt seen this k c =
    let more : take (n + 1) p.file_methods ≡ take n p.file_methods ++ get_or p.file_methods n d ∷ [] = rw add-one (take-suc p.file_methods n d lt) in
    by (Contains-push_cases (take n p.file_methods) (get_or p.file_methods n d) k (subst (λ (xs : List ℕ). Contains xs k) more c))
  where
    by : Contains (take n p.file_methods) k ⊎ (get_or p.file_methods n d ≡ k) → HasTyping p k
    by (inl c) = seen k c
    by (inr e) = subst (λ (m : ℕ). HasTyping p m) e this

pub all_seen : (p : Linked) (n : ℕ) → take n p.file_methods ≡ p.file_methods → AreSeen p n → IsVerified p
all_seen p n e seen m c = seen m (subst (λ (xs : List ℕ). Contains xs m) (sym e) c)

pub rejected_here : (p : Linked) (n d : ℕ) → n < length p.file_methods → AreSeen p n → IsSome (method_at p (get_or p.file_methods n d)).code → (HasTyping p (get_or p.file_methods n d) → ⊥) → IsFirstRejected p (get_or p.file_methods n d)
rejected_here p n d lt seen code none = record {
  before = take n p.file_methods;
  after = drop (suc n) p.file_methods;
  place = split_at p.file_methods n d lt;
  code = code;
  none = none;
  others = seen;
}

-- HOW MANY there are, at most

one_more : {X : Type 0} (b : Bool) (n : ℕ) (x : X) (more : List ℕ) (xs : List X) → length more ≤ length xs → length (if b then n ∷ more else more) ≤ length (x ∷ xs)
one_more true n x more xs le = omega (arith, le)
one_more false n x more xs le = omega (arith, le)

pub places_few : {X : Type 0} (test : X → Bool) (n : ℕ) (xs : List X) → length (places_from test n xs) ≤ length xs
places_few test n [] = omega arith
places_few test n (x ∷ xs) = one_more (test x) n x (places_from test (n + 1) xs) xs (places_few test (n + 1) xs)

few_methods : (p : Linked) → IsLinked p → length p.file_methods ≤ length p.methods
few_methods p h = subst (λ (q : Linked). length q.file_methods ≤ length q.methods) (sym h.program.tables) (places_few is_of_file 0 (methods_of (map loaded_class h.classes)))

filter_few : (f : ℕ → Bool) (xs : List ℕ) → length (filter f xs) ≤ length xs
filter_few f [] = omega arith
filter_few f (x ∷ xs) = one_more (f x) x x (filter f xs) xs (filter_few f xs)

pub room_left : (p : Linked) (n : ℕ) → IsTabled p → IsLinked p → n < length p.file_methods → counted p n + 1 < 2 ^ 32
room_left p n t h lt =
    let few : counted p n ≤ length (take n p.file_methods) = filter_few (has_code p) (take n p.file_methods) in
    omega (arith, few, length-take-le n p.file_methods (omega (arith, lt)), few_methods p h, t.few_methods, lt)

pub next_counted : (p : Linked) (n d : ℕ) (b : Bool) → n < length p.file_methods → has_code p (get_or p.file_methods n d) ≡ b → counted p (n + 1) ≡ counted p n + cond b 1 0
next_counted p n d b lt e = length-filter_more (has_code p) p.file_methods n d lt ∙ ap (λ (x : Bool). counted p n + cond x 1 0) e

-- ONE VERDICT

pub rejected_among : (p : Linked) (m : ℕ) → IsFirstRejected p m → Contains p.file_methods m
rejected_among p m r = subst (λ (xs : List ℕ). Contains xs m) (sym r.place) (Contains-append_right r.before (m ∷ r.after) m (zero, omega arith, refl))

rejected_at : (p : Linked) (m : ℕ) (r : IsFirstRejected p m) → get_or p.file_methods (length r.before) 0 ≡ m
rejected_at p m r = ap (λ (xs : List ℕ). get_or xs (length r.before) 0) r.place ∙ get_or-append_seam r.before m r.after 0

-- none that is rejected stands before another one
not_before : (p : Linked) (m k : ℕ) (x : IsFirstRejected p m) (y : IsFirstRejected p k) → length x.before < length y.before → ⊥
not_before p m k x y lt =
    let there : get_or p.file_methods (length x.before) 0 ≡ get_or y.before (length x.before) 0 = ap (λ (xs : List ℕ). get_or xs (length x.before) 0) y.place ∙ get_or_append_left y.before (k ∷ y.after) 0 (length x.before) lt in
    x.none (y.others m (subst (λ (q : ℕ). Contains y.before q) (sym there ∙ rejected_at p m x) (Contains-get_or y.before (length x.before) 0 lt)))

pub rejected_one : (p : Linked) (m k : ℕ) → IsFirstRejected p m → IsFirstRejected p k → m ≡ k
rejected_one p m k x y = elim (cases_eq (length x.before) (length y.before)) [
  | inl same ↦ sym (rejected_at p m x) ∙ (ap (λ (i : ℕ). get_or p.file_methods i 0) same ∙ rejected_at p k y)
  | inr ne ↦ elim (cases_lt (length x.before) (length y.before)) [
    | inl lt ↦ absurd (not_before p m k x y lt)
    | inr le ↦ absurd (not_before p k m y x (omega (arith, le, ne)))
  ]
]
