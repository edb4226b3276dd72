-- A set that is given entries keeps each once, in the order of their first places.
use Rattle.std.proofs.Common.{◌≡◌, Bool, true, false, not, cond, ◌&&◌, ◌||◌, List, [], ◌∷◌, ◌++◌, filter, refl, sym, ap, subst, ◌∙◌, append_assoc, append-nil, inl, inr}
use Rattle.std.proofs.Math.Path.{fun_ext}
use Rattle.std.proofs.lemmas.Bool.{cases_Bool}
use Rattle.std.specs.List.{flat_map, list_any}
use Rattle.std.specs.Cmp.{IsEquivalence}
use Rattle.indexmap.specs.IndexSet.{insert_key, insert_all}
use Rattle.et_listing.specs.declared.entry.Entry.{Entry}
use Rattle.et_listing.specs.declared.line.Parsed.{Parsed}
use Rattle.et_listing.specs.contracts.entry.EntryEq.TheImpl.Laws.{laws-law}
use Rattle.et_asm.specs.Pool.{same_entry, parts, each_once, uses, pool}
use Rattle.et_asm.specs.Symbols.{entry_added}
use Rattle.et_asm.proofs.Alike.{alike}

pub laws : IsEquivalence same_entry
laws = subst (λ (E : Entry → Entry → Bool). IsEquivalence E) alike laws-law

both_step : (p q r : Entry → Bool) (y : Entry) (ys : List Entry) → r y ≡ (p y && q y) → (b c : Bool) → q y ≡ b → p y ≡ c → filter p (filter q ys) ≡ filter r ys
    → filter p (cond (q y) (y ∷ filter q ys) (filter q ys)) ≡ cond (r y) (y ∷ filter r ys) (filter r ys)
both_step p q r y ys h true true eq ep rest =
    ap (λ t. filter p (cond t (y ∷ filter q ys) (filter q ys))) eq ∙ (ap (λ t. cond t (y ∷ filter p (filter q ys)) (filter p (filter q ys))) ep
    ∙ (ap (λ zs. y ∷ zs) rest ∙ sym (ap (λ t. cond t (y ∷ filter r ys) (filter r ys)) (h ∙ (ap (λ t. t && q y) ep ∙ eq)))))
both_step p q r y ys h true false eq ep rest =
    ap (λ t. filter p (cond t (y ∷ filter q ys) (filter q ys))) eq ∙ (ap (λ t. cond t (y ∷ filter p (filter q ys)) (filter p (filter q ys))) ep
    ∙ (rest ∙ sym (ap (λ t. cond t (y ∷ filter r ys) (filter r ys)) (h ∙ ap (λ t. t && q y) ep))))
both_step p q r y ys h false true eq ep rest =
    ap (λ t. filter p (cond t (y ∷ filter q ys) (filter q ys))) eq ∙ (rest ∙ sym (ap (λ t. cond t (y ∷ filter r ys) (filter r ys)) (h ∙ (ap (λ t. t && q y) ep ∙ eq))))
both_step p q r y ys h false false eq ep rest =
    ap (λ t. filter p (cond t (y ∷ filter q ys) (filter q ys))) eq ∙ (rest ∙ sym (ap (λ t. cond t (y ∷ filter r ys) (filter r ys)) (h ∙ ap (λ t. t && q y) ep)))

-- what passes two filters passes one
filter_both : (p q r : Entry → Bool) → ((y : Entry) → r y ≡ (p y && q y)) → (ys : List Entry) → filter p (filter q ys) ≡ filter r ys
filter_both p q r h [] = refl
filter_both p q r h (y ∷ ys) = both_step p q r y ys (h y) (q y) (p y) refl refl (filter_both p q r h ys)

filter_all : (ys : List Entry) → filter (λ y. true) ys ≡ ys
filter_all [] = refl
filter_all (y ∷ ys) = ap (λ zs. y ∷ zs) (filter_all ys)

any_push : (p : Entry → Bool) (xs : List Entry) (x : Entry) → list_any p (xs ++ x ∷ []) ≡ (list_any p xs || p x)
any_push p [] x = or_false (p x)
  where
    or_false : (b : Bool) → (b || false) ≡ b
    or_false true = refl
    or_false false = refl
any_push p (y ∷ xs) x = ap (λ b. p y || b) (any_push p xs x) ∙ or_assoc (p y) (list_any p xs) (p x)
  where
    or_assoc : (a b c : Bool) → (a || (b || c)) ≡ ((a || b) || c)
    or_assoc true b c = refl
    or_assoc false b c = refl

not_or : (a b : Bool) → not (a || b) ≡ (not a && not b)
not_or true b = refl
not_or false b = refl

-- those that a set lacks
abbrev pub lacks : List Entry → Entry → Bool
lacks ks y = not (list_any (same_entry y) ks)

abbrev other : Entry → Entry → Bool
other x y = not (same_entry x y)

lacks_push : (ks : List Entry) (x y : Entry) → lacks (ks ++ x ∷ []) y ≡ (lacks ks y && other x y)
lacks_push ks x y = ap not (any_push (same_entry y) ks x) ∙ (not_or (list_any (same_entry y) ks) (same_entry y x) ∙ ap (λ b. lacks ks y && not b) (laws.symm y x))

-- what a set has, it has of what is the same
had : (ks : List Entry) (x y : Entry) → list_any (same_entry x) ks ≡ true → lacks ks y ≡ (lacks ks y && other x y)
had ks x y there = by (same_entry x y) refl
  where
    and_true : (b : Bool) → b ≡ (b && true)
    and_true true = refl
    and_true false = refl

    by : (b : Bool) → same_entry x y ≡ b → lacks ks y ≡ (lacks ks y && not (same_entry x y))
    by true e =
        let tests : same_entry x ≡ same_entry y = fun_ext (λ z. laws.congr x y z e) in
        let no : lacks ks y ≡ false = ap not (sym (ap (λ t. list_any t ks) tests) ∙ there) in
        no ∙ sym (ap (λ b. b && not (same_entry x y)) no)
    by false e = and_true (lacks ks y) ∙ ap (λ b. lacks ks y && not b) (sym e)

had_step : (ks xs : List Entry) (x : Entry) → list_any (same_entry x) ks ≡ true → insert_all same_entry ks xs ≡ ks ++ filter (lacks ks) (each_once xs)
    → insert_all same_entry (insert_key same_entry ks x) xs ≡ ks ++ filter (lacks ks) (x ∷ filter (other x) (each_once xs))
had_step ks xs x there before =
    let ys = filter (other x) (each_once xs) in
    ap (λ b. insert_all same_entry (cond b ks (ks ++ x ∷ [])) xs) there
    ∙ (before ∙ (ap (λ zs. ks ++ zs) (sym (filter_both (lacks ks) (other x) (lacks ks) (λ y. had ks x y there) (each_once xs)))
    ∙ ap (λ b. ks ++ cond (not b) (x ∷ filter (lacks ks) ys) (filter (lacks ks) ys)) (sym there)))

new_step : (ks xs : List Entry) (x : Entry) → list_any (same_entry x) ks ≡ false → insert_all same_entry (ks ++ x ∷ []) xs ≡ (ks ++ x ∷ []) ++ filter (lacks (ks ++ x ∷ [])) (each_once xs)
    → insert_all same_entry (insert_key same_entry ks x) xs ≡ ks ++ filter (lacks ks) (x ∷ filter (other x) (each_once xs))
new_step ks xs x new before =
    let ys = filter (other x) (each_once xs) in
    ap (λ b. insert_all same_entry (cond b ks (ks ++ x ∷ [])) xs) new
    ∙ (before ∙ (append_assoc ks (x ∷ []) (filter (lacks (ks ++ x ∷ [])) (each_once xs))
    ∙ (ap (λ zs. ks ++ x ∷ zs) (sym (filter_both (lacks ks) (other x) (lacks (ks ++ x ∷ [])) (lacks_push ks x) (each_once xs)))
    ∙ ap (λ b. ks ++ cond (not b) (x ∷ filter (lacks ks) ys) (filter (lacks ks) ys)) (sym new))))

pub gather : (ks xs : List Entry) → insert_all same_entry ks xs ≡ ks ++ filter (lacks ks) (each_once xs)
unfolding each_once
gather ks [] = sym (append-nil ks)
gather ks (x ∷ xs) = elim (cases_Bool (list_any (same_entry x) ks)) [
  | inl there ↦ had_step ks xs x there (gather ks xs)
  | inr new ↦ new_step ks xs x new (gather (ks ++ x ∷ []) xs)
]

pub once : (xs : List Entry) → insert_all same_entry [] xs ≡ each_once xs
once xs = gather [] xs ∙ filter_all (each_once xs)

pub pool_once : (lines : List Parsed) → entry_added [] (uses lines) ≡ pool lines
unfolding entry_added pool
pool_once lines = once (flat_map parts (uses lines))
