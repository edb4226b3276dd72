-- The set of names and descriptors beside the members that it was filled from.
use Rattle.std.proofs.Common.{◌≡◌, ℕ, List, [], ◌∷◌, ◌++◌, Bool, true, false, not, ◌&&◌, ◌||◌, eqb, Option, Some, None, refl, sym, ap, ◌∙◌, arith}
use Rattle.std.specs.Borrow.{Bor}
use Rattle.std.specs.List.{list_any}
use Rattle.std.specs.Str.{bytes_eq}
use Rattle.std.specs.HashSet.{HashSet}
use Rattle.et_pool.specs.Entries.{Item}
use Rattle.et_class.specs.Layout.{MemberOf}
use Rattle.et_class.specs.Names.{same_key, key_of, share, is_member_new}
use Rattle.et_class.specs.Keys.{has_member_key, has_some_key}
use Rattle.et_class.proofs.Along.{list_any_push}

eqb_sym : (a b : ℕ) → eqb a b ≡ eqb b a
eqb_sym a b = grind arith

bytes_sym : (a b : List ℕ) → bytes_eq a b ≡ bytes_eq b a
bytes_sym [] [] = refl
bytes_sym [] (y ∷ b) = refl
bytes_sym (x ∷ a) [] = refl
bytes_sym (x ∷ a) (y ∷ b) = ap (λ t. t && bytes_eq a b) (eqb_sym x y) ∙ ap (λ t. eqb y x && t) (bytes_sym a b)

share_sym : (p q : Option (List ℕ × List ℕ)) → share p q ≡ share q p
share_sym None None = refl
share_sym None (Some q) = refl
share_sym (Some p) None = refl
share_sym (Some p) (Some q) = ap (λ t. t && bytes_eq p.1 q.1) (bytes_sym p.0 q.0) ∙ ap (λ t. bytes_eq q.0 p.0 && t) (bytes_sym p.1 q.1)

or_comm : (a b : Bool) → (a || b) ≡ (b || a)
or_comm true true = refl
or_comm true false = refl
or_comm false true = refl
or_comm false false = refl

-- the set has the keys of these members
pub record HasKeys {S : Type 0} (slots : List (Option Item)) (keys : HashSet (Bor (List ℕ) × Bor (List ℕ)) S) (ms : List MemberOf) : Type 0 where
  pub has : (q : List ℕ × List ℕ) → has_member_key keys q ≡ list_any (λ e. share (Some q) (key_of slots e)) ms

pub keys_start : {S : Type 0} (slots : List (Option Item)) (keys : HashSet (Bor (List ℕ) × Bor (List ℕ)) S) → keys.keys ≡ [] → HasKeys slots keys []
keys_start slots keys e = record { has = λ q. ap (λ ks. list_any (λ k. same_key q (k.0.now, k.1.now)) ks) e }

pub keys_more : {S : Type 0} (slots : List (Option Item)) (keys keys' : HashSet (Bor (List ℕ) × Bor (List ℕ)) S) (ms : List MemberOf) (m : MemberOf) → HasKeys slots keys ms
    → ((q : List ℕ × List ℕ) → has_member_key keys' q ≡ (share (key_of slots m) (Some q) || has_member_key keys q)) → HasKeys slots keys' (ms ++ m ∷ [])
keys_more slots keys keys' ms m h k = record {
  has = λ q.
      k q ∙ (or_comm (share (key_of slots m) (Some q)) (has_member_key keys q)
      ∙ (ap (λ b. b || share (key_of slots m) (Some q)) (h.has q)
      ∙ (ap (λ b. list_any (λ e. share (Some q) (key_of slots e)) ms || b) (share_sym (key_of slots m) (Some q))
      ∙ sym (list_any_push (λ e. share (Some q) (key_of slots e)) ms m))));
}

never : {X : Type 0} (xs : List X) → list_any (λ e. false) xs ≡ false
never [] = refl
never (x ∷ xs) = never xs

seen_case : {S : Type 0} (slots : List (Option Item)) (keys : HashSet (Bor (List ℕ) × Bor (List ℕ)) S) (ms : List MemberOf) (key : Option (List ℕ × List ℕ)) → HasKeys slots keys ms → has_some_key keys key ≡ list_any (λ e. share key (key_of slots e)) ms
seen_case slots keys ms None h = sym (never ms)
seen_case slots keys ms (Some q) h = h.has q

pub new_is : {S : Type 0} (slots : List (Option Item)) (keys : HashSet (Bor (List ℕ) × Bor (List ℕ)) S) (ms : List MemberOf) (m : MemberOf) (new : Bool) → HasKeys slots keys ms → new ≡ not (has_some_key keys (key_of slots m)) → new ≡ is_member_new slots ms m
new_is slots keys ms m new h e = e ∙ ap (λ b. not b) (seen_case slots keys ms (key_of slots m) h)
