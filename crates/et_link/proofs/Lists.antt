-- Lists that grow by one element after another.
use Rattle.std.proofs.Common.{◌≡◌, ℕ, ◌+◌, ◌<◌, suc, Bool, true, false, List, [], ◌∷◌, ◌++◌, length, take, get_or, map, Option, None, Some, refl, sym, ◌∙◌, ap, subst, arith, append_assoc, append-nil}
use Rattle.std.specs.Prelude.{if◌then◌else◌}
use Rattle.std.specs.List.{filter, filter_map, cons_option}
use Rattle.std.specs.Option.{option_to_list}
use Rattle.std.proofs.lemmas.List.{take_more, length-take-le, length-map, map-append}
use Rattle.std.proofs.lemmas.List.Elements.{filter-append}
use Rattle.et_base.proofs.Lists.{none_long}
use Rattle.et_pool.specs.Entries.{Constants}
use Rattle.et_boot.specs.Classes.{BootClassOf}
use Rattle.et_program.specs.MembersOf.{numbered, IsBootPool, AreBootPools}

numbered-append : {X Y : Type 0} (f : ℕ → X → List Y) (k : ℕ) (xs : List X) (y : X) → numbered f k (xs ++ y ∷ []) ≡ numbered f k xs ++ f (k + length xs) y
numbered-append f k [] y = let e : k + 0 ≡ k = omega arith in append-nil (f k y) ∙ ap (λ n. f n y) (sym e)
numbered-append f k (x ∷ xs) y =
    let e : k + 1 + length xs ≡ k + suc (length xs) = omega arith in
    ap (λ r. f k x ++ r) (numbered-append f (k + 1) xs y) ∙ (sym (append_assoc (f k x) (numbered f (k + 1) xs) (f (k + 1 + length xs) y)) ∙ ap (λ n. (f k x ++ numbered f (k + 1) xs) ++ f n y) e)

-- what one more element gives
pub numbered_more : {X Y : Type 0} (f : ℕ → X → List Y) (k : ℕ) (xs : List X) (i : ℕ) (d x : X) (n : ℕ) → i < length xs → x ≡ get_or xs i d → n ≡ k + i → numbered f k (take (i + 1) xs) ≡ numbered f k (take i xs) ++ f n x
numbered_more f k xs i d x n lt is at =
    let m : k + length (take i xs) ≡ n = let l : length (take i xs) ≡ i = length-take-le i xs (omega arith) in omega arith in
    ap (numbered f k) (take_more xs i d lt) ∙ (numbered-append f k (take i xs) (get_or xs i d) ∙ (ap (λ y. numbered f k (take i xs) ++ f (k + length (take i xs)) y) (sym is) ∙ ap (λ j. numbered f k (take i xs) ++ f j x) m))

-- ELEMENTS TAKEN ONE AFTER ANOTHER

-- one more was taken of what is left
pub taken_more : {X : Type 0} (before left rest all : List X) (x : X) → before ++ left ≡ all → left ≡ x ∷ rest → (before ++ x ∷ []) ++ rest ≡ all
taken_more before left rest all x h e = append_assoc before (x ∷ []) rest ∙ (ap (λ l. before ++ l) (sym e) ∙ h)

-- nothing is left
pub taken_all : {X : Type 0} (before left all : List X) → before ++ left ≡ all → length left ≡ 0 → before ≡ all
taken_all before left all h n = sym (append-nil before) ∙ (ap (λ l. before ++ l) (sym (none_long left n)) ∙ h)

-- each element of a longer list
pub map_push : {X Y : Type 0} (f : X → Y) (xs : List X) (x : X) → map f (xs ++ x ∷ []) ≡ map f xs ++ f x ∷ []
map_push f [] x = refl
map_push f (y ∷ xs) x = ap (λ l. f y ∷ l) (map_push f xs x)

pub numbered_push : {X Y : Type 0} (f : ℕ → X → List Y) (k : ℕ) (xs : List X) (x : X) (n : ℕ) → n ≡ k + length xs → numbered f k (xs ++ x ∷ []) ≡ numbered f k xs ++ f n x
numbered_push f k xs x n e = numbered-append f k xs x ∙ ap (λ m. numbered f k xs ++ f m x) (sym e)

-- what was made of each element of a longer list
pub map_push_of : {X Y Z : Type 0} (f : Y → Z) (g : X → Y) (xs : List X) (x : X) → map f (map g (xs ++ x ∷ [])) ≡ map f (map g xs) ++ f (g x) ∷ []
map_push_of f g xs x = ap (map f) (map_push g xs x) ∙ map_push f (map g xs) (g x)

pub numbered_push_of : {X Y Z : Type 0} (f : ℕ → Y → List Z) (g : X → Y) (k : ℕ) (xs : List X) (x : X) (n : ℕ) → n ≡ k + length xs → numbered f k (map g (xs ++ x ∷ [])) ≡ numbered f k (map g xs) ++ f n (g x)
numbered_push_of f g k xs x n e = ap (numbered f k) (map_push g xs x) ∙ numbered_push f k (map g xs) (g x) n (e ∙ ap (λ l. k + l) (sym (length-map xs g)))

pub numbered_more_of : {X Y Z : Type 0} (f : ℕ → Y → List Z) (g : X → Y) (k : ℕ) (xs : List X) (i : ℕ) (d x : X) (n : ℕ) → i < length xs → x ≡ get_or xs i d → n ≡ k + i → numbered f k (map g (take (i + 1) xs)) ≡ numbered f k (map g (take i xs)) ++ f n (g x)
numbered_more_of f g k xs i d x n lt is at =
    let m : n ≡ k + length (take i xs) = let l : length (take i xs) ≡ i = length-take-le i xs (omega arith) in omega arith in
    ap (λ l. numbered f k (map g l)) (take_more xs i d lt ∙ ap (λ y. take i xs ++ y ∷ []) (sym is)) ∙ numbered_push_of f g k (take i xs) x n m

pub length-push : {X : Type 0} (xs : List X) (x : X) → length (xs ++ x ∷ []) ≡ length xs + 1
length-push [] x = refl
length-push (y ∷ xs) x = let e : length (xs ++ x ∷ []) ≡ length xs + 1 = length-push xs x in omega arith

-- POOLS

boot_pools_push : (cs : List BootClassOf) (ps : List Constants) (c : BootClassOf) (p : Constants) → AreBootPools cs ps → IsBootPool c p → AreBootPools (cs ++ c ∷ []) (ps ++ p ∷ [])
boot_pools_push [] [] c p h one = (one, tt)
boot_pools_push [] (q ∷ ps) c p h one = absurd h
boot_pools_push (d ∷ cs) [] c p h one = absurd h
boot_pools_push (d ∷ cs) (q ∷ ps) c p h one = (h.0, boot_pools_push cs ps c p h.1 one)

pub boot_pools_more : (cs : List BootClassOf) (i : ℕ) (d c : BootClassOf) (ps qs : List Constants) (p : Constants) → i < length cs → c ≡ get_or cs i d → AreBootPools (take i cs) ps → IsBootPool c p → qs ≡ ps ++ p ∷ [] → AreBootPools (take (i + 1) cs) qs
boot_pools_more cs i d c ps qs p lt is h one e =
    subst (λ q. AreBootPools (take (i + 1) cs) q) (sym e)
    (subst (λ l. AreBootPools l (ps ++ p ∷ [])) (sym (take_more cs i d lt)) (subst (λ x. AreBootPools (take i cs ++ x ∷ []) (ps ++ p ∷ [])) is (boot_pools_push (take i cs) ps c p h one)))

-- MORE AND MORE BEHIND A LIST

pub pieces : {Y : Type 0} (init before more after mid now : List Y) → now ≡ mid ++ more → mid ≡ init ++ before → after ≡ before ++ more → now ≡ init ++ after
pieces init before more after mid now e f g = e ∙ (ap (λ l. l ++ more) f ∙ (append_assoc init before more ∙ ap (λ l. init ++ l) (sym g)))

cons-append : {Y : Type 0} (o : Option Y) (ys zs : List Y) → cons_option o (ys ++ zs) ≡ cons_option o ys ++ zs
cons-append None ys zs = refl
cons-append (Some y) ys zs = refl

filter_map-push : {X Y : Type 0} (f : X → Option Y) (xs : List X) (x : X) → filter_map f (xs ++ x ∷ []) ≡ filter_map f xs ++ option_to_list (f x)
filter_map-push {X} {Y} f [] x = one (f x)
  where
    one : (o : Option Y) → cons_option o [] ≡ option_to_list o
    one None = refl
    one (Some y) = refl
filter_map-push f (z ∷ xs) x = ap (cons_option (f z)) (filter_map-push f xs x) ∙ cons-append (f z) (filter_map f xs) (option_to_list (f x))

pub filter_map_more : {X Y : Type 0} (f : X → Option Y) (xs : List X) (i : ℕ) (d : X) → i < length xs → filter_map f (take (i + 1) xs) ≡ filter_map f (take i xs) ++ option_to_list (f (get_or xs i d))
filter_map_more f xs i d lt = ap (filter_map f) (take_more xs i d lt) ∙ filter_map-push f (take i xs) (get_or xs i d)

-- WHAT PASSES A TEST, of a longer list

passing_push : {X Y Z : Type 0} (f : Y → Z) (t : Y → Bool) (g : X → Y) (xs : List X) (x : X) → map f (filter t (map g (xs ++ x ∷ []))) ≡ map f (filter t (map g xs)) ++ map f (filter t (g x ∷ []))
passing_push f t g xs x =
    ap (λ l. map f (filter t l)) (map_push g xs x) ∙ (ap (map f) (filter-append t (map g xs) (g x ∷ [])) ∙ map-append f (filter t (map g xs)) (filter t (g x ∷ [])))

-- one more element, and what it gives
pub passing_more : {X Y Z : Type 0} (f : Y → Z) (t : Y → Bool) (g : X → Y) (xs : List X) (i : ℕ) (d x : X) → i < length xs → x ≡ get_or xs i d → map f (filter t (map g (take (i + 1) xs))) ≡ map f (filter t (map g (take i xs))) ++ map f (filter t (g x ∷ []))
passing_more f t g xs i d x lt is =
    ap (λ l. map f (filter t (map g l))) (take_more xs i d lt) ∙ (passing_push f t g (take i xs) (get_or xs i d) ∙ ap (λ y. map f (filter t (map g (take i xs))) ++ map f (filter t (g y ∷ []))) (sym is))

pub one_passes : {Y Z : Type 0} (f : Y → Z) (t : Y → Bool) (y : Y) → t y ≡ true → map f (filter t (y ∷ [])) ≡ f y ∷ []
one_passes f t y e = ap (λ (b : Bool). map f (if b then y ∷ [] else [])) e

pub none_passes : {Y Z : Type 0} (f : Y → Z) (t : Y → Bool) (y : Y) → t y ≡ false → map f (filter t (y ∷ [])) ≡ []
none_passes f t y e = ap (λ (b : Bool). map f (if b then y ∷ [] else [])) e
