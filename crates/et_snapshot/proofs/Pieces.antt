-- What a sink took of rows that follow what was gathered before.
use Rattle.std.proofs.Common.{◌≡◌, ◌∙◌, ℕ, zero, suc, ◌+◌, ◌<◌, ◌≤◌, List, [], ◌∷◌, ◌++◌, length, get_or, drop, refl, sym, ap, subst, append_assoc, arith}
use Rattle.std.specs.Prelude.{Result, Ok, Err, OnOk}
use Rattle.std.specs.List.{flat_map, zip}
use Rattle.std.proofs.lemmas.Grind.{flat_map-append}
use Rattle.std.proofs.lemmas.List.{append-nil}
use Rattle.et_io.specs.Sink.{Log, TakesUpTo, TakesPrefix}
use Rattle.et_io.proofs.Taking.{gathers, goes_on, longer, part_put, takes_no_more, takes_nothing}

-- two texts one after the other
pub then_up_to : (old mid new : Log) (start a b text left : List ℕ) → TakesUpTo old mid (start ++ a) text → TakesUpTo mid new (text ++ b) left → TakesUpTo old new (start ++ (a ++ b)) left
then_up_to old mid new start a b text left h k =
    subst (λ (t : List ℕ). TakesUpTo old new t left) (append_assoc start a b) (goes_on old mid new ((start ++ a) ++ b) (text ++ b) left (gathers old mid (start ++ a) text b h) k)

pub then_prefix : (old mid new : Log) (start a b text : List ℕ) → TakesUpTo old mid (start ++ a) text → TakesPrefix mid new (text ++ b) → TakesPrefix old new (start ++ (a ++ b))
then_prefix old mid new start a b text h k =
    subst (λ (t : List ℕ). TakesPrefix old new t) (append_assoc start a b) (part_put old mid new ((start ++ a) ++ b) (text ++ b) (gathers old mid (start ++ a) text b h) k)

-- the first of two stops
pub stops_in_first : (old new : Log) (start a b : List ℕ) → TakesPrefix old new (start ++ a) → TakesPrefix old new (start ++ (a ++ b))
stops_in_first old new start a b h = subst (λ (t : List ℕ). TakesPrefix old new t) (append_assoc start a b) (longer old new (start ++ a) b h)

-- the rows of the first ones were gathered, and those of the rest are still to come
pub record Puts {A : Type 0} (row : A → List ℕ) (all rest : List A) (old mid : Log) (start text : List ℕ) : Type 0 where
  pub done : List A
  pub parts : all ≡ done ++ rest
  pub taken : TakesUpTo old mid (start ++ flat_map row done) text

pub puts_begin : {A : Type 0} (row : A → List ℕ) (all rest : List A) (old : Log) (start : List ℕ) → rest ≡ all → Puts row all rest old old start start
puts_begin row all rest old start e = record {
  done = [];
  parts = sym e;
  taken = subst (λ (t : List ℕ). TakesUpTo old old t start) (sym (append-nil start)) (takes_nothing old start);
}

more_rows : {A : Type 0} (row : A → List ℕ) (done : List A) (x : A) (start : List ℕ) → start ++ flat_map row (done ++ x ∷ []) ≡ start ++ (flat_map row done ++ row x)
more_rows row done x start = ap (λ (t : List ℕ). start ++ t) (flat_map-append row done (x ∷ []) ∙ ap (λ (t : List ℕ). flat_map row done ++ t) (append-nil (row x)))

pub puts_more : {A : Type 0} (row : A → List ℕ) (all rest rest' : List A) (x : A) (old mid new : Log) (start text left : List ℕ) → rest ≡ x ∷ rest' → Puts row all rest old mid start text → TakesUpTo mid new (text ++ row x) left → Puts row all rest' old new start left
puts_more {A = A} row all rest rest' x old mid new start text left e p t = record {
  done = p.done ++ x ∷ [];
  parts = p.parts ∙ (ap (λ (l : List A). p.done ++ l) e ∙ sym (append_assoc p.done (x ∷ []) rest'));
  taken = subst (λ (l : List ℕ). TakesUpTo old new l left) (sym (more_rows row p.done x start)) (then_up_to old mid new start (flat_map row p.done) (row x) text left p.taken t);
}

all_rows : {A : Type 0} (row : A → List ℕ) (all done rest : List A) → all ≡ done ++ rest → flat_map row all ≡ flat_map row done ++ flat_map row rest
all_rows {A = A} row all done rest e = ap (λ (l : List A). flat_map row l) e ∙ flat_map-append row done rest

-- no more is put
pub puts_stop : {A : Type 0} (row : A → List ℕ) (all rest : List A) (old mid : Log) (start text : List ℕ) → Puts row all rest old mid start text → TakesPrefix old mid (start ++ flat_map row all)
puts_stop row all rest old mid start text p =
    subst (λ (t : List ℕ). TakesPrefix old mid (start ++ t)) (sym (all_rows row all p.done rest p.parts)) (stops_in_first old mid start (flat_map row p.done) (flat_map row rest) (takes_no_more old mid (start ++ flat_map row p.done) text p.taken))

pub puts_fail : {A : Type 0} (row : A → List ℕ) (all rest rest' : List A) (x : A) (old mid new : Log) (start text : List ℕ) → rest ≡ x ∷ rest' → Puts row all rest old mid start text → TakesPrefix mid new (text ++ row x) → TakesPrefix old new (start ++ flat_map row all)
puts_fail {A = A} row all rest rest' x old mid new start text e p t =
    let parts : all ≡ (p.done ++ x ∷ []) ++ rest' = p.parts ∙ (ap (λ (l : List A). p.done ++ l) e ∙ sym (append_assoc p.done (x ∷ []) rest')) in
    subst (λ (l : List ℕ). TakesPrefix old new (start ++ l)) (sym (all_rows row all (p.done ++ x ∷ []) rest' parts))
    (stops_in_first old new start (flat_map row (p.done ++ x ∷ [])) (flat_map row rest')
    (subst (λ (l : List ℕ). TakesPrefix old new l) (sym (more_rows row p.done x start)) (then_prefix old mid new start (flat_map row p.done) (row x) text p.taken t)))

pub puts_all : {A : Type 0} (row : A → List ℕ) (all rest : List A) (old mid : Log) (start text : List ℕ) → rest ≡ [] → Puts row all rest old mid start text → TakesUpTo old mid (start ++ flat_map row all) text
puts_all {A = A} row all rest old mid start text e p =
    let whole : all ≡ p.done = p.parts ∙ (ap (λ (l : List A). p.done ++ l) e ∙ append-nil p.done) in
    subst (λ (l : List A). TakesUpTo old mid (start ++ flat_map row l) text) (sym whole) p.taken

-- the row of the next one is gathered, and a piece may be put
pub puts_next : {A : Type 0} (row : A → List ℕ) (all rest rest' : List A) (x : A) (old mid new : Log) (start text more left : List ℕ) → rest ≡ x ∷ rest' → Puts row all rest old mid start text → more ≡ text ++ row x → TakesUpTo mid new more left → Puts row all rest' old new start left
puts_next row all rest rest' x old mid new start text more left e p is t = puts_more row all rest rest' x old mid new start text left e p (subst (λ (l : List ℕ). TakesUpTo mid new l left) is t)

-- .. or fails to be
pub puts_break : {A : Type 0} (row : A → List ℕ) (all rest rest' : List A) (x : A) (old mid new : Log) (start text more : List ℕ) → rest ≡ x ∷ rest' → Puts row all rest old mid start text → more ≡ text ++ row x → TakesPrefix mid new more → TakesPrefix old new (start ++ flat_map row all)
puts_break row all rest rest' x old mid new start text more e p is t = puts_fail row all rest rest' x old mid new start text e p (subst (λ (l : List ℕ). TakesPrefix mid new l) is t)

pub on_ok : {T E : Type 0} {P : Type 0} (r : Result T E) → P → OnOk r P
on_ok (Ok x) p = p
on_ok (Err e) p = tt

-- two lists side by side, from a place on
pub drop_zip : {A B : Type 0} (xs : List A) (ys : List B) (i : ℕ) (d : A) (e : B) → i < length xs → i < length ys → drop i (zip xs ys) ≡ (get_or xs i d, get_or ys i e) ∷ drop (i + 1) (zip xs ys)
drop_zip [] ys i d e lt le = absurd (omega (arith, lt))
drop_zip (x ∷ xs) [] i d e lt le = absurd (omega (arith, le))
drop_zip (x ∷ xs) (y ∷ ys) zero d e lt le = refl
drop_zip {A = A} {B = B} (x ∷ xs) (y ∷ ys) (suc i) d e lt le =
    let next : suc i + 1 ≡ suc (i + 1) = omega arith in
    drop_zip xs ys i d e (omega (arith, lt)) (omega (arith, le)) ∙ ap (λ (k : ℕ). (get_or xs i d, get_or ys i e) ∷ drop k (zip (x ∷ xs) (y ∷ ys))) (sym next)

pub drop_zip_all : {A B : Type 0} (xs : List A) (ys : List B) (i : ℕ) → length ys ≤ i → drop i (zip xs ys) ≡ []
drop_zip_all [] ys zero le = refl
drop_zip_all [] ys (suc i) le = refl
drop_zip_all (x ∷ xs) [] zero le = refl
drop_zip_all (x ∷ xs) [] (suc i) le = refl
drop_zip_all (x ∷ xs) (y ∷ ys) zero le = absurd (omega (arith, le))
drop_zip_all (x ∷ xs) (y ∷ ys) (suc i) le = drop_zip_all xs ys i (omega (arith, le))
