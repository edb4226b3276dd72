-- A number or a name that is read is the one that was written, and what was written is read again.
use Rattle.std.proofs.Common.{◌≡◌, ℕ, suc, ◌+◌, ◌^◌, ◌<◌, ◌≤◌, Bool, true, false, cond, ltb, List, [], ◌∷◌, ◌++◌, length, take, drop, Some, None, refl, sym, ap, subst, ◌∙◌, append_assoc, arith, inl, inr}
use Rattle.std.specs.Prelude.{All}
use Rattle.std.specs.List.{AllByRecursion}
use Rattle.std.specs.Int.{Width, w8, w32, w64, byte_len, from_be_bytes, to_be_bytes}
use Rattle.std.proofs.lemmas.Bool.{cases_lt, ltb-false, le-ltb}
use Rattle.std.proofs.lemmas.List.{take_at, drop_at, take-append-drop, length-append, length-take, get_or-drop, get_or-take, get_or_past}
use Rattle.std.proofs.lemmas.List.Elements.{All-from_recursion}
use Rattle.std.proofs.lemmas.Nat.{be_bytes_4, be_bytes_8, from_be_bytes-to_be_bytes_4, from_be_bytes-to_be_bytes_8}
use Rattle.std.proofs.lemmas.Option.{same_Some}
use Rattle.et_base.specs.Numbers.{AreBytes}
use Rattle.et_text.specs.Reading.{◌>>=◌}
use Rattle.et_text.specs.Ranges.{IsShort}
use Rattle.et_text.proofs.Numbers.{bind_some}
use Rattle.et_text.specs.Spelling.{Text}
use Rattle.et_binary.specs.Packing.{packed_field}
use Rattle.et_binary.specs.Fronts.{number_front, name_front, turn_front}

pub bytes-drop : (n : ℕ) (bytes : List ℕ) → AreBytes bytes → AreBytes (drop n bytes)
bytes-drop n bytes h i = rw get_or-drop (h (n + i))

bytes-take : (n : ℕ) (bytes : List ℕ) → AreBytes bytes → AreBytes (take n bytes)
bytes-take n bytes h i =
    elim (cases_lt i n) [
      | inl lt ↦ rw (get_or-take n bytes i 0 lt) (h i)
      | inr le ↦ rw (get_or_past (take n bytes) i 0 (omega (arith, length-take n bytes))) (omega arith)
    ]

by_recursion : (bytes : List ℕ) → AreBytes bytes → AllByRecursion (λ b. b < 256) bytes
by_recursion [] h = tt
by_recursion (b ∷ bytes) h = (h 0, by_recursion bytes (λ i. h (suc i)))

all_small : (bytes : List ℕ) → AreBytes bytes → All (λ b. b < 256) bytes
all_small bytes h = All-from_recursion (λ b. b < 256) bytes (by_recursion bytes h)

-- a test that did not fail
guard_none : {A : Type 0} (b : Bool) (x y : A) → cond b None (Some x) ≡ Some y → (b ≡ false) × (x ≡ y)
guard_none true x y e = absurd cc
guard_none false x y e = (refl, same_Some x y e)

-- what was taken from the front
pub record Takes (bytes text rest : List ℕ) : Type 0 where
  pub parts : bytes ≡ text ++ rest
  pub rest_fits : AreBytes rest

pub takes_then : (a x b y c : List ℕ) → Takes a x b → Takes b y c → Takes a (x ++ y) c
takes_then a x b y c p q = record { parts = p.parts ∙ ap (λ (t : List ℕ). x ++ t) q.parts ∙ sym (append_assoc x y c); rest_fits = q.rest_fits }

pub takes_none : (a : List ℕ) → AreBytes a → Takes a [] a
takes_none a h = record { parts = refl; rest_fits = h }

-- NUMBERS

pub record IsWide (w : Width) (limit : ℕ) : Type 0 where
  pub len : (n : ℕ) → length (to_be_bytes w n) ≡ byte_len w
  pub back : (bytes : List ℕ) → length bytes ≡ byte_len w → AreBytes bytes → to_be_bytes w (from_be_bytes w bytes) ≡ bytes
  pub again : (n : ℕ) → n < limit → from_be_bytes w (to_be_bytes w n) ≡ n
  pub below : (bytes : List ℕ) → AreBytes bytes → from_be_bytes w bytes < limit

one_back : (bytes : List ℕ) → length bytes ≡ 1 → AreBytes bytes → to_be_bytes w8 (from_be_bytes w8 bytes) ≡ bytes
one_back [] e h = absurd (omega arith)
one_back (b ∷ []) e h = let lt = h 0 in ap (λ (x : ℕ). x ∷ []) (omega (arith, lt))
one_back (b ∷ c ∷ bytes) e h = absurd (omega arith)

pub wide8 : IsWide w8 (2 ^ 8)
wide8 = record {
  len = λ n. refl;
  back = one_back;
  again = λ n lt. omega (arith, lt);
  below = λ bytes fits. omega (arith, fits 0);
}

pub wide32 : IsWide w32 (2 ^ 32)
wide32 = record {
  len = λ n. refl;
  back = λ bytes len fits. be_bytes_4 bytes _ len fits refl;
  again = λ n lt. from_be_bytes-to_be_bytes_4 n lt;
  below = λ bytes fits. omega (arith, fits 0, fits 1, fits 2, fits 3);
}

pub wide64 : IsWide w64 (2 ^ 64)
wide64 = record {
  len = λ n. refl;
  back = λ bytes len fits. be_bytes_8 bytes _ len fits refl;
  again = λ n lt. from_be_bytes-to_be_bytes_8 n lt;
  below = λ bytes fits. omega (arith, fits 0, fits 1, fits 2, fits 3, fits 4, fits 5, fits 6, fits 7);
}

pub number_takes : (w : Width) (limit : ℕ) (wide : IsWide w limit) (bytes : List ℕ) (n : ℕ) (rest : List ℕ) → AreBytes bytes → number_front w bytes ≡ Some (n, rest) → Takes bytes (to_be_bytes w n) rest × (n < limit)
unfolding number_front
number_takes w limit wide bytes n rest fits e =
    let g = guard_none (ltb (length bytes) (byte_len w)) (from_be_bytes w (take (byte_len w) bytes), drop (byte_len w) bytes) (n, rest) e in
    let long : byte_len w ≤ length bytes = ltb-false _ _ g.0 in
    let n-is : from_be_bytes w (take (byte_len w) bytes) ≡ n = ap (λ (p : ℕ × List ℕ). p.0) g.1 in
    let rest-is : drop (byte_len w) bytes ≡ rest = ap (λ (p : ℕ × List ℕ). p.1) g.1 in
    let front : to_be_bytes w n ≡ take (byte_len w) bytes = rw (← n-is) (wide.back (take (byte_len w) bytes) (omega (arith, length-take (byte_len w) bytes)) (bytes-take (byte_len w) bytes fits)) in
    (record { parts = rw (front, ← rest-is) (sym (take-append-drop (byte_len w) bytes)); rest_fits = rw (← rest-is) (bytes-drop (byte_len w) bytes fits) }, rw (← n-is) (wide.below (take (byte_len w) bytes) (bytes-take (byte_len w) bytes fits)))

pub number_again : (w : Width) (limit : ℕ) (wide : IsWide w limit) (n : ℕ) (rest : List ℕ) → n < limit → number_front w (to_be_bytes w n ++ rest) ≡ Some (n, rest)
unfolding number_front
number_again w limit wide n rest lt =
    let len = wide.len n in
    let long : ltb (length (to_be_bytes w n ++ rest)) (byte_len w) ≡ false = le-ltb _ _ (omega (arith, length-append (to_be_bytes w n) rest)) in
    rw (long, take_at (to_be_bytes w n) rest (byte_len w) len, drop_at (to_be_bytes w n) rest (byte_len w) len, wide.again n lt) refl

-- NAMES

pub record IsNameTaken (bytes name rest : List ℕ) : Type 0 where
  pub takes : Takes bytes (packed_field (Text name)) rest
  pub short : IsShort name
  pub small : All (λ b. b < 256) name

abbrev name_taken : List ℕ → List ℕ × List ℕ → Type 0
name_taken bytes p = IsNameTaken bytes p.0 p.1

pub name_takes : (bytes name rest : List ℕ) → AreBytes bytes → name_front bytes ≡ Some (name, rest) → IsNameTaken bytes name rest
unfolding name_front
name_takes bytes name rest fits e =
    let b = bind_some (number_front w32 bytes) (λ n. cond (ltb (length n.1) n.0) None (Some (take n.0 n.1, drop n.0 n.1))) (name, rest) e in
    let n = b.0 in
    let t = number_takes w32 (2 ^ 32) wide32 bytes n.0 n.1 fits b.1 in
    let g = guard_none (ltb (length n.1) n.0) (take n.0 n.1, drop n.0 n.1) (name, rest) b.2 in
    let long : n.0 ≤ length n.1 = ltb-false _ _ g.0 in
    let len : length (take n.0 n.1) ≡ n.0 = omega (arith, length-take n.0 n.1) in
    let second : Takes n.1 (take n.0 n.1) (drop n.0 n.1) = record { parts = sym (take-append-drop n.0 n.1); rest_fits = bytes-drop n.0 n.1 t.0.rest_fits } in
    let both = takes_then bytes (to_be_bytes w32 n.0) n.1 (take n.0 n.1) (drop n.0 n.1) t.0 second in
    let whole : Takes bytes (packed_field (Text (take n.0 n.1))) (drop n.0 n.1) = subst (λ (k : ℕ). Takes bytes (to_be_bytes w32 k ++ take n.0 n.1) (drop n.0 n.1)) (sym len) both in
    let one : IsNameTaken bytes (take n.0 n.1) (drop n.0 n.1) = record { takes = whole; short = omega (arith, t.1); small = all_small (take n.0 n.1) (bytes-take n.0 n.1 t.0.rest_fits) } in
    subst (name_taken bytes) g.1 one

pub name_again : (name rest : List ℕ) → IsShort name → name_front (to_be_bytes w32 (length name) ++ (name ++ rest)) ≡ Some (name, rest)
unfolding name_front
name_again name rest lt =
    let long : ltb (length (name ++ rest)) (length name) ≡ false = le-ltb _ _ (omega (arith, length-append name rest)) in
    rw (number_again w32 (2 ^ 32) wide32 (length name) (name ++ rest) lt, long, take_at name rest (length name) refl, drop_at name rest (length name) refl) refl

-- AN EVENT AND A THREAD

pub record IsTurnTaken (bytes : List ℕ) (event thread : ℕ) (rest : List ℕ) : Type 0 where
  pub mid : List ℕ
  pub first : Takes bytes (to_be_bytes w64 event) mid
  pub second : Takes mid (to_be_bytes w8 thread) rest
  pub event_fits : event < 2 ^ 64
  pub thread_fits : thread < 2 ^ 8

abbrev turn_taken : List ℕ → (ℕ × ℕ) × List ℕ → Type 0
turn_taken bytes p = IsTurnTaken bytes p.0.0 p.0.1 p.1

pub turn_takes : (bytes : List ℕ) (event thread : ℕ) (rest : List ℕ) → AreBytes bytes → turn_front bytes ≡ Some ((event, thread), rest) → IsTurnTaken bytes event thread rest
unfolding turn_front
turn_takes bytes event thread rest fits e =
    let a = bind_some (number_front w64 bytes) (λ event. number_front w8 event.1 >>= λ thread. Some ((event.0, thread.0), thread.1)) ((event, thread), rest) e in
    let b = bind_some (number_front w8 a.0.1) (λ thread. Some ((a.0.0, thread.0), thread.1)) ((event, thread), rest) a.2 in
    let p = number_takes w64 (2 ^ 64) wide64 bytes a.0.0 a.0.1 fits a.1 in
    let q = number_takes w8 (2 ^ 8) wide8 a.0.1 b.0.0 b.0.1 p.0.rest_fits b.1 in
    let one : IsTurnTaken bytes a.0.0 b.0.0 b.0.1 = record { mid = a.0.1; first = p.0; second = q.0; event_fits = p.1; thread_fits = q.1 } in
    subst (turn_taken bytes) (same_Some ((a.0.0, b.0.0), b.0.1) ((event, thread), rest) b.2) one

pub turn_again : (event thread : ℕ) (rest : List ℕ) → event < 2 ^ 64 → thread < 2 ^ 8 → turn_front (to_be_bytes w64 event ++ (to_be_bytes w8 thread ++ rest)) ≡ Some ((event, thread), rest)
unfolding turn_front
turn_again event thread rest a b = rw (number_again w64 (2 ^ 64) wide64 event (to_be_bytes w8 thread ++ rest) a, number_again w8 (2 ^ 8) wide8 thread rest b) refl
