-- A number or a run of bytes is read at a place exactly where it is spelled there.
use Rattle.std.proofs.Common.{◌≡◌, ℕ, ◌+◌, ◌%◌, ◌^◌, ◌≤◌, ◌<◌, Bool, true, false, cond, ltb, List, [], ◌∷◌, ◌++◌, length, take, drop, get_or, Option, Some, None, refl, sym, ap, subst, ◌∙◌, inl, inr, arith, append_assoc, length-append}
use Rattle.std.specs.Int.{Width, w8, w16, w32, w64, byte_len, from_be_bytes, to_be_bytes}
use Rattle.std.proofs.lemmas.Bool.{cases_lt, ltb-false, le-ltb}
use Rattle.std.proofs.lemmas.List.{take_more, take_at, drop-drop, drop_at, take-append-drop, length-take, length-drop, get_or-drop, get_or-take, get_or_past}
use Rattle.std.proofs.lemmas.Nat.{be_bytes_2, be_bytes_4, be_bytes_8, from_be_bytes-to_be_bytes_2, from_be_bytes-to_be_bytes_4, from_be_bytes-to_be_bytes_8}
use Rattle.std.proofs.lemmas.Option.{same_Some}
use Rattle.et_base.specs.Numbers.{number_at, bytes_at, AreBytes, Stands}

-- these bytes stand at a place, and the next item behind them
pub record Reads (bytes : List ℕ) (at : ℕ) (xs : List ℕ) (next : ℕ) : Type 0 where
  pub stands : Stands bytes at xs
  pub next_is : next ≡ at + length xs

pub Reads-nothing : (bytes : List ℕ) (at next : ℕ) → next ≡ at → Reads bytes at [] next
Reads-nothing bytes at next e = record { stands = (drop at bytes, refl); next_is = omega (arith, e) }

rest_is : (bytes : List ℕ) (a : ℕ) (xs rest : List ℕ) → drop a bytes ≡ xs ++ rest → drop (a + length xs) bytes ≡ rest
rest_is bytes a xs rest e = sym (drop-drop (length xs) a bytes) ∙ (ap (λ (zs : List ℕ). drop (length xs) zs) e ∙ drop_at xs rest (length xs) refl)

pub Reads-then : (bytes : List ℕ) (a : ℕ) (xs : List ℕ) (b : ℕ) (ys : List ℕ) (c : ℕ) → Reads bytes a xs b → Reads bytes b ys c → Reads bytes a (xs ++ ys) c
Reads-then bytes a xs b ys c p q =
    let e : drop b bytes ≡ p.stands.0 = ap (λ k. drop k bytes) p.next_is ∙ rest_is bytes a xs p.stands.0 p.stands.1 in
    record {
      stands = (q.stands.0, p.stands.1 ∙ (ap (λ (zs : List ℕ). xs ++ zs) (sym e ∙ q.stands.1) ∙ sym (append_assoc xs ys q.stands.0)));
      next_is = omega (arith, p.next_is, q.next_is, length-append xs ys);
    }

-- what is spelled as two parts is spelled part by part
pub Reads-first : (bytes : List ℕ) (a : ℕ) (xs ys : List ℕ) (c : ℕ) → Reads bytes a (xs ++ ys) c → Reads bytes a xs (a + length xs)
Reads-first bytes a xs ys c p = record { stands = (ys ++ p.stands.0, p.stands.1 ∙ append_assoc xs ys p.stands.0); next_is = refl }

pub Reads-second : (bytes : List ℕ) (a : ℕ) (xs ys : List ℕ) (c : ℕ) → Reads bytes a (xs ++ ys) c → Reads bytes (a + length xs) ys c
Reads-second bytes a xs ys c p =
    record {
      stands = (p.stands.0, rest_is bytes a xs (ys ++ p.stands.0) (p.stands.1 ∙ append_assoc xs ys p.stands.0));
      next_is = omega (arith, p.next_is, length-append xs ys);
    }

-- the first n bytes at a place, where there are as many
part : (bytes : List ℕ) (at n : ℕ) (xs : List ℕ) → at + n ≤ length bytes → xs ≡ take n (drop at bytes) → Reads bytes at xs (at + n)
part bytes at n xs le e =
    record {
      stands = (drop n (drop at bytes), sym (take-append-drop n (drop at bytes)) ∙ ap (λ (zs : List ℕ). zs ++ drop n (drop at bytes)) (sym e));
      next_is = omega (arith, ap length e, length-take n (drop at bytes), length-drop at bytes);
    }

pub AreBytes-drop : (n : ℕ) (bytes : List ℕ) → AreBytes bytes → AreBytes (drop n bytes)
AreBytes-drop n bytes h i = rw get_or-drop (h (n + i))

AreBytes-take : (bytes : List ℕ) (n : ℕ) → AreBytes bytes → AreBytes (take n bytes)
AreBytes-take bytes n h i =
    elim (cases_lt i n) [
      | inl lt ↦ rw (get_or-take n bytes i 0 lt) (h i)
      | inr le ↦ rw (get_or_past (take n bytes) i 0 (omega (arith, length-take n bytes))) (omega arith)
    ]

-- numbers of a width and their bytes
pub record IsWide (w : Width) : Type 0 where
  pub back : (bytes : List ℕ) → byte_len w ≤ length bytes → AreBytes bytes → to_be_bytes w (from_be_bytes w bytes) ≡ take (byte_len w) bytes
  pub forth : (n : ℕ) (rest : List ℕ) → n < 256 ^ byte_len w → from_be_bytes w (to_be_bytes w n ++ rest) ≡ n
  pub fits : (bytes : List ℕ) → AreBytes bytes → from_be_bytes w bytes < 256 ^ byte_len w
  pub size : (n : ℕ) → length (to_be_bytes w n) ≡ byte_len w

pub wide8 : IsWide w8
wide8 = record {
  back = λ bytes le fits. let d : take 1 bytes ≡ get_or bytes 0 0 ∷ [] = take_more bytes 0 0 (omega arith) in let m : get_or bytes 0 0 % 256 ≡ get_or bytes 0 0 = omega (arith, fits 0) in ap (λ (k : ℕ). k ∷ []) m ∙ sym d;
  forth = λ n rest lt. omega arith;
  fits = λ bytes h. omega (arith, h 0);
  size = λ n. refl;
}

pub wide16 : IsWide w16
wide16 = record {
  back = λ bytes le fits. be_bytes_2 (take 2 bytes) _ (omega (arith, length-take 2 bytes)) (AreBytes-take bytes 2 fits) (rw (get_or-take 2 bytes 0 0 (omega arith), get_or-take 2 bytes 1 0 (omega arith)) refl);
  forth = λ n rest lt. from_be_bytes-to_be_bytes_2 n lt;
  fits = λ bytes h. omega (arith, h 0, h 1);
  size = λ n. refl;
}

pub wide32 : IsWide w32
wide32 = record {
  back = λ bytes le fits. be_bytes_4 (take 4 bytes) _ (omega (arith, length-take 4 bytes)) (AreBytes-take bytes 4 fits) (rw (get_or-take 4 bytes 0 0 (omega arith), get_or-take 4 bytes 1 0 (omega arith), get_or-take 4 bytes 2 0 (omega arith), get_or-take 4 bytes 3 0 (omega arith)) refl);
  forth = λ n rest lt. from_be_bytes-to_be_bytes_4 n lt;
  fits = λ bytes h. omega (arith, h 0, h 1, h 2, h 3);
  size = λ n. refl;
}

pub wide64 : IsWide w64
wide64 = record {
  back = λ bytes le fits. be_bytes_8 (take 8 bytes) _ (omega (arith, length-take 8 bytes)) (AreBytes-take bytes 8 fits) (rw (get_or-take 8 bytes 0 0 (omega arith), get_or-take 8 bytes 1 0 (omega arith), get_or-take 8 bytes 2 0 (omega arith), get_or-take 8 bytes 3 0 (omega arith), get_or-take 8 bytes 4 0 (omega arith), get_or-take 8 bytes 5 0 (omega arith), get_or-take 8 bytes 6 0 (omega arith), get_or-take 8 bytes 7 0 (omega arith)) refl);
  forth = λ n rest lt. from_be_bytes-to_be_bytes_8 n lt;
  fits = λ bytes h. omega (arith, h 0, h 1, h 2, h 3, h 4, h 5, h 6, h 7);
  size = λ n. refl;
}

-- a number that is read is spelled there, and fits its width
pub record IsNumber (w : Width) (bytes : List ℕ) (at n next : ℕ) : Type 0 where
  pub reads : Reads bytes at (to_be_bytes w n) next
  pub fits : n < 256 ^ byte_len w

number_case : (w : Width) → IsWide w → (bytes : List ℕ) (at n next : ℕ) (b : Bool) → AreBytes bytes → ltb (length bytes) (at + byte_len w) ≡ b → cond {A = Option (ℕ × ℕ)} b None (Some (from_be_bytes w (drop at bytes), at + byte_len w)) ≡ Some (n, next) → IsNumber w bytes at n next
number_case w wide bytes at n next true fits l e = absurd cc
number_case w wide bytes at n next false fits l e =
    let le : at + byte_len w ≤ length bytes = ltb-false _ _ l in
    let here = AreBytes-drop at bytes fits in
    subst (λ (x : ℕ × ℕ). IsNumber w bytes at x.0 x.1) (same_Some _ _ e)
    (record { reads = part bytes at (byte_len w) _ le (wide.back (drop at bytes) (omega (arith, length-drop at bytes)) here); fits = wide.fits (drop at bytes) here })

pub number_reads : (w : Width) → IsWide w → (bytes : List ℕ) (at n next : ℕ) → AreBytes bytes → number_at w bytes at ≡ Some (n, next) → IsNumber w bytes at n next
number_reads w wide bytes at n next fits e = number_case w wide bytes at n next (ltb (length bytes) (at + byte_len w)) fits refl e

fits_in : (bytes : List ℕ) (at : ℕ) (xs : List ℕ) (next : ℕ) → 0 < length xs → Reads bytes at xs next → at + length xs ≤ length bytes
fits_in bytes at xs next some r = omega (arith, some, ap length r.stands.1, length-drop at bytes, length-append xs r.stands.0)

some_case : {A : Type 0} (b : Bool) (x : A) → b ≡ false → cond b None (Some x) ≡ Some x
some_case b x e = rw e refl

-- a number that is spelled at a place is read there
pub reads_number : (w : Width) → IsWide w → 0 < byte_len w → (bytes : List ℕ) (at n next : ℕ) → n < 256 ^ byte_len w → Reads bytes at (to_be_bytes w n) next → number_at w bytes at ≡ Some (n, next)
reads_number w wide some bytes at n next lt r =
    let long = wide.size n in
    let le : at + byte_len w ≤ length bytes = omega (arith, long, fits_in bytes at (to_be_bytes w n) next (omega (arith, long)) r) in
    let is : from_be_bytes w (drop at bytes) ≡ n = ap (λ (zs : List ℕ). from_be_bytes w zs) r.stands.1 ∙ wide.forth n r.stands.0 lt in
    let end : at + byte_len w ≡ next = omega (arith, r.next_is, long) in
    some_case (ltb (length bytes) (at + byte_len w)) (from_be_bytes w (drop at bytes), at + byte_len w) (le-ltb _ _ le) ∙ (ap (λ (k : ℕ). Some (k, at + byte_len w)) is ∙ ap (λ (k : ℕ). Some (n, k)) end)

-- the same two for a run of bytes
pub record IsRun (bytes : List ℕ) (at size : ℕ) (xs : List ℕ) (next : ℕ) : Type 0 where
  pub reads : Reads bytes at xs next
  pub size_is : length xs ≡ size

run_case : (bytes : List ℕ) (size at : ℕ) (xs : List ℕ) (next : ℕ) (b : Bool) → ltb (length bytes) (at + size) ≡ b → cond {A = Option (List ℕ × ℕ)} b None (Some (take size (drop at bytes), at + size)) ≡ Some (xs, next) → IsRun bytes at size xs next
run_case bytes size at xs next true l e = absurd cc
run_case bytes size at xs next false l e =
    let le : at + size ≤ length bytes = ltb-false _ _ l in
    subst (λ (x : List ℕ × ℕ). IsRun bytes at size x.0 x.1) (same_Some _ _ e)
    (record { reads = part bytes at size (take size (drop at bytes)) le refl; size_is = omega (arith, length-take size (drop at bytes), length-drop at bytes) })

pub run_reads : (bytes : List ℕ) (size at : ℕ) (xs : List ℕ) (next : ℕ) → bytes_at bytes size at ≡ Some (xs, next) → IsRun bytes at size xs next
run_reads bytes size at xs next e = run_case bytes size at xs next (ltb (length bytes) (at + size)) refl e

-- a run of bytes that stands at a place of the bytes is read there
pub reads_run : (bytes : List ℕ) (size at : ℕ) (xs : List ℕ) (next : ℕ) → at ≤ length bytes → length xs ≡ size → Reads bytes at xs next → bytes_at bytes size at ≡ Some (xs, next)
reads_run bytes size at xs next le long r =
    let fits : at + size ≤ length bytes = omega (arith, le, long, ap length r.stands.1, length-drop at bytes, length-append xs r.stands.0) in
    let is : take size (drop at bytes) ≡ xs = ap (λ (zs : List ℕ). take size zs) r.stands.1 ∙ take_at xs r.stands.0 size long in
    let end : at + size ≡ next = omega (arith, r.next_is, long) in
    some_case (ltb (length bytes) (at + size)) (take size (drop at bytes), at + size) (le-ltb _ _ fits) ∙ (ap (λ (zs : List ℕ). Some (zs, at + size)) is ∙ ap (λ (k : ℕ). Some (xs, k)) end)

pub in_bytes : (bytes : List ℕ) (at : ℕ) (xs : List ℕ) (next : ℕ) → 0 < length xs → Reads bytes at xs next → next ≤ length bytes
in_bytes bytes at xs next some r = omega (arith, r.next_is, fits_in bytes at xs next some r)
