-- The events that have a row, as the lines come.
use Rattle.std.proofs.Common.{◌≡◌, ◌≢◌, ℕ, ◌-◌, ◌<◌, Bool, true, false, cond, eqb, List, [], ◌∷◌, ◌++◌, length, get_or, Option, Some, None, refl, sym, ap, ◌∙◌, arith, length-append, append_assoc}
use Rattle.std.specs.Prelude.{reverse, Result, Ok, Err, OnOk}
use Rattle.std.specs.List.{filter_map, dedup, dedup_from}
use Rattle.std.proofs.Math.Seq.{get_or-append_seam}
use Rattle.std.proofs.lemmas.Bool.Decides.{nat_tests}
use Rattle.std.proofs.lemmas.List.{append-nil, reverse-append}
use Rattle.std.proofs.lemmas.Grind.{get_or_default_zero}
use Rattle.std.proofs.lemmas.List.Elements.{filter_map-append}
use Rattle.et_base.specs.declared.line.TraceLine.{TraceLine}
use Rattle.et_replay.specs.Curve.{happens_at, curve_events}

-- how a list without repeats ends, and how it goes on
record EndsWith (k : ℕ) (xs : List ℕ) : Type 0 where
  pub front : List ℕ
  pub last : ℕ
  pub is : dedup_from eqb k xs ≡ front ++ last ∷ []
  pub more : (e : ℕ) → dedup_from eqb k (xs ++ e ∷ []) ≡ cond (eqb e last) (front ++ last ∷ []) (front ++ last ∷ e ∷ [])

cond_push : (b : Bool) (k : ℕ) (u v : List ℕ) → k ∷ cond b u v ≡ cond b (k ∷ u) (k ∷ v)
cond_push true k u v = refl
cond_push false k u v = refl

ends_by : (b : Bool) (x k : ℕ) (xs : List ℕ) → eqb x k ≡ b → EndsWith k xs → EndsWith x xs → EndsWith k (x ∷ xs)
ends_by true x k xs e same next = record {
  front = same.front;
  last = same.last;
  is = ap (λ c. cond c (dedup_from eqb k xs) (k ∷ dedup_from eqb x xs)) e ∙ same.is;
  more = λ a. ap (λ c. cond c (dedup_from eqb k (xs ++ a ∷ [])) (k ∷ dedup_from eqb x (xs ++ a ∷ []))) e ∙ same.more a;
}
ends_by false x k xs e same next = record {
  front = k ∷ next.front;
  last = next.last;
  is = ap (λ c. cond c (dedup_from eqb k xs) (k ∷ dedup_from eqb x xs)) e ∙ ap (λ (t : List ℕ). k ∷ t) next.is;
  more = λ a. ap (λ c. cond c (dedup_from eqb k (xs ++ a ∷ [])) (k ∷ dedup_from eqb x (xs ++ a ∷ []))) e
      ∙ (ap (λ (t : List ℕ). k ∷ t) (next.more a) ∙ cond_push (eqb a next.last) k (next.front ++ next.last ∷ []) (next.front ++ next.last ∷ a ∷ []));
}

ends : (xs : List ℕ) (k : ℕ) → EndsWith k xs
ends [] k = record { front = []; last = k; is = refl; more = λ e. refl }
ends (x ∷ xs) k = ends_by (eqb x k) x k xs refl (ends xs k) (ends xs x)

last_at : (front : List ℕ) (last : ℕ) → get_or (front ++ last ∷ []) (length (front ++ last ∷ []) - 1) 0 ≡ last
last_at front last =
    let at : length (front ++ last ∷ []) - 1 ≡ length front = omega (arith, length-append front (last ∷ [])) in
    ap (λ (i : ℕ). get_or (front ++ last ∷ []) i 0) at ∙ get_or-append_seam front last [] 0

-- another event, which the newest one isn't
new_event : (xs : List ℕ) (e : ℕ) → (0 < length (dedup eqb xs) → get_or (dedup eqb xs) (length (dedup eqb xs) - 1) 0 ≢ e) → dedup eqb (xs ++ e ∷ []) ≡ dedup eqb xs ++ e ∷ []
new_event [] e h = refl
new_event (x ∷ xs) e h =
    let s = ends xs x in
    let some : 0 < length (dedup_from eqb x xs) = omega (arith, ap length s.is, length-append s.front (s.last ∷ [])) in
    let last : get_or (dedup_from eqb x xs) (length (dedup_from eqb x xs) - 1) 0 ≡ s.last = ap (λ (t : List ℕ). get_or t (length t - 1) 0) s.is ∙ last_at s.front s.last in
    let ne : e ≢ s.last = λ same. h some (last ∙ sym same) in
    let no : eqb e s.last ≡ false = grind (arith, nat_tests) in
    s.more e ∙ (ap (λ c. cond c (s.front ++ s.last ∷ []) (s.front ++ s.last ∷ e ∷ [])) no ∙ (sym (append_assoc s.front (s.last ∷ []) (e ∷ [])) ∙ ap (λ (t : List ℕ). t ++ e ∷ []) (sym s.is)))

-- .. and the newest one once more
same_event : (xs : List ℕ) (e : ℕ) → 0 < length (dedup eqb xs) → get_or (dedup eqb xs) (length (dedup eqb xs) - 1) 0 ≡ e → dedup eqb (xs ++ e ∷ []) ≡ dedup eqb xs
same_event [] e some h = absurd (omega (arith, some))
same_event (x ∷ xs) e some h =
    let s = ends xs x in
    let last : get_or (dedup_from eqb x xs) (length (dedup_from eqb x xs) - 1) 0 ≡ s.last = ap (λ (t : List ℕ). get_or t (length t - 1) 0) s.is ∙ last_at s.front s.last in
    let same : e ≡ s.last = sym h ∙ last in
    let is : eqb e s.last ≡ true = grind (arith, nat_tests) in
    s.more e ∙ (ap (λ c. cond c (s.front ++ s.last ∷ []) (s.front ++ s.last ∷ e ∷ [])) is ∙ sym s.is)

-- what is read at the last place is the last one
pub read_last : (xs : List ℕ) (count x : ℕ) → count ≡ length xs → 0 < length xs → x ≡ get_or xs (count - 1) x → get_or xs (length xs - 1) 0 ≡ x
read_last xs count x e some is =
    let within : length xs - 1 < length xs = omega arith in
    let at : x ≡ get_or xs (length xs - 1) x = is ∙ ap (λ (n : ℕ). get_or xs (n - 1) x) e in
    sym (at ∙ get_or_default_zero xs (length xs - 1) x within)

-- THE EVENTS OF THE LINES

pub both_ok : {T E P Q R : Type 0} (r : Result T E) → (P → Q → R) → OnOk r P → OnOk r Q → OnOk r R
both_ok (Ok x) f p q = f p q
both_ok (Err e) f p q = tt

pub more_lines : {Y : Type 0} (h : TraceLine → Option Y) (past : List TraceLine) (line : TraceLine) → filter_map h (reverse (line ∷ past)) ≡ filter_map h (reverse past) ++ filter_map h (line ∷ [])
more_lines h past line = ap (filter_map h) (reverse-append (line ∷ []) past) ∙ filter_map-append h (reverse past) (line ∷ [])

pub no_row : (past : List TraceLine) (line : TraceLine) (events : List ℕ) → happens_at line ≡ None → events ≡ curve_events (reverse past) → events ≡ curve_events (reverse (line ∷ past))
no_row past line events none is =
    let nothing : filter_map happens_at (line ∷ []) ≡ [] = rw none refl in
    is ∙ ap (dedup eqb) (sym (more_lines happens_at past line ∙ (ap (λ (t : List ℕ). filter_map happens_at (reverse past) ++ t) nothing ∙ append-nil (filter_map happens_at (reverse past)))))

pub new_row : (past : List TraceLine) (line : TraceLine) (events new : List ℕ) (e : ℕ) → happens_at line ≡ Some e → events ≡ curve_events (reverse past) → (0 < length events → get_or events (length events - 1) 0 ≢ e) → new ≡ events ++ e ∷ [] → new ≡ curve_events (reverse (line ∷ past))
new_row past line events new e some is ne pushed =
    let so_far = filter_map happens_at (reverse past) in
    let one : filter_map happens_at (line ∷ []) ≡ e ∷ [] = rw some refl in
    let all : filter_map happens_at (reverse (line ∷ past)) ≡ so_far ++ e ∷ [] = more_lines happens_at past line ∙ ap (λ (t : List ℕ). so_far ++ t) one in
    let differs : 0 < length (dedup eqb so_far) → get_or (dedup eqb so_far) (length (dedup eqb so_far) - 1) 0 ≢ e = rw is at ne in
    pushed ∙ (ap (λ (t : List ℕ). t ++ e ∷ []) is ∙ (sym (new_event so_far e differs) ∙ ap (dedup eqb) (sym all)))

pub same_row : (past : List TraceLine) (line : TraceLine) (events : List ℕ) (e : ℕ) → happens_at line ≡ Some e → events ≡ curve_events (reverse past) → 0 < length events → get_or events (length events - 1) 0 ≡ e → events ≡ curve_events (reverse (line ∷ past))
same_row past line events e some is more last =
    let so_far = filter_map happens_at (reverse past) in
    let one : filter_map happens_at (line ∷ []) ≡ e ∷ [] = rw some refl in
    let all : filter_map happens_at (reverse (line ∷ past)) ≡ so_far ++ e ∷ [] = more_lines happens_at past line ∙ ap (λ (t : List ℕ). so_far ++ t) one in
    let there : 0 < length (dedup eqb so_far) = rw is at more in
    let same : get_or (dedup eqb so_far) (length (dedup eqb so_far) - 1) 0 ≡ e = rw is at last in
    is ∙ (sym (same_event so_far e there same) ∙ ap (dedup eqb) (sym all))
