-- What is kept of the objects says which bytes are live.
use Rattle.std.proofs.Common.{◌≡◌, ◌≢◌, ℕ, ◌+◌, ◌-◌, ◌^◌, ◌<◌, ◌≤◌, Bool, true, false, cond, not, ◌&&◌, ◌||◌, eqb, ltb, List, [], ◌∷◌, ◌++◌, length, get_or, Some, None, refl, sym, ap, subst, ◌∙◌, arith, inl, inr, ◌⊎◌, length-append, get_or-set_same, get_or-set_other}
use Rattle.std.specs.Prelude.{slice_index}
use Rattle.std.proofs.Math.ListN.{length-set, get_or-append}
use Rattle.std.proofs.Math.Seq.{get_or-append_seam}
use Rattle.std.proofs.lemmas.Bool.Decides.{nat_tests}
use Rattle.std.proofs.lemmas.List.{get_or_past}
use Rattle.std.proofs.lemmas.Bool.{and_parts, not-true, or_parts, leb-true, eqb-true}
use Rattle.et_base.specs.declared.line.TraceLine.{TraceLine}
use Rattle.et_base.specs.declared.line.TraceLine.TheVariants.{Header, Class, Method, Alloc, Update, Enter, Exit, Unwind, Flush, Death, Finish}
use Rattle.et_base.proofs.Tests.{cases_eqb}
use Rattle.et_text.specs.Rules.{order, unknown, twice, after, has_ended, keeps_order, is_known, keeps_lives, is_new, next_fault, births, birth, objects, is_reported, is_timely, AreFine}
use Rattle.et_replay.specs.Curve.{tells_before, dies_before, live_size}
use Rattle.et_replay.specs.Lives.{never, no_size, Sizes, with_time, born_with, died_with, born_by, died_by}

-- A LINE THAT FOLLOWS

pub record Follows (past : List TraceLine) (line : TraceLine) : Type 0 where
  pub ordered : keeps_order past line ≡ true
  pub known : is_known past line ≡ true
  pub lives : keeps_lives past line ≡ true
  pub new : is_new past line ≡ true

chain : (e o k l n : Bool) → cond e (Some after) (cond (not o) (Some order) (cond (not k) (Some unknown) (cond (not l) (Some order) (cond (not n) (Some twice) None)))) ≡ None → (o ≡ true) × (k ≡ true) × (l ≡ true) × (n ≡ true)
chain true o k l n h = absurd cc
chain false false k l n h = absurd cc
chain false true false l n h = absurd cc
chain false true true false n h = absurd cc
chain false true true true false h = absurd cc
chain false true true true true h = (refl, refl, refl, refl)

pub follows : (past : List TraceLine) (line : TraceLine) → next_fault past line ≡ None → Follows past line
follows past line h =
    let c = chain (has_ended past) (keeps_order past line) (is_known past line) (keeps_lives past line) (is_new past line) h in
    record { ordered = c.0; known = c.1; lives = c.2; new = c.3 }

-- THE KINDS OF LINES: one makes an object, one tells of a death, the others say nothing of objects
pub record SaysNothing (line : TraceLine) : Type 0 where
  pub born : (b : Sizes) → born_with b line ≡ b
  pub died : (d : Sizes) → died_with d line ≡ d
  pub births_are : (past : List TraceLine) → births (line ∷ past) ≡ births past
  pub reported : (past : List TraceLine) (o : ℕ) → is_reported (line ∷ past) o ≡ is_reported past o
  pub tells : (e o : ℕ) → tells_before e o line ≡ false
  pub size : (lines : List TraceLine) (e : ℕ) → live_size lines e line ≡ 0

pub data Tells : TraceLine → Type 0 where
  Born : (event thread object class size len : ℕ) → Tells (Alloc event thread object class size len)
  Died : (object time : ℕ) → Tells (Death object time)
  Other : (line : TraceLine) → SaysNothing line → Tells line

pub tells : (line : TraceLine) → Tells line
tells (Header v n) = Other (Header v n) (record { born = λ b. refl; died = λ d. refl; births_are = λ p. refl; reported = λ p o. refl; tells = λ e o. refl; size = λ p e. refl })
tells (Class number name) = Other (Class number name) (record { born = λ b. refl; died = λ d. refl; births_are = λ p. refl; reported = λ p o. refl; tells = λ e o. refl; size = λ p e. refl })
tells (Method number class name descriptor) = Other (Method number class name descriptor) (record { born = λ b. refl; died = λ d. refl; births_are = λ p. refl; reported = λ p o. refl; tells = λ e o. refl; size = λ p e. refl })
tells (Alloc event thread object class size len) = Born event thread object class size len
tells (Update event thread object slot old new) = Other (Update event thread object slot old new) (record { born = λ b. refl; died = λ d. refl; births_are = λ p. refl; reported = λ p o. refl; tells = λ e o. refl; size = λ p e. refl })
tells (Enter event thread method receiver) = Other (Enter event thread method receiver) (record { born = λ b. refl; died = λ d. refl; births_are = λ p. refl; reported = λ p o. refl; tells = λ e o. refl; size = λ p e. refl })
tells (Exit event thread method) = Other (Exit event thread method) (record { born = λ b. refl; died = λ d. refl; births_are = λ p. refl; reported = λ p o. refl; tells = λ e o. refl; size = λ p e. refl })
tells (Unwind event thread method exception) = Other (Unwind event thread method exception) (record { born = λ b. refl; died = λ d. refl; births_are = λ p. refl; reported = λ p o. refl; tells = λ e o. refl; size = λ p e. refl })
tells (Flush event deaths) = Other (Flush event deaths) (record { born = λ b. refl; died = λ d. refl; births_are = λ p. refl; reported = λ p o. refl; tells = λ e o. refl; size = λ p e. refl })
tells (Death object time) = Died object time
tells (Finish event how) = Other (Finish event how) (record { born = λ b. refl; died = λ d. refl; births_are = λ p. refl; reported = λ p o. refl; tells = λ e o. refl; size = λ p e. refl })

-- WHAT IS KEPT
abbrev at : Sizes → ℕ → ℕ × ℕ
at sizes i = get_or sizes i no_size

pub record AreLives (past : List TraceLine) (b d : Sizes) : Type 0 where
  pub many : length b ≡ objects past
  pub as_many : length d ≡ length b
  pub births_are : (i : ℕ) → i < length b → slice_index (births past) i ≡ (at b i).0
  pub sizes : (i : ℕ) → (at d i).1 ≡ (at b i).1
  pub after : (i : ℕ) → i < length b → (at b i).0 ≤ (at d i).0
  pub times : (e o : ℕ) → e ≤ never → 1 ≤ o → ltb (at d (o - 1)).0 e ≡ dies_before past e o
  pub small : (i : ℕ) → (at b i).1 ≤ 2 ^ 30
  pub few : length b < 2 ^ 24

-- one place more
at_front : (b : Sizes) (p : ℕ × ℕ) (i : ℕ) → i < length b → at (b ++ p ∷ []) i ≡ at b i
at_front b p i lt = get_or-append b (p ∷ []) no_size i lt

at_end : (b : Sizes) (p : ℕ × ℕ) → at (b ++ p ∷ []) (length b) ≡ p
at_end b p = get_or-append_seam b p [] no_size

at_past : (b : Sizes) (i : ℕ) → length b ≤ i → at b i ≡ no_size
at_past b i le = get_or_past b i no_size le

pub length-push : (b : Sizes) (p : ℕ × ℕ) → length (b ++ p ∷ []) ≡ length b + 1
length-push b p = length-append b (p ∷ [])

-- where a place of the longer list is
data Where (b : Sizes) (i : ℕ) : Type 0 where
  Below : i < length b → Where b i
  AtEnd : i ≡ length b → Where b i
  Beyond : length b + 1 ≤ i → Where b i

less : (i n : ℕ) → (i < n) ⊎ ((i ≡ n) ⊎ (n + 1 ≤ i))
less i n = grind arith

where_at : (b : Sizes) (i : ℕ) → Where b i
where_at b i = elim (less i (length b)) [ inl l ↦ Below l | inr r ↦ elim r [ inl e ↦ AtEnd e | inr g ↦ Beyond g ] ]

pair_push : (P : ℕ → ℕ × ℕ → ℕ × ℕ → Type 0) (b d : Sizes) (p q : ℕ × ℕ) (i : ℕ) → length d ≡ length b → (i < length b → P i (at b i) (at d i)) → P (length b) p q → (length b + 1 ≤ i → P i no_size no_size) → P i (at (b ++ p ∷ []) i) (at (d ++ q ∷ []) i)
pair_push P b d p q i same f g h =
    elim (where_at b i) [
      | Below l ↦
          let l' : i < length d = omega (arith, same, l) in
          subst (λ (x : ℕ × ℕ). P i x (at (d ++ q ∷ []) i)) (sym (at_front b p i l)) (subst (λ (x : ℕ × ℕ). P i (at b i) x) (sym (at_front d q i l')) (f l))
      | AtEnd e ↦
          let end_d : at (d ++ q ∷ []) (length b) ≡ q = subst (λ (k : ℕ). at (d ++ q ∷ []) k ≡ q) same (at_end d q) in
          let here : P (length b) (at (b ++ p ∷ []) (length b)) (at (d ++ q ∷ []) (length b)) = subst (λ (x : ℕ × ℕ). P (length b) x (at (d ++ q ∷ []) (length b))) (sym (at_end b p)) (subst (λ (x : ℕ × ℕ). P (length b) p x) (sym end_d) g) in
          subst (λ (k : ℕ). P k (at (b ++ p ∷ []) k) (at (d ++ q ∷ []) k)) (sym e) here
      | Beyond l ↦
          let lb : length (b ++ p ∷ []) ≤ i = omega (arith, l, length-push b p) in
          let ld : length (d ++ q ∷ []) ≤ i = omega (arith, l, same, length-push d q) in
          subst (λ (x : ℕ × ℕ). P i x (at (d ++ q ∷ []) i)) (sym (at_past (b ++ p ∷ []) i lb)) (subst (λ (x : ℕ × ℕ). P i no_size x) (sym (at_past (d ++ q ∷ []) i ld)) (h l))
    ]

-- what lives for ever dies never
pub times_push : (d : Sizes) (size i : ℕ) → (at (d ++ (never, size) ∷ []) i).0 ≡ (at d i).0
times_push d size i =
    elim (where_at d i) [
      | Below l ↦ ap (λ (x : ℕ × ℕ). x.0) (at_front d (never, size) i l)
      | AtEnd e ↦
          let here : (at (d ++ (never, size) ∷ []) (length d)).0 ≡ (at d (length d)).0 = ap (λ (x : ℕ × ℕ). x.0) (at_end d (never, size)) ∙ sym (ap (λ (x : ℕ × ℕ). x.0) (at_past d (length d) (omega arith))) in
          subst (λ (k : ℕ). (at (d ++ (never, size) ∷ []) k).0 ≡ (at d k).0) (sym e) here
      | Beyond l ↦
          let ld : length (d ++ (never, size) ∷ []) ≤ i = omega (arith, l, length-push d (never, size)) in
          let lt : length d ≤ i = omega (arith, l) in
          ap (λ (x : ℕ × ℕ). x.0) (at_past (d ++ (never, size) ∷ []) i ld) ∙ sym (ap (λ (x : ℕ × ℕ). x.0) (at_past d i lt))
    ]

lives_other : (past : List TraceLine) (line : TraceLine) (b d : Sizes) → SaysNothing line → AreLives past b d → AreLives (line ∷ past) b d
lives_other past line b d s h = record {
  many = h.many ∙ ap (λ (t : List ℕ). length t) (sym (s.births_are past));
  as_many = h.as_many;
  births_are = λ i lt. ap (λ (t : List ℕ). slice_index t i) (s.births_are past) ∙ h.births_are i lt;
  sizes = h.sizes;
  after = h.after;
  times = λ e o le ge. h.times e o le ge ∙ (let n : tells_before e o line ≡ false = s.tells e o in rw n refl);
  small = h.small;
  few = h.few;
}

lives_born : (past : List TraceLine) (event thread object class size len : ℕ) (b d : Sizes) → object ≡ objects past + 1 → object < 2 ^ 24 → event ≤ 2 ^ 40 → size ≤ 2 ^ 30 → AreLives past b d
    → AreLives (Alloc event thread object class size len ∷ past) (b ++ (event, size) ∷ []) (d ++ (never, size) ∷ [])
lives_born past event thread object class size len b d next few le fits h =
    let many = h.many in
    let as_many = h.as_many in
    record {
      many = omega (arith, many, length-push b (event, size), length-append (births past) (event ∷ []));
      as_many = omega (arith, as_many, length-push b (event, size), length-push d (never, size));
      births_are = λ i lt. pair_push (λ (k : ℕ) (x y : ℕ × ℕ). k < length b + 1 → slice_index (births past ++ event ∷ []) k ≡ x.0) b b (event, size) (event, size) i refl
          (λ l m. (let l' : i < length (births past) = omega (arith, many, l) in get_or-append (births past) (event ∷ []) 0 i l') ∙ h.births_are i l)
          (λ m. subst (λ (k : ℕ). slice_index (births past ++ event ∷ []) k ≡ event) (sym many) (get_or-append_seam (births past) event [] 0))
          (λ g m. absurd (omega (arith, g, m)))
          (omega (arith, lt, length-push b (event, size)));
      sizes = λ i. pair_push (λ (k : ℕ) (x y : ℕ × ℕ). y.1 ≡ x.1) b d (event, size) (never, size) i as_many (λ l. h.sizes i) refl (λ g. refl);
      after = λ i lt. pair_push (λ (k : ℕ) (x y : ℕ × ℕ). x.0 ≤ y.0) b d (event, size) (never, size) i as_many (λ l. h.after i l) (omega (arith, le)) (λ g. omega arith);
      times = λ e o low ge. ap (λ (t : ℕ). ltb t e) (times_push d size (o - 1)) ∙ h.times e o low ge;
      small = λ i. pair_push (λ (k : ℕ) (x y : ℕ × ℕ). x.1 ≤ 2 ^ 30) b b (event, size) (event, size) i refl (λ l. h.small i) fits (λ g. omega arith);
      few = omega (arith, next, few, many, length-push b (event, size));
    }

-- the place of a death, and another one
pub set_here : (d : Sizes) (i time : ℕ) → i < length d → at (with_time d i time) i ≡ (time, (at d i).1)
set_here d i time lt = rw get_or-set_same refl

pub set_there : (d : Sizes) (i j time : ℕ) → j ≢ i → at (with_time d i time) j ≡ at d j
set_there d i j time ne = rw get_or-set_other refl

-- what is asked of the time of each object stands for what the lines tell, also behind the line that tells of a death
pub told_after : (test : ℕ → Bool) (dies : ℕ → Bool) (object time : ℕ) (d : Sizes) → 1 ≤ object → object - 1 < length d → dies object ≡ false → ((o : ℕ) → 1 ≤ o → test (at d (o - 1)).0 ≡ dies o)
    → (o : ℕ) → 1 ≤ o → test (at (with_time d (object - 1) time) (o - 1)).0 ≡ ((eqb object o && test time) || dies o)
told_after test dies object time d low lt once h o ge = elim (cases_eqb object o) [
  | inl t ↦
      let same : object ≡ o = t.1 in
      let time_is : (at (with_time d (object - 1) time) (object - 1)).0 ≡ time = ap (λ (x : ℕ × ℕ). x.0) (set_here d (object - 1) time lt) in
      let tail : test time ≡ (test time || false) = elim (test time) as (λ v. v ≡ (v || false)) [ true ↦ refl | false ↦ refl ] in
      let told : ((eqb object o && test time) || dies o) ≡ (test time || false) = rw t.0 (ap (λ (v : Bool). test time || v) (subst (λ (k : ℕ). dies k ≡ false) same once)) in
      subst (λ (k : ℕ). test (at (with_time d (object - 1) time) (k - 1)).0 ≡ ((eqb object o && test time) || dies o)) same (ap test time_is ∙ (tail ∙ sym told))
  | inr t ↦
      let ne : object ≢ o = t.1 in
      let apart : o - 1 ≢ object - 1 = omega (arith, ne, low, ge) in
      rw t.0 (ap (λ (x : ℕ × ℕ). test x.0) (set_there d (object - 1) (o - 1) time apart) ∙ h o ge)
]

not_told_by : (past : List TraceLine) (line : TraceLine) (e o : ℕ) → Tells line → (is_reported past o ≡ false → dies_before past e o ≡ false) → is_reported (line ∷ past) o ≡ false → dies_before (line ∷ past) e o ≡ false
not_told_by past line e o (Born event thread object class size len) ih h = ih h
not_told_by past line e o (Died object time) ih h =
    let p = or_parts (eqb object o) (is_reported past o) h in
    let rest : dies_before past e o ≡ false = ih p.1 in
    let first : eqb object o ≡ false = p.0 in
    rw first rest
not_told_by past line e o (Other other s) ih h =
    let rest : dies_before past e o ≡ false = ih (sym (s.reported past o) ∙ h) in
    let n : tells_before e o other ≡ false = s.tells e o in
    rw n rest

not_told : (past : List TraceLine) (e o : ℕ) → is_reported past o ≡ false → dies_before past e o ≡ false
not_told [] e o h = refl
not_told (line ∷ past) e o h = not_told_by past line e o (tells line) (not_told past e o) h

lives_died : (past : List TraceLine) (object time : ℕ) (b d : Sizes) → 1 ≤ object → object ≤ objects past → birth past object ≤ time → is_reported past object ≡ false → AreLives past b d → AreLives (Death object time ∷ past) b (with_time d (object - 1) time)
lives_died past object time b d low high made once h =
    let many = h.many in
    let as_many = h.as_many in
    let lt : object - 1 < length d = omega (arith, low, high, many, as_many) in
    let ltb' : object - 1 < length b = omega (arith, low, high, many) in
    record {
      many = many;
      as_many = length-set d (object - 1) (time, (at d (object - 1)).1) ∙ as_many;
      births_are = h.births_are;
      sizes = λ i. elim (cases_eqb i (object - 1)) [
        | inl e ↦ subst (λ (k : ℕ). (at (with_time d (object - 1) time) k).1 ≡ (at b k).1) (sym e.1) (ap (λ (x : ℕ × ℕ). x.1) (set_here d (object - 1) time lt) ∙ h.sizes (object - 1))
        | inr n ↦ ap (λ (x : ℕ × ℕ). x.1) (set_there d (object - 1) i time n.1) ∙ h.sizes i
      ];
      after = λ i l. elim (cases_eqb i (object - 1)) [
        | inl e ↦
            let born_is : birth past object ≡ (at b (object - 1)).0 = h.births_are (object - 1) ltb' in
            let time_is : (at (with_time d (object - 1) time) (object - 1)).0 ≡ time = ap (λ (x : ℕ × ℕ). x.0) (set_here d (object - 1) time lt) in
            subst (λ (k : ℕ). (at b k).0 ≤ (at (with_time d (object - 1) time) k).0) (sym e.1) (omega (arith, born_is, time_is, made))
        | inr n ↦ let same : (at (with_time d (object - 1) time) i).0 ≡ (at d i).0 = ap (λ (x : ℕ × ℕ). x.0) (set_there d (object - 1) i time n.1) in let le = h.after i l in omega (arith, same, le)
      ];
      times = λ e o le. told_after (λ t. ltb t e) (λ k. dies_before past e k) object time d low lt (not_told past e object once) (λ k. h.times e k le) o;
      small = h.small;
      few = h.few;
    }

lives_on : (version : ℕ) (past : List TraceLine) (line : TraceLine) → Tells line → AreFine version (line ∷ past) → AreLives past (born_by past) (died_by past) → AreLives (line ∷ past) (born_by (line ∷ past)) (died_by (line ∷ past))
lives_on version past line (Born event thread object class size len) f h =
    let g = follows past (Alloc event thread object class size len) f.2 in
    let o = and_parts (is_timely past event) (eqb object (objects past + 1)) g.ordered in
    lives_born past event thread object class size len (born_by past) (died_by past) (eqb-true object (objects past + 1) o.1) (let r = f.1 in omega arith) (let r = f.1 in omega arith) (let r = f.1 in omega arith) h
lives_on version past line (Died object time) f h =
    let g = follows past (Death object time) f.2 in
    lives_died past object time (born_by past) (died_by past) (let r = f.1 in omega arith) (leb-true object (objects past) g.known) (leb-true (birth past object) time g.lives) (not-true (is_reported past object) g.new) h
lives_on version past line (Other other s) f h =
    subst (λ (b : Sizes). AreLives (other ∷ past) b (died_by (other ∷ past))) (sym (s.born (born_by past)))
    (subst (λ (d : Sizes). AreLives (other ∷ past) (born_by past) d) (sym (s.died (died_by past))) (lives_other past other (born_by past) (died_by past) s h))

pub lives : (version : ℕ) (past : List TraceLine) → AreFine version past → AreLives past (born_by past) (died_by past)
lives version [] f = record {
  many = refl;
  as_many = refl;
  births_are = λ i lt. absurd (omega (arith, lt));
  sizes = λ i. refl;
  after = λ i lt. absurd (omega (arith, lt));
  times = λ e o le ge. (let n : ltb never e ≡ false = grind (arith, nat_tests) in n);
  small = λ i. omega arith;
  few = omega arith;
}
lives version (line ∷ past) f = lives_on version past line (tells line) f (lives version past f.0)
