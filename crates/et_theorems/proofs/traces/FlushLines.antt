-- The lines of a flush keep the rules, and so does the last line.
use Rattle.std.proofs.Common.{◌≡◌, ℕ, zero, suc, ◌+◌, ◌-◌, ◌*◌, ◌/◌, ◌%◌, ◌<◌, ◌≤◌, ◌^◌, ◌==◌, ◌⊎◌, Bool, true, false, ◌&&◌, ◌||◌, List, [], ◌∷◌, ◌++◌, length, Option, Some, None, refl, sym, ◌∙◌, ap, subst, inl, inr, arith}
use Rattle.std.specs.Prelude.{map, nat_le, nat_lt, if◌then◌else◌, slice_index, unwrap_or}
use Rattle.std.specs.List.{list_any}
use Rattle.std.proofs.Math.Nat.{mod-lt}
use Rattle.std.proofs.lemmas.Bool.{cases_eq, eq-eqb, le-leb, lt-ltb, ltb-true, true≢false, ne_eqb, or_right, or_parts, or_from, not_from_false}
use Rattle.std.proofs.lemmas.List.{append-nil}
use Rattle.std.proofs.lemmas.List.Folds.{list_any-append}
use Rattle.std.proofs.lemmas.Nat.{div-add-mod', div-mul-add}
use Rattle.et_base.specs.declared.line.TraceLine.{TraceLine}
use Rattle.et_base.specs.declared.line.TraceLine.TheVariants.{Flush, Death, Finish}
use Rattle.et_state.specs.History.{deaths_to, flush_lines}
use Rattle.et_state.specs.Naming.{Names, Mentions}
use Rattle.et_text.specs.Rules.{AreFine, awaited, births, classes, newest_flush, has_begun, has_class, has_ended, has_method, interval, is_before, is_flush_point, is_reported, last_dead, latest, methods, misses_no_flush, standing_flush, stands_at}
use Rattle.et_theorems.proofs.traces.Numbering.{AreNamed}
use Rattle.et_theorems.proofs.traces.Standing.{behind, Stands, both, fault_free, timely}

or_other : (a b : Bool) → (a || b) ≡ true → a ≡ false → b ≡ true
or_other true b e f = absurd (true≢false f)
or_other false b e f = e

-- DEATHS

-- a death at a flush after event e that a D line may tell
pub record IsDeath (next e : ℕ) (live : ℕ → Type 0) (last : ℕ → ℕ) (o time : ℕ) : Type 0 where
  pub some : 0 < o
  pub made : o < next
  pub here : live o
  pub born : last o ≤ time
  pub within : time ≤ e

module _ (next e : ℕ) (live : ℕ → Type 0) (last : ℕ → ℕ) where
  -- deaths of objects above the one number, rising up to the other
  abbrev pub Rises : ℕ → List (ℕ × ℕ) → ℕ → Type 0
  Rises low [] high = low ≤ high
  Rises low (d ∷ ds) high = (low < d.0) × IsDeath next e live last d.0 d.1 × Rises d.0 ds high

  widens : (low : ℕ) (ds : List (ℕ × ℕ)) (high more : ℕ) → high ≤ more → Rises low ds high → Rises low ds more
  widens low [] high more le h = omega (arith, le, h)
  widens low (d ∷ ds) high more le h = (h.0, h.1, widens d.0 ds high more le h.2)

  one_more : (low : ℕ) (ds : List (ℕ × ℕ)) (high o time : ℕ) → high < o → IsDeath next e live last o time → Rises low ds high → Rises low (ds ++ (o, time) ∷ []) o
  one_more low [] high o time lt dies h = (omega (arith, lt, h), dies, omega arith)
  one_more low (d ∷ ds) high o time lt dies h = (h.0, h.1, one_more d.0 ds high o time lt dies h.2)

  pub as_many : (low : ℕ) (ds : List (ℕ × ℕ)) (high : ℕ) → Rises low ds high → low + length ds ≤ high
  as_many low [] high h = omega (arith, h)
  as_many low (d ∷ ds) high h = let a = as_many d.0 ds high h.2 in let b = h.0 in omega arith

  pub deaths_rise : (here gone : ℕ → Bool) (time : ℕ → ℕ) (n : ℕ) → ((o : ℕ) → 0 < o → o ≤ n → (here o || gone o) ≡ false → IsDeath next e live last o (time o)) → Rises 0 (deaths_to here gone time n) n
  deaths_rise here gone time zero dies = omega arith
  deaths_rise here gone time (suc n) dies = by (deaths_rise here gone time n (λ o some le out. dies o some (omega (arith, le)) out)) (here (suc n) || gone (suc n)) refl
    where
      by : Rises 0 (deaths_to here gone time n) n → (b : Bool) → (here (suc n) || gone (suc n)) ≡ b → Rises 0 (deaths_to here gone time n ++ (if b then [] else (suc n, time (suc n)) ∷ [])) (suc n)
      by old true out = subst (λ (ds : List (ℕ × ℕ)). Rises 0 ds (suc n)) (sym (append-nil (deaths_to here gone time n))) (widens 0 (deaths_to here gone time n) n (suc n) (omega arith) old)
      by old false out = one_more 0 (deaths_to here gone time n) n (suc n) (time (suc n)) (omega arith) (dies (suc n) (omega arith) (omega arith) out) old

abbrev pub lists : List (ℕ × ℕ) → ℕ → Bool
lists ds o = list_any (λ (d : ℕ × ℕ). d.0 == o) ds

-- what is here is in no list of deaths
pub alive_is_unlisted : (here gone : ℕ → Bool) (time : ℕ → ℕ) (n o : ℕ) → here o ≡ true → lists (deaths_to here gone time n) o ≡ false
alive_is_unlisted here gone time zero o alive = refl
alive_is_unlisted here gone time (suc n) o alive =
    list_any-append (λ (d : ℕ × ℕ). d.0 == o) (deaths_to here gone time n) (if here (suc n) || gone (suc n) then [] else (suc n, time (suc n)) ∷ [])
    ∙ or_from (lists (deaths_to here gone time n) o) (lists (if here (suc n) || gone (suc n) then [] else (suc n, time (suc n)) ∷ []) o) (alive_is_unlisted here gone time n o alive) (by (here (suc n) || gone (suc n)) refl)
  where
    by : (b : Bool) → (here (suc n) || gone (suc n)) ≡ b → lists (if b then [] else (suc n, time (suc n)) ∷ []) o ≡ false
    by true e = refl
    by false e = or_from (suc n == o) false (ne_eqb (suc n) o (λ same. true≢false (sym (subst (λ (k : ℕ). here k ≡ true) (sym same) alive) ∙ (or_parts (here (suc n)) (gone (suc n)) e).0))) refl

abbrev pub death_lines : List (ℕ × ℕ) → List TraceLine
death_lines ds = map (λ (d : ℕ × ℕ). Death d.0 d.1) ds

-- what no D line tells of is reported no more than before
pub unlisted_stays : (ds : List (ℕ × ℕ)) (past : List TraceLine) (o : ℕ) → lists ds o ≡ false → is_reported past o ≡ false → is_reported (behind past (death_lines ds)) o ≡ false
unlisted_stays [] past o out h = h
unlisted_stays (d ∷ ds) past o out h =
    let parts = or_parts (d.0 == o) (lists ds o) out in
    unlisted_stays ds (Death d.0 d.1 ∷ past) o parts.1 (or_from (d.0 == o) (is_reported past o) parts.0 h)

-- A FLUSH UNDER WAY

-- so many D lines are to follow, each of an object above this one
pub record Flushing (names : Names) (version every e next : ℕ) (live : ℕ → Type 0) (last : ℕ → ℕ) (m : Mentions) (left low : ℕ) (past : List TraceLine) : Type 0 where
  pub fine : AreFine version past
  pub begun : has_begun past ≡ true
  pub unended : has_ended past ≡ false
  pub awaited_is : awaited past ≡ left
  pub dead : last_dead past ≡ low
  pub interval_is : interval past ≡ every
  pub latest_within : latest past ≤ e
  pub newest : newest_flush past ≡ Some e
  pub standing : standing_flush past ≡ Some e
  pub named : AreNamed names m (classes past) (methods past) (λ name. has_class past name) (λ c name descriptor. has_method past c name descriptor)
  pub made : length (births past) + 1 ≡ next
  pub few : next ≤ 2 ^ 24
  pub none_reported : is_reported past 0 ≡ false
  pub reported_made : (o : ℕ) → is_reported past o ≡ true → o < next
  pub unreported : (o : ℕ) → low < o → live o → is_reported past o ≡ false
  pub births_within : (o : ℕ) → 0 < o → o < next → slice_index (births past) (o - 1) ≤ last o

module _ (names : Names) (version every e next : ℕ) (event_within : e ≤ 2 ^ 40) (live : ℕ → Type 0) (last : ℕ → ℕ) (m : Mentions) where
  abbrev Under : ℕ → ℕ → List TraceLine → Type 0
  Under left low past = Flushing names version every e next live last m left low past

  flush_begins : (deaths : ℕ) (past : List TraceLine) → deaths < 2 ^ 24 → Stands names version every e next live last m past → Under deaths 0 (Flush e deaths ∷ past)
  flush_begins deaths past few h =
      let o = h.objects_are in
      record {
        fine = (h.fine, (event_within, few), fault_free past (Flush e deaths) h.rests.1 (timely every e past h.rests h.flows) refl refl refl);
        begun = refl;
        unended = refl;
        awaited_is = refl;
        dead = refl;
        interval_is = h.flows.interval_is;
        latest_within = omega arith;
        newest = refl;
        standing = refl;
        named = h.named;
        made = o.made;
        few = o.few;
        none_reported = o.none_reported;
        reported_made = o.reported_made;
        unreported = λ x lt here. o.unreported x here;
        births_within = o.births_within;
      }

  dies : (left low o time : ℕ) (past : List TraceLine) → low < o → IsDeath next e live last o time → Under (suc left) low past → Under left o (Death o time ∷ past)
  dies left low o time past above d h =
      let some : 0 < o = d.some in
      let made : o < next = d.made in
      let few : next ≤ 2 ^ 24 = h.few in
      let is_made : length (births past) + 1 ≡ next = h.made in
      let none : is_reported past o ≡ false = h.unreported o above d.here in
      let more : nat_lt 0 (awaited past) ≡ true = lt-ltb 0 (awaited past) (let a = h.awaited_is in omega arith) in
      let rises : nat_lt (last_dead past) o ≡ true = lt-ltb (last_dead past) o (let a = h.dead in omega arith) in
      let timed : nat_le time (unwrap_or (newest_flush past) 0) ≡ true = subst (λ (x : Option ℕ). nat_le time (unwrap_or x 0) ≡ true) (sym h.newest) (le-leb time e d.within) in
      let known : nat_le o (length (births past)) ≡ true = le-leb o (length (births past)) (omega arith) in
      let lives : nat_le (slice_index (births past) (o - 1)) time ≡ true = le-leb (slice_index (births past) (o - 1)) time (let a = h.births_within o some made in let b = d.born in omega arith) in
      let within : time ≤ e = d.within in
      record {
        fine = (h.fine, ((omega arith, omega arith), omega arith), fault_free past (Death o time) h.unended (both (both more rises) timed) known lives (not_from_false (is_reported past o) none));
        begun = refl;
        unended = refl;
        awaited_is = (let a = h.awaited_is in omega arith);
        dead = refl;
        interval_is = h.interval_is;
        latest_within = h.latest_within;
        newest = h.newest;
        standing = h.standing;
        named = h.named;
        made = h.made;
        few = h.few;
        none_reported = or_from (o == 0) (is_reported past 0) (ne_eqb o 0 (λ same. omega (arith, same))) h.none_reported;
        reported_made = λ x is. elim (cases_eq o x) [
          | inl same ↦ omega (arith, same)
          | inr ne ↦ h.reported_made x (or_other (o == x) (is_reported past x) is (ne_eqb o x ne))
        ];
        unreported = λ x lt here. or_from (o == x) (is_reported past x) (ne_eqb o x (λ same. omega (arith, same, lt))) (h.unreported x (omega (arith, lt)) here);
        births_within = h.births_within;
      }

  all_die : (ds : List (ℕ × ℕ)) (low high : ℕ) (past : List TraceLine) → Rises next e live last low ds high → Under (length ds) low past → (end : ℕ) × Under 0 end (behind past (death_lines ds))
  all_die [] low high past h u = (low, u)
  all_die (d ∷ ds) low high past h u = all_die ds d.0 high (Death d.0 d.1 ∷ past) h.2 (dies (length ds) low d.0 d.1 past h.0 h.1 u)

  pub flush_stands : (ds : List (ℕ × ℕ)) (high : ℕ) (past : List TraceLine) → Rises next e live last 0 ds high → high < next → Stands names version every e next live last m past → (end : ℕ) × Under 0 end (behind past (flush_lines e ds))
  flush_stands ds high past h lt s =
      let a = as_many next e live last 0 ds high h in
      let b = s.objects_are.few in
      all_die ds 0 high (Flush e (length ds) ∷ past) h (flush_begins (length ds) past (omega (arith, lt)) s)

  -- THE LAST LINE
  pub finish_fine : (how end : ℕ) (past : List TraceLine) → how ≤ 3 → Under 0 end past → AreFine version (Finish e how ∷ past)
  finish_fine how end past few h =
      let there : stands_at (standing_flush past) e ≡ true = subst (λ (x : Option ℕ). stands_at x e ≡ true) (sym h.standing) (eq-eqb e e refl) in
      (h.fine, (event_within, few), fault_free past (Finish e how) h.unended (both (eq-eqb (awaited past) 0 h.awaited_is) there) refl refl refl)

  -- BEHIND A FLUSH that was due
  pub flush_done : (ds : List (ℕ × ℕ)) (end : ℕ) (past : List TraceLine) (here : ℕ → Bool) → is_flush_point every e ≡ true → ((o : ℕ) → here o ≡ true → lists ds o ≡ false) → Stands names version every e next live last m past
      → Under 0 end (behind past (flush_lines e ds)) → Stands names version every (suc e) next (λ o. live o × (here o ≡ true)) last m (behind past (flush_lines e ds))
  flush_done ds end past here due unlisted s h =
      let now : List TraceLine = behind past (flush_lines e ds) in
      record {
        fine = h.fine;
        rests = (h.begun, h.unended, h.awaited_is);
        flows = record {
          interval_is = h.interval_is;
          latest_within = (let a = h.latest_within in omega arith);
          later = rw h.newest (lt-ltb e (suc e) (omega arith));
          not_final = rw h.newest (rw due refl);
          none_missing = rw h.newest (misses_none every e);
        };
        named = h.named;
        objects_are = record {
          made = h.made;
          few = h.few;
          unreported = λ o is. unlisted_stays ds (Flush e (length ds) ∷ past) o (unlisted o is.1) (s.objects_are.unreported o is.0);
          none_reported = h.none_reported;
          reported_made = h.reported_made;
          births_within = h.births_within;
        };
      }
    where
      misses_none : (every e : ℕ) → misses_no_flush every (Some e) (suc e) ≡ true
      misses_none zero e = refl
      misses_none (suc n) e = or_right (suc n == 0) (nat_le ((suc e - 1) / suc n) (e / suc n)) (le-leb ((suc e - 1) / suc n) (e / suc n) (let same : suc e - 1 ≡ e = omega arith in subst (λ (x : ℕ). x / suc n ≤ e / suc n) (sym same) (omega arith)))

-- WHERE NO FLUSH IS DUE

same_row : (d k : ℕ) → 0 < d → (suc k % d == 0) ≡ false → suc k / d ≡ k / d
same_row d k some out =
    let q : ℕ = suc k / d in
    let r : ℕ = suc k % d in
    let parts : q * d + r ≡ suc k = div-add-mod' (suc k) d in
    let below : r < d = mod-lt (suc k) some in
    let positive : 0 < r = (by r out) in
    let before : q * d + (r - 1) ≡ k = omega arith in
    sym (ap (λ (x : ℕ). x / d) (sym before) ∙ div-mul-add q d (r - 1) (omega arith))
  where
    by : (r : ℕ) → (r == 0) ≡ false → 0 < r
    by zero e = absurd (true≢false e)
    by (suc n) e = omega arith

third_fails : (a b c : Bool) → a ≡ true → b ≡ true → (a && b && c) ≡ false → c ≡ false
third_fails true true c ea eb e = e
third_fails true false c ea eb e = absurd (true≢false (sym eb))
third_fails false b c ea eb e = absurd (true≢false (sym ea))

-- as many multiples are below the next event as below this one
same_rows : (n e : ℕ) → is_flush_point (suc n) e ≡ false → (suc e - 1) / suc n ≡ (e - 1) / suc n
same_rows n zero out = ap (λ (x : ℕ). x / suc n) (let same : suc zero - 1 ≡ zero - 1 = omega arith in same)
same_rows n (suc k) out =
    let next : suc (suc k) - 1 ≡ suc k = omega arith in
    let this : suc k - 1 ≡ k = omega arith in
    let row : (suc k % suc n == 0) ≡ false = third_fails (nat_lt 0 (suc n)) (nat_lt 0 (suc k)) (suc k % suc n == 0) (lt-ltb 0 (suc n) (omega arith)) (lt-ltb 0 (suc k) (omega arith)) out in
    ap (λ (x : ℕ). x / suc n) next ∙ (same_row (suc n) k (omega arith) row ∙ ap (λ (x : ℕ). x / suc n) (sym this))

still_none : (every e : ℕ) (newest : Option ℕ) → is_flush_point every e ≡ false → misses_no_flush every newest e ≡ true → misses_no_flush every newest (suc e) ≡ true
still_none zero e newest out h = refl
still_none (suc n) e newest out h =
    let was : nat_le ((e - 1) / suc n) (unwrap_or newest 0 / suc n) ≡ true = or_other (suc n == 0) (nat_le ((e - 1) / suc n) (unwrap_or newest 0 / suc n)) h (ne_eqb (suc n) 0 (λ none. omega (arith, none))) in
    or_right (suc n == 0) (nat_le ((suc e - 1) / suc n) (unwrap_or newest 0 / suc n))
    (subst (λ (x : ℕ). nat_le x (unwrap_or newest 0 / suc n) ≡ true) (sym (same_rows n e out)) was)

still_before : (newest : Option ℕ) (e : ℕ) → is_before newest e ≡ true → is_before newest (suc e) ≡ true
still_before None e h = refl
still_before (Some f) e h = lt-ltb f (suc e) (let lt = ltb-true f e h in omega arith)

pub no_flush : (names : Names) (version every e next : ℕ) (live : ℕ → Type 0) (last : ℕ → ℕ) (m : Mentions) (past : List TraceLine) → is_flush_point every e ≡ false → Stands names version every e next live last m past → Stands names version every (suc e) next live last m past
no_flush names version every e next live last m past out h = record {
  fine = h.fine;
  rests = h.rests;
  flows = record {
    interval_is = h.flows.interval_is;
    latest_within = (let a = h.flows.latest_within in omega arith);
    later = still_before (newest_flush past) e h.flows.later;
    not_final = h.flows.not_final;
    none_missing = still_none every e (newest_flush past) out h.flows.none_missing;
  };
  named = h.named;
  objects_are = h.objects_are;
}

-- ANOTHER STATE: what may be named now may be named before, or was not made yet; and no object was reached last earlier
pub carried : (names : Names) (version every e next : ℕ) (live now : ℕ → Type 0) (last ahead : ℕ → ℕ) (m : Mentions) (past : List TraceLine) → ((o : ℕ) → now o → live o ⊎ (next ≤ o)) → ((o : ℕ) → 0 < o → o < next → last o ≤ ahead o)
    → Stands names version every e next live last m past → Stands names version every e next now ahead m past
carried names version every e next live now last ahead m past were later h =
    let o = h.objects_are in
    record {
      fine = h.fine;
      rests = h.rests;
      flows = h.flows;
      named = h.named;
      objects_are = record {
        made = o.made;
        few = o.few;
        unreported = λ x is. elim (were x is) [ inl was ↦ o.unreported x was | inr new ↦ fresh x new (is_reported past x) refl ];
        none_reported = o.none_reported;
        reported_made = o.reported_made;
        births_within = λ x some lt. (let a = o.births_within x some lt in let b = later x some lt in omega arith);
      };
    }
  where
    fresh : (x : ℕ) → next ≤ x → (b : Bool) → is_reported past x ≡ b → b ≡ false
    fresh x new false e = refl
    fresh x new true e = let lt = h.objects_are.reported_made x e in absurd (omega (arith, new))
