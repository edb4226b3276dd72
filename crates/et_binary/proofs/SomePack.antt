-- Each list of bytes has an answer.
use Rattle.std.proofs.Common.{◌≡◌, ◌≢◌, ℕ, zero, suc, ◌+◌, ◌<◌, ◌≤◌, min, Bool, true, false, eqb, List, [], ◌∷◌, ◌++◌, length, take, drop, Option, Some, None, refl, sym, ap, subst, ◌∙◌, append_assoc, arith, inl, inr, length-append}
use Rattle.std.specs.Prelude.{reverse, ◌⊎◌}
use Rattle.std.specs.List.{flat_map}
use Rattle.std.proofs.lemmas.List.{append-nil, length-drop, length-take-le, reverse-append, reverse-reverse, take-append-drop, take_all}
use Rattle.std.proofs.lemmas.Slice.Eq.{bytes_eq-Decides}
use Rattle.std.proofs.Math.Nat.{min-eq_left, min-eq_right, min-le_left, min-le_right}
use Rattle.std.proofs.lemmas.Grind.{flat_map-append}
use Rattle.std.proofs.lemmas.Bool.{cases_lt, eqb-false, eqb-true}
use Rattle.et_base.specs.Numbers.{AreBytes}
use Rattle.et_base.specs.declared.line.TraceLine.{TraceLine}
use Rattle.et_text.specs.Rules.{has_ended, next_fault, AreFine}
use Rattle.et_binary.specs.Packing.{packing, opening, pack}
use Rattle.et_binary.specs.Packs.{IsUnpackedTo, ShowsPackFault, HasPackAnswer}
use Rattle.et_binary.specs.Packs.BreaksRecord.{BreaksTable, BreaksOrder, BreaksEnd}
use Rattle.et_binary.specs.Packs.ShowsPackFault.{ShowsOpening, ShowsRecord}
use Rattle.et_binary.specs.Packs.LacksRecord.{EndsInOpening, EndsInRecord}
use Rattle.et_binary.specs.Packs.HasPackAnswer.{IsTracePack, IsRefusedPack}
use Rattle.et_binary.specs.Fronts.{record_front, is_record_letter, may_open}
use Rattle.et_binary.specs.Unpacking.{IsFront}
use Rattle.et_text.specs.Ranges.{IsInRange}
use Rattle.et_binary.proofs.InRange.{Decided, Holds, Fails, range_decided}
use Rattle.et_binary.proofs.Beginnings.{BeginsWith, front_takes, front_by, malformed_first, unfinished_first, unfinished_none, malformed_range}

-- THE OPENING

-- the first byte that is another than the one at its place
record Differs (wanted found : List ℕ) : Type 0 where
  pub front : List ℕ
  pub byte : ℕ
  pub wrong : ℕ
  pub wanting : List ℕ
  pub behind : List ℕ
  pub wanted_is : wanted ≡ front ++ byte ∷ wanting
  pub found_is : found ≡ front ++ wrong ∷ behind
  pub other : wrong ≢ byte

later : (w : ℕ) (ws fs : List ℕ) → Differs ws fs → Differs (w ∷ ws) (w ∷ fs)
later w ws fs d = record { front = w ∷ d.front; byte = d.byte; wrong = d.wrong; wanting = d.wanting; behind = d.behind; wanted_is = ap (λ (t : List ℕ). w ∷ t) d.wanted_is; found_is = ap (λ (t : List ℕ). w ∷ t) d.found_is; other = d.other }

-- .. at the front or behind it
differs_by : (w f : ℕ) (ws fs : List ℕ) (same : Bool) → eqb f w ≡ same → (ws ≢ fs → Differs ws fs) → w ∷ ws ≢ f ∷ fs → Differs (w ∷ ws) (f ∷ fs)
differs_by w f ws fs false e behind n = record { front = []; byte = w; wrong = f; wanting = ws; behind = fs; wanted_is = refl; found_is = refl; other = eqb-false f w e }
differs_by w f ws fs true e behind n =
    let same : f ≡ w = eqb-true f w e in
    subst (λ (x : ℕ). Differs (w ∷ ws) (x ∷ fs)) (sym same) (later w ws fs (behind (λ h. n (ap (λ (x : ℕ). x ∷ ws) (sym same) ∙ ap (λ (t : List ℕ). f ∷ t) h))))

differs : (ws fs : List ℕ) → length fs ≡ length ws → ws ≢ fs → Differs ws fs
differs [] [] l n = absurd (n refl)
differs [] (f ∷ fs) l n = absurd (omega (arith, l))
differs (w ∷ ws) [] l n = absurd (omega (arith, l))
differs (w ∷ ws) (f ∷ fs) l n = differs_by w f ws fs (eqb f w) refl (differs ws fs (omega (arith, l))) n

-- as many bytes of the opening as there are
abbrev count_of : List ℕ → ℕ
count_of bytes = min (length bytes) 4

as_many : (bytes : List ℕ) → length (take (count_of bytes) opening) ≡ length (take (count_of bytes) bytes)
as_many bytes = length-take-le (count_of bytes) opening (min-le_right (length bytes) 4) ∙ sym (length-take-le (count_of bytes) bytes (min-le_left (length bytes) 4))

pub wrong_opening : (bytes : List ℕ) → may_open bytes ≡ false → ShowsPackFault bytes 1 1
wrong_opening bytes e =
    let n : ℕ = count_of bytes in
    let d = differs (take n opening) (take n bytes) (sym (as_many bytes)) (λ h. absurd (let clash : false ≡ true = sym e ∙ (bytes_eq-Decides (take n bytes) (take n opening)).1 (sym h) in cc)) in
    ShowsOpening d.front d.byte d.wrong (d.wanting ++ drop n opening) (d.behind ++ drop n bytes)
    (sym (take-append-drop n opening) ∙ (ap (λ (t : List ℕ). t ++ drop n opening) d.wanted_is ∙ append_assoc d.front (d.byte ∷ d.wanting) (drop n opening)))
    (sym (take-append-drop n bytes) ∙ (ap (λ (t : List ℕ). t ++ drop n bytes) d.found_is ∙ append_assoc d.front (d.wrong ∷ d.behind) (drop n bytes)))
    d.other

same_bytes : (bytes : List ℕ) (n : ℕ) → n ≡ count_of bytes → may_open bytes ≡ true → take n bytes ≡ take n opening
same_bytes bytes n is e = subst (λ (k : ℕ). take k bytes ≡ take k opening) (sym is) ((bytes_eq-Decides (take (count_of bytes) bytes) (take (count_of bytes) opening)).0 e)

pub part_opening : (bytes : List ℕ) → may_open bytes ≡ true → length bytes < 4 → (more : List ℕ) × (opening ≡ bytes ++ more) × (0 < length more)
part_opening bytes e lt =
    let n : ℕ = length bytes in
    let few : n ≤ 4 = omega (arith, lt) in
    let all : take n bytes ≡ bytes = take_all n bytes (omega arith) in
    (drop n opening, sym (take-append-drop n opening) ∙ ap (λ (t : List ℕ). t ++ drop n opening) (sym (same_bytes bytes n (sym (min-eq_left few)) e) ∙ all), omega (arith, length-drop n opening, lt))

pub whole_opening : (bytes : List ℕ) → may_open bytes ≡ true → 4 ≤ length bytes → bytes ≡ opening ++ drop 4 bytes
whole_opening bytes e le = sym (take-append-drop 4 bytes) ∙ ap (λ (t : List ℕ). t ++ drop 4 bytes) (same_bytes bytes 4 (sym (min-eq_right le)) e)

-- RECORDS

pub pack_push : (lines : List TraceLine) (line : TraceLine) → pack (lines ++ line ∷ []) ≡ pack lines ++ packing line
pack_push lines line = ap (λ (t : List ℕ). opening ++ t) (flat_map-append packing lines (line ∷ []) ∙ ap (λ (t : List ℕ). flat_map packing lines ++ t) (append-nil (packing line)))

pub reads_on : (bytes : List ℕ) (past : List TraceLine) (rest behind : List ℕ) (line : TraceLine) → IsFront line behind rest → next_fault past line ≡ None → IsUnpackedTo past rest bytes → IsUnpackedTo (line ∷ past) behind bytes
reads_on bytes past rest behind line f e r =
    let turned : reverse (line ∷ past) ≡ reverse past ++ line ∷ [] = reverse-append (line ∷ []) past in
    let so_far : pack (reverse (line ∷ past)) ≡ pack (reverse past) ++ packing line = ap pack turned ∙ pack_push (reverse past) line in
    record {
      fine = (r.fine, f.range, e);
      parts = r.parts ∙ (ap (λ (t : List ℕ). pack (reverse past) ++ t) f.parts ∙ (sym (append_assoc (pack (reverse past)) (packing line) behind) ∙ ap (λ (t : List ℕ). t ++ behind) (sym so_far)));
    }

by_rule : (bytes : List ℕ) (past : List TraceLine) (rest behind : List ℕ) (line : TraceLine) (f : Option ℕ) → next_fault past line ≡ f → IsFront line behind rest → IsUnpackedTo past rest bytes
    → (IsUnpackedTo (line ∷ past) behind bytes → HasPackAnswer bytes) → HasPackAnswer bytes
by_rule bytes past rest behind line (Some k) e w r next = IsRefusedPack k (length past + 1) (inl (ShowsRecord past rest k (length past + 1) r (BreaksOrder k line behind w.range w.parts e) refl))
by_rule bytes past rest behind line None e w r next = next (reads_on bytes past rest behind line w e r)

by_range : (bytes : List ℕ) (past : List TraceLine) (rest behind : List ℕ) (line : TraceLine) → Decided (IsInRange 2 line) → has_ended past ≡ false → BeginsWith line behind rest → IsUnpackedTo past rest bytes
    → (IsUnpackedTo (line ∷ past) behind bytes → HasPackAnswer bytes) → HasPackAnswer bytes
by_range bytes past rest behind line (Fails out) h w r next = IsRefusedPack 1 (length past + 1) (inl (ShowsRecord past rest 1 (length past + 1) r (BreaksTable h (malformed_range rest line behind w out)) refl))
by_range bytes past rest behind line (Holds fits) h w r next = by_rule bytes past rest behind line (next_fault past line) refl (front_by rest line behind w fits) r next

-- what stands behind a record is shorter
shorter : (rest behind : List ℕ) (line : TraceLine) → rest ≡ packing line ++ behind → length behind < length rest
shorter rest behind line e = omega (arith, ap length e, length-append (packing line) behind)

by_front : (bytes : List ℕ) (past : List TraceLine) (b : ℕ) (tail : List ℕ) (found : Option (TraceLine × List ℕ)) → record_front (b ∷ tail) ≡ found → is_record_letter b ≡ true → has_ended past ≡ false → AreBytes (b ∷ tail) → IsUnpackedTo past (b ∷ tail) bytes
    → ((line : TraceLine) (behind : List ℕ) → length behind < length (b ∷ tail) → AreBytes behind → IsUnpackedTo (line ∷ past) behind bytes → HasPackAnswer bytes) → HasPackAnswer bytes
by_front bytes past b tail None e l h fits r next =
    IsRefusedPack 5 (length past + 1) (inr (refl, EndsInRecord past (b ∷ tail) (length past + 1) r h (unfinished_first (b ∷ tail) (omega arith) l e) refl))
by_front bytes past b tail (Some x) e l h fits r next =
    let w = front_takes (b ∷ tail) x fits e in
    by_range bytes past (b ∷ tail) x.1 x.0 (range_decided x.0 w.packed) h w r (next x.0 x.1 (shorter (b ∷ tail) x.1 x.0 w.parts) w.rest_fits)

by_letter : (bytes : List ℕ) (past : List TraceLine) (b : ℕ) (tail : List ℕ) (is : Bool) → is_record_letter b ≡ is → has_ended past ≡ false → AreBytes (b ∷ tail) → IsUnpackedTo past (b ∷ tail) bytes
    → ((line : TraceLine) (behind : List ℕ) → length behind < length (b ∷ tail) → AreBytes behind → IsUnpackedTo (line ∷ past) behind bytes → HasPackAnswer bytes) → HasPackAnswer bytes
by_letter bytes past b tail false e h fits r next = IsRefusedPack 1 (length past + 1) (inl (ShowsRecord past (b ∷ tail) 1 (length past + 1) r (BreaksTable h (malformed_first (b ∷ tail) (omega arith) e)) refl))
by_letter bytes past b tail true e h fits r next = by_front bytes past b tail (record_front (b ∷ tail)) refl e h fits r next

by_end : (bytes : List ℕ) (past : List TraceLine) (rest : List ℕ) (ended : Bool) → has_ended past ≡ ended → AreBytes rest → IsUnpackedTo past rest bytes
    → ((line : TraceLine) (behind : List ℕ) → length behind < length rest → AreBytes behind → IsUnpackedTo (line ∷ past) behind bytes → HasPackAnswer bytes) → HasPackAnswer bytes
by_end bytes past [] true h fits r next = IsTracePack (reverse past) (record {
  good = record { fine = subst (AreFine 2) (sym (reverse-reverse past)) r.fine; ended = ap has_ended (reverse-reverse past) ∙ h };
  whole = r.parts ∙ append-nil (pack (reverse past));
})
by_end bytes past (b ∷ tail) true h fits r next = IsRefusedPack 6 (length past + 1) (inl (ShowsRecord past (b ∷ tail) 6 (length past + 1) r (BreaksEnd h (omega arith)) refl))
by_end bytes past [] false h fits r next = IsRefusedPack 5 (length past + 1) (inr (refl, EndsInRecord past [] (length past + 1) r h unfinished_none refl))
by_end bytes past (b ∷ tail) false h fits r next = by_letter bytes past b tail (is_record_letter b) refl h fits r next

answer_by : (n : ℕ) (bytes : List ℕ) (past : List TraceLine) (rest : List ℕ) → length rest ≤ n → AreBytes rest → IsUnpackedTo past rest bytes → HasPackAnswer bytes
answer_by zero bytes past rest le fits r = by_end bytes past rest (has_ended past) refl fits r (λ line behind lt f q. absurd (omega (arith, le, lt)))
answer_by (suc n) bytes past rest le fits r = by_end bytes past rest (has_ended past) refl fits r (λ line behind lt f q. answer_by n bytes (line ∷ past) behind (omega (arith, le, lt)) f q)

fits_behind : (front rest : List ℕ) → AreBytes (front ++ rest) → AreBytes rest
fits_behind [] rest h = h
fits_behind (b ∷ front) rest h = fits_behind front rest (λ i. h (suc i))

by_size : (bytes : List ℕ) → may_open bytes ≡ true → AreBytes bytes → (length bytes < 4) ⊎ (4 ≤ length bytes) → HasPackAnswer bytes
by_size bytes e fits (inl lt) = let p = part_opening bytes e lt in IsRefusedPack 5 1 (inr (refl, EndsInOpening p.0 p.1 p.2))
by_size bytes e fits (inr le) =
    let w = whole_opening bytes e le in
    answer_by (length (drop 4 bytes)) bytes [] (drop 4 bytes) (omega arith) (fits_behind opening (drop 4 bytes) (subst AreBytes w fits)) (record { fine = tt; parts = w })

by_opening : (bytes : List ℕ) (may : Bool) → may_open bytes ≡ may → AreBytes bytes → HasPackAnswer bytes
by_opening bytes false e fits = IsRefusedPack 1 1 (inl (wrong_opening bytes e))
by_opening bytes true e fits = by_size bytes e fits (cases_lt (length bytes) 4)

pub answer_of : (bytes : List ℕ) → AreBytes bytes → HasPackAnswer bytes
answer_of bytes fits = by_opening bytes (may_open bytes) refl fits
