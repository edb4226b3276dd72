-- Each list of numbers has an answer as a pack, also one that is no list of bytes: no record goes on through a number that is
-- no byte.
use Rattle.std.proofs.Common.{◌≡◌, ℕ, zero, suc, ◌+◌, ◌<◌, ◌≤◌, List, [], ◌∷◌, ◌++◌, length, refl, sym, ap, subst, ◌∙◌, arith, inl, inr, append_assoc}
use Rattle.std.specs.Prelude.{reverse, ◌⊎◌, false, All}
use Rattle.std.specs.Int.{byte_at, byte_len, bytes_high_first}
use Rattle.std.specs.List.{flat_map, AllByRecursion}
use Rattle.std.proofs.lemmas.Bool.{cases_lt}
use Rattle.std.proofs.lemmas.List.{reverse-reverse}
use Rattle.et_base.specs.Numbers.{AreBytes}
use Rattle.et_base.specs.declared.line.TraceLine.{TraceLine}
use Rattle.et_base.specs.declared.line.TraceLine.TheVariants.{Header, Class, Method, Alloc, Update, Enter, Exit, Unwind, Flush, Death, Finish}
use Rattle.et_text.specs.Spelling.{LineField, Number, Text, letter}
use Rattle.et_binary.specs.Packing.{packed_field, packed_fields, opening, pack}
use Rattle.et_binary.specs.Packs.{FitsWidth, IsPacked, IsNoLetter, IsUnfinished, IsUnpackedTo, ShowsPackFault, LacksRecord, HasPackAnswer}
use Rattle.et_binary.specs.Packs.IsMalformed.{HasNoLetter}
use Rattle.et_binary.specs.Packs.BreaksRecord.{BreaksTable, BreaksEnd}
use Rattle.et_binary.specs.Packs.ShowsPackFault.{ShowsOpening, ShowsRecord}
use Rattle.et_binary.specs.Packs.LacksRecord.{EndsInOpening, EndsInRecord}
use Rattle.et_binary.specs.Packs.HasPackAnswer.{IsTracePack, IsRefusedPack}
use Rattle.et_text.specs.Rules.{has_ended}

abbrev AreSmall : List ℕ → Type 0
AreSmall xs = AllByRecursion (λ b. b < 256) xs

bytes_small : (xs : List ℕ) → AreSmall xs → AreBytes xs
bytes_small [] h i = omega arith
bytes_small (x ∷ xs) h zero = h.0
bytes_small (x ∷ xs) h (suc i) = bytes_small xs h.1 i

small_append : (xs ys : List ℕ) → AreSmall xs → AreSmall ys → AreSmall (xs ++ ys)
small_append [] ys h k = k
small_append (x ∷ xs) ys h k = (h.0, small_append xs ys h.1 k)

small_behind : (xs ys : List ℕ) → AreSmall (xs ++ ys) → AreSmall ys
small_behind [] ys h = h
small_behind (x ∷ xs) ys h = small_behind xs ys h.1

small_each : (xs : List ℕ) → All (λ b. b < 256) xs → AreSmall xs
small_each [] h = tt
small_each (x ∷ xs) h = (h 0 x (omega arith), small_each xs (λ k d lt. h (suc k) d (omega arith)))

-- A RECORD IS BYTES

small_byte : (k n : ℕ) → byte_at k n < 256
small_byte zero n = omega arith
small_byte (suc k) n = omega arith

small_number : (k n : ℕ) → AreSmall (bytes_high_first k n)
small_number zero n = tt
small_number (suc k) n = (small_byte k n, small_number k n)

small_field : (f : LineField) → FitsWidth f → AreSmall (packed_field f)
small_field (Number w n) h = small_number (byte_len w) n
small_field (Text name) h = small_append (bytes_high_first 4 (length name)) name (small_number 4 (length name)) (small_each name h.1)

small_fields : (fs : List LineField) → AllByRecursion FitsWidth fs → AreSmall (flat_map packed_field fs)
small_fields [] h = tt
small_fields (f ∷ fs) h = small_append (packed_field f) (flat_map packed_field fs) (small_field f h.0) (small_fields fs h.1)

small_letter : (line : TraceLine) → letter line < 256
small_letter (Header v n) = omega arith
small_letter (Class number name) = omega arith
small_letter (Method number class name descriptor) = omega arith
small_letter (Alloc event thread object class size len) = omega arith
small_letter (Update event thread object slot old new) = omega arith
small_letter (Enter event thread method receiver) = omega arith
small_letter (Exit event thread method) = omega arith
small_letter (Unwind event thread method exception) = omega arith
small_letter (Flush event deaths) = omega arith
small_letter (Death object time) = omega arith
small_letter (Finish event how) = omega arith

small_record : (line : TraceLine) (first : List ℕ) → IsPacked line first → AreSmall first
small_record line first p = subst AreSmall (sym p.packed) (small_letter line, small_fields (packed_fields line) p.room)

-- A NUMBER THAT IS NO BYTE

-- what is bytes ends before it
ends_before : (rest first behind more : List ℕ) (b : ℕ) → AreSmall first → 256 ≤ b → rest ++ b ∷ more ≡ first ++ behind → (tail : List ℕ) × (rest ≡ first ++ tail)
ends_before rest [] behind more b h le e = (rest, refl)
ends_before [] (x ∷ first) behind more b h le e = let same : b ≡ x = cc in absurd (omega (arith, same, h.0))
ends_before (y ∷ rest) (x ∷ first) behind more b h le e =
    let tails : rest ++ b ∷ more ≡ first ++ behind = cc in
    let found = ends_before rest first behind more b h.1 le tails in
    let same : y ≡ x = cc in
    (found.0, ap (λ z. z ∷ rest) same ∙ ap (λ zs. x ∷ zs) found.1)

no_letter_above : (b : ℕ) → 256 ≤ b → IsNoLetter b
no_letter_above b le line e = absurd (omega (arith, e, small_letter line))

unfinished_on : (x : ℕ) (rest more : List ℕ) (b : ℕ) → 256 ≤ b → IsUnfinished (x ∷ rest) → IsUnfinished ((x ∷ rest) ++ b ∷ more)
unfinished_on x rest more b le u = record {
  letter_fits = λ y behind e none. u.letter_fits y rest (let same : x ≡ y = cc in ap (λ z. z ∷ rest) same) none;
  not_whole = λ line first behind e p. (let cut = ends_before (x ∷ rest) first behind more b (small_record line first p) le e in u.not_whole line first cut.0 cut.1 p);
}

module _ (bytes front behind : List ℕ) (b : ℕ) (le : 256 ≤ b) (parts : bytes ≡ front ++ b ∷ behind) where
  -- the number stands behind the records so far and the front of one more
  goes_on : (past : List TraceLine) (rest : List ℕ) → IsUnpackedTo past rest front → IsUnpackedTo past (rest ++ b ∷ behind) bytes
  goes_on past rest r = record {
    fine = r.fine;
    parts = parts ∙ (ap (λ xs. xs ++ b ∷ behind) r.parts ∙ append_assoc (pack (reverse past)) rest (b ∷ behind));
  }

  behind_records : (past : List TraceLine) (rest : List ℕ) → IsUnpackedTo past rest front → has_ended past ≡ false → IsUnfinished rest → HasPackAnswer bytes
  behind_records past [] r h u =
      IsRefusedPack 1 (length past + 1) (inl (ShowsRecord past (b ∷ behind) 1 (length past + 1) (goes_on past [] r) (BreaksTable h (HasNoLetter b behind refl (no_letter_above b le))) refl))
  behind_records past (x ∷ rest) r h u =
      IsRefusedPack 5 (length past + 1) (inr (refl, EndsInRecord past ((x ∷ rest) ++ b ∷ behind) (length past + 1) (goes_on past (x ∷ rest) r) h (unfinished_on x rest behind b le u) refl))

  in_opening : (more : List ℕ) → opening ≡ front ++ more → 0 < length more → HasPackAnswer bytes
  in_opening [] e some = absurd (omega arith)
  in_opening (w ∷ wanting) e some =
      let whole : AreSmall opening = (omega arith, (omega arith, (omega arith, (omega arith, tt)))) in
      let small = small_behind front (w ∷ wanting) (subst AreSmall e whole) in
      IsRefusedPack 1 1 (inl (ShowsOpening front w b wanting behind e parts (λ same. absurd (omega (arith, same, small.0, le)))))

  lacking : (number : ℕ) → LacksRecord front number → HasPackAnswer bytes
  lacking number (EndsInOpening more e some) = in_opening more e some
  lacking number (EndsInRecord past rest n r h u at) = behind_records past rest r h u

  module _ (stays : (first more : List ℕ) (kind number : ℕ) → ShowsPackFault first kind number → ShowsPackFault (first ++ more) kind number) where
    by_front : HasPackAnswer front → HasPackAnswer bytes
    by_front (IsTracePack lines is) =
        let r : IsUnpackedTo (reverse lines) (b ∷ behind) bytes = record {
          fine = is.good.fine;
          parts = parts ∙ ap (λ xs. xs ++ b ∷ behind) (is.whole ∙ ap pack (sym (reverse-reverse lines)));
        } in
        IsRefusedPack 6 (length (reverse lines) + 1) (inl (ShowsRecord (reverse lines) (b ∷ behind) 6 (length (reverse lines) + 1) r (BreaksEnd is.good.ended (omega arith)) refl))
    by_front (IsRefusedPack kind number (inl shown)) = IsRefusedPack kind number (inl (subst (λ bs. ShowsPackFault bs kind number) (sym parts) (stays front (b ∷ behind) kind number shown)))
    by_front (IsRefusedPack kind number (inr lacks)) = lacking number lacks.1

-- bytes up to the first number that is none
record HasNoByte (bytes : List ℕ) : Type 0 where
  pub front : List ℕ
  pub number : ℕ
  pub behind : List ℕ
  pub small : AreSmall front
  pub great : 256 ≤ number
  pub parts : bytes ≡ front ++ number ∷ behind

first_great : (bytes : List ℕ) → AreSmall bytes ⊎ HasNoByte bytes
first_great [] = inl tt
first_great (x ∷ bytes) =
    elim (cases_lt x 256) [
      | inl lt ↦ elim (first_great bytes) [
        | inl small ↦ inl (lt, small)
        | inr has ↦ inr (record { front = x ∷ has.front; number = has.number; behind = has.behind; small = (lt, has.small); great = has.great; parts = ap (λ bs. x ∷ bs) has.parts })
      ]
      | inr le ↦ inr (record { front = []; number = x; behind = bytes; small = tt; great = le; parts = refl })
    ]

-- so each list has an answer where lists of bytes do, and a fault that is shown stays
pub every_pack : ((bytes : List ℕ) → AreBytes bytes → HasPackAnswer bytes) → ((first more : List ℕ) (kind number : ℕ) → ShowsPackFault first kind number → ShowsPackFault (first ++ more) kind number) → (bytes : List ℕ) → HasPackAnswer bytes
every_pack of_bytes stays bytes =
    elim (first_great bytes) [
      | inl small ↦ of_bytes bytes (bytes_small bytes small)
      | inr has ↦ by_front bytes has.front has.behind has.number has.great has.parts stays (of_bytes has.front (bytes_small has.front has.small))
    ]
