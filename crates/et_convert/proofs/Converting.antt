-- The same lines with another version in their header keep the rules, and the bytes of the one spelling give those of the other.
use Rattle.std.proofs.Common.{◌≡◌, ℕ, suc, ◌+◌, ◌-◌, ◌<◌, ◌≤◌, ◌^◌, ◌/◌, ◌%◌, Bool, true, false, List, [], ◌∷◌, ◌++◌, length, map, Some, None, refl, sym, ap, subst, ◌∙◌, arith, length-append}
use Rattle.std.specs.Prelude.{reverse, All, slice_get, if◌then◌else◌}
use Rattle.std.specs.List.{AllByRecursion, flat_map}
use Rattle.std.specs.Fmt.{digit_glyph}
use Rattle.std.proofs.lemmas.List.Folds.{flat_map-map}
use Rattle.std.proofs.lemmas.List.{reverse-append, reverse-reverse, map-append}
use Rattle.std.proofs.lemmas.List.Elements.{All-from_recursion}
use Rattle.et_text.proofs.Versions.{begun_where_ended, begins}
use Rattle.et_base.specs.declared.format.Format.{Format}
use Rattle.et_base.specs.declared.format.Format.TheVariants as formats
use Rattle.et_base.specs.declared.line.TraceLine.{TraceLine}
use Rattle.et_base.specs.declared.line.TraceLine.TheVariants.{Header, Class, Method, Alloc, Update, Enter, Exit, Unwind, Flush, Death, Finish}
use Rattle.et_text.specs.Ranges.{IsInRange, HasShortNames, header_version}
use Rattle.et_text.specs.Rules.{has_begun, has_ended, version_of, interval, classes, methods, births, latest, newest_flush, awaited, last_dead, standing_flush, is_reported, has_class, has_method, keeps_order, is_known, keeps_lives, is_new, next_fault, AreFine, IsGood, IsGoodTrace}
use Rattle.et_text.specs.Spelling.{text, spelling, escape, escapes, number_field, text_field, is_escaped, line_body}
use Rattle.et_text.specs.Text.{IsTextOf}
use Rattle.et_binary.specs.Packing.{pack, written_record}
use Rattle.et_binary.specs.Packs.{IsPackOf}
use Rattle.et_binary.specs.Formats.{written_in, trace_bytes}
use Rattle.et_convert.specs.Spellings.{format_in, SpellsIn, SpellsTrace}
use Rattle.et_convert.specs.Conversions.{version_format, format_said, other_format, line_of_version, converted_line, converted_lines, converted_bytes}

module _ (v : ℕ) where
  -- the lines so far, with this version in their header
  abbrev turned : List TraceLine → List TraceLine
  turned past = map (line_of_version v) past

  -- NO RULE SPEAKS OF THE VERSION

  begun_same : (past : List TraceLine) → has_begun (turned past) ≡ has_begun past
  begun_same [] = refl
  begun_same (line ∷ past) = refl

  ended_same : (past : List TraceLine) → has_ended (turned past) ≡ has_ended past
  ended_same [] = refl
  ended_same (Header w n ∷ past) = refl
  ended_same (_ ∷ past) = refl

  interval_same : (past : List TraceLine) → interval (turned past) ≡ interval past
  interval_same [] = refl
  interval_same (Header w n ∷ past) = refl
  interval_same (_ ∷ past) = interval_same past

  classes_same : (past : List TraceLine) → classes (turned past) ≡ classes past
  classes_same [] = refl
  classes_same (Class number name ∷ past) = ap (λ k. k + 1) (classes_same past)
  classes_same (_ ∷ past) = classes_same past

  methods_same : (past : List TraceLine) → methods (turned past) ≡ methods past
  methods_same [] = refl
  methods_same (Method number class name descriptor ∷ past) = ap (λ k. k + 1) (methods_same past)
  methods_same (_ ∷ past) = methods_same past

  births_same : (past : List TraceLine) → births (turned past) ≡ births past
  births_same [] = refl
  births_same (Alloc event thread object class size len ∷ past) = ap (λ es. es ++ event ∷ []) (births_same past)
  births_same (_ ∷ past) = births_same past

  latest_same : (past : List TraceLine) → latest (turned past) ≡ latest past
  latest_same [] = refl
  latest_same (Alloc event thread object class size len ∷ past) = refl
  latest_same (Update event thread object slot old new ∷ past) = refl
  latest_same (Enter event thread method receiver ∷ past) = refl
  latest_same (Exit event thread method ∷ past) = refl
  latest_same (Unwind event thread method exception ∷ past) = refl
  latest_same (Flush event deaths ∷ past) = refl
  latest_same (_ ∷ past) = latest_same past

  newest_same : (past : List TraceLine) → newest_flush (turned past) ≡ newest_flush past
  newest_same [] = refl
  newest_same (Flush event deaths ∷ past) = refl
  newest_same (_ ∷ past) = newest_same past

  awaited_same : (past : List TraceLine) → awaited (turned past) ≡ awaited past
  awaited_same [] = refl
  awaited_same (Death object time ∷ past) = ap (λ k. k - 1) (awaited_same past)
  awaited_same (_ ∷ past) = refl

  last_dead_same : (past : List TraceLine) → last_dead (turned past) ≡ last_dead past
  last_dead_same [] = refl
  last_dead_same (Death object time ∷ past) = refl
  last_dead_same (_ ∷ past) = refl

  standing_same : (past : List TraceLine) → standing_flush (turned past) ≡ standing_flush past
  standing_same [] = refl
  standing_same (Death object time ∷ past) = standing_same past
  standing_same (_ ∷ past) = refl

  reported_same : (past : List TraceLine) (object : ℕ) → is_reported (turned past) object ≡ is_reported past object
  reported_same [] object = refl
  reported_same (Death other time ∷ past) object = rw (reported_same past object) refl
  reported_same (_ ∷ past) object = reported_same past object

  class_same : (past : List TraceLine) (name : List ℕ) → has_class (turned past) name ≡ has_class past name
  class_same [] name = refl
  class_same (Class number other ∷ past) name = rw (class_same past name) refl
  class_same (_ ∷ past) name = class_same past name

  method_same : (past : List TraceLine) (class : ℕ) (name descriptor : List ℕ) → has_method (turned past) class name descriptor ≡ has_method past class name descriptor
  method_same [] class name descriptor = refl
  method_same (Method number c n d ∷ past) class name descriptor = rw (method_same past class name descriptor) refl
  method_same (_ ∷ past) class name descriptor = method_same past class name descriptor

  order_same : (past : List TraceLine) (line : TraceLine) → keeps_order (turned past) (line_of_version v line) ≡ keeps_order past line
  order_same past (Header w n) = simp (begun_same past)
  order_same past (Class number name) = simp (begun_same past, awaited_same past, interval_same past, newest_same past, classes_same past)
  order_same past (Method number class name descriptor) = simp (begun_same past, awaited_same past, interval_same past, newest_same past, methods_same past)
  order_same past (Alloc event thread object class size len) = simp (begun_same past, awaited_same past, interval_same past, newest_same past, latest_same past, births_same past)
  order_same past (Update event thread object slot old new) = simp (begun_same past, awaited_same past, interval_same past, newest_same past, latest_same past)
  order_same past (Enter event thread method receiver) = simp (begun_same past, awaited_same past, interval_same past, newest_same past, latest_same past)
  order_same past (Exit event thread method) = simp (begun_same past, awaited_same past, interval_same past, newest_same past, latest_same past)
  order_same past (Unwind event thread method exception) = simp (begun_same past, awaited_same past, interval_same past, newest_same past, latest_same past)
  order_same past (Flush event deaths) = simp (begun_same past, awaited_same past, interval_same past, newest_same past, latest_same past)
  order_same past (Death object time) = simp (awaited_same past, last_dead_same past, newest_same past)
  order_same past (Finish event how) = simp (awaited_same past, standing_same past)

  known_same : (past : List TraceLine) (line : TraceLine) → is_known (turned past) (line_of_version v line) ≡ is_known past line
  known_same past (Header w n) = refl
  known_same past (Class number name) = refl
  known_same past (Method number class name descriptor) = simp (classes_same past)
  known_same past (Alloc event thread object class size len) = simp (classes_same past)
  known_same past (Update event thread object slot old new) = simp (births_same past)
  known_same past (Enter event thread method receiver) = simp (methods_same past, births_same past)
  known_same past (Exit event thread method) = simp (methods_same past)
  known_same past (Unwind event thread method exception) = simp (methods_same past, births_same past)
  known_same past (Flush event deaths) = refl
  known_same past (Death object time) = simp (births_same past)
  known_same past (Finish event how) = refl

  lives_same : (past : List TraceLine) (line : TraceLine) → keeps_lives (turned past) (line_of_version v line) ≡ keeps_lives past line
  lives_same past (Update event thread object slot old new) = simp (reported_same past object, reported_same past old, reported_same past new)
  lives_same past (Enter event thread method receiver) = simp (reported_same past receiver)
  lives_same past (Unwind event thread method exception) = simp (reported_same past exception)
  lives_same past (Death object time) = simp (births_same past)
  lives_same past _ = refl

  new_same : (past : List TraceLine) (line : TraceLine) → is_new (turned past) (line_of_version v line) ≡ is_new past line
  new_same past (Class number name) = simp (class_same past name)
  new_same past (Method number class name descriptor) = simp (method_same past class name descriptor)
  new_same past (Death object time) = simp (reported_same past object)
  new_same past _ = refl

  fault_same : (past : List TraceLine) (line : TraceLine) → next_fault (turned past) (line_of_version v line) ≡ next_fault past line
  fault_same past line = rw (ended_same past, order_same past line, known_same past line, lives_same past line, new_same past line) refl

  range_turned : (w : ℕ) (line : TraceLine) → IsInRange w line → HasShortNames line → IsInRange v (line_of_version v line)
  range_turned w (Header u n) r s = (refl, r.1)
  range_turned w (Class number name) r s = (r.0, r.1, λ two. s)
  range_turned w (Method number class name descriptor) r s = (r.0, r.1, r.2, r.3, λ two. s.0, λ two. s.1)
  range_turned w _ r s = r

  fine_turned : (w : ℕ) (past : List TraceLine) → AreFine w past → AllByRecursion HasShortNames past → AreFine v (turned past)
  fine_turned w [] h s = tt
  fine_turned w (line ∷ past) h s = (fine_turned w past h.0 s.1, range_turned w line h.1 s.0, fault_same past line ∙ h.2)

  -- twice is the second alone
  line_twice : (w : ℕ) (line : TraceLine) → line_of_version v (line_of_version w line) ≡ line_of_version v line
  line_twice w (Header u n) = refl
  line_twice w _ = refl

  lines_twice : (w : ℕ) (lines : List TraceLine) → turned (map (line_of_version w) lines) ≡ turned lines
  lines_twice w [] = refl
  lines_twice w (line ∷ lines) = rw (line_twice w line, lines_twice w lines) refl

  line_own : (line : TraceLine) → IsInRange v line → line_of_version v line ≡ line
  line_own (Header u n) r = ap (λ x. Header x n) (sym r.0)
  line_own _ r = refl

  -- lines of this version are the same
  past_own : (past : List TraceLine) → AreFine v past → turned past ≡ past
  past_own [] h = refl
  past_own (line ∷ past) h = rw (line_own line h.1, past_own past h.0) refl

  reverse_turned : (lines : List TraceLine) → reverse (turned lines) ≡ turned (reverse lines)
  reverse_turned [] = refl
  reverse_turned (line ∷ lines) =
      reverse-append (line_of_version v line ∷ []) (turned lines)
      ∙ (ap (λ ls. ls ++ line_of_version v line ∷ []) (reverse_turned lines)
      ∙ (sym (map-append (line_of_version v) (reverse lines) (line ∷ [])) ∙ ap turned (sym (reverse-append (line ∷ []) lines))))

  lines_own : (lines : List TraceLine) → AreFine v (reverse lines) → turned lines ≡ lines
  lines_own lines h = sym (reverse-reverse (turned lines)) ∙ (ap reverse (reverse_turned lines ∙ past_own (reverse lines) h) ∙ reverse-reverse lines)

-- THE HEADER

-- the version that fine lines say is that of the trace
version_fine : (v : ℕ) (past : List TraceLine) → AreFine v past → has_begun past ≡ true → version_of past ≡ v
version_fine v [] h b = absurd cc
version_fine v (Header w n ∷ past) h b = h.1.0
version_fine v (line ∷ []) h b =
    let first = begins line h.2 in
    let range : IsInRange v (Header first.0 first.1) = subst (IsInRange v) first.2 h.1 in
    subst (λ l. version_of (l ∷ []) ≡ v) (sym first.2) range.0
version_fine v (_ ∷ line ∷ past) h b = version_fine v (line ∷ past) h.0 refl

-- .. and the header is the first line
first_fine : (v : ℕ) (past : List TraceLine) → AreFine v past → has_begun past ≡ true → (n : ℕ) × (rest : List TraceLine) × (reverse past ≡ Header v n ∷ rest)
first_fine v [] h b = absurd cc
first_fine v (line ∷ []) h b =
    let first = begins line h.2 in
    let range : IsInRange v (Header first.0 first.1) = subst (IsInRange v) first.2 h.1 in
    (first.1, [], ap (λ l. l ∷ []) (first.2 ∙ ap (λ x. Header x first.1) range.0))
first_fine v (line ∷ before ∷ past) h b =
    let first = first_fine v (before ∷ past) h.0 refl in
    (first.0, first.1 ++ line ∷ [], reverse-append (line ∷ []) (before ∷ past) ∙ ap (λ ls. ls ++ line ∷ []) first.2)

pub version_good : (v : ℕ) (lines : List TraceLine) → IsGood v lines → version_of (reverse lines) ≡ v
version_good v lines g = version_fine v (reverse lines) g.fine (begun_where_ended (reverse lines) g.ended)

pub first_good : (v : ℕ) (lines : List TraceLine) → IsGood v lines → (n : ℕ) × (rest : List TraceLine) × (lines ≡ Header v n ∷ rest)
first_good v lines g =
    let first = first_fine v (reverse lines) g.fine (begun_where_ended (reverse lines) g.ended) in
    (first.0, first.1, sym (reverse-reverse lines) ∙ first.2)

-- the version of lines that were turned
version_turned : (v w : ℕ) (past : List TraceLine) → AreFine w past → has_begun past ≡ true → version_of (turned v past) ≡ v
version_turned v w [] h b = absurd cc
version_turned v w (Header u n ∷ past) h b = refl
version_turned v w (line ∷ []) h b = let first = begins line h.2 in subst (λ l. version_of (turned v (l ∷ [])) ≡ v) (sym first.2) refl
version_turned v w (_ ∷ line ∷ past) h b = version_turned v w (line ∷ past) h.0 refl

-- NAMES ARE SHORT

each : {X : Type 0} (P : X → Type 0) (xs : List X) → All P xs → AllByRecursion P xs
each P [] h = tt
each P (x ∷ xs) h = (h 0 x (omega arith), each P xs (λ k d lt. h (suc k) d (omega arith)))

each_append : {X : Type 0} (P : X → Type 0) (xs ys : List X) → AllByRecursion P xs → AllByRecursion P ys → AllByRecursion P (xs ++ ys)
each_append P [] ys h k = k
each_append P (x ∷ xs) ys h k = (h.0, each_append P xs ys h.1 k)

each_reverse : {X : Type 0} (P : X → Type 0) (xs : List X) → AllByRecursion P xs → AllByRecursion P (reverse xs)
each_reverse P [] h = tt
each_reverse P (x ∷ xs) h = subst (AllByRecursion P) (sym (reverse-append (x ∷ []) xs)) (each_append P (reverse xs) (x ∷ []) (each_reverse P xs h.1) (h.0, tt))

short_for_two : (line : TraceLine) → IsInRange 2 line → HasShortNames line
short_for_two (Class number name) r = r.2 refl
short_for_two (Method number class name descriptor) r = (r.4 refl, r.5 refl)
short_for_two (Header v n) r = tt
short_for_two _ r = tt

short_fine : (past : List TraceLine) → AreFine 2 past → AllByRecursion HasShortNames past
short_fine [] h = tt
short_fine (line ∷ past) h = (short_for_two line h.1, short_fine past h.0)

escape_some : (t : Bool) (x y z b : ℕ) → 1 ≤ length (if t then x ∷ y ∷ z ∷ [] else b ∷ [])
escape_some true x y z b = omega arith
escape_some false x y z b = omega arith

-- a name is no longer than its escapes
escapes_long : (name : List ℕ) → length name ≤ length (escapes name)
escapes_long [] = omega arith
escapes_long (b ∷ name) = omega (arith, length-append (escape b) (escapes name), escape_some (is_escaped b) 37 (digit_glyph true (b / 16)) (digit_glyph true (b % 16)) b, escapes_long name)

line_long : (line : TraceLine) → length (line_body line) ≤ length (spelling line)
line_long line = omega (arith, length-append (line_body line) (10 ∷ []))

short_spelled : (line : TraceLine) → length (spelling line) < 2 ^ 32 → HasShortNames line
short_spelled (Class number name) h =
    omega (arith, line_long (Class number name), length-append (number_field number) (text_field name ++ []), length-append (escapes name) [], escapes_long name)
short_spelled (Method number class name descriptor) h =
    let body = line_long (Method number class name descriptor) in
    let first = length-append (number_field number) (number_field class ++ (text_field name ++ (text_field descriptor ++ []))) in
    let second = length-append (number_field class) (text_field name ++ (text_field descriptor ++ [])) in
    let third = length-append (escapes name) (text_field descriptor ++ []) in
    let fourth = length-append (escapes descriptor) [] in
    (omega (arith, body, first, second, third, fourth, escapes_long name), omega (arith, body, first, second, third, fourth, escapes_long descriptor))
short_spelled (Header v n) h = tt
short_spelled _ h = tt

short_text : (lines : List TraceLine) → length (text lines) < 2 ^ 32 → AllByRecursion HasShortNames lines
short_text [] h = tt
short_text (line ∷ lines) h =
    let parts = length-append (spelling line) (text lines) in
    (short_spelled line (omega (arith, parts, h)), short_text lines (omega (arith, parts, h)))

-- BYTES AND THEIR SPELLING

good_turned : (v w : ℕ) (lines : List TraceLine) → IsGood w lines → AllByRecursion HasShortNames lines → IsGood v (turned v lines)
good_turned v w lines g s = record {
  fine = subst (AreFine v) (sym (reverse_turned v lines)) (fine_turned v w (reverse lines) g.fine (each_reverse HasShortNames lines s));
  ended = ap has_ended (reverse_turned v lines) ∙ (ended_same v (reverse lines) ∙ g.ended);
}

-- a text begins with the letter of its header
text_first : (lines : List TraceLine) → IsGood 1 lines → format_in (text lines) ≡ formats.Text
text_first lines g = let first = first_good 1 lines g in ap (λ ls. format_in (text ls)) first.2

text_spells : (lines : List TraceLine) (bytes : List ℕ) → IsTextOf lines bytes → SpellsTrace lines bytes
text_spells lines bytes t = subst (λ f. SpellsIn f lines bytes) (sym (ap format_in t.whole ∙ text_first lines t.good)) t

pack_first : (lines : List TraceLine) → format_in (pack lines) ≡ formats.Binary
pack_first lines = refl

pack_spells : (lines : List TraceLine) (bytes : List ℕ) → IsPackOf lines bytes → SpellsTrace lines bytes
pack_spells lines bytes p = subst (λ f. SpellsIn f lines bytes) (sym (ap format_in p.whole ∙ pack_first lines)) p

-- the lines are good in a format, in which the bytes spell them
record HasFormat (lines : List TraceLine) (bytes : List ℕ) : Type 0 where
  pub format : Format
  pub good : IsGood (header_version format) lines
  pub bytes_are : bytes ≡ trace_bytes format lines

spelled_in : (format : Format) (lines : List TraceLine) (bytes : List ℕ) → SpellsIn format lines bytes → HasFormat lines bytes
spelled_in formats.Text lines bytes t = record { format = formats.Text; good = t.good; bytes_are = t.whole }
spelled_in formats.Binary lines bytes p = record { format = formats.Binary; good = p.good; bytes_are = p.whole }

of_format : (format : Format) (lines : List TraceLine) → IsGood (header_version format) lines → SpellsTrace lines (trace_bytes format lines)
of_format formats.Text lines g = text_spells lines (text lines) (record { good = g; whole = refl })
of_format formats.Binary lines g = pack_spells lines (pack lines) (record { good = g; whole = refl })

format_back : (format : Format) → version_format (header_version format) ≡ format
format_back formats.Text = refl
format_back formats.Binary = refl

other_twice : (format : Format) → other_format (other_format format) ≡ format
other_twice formats.Text = refl
other_twice formats.Binary = refl

-- the lines in a format
abbrev lines_in : Format → List TraceLine → List TraceLine
lines_in format lines = turned (header_version format) lines

module _ (lines : List TraceLine) (bytes : List ℕ) (has : HasFormat lines bytes) where
  abbrev other : Format
  other = other_format has.format

  says : format_said lines ≡ has.format
  says = ap version_format (version_good (header_version has.format) lines has.good) ∙ format_back has.format

  converted_is : converted_lines lines ≡ lines_in other lines
  converted_is = ap (λ f. lines_in (other_format f) lines) says

  said_turned : format_said (lines_in other lines) ≡ other
  said_turned =
      ap (λ past. version_format (version_of past)) (reverse_turned (header_version other) lines)
      ∙ (ap version_format (version_turned (header_version other) (header_version has.format) (reverse lines) has.good.fine (begun_where_ended (reverse lines) has.good.ended)) ∙ format_back other)

  says_again : other_format (format_said (converted_lines lines)) ≡ has.format
  says_again = ap other_format (ap format_said converted_is ∙ said_turned) ∙ other_twice has.format

  -- the lines in the other format are a trace
  spells_other : AllByRecursion HasShortNames lines → SpellsTrace (converted_lines lines) (converted_bytes lines)
  spells_other s =
      subst (λ f. SpellsTrace (lines_in (other_format f) lines) (trace_bytes (other_format f) (lines_in (other_format f) lines))) (sym says)
      (of_format other (lines_in other lines) (good_turned (header_version other) (header_version has.format) lines has.good s))

  -- .. and in the other format of that they are the first lines
  lines_again : converted_lines (converted_lines lines) ≡ lines
  lines_again =
      ap (λ f. lines_in f (converted_lines lines)) says_again
      ∙ (ap (lines_in has.format) converted_is
      ∙ (lines_twice (header_version has.format) (header_version other) lines ∙ lines_own (header_version has.format) lines has.good.fine))

  bytes_again : converted_bytes (converted_lines lines) ≡ bytes
  bytes_again = ap (λ f. trace_bytes f (converted_lines (converted_lines lines))) says_again ∙ (ap (trace_bytes has.format) lines_again ∙ sym has.bytes_are)

short_in : (format : Format) (lines : List TraceLine) (bytes : List ℕ) → SpellsIn format lines bytes → length bytes < 2 ^ 32 → AllByRecursion HasShortNames lines
short_in formats.Text lines bytes t h = short_text lines (subst (λ bs. length bs < 2 ^ 32) t.whole h)
short_in formats.Binary lines bytes p h = subst (AllByRecursion HasShortNames) (reverse-reverse lines) (each_reverse HasShortNames (reverse lines) (short_fine (reverse lines) p.good.fine))

-- WHAT A TRACE IS CONVERTED TO

pub conversion_spells : (lines : List TraceLine) (bytes : List ℕ) → SpellsTrace lines bytes → All HasShortNames lines → SpellsTrace (converted_lines lines) (converted_bytes lines)
conversion_spells lines bytes s short = spells_other lines bytes (spelled_in (format_in bytes) lines bytes s) (each HasShortNames lines short)

pub conversion_again : (lines : List TraceLine) (bytes : List ℕ) → SpellsTrace lines bytes → (converted_lines (converted_lines lines) ≡ lines) × (converted_bytes (converted_lines lines) ≡ bytes)
conversion_again lines bytes s =
    let has = spelled_in (format_in bytes) lines bytes s in
    (lines_again lines bytes has, bytes_again lines bytes has)

pub short_names : (lines : List TraceLine) (bytes : List ℕ) → SpellsTrace lines bytes → length bytes < 2 ^ 32 → All HasShortNames lines
short_names lines bytes s h = All-from_recursion HasShortNames lines (short_in (format_in bytes) lines bytes s h)

-- WHAT THE CODE PUTS TOGETHER

-- what is written of the lines of a good list in a format, one after the other, is its trace
written_is : ((lines : List TraceLine) → IsGood 2 lines → flat_map written_record lines ≡ pack lines) → (format : Format) (lines : List TraceLine) → IsGood (header_version format) lines → flat_map (written_in format) lines ≡ trace_bytes format lines
written_is packs formats.Text lines g = refl
written_is packs formats.Binary lines g = packs lines g

converts_to : ((lines : List TraceLine) → IsGood 2 lines → flat_map written_record lines ≡ pack lines) → (format : Format) (lines : List TraceLine) → IsGoodTrace lines → All HasShortNames lines
    → flat_map (converted_line format) lines ≡ trace_bytes format (lines_in format lines)
converts_to packs format lines g short =
    sym (flat_map-map (written_in format) (line_of_version (header_version format)) lines)
    ∙ written_is packs format (lines_in format lines) (good_turned (header_version format) g.version lines g.good (each HasShortNames lines short))

pub bytes_convert : ((lines : List TraceLine) → IsGood 2 lines → flat_map written_record lines ≡ pack lines) → (format : Format) (lines : List TraceLine) → IsGoodTrace lines → All HasShortNames lines → format ≡ other_format (format_said lines)
    → flat_map (converted_line format) lines ≡ converted_bytes lines
bytes_convert packs format lines g short other = converts_to packs format lines g short ∙ ap (λ f. trace_bytes f (lines_in f lines)) other

-- the first line of a trace is its header
pub header_first : (lines : List TraceLine) → IsGoodTrace lines → (n : ℕ) × (rest : List TraceLine) × (lines ≡ Header (version_of (reverse lines)) n ∷ rest)
header_first lines g =
    let first = first_good g.version lines g.good in
    (first.0, first.1, first.2 ∙ ap (λ v. Header v first.0 ∷ first.1) (sym (version_good g.version lines g.good)))

pub first_says : (lines : List TraceLine) (line : TraceLine) → IsGoodTrace lines → Some line ≡ slice_get lines 0 → version_of (line ∷ []) ≡ version_of (reverse lines)
first_says lines line g is =
    let first = header_first lines g in
    let same : Some line ≡ Some (Header (version_of (reverse lines)) first.0) = is ∙ ap (λ ls. slice_get ls 0) first.2 in
    let header : line ≡ Header (version_of (reverse lines)) first.0 = cc in
    ap (λ l. version_of (l ∷ [])) header

pub some_first : (lines : List TraceLine) → IsGoodTrace lines → None ≡ slice_get lines 0 → ⊥
some_first lines g is =
    let first = header_first lines g in
    let same : None ≡ Some (Header (version_of (reverse lines)) first.0) = is ∙ ap (λ ls. slice_get ls 0) first.2 in
    absurd cc
