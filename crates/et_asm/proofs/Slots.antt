-- What stands at the indices of a pool.
use Rattle.std.proofs.Common.{◌≡◌, ℕ, zero, suc, ◌+◌, ◌<◌, Bool, true, false, not, cond, ◌&&◌, ◌||◌, List, [], ◌∷◌, ◌++◌, length, get_or, take, map, Option, Some, None, refl, sym, ap, ◌∙◌, arith, inl, inr, true≢false, append-nil, length-append}
use Rattle.std.specs.Prelude.{sum_by, position}
use Rattle.std.specs.List.{flat_map, list_any, position_or_len}
use Rattle.std.specs.Option.{option_map_or}
use Rattle.std.specs.Cmp.Lexicographic.{same_text}
use Rattle.std.proofs.lemmas.Bool.{cases_Bool, lt-ltb}
use Rattle.std.proofs.lemmas.Bool.Decides.{Decides-int_eq}
use Rattle.std.proofs.lemmas.List.{get_or-append-add}
use Rattle.std.proofs.lemmas.List.Sums.{sum_by-cons}
use Rattle.std.proofs.lemmas.Grind.{flat_map-append}
use Rattle.et_base.proofs.Tests.{and_first, and_second}
use Rattle.et_pool.specs.Entries.{Item, slots_of_item}
use Rattle.et_pool.specs.Looks.{slot_bytes, slot_at, named_by, text_of_slot}
use Rattle.et_pool.specs.declared.tags.TheConstants.{CLASS, STRING}
use Rattle.et_listing.specs.declared.entry.Entry.{Entry}
use Rattle.et_listing.specs.declared.entry.Entry.TheVariants.{Utf8, Integer, Long, Class, Text, NameAndType, Field, Method, InterfaceMethod}
use Rattle.et_listing.specs.declared.line.Parsed.{Parsed}
use Rattle.et_listing.specs.Words.{same_word}
use Rattle.et_asm.specs.Pool.{same_entry, parts, uses, pool, width, index_behind, entry_index, entry_bytes}
use Rattle.et_class.specs.Layout.{u2}
use Rattle.et_asm.specs.Spelled.{pool_item_of, entry_slots, PoolsAreSpelled, PoolsFind}
use Rattle.et_asm.proofs.Sets.{sets}

-- BYTES AND WIDTHS

of_entry : (entries : List Entry) (e : Entry) → flat_map slot_bytes (slots_of_item (pool_item_of entries e)) ≡ entry_bytes entries e
unfolding entry_bytes
of_entry entries (Utf8 text) = append-nil _
of_entry entries (Integer value) = refl
of_entry entries (Long value) = refl
of_entry entries (Class name) = refl
of_entry entries (Text text) = refl
of_entry entries (NameAndType name descriptor) = refl
of_entry entries (Field class name descriptor) = refl
of_entry entries (Method class name descriptor) = refl
of_entry entries (InterfaceMethod class name descriptor) = refl

room : (entries : List Entry) (e : Entry) → length (slots_of_item (pool_item_of entries e)) ≡ width e
room entries (Utf8 text) = refl
room entries (Integer value) = refl
room entries (Long value) = refl
room entries (Class name) = refl
room entries (Text text) = refl
room entries (NameAndType name descriptor) = refl
room entries (Field class name descriptor) = refl
room entries (Method class name descriptor) = refl
room entries (InterfaceMethod class name descriptor) = refl

front : (entries : List Entry) (e : Entry) (rest : List (Option Item)) → get_or (slots_of_item (pool_item_of entries e) ++ rest) 0 None ≡ Some (pool_item_of entries e)
front entries (Utf8 text) rest = refl
front entries (Integer value) rest = refl
front entries (Long value) rest = refl
front entries (Class name) rest = refl
front entries (Text text) rest = refl
front entries (NameAndType name descriptor) rest = refl
front entries (Field class name descriptor) rest = refl
front entries (Method class name descriptor) rest = refl
front entries (InterfaceMethod class name descriptor) rest = refl

-- the slots of entries, but for the one at index 0
abbrev rest_of : List Entry → List Entry → List (Option Item)
rest_of entries xs = flat_map slots_of_item (map (pool_item_of entries) xs)

rest_bytes : (entries xs : List Entry) → flat_map slot_bytes (rest_of entries xs) ≡ flat_map (entry_bytes entries) xs
rest_bytes entries [] = refl
rest_bytes entries (x ∷ xs) =
    flat_map-append slot_bytes (slots_of_item (pool_item_of entries x)) (rest_of entries xs)
    ∙ (ap (λ bs. bs ++ flat_map slot_bytes (rest_of entries xs)) (of_entry entries x) ∙ ap (λ bs. entry_bytes entries x ++ bs) (rest_bytes entries xs))

rest_length : (entries xs : List Entry) → length (rest_of entries xs) ≡ sum_by width xs
rest_length entries [] = refl
rest_length entries (x ∷ xs) = omega (arith, length-append (slots_of_item (pool_item_of entries x)) (rest_of entries xs), room entries x, rest_length entries xs, sum_by-cons width x xs)

rest_at : (entries xs : List Entry) (i : ℕ) (d : Entry) → i < length xs → get_or (rest_of entries xs) (sum_by width (take i xs)) None ≡ Some (pool_item_of entries (get_or xs i d))
rest_at entries [] i d lt = absurd (omega arith)
rest_at entries (x ∷ xs) zero d lt = front entries x (rest_of entries xs)
rest_at entries (x ∷ xs) (suc i) d lt =
    ap (λ n. get_or (rest_of entries (x ∷ xs)) n None) (sum_by-cons width x (take i xs) ∙ ap (λ n. n + sum_by width (take i xs)) (sym (room entries x)))
    ∙ (get_or-append-add (slots_of_item (pool_item_of entries x)) (rest_of entries xs) (sum_by width (take i xs)) None ∙ rest_at entries xs i d (omega arith))

pub slots_length : (entries : List Entry) → length (entry_slots entries) ≡ index_behind entries
unfolding entry_slots
slots_length entries = omega (arith, rest_length entries entries)

pub spelled : PoolsAreSpelled
unfolding entry_slots
spelled lines =
    let entries = pool lines in
    ap (λ n. u2 n ++ flat_map (entry_bytes entries) entries) (sym (slots_length entries)) ∙ ap (λ bs. u2 (length (entry_slots entries)) ++ bs) (sym (rest_bytes entries entries))

-- LOOK-UPS

pub one_text : (a b : List ℕ) → same_word a b ≡ true → a ≡ b
one_text a b h = same_text a b (sym h)

one_pair : (a b c d : List ℕ) → (same_word a c && same_word b d) ≡ true → (a ≡ c) × (b ≡ d)
one_pair a b c d h = (one_text a c (and_first (same_word a c) (same_word b d) h), one_text b d (and_second (same_word a c) (same_word b d) h))

one_member : (make : List ℕ → List ℕ → List ℕ → Entry) (a b c d e f : List ℕ) → (same_word a d && (same_word b e && same_word c f)) ≡ true → make a b c ≡ make d e f
one_member make a b c d e f h =
    let first = one_text a d (and_first (same_word a d) (same_word b e && same_word c f) h) in
    let others = one_pair b c e f (and_second (same_word a d) (same_word b e && same_word c f) h) in
    ap (λ x. make x b c) first ∙ (ap (λ x. make d x c) others.0 ∙ ap (make d e) others.1)

-- entries that are the same are one
pub one_entry : (x y : Entry) → same_entry x y ≡ true → x ≡ y
one_entry (Utf8 a) (Utf8 b) h = ap Utf8 (one_text a b h)
one_entry (Integer a) (Integer b) h = ap Integer ((Decides-int_eq a b).0 h)
one_entry (Long a) (Long b) h = ap Long ((Decides-int_eq a b).0 h)
one_entry (Class a) (Class b) h = ap Class (one_text a b h)
one_entry (Text a) (Text b) h = ap Text (one_text a b h)
one_entry (NameAndType a b) (NameAndType c d) h =
    let both = one_pair a b c d h in
    ap (λ x. NameAndType x b) both.0 ∙ ap (NameAndType c) both.1
one_entry (Field a b c) (Field d e f) h = one_member Field a b c d e f h
one_entry (Method a b c) (Method d e f) h = one_member Method a b c d e f h
one_entry (InterfaceMethod a b c) (InterfaceMethod d e f) h = one_member InterfaceMethod a b c d e f h
one_entry x y h = absurd (true≢false (sym h))

one_more : (n : ℕ) → 1 + n ≡ suc n
one_more n = omega arith

-- where one passes, the first that passes is there
first_at : (p : Entry → Bool) (xs : List Entry) → list_any p xs ≡ true → (position_or_len p xs < length xs) × ((d : Entry) → p (get_or xs (position_or_len p xs) d) ≡ true)
first_at p [] h = absurd (true≢false (sym h))
first_at p (x ∷ xs) h = elim (cases_Bool (p x)) [
  | inl here ↦
      let zero_is : position_or_len p (x ∷ xs) ≡ 0 = ap (λ b. cond (not b) (1 + position_or_len p xs) 0) here in
      (omega (arith, zero_is), λ d. ap (λ n. p (get_or (x ∷ xs) n d)) zero_is ∙ here)
  | inr away ↦
      let next_is : position_or_len p (x ∷ xs) ≡ suc (position_or_len p xs) = ap (λ b. cond (not b) (1 + position_or_len p xs) 0) away ∙ one_more (position_or_len p xs) in
      let rest : list_any p xs ≡ true = sym (ap (λ b. b || list_any p xs) away) ∙ h in
      let more = first_at p xs rest in
      (omega (arith, next_is, more.0), λ d. ap (λ n. p (get_or (x ∷ xs) n d)) next_is ∙ more.1 d)
]

at_first : (p : Entry → Bool) (xs : List Entry) → position_or_len p xs < length xs → position p xs ≡ Some (position_or_len p xs)
at_first p xs lt = ap (λ b. cond b (Some (position_or_len p xs)) None) (lt-ltb (position_or_len p xs) (length xs) lt)

item_at : (entries : List Entry) (e : Entry) → list_any (same_entry e) entries ≡ true → slot_at (entry_slots entries) (entry_index entries e) ≡ Some (pool_item_of entries e)
unfolding entry_slots entry_index
item_at entries e h =
    let found = first_at (same_entry e) entries h in
    let n = position_or_len (same_entry e) entries in
    let index : option_map_or (λ i. index_behind (take i entries)) (position (same_entry e) entries) 0 ≡ 1 + sum_by width (take n entries) =
    ap (λ o. option_map_or (λ i. index_behind (take i entries)) o 0) (at_first (same_entry e) entries found.0) in
    let same_one : get_or entries n e ≡ e = sym (one_entry e (get_or entries n e) (found.1 e)) in
    ap (λ i. get_or (None ∷ rest_of entries entries) i None) index
    ∙ (get_or-append-add (None ∷ []) (rest_of entries entries) (sum_by width (take n entries)) None
    ∙ (rest_at entries entries n e found.0 ∙ ap (λ x. Some (pool_item_of entries x)) same_one))

-- THE PARTS OF AN ENTRY STAND IN THE POOL

pub or_none : (b c : Bool) → (b || false) ≡ true → (b || c) ≡ true
or_none true c h = refl
or_none false c h = absurd (true≢false (sym h))

pub class_parts : (n : List ℕ) (e : Entry) → list_any (same_entry (Class n)) (parts e) ≡ true → list_any (same_entry (Utf8 n)) (parts e) ≡ true
class_parts n (Class name) h = or_none (same_word n name) _ h
class_parts n (Field class name descriptor) h = or_none (same_word n class) _ h
class_parts n (Method class name descriptor) h = or_none (same_word n class) _ h
class_parts n (InterfaceMethod class name descriptor) h = or_none (same_word n class) _ h
class_parts n e h = absurd (true≢false (sym h))

pub text_parts : (n : List ℕ) (e : Entry) → list_any (same_entry (Text n)) (parts e) ≡ true → list_any (same_entry (Utf8 n)) (parts e) ≡ true
text_parts n (Text text) h = or_none (same_word n text) _ h
text_parts n e h = absurd (true≢false (sym h))

pub any_append : (p : Entry → Bool) (xs ys : List Entry) → list_any p (xs ++ ys) ≡ (list_any p xs || list_any p ys)
any_append p [] ys = refl
any_append p (x ∷ xs) ys = ap (λ b. p x || b) (any_append p xs ys) ∙ or_assoc (p x) (list_any p xs) (list_any p ys)
  where
    or_assoc : (a b c : Bool) → (a || (b || c)) ≡ ((a || b) || c)
    or_assoc true b c = refl
    or_assoc false b c = refl

closed : (p q : Entry → Bool) → ((e : Entry) → list_any p (parts e) ≡ true → list_any q (parts e) ≡ true) → (used : List Entry) → list_any p (flat_map parts used) ≡ true → list_any q (flat_map parts used) ≡ true
closed p q step [] h = absurd (true≢false (sym h))
closed p q step (e ∷ used) h = elim (cases_Bool (list_any p (parts e))) [
  | inl here ↦ any_append q (parts e) (flat_map parts used) ∙ ap (λ b. b || list_any q (flat_map parts used)) (step e here)
  | inr away ↦
      let rest : list_any p (flat_map parts used) ≡ true = sym (ap (λ b. b || list_any p (flat_map parts used)) away) ∙ (sym (any_append p (parts e) (flat_map parts used)) ∙ h) in
      any_append q (parts e) (flat_map parts used) ∙ or_right (list_any q (parts e)) (list_any q (flat_map parts used)) (closed p q step used rest)
]
  where
    or_right : (b c : Bool) → c ≡ true → (b || c) ≡ true
    or_right true c h = refl
    or_right false c h = h

in_pool : (lines : List Parsed) (p q : Entry) → ((e : Entry) → list_any (same_entry p) (parts e) ≡ true → list_any (same_entry q) (parts e) ≡ true) → list_any (same_entry p) (pool lines) ≡ true → list_any (same_entry q) (pool lines) ≡ true
in_pool lines p q step h =
    let members = (sets lines).members in
    members q ∙ closed (same_entry p) (same_entry q) step (uses lines) (sym (members p) ∙ h)

pub finds : PoolsFind
finds lines =
    let entries = pool lines in
    let texts = λ (text : List ℕ) (h : list_any (same_entry (Utf8 text)) entries ≡ true). ap text_of_slot (item_at entries (Utf8 text) h) in
    record {
      items = item_at entries;
      texts = texts;
      classes = λ name h. ap (named_by (entry_slots entries) CLASS) (item_at entries (Class name) h) ∙ texts name (in_pool lines (Class name) (Utf8 name) (class_parts name) h);
      strings = λ text h. ap (named_by (entry_slots entries) STRING) (item_at entries (Text text) h) ∙ texts text (in_pool lines (Text text) (Utf8 text) (text_parts text) h);
    }
