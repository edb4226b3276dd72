-- The indices of a pool are in bounds where those of the entries that are used are.
use Rattle.std.proofs.Common.{◌≡◌, ℕ, ◌+◌, ◌≤◌, Option, Some, None, Bool, true, false, not, cond, ◌&&◌, ◌||◌, List, [], ◌∷◌, ◌++◌, length, get_or, take, drop, filter, refl, sym, ap, subst, ◌∙◌, ◌⊎◌, inl, inr, arith, true≢false, append_assoc, length-append}
use Rattle.std.specs.Prelude.{nat_le, sum_by, position}
use Rattle.std.specs.Option.{option_map_or}
use Rattle.std.specs.List.{flat_map, list_any, list_all}
use Rattle.std.proofs.Math.Seq.{get_or-append_seam}
use Rattle.std.proofs.lemmas.Bool.{cases_Bool, leb-true, or_right, or_cases, or_left}
use Rattle.std.proofs.lemmas.List.{take_at, take-append-drop}
use Rattle.std.proofs.lemmas.List.Folds.{list_all-append}
use Rattle.std.proofs.lemmas.List.Sums.{fold-append, sum_by-append}
use mathlib.Core.Bool.{or_assoc}
use Rattle.et_base.proofs.Tests.{and_first, and_second}
use Rattle.indexmap.specs.IndexSet.{insert_key, insert_all}
use Rattle.et_listing.specs.declared.entry.Entry.{Entry}
use Rattle.et_listing.specs.declared.entry.Entry.TheVariants.{Utf8, Integer, Long, Class, Text, NameAndType, Field, Method, InterfaceMethod}
use Rattle.et_listing.specs.declared.line.Parsed.{Parsed}
use Rattle.et_listing.specs.Words.{same_word}
use Rattle.et_listing.proofs.Sane.{is_number}
use Rattle.et_asm.specs.Pool.{same_entry, member_parts, parts, each_once, uses, pool, width, index_behind, entry_index}
use Rattle.et_asm.specs.Listings.{is_short_text, entry_fits}
use Rattle.et_asm.specs.Symbols.{entry_added}
use Rattle.et_asm.proofs.Once.{laws, lacks, gather, pool_once}
use Rattle.et_asm.proofs.Sets.{named}
use Rattle.et_asm.proofs.Slots.{one_entry, class_parts, text_parts, any_append}

-- an entry is one of these
abbrev pub Has : List Entry → Entry → Type 0
Has xs e = list_any (same_entry e) xs ≡ true

one_of : (q x : Entry) (rest : Bool) → (same_entry q x || rest) ≡ true → (q ≡ x) ⊎ (rest ≡ true)
one_of q x rest h = elim (cases_Bool (same_entry q x)) [
  | inl there ↦ inl (one_entry q x there)
  | inr away ↦ inr (sym (ap (λ b. b || rest) away) ∙ h)
]

only_one : (q x : Entry) → (same_entry q x || false) ≡ true → q ≡ x
only_one q x h = elim (one_of q x false h) [ inl e ↦ e | inr f ↦ absurd (true≢false (sym f)) ]

-- THE PARTS OF A PART ARE PARTS

same_self : (a : List ℕ) → same_word a a ≡ true
same_self a = laws.refl (Utf8 a)

name_among : (c d e : List ℕ) → (same_word d c || (same_word d d || (same_word d e || false))) ≡ true
name_among c d e = or_right (same_word d c) _ (ap (λ b. b || (same_word d e || false)) (same_self d))

type_among : (c d e : List ℕ) → (same_word e c || (same_word e d || (same_word e e || false))) ≡ true
type_among c d e = or_right (same_word e c) _ (or_right (same_word e d) _ (ap (λ b. b || false) (same_self e)))

names_are : (a b c d : List ℕ) → NameAndType a b ≡ NameAndType c d → a ≡ c
names_are a b c d e = cc

types_are : (a b c d : List ℕ) → NameAndType a b ≡ NameAndType c d → b ≡ d
types_are a b c d e = cc

name_parts : (a b : List ℕ) (e : Entry) → Has (parts e) (NameAndType a b) → Has (parts e) (Utf8 a)
name_parts a b (NameAndType c d) h = subst (λ (x : List ℕ). (same_word x c || (same_word x d || false)) ≡ true) (sym (names_are a b c d (only_one (NameAndType a b) (NameAndType c d) h))) (ap (λ t. t || (same_word c d || false)) (same_self c))
name_parts a b (Field c d e) h = subst (λ (x : List ℕ). (same_word x c || (same_word x d || (same_word x e || false))) ≡ true) (sym (names_are a b d e (only_one (NameAndType a b) (NameAndType d e) h))) (name_among c d e)
name_parts a b (Method c d e) h = subst (λ (x : List ℕ). (same_word x c || (same_word x d || (same_word x e || false))) ≡ true) (sym (names_are a b d e (only_one (NameAndType a b) (NameAndType d e) h))) (name_among c d e)
name_parts a b (InterfaceMethod c d e) h = subst (λ (x : List ℕ). (same_word x c || (same_word x d || (same_word x e || false))) ≡ true) (sym (names_are a b d e (only_one (NameAndType a b) (NameAndType d e) h))) (name_among c d e)
name_parts a b e h = absurd (true≢false (sym h))

type_parts : (a b : List ℕ) (e : Entry) → Has (parts e) (NameAndType a b) → Has (parts e) (Utf8 b)
type_parts a b (NameAndType c d) h = subst (λ (x : List ℕ). (same_word x c || (same_word x d || false)) ≡ true) (sym (types_are a b c d (only_one (NameAndType a b) (NameAndType c d) h))) (or_right (same_word d c) _ (ap (λ t. t || false) (same_self d)))
type_parts a b (Field c d e) h = subst (λ (x : List ℕ). (same_word x c || (same_word x d || (same_word x e || false))) ≡ true) (sym (types_are a b d e (only_one (NameAndType a b) (NameAndType d e) h))) (type_among c d e)
type_parts a b (Method c d e) h = subst (λ (x : List ℕ). (same_word x c || (same_word x d || (same_word x e || false))) ≡ true) (sym (types_are a b d e (only_one (NameAndType a b) (NameAndType d e) h))) (type_among c d e)
type_parts a b (InterfaceMethod c d e) h = subst (λ (x : List ℕ). (same_word x c || (same_word x d || (same_word x e || false))) ≡ true) (sym (types_are a b d e (only_one (NameAndType a b) (NameAndType d e) h))) (type_among c d e)
type_parts a b e h = absurd (true≢false (sym h))

member_is : (make : List ℕ → List ℕ → List ℕ → Entry) → (a b c : List ℕ) (e : Entry) → same_entry (make a b c) e ≡ true → make a b c ≡ e
member_is make a b c e h = one_entry (make a b c) e h

whole_field : (a b c : List ℕ) (e : Entry) → Has (parts e) (Field a b c) → Field a b c ≡ e
whole_field a b c (Field d e f) h = only_one (Field a b c) (Field d e f) h
whole_field a b c e h = absurd (true≢false (sym h))

whole_method : (a b c : List ℕ) (e : Entry) → Has (parts e) (Method a b c) → Method a b c ≡ e
whole_method a b c (Method d e f) h = only_one (Method a b c) (Method d e f) h
whole_method a b c e h = absurd (true≢false (sym h))

whole_interface : (a b c : List ℕ) (e : Entry) → Has (parts e) (InterfaceMethod a b c) → InterfaceMethod a b c ≡ e
whole_interface a b c (InterfaceMethod d e f) h = only_one (InterfaceMethod a b c) (InterfaceMethod d e f) h
whole_interface a b c e h = absurd (true≢false (sym h))

-- what is one of these is there, where that is
pub there : (xs : List Entry) (q x : Entry) → q ≡ x → Has xs x → Has xs q
there xs q x e h = subst (λ (y : Entry). Has xs y) (sym e) h

parts_closed : (e d q : Entry) → Has (parts e) d → Has (parts d) q → Has (parts e) q
parts_closed e (Utf8 t) q h k = there (parts e) q (Utf8 t) (only_one q (Utf8 t) k) h
parts_closed e (Integer n) q h k = there (parts e) q (Integer n) (only_one q (Integer n) k) h
parts_closed e (Long n) q h k = there (parts e) q (Long n) (only_one q (Long n) k) h
parts_closed e (Class n) q h k = elim (one_of q (Utf8 n) _ k) [
  | inl i ↦ there (parts e) q (Utf8 n) i (class_parts n e h)
  | inr r ↦ there (parts e) q (Class n) (only_one q (Class n) r) h
]
parts_closed e (Text n) q h k = elim (one_of q (Utf8 n) _ k) [
  | inl i ↦ there (parts e) q (Utf8 n) i (text_parts n e h)
  | inr r ↦ there (parts e) q (Text n) (only_one q (Text n) r) h
]
parts_closed e (NameAndType a b) q h k = elim (one_of q (Utf8 a) _ k) [
  | inl i ↦ there (parts e) q (Utf8 a) i (name_parts a b e h)
  | inr r ↦ elim (one_of q (Utf8 b) _ r) [
    | inl i ↦ there (parts e) q (Utf8 b) i (type_parts a b e h)
    | inr s ↦ there (parts e) q (NameAndType a b) (only_one q (NameAndType a b) s) h
  ]
]
parts_closed e (Field a b c) q h k = subst (λ (x : Entry). Has (parts x) q) (whole_field a b c e h) k
parts_closed e (Method a b c) q h k = subst (λ (x : Entry). Has (parts x) q) (whole_method a b c e h) k
parts_closed e (InterfaceMethod a b c) q h k = subst (λ (x : Entry). Has (parts x) q) (whole_interface a b c e h) k

-- the parts of an entry before it
pub front : Entry → List Entry
front (Utf8 text) = []
front (Integer value) = []
front (Long value) = []
front (Class name) = Utf8 name ∷ []
front (Text text) = Utf8 text ∷ []
front (NameAndType name descriptor) = Utf8 name ∷ Utf8 descriptor ∷ []
front (Field class name descriptor) = member_parts class name descriptor
front (Method class name descriptor) = member_parts class name descriptor
front (InterfaceMethod class name descriptor) = member_parts class name descriptor

pub front_then : (e : Entry) → parts e ≡ front e ++ e ∷ []
unfolding front
front_then (Utf8 text) = refl
front_then (Integer value) = refl
front_then (Long value) = refl
front_then (Class name) = refl
front_then (Text text) = refl
front_then (NameAndType name descriptor) = refl
front_then (Field class name descriptor) = refl
front_then (Method class name descriptor) = refl
front_then (InterfaceMethod class name descriptor) = refl

front_lacks : (e : Entry) → list_any (same_entry e) (front e) ≡ false
unfolding front
front_lacks (Utf8 text) = refl
front_lacks (Integer value) = refl
front_lacks (Long value) = refl
front_lacks (Class name) = refl
front_lacks (Text text) = refl
front_lacks (NameAndType name descriptor) = refl
front_lacks (Field class name descriptor) = refl
front_lacks (Method class name descriptor) = refl
front_lacks (InterfaceMethod class name descriptor) = refl

-- WHAT A POOL HAS

key_has : (ks : List Entry) (x q : Entry) → list_any (same_entry q) (insert_key same_entry ks x) ≡ (list_any (same_entry q) ks || same_entry q x)
key_has ks x q = elim (cases_Bool (list_any (same_entry x) ks)) [
  | inl had ↦ ap (λ b. list_any (same_entry q) (cond b ks (ks ++ x ∷ []))) had ∙ old (same_entry q x) refl had
  | inr new ↦ ap (λ b. list_any (same_entry q) (cond b ks (ks ++ x ∷ []))) new ∙ (any_append (same_entry q) ks (x ∷ []) ∙ ap (λ b. list_any (same_entry q) ks || b) (no_more (same_entry q x)))
]
  where
    no_more : (b : Bool) → (b || false) ≡ b
    no_more true = refl
    no_more false = refl

    or_false : (b : Bool) → b ≡ (b || false)
    or_false true = refl
    or_false false = refl

    old : (b : Bool) → same_entry q x ≡ b → Has ks x → list_any (same_entry q) ks ≡ (list_any (same_entry q) ks || same_entry q x)
    old true e had = let all = there ks q x (one_entry q x e) had in all ∙ sym (ap (λ b. b || same_entry q x) all)
    old false e had = or_false (list_any (same_entry q) ks) ∙ ap (λ b. list_any (same_entry q) ks || b) (sym e)

or_nothing : (b : Bool) → b ≡ (b || false)
or_nothing true = refl
or_nothing false = refl

all_has : (ks xs : List Entry) (q : Entry) → list_any (same_entry q) (insert_all same_entry ks xs) ≡ (list_any (same_entry q) ks || list_any (same_entry q) xs)
all_has ks [] q = or_nothing (list_any (same_entry q) ks)
all_has ks (x ∷ xs) q = all_has (insert_key same_entry ks x) xs q ∙ (ap (λ b. b || list_any (same_entry q) xs) (key_has ks x q) ∙ or_assoc (list_any (same_entry q) ks) (same_entry q x) (list_any (same_entry q) xs))

-- with each entry its parts
abbrev Closed : List Entry → Type 0
Closed ks = (d q : Entry) → Has ks d → Has (parts d) q → Has ks q

closed_more : (ks : List Entry) (e : Entry) → Closed ks → Closed (insert_all same_entry ks (parts e))
closed_more ks e closed d q h k =
    let now : (list_any (same_entry d) ks || list_any (same_entry d) (parts e)) ≡ true = sym (all_has ks (parts e) d) ∙ h in
    all_has ks (parts e) q ∙ (elim (or_cases (list_any (same_entry d) ks) (list_any (same_entry d) (parts e)) now) [
      | inl before ↦ or_left (list_any (same_entry q) ks) (list_any (same_entry q) (parts e)) (closed d q before k)
      | inr part ↦ or_right (list_any (same_entry q) ks) (list_any (same_entry q) (parts e)) (parts_closed e d q part k)
    ])

-- ONE USE MORE

no_more_keys : (ks xs : List Entry) → ((q : Entry) → Has xs q → Has ks q) → insert_all same_entry ks xs ≡ ks
no_more_keys ks [] all = refl
no_more_keys ks (x ∷ xs) all =
    let had : Has ks x = all x (or_left (same_entry x x) (list_any (same_entry x) xs) (laws.refl x)) in
    ap (λ b. insert_all same_entry (cond b ks (ks ++ x ∷ [])) xs) had ∙ no_more_keys ks xs (λ q h. all q (or_right (same_entry q x) (list_any (same_entry q) xs) h))

-- nothing is added, or the entry itself comes last
abbrev Comes : List Entry → Entry → Type 0
Comes ks e = (insert_all same_entry ks (parts e) ≡ ks) ⊎ ((before : List Entry) × (insert_all same_entry ks (parts e) ≡ before ++ e ∷ []))

comes : (ks : List Entry) (e : Entry) → Closed ks → Comes ks e
comes ks e closed = elim (cases_Bool (list_any (same_entry e) ks)) [
  | inl had ↦ inl (no_more_keys ks (parts e) (λ q h. closed e q had h))
  | inr new ↦
      let before = insert_all same_entry ks (front e) in
      let lacks_it : list_any (same_entry e) before ≡ false = all_has ks (front e) e ∙ (ap (λ b. b || list_any (same_entry e) (front e)) new ∙ front_lacks e) in
      inr (before, ap (insert_all same_entry ks) (front_then e) ∙ (fold-append (insert_key same_entry) ks (front e) (e ∷ []) ∙ ap (λ b. cond b before (before ++ e ∷ [])) lacks_it))
]

-- BOUNDS

behind_push : (before : List Entry) (e : Entry) → index_behind (before ++ e ∷ []) ≡ index_behind before + width e
behind_push before e = omega (arith, sum_by-append width before (e ∷ []))

index_last : (lines : List Parsed) (before more : List Entry) (e : Entry) → pool lines ≡ before ++ e ∷ more → entry_index (pool lines) e ≡ index_behind before
index_last lines before more e is =
    let size = length-append before (e ∷ more) in
    let at : get_or (pool lines) (length before) e ≡ e = ap (λ es. get_or es (length before) e) is ∙ get_or-append_seam before e more e in
    ap (entry_index (pool lines)) (sym at) ∙ (named lines (length before) e (omega (arith, ap length is, size)) ∙ ap index_behind (ap (take (length before)) is ∙ take_at before (e ∷ more) (length before) refl))

within : (lines : List Parsed) (us ks : List Entry) → Closed ks → pool lines ≡ insert_all same_entry ks (flat_map parts us) → list_all (entry_fits (pool lines)) us ≡ true → index_behind ks ≤ 65535 → index_behind (pool lines) ≤ 65535
within lines [] ks closed is fit le = omega (arith, ap index_behind is)
within lines (u ∷ us) ks closed is fit le =
    let now = insert_all same_entry ks (parts u) in
    let then : pool lines ≡ insert_all same_entry now (flat_map parts us) = is ∙ fold-append (insert_key same_entry) ks (parts u) (flat_map parts us) in
    let rest = and_second (entry_fits (pool lines) u) (list_all (entry_fits (pool lines)) us) fit in
    let here = and_first (entry_fits (pool lines) u) (list_all (entry_fits (pool lines)) us) fit in
    let low : entry_index (pool lines) u + width u ≤ 65535 = leb-true _ _ (and_second (list_all is_short_text (parts u)) (nat_le (entry_index (pool lines) u + width u) 65535) here) in
    within lines us now (closed_more ks u closed) then rest (elim (comes ks u closed) [
      | inl same_word ↦ omega (arith, ap index_behind same_word)
      | inr last ↦
          let more = filter (lacks now) (each_once (flat_map parts us)) in
          let split : pool lines ≡ last.0 ++ u ∷ more = then ∙ (gather now (flat_map parts us) ∙ (ap (λ es. es ++ more) last.1 ∙ append_assoc last.0 (u ∷ []) more)) in
          omega (arith, ap index_behind last.1, behind_push last.0 u, index_last lines last.0 more u split, low)
    ])

pool_inserted : (lines : List Parsed) → pool lines ≡ insert_all same_entry [] (flat_map parts (uses lines))
unfolding entry_added
pool_inserted lines = sym (pool_once lines)

-- the pool of a listing takes at most 65,535 indices
pub pool_within : (lines : List Parsed) → list_all (entry_fits (pool lines)) (uses lines) ≡ true → index_behind (pool lines) ≤ 65535
pool_within lines fit = within lines (uses lines) [] (λ d q h k. absurd (true≢false (sym h))) (pool_inserted lines) fit (omega arith)

-- TEXTS

all_filter : (p q : Entry → Bool) (xs : List Entry) → list_all p xs ≡ true → list_all p (filter q xs) ≡ true
all_filter p q [] h = refl
all_filter p q (x ∷ xs) h =
    let rest = all_filter p q xs (and_second (p x) (list_all p xs) h) in
    elim (cases_Bool (q x)) [
      | inl kept ↦ ap (λ b. list_all p (cond b (x ∷ filter q xs) (filter q xs))) kept ∙ (ap (λ b. b && list_all p (filter q xs)) (and_first (p x) (list_all p xs) h) ∙ rest)
      | inr gone ↦ ap (λ b. list_all p (cond b (x ∷ filter q xs) (filter q xs))) gone ∙ rest
    ]

all_once : (p : Entry → Bool) (xs : List Entry) → list_all p xs ≡ true → list_all p (each_once xs) ≡ true
unfolding each_once
all_once p [] h = refl
all_once p (x ∷ xs) h =
    ap (λ b. b && list_all p (filter (λ other. not (same_entry x other)) (each_once xs))) (and_first (p x) (list_all p xs) h)
    ∙ all_filter p (λ other. not (same_entry x other)) (each_once xs) (all_once p xs (and_second (p x) (list_all p xs) h))

all_parts : (entries us : List Entry) → list_all (entry_fits entries) us ≡ true → list_all is_short_text (flat_map parts us) ≡ true
all_parts entries [] h = refl
all_parts entries (u ∷ us) h =
    let here = and_first (list_all is_short_text (parts u)) (nat_le (entry_index entries u + width u) 65535) (and_first (entry_fits entries u) (list_all (entry_fits entries) us) h) in
    list_all-append is_short_text (parts u) (flat_map parts us) ∙ (ap (λ b. b && list_all is_short_text (flat_map parts us)) here ∙ all_parts entries us (and_second (entry_fits entries u) (list_all (entry_fits entries) us) h))

-- the texts of the pool are not too long
pub pool_short : (lines : List Parsed) → list_all (entry_fits (pool lines)) (uses lines) ≡ true → list_all is_short_text (pool lines) ≡ true
unfolding pool
pool_short lines fit = all_once is_short_text (flat_map parts (uses lines)) (all_parts (pool lines) (uses lines) fit)

-- any index is that of an entry, or 0
pub index_within : (entries : List Entry) (e : Entry) → entry_index entries e ≤ index_behind entries
unfolding entry_index
index_within entries e = by (position (same_entry e) entries)
  where
    sum_take : (i : ℕ) → sum_by width (take i entries) ≤ sum_by width entries
    sum_take i = omega (arith, sum_by-append width (take i entries) (drop i entries), ap (sum_by width) (take-append-drop i entries))

    by : (o : Option ℕ) → option_map_or (λ i. index_behind (take i entries)) o 0 ≤ index_behind entries
    by None = omega arith
    by (Some i) = omega (arith, sum_take i)

-- NUMBERS

numbers_parts : (us : List Entry) → list_all is_number us ≡ true → list_all is_number (flat_map parts us) ≡ true
numbers_parts [] h = refl
numbers_parts (u ∷ us) h =
    list_all-append is_number (parts u) (flat_map parts us)
    ∙ (ap (λ b. b && list_all is_number (flat_map parts us)) (own_number u (and_first (is_number u) (list_all is_number us) h)) ∙ numbers_parts us (and_second (is_number u) (list_all is_number us) h))
  where
    own_number : (e : Entry) → is_number e ≡ true → list_all is_number (parts e) ≡ true
    own_number (Integer value) k = ap (λ b. b && true) k
    own_number (Long value) k = ap (λ b. b && true) k
    own_number e k = refl

-- the numbers of the pool fit their bits
pub pool_numbers : (lines : List Parsed) → list_all is_number (uses lines) ≡ true → list_all is_number (pool lines) ≡ true
unfolding pool
pool_numbers lines fit = all_once is_number (flat_map parts (uses lines)) (numbers_parts (uses lines) fit)
