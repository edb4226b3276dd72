-- The texts of a pool are bytes, and the names of its Class entries are not empty.
use Rattle.std.proofs.Common.{◌≡◌, ℕ, ◌+◌, ◌<◌, ◌==◌, ◌&&◌, ◌||◌, nat_le, Bool, true, false, List, [], ◌∷◌, ◌++◌, length, Option, Some, None, refl, subst, inl, inr, arith}
use Rattle.std.specs.Prelude.{All, if◌then◌else◌}
use Rattle.std.proofs.lemmas.Bool.{and_parts, or_cases, leb-true, eqb-true, false≢true}
use Rattle.std.proofs.lemmas.List.Elements.{All-nil, All-cons}
use Rattle.std.proofs.lemmas.Option.{none-some, same_Some}
use Rattle.et_base.specs.Marks.{Mark, mark}
use Rattle.et_pool.specs.declared.tags.TheConstants.{UTF8, CLASS}
use Rattle.et_pool.specs.Entries.{Item, Text, Word, Wide, Name, Pair, Handle}
use Rattle.et_pool.specs.Looks.{utf8_at, tag_at, named_by, class_name_at, is_name, is_fit_slot, slot_bytes, end_of}
use Rattle.et_pool.specs.Text.{is_modified, is_one_byte, is_more, is_two, is_three}
use Rattle.et_class.specs.declared.fault.TheConstants.{POOL}
use Rattle.et_class.specs.declared.flags.TheConstants.{INTERFACE}
use Rattle.et_class.specs.Classes.{IsClassFile}
use Rattle.et_class.specs.Layout.{ClassOf, u2, counted_bytes}
use Rattle.et_class.specs.Names.{has}
use Rattle.et_class.specs.Rules.{pool_marks, header_marks, members_marks, header_of, members_of}
use Rattle.et_class.specs.Spelling.{ArePoolSlots}
use Rattle.et_history.proofs.programs.Marks.{well_before, well_first, along_each}
use Rattle.et_history.proofs.PoolWords.{AreTexts, each_at, pool_texts}

abbrev pub AreSmall : List ℕ → Type 0
AreSmall bytes = All (λ b. b < 256) bytes

pub no_more : AreSmall []
no_more = All-nil (λ b. b < 256)

pub and_more : (b : ℕ) (bytes : List ℕ) → b < 256 → AreSmall bytes → AreSmall (b ∷ bytes)
and_more b bytes lt rest = All-cons (λ b. b < 256) b bytes lt rest

-- MODIFIED UTF-8 is bytes

one_small : (a : ℕ) → is_one_byte a ≡ true → a < 256
one_small a h = let le = leb-true a 127 (and_parts (nat_le 1 a) (nat_le a 127) h).1 in omega (arith, le)

more_small : (b : ℕ) → is_more b ≡ true → b < 256
more_small b h = let le = leb-true b 191 (and_parts (nat_le 128 b) (nat_le b 191) h).1 in omega (arith, le)

two_small : (a b : ℕ) → is_two a b ≡ true → (a < 256) × (b < 256)
two_small a b h =
    let parts = and_parts (is_more b) ((nat_le 194 a && nat_le a 223) || ((a == 192) && (b == 128))) h in (
      elim (or_cases (nat_le 194 a && nat_le a 223) ((a == 192) && (b == 128)) parts.1) [
        | inl range ↦ let le = leb-true a 223 (and_parts (nat_le 194 a) (nat_le a 223) range).1 in omega (arith, le)
        | inr zeros ↦ let is = eqb-true a 192 (and_parts (a == 192) (b == 128) zeros).0 in omega (arith, is)
      ],
      more_small b parts.0,
    )

three_small : (a b c : ℕ) → is_three a b c ≡ true → (a < 256) × (b < 256) × (c < 256)
three_small a b c h =
    let parts = and_parts (is_more b && is_more c) ((nat_le 225 a && nat_le a 239) || ((a == 224) && nat_le 160 b)) h in
    let more = and_parts (is_more b) (is_more c) parts.0 in (
      elim (or_cases (nat_le 225 a && nat_le a 239) ((a == 224) && nat_le 160 b) parts.1) [
        | inl range ↦ let le = leb-true a 239 (and_parts (nat_le 225 a) (nat_le a 239) range).1 in omega (arith, le)
        | inr first ↦ let is = eqb-true a 224 (and_parts (a == 224) (nat_le 160 b) first).0 in omega (arith, is)
      ],
      more_small b more.0,
      more_small c more.1,
    )

two_by : (a b : ℕ) (x : Bool) → is_one_byte a ≡ x → (if x then is_modified (b ∷ []) else is_two a b) ≡ true → (is_modified (b ∷ []) ≡ true → AreSmall (b ∷ [])) → AreSmall (a ∷ b ∷ [])
two_by a b true one h rest = and_more a (b ∷ []) (one_small a one) (rest h)
two_by a b false one h rest = let both = two_small a b h in and_more a (b ∷ []) both.0 (and_more b [] both.1 no_more)

three_by : (a b c : ℕ) (bytes : List ℕ) (x y z : Bool) → is_one_byte a ≡ x → is_two a b ≡ y → is_three a b c ≡ z
    → (if x then is_modified (b ∷ c ∷ bytes) else (if y then is_modified (c ∷ bytes) else (if z then is_modified bytes else false))) ≡ true
    → (is_modified (b ∷ c ∷ bytes) ≡ true → AreSmall (b ∷ c ∷ bytes)) → (is_modified (c ∷ bytes) ≡ true → AreSmall (c ∷ bytes)) → (is_modified bytes ≡ true → AreSmall bytes) → AreSmall (a ∷ b ∷ c ∷ bytes)
three_by a b c bytes true y z one two three h rest1 rest2 rest3 = and_more a (b ∷ c ∷ bytes) (one_small a one) (rest1 h)
three_by a b c bytes false true z one two three h rest1 rest2 rest3 =
    let both = two_small a b two in and_more a (b ∷ c ∷ bytes) both.0 (and_more b (c ∷ bytes) both.1 (rest2 h))
three_by a b c bytes false false true one two three h rest1 rest2 rest3 =
    let all = three_small a b c three in and_more a (b ∷ c ∷ bytes) all.0 (and_more b (c ∷ bytes) all.1 (and_more c bytes all.2 (rest3 h)))
three_by a b c bytes false false false one two three h rest1 rest2 rest3 = absurd (false≢true h)

modified_small : (bytes : List ℕ) → is_modified bytes ≡ true → AreSmall bytes
unfolding is_modified
modified_small [] h = no_more
modified_small (a ∷ []) h = and_more a [] (one_small a h) no_more
modified_small (a ∷ b ∷ []) h = two_by a b (is_one_byte a) refl h (λ k. modified_small (b ∷ []) k)
modified_small (a ∷ b ∷ c ∷ bytes) h =
    three_by a b c bytes (is_one_byte a) (is_two a b) (is_three a b c) refl refl refl h (λ k. modified_small (b ∷ c ∷ bytes) k) (λ k. modified_small (c ∷ bytes) k) (λ k. modified_small bytes k)

-- THE TEXTS of a pool

pub texts_small : (slots : List (Option Item)) → ArePoolSlots slots → AreTexts AreSmall slots
texts_small = pool_texts AreSmall (λ bytes h. modified_small bytes h.0)

-- THE NAMES of Class entries

name_some : (o : Option (List ℕ)) (name : List ℕ) → is_name o ≡ true → o ≡ Some name → 0 < length name
name_some None name h e = absurd (none-some name e)
name_some (Some []) name h e = absurd (false≢true h)
name_some (Some (a ∷ bytes)) name h e = subst (λ (n : List ℕ). 0 < length n) (same_Some (a ∷ bytes) name e) (omega arith)

abbrev IsNamedSlot : List (Option Item) → Option Item → Type 0
IsNamedSlot slots s = (name : List ℕ) → named_by slots CLASS s ≡ Some name → 0 < length name

fit_named : (slots : List (Option Item)) (s : Option Item) → is_fit_slot slots s ≡ true → IsNamedSlot slots s
fit_named slots None h name e = absurd (none-some name e)
fit_named slots (Some (Text bytes)) h name e = absurd (none-some name e)
fit_named slots (Some (Word tag bits)) h name e = absurd (none-some name e)
fit_named slots (Some (Wide tag bits)) h name e = absurd (none-some name e)
fit_named slots (Some (Name tag index)) h name e = by (tag == CLASS) h e
  where
    by : (b : Bool) → (if b then is_name (utf8_at slots index) else (tag_at slots index == UTF8)) ≡ true → (if b then utf8_at slots index else None) ≡ Some name → 0 < length name
    by true f k = name_some (utf8_at slots index) name f k
    by false f k = absurd (none-some name k)
fit_named slots (Some (Pair tag first second)) h name e = absurd (none-some name e)
fit_named slots (Some (Handle kind index)) h name e = absurd (none-some name e)

pub classes_named : (bytes : List ℕ) (c : ClassOf) → IsClassFile bytes c → (i : ℕ) (name : List ℕ) → class_name_at c.slots i ≡ Some name → 0 < length name
classes_named bytes c is i =
    let behind : List Mark = header_marks c.slots (end_of 8 c.slots) (header_of c) ++ members_marks c.slots (has c.flags INTERFACE) (end_of 8 c.slots + 6 + length (counted_bytes u2 c.interfaces)) (members_of c) in
    let fit : All (IsNamedSlot c.slots) c.slots =
    along_each (IsNamedSlot c.slots) slot_bytes (λ before place s. mark place POOL (is_fit_slot c.slots s) ∷ []) (λ before place s w. fit_named c.slots s (well_first _ [] w)) [] 10 c.slots
    (well_before (pool_marks c.slots) behind (record { none = is.rules })) in
    each_at (IsNamedSlot c.slots) c.slots i None (λ name e. absurd (none-some name e)) fit
