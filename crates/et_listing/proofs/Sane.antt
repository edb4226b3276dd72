-- The numbers of a line that is read are in their ranges.
use Rattle.std.proofs.Common.{◌≡◌, ℕ, ◌+◌, ◌-◌, ◌^◌, ◌<◌, ◌≤◌, Bool, true, false, cond, ◌&&◌, List, [], ◌∷◌, length, map, Option, Some, None, Result, Ok, Err, refl, sym, subst, arith, true≢false}
use Rattle.std.specs.List.{list_all}
use Rattle.std.specs.Prelude.{◌%◌, not, ◌+ℤ◌, ℤ, pos, negsuc, neg_ℤ, int_le, unsigned_abs, codes, nat_le, ◌==◌, position, take, slice_index, FitsSigned}
use Rattle.std.specs.Int.{w32, w64}
use Rattle.std.proofs.lemmas.Bool.{leb-true}
use Rattle.et_listing.specs.declared.entry.Entry.{Entry}
use Rattle.et_listing.specs.declared.entry.Entry.TheVariants as entry
use Rattle.et_listing.specs.declared.instruction.Instruction.{Instruction}
use Rattle.et_listing.specs.declared.instruction.Instruction.TheVariants as instruction
use Rattle.et_listing.specs.declared.mnemonic.Shape.{Shape}
use Rattle.et_listing.specs.declared.mnemonic.Shape.TheVariants as shape
use Rattle.et_listing.specs.declared.line.Line.{Line}
use Rattle.et_listing.specs.declared.line.Line.TheVariants as line
use Rattle.et_listing.specs.declared.line.LineFault.{LineFault}
use Rattle.et_listing.specs.declared.line.LineFault.TheVariants as fault
use Rattle.et_listing.specs.declared.line.Parsed.{Parsed}
use Rattle.et_listing.specs.Mnemonics.{mnemonics, mnemonic_shape}
use Rattle.et_listing.specs.Words.{same_word, is_lower_hex, hex, is_flags, flags_of_words, value, is_natural_in, is_integer_in, is_label_line, is_label, is_int32}
use Rattle.et_base.specs.Digits.{is_digit}
use Rattle.et_listing.specs.Lines.{needs, numeral, member, word_at, constant_form, load_of, long_load_of, based, base_type, direct_call_of, table_fits, ends_default, table_labels, is_word_pair, pairs, lookup_words, counted_words, spelled_word, flags, natural_word, integer, int32, int64, class_line_of, interface_of, four_or_six, constant_entry, field_form, field_constant, field_of, method_form, method_limits, method_of, label, caught_class, catch_of, shaped, with_mnemonic, said, alone, parsed_line, is_silent, parsed_of}
use Rattle.et_base.specs.Steps.{◌>>=◌}
use Rattle.et_base.proofs.Tests.{and_first, and_second}
use Rattle.et_base.proofs.Readings.{by_if}

-- RANGES

abbrev pub is_32 : ℤ → Bool
is_32 z = int_le (neg_ℤ (pos (2 ^ 31))) z && int_le z (pos (2 ^ 31 - 1))

abbrev pub is_64 : ℤ → Bool
is_64 z = int_le (neg_ℤ (pos (2 ^ 63))) z && int_le z (pos (2 ^ 63 - 1))

-- the number of an entry fits its bits
abbrev pub is_number : Entry → Bool
is_number (entry.Integer value) = is_32 value
is_number (entry.Long value) = is_64 value
is_number other = true

abbrev pub IsConstant : Option Entry → Type 0
IsConstant None = Unit {0}
IsConstant (Some (entry.Integer value)) = (is_32 value ≡ true)
IsConstant (Some (entry.Long value)) = (is_64 value ≡ true)
IsConstant (Some (entry.Text text)) = Unit {0}
IsConstant (Some other) = ⊥

-- the number that an instruction loads fits its bits
abbrev pub IsLoad : Instruction → Type 0
IsLoad (instruction.Load e) = (is_number e ≡ true)
IsLoad (instruction.Pool opcode e) = (is_number e ≡ true)
IsLoad other = Unit {0}

abbrev pub AreLimits : Option (ℕ × ℕ) → Type 0
AreLimits None = Unit {0}
AreLimits (Some limits) = (limits.0 ≤ 65535) × (limits.1 ≤ 65535)

abbrev pub IsSane : Line → Type 0
IsSane (line.Class name super flags) = flags < 2 ^ 16
IsSane (line.Field name descriptor flags constant) = (flags < 2 ^ 16) × IsConstant constant
IsSane (line.Method name descriptor flags limits) = (flags < 2 ^ 16) × AreLimits limits
IsSane (line.Instruction i) = IsLoad i
IsSane other = Unit {0}

abbrev pub AllSane : List Parsed → Type 0
AllSane [] = Unit {0}
AllSane (p ∷ more) = IsSane p.line × AllSane more

-- STEPS

abbrev OkIs : {A : Type 0} → (A → Type 0) → Result A LineFault → Type 0
OkIs P (Ok x) = P x
OkIs P (Err f) = Unit {0}

step : {A B : Type 0} (P : B → Type 0) (r : Result A LineFault) (f : A → Result B LineFault) → ((x : A) → r ≡ Ok x → OkIs P (f x)) → OkIs P (r >>= f)
step P (Ok x) f h = h x refl
step P (Err e) f h = tt

ok_is : {A : Type 0} (P : A → Type 0) (r : Result A LineFault) (x : A) → OkIs P r → r ≡ Ok x → P x
ok_is P (Ok y) x h e = let is : y ≡ x = cc in subst P is h
ok_is P (Err f) x h e = absurd cc

ok_if : {A : Type 0} (P : A → Type 0) (b : Bool) (x : A) (f : LineFault) → (b ≡ true → P x) → OkIs P (cond b (Ok x) (Err f))
ok_if P true x f h = h refl
ok_if P false x f h = tt

-- NUMBERS

hex_small : (c : ℕ) → hex c ≤ 15
hex_small c =
    by_if (λ n. n ≤ 15) (is_lower_hex c) (c - 87) _ (λ t. let high : c ≤ 102 = leb-true _ _ (and_second (nat_le 97 c) (nat_le c 102) t) in omega arith) (λ f.
    by_if (λ n. n ≤ 15) (nat_le 65 c && nat_le c 70) (c - 55) _ (λ t. let high : c ≤ 70 = leb-true _ _ (and_second (nat_le 65 c) (nat_le c 70) t) in omega arith) (λ g.
    by_if (λ n. n ≤ 15) (is_digit c) (c - 48) 0 (λ t. let high : c ≤ 57 = leb-true _ _ (and_second (nat_le 48 c) (nat_le c 57) t) in omega arith) (λ i. omega arith)))

flags_small : (word : List ℕ) → flags_of_words word < 2 ^ 16
flags_small word = omega (arith, hex_small (slice_index word 0), hex_small (slice_index word 1), hex_small (slice_index word 2), hex_small (slice_index word 3))

flags_ok : (words : List (List ℕ)) (i : ℕ) → OkIs (λ n. n < 2 ^ 16) (flags words i)
flags_ok words i = ok_if (λ n. n < 2 ^ 16) (is_flags (word_at words i)) (flags_of_words (word_at words i)) fault.Operands (λ t. flags_small (word_at words i))

natural_is : (high : ℕ) (z : ℤ) → (int_le (pos 0) z && int_le z (pos high)) ≡ true → unsigned_abs z ≤ high
natural_is high (pos n) h = leb-true _ _ (and_second (nat_le 0 n) (nat_le n high) h)
natural_is high (negsuc n) h = absurd (true≢false (sym h))

natural_ok : (words : List (List ℕ)) (i high : ℕ) → OkIs (λ n. n ≤ high) (natural_word words i high)
natural_ok words i high = ok_if (λ n. n ≤ high) (is_natural_in high (word_at words i)) (unsigned_abs (value (word_at words i))) fault.Number (λ t. natural_is high (value (word_at words i)) t)

pub fits32 : (z : ℤ) → is_32 z ≡ true → FitsSigned w32 z
fits32 (pos n) h = let le : n ≤ 2147483647 = leb-true _ _ (and_second true (nat_le n 2147483647) h) in record { sfits = omega arith }
fits32 (negsuc n) h = let le : n ≤ 2147483647 = leb-true _ _ (and_first (nat_le n 2147483647) true h) in record { sfits = omega arith }

pub fits64 : (z : ℤ) → is_64 z ≡ true → FitsSigned w64 z
fits64 (pos n) h = let le : n ≤ 9223372036854775807 = leb-true _ _ (and_second true (nat_le n 9223372036854775807) h) in record { sfits = omega arith }
fits64 (negsuc n) h = let le : n ≤ 9223372036854775807 = leb-true _ _ (and_first (nat_le n 9223372036854775807) true h) in record { sfits = omega arith }

int32_ok : (words : List (List ℕ)) (i : ℕ) → OkIs (λ n. is_32 n ≡ true) (int32 words i)
int32_ok words i = ok_if (λ n. is_32 n ≡ true) (is_integer_in (neg_ℤ (pos (2 ^ 31))) (pos (2 ^ 31 - 1)) (word_at words i)) (value (word_at words i)) fault.Number (λ t. t)

int64_ok : (words : List (List ℕ)) (i : ℕ) → OkIs (λ n. is_64 n ≡ true) (int64 words i)
int64_ok words i = ok_if (λ n. is_64 n ≡ true) (is_integer_in (neg_ℤ (pos (2 ^ 63))) (pos (2 ^ 63 - 1)) (word_at words i)) (value (word_at words i)) fault.Number (λ t. t)

-- PARTS OF LINES

entry_ok : (words : List (List ℕ)) (i : ℕ) → OkIs (λ e. IsConstant (Some e)) (constant_entry words i)
entry_ok words i =
    by_if (OkIs (λ e. IsConstant (Some e))) (same_word (word_at words i) (codes "int")) _ _ (λ t. step (λ e. IsConstant (Some e)) (int32 words (i + 1)) (λ n. Ok (entry.Integer n)) (λ n h. ok_is (λ m. is_32 m ≡ true) (int32 words (i + 1)) n (int32_ok words (i + 1)) h)) (λ f.
    by_if (OkIs (λ e. IsConstant (Some e))) (same_word (word_at words i) (codes "long")) _ _ (λ t. step (λ e. IsConstant (Some e)) (int64 words (i + 1)) (λ n. Ok (entry.Long n)) (λ n h. ok_is (λ m. is_64 m ≡ true) (int64 words (i + 1)) n (int64_ok words (i + 1)) h)) (λ g. tt))

constant_ok : (words : List (List ℕ)) → OkIs IsConstant (field_constant words)
constant_ok words =
    by_if (OkIs IsConstant) (length words == 4) (Ok None) _ (λ t. tt) (λ f.
    step IsConstant (constant_entry words 4) (λ e. Ok (Some e)) (λ e h. ok_is (λ d. IsConstant (Some d)) (constant_entry words 4) e (entry_ok words 4) h))

limits_ok : (words : List (List ℕ)) → OkIs AreLimits (method_limits words)
limits_ok words =
    by_if (OkIs AreLimits) (length words == 4) (Ok None) _ (λ t. tt) (λ f.
    step AreLimits (natural_word words 4 65535) _ (λ stack h.
    step AreLimits (natural_word words 5 65535) (λ locals. Ok (Some (stack, locals))) (λ locals i.
    (ok_is (λ n. n ≤ 65535) (natural_word words 4 65535) stack (natural_ok words 4 65535) h, ok_is (λ n. n ≤ 65535) (natural_word words 5 65535) locals (natural_ok words 5 65535) i))))

-- LINES

class_ok : (words : List (List ℕ)) → OkIs IsSane (class_line_of words)
unfolding class_line_of
class_ok words =
    step IsSane (counted_words words 4) _ (λ four a.
    step IsSane (spelled_word words 1) _ (λ name b.
    step IsSane (spelled_word words 2) _ (λ super c.
    step IsSane (flags words 3) (λ f. Ok (line.Class name super f)) (λ f d. ok_is (λ n. n < 2 ^ 16) (flags words 3) f (flags_ok words 3) d))))

interface_ok : (words : List (List ℕ)) → OkIs IsSane (interface_of words)
unfolding interface_of
interface_ok words =
    step IsSane (counted_words words 2) _ (λ two a.
    step IsSane (spelled_word words 1) (λ name. Ok (line.Interface name)) (λ name b. tt))

field_ok : (words : List (List ℕ)) → OkIs IsSane (field_of words)
unfolding field_of
field_ok words =
    step IsSane (four_or_six words) _ (λ size a.
    step IsSane (spelled_word words 1) _ (λ name b.
    step IsSane (spelled_word words 2) _ (λ descriptor c.
    step IsSane (flags words 3) _ (λ f d.
    step IsSane (field_form words) _ (λ form e.
    step IsSane (field_constant words) (λ constant. Ok (line.Field name descriptor f constant)) (λ constant g.
    (ok_is (λ n. n < 2 ^ 16) (flags words 3) f (flags_ok words 3) d, ok_is IsConstant (field_constant words) constant (constant_ok words) g)))))))

method_ok : (words : List (List ℕ)) → OkIs IsSane (method_of words)
unfolding method_of
method_ok words =
    step IsSane (four_or_six words) _ (λ size a.
    step IsSane (spelled_word words 1) _ (λ name b.
    step IsSane (spelled_word words 2) _ (λ descriptor c.
    step IsSane (flags words 3) _ (λ f d.
    step IsSane (method_form words) _ (λ form e.
    step IsSane (method_limits words) (λ limits. Ok (line.Method name descriptor f limits)) (λ limits g.
    (ok_is (λ n. n < 2 ^ 16) (flags words 3) f (flags_ok words 3) d, ok_is AreLimits (method_limits words) limits (limits_ok words) g)))))))

catch_ok : (words : List (List ℕ)) → OkIs IsSane (catch_of words)
unfolding catch_of
catch_ok words =
    step IsSane (counted_words words 5) _ (λ five a.
    step IsSane (label words 1) _ (λ from b.
    step IsSane (label words 2) _ (λ to c.
    step IsSane (label words 3) _ (λ handler d.
    step IsSane (caught_class words) (λ class. Ok (line.Catch from to handler class)) (λ class e. tt)))))

-- INSTRUCTIONS

number_of : (e : Entry) → IsConstant (Some e) → is_number e ≡ true
number_of (entry.Integer value) h = h
number_of (entry.Long value) h = h
number_of (entry.Text text) h = refl
number_of e h = absurd h

load_ok : (words : List (List ℕ)) → OkIs IsLoad (load_of words)
load_ok words =
    step IsLoad (counted_words words 3) _ (λ three a.
    step IsLoad (needs (not (same_word (word_at words 1) (codes "long"))) fault.Operands) _ (λ kind b.
    step IsLoad (constant_form words 1) _ (λ form c.
    step IsLoad (constant_entry words 1) (λ e. Ok (instruction.Load e)) (λ e h. number_of e (ok_is (λ d. IsConstant (Some d)) (constant_entry words 1) e (entry_ok words 1) h)))))

long_ok : (words : List (List ℕ)) (opcode : ℕ) → OkIs IsLoad (long_load_of words opcode)
long_ok words opcode =
    step IsLoad (counted_words words 2) _ (λ two a.
    step IsLoad (numeral words 1) _ (λ form b.
    step IsLoad (int64 words 1) (λ n. Ok (instruction.Pool opcode (entry.Long n))) (λ n h. ok_is (λ m. is_64 m ≡ true) (int64 words 1) n (int64_ok words 1) h)))

-- whatever is read, the instruction is well
plain : {A : Type 0} (r : Result A LineFault) (f : A → Result Instruction LineFault) → ((x : A) → OkIs IsLoad (f x)) → OkIs IsLoad (r >>= f)
plain r f h = step IsLoad r f (λ x e. h x)

base_ok : (o : Option ℕ) (opcode : ℕ) → OkIs IsLoad (based o opcode)
base_ok None opcode = tt
base_ok (Some kind) opcode = tt

direct_ok : (words : List (List ℕ)) (opcode : ℕ) → OkIs IsLoad (direct_call_of words opcode)
direct_ok words opcode =
    by_if (OkIs IsLoad) ((length words == 5) && same_word (word_at words 1) (codes "interface")) _ _
    (λ t. plain (member words 2) _ (λ m. refl))
    (λ f. plain (counted_words words 4) _ (λ four. plain (member words 1) _ (λ m. refl)))

table_ok : (words : List (List ℕ)) (low : ℤ) → OkIs IsLoad (table_fits words low)
table_ok words low = by_if (OkIs IsLoad) (int_le (low +ℤ pos (length words - 5)) (pos (2 ^ 31 - 1))) _ _ (λ t. tt) (λ f. tt)

shaped_ok : (words : List (List ℕ)) (opcode : ℕ) (s : Shape) → OkIs IsLoad (shaped words opcode s)
shaped_ok words opcode shape.Plain = plain (counted_words words 1) _ (λ one. tt)
shaped_ok words opcode shape.Byte = plain (counted_words words 2) _ (λ two. plain (numeral words 1) _ (λ form. plain (integer words 1 (neg_ℤ (pos 128)) (pos 127)) _ (λ n. tt)))
shaped_ok words opcode shape.Short = plain (counted_words words 2) _ (λ two. plain (numeral words 1) _ (λ form. plain (integer words 1 (neg_ℤ (pos 32768)) (pos 32767)) _ (λ n. tt)))
shaped_ok words opcode shape.Load = load_ok words
shaped_ok words opcode shape.LongLoad = long_ok words opcode
shaped_ok words opcode shape.Local = plain (counted_words words 2) _ (λ two. plain (numeral words 1) _ (λ form. plain (natural_word words 1 65535) _ (λ n. tt)))
shaped_ok words opcode shape.Increment =
    plain (counted_words words 3) _ (λ three. plain (numeral words 1) _ (λ local_form. plain (numeral words 2) _ (λ constant_is. plain (natural_word words 1 65535) _ (λ local. plain (integer words 2 (neg_ℤ (pos 32768)) (pos 32767)) _ (λ n. tt)))))
shaped_ok words opcode shape.Branch = plain (counted_words words 2) _ (λ two. plain (label words 1) _ (λ target. tt))
shaped_ok words opcode shape.Field = plain (counted_words words 4) _ (λ four. plain (member words 1) _ (λ m. refl))
shaped_ok words opcode shape.Virtual = plain (counted_words words 4) _ (λ four. plain (member words 1) _ (λ m. refl))
shaped_ok words opcode shape.Direct = direct_ok words opcode
shaped_ok words opcode shape.Interface = plain (counted_words words 4) _ (λ four. plain (member words 1) _ (λ m. tt))
shaped_ok words opcode shape.Type = plain (counted_words words 2) _ (λ two. plain (spelled_word words 1) _ (λ class. refl))
shaped_ok words opcode shape.BaseArray = plain (counted_words words 2) _ (λ two. base_ok (base_type (word_at words 1)) opcode)
shaped_ok words opcode shape.Array = plain (counted_words words 3) _ (λ three. plain (spelled_word words 1) _ (λ class. plain (numeral words 2) _ (λ form. plain (natural_word words 2 255) _ (λ n. tt))))
shaped_ok words opcode shape.Table = plain (needs (ends_default words) fault.Operands) _ (λ end. plain (needs (list_all is_label (table_labels words)) fault.Operands) _ (λ labels. plain (numeral words 1) _ (λ form. plain (int32 words 1) _ (λ low. table_ok words low))))
shaped_ok words opcode shape.Lookup =
    plain (needs (ends_default words && (length words % 2 == 1)) fault.Operands) _ (λ end. plain (needs (list_all is_word_pair (pairs (lookup_words words))) fault.Operands) _ (λ forms. plain (needs (list_all (λ p. is_int32 p.0) (pairs (lookup_words words))) fault.Number) _ (λ keys. tt)))
shaped_ok words opcode shape.Refused = tt

mnemonic_ok : (words : List (List ℕ)) (o : Option ℕ) → OkIs IsSane (with_mnemonic words o)
mnemonic_ok words None = tt
mnemonic_ok words (Some opcode) = step IsSane (shaped words opcode (mnemonic_shape opcode)) (λ i. Ok (line.Instruction i)) (λ i h. ok_is IsLoad (shaped words opcode (mnemonic_shape opcode)) i (shaped_ok words opcode (mnemonic_shape opcode)) h)

said_ok : (words : List (List ℕ)) → OkIs IsSane (said words)
unfolding said
said_ok words =
    by_if (OkIs IsSane) (same_word (word_at words 0) (codes "class")) _ _ (λ t. class_ok words) (λ a.
    by_if (OkIs IsSane) (same_word (word_at words 0) (codes "interface")) _ _ (λ t. interface_ok words) (λ b.
    by_if (OkIs IsSane) (same_word (word_at words 0) (codes "field")) _ _ (λ t. field_ok words) (λ c.
    by_if (OkIs IsSane) (same_word (word_at words 0) (codes "method")) _ _ (λ t. method_ok words) (λ d.
    by_if (OkIs IsSane) (same_word (word_at words 0) (codes "catch")) _ _ (λ t. catch_ok words) (λ e.
    mnemonic_ok words (position (λ name. same_word (word_at words 0) name) mnemonics))))))

told_ok : (r : Result Line LineFault) → OkIs IsSane r → IsSane (parsed_line r).line
told_ok (Ok l) h = h
told_ok (Err f) h = tt

parsed_sane : (words : List (List ℕ)) → IsSane (parsed_of words).line
unfolding parsed_of
parsed_sane words =
    by_if (λ (p : Parsed). IsSane p.line) (is_silent words) _ _ (λ t. tt) (λ a.
    by_if (λ (p : Parsed). IsSane p.line) (same_word (word_at words 0) (codes "end")) (alone words line.End) _ (λ t. tt) (λ b.
    by_if (λ (p : Parsed). IsSane p.line) (is_label_line (word_at words 0)) (alone words (line.Label (take (length (word_at words 0) - 1) (word_at words 0)))) (parsed_line (said words)) (λ t. tt) (λ c. told_ok (said words) (said_ok words))))

pub all_sane : (split : List (List (List ℕ))) → AllSane (map parsed_of split)
all_sane [] = tt
all_sane (words ∷ more) = (parsed_sane words, all_sane more)
