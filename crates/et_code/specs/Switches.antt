-- What a switch chooses (JVMS 6.5, tableswitch and lookupswitch).
use Rattle.std.specs.Prelude.{◌≡◌, ℕ, zero, suc, ◌+◌, ◌*◌, ℤ, List, [], ◌∷◌, find, Ok, ◌==◌, ◌||◌, int_lt, if◌then◌else◌, ◌⊎◌}
use Rattle.std.specs.Option.{option_map_or}
use Rattle.std.specs.Int.{w32, cast_unsigned, int_gap}
use Rattle.et_code.specs.declared.instr.Instr.{Instr}
use Rattle.et_code.specs.Decoding.{instruction_at, bits_at, code_word_at, row_count}

-- the instruction was decoded from this code as a switch
pub record IsSwitch (code : List ℕ) (i : Instr) : Type 0 where
  pub pc : ℕ
  pub next : ℕ
  pub decoded : instruction_at code pc ≡ Ok (i, next)
  pub kind : (i.opcode ≡ 0xaa) ⊎ (i.opcode ≡ 0xab)

-- the offsets of so many rows of a table, the first of which stands at a place
unfoldable pub rows_from : List ℕ → ℕ → ℕ → List ℤ
rows_from code zero at = []
rows_from code (suc n) at = code_word_at code at ∷ rows_from code n (at + 4)

-- so many pairs of a key and an offset, the first of which stands at a place; the key in its four bytes
unfoldable pub switch_pairs_from : List ℕ → ℕ → ℕ → List (ℕ × ℤ)
switch_pairs_from code zero at = []
switch_pairs_from code (suc n) at = (bits_at code at, code_word_at code (at + 4)) ∷ switch_pairs_from code n (at + 8)

-- the rows of a table, and the pairs of a lookup, whose default offset stands at a place
abbrev pub table_rows : List ℕ → ℕ → List ℤ
table_rows code table = rows_from code (row_count (code_word_at code (table + 4)) (code_word_at code (table + 8))) (table + 12)

abbrev pub lookup_pairs : List ℕ → ℕ → List (ℕ × ℤ)
lookup_pairs code table = switch_pairs_from code (bits_at code (table + 4)) (table + 8)

-- the offset in the row of the key, or the default where the key is below low or above high
abbrev pub table_target : List ℕ → ℕ → ℤ → ℤ
table_target code table key =
    if int_lt key (code_word_at code (table + 4)) || int_lt (code_word_at code (table + 8)) key then code_word_at code table
    else code_word_at code (table + 12 + int_gap (code_word_at code (table + 4)) key * 4)

-- the offset beside the first key that is this one, or the default where none is
abbrev pub lookup_target : List ℕ → ℕ → ℤ → ℤ
lookup_target code table key = option_map_or (λ p. p.1) (find (λ p. p.0 == cast_unsigned w32 key) (lookup_pairs code table)) (code_word_at code table)

abbrev pub target_of : List ℕ → Instr → ℤ → ℤ
target_of code i key = if i.opcode == 0xaa then table_target code i.table key else lookup_target code i.table key
