-- The words behind the name of a command: options, each with its value, and then operands.
use Rattle.std.specs.Prelude.{ℕ, ◌+◌, ◌==◌, List, [], ◌∷◌, Bool, Option, Some, None, option_map, bytes_eq, take, drop, position, codes, if◌then◌else◌}

-- an option: its name, without the two hyphens, and its value
pub record Given : Type 0 where
  pub name : List ℕ
  pub value : List ℕ

pub record Split : Type 0 where
  pub options : List Given
  pub operands : List (List ℕ)

-- the word is `--`, which ends the options and is no operand
abbrev pub ends_options : List ℕ → Bool
ends_options word = bytes_eq word (codes "--")

-- the word begins with `--`
abbrev pub begins_option : List ℕ → Bool
begins_option word = bytes_eq (take 2 word) (codes "--")

abbrev pub is_equals : ℕ → Bool
is_equals byte = byte == 61

abbrev pub only_operands : List (List ℕ) → Option Split
only_operands words = Some (record { options = []; operands = words })

abbrev pub with_option : Given → Option Split → Option Split
with_option given rest = option_map (λ s. record { options = given ∷ s.options; operands = s.operands }) rest

-- an option that has its value in the same word: `--name=value`, split at the first `=`
abbrev pub cut_at : ℕ → List ℕ → Given
cut_at place body = record { name = take place body; value = drop (place + 1) body }

-- the last word is an option, with its `=` at this place behind the hyphens
abbrev pub last_option : Option ℕ → List ℕ → Option Split
last_option (Some place) body = with_option (cut_at place body) (only_operands [])
last_option None body = None

-- an option that isn't the last word. Without a `=` the next word is its value, whatever that word is. What is behind
-- the option is split too, with the next word or without it
abbrev pub next_option : Option ℕ → (body next : List ℕ) → (with_next without_next : Option Split) → Option Split
next_option (Some place) body next with_next without_next = with_option (cut_at place body) with_next
next_option None body next with_next without_next = with_option (record { name = body; value = next }) without_next

-- While a word begins with `--` and isn't `--` alone, it is an option. What comes from there on are operands. Nothing
-- where the last option has no value.
unfoldable pub split : List (List ℕ) → Option Split
split [] = only_operands []
split (word ∷ []) =
    if ends_options word then only_operands []
    else if begins_option word then last_option (position is_equals (drop 2 word)) (drop 2 word)
    else only_operands (word ∷ [])
split (word ∷ next ∷ words) =
    if ends_options word then only_operands (next ∷ words)
    else if begins_option word then next_option (position is_equals (drop 2 word)) (drop 2 word) next (split (next ∷ words)) (split words)
    else only_operands (word ∷ next ∷ words)
