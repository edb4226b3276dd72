-- The texts of a state, and a state with other texts.
use Rattle.std.specs.Prelude.{ℕ, List, Option, Some, None}
use Rattle.et_state.specs.Interned.{interned_text}
use Rattle.et_state.specs.State.{Kept}
use Rattle.et_state.specs.Texts.{Texts, no_texts, given_text}
use Rattle.et_pool.specs.Text.{units_of}

-- the text of an object: that of its constant, or the one that it was given
abbrev pub constant_or : Option (List ℕ) → List ℕ → List ℕ
constant_or None own = own
constant_or (Some bytes) own = units_of bytes

abbrev pub text_of : Kept → ℕ → List ℕ
text_of s o = constant_or (interned_text s.guest.interned o) (given_text s.guest.texts o)

-- a state with these texts, and with none, as a machine has it that stands beside its texts
abbrev pub spoken : Texts → Kept → Kept
spoken texts s = record { heap = s.heap; guest = record s.guest { texts = texts } }

abbrev pub silent : Kept → Kept
silent s = spoken no_texts s
