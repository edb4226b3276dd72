-- SOUND TEXTS: which objects have texts, and how long those are.
use Rattle.std.specs.Prelude.{◌≡◌, ℕ, ◌≤◌, ◌==◌, ◌||◌, Bool, true, All, length, codes}
use Rattle.std.specs.Map.{keys_of, values_of}
use Rattle.et_program.specs.Entries.{Linked}
use Rattle.et_program.specs.Members.{is_subclass}
use Rattle.et_heap.specs.Objects.{IsHeld, object_at}
use Rattle.et_state.specs.State.{Kept}
use Rattle.et_state.specs.Texts.{text_units, longest_text, most_units}
use Rattle.et_event.specs.Errors.{class_called}

-- a class whose objects have texts: String, and StringBuilder and those below it
abbrev pub is_text_class : Linked → ℕ → Bool
is_text_class p c = (c == class_called p (codes "java/lang/String")) || is_subclass p c (class_called p (codes "java/lang/StringBuilder"))

-- a text that is nowhere in the list is empty, so each object of these classes has one
pub record HasSoundTexts (p : Linked) (s : Kept) : Type 0 where
  -- what was given a text is held, and may have one
  pub owned : All (λ o. IsHeld s.heap o × (is_text_class p (object_at s.heap o).class ≡ true)) (keys_of s.guest.texts)
  pub short : All (λ units. length units ≤ longest_text) (values_of s.guest.texts)
  pub few : text_units s.guest.texts ≤ most_units
