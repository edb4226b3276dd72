-- WHAT THE U RECORDS OF A HISTORY TELL of the references in slots of objects and in statics.
use Rattle.std.specs.Prelude.{◌≡◌, ℕ, zero, suc, Bool, List, [], ◌∷◌}
use Rattle.et_graph.specs.Graph.{Graph}
use Rattle.et_state.specs.History.{Setting, records_at}
use Rattle.et_state.specs.declared.records.Record.{Record}
use Rattle.et_state.specs.declared.records.Record.TheVariants.{Alloc, Update, Enter, Exit, Unwind}
use Rattle.et_history.specs.steps.Writes.{after_record}

-- the record is one of this event
abbrev pub IsOfEvent : ℕ → Record → Type 0
IsOfEvent e (Alloc event thread object class size elements) = event ≡ e
IsOfEvent e (Update event thread object slot old new) = event ≡ e
IsOfEvent e (Enter event thread method receiver) = event ≡ e
IsOfEvent e (Exit event thread method) = event ≡ e
IsOfEvent e (Unwind event thread method exception) = event ≡ e

-- the references that stand after records, by those that stood before
abbrev pub after_records : (before : ℕ → ℕ → ℕ) → List Record → (object slot : ℕ) → ℕ
after_records before [] = before
after_records before (r ∷ rs) = after_records (after_record before r) rs

module _ {S : Type 0} (reached : Graph → ℕ → Bool) (given : Setting S) (start : S) (made : List Record) where
  -- the reference in a slot of an object, or in a static for the object 0, as the U records up to event e tell it: what was
  -- written there last, or null (0)
  unfoldable pub told_by : ℕ → (object slot : ℕ) → ℕ
  told_by zero = after_records (λ o i. 0) made
  told_by (suc e) = after_records (told_by e) (records_at reached given start made (suc e))
