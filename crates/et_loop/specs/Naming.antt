-- The lines of one mention.
use Rattle.std.specs.Prelude.{◌≡◌, ℕ, ◌==◌, true, if◌then◌else◌, List, ◌++◌, Option, Some, None, slice_index_or}
use Rattle.std.specs.List.{list_any}
use Rattle.et_base.specs.declared.format.Format.{Format}
use Rattle.et_base.specs.declared.line.TraceLine.{TraceLine}
use Rattle.et_binary.specs.Formats.{lines_written_in}
use Rattle.et_state.specs.declared.records.Record.{Record}
use Rattle.et_state.specs.Naming.{Names, Mentions, with_new, with_mentions, number_in, class_line, method_line, record_lines}

-- what is mentioned once a method and its class are
abbrev pub mentions_method : Names → Mentions → ℕ → Mentions
mentions_method names m method = record { classes = with_new m.classes (names.method_class method); methods = with_new m.methods method }

-- the C line of its class and its N line, where they are new
abbrev pub method_lines : Names → Mentions → ℕ → List TraceLine
method_lines names m method =
    class_line names m.classes (names.method_class method)
    ++ method_line names (with_new m.classes (names.method_class method)) m.methods method

-- the class of each method that was mentioned was mentioned
pub record HasClasses (names : Names) (m : Mentions) : Type 0 where
  pub each : (x : ℕ) → list_any (λ y. x == y) m.methods ≡ true → list_any (λ y. names.method_class x == y) m.classes ≡ true

-- the number that a trace gave, if it mentioned x
abbrev pub number_if_in : List ℕ → ℕ → Option ℕ
number_if_in seen x = if list_any (λ y. x == y) seen then Some (number_in seen x) else None

-- a table has the number of each x at x
abbrev pub AreNumbersOf : List ℕ → List (Option ℕ) → Type 0
AreNumbersOf seen numbers = (x : ℕ) → slice_index_or numbers x None ≡ number_if_in seen x

-- the lines of a record were put behind the old ones, and what it mentions is mentioned
pub record WritesRecord (names : Names) (format : Format) (r : Record) (m m' : Mentions) (old new : List ℕ) : Type 0 where
  pub mentions : m' ≡ with_mentions names m r
  pub lines : new ≡ old ++ lines_written_in format (record_lines names m r)
