-- The lines of records. A trace numbers classes and methods from 1 on, in the order in which it mentions them first,
-- and a C or N line stands directly before the first line that mentions the class or the method.
use Rattle.std.specs.Prelude.{ℕ, ◌+◌, ◌==◌, ◌<◌, if◌then◌else◌, List, [], ◌∷◌, ◌++◌, length, All}
use Rattle.std.specs.List.{flat_map, list_any, position_or_len}
use Rattle.et_base.specs.declared.line.TraceLine.{TraceLine}
use Rattle.et_base.specs.declared.line.TraceLine.TheVariants as line
use Rattle.et_state.specs.declared.records.Record.{Record}
use Rattle.et_state.specs.declared.records.Record.TheVariants.{Alloc, Update, Enter, Exit, Unwind}

-- the names of a program's classes and methods, by their numbers in it
pub record Names : Type 0 where
  pub class_count : ℕ
  pub method_count : ℕ
  pub class_name : ℕ → List ℕ
  pub method_class : ℕ → ℕ
  pub method_name : ℕ → List ℕ
  pub method_descriptor : ℕ → List ℕ

-- the methods that a record mentions: one or none
abbrev pub methods_named_by : Record → List ℕ
methods_named_by (Alloc event thread object class size length) = []
methods_named_by (Update event thread object slot old new) = []
methods_named_by (Enter event thread method receiver) = method ∷ []
methods_named_by (Exit event thread method) = method ∷ []
methods_named_by (Unwind event thread method exception) = method ∷ []

-- the classes that a record mentions, by itself or by the line of its method
abbrev pub classes_named_by : Names → Record → List ℕ
classes_named_by names (Alloc event thread object class size length) = class ∷ []
classes_named_by names (Update event thread object slot old new) = []
classes_named_by names (Enter event thread method receiver) = names.method_class method ∷ []
classes_named_by names (Exit event thread method) = names.method_class method ∷ []
classes_named_by names (Unwind event thread method exception) = names.method_class method ∷ []

-- the list with a number at its end, where it isn't there already
abbrev pub with_new : List ℕ → ℕ → List ℕ
with_new seen x = if list_any (λ y. x == y) seen then seen else seen ++ x ∷ []

-- the numbers of a list, each once, in the order in which they stand there first
abbrev pub firsts_after : List ℕ → List ℕ → List ℕ
firsts_after seen [] = seen
firsts_after seen (x ∷ xs) = firsts_after (with_new seen x) xs

-- what a trace mentioned so far, in the order of its numbers
pub record Mentions : Type 0 where
  pub classes : List ℕ
  pub methods : List ℕ

abbrev pub nothing_mentioned : Mentions
nothing_mentioned = record { classes = []; methods = [] }

-- .. with what a record mentions
abbrev pub with_mentions : Names → Mentions → Record → Mentions
with_mentions names m r = record { classes = firsts_after m.classes (classes_named_by names r); methods = firsts_after m.methods (methods_named_by r) }

abbrev pub mentions_after : Names → Mentions → List Record → Mentions
mentions_after names m [] = m
mentions_after names m (r ∷ rs) = mentions_after names (with_mentions names m r) rs

-- the number that a trace gives to what it mentioned: its place among the first mentions, from 1 on
abbrev pub number_in : List ℕ → ℕ → ℕ
number_in seen x = position_or_len (λ y. x == y) seen + 1

-- the C line of a class that was not mentioned before
abbrev pub class_line : Names → List ℕ → ℕ → List TraceLine
class_line names seen c = if list_any (λ y. c == y) seen then [] else line.Class (length seen + 1) (names.class_name c) ∷ []

-- the N line of a method that was not mentioned before; its class is mentioned by then
abbrev pub method_line : Names → List ℕ → List ℕ → ℕ → List TraceLine
method_line names classes seen m =
    if list_any (λ y. m == y) seen then []
    else line.Method (length seen + 1) (number_in classes (names.method_class m)) (names.method_name m) (names.method_descriptor m) ∷ []

-- the line of a record, of which all is mentioned
abbrev pub line_of : Mentions → Record → TraceLine
line_of m (Alloc event thread object class size length) = line.Alloc event thread object (number_in m.classes class) size length
line_of m (Update event thread object slot old new) = line.Update event thread object slot old new
line_of m (Enter event thread method receiver) = line.Enter event thread (number_in m.methods method) receiver
line_of m (Exit event thread method) = line.Exit event thread (number_in m.methods method)
line_of m (Unwind event thread method exception) = line.Unwind event thread (number_in m.methods method) exception

-- the lines that a record adds to a trace that mentioned m before
abbrev pub record_lines : Names → Mentions → Record → List TraceLine
record_lines names m r =
    flat_map (class_line names m.classes) (classes_named_by names r)
    ++ flat_map (method_line names (with_mentions names m r).classes m.methods) (methods_named_by r)
    ++ line_of (with_mentions names m r) r ∷ []

abbrev pub lines_of : Names → Mentions → List Record → List TraceLine
lines_of names m [] = []
lines_of names m (r ∷ rs) = record_lines names m r ++ lines_of names (with_mentions names m r) rs

-- the classes and methods of a record are of the program
pub record IsNamed (names : Names) (r : Record) : Type 0 where
  pub classes : All (λ c. c < names.class_count) (classes_named_by names r)
  pub methods : All (λ m. m < names.method_count) (methods_named_by r)
