-- THE CLASS FILE OF A LISTING, or its first faulty line.
use Rattle.std.specs.Prelude.{◌≡◌, ℕ, ◌+◌, ◌*◌, List, [], ◌∷◌, ◌++◌, length, map, count_by, codes, Bool, true, false, not, ◌==◌, ◌&&◌, ◌||◌, nat_le, Option, Some, None, Result, Ok, Err, if◌then◌else◌}
use Rattle.std.specs.List.{list_all, flat_map}
use Rattle.std.specs.Global.{Vec}
use Rattle.et_base.specs.Marks.{Mark, MarksAre, IsFirstBroken, mark}
use Rattle.et_code.specs.declared.opcode.TheConstants.{GOTO_W}
use Rattle.et_listing.specs.declared.entry.Entry.{Entry}
use Rattle.et_listing.specs.declared.entry.Entry.TheVariants as entry
use Rattle.et_listing.specs.declared.instruction.Instruction.{Instruction}
use Rattle.et_listing.specs.declared.instruction.Instruction.TheVariants as instruction
use Rattle.et_listing.specs.declared.line.Line.{Line}
use Rattle.et_listing.specs.declared.line.Line.TheVariants as line
use Rattle.et_listing.specs.declared.line.LineFault.{LineFault}
use Rattle.et_listing.specs.declared.line.LineFault.TheVariants as fault
use Rattle.et_listing.specs.declared.line.Parsed.{Parsed}
use Rattle.et_listing.specs.Words.{words, lines, unescaped}
use Rattle.et_listing.specs.Lines.{parsed_of, pairs}
use Rattle.et_asm.specs.declared.fault.AsmFault.{AsmFault}
use Rattle.et_asm.specs.declared.fault.AsmFault.TheVariants as answer
use Rattle.et_asm.specs.declared.fault.TheConstants.{WORD, OPERANDS, NUMBER, LABEL, ORDER, LIMIT}
use Rattle.et_asm.specs.declared.class.Section.{Section}
use Rattle.et_asm.specs.declared.class.Section.TheVariants as section
use Rattle.et_asm.specs.declared.order.Stage.{Stage}
use Rattle.et_asm.specs.Along.{along_lines}
use Rattle.et_asm.specs.Order.{opens, lines_of_body, stage_of, is_inside, is_finished, may_stand}
use Rattle.et_asm.specs.Pool.{parts, header_entries, code_entries, catch_entries, pool, width, entry_index, entry_pool_bytes}
use Rattle.et_class.specs.Layout.{u4, u2}
use Rattle.et_asm.specs.Code.{Labels, place_behind, labels_of, is_defined, label_place, catch_count, code_attribute}

-- THE RULES. Each is a mark at the number of its line, with the kind of the fault that it makes.

-- the first line has the number 1
abbrev pub number_behind : List Parsed → ℕ
number_behind before = length before + 1

abbrev pub is_interface_line : Line → Bool
is_interface_line (line.Interface name) = true
is_interface_line other = false

abbrev pub is_field_line : Line → Bool
is_field_line (line.Field name descriptor flags constant) = true
is_field_line other = false

abbrev pub is_method_line : Line → Bool
is_method_line (line.Method name descriptor flags limits) = true
is_method_line other = false

abbrev pub count : (Line → Bool) → List Parsed → ℕ
count is_one lines = count_by (λ p. is_one p.line) lines

-- LIMITS

abbrev pub is_short_text : Entry → Bool
is_short_text (entry.Utf8 text) = nat_le (length (unescaped text)) 65535
is_short_text other = true

-- the texts of an entry are not too long, and its indices are at most 65,534
abbrev pub entry_fits : List Entry → Entry → Bool
entry_fits entries e = list_all is_short_text (parts e) && nat_le (entry_index entries e + width e) 65535

abbrev pub line_entries : Line → List Entry
line_entries l = header_entries l ++ (code_entries l ++ catch_entries l)

abbrev pub line_fits : List Entry → Line → Bool
line_fits entries l = list_all (entry_fits entries) (line_entries l)

abbrev pub counts_fit : List Parsed → Bool
counts_fit lines = nat_le (count is_interface_line lines) 65535 && nat_le (count is_field_line lines) 65535 && nat_le (count is_method_line lines) 65535

-- RULES OF EVERY LINE

abbrev pub fault_kind : LineFault → ℕ
fault_kind fault.Word = WORD
fault_kind fault.Operands = OPERANDS
fault_kind fault.Number = NUMBER

abbrev pub fault_marks : ℕ → Option LineFault → List Mark
fault_marks number None = []
fault_marks number (Some f) = mark number (fault_kind f) false ∷ []

-- by its number, by what stood before it, and whether the interfaces, fields and methods up to it are not too many
abbrev pub own_marks : List Entry → ℕ → Stage → Bool → Parsed → List Mark
own_marks entries number at few p =
    fault_marks number p.fault ++
    (mark number ORDER (may_stand at p.line) ∷
    mark number LIMIT (line_fits entries p.line) ∷
    mark number LIMIT few ∷ [])

-- LABELS AND BRANCHES

-- the labels that an instruction uses, and those that a line does
abbrev pub targets : Instruction → List (List ℕ)
targets (instruction.Branch opcode target) = target ∷ []
targets (instruction.Table low labels default) = default ∷ labels
targets (instruction.Lookup words default) = default ∷ map (λ p. p.1) (pairs words)
targets other = []

abbrev pub used_labels : Line → List (List ℕ)
used_labels (line.Instruction i) = targets i
used_labels (line.Catch from to handler class) = from ∷ to ∷ handler ∷ []
used_labels other = []

abbrev pub uses_defined : Labels → Line → Bool
uses_defined labels l = list_all (is_defined labels) (used_labels l)

-- a label line defines none of these labels
abbrev pub defines_new : Labels → Line → Bool
defines_new seen (line.Label name) = not (is_defined seen name)
defines_new seen other = true

-- a branch with an offset of 16 bits reaches its label, if that is defined
abbrev pub within_reach : ℕ → ℕ → Bool
within_reach at place = nat_le place (at + 32767) && nat_le at (place + 32768)

abbrev pub branch_reaches : Labels → ℕ → ℕ → List ℕ → Bool
branch_reaches labels at opcode target = (opcode == GOTO_W) || not (is_defined labels target) || within_reach at (label_place labels target)

abbrev pub reaches : Labels → ℕ → Line → Bool
reaches labels at (line.Instruction (instruction.Branch opcode target)) = branch_reaches labels at opcode target
reaches labels at other = true

-- RULES OF A LINE OF A BODY, by its number, the labels of the body, those of the lines before it, its place, the place
-- behind it, and how many handlers stand up to it
abbrev pub body_line_marks : Labels → ℕ → Labels → ℕ → ℕ → ℕ → Line → List Mark
body_line_marks labels number seen at end catches l =
    mark number LABEL (defines_new seen l) ∷
    mark number LABEL (uses_defined labels l) ∷
    mark number LIMIT (reaches labels at l) ∷
    mark number LIMIT (nat_le end 65535) ∷
    mark number LIMIT (nat_le catches 65535) ∷ []

-- of a line of a body whose first line has a number, by the lines of the body before it
abbrev pub body_marks_at : List Entry → Labels → ℕ → List Parsed → Parsed → List Parsed → List Mark
body_marks_at entries labels number before p behind =
    body_line_marks labels (number + length before) (labels_of entries before) (place_behind entries before) (place_behind entries (before ++ p ∷ [])) (catch_count (before ++ p ∷ [])) p.line

abbrev pub listed_body_marks : List Entry → ℕ → List Parsed → List Mark
listed_body_marks entries number body = along_lines (body_marks_at entries (labels_of entries body) number) body

-- no label is defined outside of bodies
abbrev pub no_labels : Labels
no_labels name = None

-- RULES OF A LINE OUTSIDE OF BODIES, and of the body that it opens
abbrev pub outside_marks : List Entry → ℕ → Parsed → List Parsed → List Mark
outside_marks entries number p behind =
    mark number LABEL (uses_defined no_labels p.line) ∷ (if opens p.line then listed_body_marks entries (number + 1) (lines_of_body behind) else [])

-- RULES OF A LINE, by the lines before it and behind it
abbrev pub line_marks : List Entry → List Parsed → Parsed → List Parsed → List Mark
line_marks entries before p behind =
    own_marks entries (number_behind before) (stage_of before) (counts_fit (before ++ p ∷ [])) p
    ++ (if is_inside (stage_of before) then [] else outside_marks entries (number_behind before) p behind)

-- what is missing at the end counts at the line behind the last
abbrev pub end_mark : List Parsed → Mark
end_mark ps = mark (number_behind ps) ORDER (is_finished (stage_of ps))

abbrev pub listing_marks : List Entry → List Parsed → List Mark
listing_marks entries ps = along_lines (line_marks entries) ps ++ end_mark ps ∷ []

-- THE CLASS FILE (JVMS 4.1), of version 52.0

abbrev pub header_bytes : List Entry → Line → List ℕ
header_bytes entries (line.Class name super flags) = u2 flags ++ (u2 (entry_index entries (entry.Class name)) ++ u2 (entry_index entries (entry.Class super)))
header_bytes entries other = []

abbrev pub interface_bytes : List Entry → Line → List ℕ
interface_bytes entries (line.Interface name) = u2 (entry_index entries (entry.Class name))
interface_bytes entries other = []

-- the flags, the name and the descriptor of a field or a method (JVMS 4.5, 4.6)
abbrev pub listed_member_bytes : List Entry → List ℕ → List ℕ → ℕ → List ℕ
listed_member_bytes entries name descriptor flags = u2 flags ++ (u2 (entry_index entries (entry.Utf8 name)) ++ u2 (entry_index entries (entry.Utf8 descriptor)))

-- a field has a ConstantValue (JVMS 4.7.2), or no attributes
abbrev pub constant_bytes : List Entry → Option Entry → List ℕ
constant_bytes entries None = u2 0
constant_bytes entries (Some e) = u2 1 ++ (u2 (entry_index entries (entry.Utf8 (codes "ConstantValue"))) ++ (u4 2 ++ u2 (entry_index entries e)))

abbrev pub field_bytes : List Entry → Line → List ℕ
field_bytes entries (line.Field name descriptor flags constant) = listed_member_bytes entries name descriptor flags ++ constant_bytes entries constant
field_bytes entries other = []

-- what a line gives to a section
abbrev pub section_bytes : List Entry → Section → Line → List ℕ
section_bytes entries section.Header l = header_bytes entries l
section_bytes entries section.Interfaces l = interface_bytes entries l
section_bytes entries section.Fields l = field_bytes entries l

-- a method has a Code, or no attributes
abbrev pub body_bytes : List Entry → Option (ℕ × ℕ) → List Parsed → List ℕ
body_bytes entries None body = u2 0
body_bytes entries (Some limits) body =
    u2 1 ++ (u2 (entry_index entries (entry.Utf8 (codes "Code"))) ++ code_attribute entries (labels_of entries body) limits body)

abbrev pub method_bytes : List Entry → Line → List Parsed → List ℕ
method_bytes entries (line.Method name descriptor flags limits) behind = listed_member_bytes entries name descriptor flags ++ body_bytes entries limits (lines_of_body behind)
method_bytes entries other behind = []

-- the method of a line outside of bodies, by the lines before and behind it
abbrev pub method_bytes_at : List Entry → List Parsed → Parsed → List Parsed → List ℕ
method_bytes_at entries before p behind = if is_inside (stage_of before) then [] else method_bytes entries p.line behind

abbrev pub methods_bytes : List Entry → List Parsed → List ℕ
methods_bytes entries ps = along_lines (method_bytes_at entries) ps

unfoldable pub listed_class_bytes : List Entry → List Parsed → List ℕ
listed_class_bytes entries ps =
    u4 0xCAFEBABE ++ (u2 0 ++ (u2 52 ++ (entry_pool_bytes entries
    ++ (flat_map (λ p. header_bytes entries p.line) ps
    ++ (u2 (count is_interface_line ps) ++ (flat_map (λ p. interface_bytes entries p.line) ps
    ++ (u2 (count is_field_line ps) ++ (flat_map (λ p. field_bytes entries p.line) ps
    ++ (u2 (count is_method_line ps) ++ (methods_bytes entries ps ++ u2 0))))))))))

-- THE ANSWER

abbrev pub parsed_lines : List ℕ → List Parsed
parsed_lines text = map parsed_of (map words (lines text))

abbrev pub marks_of : List ℕ → List Mark
marks_of text = listing_marks (pool (parsed_lines text)) (parsed_lines text)

abbrev pub assembled_bytes : List ℕ → List ℕ
assembled_bytes text = listed_class_bytes (pool (parsed_lines text)) (parsed_lines text)

-- no line is faulty and these are the bytes of the class file, or this is the first faulty line and its least kind
abbrev pub Assembles : List ℕ → Result (Vec ℕ) AsmFault → Type 0
Assembles text (Ok bytes) = MarksAre (marks_of text) None × (bytes.items ≡ assembled_bytes text)
Assembles text (Err (answer.At number kind)) = IsFirstBroken (marks_of text) number kind
Assembles text (Err answer.NoMemory) = Unit {0}
