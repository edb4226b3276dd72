-- The bytes of a line are as many as its length says, so a label's place is where the bytes behind it begin.
use Rattle.std.proofs.Common.{◌≡◌, ℕ, ◌+◌, ◌*◌, Bool, true, false, cond, List, [], ◌∷◌, ◌++◌, length, fold, refl, sym, ap, ◌∙◌, arith, length-append, append_assoc, append-nil, replicate}
use Rattle.std.specs.Prelude.{◌==◌}
use Rattle.std.specs.List.{flat_map}
use Rattle.std.proofs.lemmas.List.{length-replicate}
use Rattle.std.proofs.lemmas.List.Sums.{fold-append}
use Rattle.et_code.specs.declared.opcode.TheConstants.{GOTO_W, LDC, LDC_W, WIDE, IINC, TABLESWITCH, LOOKUPSWITCH}
use Rattle.et_listing.specs.declared.entry.Entry.{Entry}
use Rattle.et_listing.specs.declared.instruction.Instruction.{Instruction}
use Rattle.et_listing.specs.declared.instruction.Instruction.TheVariants as instruction
use Rattle.et_listing.specs.declared.line.Line.{Line}
use Rattle.et_listing.specs.declared.line.Line.TheVariants as line
use Rattle.et_listing.specs.declared.line.Parsed.{Parsed}
use Rattle.et_listing.specs.Lines.{pairs}
use Rattle.et_asm.specs.Along.{along_from}
use Rattle.et_asm.specs.Pool.{entry_index}
use Rattle.et_asm.specs.Code.{Labels, is_short, is_short_increment, padding, instruction_size, size, place_behind, offset2, offset4, table_bytes, pair_bytes, lookup_bytes, branch_bytes, local_bytes, load_bytes, increment_bytes, switch_bytes, instruction_bytes, line_bytes, encoded_at, code_bytes}

either : (b : Bool) (xs ys : List ℕ) (m n : ℕ) → length xs ≡ m → length ys ≡ n → length (cond b xs ys) ≡ cond b m n
either true xs ys m n first second = first
either false xs ys m n first second = second

branch : (b : Bool) (opcode : ℕ) (xs ys : List ℕ) → length xs ≡ 4 → length ys ≡ 2 → length (opcode ∷ cond b xs ys) ≡ cond b 5 3
branch true opcode xs ys first second = omega (arith, first)
branch false opcode xs ys first second = omega (arith, second)

zeros : (n : ℕ) → length {A = ℕ} (replicate n 0) ≡ n
zeros n = length-replicate n 0

offsets : (labels : Labels) (at : ℕ) (names : List (List ℕ)) → length (flat_map (offset4 labels at) names) ≡ length names * 4
offsets labels at [] = refl
offsets labels at (name ∷ names) = omega (arith, length-append (offset4 labels at name) (flat_map (offset4 labels at) names), offsets labels at names)

rows : (labels : Labels) (at : ℕ) (ps : List (List ℕ × List ℕ)) → length (flat_map (pair_bytes labels at) ps) ≡ length ps * 8
rows labels at [] = refl
rows labels at (p ∷ ps) = omega (arith, length-append (pair_bytes labels at p) (flat_map (pair_bytes labels at) ps), rows labels at ps)

switch : (opcode at : ℕ) → length (switch_bytes opcode at) ≡ 1 + padding at
switch opcode at = omega (arith, zeros (padding at))

pub instruction_length : (entries : List Entry) (labels : Labels) (at : ℕ) (i : Instruction) → length (instruction_bytes entries labels at i) ≡ instruction_size entries at i
instruction_length entries labels at (instruction.Plain opcode) = refl
instruction_length entries labels at (instruction.Byte opcode operand) = refl
instruction_length entries labels at (instruction.Short opcode operand) = refl
instruction_length entries labels at (instruction.Local opcode local) = either (is_short local) _ _ 2 4 refl refl
instruction_length entries labels at (instruction.Increment local constant) = either (is_short_increment local constant) _ _ 3 6 refl refl
instruction_length entries labels at (instruction.Load e) = either (is_short (entry_index entries e)) _ _ 2 3 refl refl
instruction_length entries labels at (instruction.Pool opcode e) = refl
instruction_length entries labels at (instruction.Interface class name descriptor) = refl
instruction_length entries labels at (instruction.Array class dimensions) = refl
instruction_length entries labels at (instruction.Branch opcode target) = branch (opcode == GOTO_W) opcode (offset4 labels at target) (offset2 labels at target) refl refl
instruction_length entries labels at (instruction.Table low names default) =
    omega (arith, length-append (switch_bytes TABLESWITCH at) (table_bytes labels at low names default), switch TABLESWITCH at, offsets labels at names)
instruction_length entries labels at (instruction.Lookup words default) =
    omega (arith, length-append (switch_bytes LOOKUPSWITCH at) (lookup_bytes labels at words default), switch LOOKUPSWITCH at, rows labels at (pairs words))

pub line_length : (entries : List Entry) (labels : Labels) (at : ℕ) (l : Line) → length (line_bytes entries labels at l) ≡ size entries at l
line_length entries labels at (line.Instruction i) = instruction_length entries labels at i
line_length entries labels at other = refl

place_push : (entries : List Entry) (before : List Parsed) (p : Parsed) → place_behind entries (before ++ p ∷ []) ≡ place_behind entries before + size entries (place_behind entries before) p.line
place_push entries before p = fold-append (λ at q. at + size entries at q.line) 0 before (p ∷ [])

length_from : (entries : List Entry) (labels : Labels) (before more : List Parsed) → place_behind entries before + length (along_from (encoded_at entries labels) before more) ≡ place_behind entries (before ++ more)
unfolding along_from
length_from entries labels before [] = omega (arith, ap (place_behind entries) (append-nil before))
length_from entries labels before (p ∷ more) =
    let here = line_bytes entries labels (place_behind entries before) p.line in
    let rest = along_from (encoded_at entries labels) (before ++ p ∷ []) more in
    omega (arith, length-append here rest, line_length entries labels (place_behind entries before) p.line, place_push entries before p, length_from entries labels (before ++ p ∷ []) more, ap (place_behind entries) (append_assoc before (p ∷ []) more))

pub code_length : (entries : List Entry) (labels : Labels) (body : List Parsed) → length (code_bytes entries labels body) ≡ place_behind entries body
code_length entries labels body = omega (arith, length_from entries labels [] body)

split_from : (entries : List Entry) (labels : Labels) (first before more : List Parsed) → along_from (encoded_at entries labels) first (before ++ more) ≡ along_from (encoded_at entries labels) first before ++ along_from (encoded_at entries labels) (first ++ before) more
unfolding along_from
split_from entries labels first [] more = ap (λ xs. along_from (encoded_at entries labels) xs more) (sym (append-nil first))
split_from entries labels first (p ∷ before) more =
    let here = line_bytes entries labels (place_behind entries first) p.line in
    ap (λ xs. here ++ xs) (split_from entries labels (first ++ p ∷ []) before more)
    ∙ (sym (append_assoc here (along_from (encoded_at entries labels) (first ++ p ∷ []) before) (along_from (encoded_at entries labels) ((first ++ p ∷ []) ++ before) more))
    ∙ ap (λ xs. (here ++ along_from (encoded_at entries labels) (first ++ p ∷ []) before) ++ along_from (encoded_at entries labels) xs more) (append_assoc first (p ∷ []) before))

pub code_splits : (entries : List Entry) (labels : Labels) (before more : List Parsed) → code_bytes entries labels (before ++ more) ≡ code_bytes entries labels before ++ along_from (encoded_at entries labels) before more
code_splits entries labels before more = split_from entries labels [] before more
