-- What was put for a record is the record.
use Rattle.std.proofs.Common.{◌≡◌, ℕ, zero, suc, ◌+◌, ◌<◌, ◌≤◌, true, List, [], ◌∷◌, ◌++◌, length, take, get_or, None, refl, sym, ap, subst, ◌∙◌, add-one, arith}
use Rattle.std.specs.Prelude.{reverse}
use Rattle.std.specs.Int.{byte_len, to_be_bytes}
use Rattle.std.specs.List.{flat_map}
use Rattle.std.proofs.lemmas.List.{append-nil, flat_map_more, reverse-append, reverse-reverse}
use Rattle.std.proofs.lemmas.Grind.{flat_map-append}
use Rattle.et_base.specs.declared.line.TraceLine.{TraceLine}
use Rattle.et_base.specs.declared.line.TraceLine.TheVariants.{Header}
use Rattle.et_text.specs.Fields.{numbers_of, width_of, line_bytes}
use Rattle.et_text.specs.Rules.{has_ended, next_fault, AreFine, IsGood}
use Rattle.et_text.proofs.Versions.{begins, one_header}
use Rattle.et_text.specs.Spelling.{LineField, Number}
use Rattle.et_text.specs.declared.fields.Width.{Width}
use Rattle.et_text.specs.declared.fields.Width.TheVariants as widths
use Rattle.et_binary.specs.Packing.{opening, packed_field, packing, pack, written_record}
use Rattle.et_binary.proofs.SomePack.{pack_push}

-- how many bytes a number has at most
pub wide : (w : Width) → byte_len (width_of w) ≤ 8
wide widths.Byte = omega arith
wide widths.Word = omega arith
wide widths.Long = omega arith

-- the numbers up to one, and that one
numbers_more : (k : ℕ) (ws : List Width) (ns : List ℕ) (d : Width) → k < length ws → k < length ns
    → numbers_of (take (suc k) ws) (take (suc k) ns) ≡ numbers_of (take k ws) (take k ns) ++ Number (width_of (get_or ws k d)) (get_or ns k 0) ∷ []
numbers_more k [] ns d a b = absurd (omega arith)
numbers_more k (w ∷ ws) [] d a b = absurd (omega arith)
numbers_more zero (w ∷ ws) (n ∷ ns) d a b = refl
numbers_more (suc k) (w ∷ ws) (n ∷ ns) d a b = ap (λ (t : List LineField). Number (width_of w) n ∷ t) (numbers_more k ws ns d (omega arith) (omega arith))

pub numbers_put : (k letter : ℕ) (ws : List Width) (ns old new : List ℕ) (d : Width) → k < length ws → k < length ns
    → old ≡ letter ∷ flat_map packed_field (numbers_of (take k ws) (take k ns)) → new ≡ old ++ to_be_bytes (width_of (get_or ws k d)) (get_or ns k 0)
    → new ≡ letter ∷ flat_map packed_field (numbers_of (take (k + 1) ws) (take (k + 1) ns))
numbers_put k letter ws ns old new d a b so_far more =
    more ∙ rw (so_far, add-one, numbers_more k ws ns d a b) (flat_map_more packed_field (letter ∷ []) (numbers_of (take k ws) (take k ns)) (Number (width_of (get_or ws k d)) (get_or ns k 0)))

pub line_packed : (line : TraceLine) → line_bytes (λ v interval. opening ++ packing (Header v interval)) packed_field line ≡ written_record line
line_packed (Header v interval) = refl
line_packed line = refl

-- WHAT IS WRITTEN OF ALL LINES

no_header : (line x : TraceLine) (past : List TraceLine) → next_fault (x ∷ past) line ≡ None → written_record line ≡ packing line
no_header (Header v interval) x past e = absurd (one_header x past v interval e)
no_header line x past e = refl

header_written : (v interval : ℕ) → flat_map written_record (Header v interval ∷ []) ≡ pack (Header v interval ∷ [])
header_written v interval = refl

lines_written : (line : TraceLine) (past : List TraceLine) → AreFine 2 (line ∷ past) → flat_map written_record (reverse (line ∷ past)) ≡ pack (reverse (line ∷ past))
lines_written line [] h =
    let b = begins line h.2 in
    subst (λ (l : TraceLine). flat_map written_record (l ∷ []) ≡ pack (l ∷ [])) (sym b.2) (header_written b.0 b.1)
lines_written line (x ∷ past) h =
    let turned : reverse (line ∷ x ∷ past) ≡ reverse (x ∷ past) ++ line ∷ [] = reverse-append (line ∷ []) (x ∷ past) in
    let so_far = lines_written x past h.0 in
    ap (λ (ls : List TraceLine). flat_map written_record ls) turned
    ∙ (flat_map-append written_record (reverse (x ∷ past)) (line ∷ [])
    ∙ (ap (λ (t : List ℕ). t ++ flat_map written_record (line ∷ [])) so_far
    ∙ (ap (λ (t : List ℕ). pack (reverse (x ∷ past)) ++ t) (append-nil (written_record line) ∙ no_header line x past h.2)
    ∙ (sym (pack_push (reverse (x ∷ past)) line) ∙ ap pack (sym turned)))))

written_by : (past : List TraceLine) → AreFine 2 past → has_ended past ≡ true → flat_map written_record (reverse past) ≡ pack (reverse past)
written_by [] h e = absurd cc
written_by (line ∷ past) h e = lines_written line past h

pub good_written : (lines : List TraceLine) → IsGood 2 lines → flat_map written_record lines ≡ pack lines
good_written lines g = subst (λ (ls : List TraceLine). flat_map written_record ls ≡ pack ls) (reverse-reverse lines) (written_by (reverse lines) g.fine g.ended)
