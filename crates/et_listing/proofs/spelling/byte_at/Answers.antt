use Rattle.std.proofs.Common.{arith, sym, ap, ◌∙◌, ◌+◌, ◌*◌, ◌∷◌, drop, get_or}
use Rattle.et_listing.specs.Words.{unescaped, hex}
use Rattle.et_listing.proofs.Unescaped.{escaped_at, plain_at}
use Rattle.et_listing.proofs.spelling.byte_at.Goals.{else-word-i-eq37-via-then-word-i-eq37+else-word-i-ge3, else-word-i-eq37-via-else-word-i-eq37}
use Rattle.et_listing.proofs.spelling.byte_at.Goals as goal

pub returns-then-word-i-ge3-clause-byte : goal.returns-then-word-i-ge3-clause-byte
returns-then-word-i-ge3-clause-byte c =
    let rest = unescaped (drop (c.args.i + 3) c.args.word.now) in
    escaped_at c.args.word.now c.args.i (omega arith) c.if-word-i-eq37.true
    ∙ (ap (λ h. (h * 16 + hex (get_or c.args.word.now (c.args.i + 2) 0)) ∷ rest) (sym c.hex.ensures.value) ∙ ap (λ h. (c.hex.result * 16 + h) ∷ rest) (sym c.hex-then-word-i-ge3.ensures.value))

pub returns-clause-byte : goal.returns-clause-byte
returns-clause-byte c = elim c.else-word-i-eq37.branch [
  | else-word-i-eq37-via-then-word-i-eq37+else-word-i-ge3 w ↦ plain_at c.args.word.now c.args.i (omega arith) (λ e. omega arith)
  | else-word-i-eq37-via-else-word-i-eq37 w ↦ plain_at c.args.word.now c.args.i (omega arith) (λ e. absurd (w.if-word-i-eq37.false e))
]
