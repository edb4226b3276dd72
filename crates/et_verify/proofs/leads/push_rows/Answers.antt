use Rattle.std.proofs.Common.{◌≡◌, ℕ, ◌+◌, ◌-◌, ◌*◌, List, [], ◌∷◌, ◌++◌, map, ap, ◌∙◌, arith, rules, to_z, of_z}
use Rattle.std.specs.Int.{w32, cast_signed}
use Rattle.et_code.specs.Decoding.{code_word_at}
use Rattle.et_code.specs.Switches.{rows_from}
use Rattle.et_event.specs.Sites.{target}
use Rattle.et_verify.proofs.Leaves.{row_added, rows_ended}
use Rattle.et_verify.proofs.leads.push_rows.Goals as goal

pub loop-row-preserved : goal.loop-row-preserved
loop-row-preserved c =
    let at : ℕ = c.args.table + 12 + c.loop-row.row * 4 in
    let offset : c.cast_signed-offset.result ≡ code_word_at c.args.code.now at = c.cast_signed-offset.ensures ∙ ap (cast_signed w32) c.bits.ensures in
    let same : to_z w32 (of_z w32 c.cast_signed-offset.result) ≡ c.cast_signed-offset.result = search rules in
    let item : c.target.result ≡ target c.args.pc (code_word_at c.args.code.now at) = c.target.ensures ∙ ap (target c.args.pc) (same ∙ offset) in
    let items : c.push.new.self.items ≡ c.loop-row.targets.items ++ target c.args.pc (code_word_at c.args.code.now at) ∷ [] = c.in_ok-push.ensures.items ∙ ap (λ (x : ℕ). c.loop-row.targets.items ++ x ∷ []) item in
    ap (λ (xs : List ℕ). xs ++ map (target c.args.pc) (rows_from c.args.code.now (c.row_count-row-end.result - (c.loop-row.row + 1)) (c.args.table + 12 + (c.loop-row.row + 1) * 4))) items
    ∙ row_added c.loop-row.targets.items _ (target c.args.pc) c.args.code.now c.row_count-row-end.result c.loop-row.row at _ (omega arith) (omega arith) c.loop-row.invariant

pub returns : goal.returns
returns c = rows_ended c.loop-row.targets.items _ (target c.args.pc) c.args.code.now c.row_count-row-end.result c.loop-row.row _ (omega arith) c.loop-row.invariant
