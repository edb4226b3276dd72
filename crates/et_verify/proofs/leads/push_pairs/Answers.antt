use Rattle.std.proofs.Common.{◌≡◌, ℕ, ◌+◌, ◌-◌, ◌*◌, List, [], ◌∷◌, ◌++◌, map, ap, ◌∙◌, arith, rules, to_z, of_z}
use Rattle.std.specs.Prelude.{ℤ}
use Rattle.std.specs.Int.{w32, cast_signed}
use Rattle.et_code.specs.Decoding.{code_word_at}
use Rattle.et_code.specs.Switches.{switch_pairs_from}
use Rattle.et_event.specs.Sites.{target}
use Rattle.et_verify.proofs.Leaves.{pair_added, pairs_ended}
use Rattle.et_verify.proofs.leads.push_pairs.Goals as goal

pub loop-pair-preserved : goal.loop-pair-preserved
loop-pair-preserved c =
    let at : ℕ = c.args.table + 8 + c.loop-pair.pair * 8 in
    let offset : c.cast_signed-offset.result ≡ code_word_at c.args.code.now (at + 4) = c.cast_signed-offset.ensures ∙ ap (cast_signed w32) c.bits.ensures in
    let same : to_z w32 (of_z w32 c.cast_signed-offset.result) ≡ c.cast_signed-offset.result = search rules in
    let item : c.target.result ≡ target c.args.pc (code_word_at c.args.code.now (at + 4)) = c.target.ensures ∙ ap (target c.args.pc) (same ∙ offset) in
    let items : c.push.new.self.items ≡ c.loop-pair.targets.items ++ target c.args.pc (code_word_at c.args.code.now (at + 4)) ∷ [] = c.in_ok-push.ensures.items ∙ ap (λ (x : ℕ). c.loop-pair.targets.items ++ x ∷ []) item in
    ap (λ (xs : List ℕ). xs ++ map (target c.args.pc) (map (λ (p : ℕ × ℤ). p.1) (switch_pairs_from c.args.code.now (c.bits-pair-end.result - (c.loop-pair.pair + 1)) (c.args.table + 8 + (c.loop-pair.pair + 1) * 8)))) items
    ∙ pair_added c.loop-pair.targets.items _ (target c.args.pc) c.args.code.now c.bits-pair-end.result c.loop-pair.pair at _ (omega arith) (omega arith) c.loop-pair.invariant

pub returns : goal.returns
returns c = pairs_ended c.loop-pair.targets.items _ (target c.args.pc) c.args.code.now c.bits-pair-end.result c.loop-pair.pair _ (omega arith) c.loop-pair.invariant
