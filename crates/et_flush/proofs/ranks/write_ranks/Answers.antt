use Rattle.std.proofs.Common.{◌≡◌, ℕ, ◌+◌, get_or, sym, ◌∙◌, arith}
use Rattle.std.proofs.lemmas.List.{get_or_default}
use Rattle.et_flush.proofs.Ranking.{ranks_more}
use Rattle.et_flush.proofs.ranks.write_ranks.Goals as goal

pub entry_of-requires-clause-above : goal.entry_of-requires-clause-above
entry_of-requires-clause-above c = (c.requires.within c.object-item.result (c.loop-object.object-index, c.loop-object-test.true, sym c.object-item.is)).0

pub loop-object-preserved : goal.loop-object-preserved
loop-object-preserved c =
    let o : ℕ = c.object-item.result in
    let number : o ≡ get_or c.args.held.now c.loop-object.object-index 0 = c.object-item.is ∙ get_or_default c.args.held.now c.loop-object.object-index o 0 c.loop-object-test.true in
    record {
      rank = omega (arith, c.loop-object.invariant.rank);
      ranks =
          ranks_more c.args.held.now c.args.runs.now c.loop-object.ranks c.loop-object.object-index o c.entry_of.result (c.loop-object.rank + 1) c.requires.rising c.requires.apart c.loop-object-test.true number c.entry_of.ensures
          (omega (arith, c.requires.entries o (c.loop-object.object-index, c.loop-object-test.true, sym c.object-item.is), c.entry_of.ensures, c.loop-object.auto.ranks)) (omega (arith, c.loop-object.invariant.rank)) c.loop-object.invariant.ranks;
    }
