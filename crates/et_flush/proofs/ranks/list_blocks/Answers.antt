use Rattle.std.proofs.Common.{◌≡◌, ℕ, get_or, Contains, sym, ◌∙◌, ap, subst, arith}
use Rattle.std.proofs.lemmas.List.{get_or_default}
use Rattle.et_flush.specs.Ranks.{block_at}
use Rattle.et_flush.specs.Ranks.{IsBlockAdded}
use Rattle.et_flush.proofs.Listings.{each_at}
use Rattle.et_flush.proofs.Ranking.{blocks_none, no_runs, blocks_few, blocks_more, blocks_within}
use Rattle.et_flush.proofs.ranks.list_blocks.Goals as goal

pub block_of-requires : goal.block_of-requires
block_of-requires c = (c.requires.within c.object-item.result (c.loop-object.object-index, c.loop-object-test.true, sym c.object-item.is)).0

pub loop-object-init : goal.loop-object-init
loop-object-init c = record {
  runs = no_runs c.args.runs.now c.clear.new.self.items c.clear.ensures.items;
  blocks = blocks_none c.args.held.now c.clear.new.self.items c.clear.ensures.items;
  room = omega (arith, c.clear.ensures.capacity);
}

pub add_block-requires-clause-within : goal.add_block-requires-clause-within
add_block-requires-clause-within c = omega (arith, (c.requires.within c.object-item.result (c.loop-object.object-index, c.loop-object-test.true, sym c.object-item.is)).1, c.block_of.ensures.block, c.loop-object.auto.runs)

pub add_block-requires-clause-few : goal.add_block-requires-clause-few
add_block-requires-clause-few c = λ out.
    let o : ℕ = c.object-item.result in
    let number : o ≡ get_or c.args.held.now c.loop-object.object-index 0 = c.object-item.is ∙ get_or_default c.args.held.now c.loop-object.object-index o 0 c.loop-object-test.true in
    let block : c.block_of.result ≡ block_at (get_or c.args.held.now c.loop-object.object-index 0) = c.block_of.ensures.block ∙ ap block_at number in
    omega (arith, block, blocks_few c.args.held.now c.loop-object.blocks.items c.loop-object.object-index c.loop-object.invariant.blocks c.loop-object-test.true (λ d. out (subst (λ (g : ℕ). Contains c.loop-object.blocks.items g) (sym block) d)))

pub loop-object-preserved : goal.loop-object-preserved
loop-object-preserved c =
    let o : ℕ = c.object-item.result in
    let number : o ≡ get_or c.args.held.now c.loop-object.object-index 0 = c.object-item.is ∙ get_or_default c.args.held.now c.loop-object.object-index o 0 c.loop-object-test.true in
    let block : c.block_of.result ≡ block_at (get_or c.args.held.now c.loop-object.object-index 0) = c.block_of.ensures.block ∙ ap block_at number in
    record {
      runs = c.add_block.ensures.runs;
      blocks =
          blocks_more c.args.held.now c.loop-object.blocks.items c.add_block.new.blocks.items c.loop-object.object-index c.requires.rising c.loop-object.invariant.blocks c.loop-object-test.true
          (subst (λ (g : ℕ). IsBlockAdded c.loop-object.blocks.items g c.add_block.new.blocks.items) block c.add_block.ensures.added);
      room = omega (arith, c.add_block.ensures.room, c.loop-object.invariant.room);
    }

pub returns-clause-blocks : goal.returns-clause-blocks
returns-clause-blocks c = each_at (λ o. Contains c.loop-object.blocks.items (block_at o)) c.args.held.now c.loop-object.object-index c.loop-object-test.false c.loop-object.invariant.blocks.listed

pub returns-clause-few : goal.returns-clause-few
returns-clause-few c = blocks_within c.args.held.now c.loop-object.runs c.loop-object.blocks.items c.loop-object.object-index c.loop-object.invariant.runs c.loop-object.invariant.blocks

pub returns-clause-fewer : goal.returns-clause-fewer
returns-clause-fewer c = omega (arith, c.loop-object.invariant.blocks.short, c.loop-object-test.false)
