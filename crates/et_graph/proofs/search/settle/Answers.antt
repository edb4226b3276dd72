use Rattle.et_graph.proofs.search.settle.Goals as goal

pub spread_all-requires-clause-pairs : goal.spread_all-requires-clause-pairs
spread_all-requires-clause-pairs c = λ u x d. let at = c.requires.within u x d in ((at.0, at.1), (at.2, at.3))
