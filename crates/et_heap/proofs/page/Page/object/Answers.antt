use Rattle.std.proofs.Common.{arith}
use Rattle.et_heap.proofs.Pages.{kept_within, kept-object}
use Rattle.et_heap.proofs.page.Page.object.Goals as goal

pub index-requires : goal.index-requires
index-requires c = omega (arith, c.self.inside.kept.ok.0, kept_within _ _ _ c.self.view_is c.requires)

pub returns : goal.returns
returns c = kept-object _ _ _ _ c.self.view_is c.requires c.index.ensures
