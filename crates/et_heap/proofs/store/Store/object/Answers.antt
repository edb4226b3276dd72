use Rattle.std.proofs.Common.{Some, sym, ap, subst, ◌∙◌, arith}
use Rattle.et_heap.specs.Stored.{as_stored, is_stored}
use Rattle.et_heap.proofs.Pages.{number_positive, page-held-within, at-page}
use Rattle.et_heap.proofs.store.Store.object.Goals as goal

pub page_of-requires : goal.page_of-requires
page_of-requires c = number_positive _ c.self.inside.pages.items _ c.self.view_is c.requires

pub place_of-requires : goal.place_of-requires
place_of-requires c = number_positive _ c.self.inside.pages.items _ c.self.view_is c.requires

pub index-requires : goal.index-requires
index-requires c = omega (arith, c.self.inside.pages.ok.0, page-held-within _ _ _ _ _ c.self.view_is c.self.invariant.paged c.requires c.page_of.ensures)

pub object-requires : goal.object-requires
object-requires c =
    let is = at-page _ _ _ _ _ _ _ c.self.view_is c.self.invariant.paged c.requires c.page_of.ensures c.place_of.ensures c.index.ensures in
    subst is_stored is c.requires

pub returns : goal.returns
returns c =
    let is = at-page _ _ _ _ _ _ _ c.self.view_is c.self.invariant.paged c.requires c.page_of.ensures c.place_of.ensures c.index.ensures in
    c.object.ensures ∙ ap (λ p. Some (as_stored p)) (sym is)
