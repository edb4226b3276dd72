use Rattle.std.proofs.Common.{ap, ◌∙◌, arith}
use Rattle.et_heap.specs.Pages.{places_of}
use Rattle.et_heap.proofs.Pages.{kept_within, kept-emptied, kept-fewer, kept-given_back}
use Rattle.et_heap.proofs.page.Page.take_out.Goals as goal
use Rattle.et_heap.proofs.page.Page.take_out.Goals.{else-self-eq0-via-then-self-eq0+else-len-eq-PAGE_SIZE, else-self-eq0-via-else-self-eq0}

pub index_mut-object-requires : goal.index_mut-object-requires
index_mut-object-requires c = omega (arith, c.self.inside.kept.ok.0, kept_within _ _ _ c.self.view_is c.requires)

pub overflow_sub-self : goal.overflow_sub-self
overflow_sub-self c = omega (arith, kept-fewer _ _ _ _ c.self.view_is c.requires c.take_out.ensures)

pub returns-then-len-eq-PAGE_SIZE : goal.returns-then-len-eq-PAGE_SIZE
returns-then-len-eq-PAGE_SIZE c =
    let fewer = kept-fewer _ _ _ _ c.self.view_is c.requires c.take_out.ensures in
    ap places_of c.new.ensures.items ∙ kept-given_back _ c.self.inside.kept.items _ _ c.self.view_is c.requires c.take_out.ensures (omega arith) (omega (arith, c.self.inside.kept.ok.0))

pub returns-else-self-eq0 : goal.returns-else-self-eq0
returns-else-self-eq0 c =
    let gone = kept-emptied _ _ _ _ c.self.view_is c.requires c.take_out.ensures in
    elim c.else-self-eq0.branch [
      | else-self-eq0-via-then-self-eq0+else-len-eq-PAGE_SIZE w ↦ w.self-is ∙ gone
      | else-self-eq0-via-else-self-eq0 w ↦ w.self-is ∙ gone
    ]
