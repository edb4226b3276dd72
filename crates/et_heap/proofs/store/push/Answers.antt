use Rattle.std.proofs.Common.{◌+◌, ◌/◌, ◌%◌, List, [], ◌∷◌, ◌++◌, set, length, sym, ap, subst, ◌∙◌, arith}
use Rattle.std.proofs.lemmas.List.{get_or_default}
use Rattle.et_heap.specs.Stored.{StoredPlaces}
use Rattle.et_heap.specs.Pages.{all_places, IsPaged}
use Rattle.et_heap.specs.declared.page.TheConstants.{PAGE_SIZE}
use Rattle.et_heap.proofs.Pages.{last_page, IsPaged-new_page, IsPaged-push, all_places-push}
use Rattle.et_heap.proofs.store.push.Goals as goal

pub index_mut-page-requires : goal.index_mut-page-requires
index_mut-page-requires c =
    let n = c.args.made in
    let last = last_page n c.args.pages.now.items (n / PAGE_SIZE) (n % PAGE_SIZE) c.requires.paged (omega arith) (omega arith) (omega arith) in
    omega (arith, last.0, c.args.pages.now.ok.0)

pub push-requires-else-made-eq0 : goal.push-requires-else-made-eq0
push-requires-else-made-eq0 c =
    let n = c.args.made in
    let last = last_page n c.args.pages.now.items (n / PAGE_SIZE) (n % PAGE_SIZE) c.requires.paged (omega arith) (omega arith) (omega arith) in
    let same = ap length (c.index_mut-page.ensures.value ∙ get_or_default c.args.pages.now.items (n / PAGE_SIZE) c.index_mut-page.result.now [] last.0) in
    let len = last.1 in
    record { held = c.requires.held; room = omega arith }

pub returns-in_ok-push-clause-paged : goal.returns-in_ok-push-clause-paged
returns-in_ok-push-clause-paged c =
    let n = c.args.made in
    let pages = c.args.pages.now.items in
    let more = c.in_ok-push.ensures.items ∙ ap (λ (p : StoredPlaces). pages ++ p ∷ []) c.in_ok-begin.ensures in
    subst (λ (ps : List StoredPlaces). IsPaged (n + 1) ps) (sym more) (IsPaged-new_page n pages (n / PAGE_SIZE) c.args.object c.requires.paged (omega arith))

pub returns-in_ok-push-2-clause-paged : goal.returns-in_ok-push-2-clause-paged
returns-in_ok-push-2-clause-paged c =
    let n = c.args.made in
    let pages = c.args.pages.now.items in
    let last = last_page n pages (n / PAGE_SIZE) (n % PAGE_SIZE) c.requires.paged (omega arith) (omega arith) (omega arith) in
    let same = c.index_mut-page.ensures.value ∙ get_or_default pages (n / PAGE_SIZE) c.index_mut-page.result.now [] last.0 in
    let more = c.in_ok-push-2.ensures.ok ∙ ap (λ (p : StoredPlaces). p ++ c.args.object ∷ []) same in
    subst (λ (p : StoredPlaces). IsPaged (n + 1) (set pages (n / PAGE_SIZE) p)) (sym more) (IsPaged-push n pages (n / PAGE_SIZE) (n % PAGE_SIZE) c.args.object c.requires.paged (omega arith) (omega arith) (omega arith))

pub returns-in_ok-push-2-clause-pushed : goal.returns-in_ok-push-2-clause-pushed
returns-in_ok-push-2-clause-pushed c =
    let n = c.args.made in
    let pages = c.args.pages.now.items in
    let last = last_page n pages (n / PAGE_SIZE) (n % PAGE_SIZE) c.requires.paged (omega arith) (omega arith) (omega arith) in
    let same = c.index_mut-page.ensures.value ∙ get_or_default pages (n / PAGE_SIZE) c.index_mut-page.result.now [] last.0 in
    let more = c.in_ok-push-2.ensures.ok ∙ ap (λ (p : StoredPlaces). p ++ c.args.object ∷ []) same in
    ap (λ (p : StoredPlaces). all_places (set pages (n / PAGE_SIZE) p)) more ∙ all_places-push n pages (n / PAGE_SIZE) (n % PAGE_SIZE) c.args.object c.requires.paged (omega arith) (omega arith) (omega arith)
