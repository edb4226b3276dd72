-- What stood last, and how much, one line after the other.
use Rattle.std.proofs.Common.{◌≡◌, ℕ, ◌+◌, ◌<◌, ◌≤◌, ◌&&◌, Bool, true, false, List, [], ◌∷◌, ◌++◌, length, get_or, take, fold, cond, if◌then◌else◌, refl, sym, ap, ◌∙◌, arith, length-take-le}
use Rattle.std.proofs.lemmas.List.{take_all}
use Rattle.std.proofs.lemmas.List.Sums.{fold_more, sum_by_more, count_by-le-length}
use Rattle.et_listing.specs.declared.entry.Entry.{Entry}
use Rattle.et_listing.specs.declared.line.Line.{Line}
use Rattle.et_listing.specs.declared.line.Parsed.{Parsed}
use Rattle.et_asm.specs.declared.order.Stage.{Stage}
use Rattle.et_asm.specs.declared.order.Stage.TheVariants.{Start}
use Rattle.et_asm.specs.Order.{step, stage_of}
use Rattle.et_asm.specs.Code.{size, place_behind}
use Rattle.et_asm.specs.Listings.{count}

pub stage_more : (lines : List Parsed) (i : ℕ) (p : Parsed) (at at' : Stage) → i < length lines → p ≡ get_or lines i p → at' ≡ step at p.line → at ≡ stage_of (take i lines) → at' ≡ stage_of (take (i + 1) lines)
stage_more lines i p at at' lt e next before =
    next ∙ (ap (λ s. step s p.line) before ∙ (ap (λ (q : Parsed). step (stage_of (take i lines)) q.line) e ∙ sym (fold_more (λ s q. step s q.line) Start lines i p lt)))

pub stage_all : (lines : List Parsed) (i : ℕ) (at : Stage) → length lines ≤ i → at ≡ stage_of (take i lines) → at ≡ stage_of lines
stage_all lines i at le before = before ∙ ap stage_of (take_all i lines le)

pub place_more : (entries : List Entry) (body : List Parsed) (i : ℕ) (p : Parsed) (at at' : ℕ) → i < length body → p ≡ get_or body i p → at' ≡ at + size entries at p.line → at ≡ place_behind entries (take i body) → at' ≡ place_behind entries (take (i + 1) body)
place_more entries body i p at at' lt e next before =
    next ∙ (ap (λ a. a + size entries a p.line) before
    ∙ (ap (λ (q : Parsed). place_behind entries (take i body) + size entries (place_behind entries (take i body)) q.line) e
    ∙ sym (fold_more (λ a q. a + size entries a q.line) 0 body i p lt)))

pub place_all : (entries : List Entry) (body : List Parsed) (i at : ℕ) → length body ≤ i → at ≡ place_behind entries (take i body) → at ≡ place_behind entries body
place_all entries body i at le before = before ∙ ap (place_behind entries) (take_all i body le)

pub count_more : (is_one : Line → Bool) (lines : List Parsed) (i : ℕ) (p : Parsed) (n n' : ℕ) → i < length lines → p ≡ get_or lines i p → n' ≡ n + cond (is_one p.line) 1 0 → n ≡ count is_one (take i lines) → n' ≡ count is_one (take (i + 1) lines)
count_more is_one lines i p n n' lt e next before =
    next ∙ (ap (λ m. m + cond (is_one p.line) 1 0) before ∙ (ap (λ (q : Parsed). count is_one (take i lines) + cond (is_one q.line) 1 0) e ∙ sym (sum_by_more (λ q. cond (is_one q.line) 1 0) lines i p lt)))

pub few_more : (n n' i : ℕ) (b : Bool) → n' ≡ n + cond b 1 0 → n ≤ i → n' ≤ i + 1
few_more n n' i true e le = omega (arith, e)
few_more n n' i false e le = omega (arith, e)
