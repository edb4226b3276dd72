-- The rules of a line, as the assembler checks them.
use Rattle.std.proofs.Common.{◌≡◌, ℕ, ◌+◌, ◌<◌, ◌&&◌, Bool, true, false, cond, List, [], ◌∷◌, ◌++◌, length, get_or, take, drop, Option, refl, sym, ap, ◌∙◌, arith, length-take}
use Rattle.std.specs.Prelude.{nat_le}
use Rattle.et_base.specs.Marks.{Mark, marked, first_from, mark}
use Rattle.et_listing.specs.declared.entry.Entry.{Entry}
use Rattle.et_listing.specs.declared.line.Parsed.{Parsed}
use Rattle.et_asm.specs.declared.fault.TheConstants.{LABEL}
use Rattle.et_asm.specs.declared.order.Stage.{Stage}
use Rattle.et_asm.specs.Order.{stage_of, opens, lines_of_body}
use Rattle.et_asm.specs.Code.{Labels, place_behind, labels_of, catch_count}
use Rattle.et_asm.specs.Listings.{count, is_interface_line, is_field_line, is_method_line, counts_fit, number_behind, body_line_marks, body_marks_at, listed_body_marks, uses_defined, no_labels, outside_marks, line_marks}
use Rattle.et_asm.specs.Symbols.{stage_marks}
use Rattle.et_asm.proofs.Taken.{taken}
use Rattle.et_asm.proofs.Marked.{marks_none}

pub mark_then : (first : Option (ℕ × ℕ)) (m : Mark) (ms : List Mark) → first_from (marked first m) ms ≡ first_from first (m ∷ ms)
unfolding first_from
mark_then first m ms = refl

-- A LINE OUTSIDE OF BODIES, whose own labels are checked first

module _ (entries : List Entry) (first mid : Option (ℕ × ℕ)) (number : ℕ) (p : Parsed) (more : List Parsed) (none : Bool) (mid_is : mid ≡ marked first (mark number LABEL none)) (none_is : none ≡ uses_defined no_labels p.line) where
  pub opening : (body : List Parsed) → opens p.line ≡ true → body ≡ lines_of_body more → first_from mid (listed_body_marks entries (number + 1) body) ≡ first_from first (outside_marks entries number p more)
  opening body opens_it body_is =
      let m = mark number LABEL (uses_defined no_labels p.line) in
      let marks = listed_body_marks entries (number + 1) (lines_of_body more) in
      ap (λ f. first_from f (listed_body_marks entries (number + 1) body)) (mid_is ∙ ap (λ b. marked first (mark number LABEL b)) none_is)
      ∙ (ap (λ b. first_from (marked first m) (listed_body_marks entries (number + 1) b)) body_is
      ∙ (mark_then first m marks ∙ ap (λ b. first_from first (m ∷ cond b marks [])) (sym opens_it)))

  pub not_opening : opens p.line ≡ false → mid ≡ first_from first (outside_marks entries number p more)
  not_opening opens_none =
      let m = mark number LABEL (uses_defined no_labels p.line) in
      let marks = listed_body_marks entries (number + 1) (lines_of_body more) in
      (mid_is ∙ ap (λ b. marked first (mark number LABEL b)) none_is)
      ∙ (marks_none (marked first m) ∙ (mark_then first m [] ∙ ap (λ b. first_from first (m ∷ cond b marks [])) (sym opens_none)))

size_before : (xs : List Parsed) (i : ℕ) → i < length xs → length (take i xs) ≡ i
size_before xs i lt = omega (arith, length-take i xs)

pub body_step : (entries : List Entry) (body : List Parsed) (labels labels' seen : Labels) (number i : ℕ) (p : Parsed) (at end catches : ℕ) → i < length body → p ≡ get_or body i p
    → labels ≡ labels' → seen ≡ labels_of entries (take i body) → at ≡ place_behind entries (take i body) → end ≡ place_behind entries (take (i + 1) body) → catches ≡ catch_count (take (i + 1) body)
    → body_line_marks labels (number + i) seen at end catches p.line ≡ body_marks_at entries labels' number (take i body) p (drop (i + 1) body)
body_step entries body labels labels' seen number i p at end catches lt e labels_is seen_is at_is end_is catches_is =
    let more = taken body i p lt e in
    let number' = number + length (take i body) in
    let seen' = labels_of entries (take i body) in
    let at' = place_behind entries (take i body) in
    let end' = place_behind entries (take i body ++ p ∷ []) in
    ap (λ x. body_line_marks x (number + i) seen at end catches p.line) labels_is
    ∙ (ap (λ n. body_line_marks labels' (number + n) seen at end catches p.line) (sym (size_before body i lt))
    ∙ (ap (λ x. body_line_marks labels' number' x at end catches p.line) seen_is
    ∙ (ap (λ x. body_line_marks labels' number' seen' x end catches p.line) at_is
    ∙ (ap (λ x. body_line_marks labels' number' seen' at' x catches p.line) (end_is ∙ ap (place_behind entries) more)
    ∙ ap (λ x. body_line_marks labels' number' seen' at' end' x p.line) (catches_is ∙ ap catch_count more)))))

pub few_is : (lines : List Parsed) (interfaces fields methods : ℕ) (few : Bool) → few ≡ (nat_le interfaces 65535 && nat_le fields 65535 && nat_le methods 65535)
    → interfaces ≡ count is_interface_line lines → fields ≡ count is_field_line lines → methods ≡ count is_method_line lines → few ≡ counts_fit lines
few_is lines interfaces fields methods few is a b c =
    is ∙ (ap (λ x. nat_le x 65535 && nat_le fields 65535 && nat_le methods 65535) a
    ∙ (ap (λ x. nat_le (count is_interface_line lines) 65535 && nat_le x 65535 && nat_le methods 65535) b
    ∙ ap (λ x. nat_le (count is_interface_line lines) 65535 && nat_le (count is_field_line lines) 65535 && nat_le x 65535) c))

pub line_step : (entries : List Entry) (lines : List Parsed) (i : ℕ) (p : Parsed) (stage : Stage) (few : Bool) (more : List Parsed) → i < length lines → p ≡ get_or lines i p
    → stage ≡ stage_of (take i lines) → few ≡ counts_fit (take (i + 1) lines) → more ≡ drop (i + 1) lines
    → stage_marks entries (i + 1) stage few p more ≡ line_marks entries (take i lines) p (drop (i + 1) lines)
line_step entries lines i p stage few more lt e stage_is few_is more_is =
    let number' = number_behind (take i lines) in
    ap (λ n. stage_marks entries (n + 1) stage few p more) (sym (size_before lines i lt))
    ∙ (ap (λ x. stage_marks entries number' x few p more) stage_is
    ∙ (ap (λ x. stage_marks entries number' (stage_of (take i lines)) x p more) (few_is ∙ ap counts_fit (taken lines i p lt e))
    ∙ ap (λ x. stage_marks entries number' (stage_of (take i lines)) (counts_fit (take i lines ++ p ∷ [])) p x) more_is))
