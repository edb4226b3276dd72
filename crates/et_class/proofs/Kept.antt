-- Where no rule is broken, the code that is kept of a method is that of its Code attribute.
use Rattle.std.proofs.Common.{◌≡◌, ℕ, ◌+◌, Bool, true, false, cond, ◌||◌, List, [], ◌∷◌, ◌++◌, length, map, Option, Some, None, Result, Ok, Err, refl, sym, ap, ◌∙◌}
use Rattle.std.specs.Prelude.{option_map, option_and_then, find, is_none}
use Rattle.std.specs.List.{list_any, flat_map}
use Rattle.et_base.specs.Marks.{Mark, is_mark_before, marked, first_from, mark}
use Rattle.et_base.proofs.Firsts.{first_from-append}
use Rattle.et_pool.specs.Entries.{Item}
use Rattle.et_pool.specs.Looks.{tag_of_slot}
use Rattle.et_code.specs.Starts.{starts}
use Rattle.et_code.specs.Rules.{code_marks}
use Rattle.et_class.specs.declared.fault.TheConstants.{ATTRIBUTE}
use Rattle.et_class.specs.Layout.{AttributeOf, MemberOf, attribute_bytes, member_bytes}
use Rattle.et_class.specs.Along.{along}
use Rattle.et_class.specs.Fields.{attribute_marks}
use Rattle.et_class.specs.Codes.{CodeOf, code_at, mark_moved, named_marks, body_marks}
use Rattle.et_class.specs.Methods.{is_code, receiver_words, shape_at, code_attribute_marks, code_marks_if, method_attribute_marks, method_marks, body_in, code_of}
use Rattle.et_class.specs.Kept.{kept_attribute, kept_among, kept_code}
use Rattle.et_class.proofs.Along.{list_any_push}
use Rattle.et_class.proofs.Joined.{joined, shift, first_moved}

-- WHERE NO RULE OF A LIST IS BROKEN, none of a part is

pick_some : (b : Bool) (x y : ℕ × ℕ) → (z : ℕ × ℕ) × (cond b (Some x) (Some y) ≡ Some z)
pick_some true x y = (x, refl)
pick_some false x y = (y, refl)

mark_some : (y : ℕ × ℕ) (place kind : ℕ) (holds : Bool) → (z : ℕ × ℕ) × (marked (Some y) (record { place = place; kind = kind; holds = holds }) ≡ Some z)
mark_some y place kind true = (y, refl)
mark_some y place kind false = pick_some (is_mark_before (place, kind) y) (place, kind) y

some_stays : (y : ℕ × ℕ) (ms : List Mark) → first_from (Some y) ms ≡ None → ⊥
unfolding first_from
some_stays y [] e = cc
some_stays y (m ∷ ms) e = let z = mark_some y m.place m.kind m.holds in some_stays z.0 ms (sym (ap (λ a. first_from a ms) z.1) ∙ e)

none_case : (a : Option (ℕ × ℕ)) (ms : List Mark) → first_from a ms ≡ None → a ≡ None
none_case None ms e = refl
none_case (Some y) ms e = absurd (some_stays y ms e)

pub front_none : (xs ys : List Mark) → first_from None (xs ++ ys) ≡ None → first_from None xs ≡ None
front_none xs ys e = none_case (first_from None xs) ys (sym (first_from-append None xs ys) ∙ e)

pub back_none : (xs ys : List Mark) → first_from None (xs ++ ys) ≡ None → first_from None ys ≡ None
back_none xs ys e = ap (λ a. first_from a ys) (sym (front_none xs ys e)) ∙ (sym (first_from-append None xs ys) ∙ e)

tail_none : (m : Mark) (ms : List Mark) → first_from None (m ∷ ms) ≡ None → first_from None ms ≡ None
tail_none m ms e = back_none (m ∷ []) ms e

moved_none : (base : ℕ) (a : Option (ℕ × ℕ)) → joined None (option_map (shift base) a) ≡ None → a ≡ None
moved_none base None e = refl
moved_none base (Some x) e = absurd cc

-- THE CODE

kept_well : (slots : List (Option Item)) (receiver : ℕ) (place : ℕ) (m : MemberOf) (code : Result CodeOf (ℕ × ℕ)) → first_from None (code_attribute_marks slots (receiver_words slots m) (shape_at slots m) place code) ≡ None → kept_attribute slots code ≡ body_in code
kept_well slots receiver place m (Err f) e = refl
kept_well slots receiver place m (Ok c) e =
    let body = tail_none _ (body_marks slots (place + 10) c.body) (back_none (along attribute_bytes (attribute_marks slots) [] (place + 6 + c.first) c.attributes) _ e) in
    let rules = back_none (flat_map (named_marks slots (place + 10 + 4) c.body.code) (starts c.body.code)) (map (mark_moved (place + 10)) (code_marks c.body (map tag_of_slot slots))) body in
    let none = moved_none (place + 10) (first_from None (code_marks c.body (map tag_of_slot slots))) (sym (first_moved (place + 10) None (code_marks c.body (map tag_of_slot slots))) ∙ rules) in
    ap (λ o. cond (is_none o) (Some c.body) None) none

among : (slots : List (Option Item)) (m : MemberOf) (before : List AttributeOf) (place : ℕ) (xs : List AttributeOf) → list_any (is_code slots) before ≡ false
    → first_from None (along attribute_bytes (method_attribute_marks slots m) before place xs) ≡ None → kept_among slots xs ≡ option_and_then (λ a. body_in (code_at a.body)) (find (is_code slots) xs)
unfolding along
among slots m before place [] n e = refl
among slots m before place (a ∷ xs) n e =
    case (is_code slots a) refl (front_none (method_attribute_marks slots m before place a) _ e) (λ other. among slots m (before ++ a ∷ []) (place + length (attribute_bytes a)) xs (list_any_push (is_code slots) before a ∙ (ap (λ b. b || is_code slots a) n ∙ other)) (back_none (method_attribute_marks slots m before place a) _ e))
  where
    case : (b : Bool) → is_code slots a ≡ b → first_from None (method_attribute_marks slots m before place a) ≡ None → (is_code slots a ≡ false → kept_among slots xs ≡ option_and_then (λ a. body_in (code_at a.body)) (find (is_code slots) xs))
        → option_and_then (λ a. kept_attribute slots (code_at a.body)) (cond (is_code slots a) (Some a) (find (is_code slots) xs)) ≡ option_and_then (λ a. body_in (code_at a.body)) (cond (is_code slots a) (Some a) (find (is_code slots) xs))
    case true i h rest =
        let marks = ap (λ ms. first_from None ms) (sym (ap (λ (b : Bool). cond b (code_marks_if slots m (list_any (is_code slots) before) place a) []) i)) ∙ tail_none _ _ h in
        let first = ap (λ (b : Bool). first_from None (cond b (mark place ATTRIBUTE false ∷ []) (code_attribute_marks slots (receiver_words slots m) (shape_at slots m) place (code_at a.body)))) (sym n) ∙ marks in
        ap (λ (b : Bool). option_and_then (λ a. kept_attribute slots (code_at a.body)) (cond b (Some a) (find (is_code slots) xs))) i
        ∙ (kept_well slots 0 place m (code_at a.body) first ∙ sym (ap (λ (b : Bool). option_and_then (λ a. body_in (code_at a.body)) (cond b (Some a) (find (is_code slots) xs))) i))
    case false i h rest =
        ap (λ (b : Bool). option_and_then (λ a. kept_attribute slots (code_at a.body)) (cond b (Some a) (find (is_code slots) xs))) i
        ∙ (rest i ∙ sym (ap (λ (b : Bool). option_and_then (λ a. body_in (code_at a.body)) (cond b (Some a) (find (is_code slots) xs))) i))

method_case : (slots : List (Option Item)) (before : List MemberOf) (place : ℕ) (m : MemberOf) → first_from None (method_marks slots before place m) ≡ None → kept_code slots m ≡ code_of slots m
method_case slots before place m e =
    among slots m [] (place + 8) m.attributes refl (tail_none _ _ (tail_none _ _ (tail_none _ _ (tail_none _ _ (tail_none _ _ e)))))

pub all_kept : (slots : List (Option Item)) (before : List MemberOf) (place : ℕ) (ms : List MemberOf) → first_from None (along member_bytes (method_marks slots) before place ms) ≡ None → map (kept_code slots) ms ≡ map (code_of slots) ms
unfolding along
all_kept slots before place [] e = refl
all_kept slots before place (m ∷ ms) e =
    ap (λ k. k ∷ map (kept_code slots) ms) (method_case slots before place m (front_none (method_marks slots before place m) _ e))
    ∙ ap (λ ks. code_of slots m ∷ ks) (all_kept slots (before ++ m ∷ []) (place + length (member_bytes m)) ms (back_none (method_marks slots before place m) _ e))
