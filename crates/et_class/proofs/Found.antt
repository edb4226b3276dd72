-- What a search finds.
use Rattle.std.proofs.Common.{◌≡◌, Bool, true, false, cond, ◌&&◌, ◌||◌, List, [], ◌∷◌, ◌++◌, Option, Some, None, refl, sym, ap, ◌∙◌}
use Rattle.std.specs.Prelude.{is_some, find, option_and_then}
use Rattle.std.specs.List.{list_any}
use Rattle.et_pool.specs.Entries.{Item}
use Rattle.et_code.specs.Bodies.{Body}
use Rattle.et_class.specs.Layout.{AttributeOf}
use Rattle.et_class.specs.Codes.{code_at}
use Rattle.et_class.specs.Methods.{is_code}
use Rattle.et_class.specs.Kept.{kept_attribute, kept_in, kept_among}

pub found_some : {X : Type 0} (p : X → Bool) (xs : List X) → list_any p xs ≡ is_some (find p xs)
found_some p [] = refl
found_some p (x ∷ xs) = elim (p x) as (λ b. (b || list_any p xs) ≡ is_some (cond b (Some x) (find p xs))) [ true ↦ refl | false ↦ found_some p xs ]

-- the code of the first Code, with one attribute more
pub kept_push : (slots : List (Option Item)) (xs : List AttributeOf) (a : AttributeOf) → kept_among slots (xs ++ a ∷ []) ≡ cond (list_any (is_code slots) xs) (kept_among slots xs) (kept_in slots false a)
kept_push slots [] a = elim (is_code slots a) as (λ b. option_and_then (λ x. kept_attribute slots (code_at x.body)) (cond b (Some a) None) ≡ cond (b && true) (kept_attribute slots (code_at a.body)) None) [ true ↦ refl | false ↦ refl ]
kept_push slots (x ∷ xs) a =
    elim (is_code slots x) as (λ b. option_and_then (λ x. kept_attribute slots (code_at x.body)) (cond b (Some x) (find (is_code slots) (xs ++ a ∷ []))) ≡ cond (b || list_any (is_code slots) xs) (option_and_then (λ x. kept_attribute slots (code_at x.body)) (cond b (Some x) (find (is_code slots) xs))) (kept_in slots false a))
    [ true ↦ refl | false ↦ kept_push slots xs a ]

unseen : (slots : List (Option Item)) (a : AttributeOf) (before : Option Body) (s : Bool) → cond s before (kept_in slots s a) ≡ cond s before (kept_in slots false a)
unseen slots a before true = refl
unseen slots a before false = refl

pub kept_more : (slots : List (Option Item)) (xs : List AttributeOf) (a : AttributeOf) (seen : Bool) (before here code : Option Body) → seen ≡ list_any (is_code slots) xs → before ≡ kept_among slots xs → here ≡ kept_in slots seen a → code ≡ cond seen before here → code ≡ kept_among slots (xs ++ a ∷ [])
kept_more slots xs a seen before here code s b h e =
    e ∙ (ap (λ y. cond seen before y) h ∙ (unseen slots a before seen ∙ (ap (λ t. cond t before (kept_in slots false a)) s ∙ (ap (λ y. cond (list_any (is_code slots) xs) y (kept_in slots false a)) b ∙ sym (kept_push slots xs a)))))
