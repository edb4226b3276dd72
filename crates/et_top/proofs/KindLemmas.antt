-- The kinds of four models that are put into a list one by one.
use Rattle.std.proofs.Common.{◌≡◌, List, [], ◌∷◌, ◌++◌, map, ap, ◌∙◌}

-- what a function gives of each of four
pub map_four : {A B : Type 0} (f : A → B) (none one two three four : List A) (a b c d : A) (x y z w : B) → none ≡ [] → one ≡ none ++ a ∷ [] → two ≡ one ++ b ∷ [] → three ≡ two ++ c ∷ [] → four ≡ three ++ d ∷ [] → f a ≡ x → f b ≡ y → f c ≡ z → f d ≡ w → map f four ≡ x ∷ y ∷ z ∷ w ∷ []
map_four {A} {B} f none one two three four a b c d x y z w e p q r o s t u v =
    let items : four ≡ a ∷ b ∷ c ∷ d ∷ [] = o ∙ ap (λ (l : List A). l ++ d ∷ []) (r ∙ ap (λ (l : List A). l ++ c ∷ []) (q ∙ ap (λ (l : List A). l ++ b ∷ []) (p ∙ ap (λ (l : List A). l ++ a ∷ []) e))) in
    let each : f a ∷ f b ∷ f c ∷ f d ∷ [] ≡ x ∷ y ∷ z ∷ w ∷ [] = cc in
    ap (λ (l : List A). map f l) items ∙ each
