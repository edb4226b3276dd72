-- Lists of one, of two, of three and of four.
use Rattle.std.proofs.Common.{◌≡◌, List, [], ◌∷◌, ◌++◌, arith, sym, subst, ap, ◌∙◌}
use Rattle.std.specs.List.{All, AllZip}
use Rattle.std.proofs.lemmas.List.Elements.{All-push}

pub two_items : {B : Type 0} (none one two : List B) (a b : B) → none ≡ [] → one ≡ none ++ a ∷ [] → two ≡ one ++ b ∷ [] → two ≡ a ∷ b ∷ []
two_items {B} none one two a b e f g = g ∙ ap (λ (t : List B). t ++ b ∷ []) (f ∙ ap (λ (t : List B). t ++ a ∷ []) e)

pub two_zip : {B P : Type 0} (R : B → P → Type 0) (items : List B) (a b : B) (p q : P) → items ≡ a ∷ b ∷ [] → R a p → R b q → AllZip R items (p ∷ q ∷ [])
two_zip {B} {P} R items a b p q e r s = subst (λ (t : List B). AllZip R t (p ∷ q ∷ [])) (sym e) (r, (s, tt))

pub one_zip : {B P : Type 0} (R : B → P → Type 0) (none items : List B) (a : B) (p : P) → none ≡ [] → items ≡ none ++ a ∷ [] → R a p → AllZip R items (p ∷ [])
one_zip {B} {P} R none items a p e f r = subst (λ (t : List B). AllZip R t (p ∷ [])) (sym (f ∙ ap (λ (t : List B). t ++ a ∷ []) e)) (r, tt)

-- what holds of each of three holds of their list
pub three_all : {B : Type 0} (P : B → Type 0) (none one two three : List B) (a b c : B) → none ≡ [] → one ≡ none ++ a ∷ [] → two ≡ one ++ b ∷ [] → three ≡ two ++ c ∷ [] → P a → P b → P c → All P three
three_all {B} P none one two three a b c e f g h x y z =
    let bare : All P none = subst (λ (l : List B). All P l) (sym e) (λ k d lt. absurd (omega (arith, lt))) in
    let first : All P one = subst (λ (l : List B). All P l) (sym f) (All-push P none a bare x) in
    let second : All P two = subst (λ (l : List B). All P l) (sym g) (All-push P one b first y) in
    subst (λ (l : List B). All P l) (sym h) (All-push P two c second z)

-- .. and of four
pub four_all : {B : Type 0} (P : B → Type 0) (none one two three four : List B) (a b c d : B) → none ≡ [] → one ≡ none ++ a ∷ [] → two ≡ one ++ b ∷ [] → three ≡ two ++ c ∷ [] → four ≡ three ++ d ∷ [] → P a → P b → P c → P d → All P four
four_all {B} P none one two three four a b c d e f g h i x y z w =
    subst (λ (l : List B). All P l) (sym i) (All-push P three d (three_all P none one two three a b c e f g h x y z) w)
