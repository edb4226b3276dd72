-- The texts that a flush leaves are those of the objects that are reached.
use Rattle.std.proofs.Common.{◌≡◌, ℕ, ◌+◌, ◌==◌, ◌&&◌, ◌||◌, ◌<◌, ◌↔◌, Bool, true, false, cond, not, List, [], ◌∷◌, map, take, get_or, length, refl, sym, ap, ◌∙◌, subst, inl, inr, arith}
use Rattle.std.specs.Prelude.{All}
use Rattle.std.specs.List.{list_any}
use Rattle.std.specs.Map.{keys_of}
use Rattle.std.proofs.lemmas.Bool.{cases_Bool, eqb-true, eq-eqb}
use Rattle.std.proofs.lemmas.List.Elements.{All-head, All-tail, All-weaker, filter_agree}
use Rattle.std.proofs.lemmas.List.Folds.{list_any_more}
use Rattle.et_loop.proofs.Dates.{true_false}
use Rattle.et_base.proofs.Lists.{has_contains, contains_has}
use Rattle.et_graph.specs.Graph.{AreDead, IsDead, IsReached}
use Rattle.et_graph.specs.Listing.{death_pairs}
use Rattle.et_graph.specs.declared.objects.Death.{Death}
use Rattle.et_heap.specs.Objects.{IsHeld, object_at}
use Rattle.et_heap.proofs.HeapLists.{gone_at, held_within}
use Rattle.et_program.specs.Entries.{Linked}
use Rattle.et_state.specs.Roots.{graph_of}
use Rattle.et_state.specs.State.{Kept}
use Rattle.et_state.specs.Texts.{Texts, texts_left, without_text}
use Rattle.et_event.specs.SoundTexts.{HasSoundTexts, is_text_class}

-- FORGETTING ONE AFTER ANOTHER

pub all_left : (es : Texts) → es ≡ texts_left (λ o. true) es
all_left [] = refl
all_left (e ∷ es) = ap (λ xs. e ∷ xs) (all_left es)

left_left : (f g : ℕ → Bool) (es : Texts) → texts_left g (texts_left f es) ≡ texts_left (λ o. f o && g o) es
left_left f g [] = refl
left_left f g (e ∷ es) = first (f e.0) ∙ ap (λ xs. cond (f e.0 && g e.0) (e ∷ xs) xs) (left_left f g es)
  where
    first : (a : Bool) → texts_left g (cond a (e ∷ texts_left f es) (texts_left f es)) ≡ cond (a && g e.0) (e ∷ texts_left g (texts_left f es)) (texts_left g (texts_left f es))
    first true = refl
    first false = refl

neither : (a b : Bool) → (not a && not b) ≡ not (a || b)
neither true b = refl
neither false b = refl

-- no death up to place i is of the object
abbrev pub unlisted : List Death → ℕ → Bool
unlisted deaths o = not (list_any (λ d. d.object == o) deaths)

pub forget_more : (deaths : List Death) (i : ℕ) (d : Death) (es : Texts) → i < length deaths
    → without_text (get_or deaths i d).object (texts_left (unlisted (take i deaths)) es) ≡ texts_left (unlisted (take (i + 1) deaths)) es
forget_more deaths i d es lt =
    left_left (unlisted (take i deaths)) (λ o. not ((get_or deaths i d).object == o)) es
    ∙ filter_agree _ _ (λ (e : ℕ × List ℕ). neither (list_any (λ x. x.object == e.0) (take i deaths)) ((get_or deaths i d).object == e.0) ∙ ap not (sym (list_any_more (λ (x : Death). x.object == e.0) deaths i d lt))) es

-- TWO TESTS THAT AGREE at each object that has a text leave the same texts

left_agree : (f g : ℕ → Bool) (es : Texts) → All (λ o. f o ≡ g o) (keys_of es) → texts_left f es ≡ texts_left g es
left_agree f g [] same = refl
left_agree f g (e ∷ es) same =
    ap (λ b. cond b (e ∷ texts_left f es) (texts_left f es)) (All-head (λ o. f o ≡ g o) e.0 (keys_of es) same)
    ∙ ap (λ xs. cond (g e.0) (e ∷ xs) xs) (left_agree f g es (All-tail (λ o. f o ≡ g o) e.0 (keys_of es) same))

-- WHAT IS HELD is reached, or else its death is listed

listed_objects : (deaths : List Death) (o : ℕ) → list_any (λ d. d.object == o) deaths ≡ list_any (λ k. k == o) (map (λ d. d.0) (death_pairs deaths))
listed_objects [] o = refl
listed_objects (d ∷ deaths) o = ap (λ b. d.object == o || b) (listed_objects deaths o)

module _ (s : Kept) (here : ℕ → Bool) (deaths : List Death) (none : IsHeld s.heap 0 → ⊥) (dead : AreDead (graph_of s) (map (λ d. d.0) (death_pairs deaths)))
    (tells : (o : ℕ) → IsHeld s.heap o → (here o ≡ true) ↔ IsReached (graph_of s) o) where
  is_positive : (o : ℕ) → IsHeld s.heap o → 0 < o
  is_positive o held =
      elim (cases_Bool (o == 0)) [
        | inl zero ↦ absurd (none (subst (λ n. IsHeld s.heap n) (eqb-true o 0 zero) held))
        | inr other ↦ omega (arith, λ (e : o ≡ 0). true_false (o == 0) (eq-eqb o 0 e) other)
      ]

  held_dies : (o : ℕ) → IsHeld s.heap o → (IsReached (graph_of s) o → ⊥) → IsDead (graph_of s) o
  held_dies o held unreached =
      let last = held_within s.heap o held in
      let first = is_positive o held in
      ((first, omega (arith, last)), unreached, λ c. (gone_at s.heap o c).2 held)

  agree_at : (o : ℕ) → IsHeld s.heap o → unlisted deaths o ≡ here o
  agree_at o held = by (list_any (λ d. d.object == o) deaths) (here o) refl refl
    where
      dead_there : list_any (λ d. d.object == o) deaths ≡ true → IsDead (graph_of s) o
      dead_there h = (dead.exact o).0 (has_contains (map (λ d. d.0) (death_pairs deaths)) o (sym (listed_objects deaths o) ∙ h))

      there_dead : IsDead (graph_of s) o → list_any (λ d. d.object == o) deaths ≡ true
      there_dead h = listed_objects deaths o ∙ contains_has (map (λ d. d.0) (death_pairs deaths)) o ((dead.exact o).1 h)

      by : (a b : Bool) → list_any (λ d. d.object == o) deaths ≡ a → here o ≡ b → not a ≡ b
      by true true listed stays = absurd ((dead_there listed).1 ((tells o held).0 stays))
      by true false listed goes = refl
      by false true out stays = refl
      by false false out goes =
          absurd (true_false (list_any (λ d. d.object == o) deaths) (there_dead (held_dies o held (λ r. true_false (here o) ((tells o held).1 r) goes))) out)

  -- so these are the texts that are left
  pub left_reached : (p : Linked) → HasSoundTexts p s → texts_left (unlisted deaths) s.guest.texts ≡ texts_left here s.guest.texts
  left_reached p sound =
      left_agree (unlisted deaths) here s.guest.texts
      (All-weaker (λ o. IsHeld s.heap o × (is_text_class p (object_at s.heap o).class ≡ true)) (λ o. unlisted deaths o ≡ here o) (λ o h. agree_at o h.0) (keys_of s.guest.texts) sound.owned)
