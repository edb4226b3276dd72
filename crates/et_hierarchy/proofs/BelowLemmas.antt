-- The lists name classes of the set alone.
use Rattle.std.proofs.Common.{ℕ, suc, ◌<◌, ◌==◌, Bool, true, false, cond, List, [], ◌∷◌, ◌++◌, Option, None, Some, arith}
use Rattle.std.specs.Prelude.{All}
use Rattle.std.specs.List.{list_any, flat_map}
use Rattle.std.specs.Option.{option_to_list}
use Rattle.std.proofs.lemmas.List.Elements.{All-nil, All-cons, All-append, All-push}
use Rattle.et_hierarchy.specs.Links.{LinkEntry, parents_of}
use Rattle.et_hierarchy.specs.Ancestry.{Ancestry, ancestry_at, class_added, added_all, ancestry_of, IsBelow}

module _ (n : ℕ) where
  pick : (b : Bool) (a c : List ℕ) → All (λ k. k < n) a → All (λ k. k < n) c → All (λ k. k < n) (cond b a c)
  pick true a c h g = h
  pick false a c h g = g

  below_added : (seen : List ℕ) (x : ℕ) → All (λ k. k < n) seen → x < n → All (λ k. k < n) (class_added seen x)
  below_added seen x h lt = pick (list_any (λ y. x == y) seen) seen (seen ++ x ∷ []) h (All-push (λ k. k < n) seen x h lt)

  pub below_added_all : (seen xs : List ℕ) → All (λ k. k < n) seen → All (λ k. k < n) xs → All (λ k. k < n) (added_all seen xs)
  below_added_all seen [] h g = h
  below_added_all seen (x ∷ xs) h g = below_added_all (class_added seen x) xs (below_added seen x h (g 0 x (omega arith))) (λ k d lt. g (suc k) d (omega arith))

  pub below_flat : (f : ℕ → List ℕ) (xs : List ℕ) → All (λ i. All (λ k. k < n) (f i)) xs → All (λ k. k < n) (flat_map f xs)
  below_flat f [] h = All-nil (λ k. k < n)
  below_flat f (x ∷ xs) h = All-append (λ k. k < n) (f x) (flat_map f xs) (h 0 x (omega arith)) (below_flat f xs (λ k d lt. h (suc k) d (omega arith)))

  below_row : (o : Option ℕ) (ints : List ℕ) (rows : List Ancestry) (k : ℕ) → k < n → All (λ p. p < n) (option_to_list o ++ ints) → All (λ p. IsBelow n (ancestry_at rows p)) (option_to_list o ++ ints) → IsBelow n (ancestry_of (record { above = o; interfaces = ints }) rows k)
  below_row None ints rows k lt h g = record {
    supers = All-nil (λ k. k < n);
    superinterfaces = below_added_all [] _ (All-nil (λ k. k < n)) (below_flat (λ i. (ancestry_at rows i).superinterfaces ++ i ∷ []) ints (λ j d l. All-push (λ k. k < n) _ _ (g j d l).superinterfaces (h j d l)));
    field_order = below_added_all [] (k ∷ (flat_map (λ i. (ancestry_at rows i).field_order) ints ++ [])) (All-nil (λ k. k < n)) (All-cons (λ k. k < n) k _ lt (All-append (λ k. k < n) _ [] (below_flat (λ i. (ancestry_at rows i).field_order) ints (λ j d l. (g j d l).field_order)) (All-nil (λ k. k < n))));
  }
  below_row (Some s) ints rows k lt h g =
      let top : IsBelow n (ancestry_at rows s) = g 0 s (omega arith) in
      record {
        supers = All-cons (λ k. k < n) s _ (h 0 s (omega arith)) top.supers;
        superinterfaces = below_added_all [] _ (All-nil (λ k. k < n)) (All-append (λ k. k < n) (ancestry_at rows s).superinterfaces _ top.superinterfaces (below_flat (λ i. (ancestry_at rows i).superinterfaces ++ i ∷ []) ints (λ j d l. All-push (λ k. k < n) _ _ (g (suc j) d (omega arith)).superinterfaces (h (suc j) d (omega arith)))));
        field_order = below_added_all [] (k ∷ (flat_map (λ i. (ancestry_at rows i).field_order) ints ++ (ancestry_at rows s).field_order)) (All-nil (λ k. k < n)) (All-cons (λ k. k < n) k _ lt (All-append (λ k. k < n) _ (ancestry_at rows s).field_order (below_flat (λ i. (ancestry_at rows i).field_order) ints (λ j d l. (g (suc j) d (omega arith)).field_order)) top.field_order));
      }

  pub below_of : (l : LinkEntry) (rows : List Ancestry) (k : ℕ) → k < n → All (λ p. p < n) (parents_of l) → All (λ p. IsBelow n (ancestry_at rows p)) (parents_of l) → IsBelow n (ancestry_of l rows k)
  below_of l rows k lt h g = below_row l.above l.interfaces rows k lt h g
