-- A search along slots.
use Rattle.std.proofs.Common.{◌≡◌, ℕ, ◌<◌, ◌≤◌, Bool, List, [], ◌∷◌, ◌++◌, length, filter, ap, get_or, sym, subst, ◌∙◌, arith, inl, inr, ◌⊎◌}
use Rattle.std.specs.Prelude.{Contains}
use Rattle.std.specs.BTreeMap.{BTreeMap}
use Rattle.std.proofs.lemmas.List.{get_or_default}
use Rattle.et_graph.specs.Graph.{Graph, IsReached}
use Rattle.et_base.proofs.Lists.{Contains-none, filter_kept, filter_keeps, in_longer}
use Rattle.et_base.proofs.Tests.{cases_eqb}
use Rattle.et_graph.proofs.Walks.{leads_itself, leads_first, reached_on, reached_all}
use Rattle.et_models.specs.declared.places.Place.{Place}
use Rattle.et_models.specs.declared.places.Place.TheVariants.{Nursery, Kept}
use Rattle.et_models.specs.Places.{place_at, is_old}
use Rattle.et_models.proofs.Spots.{old_nursery, old_is, cases_nursery}
use Rattle.et_models.specs.Marking.{Refers, MarksFrom, AllMarked, NamesInSlot, Stays, Draws, IsMarking, IsSeed, BeginsMarking, IsFound}
use Rattle.et_models.proofs.Marking.{in_front, at_end, not_back}

kept_nursery : {A : Type 0} (p : Place) → p ≡ Kept → p ≡ Nursery → A
kept_nursery p a b = absurd cc

-- what stays is reached
stays_reached : (g : Graph) (slots : List (BTreeMap ℕ ℕ)) (space : List ℕ) (start places : List Place) (work : List ℕ) (o : ℕ) → Draws g slots space start → IsMarking g slots space start places work → Stays space places o → IsReached g o
stays_reached g slots space start places work o d i (inl k) = elim (i.each o) [
  | inl e ↦ absurd (d.fresh o (sym e ∙ k))
  | inr r ↦ r.2
]
stays_reached g slots space start places work o d i (inr k) = d.old o k

reached_next : (g : Graph) (u t : ℕ) → IsReached g u → Contains g.pairs (u, t) → IsReached g t
reached_next g u t r c = reached_on g u t r (leads_first g.pairs u t t c (leads_itself g.pairs t))

-- an object that stays goes on staying
stays_on : (E : ℕ → Type 0) (space : List ℕ) (p : List Place) (w : List ℕ) (p' : List Place) (w' : List ℕ) (o : ℕ) → MarksFrom E p w p' w' → Stays space p o → Stays space p' o
stays_on E space p w p' w' o m s = elim (m.each o) [
  | inl e ↦ elim s [ inl k ↦ inl (e ∙ k) | inr k ↦ inr k ]
  | inr k ↦ inl k.is
]

stayed : (E : ℕ → Type 0) (space : List ℕ) (p : List Place) (w : List ℕ) (p' : List Place) (w' : List ℕ) (o : ℕ) → MarksFrom E p w p' w' → Stays space p' o → Stays space p o ⊎ Contains w' o
stayed E space p w p' w' o m s = elim (m.each o) [
  | inl e ↦ elim s [ inl k ↦ inl (inl (sym e ∙ k)) | inr k ↦ inl (inr k) ]
  | inr k ↦ inr k.waits
]

same_map : (slots : List (BTreeMap ℕ ℕ)) (o : ℕ) (m n : BTreeMap ℕ ℕ) → o < length slots → m ≡ get_or slots o m → n ≡ get_or slots o n → n ≡ m
same_map slots o m n lt e f = f ∙ (get_or_default slots o n m lt ∙ sym e)

pub going_visit : (g : Graph) (slots : List (BTreeMap ℕ ℕ)) (space : List ℕ) (start p : List Place) (w : List ℕ) (o : ℕ) (m : BTreeMap ℕ ℕ) (p' : List Place) (w' : List ℕ) → o < length slots → m ≡ get_or slots o m → MarksFrom (Refers m) p w p' w' → AllMarked (Refers m) p' → Draws g slots space start → IsMarking g slots space start p (w ++ o ∷ []) → IsMarking g slots space start p' w'
going_visit g slots space start p w o m p' w' lt at k all d i =
    let names = λ (t : ℕ) (r : Refers m t). let n : NamesInSlot slots o t = record { own = m; within = lt; stands = at; refers = r } in n in
    let own = stays_reached g slots space start p (w ++ o ∷ []) o d i (i.waits o (at_end w o)) in
    record {
      each = λ x. elim (k.each x) [
        | inl e ↦ elim (i.each x) [ inl f ↦ inl (e ∙ f) | inr r ↦ inr (r.0, e ∙ r.1, r.2) ]
        | inr y ↦ elim (i.each x) [
          | inl f ↦ (let first : place_at start x ≡ Nursery = sym f ∙ y.was in inr (first, y.is, reached_next g o x own (d.pairs o x (names x y.by) first)))
          | inr r ↦ kept_nursery (place_at p x) r.1 y.was
        ]
      ];
      waits = λ x h. elim (k.only x h) [
        | inl f ↦ stays_on (Refers m) space p w p' w' x k (i.waits x (in_front w o x f))
        | inr y ↦ inl y.is
      ];
      rooted = λ x h. stays_on (Refers m) space p w p' w' x k (i.rooted x h);
      as_long = k.as_long ∙ i.as_long;
      closed = λ u t s n. elim (cases_eqb u o) [
        | inl q ↦ (let same = same_map slots o m n.own lt at (subst (λ (j : ℕ). n.own ≡ get_or slots j n.own) q.1 n.stands) in inr (all t (subst (λ (v : BTreeMap ℕ ℕ). Refers v t) same n.refers)))
        | inr q ↦ elim (stayed (Refers m) space p w p' w' u k s) [
          | inl before ↦ elim (i.closed u t before n) [
            | inl c ↦ elim (in_longer w o u c) [ inl f ↦ inl (k.grows u f) | inr e ↦ absurd (q.1 e) ]
            | inr ne ↦ inr (not_back (Refers m) p w p' w' t k ne)
          ]
          | inr c ↦ inl c
        ]
      ];
    }

pub going_skip : (g : Graph) (slots : List (BTreeMap ℕ ℕ)) (space : List ℕ) (start p : List Place) (w : List ℕ) (o : ℕ) → length slots ≤ o → IsMarking g slots space start p (w ++ o ∷ []) → IsMarking g slots space start p w
going_skip g slots space start p w o le i = record {
  each = i.each;
  waits = λ x h. i.waits x (in_front w o x h);
  rooted = i.rooted;
  as_long = i.as_long;
  closed = λ u t s n. elim (i.closed u t s n) [
    | inl c ↦ elim (in_longer w o u c) [ inl f ↦ inl f | inr e ↦ (let within = n.within in absurd (omega (arith, within, le, e))) ]
    | inr ne ↦ inr ne
  ];
}

-- a search begins ..
pub going_first : (g : Graph) (nursery space noted : List ℕ) (dead : List Bool) (slots : List (BTreeMap ℕ ℕ)) (start p : List Place) (w : List ℕ) → BeginsMarking g nursery space noted dead slots start → MarksFrom (IsSeed nursery dead) start (filter (λ o. is_old (place_at start o)) noted) p w → AllMarked (IsSeed nursery dead) p → IsMarking g slots space start p w
going_first g nursery space noted dead slots start p w b m all = record {
  each = λ o. elim (m.each o) [ inl e ↦ inl e | inr k ↦ inr (k.was, k.is, b.seeds o k.by) ];
  waits = λ o h. elim (m.only o h) [ inl f ↦ inr (b.only_old o (old_is (place_at start o) (filter_kept (λ x. is_old (place_at start x)) noted o f).1)) | inr k ↦ inl k.is ];
  rooted = λ o h. elim (b.roots o h) [
    | inl s ↦ elim (m.each o) [ inl e ↦ absurd (all o s (e ∙ b.young o s.among)) | inr k ↦ inl k.is ]
    | inr c ↦ inr c
  ];
  as_long = m.as_long;
  closed = λ u t s n. elim s [
    | inl k ↦ elim (m.each u) [ inl e ↦ absurd (b.draws.fresh u (sym e ∙ k)) | inr y ↦ inl y.waits ]
    | inr c ↦ elim (cases_nursery (place_at p t)) [
      | inl y ↦ elim (m.each t) [
        | inl e ↦ inl (m.grows u (filter_keeps (λ x. is_old (place_at start x)) noted u (b.noted u t c n (sym e ∙ y)) (ap is_old (b.old u c))))
        | inr k ↦ kept_nursery (place_at p t) k.is y
      ]
      | inr ne ↦ inr ne
    ]
  ];
}

-- .. and ends
pub going_last : (g : Graph) (nursery space noted : List ℕ) (dead : List Bool) (slots : List (BTreeMap ℕ ℕ)) (start p : List Place) → BeginsMarking g nursery space noted dead slots start → IsMarking g slots space start p [] → IsFound g start p
going_last g nursery space noted dead slots start p b i = record {
  as_long = i.as_long;
  kept = λ o k. elim (i.each o) [ inl e ↦ absurd (b.draws.fresh o (sym e ∙ k)) | inr r ↦ r.2 ];
  reached = λ o y r. elim (reached_all (λ x. Stays space p x) g i.rooted (λ u x c s. elim (i.closed u x s (b.named u x c).0) [
    | inl none ↦ absurd (Contains-none u none)
    | inr ne ↦ elim (i.each x) [ inl e ↦ absurd (ne (e ∙ (b.named u x c).1)) | inr k ↦ inl k.1 ]
  ]) o r) [
    | inl k ↦ k
    | inr c ↦ old_nursery (place_at start o) (b.old o c) y
  ];
  others = λ o ne. elim (i.each o) [ inl e ↦ e | inr r ↦ absurd (ne r.0) ];
  left = λ o y. elim (i.each o) [ inl e ↦ inl (e ∙ y) | inr r ↦ inr r.1 ];
}
