-- What keeps the tables of two spaces true.
use Rattle.std.proofs.Common.{◌≡◌, ◌≢◌, ℕ, ◌+◌, ◌-◌, ◌<◌, ◌≤◌, Bool, true, false, cond, not, ◌&&◌, eqb, List, [], ◌∷◌, ◌++◌, length, get_or, filter, Option, Some, None, refl, sym, ap, subst, ◌∙◌, arith, inl, inr, ◌⊎◌, max}
use Rattle.std.specs.Prelude.{Contains, is_some, sum, unwrap_or}
use Rattle.std.specs.List.{sum_by}
use Rattle.std.specs.BTreeMap.{BTreeMap, get}
use Rattle.std.specs.Ordering.{nat_cmp}
use Rattle.std.proofs.Math.ListN.{length-set}
use Rattle.std.proofs.lemmas.List.{get_or_past}
use Rattle.std.proofs.lemmas.List.Elements.{All-filter, All-append, All-push, Contains-append_left, Contains-append_right, Contains-append_cases}
use Rattle.std.proofs.lemmas.List.Filters.{sum_by-filter_both}
use Rattle.std.proofs.lemmas.List.Sums.{sum_by-append, sum_by-cons, sum_by_push}
use Rattle.std.proofs.lemmas.Bool.{cases_Bool}
use Rattle.et_graph.specs.Graph.{Graph, Decides}
use Rattle.et_base.proofs.Lists.{Contains-none, filter_kept, filter_keeps, in_longer}
use Rattle.et_base.proofs.Tests.{cases_eqb}
use Rattle.et_graph.proofs.Walks.{is_reached}
use Rattle.et_replay.specs.declared.item.Item.{Item}
use Rattle.et_replay.specs.declared.item.Item.TheVariants.{Alloc, Write, Death}
use Rattle.et_replay.specs.Feeding.{IsNewObject}
use Rattle.et_replay.specs.Heap.{size_in, is_made, is_live, bytes, content}
use Rattle.et_replay.specs.Items.{sizes}
use Rattle.et_replay.specs.Tally.{live_of, dead_of, sweep, exhaust, place, place_young, nursery_graph, survivors, promote}
use Rattle.et_models.specs.declared.places.Place.{Place}
use Rattle.et_models.specs.declared.places.Place.TheVariants.{Nowhere, Nursery, Old}
use Rattle.et_models.specs.Tables.{size_at, flag_at, with_flag}
use Rattle.et_models.specs.Places.{place_at, with_place, is_kept, place_settled, without_dead, AreCollected}
use Rattle.et_models.specs.Marking.{BeginsMarking, IsFound}
use Rattle.et_models.specs.Spaces.{unflagged}
use Rattle.et_models.specs.Generations.{Both, KnowsSlots, KnowsPlaces, AreNoted, HoldsMade, IsReadyToCollect, WritesSlot, swept, promoted, placed_young, placed_old, left_out, reference_noted}
use Rattle.et_replay.proofs.Coming.{AreMade, are_made_on, apart, bytes_stay, size_here, all_low, in_range}
use Rattle.et_models.proofs.Marking.{at_end, in_front}
use Rattle.et_models.proofs.Totals.{sum_is, unflagged_is, knows_more, knows_death}
use Rattle.et_models.proofs.Contents.{element}
use Rattle.et_models.proofs.Spots.{nowhere_nursery, old_nursery, kept_is, set_here, set_there, without_long, without_each, without_out}
use Rattle.et_models.proofs.Noted.{unmade_before, names_made, noted_is, noted_keeps, noted_early, noted_young, in_either, names_before}
use Rattle.et_models.proofs.Promoting.{filter_le, of_all, begins, survive}

-- A COLLECTION OF THE OLD SPACE

not_flagged : {A : Type 0} (b : Bool) → not b ≡ true → b ≡ true → A
not_flagged true x y = absurd cc
not_flagged false x y = absurd cc

swept_places : (v : Both) (n : ℕ) → KnowsPlaces v.places n v.heap.nursery v.heap.space → KnowsPlaces (without_dead v.dead v.heap.space v.places) n v.heap.nursery (unflagged v.dead v.heap.space)
swept_places v n k =
    let space = v.heap.space in
    let test = λ (p : ℕ). not (flag_at v.dead p) in
    record {
      long = without_long v.dead space v.places ∙ k.long;
      young = λ o c. elim (without_each v.dead space v.places o) [
        | inl e ↦ e ∙ k.young o c
        | inr x ↦ old_nursery (place_at v.places o) (k.old o x.0) (k.young o c)
      ];
      old = λ o c. (let f = filter_kept test space o c in elim (without_each v.dead space v.places o) [
        | inl e ↦ e ∙ k.old o f.0
        | inr x ↦ not_flagged (flag_at v.dead o) f.1 x.1
      ]);
      only = λ o. elim (without_each v.dead space v.places o) [
        | inl e ↦ elim (k.only o) [
          | inl z ↦ inl (e ∙ z)
          | inr x ↦ elim x [
            | inl c ↦ inr (inl c)
            | inr c ↦ elim (cases_Bool (flag_at v.dead o)) [
              | inl d ↦ inl (without_out v.dead space v.places o c d)
              | inr d ↦ inr (inr (filter_keeps test space o c (ap not d)))
            ]
          ]
        ]
        | inr x ↦ inl x.2
      ];
    }

pub swept_ready : (v : Both) (n : ℕ) (past : List Item) (a b : ℕ) → IsReadyToCollect v n past a b → IsReadyToCollect (swept v) n past a (b + 1) × ((swept v).heap ≡ sweep past v.heap)
swept_ready v n past a b r =
    let h = v.heap in
    let live : unflagged v.dead h.space ≡ live_of past h.space = unflagged_is n past v.sizes v.dead h.space r.fed r.knows r.holds.old_made in
    let stay : AreMade past (live_of past h.space) = All-filter (is_live past) (λ o. is_made past o ≡ true) h.space r.holds.old_made in
    let stays : AreMade past (unflagged v.dead h.space) = subst (λ (l : List ℕ). AreMade past l) (sym live) stay in
    let kept : sum_by (size_at v.sizes) (unflagged v.dead h.space) ≡ bytes past (unflagged v.dead h.space) = sum_is n past v.sizes v.dead (unflagged v.dead h.space) r.fed r.knows stays in
    let same : bytes past (unflagged v.dead h.space) ≡ bytes past (live_of past h.space) = ap (λ (l : List ℕ). bytes past l) live in
    let parts = sum_by-filter_both (is_live past) (λ o. not (is_live past o)) (λ o. refl) (λ o. unwrap_or (size_in past o) 0) h.space in
    let old = r.holds.old_bytes_is in let sums = r.holds.sums in let major = r.collected.major_low in
    let freed : h.freed + (v.old_bytes - sum_by (size_at v.sizes) (unflagged v.dead h.space)) ≡ h.freed + bytes past (dead_of past h.space) = omega (arith, old, kept, same, parts) in (
      record {
        fed = r.fed;
        few = r.few;
        knows = r.knows;
        slots = r.slots;
        places = swept_places v n r.places;
        noted = record {
          young = λ u t c m y. r.noted.young u t (filter_kept (λ p. not (flag_at v.dead p)) h.space u c).0 m (elim (without_each v.dead h.space v.places t) [ inl e ↦ sym e ∙ y | inr k ↦ nowhere_nursery (place_at (without_dead v.dead h.space v.places) t) k.2 y ]);
          early = r.noted.early;
        };
        holds = record {
          young_bytes_is = r.holds.young_bytes_is;
          old_bytes_is = kept;
          young_made = r.holds.young_made;
          old_made = stays;
          sums = omega (arith, old, kept, same, parts, sums);
        };
        collected = record { kept_low = r.collected.kept_low; minor_low = r.collected.minor_low; major_low = omega (arith, major) };
      },
      ap (λ (l : List ℕ). record h { space = l; major = h.major + 1; freed = h.freed + (v.old_bytes - sum_by (size_at v.sizes) (unflagged v.dead h.space)) }) live
          ∙ ap (λ (f : ℕ). record h { space = live_of past h.space; major = h.major + 1; freed = f }) freed,
    )

-- A MINOR COLLECTION

promoted_places : (v : Both) (n : ℕ) (g : Graph) (marked places : List Place) → KnowsPlaces v.places n v.heap.nursery v.heap.space → IsFound g v.places marked → AreCollected v.heap.nursery marked places → KnowsPlaces places n [] (v.heap.space ++ filter (λ o. is_kept (place_at marked o)) v.heap.nursery)
promoted_places v n g marked places k f cleared =
    let h = v.heap in
    let test = λ (o : ℕ). is_kept (place_at marked o) in
    let stays : (o : ℕ) (p : Place) → place_at v.places o ≡ p → p ≢ Nursery → place_at places o ≡ p = λ o p e ne. elim (cleared.each o) [
      | inl c ↦ c ∙ (f.others o (λ y. ne (sym e ∙ y)) ∙ e)
      | inr c ↦ absurd (ne (sym e ∙ k.young o c))
    ] in
    let old : (o : ℕ) → Contains h.space o → place_at places o ≡ Old = λ o c. stays o Old (k.old o c) (λ y. old_nursery Old refl y) in
    record {
      long = cleared.as_long ∙ (f.as_long ∙ k.long);
      young = λ o c. absurd (Contains-none o c);
      old = λ o c. elim (Contains-append_cases h.space (filter test h.nursery) o c) [
        | inl x ↦ old o x
        | inr y ↦ (let z = filter_kept test h.nursery o y in cleared.moved o z.0 ∙ ap place_settled (kept_is (place_at marked o) z.1))
      ];
      only = λ o. elim (k.only o) [
        | inl e ↦ inl (stays o Nowhere e (λ y. nowhere_nursery Nowhere refl y))
        | inr x ↦ elim x [
          | inl c ↦ elim (f.left o (k.young o c)) [
            | inl y ↦ inl (cleared.moved o c ∙ ap place_settled y)
            | inr y ↦ inr (inr (Contains-append_right h.space (filter test h.nursery) o (filter_keeps test h.nursery o c (ap is_kept y))))
          ]
          | inr c ↦ inr (inr (Contains-append_left h.space (filter test h.nursery) o c))
        ]
      ];
    }

pub promoted_ready : (v : Both) (n : ℕ) (past : List Item) (a b : ℕ) (marked places : List Place) → IsReadyToCollect v n past a b → ((g : Graph) (space : List ℕ) → BeginsMarking g v.heap.nursery space (v.remembered ++ v.early) v.dead v.slots v.places → IsFound g v.places marked) → AreCollected v.heap.nursery marked places → IsReadyToCollect (promoted marked places v) n past (a + 1) b
promoted_ready v n past a b marked places r found cleared =
    let h = v.heap in
    let test = λ (o : ℕ). is_kept (place_at marked o) in
    let f = found (nursery_graph is_reached past h) h.space (begins is_reached v n past a b r) in
    let low = all_low n past r.few r.fed in
    let stay : AreMade past (filter test h.nursery) = All-filter test (λ o. is_made past o ≡ true) h.nursery r.holds.young_made in
    let more : sum_by (size_at v.sizes) (filter test h.nursery) ≡ bytes past (filter test h.nursery) = sum_is n past v.sizes v.dead (filter test h.nursery) r.fed r.knows stay in
    let le = filter_le test (λ o. unwrap_or (size_in past o) 0) h.nursery in
    let both = sum_by-append (λ o. unwrap_or (size_in past o) 0) h.space (filter test h.nursery) in
    let old = r.holds.old_bytes_is in let sums = r.holds.sums in let minor = r.collected.minor_low in let kept = r.collected.kept_low in
    let settled_places = promoted_places v n (nursery_graph is_reached past h) marked places r.places f cleared in
    record {
      fed = r.fed;
      few = r.few;
      knows = r.knows;
      slots = r.slots;
      places = settled_places;
      noted = record {
        young = λ u t c m y. elim (settled_places.only t) [
          | inl e ↦ nowhere_nursery (place_at places t) e y
          | inr x ↦ elim x [ inl k ↦ absurd (Contains-none t k) | inr k ↦ old_nursery (place_at places t) (settled_places.old t k) y ]
        ];
        early = r.noted.early;
      };
      holds = record {
        young_bytes_is = refl;
        old_bytes_is = omega (arith, old, more, both);
        young_made = λ k d lt. absurd (omega (arith, lt));
        old_made = All-append (λ o. is_made past o ≡ true) h.space (filter test h.nursery) r.holds.old_made stay;
        sums = omega (arith, sums, le, both);
      };
      collected = record { kept_low = omega (arith, kept, more, le, sums, low); minor_low = omega (arith, minor); major_low = r.collected.major_low };
    }

pub promoted_is : (reached : Graph → ℕ → Bool) → Decides reached → (v : Both) (n : ℕ) (past : List Item) (a b : ℕ) (marked places : List Place) → IsReadyToCollect v n past a b → ((g : Graph) (space : List ℕ) → BeginsMarking g v.heap.nursery space (v.remembered ++ v.early) v.dead v.slots v.places → IsFound g v.places marked) → (promoted marked places v).heap ≡ promote reached past v.heap
promoted_is reached decides v n past a b marked places r found =
    let h = v.heap in
    let test = λ (o : ℕ). is_kept (place_at marked o) in
    let g = nursery_graph reached past h in
    let stay : AreMade past (filter test h.nursery) = All-filter test (λ o. is_made past o ≡ true) h.nursery r.holds.young_made in
    let more : sum_by (size_at v.sizes) (filter test h.nursery) ≡ bytes past (filter test h.nursery) = sum_is n past v.sizes v.dead (filter test h.nursery) r.fed r.knows stay in
    let same : filter test h.nursery ≡ survivors reached past h = survive reached decides g h.nursery v.places marked r.places.young (found g h.space (begins reached v n past a b r)) in
    ap (λ (m : ℕ). record h { nursery = []; space = h.space ++ filter test h.nursery; minor = h.minor + 1; kept = h.kept + m }) more
    ∙ ap (λ (l : List ℕ). record h { nursery = []; space = h.space ++ l; minor = h.minor + 1; kept = h.kept + bytes past l }) same

-- AN OBJECT COMES

slots_stay : (slots : List (BTreeMap ℕ ℕ)) (n : ℕ) (past : List Item) (event object size : ℕ) → KnowsSlots slots n past → KnowsSlots slots n (Alloc event object size ∷ past)
slots_stay slots n past event object size k = record { long = k.long; content_is = k.content_is }

-- a made object isn't the new one
of_new : (past : List Item) (object : ℕ) → is_made past object ≡ false → (o : ℕ) → is_made past o ≡ true → o ≢ object
of_new past object new o m q = apart past object o new m (sym q)

plus_is : (a b c d : ℕ) → a ≡ b → c ≡ d → a + c ≡ b + d
plus_is a b c d e f = omega arith

-- what both spaces hold once a new object came, which neither holds yet
record Came (v : Both) (past : List Item) (event object size : ℕ) : Type 0 where
  pub holds : HoldsMade v (Alloc event object size ∷ past)
  pub within : object < length v.places
  pub made : is_made (Alloc event object size ∷ past) object ≡ true
  pub own : unwrap_or (size_in (Alloc event object size ∷ past) object) 0 ≡ size
  pub room : v.heap.freed + (bytes (Alloc event object size ∷ past) v.heap.nursery + bytes (Alloc event object size ∷ past) v.heap.space) + size ≤ sum (sizes (Alloc event object size ∷ past))

came : (v : Both) (n : ℕ) (past : List Item) (a b event object size : ℕ) → IsNewObject n past object size → IsReadyToCollect v n past a b → Came v past event object size
came v n past a b event object size c r =
    let k = r.holds in
    let item = Alloc event object size in
    let young = bytes_stay n past item v.heap.nursery c k.young_made in
    let old = bytes_stay n past item v.heap.space c k.old_made in
    let all = sum_by-cons (λ x. x) size (sizes past) in
    let yb = k.young_bytes_is in let ob = k.old_bytes_is in let sums = k.sums in
    let last = c.last in let long = r.places.long in
    record {
      holds = record { young_bytes_is = omega (arith, yb, young); old_bytes_is = omega (arith, ob, old); young_made = are_made_on past item v.heap.nursery k.young_made; old_made = are_made_on past item v.heap.space k.old_made; sums = omega (arith, sums, young, old, all) };
      within = omega (arith, last, long);
      made = ap (λ (s : Option ℕ). is_some s) (size_here past event object size);
      own = ap (λ (s : Option ℕ). unwrap_or s 0) (size_here past event object size);
      room = omega (arith, sums, young, old, all);
    }

pub young_ready : (v : Both) (n : ℕ) (past : List Item) (a b event object size : ℕ) → IsNewObject n past object size → IsReadyToCollect v n past a b → IsReadyToCollect (placed_young object size v) n (Alloc event object size ∷ past) a b × ((placed_young object size v).heap ≡ place_young (Alloc event object size ∷ past) object v.heap)
young_ready v n past a b event object size c r =
    let h = v.heap in
    let item = Alloc event object size in
    let new = came v n past a b event object size c r in
    let more = sum_by_push (λ o. unwrap_or (size_in (item ∷ past) o) 0) h.nursery object in
    let own = new.own in let room = new.room in let held = new.holds.young_bytes_is in
    let here = set_here v.places object Nursery new.within in
    let there = set_there v.places object Nursery in
    let new_one = of_new past object c.new in
    let total : v.young_bytes + size ≡ bytes (item ∷ past) (h.nursery ++ object ∷ []) = omega (arith, held, own, more) in (
      record {
        fed = (r.fed, c);
        few = r.few;
        knows = knows_more n past v.sizes v.dead event object size c r.knows;
        slots = slots_stay v.slots n past event object size r.slots;
        places = record {
          long = length-set v.places object Nursery ∙ r.places.long;
          young = λ o k. elim (cases_eqb o object) [
            | inl e ↦ subst (λ (x : ℕ). place_at (with_place v.places object Nursery) x ≡ Nursery) (sym e.1) here
            | inr e ↦ elim (in_longer h.nursery object o k) [ inl f ↦ there o e.1 ∙ r.places.young o f | inr q ↦ absurd (e.1 q) ]
          ];
          only = λ o. elim (cases_eqb o object) [
            | inl e ↦ inr (inl (subst (λ (x : ℕ). Contains (h.nursery ++ object ∷ []) x) (sym e.1) (at_end h.nursery object)))
            | inr e ↦ elim (r.places.only o) [ inl f ↦ inl (there o e.1 ∙ f) | inr x ↦ elim x [ inl k ↦ inr (inl (in_front h.nursery object o k)) | inr k ↦ inr (inr k) ] ]
          ];
          old = λ o k. there o (new_one o (of_all (λ x. is_made past x ≡ true) h.space o r.holds.old_made k)) ∙ r.places.old o k;
        };
        noted = record {
          young = λ u t k m y. elim (cases_eqb t object) [
            | inl e ↦ (let first = c.first in let same = e.1 in let nz : t ≢ 0 = λ z. omega (arith, first, same, z) in
                Contains-append_right v.remembered v.early u (r.noted.early u t m nz (subst (λ (x : ℕ). is_made past x ≡ false) (sym e.1) c.new)))
            | inr e ↦ r.noted.young u t k m (sym (there t e.1) ∙ y)
          ];
          early = λ u t m nz un. r.noted.early u t m nz (unmade_before past item t un);
        };
        holds = record {
          young_bytes_is = total;
          old_bytes_is = new.holds.old_bytes_is;
          young_made = All-push (λ o. is_made (item ∷ past) o ≡ true) h.nursery object new.holds.young_made new.made;
          old_made = new.holds.old_made;
          sums = omega (arith, room, own, more);
        };
        collected = record { kept_low = r.collected.kept_low; minor_low = r.collected.minor_low; major_low = r.collected.major_low };
      },
      ap (λ (k : ℕ). record h { nursery = h.nursery ++ object ∷ []; peak = max h.peak k }) (plus_is (v.young_bytes + size) (bytes (item ∷ past) (h.nursery ++ object ∷ [])) v.old_bytes (bytes (item ∷ past) h.space) total new.holds.old_bytes_is),
    )

-- what is at a place of the nursery is in it, so it is made and not null
in_nursery : (v : Both) (n : ℕ) (past : List Item) (a b o : ℕ) → IsReadyToCollect v n past a b → place_at v.places o ≡ Nursery → Contains v.heap.nursery o
in_nursery v n past a b o r y = elim (r.places.only o) [
  | inl e ↦ nowhere_nursery (place_at v.places o) e y
  | inr x ↦ elim x [ inl c ↦ c | inr c ↦ old_nursery (place_at v.places o) (r.places.old o c) y ]
]

in_nursery_made : (v : Both) (n : ℕ) (past : List Item) (a b o : ℕ) → IsReadyToCollect v n past a b → place_at v.places o ≡ Nursery → is_made past o ≡ true
in_nursery_made v n past a b o r y = of_all (λ x. is_made past x ≡ true) v.heap.nursery o r.holds.young_made (in_nursery v n past a b o r y)

in_nursery_some : (v : Both) (n : ℕ) (past : List Item) (a b o : ℕ) → IsReadyToCollect v n past a b → place_at v.places o ≡ Nursery → o ≢ 0
in_nursery_some v n past a b o r y z = (let first = (in_range n past o r.fed (in_nursery_made v n past a b o r y)).0 in omega (arith, first, z))

places_with : (v : Both) (n : ℕ) (past : List Item) (object : ℕ) → object < length v.places → ((o : ℕ) → Contains v.heap.nursery o → o ≢ object) → ((o : ℕ) → Contains v.heap.space o → o ≢ object) → KnowsPlaces v.places n v.heap.nursery v.heap.space → KnowsPlaces (with_place v.places object Old) n v.heap.nursery (v.heap.space ++ object ∷ [])
places_with v n past object within young old k =
    let here = set_here v.places object Old within in
    let there = set_there v.places object Old in
    record {
      long = length-set v.places object Old ∙ k.long;
      young = λ o c. there o (young o c) ∙ k.young o c;
      old = λ o c. elim (in_longer v.heap.space object o c) [
        | inl f ↦ there o (old o f) ∙ k.old o f
        | inr q ↦ subst (λ (x : ℕ). place_at (with_place v.places object Old) x ≡ Old) (sym q) here
      ];
      only = λ o. elim (cases_eqb o object) [
        | inl e ↦ inr (inr (subst (λ (x : ℕ). Contains (v.heap.space ++ object ∷ []) x) (sym e.1) (at_end v.heap.space object)))
        | inr e ↦ elim (k.only o) [
          | inl f ↦ inl (there o e.1 ∙ f)
          | inr x ↦ elim x [ inl c ↦ inr (inl c) | inr c ↦ inr (inr (in_front v.heap.space object o c)) ]
        ]
      ];
    }

-- a new object refers to nothing
noted_with : (v : Both) (n : ℕ) (past : List Item) (a b event object size : ℕ) → object < length v.places → IsNewObject n past object size → IsReadyToCollect v n past a b → AreNoted (placed_old object size v) (Alloc event object size ∷ past)
noted_with v n past a b event object size within c r =
    let h = v.heap in
    let here = set_here v.places object Old within in
    let there = set_there v.places object Old in
    record {
      young = λ u t k m y. elim (cases_eqb t object) [
        | inl e ↦ old_nursery (place_at (with_place v.places object Old) object) here (subst (λ (x : ℕ). place_at (with_place v.places object Old) x ≡ Nursery) e.1 y)
        | inr e ↦ (let was = sym (there t e.1) ∙ y in elim (in_longer h.space object u k) [
          | inl f ↦ r.noted.young u t f m was
          | inr q ↦
              let made = names_made v.slots n past u t r.slots m (in_nursery_some v n past a b t r was) in
              absurd (of_new past object c.new u made q)
        ])
      ];
      early = λ u t m nz un. r.noted.early u t m nz (unmade_before past (Alloc event object size) t un);
    }

pub old_ready : (v : Both) (n : ℕ) (past : List Item) (a b event object size : ℕ) → IsNewObject n past object size → IsReadyToCollect v n past a b → IsReadyToCollect (placed_old object size v) n (Alloc event object size ∷ past) a b × ((placed_old object size v).heap ≡ place (Alloc event object size ∷ past) object v.heap)
old_ready v n past a b event object size c r =
    let h = v.heap in
    let item = Alloc event object size in
    let new = came v n past a b event object size c r in
    let more = sum_by_push (λ o. unwrap_or (size_in (item ∷ past) o) 0) h.space object in
    let own = new.own in let room = new.room in let held = new.holds.old_bytes_is in
    let new_one = of_new past object c.new in
    let total : v.old_bytes + size ≡ bytes (item ∷ past) (h.space ++ object ∷ []) = omega (arith, held, own, more) in (
      record {
        fed = (r.fed, c);
        few = r.few;
        knows = knows_more n past v.sizes v.dead event object size c r.knows;
        slots = slots_stay v.slots n past event object size r.slots;
        places = places_with v n past object new.within (λ o k. new_one o (of_all (λ x. is_made past x ≡ true) h.nursery o r.holds.young_made k)) (λ o k. new_one o (of_all (λ x. is_made past x ≡ true) h.space o r.holds.old_made k)) r.places;
        noted = noted_with v n past a b event object size new.within c r;
        holds = record {
          young_bytes_is = new.holds.young_bytes_is;
          old_bytes_is = total;
          young_made = new.holds.young_made;
          old_made = All-push (λ o. is_made (item ∷ past) o ≡ true) h.space object new.holds.old_made new.made;
          sums = omega (arith, room, own, more);
        };
        collected = record { kept_low = r.collected.kept_low; minor_low = r.collected.minor_low; major_low = r.collected.major_low };
      },
      ap (λ (k : ℕ). record h { space = h.space ++ object ∷ []; peak = max h.peak k }) (plus_is v.young_bytes (bytes (item ∷ past) h.nursery) (v.old_bytes + size) (bytes (item ∷ past) (h.space ++ object ∷ [])) new.holds.young_bytes_is total),
    )

pub left_ready : (v : Both) (n : ℕ) (past : List Item) (a b event object size : ℕ) → IsNewObject n past object size → IsReadyToCollect v n past a b → IsReadyToCollect (left_out event object size v) n (Alloc event object size ∷ past) a b × ((left_out event object size v).heap ≡ exhaust event v.heap)
left_ready v n past a b event object size c r =
    let h = v.heap in
    let item = Alloc event object size in
    let t = (came v n past a b event object size c r).holds in (
      record {
        fed = (r.fed, c);
        few = r.few;
        knows = knows_more n past v.sizes v.dead event object size c r.knows;
        slots = slots_stay v.slots n past event object size r.slots;
        places = r.places;
        noted = record { young = r.noted.young; early = λ u t m nz un. r.noted.early u t m nz (unmade_before past item t un) };
        holds = record { young_bytes_is = t.young_bytes_is; old_bytes_is = t.old_bytes_is; young_made = t.young_made; old_made = t.old_made; sums = t.sums };
        collected = record { kept_low = r.collected.kept_low; minor_low = r.collected.minor_low; major_low = r.collected.major_low };
      },
      refl,
    )

pub ready_more : (v : Both) (n : ℕ) (past : List Item) (a b a' b' : ℕ) → a ≤ a' → b ≤ b' → IsReadyToCollect v n past a b → IsReadyToCollect v n past a' b'
ready_more v n past a b a' b' x y r = record {
  fed = r.fed;
  few = r.few;
  knows = r.knows;
  slots = r.slots;
  places = r.places;
  noted = r.noted;
  holds = r.holds;
  collected = record { kept_low = r.collected.kept_low; minor_low = (let m = r.collected.minor_low in omega (arith, m, x)); major_low = (let m = r.collected.major_low in omega (arith, m, y)) };
}

-- A DEATH

pub died_ready : (v : Both) (n : ℕ) (past : List Item) (a b object time : ℕ) → IsReadyToCollect v n past a b → IsReadyToCollect (record v { dead = with_flag v.dead object }) n (Death object time ∷ past) a b
died_ready v n past a b object time r = record {
  fed = (r.fed, tt);
  few = r.few;
  knows = knows_death n past v.sizes v.dead object time r.knows;
  slots = record { long = r.slots.long; content_is = r.slots.content_is };
  places = r.places;
  noted = record { young = r.noted.young; early = r.noted.early };
  holds = record { young_bytes_is = r.holds.young_bytes_is; old_bytes_is = r.holds.old_bytes_is; young_made = r.holds.young_made; old_made = r.holds.old_made; sums = r.holds.sums };
  collected = record { kept_low = r.collected.kept_low; minor_low = r.collected.minor_low; major_low = r.collected.major_low };
}

-- SOMETHING IS WRITTEN TO A SLOT

cond_on : (a b c : Bool) (x y : ℕ) → a ≡ true → c ≡ true → cond (a && b && c) x y ≡ cond b x y
cond_on true true true x y e f = refl
cond_on true false true x y e f = refl
cond_on false b c x y e f = absurd cc
cond_on true b false x y e f = absurd cc

cond_off : (a b c : Bool) (x y : ℕ) → (a ≡ false) ⊎ (c ≡ false) → cond (a && b && c) x y ≡ y
cond_off false b c x y o = refl
cond_off true false c x y o = refl
cond_off true true false x y o = refl
cond_off true true true x y (inl e) = absurd cc
cond_off true true true x y (inr e) = absurd cc

in_slot : (t : Bool) (new : ℕ) (v : Option ℕ) → unwrap_or (cond t (Some new) v) 0 ≡ cond t new (unwrap_or v 0)
in_slot true new v = refl
in_slot false new v = refl

wrote_slots : (slots slots' : List (BTreeMap ℕ ℕ)) (n : ℕ) (past : List Item) (event object slot new : ℕ) → is_made past object ≡ true → WritesSlot slots slots' object slot new → KnowsSlots slots n past → KnowsSlots slots' n (Write event object slot new ∷ past)
wrote_slots slots slots' n past event object slot new m w k = record {
  long = w.as_long ∙ k.long;
  content_is = λ o s own lt at. (let long = w.as_long in
      let before : o < length slots = omega (arith, lt, long) in
      elim (cases_eqb object o) [
        | inl e ↦
            let was = element slots o before in
            let at_object = subst (λ (x : ℕ). was.0 ≡ get_or slots x was.0) (sym e.1) was.1 in
            let now_object = subst (λ (x : ℕ). own ≡ get_or slots' x own) (sym e.1) at in
            let is = w.at s was.0 own at_object now_object in
            let made_it : is_made past o ≡ true = subst (λ (x : ℕ). is_made past x ≡ true) e.1 m in
            ap (λ (x : Option ℕ). unwrap_or x 0) is
            ∙ (in_slot (eqb slot s) new (get nat_cmp was.0 s)
            ∙ (ap (λ (x : ℕ). cond (eqb slot s) new x) (k.content_is o s was.0 before was.1)
            ∙ sym (cond_on (eqb object o) (eqb slot s) (is_made past o) new (content past o s) e.0 made_it)))
        | inr e ↦ k.content_is o s own before (w.others o own (λ q. e.1 (sym q)) at) ∙ sym (cond_off (eqb object o) (eqb slot s) (is_made past o) new (content past o s) (inl e.0))
      ]);
}

ignored_slots : (slots : List (BTreeMap ℕ ℕ)) (n : ℕ) (past : List Item) (event object slot new : ℕ) → is_made past object ≡ false → KnowsSlots slots n past → KnowsSlots slots n (Write event object slot new ∷ past)
ignored_slots slots n past event object slot new m k = record {
  long = k.long;
  content_is = λ o s own lt at. k.content_is o s own lt at ∙ sym (cond_off (eqb object o) (eqb slot s) (is_made past o) new (content past o s) (elim (cases_eqb object o) [ inl e ↦ inr (subst (λ (x : ℕ). is_made past x ≡ false) e.1 m) | inr e ↦ inl e.0 ]));
}

-- an object is made where the table has its bytes
sized_made : (v : Both) (n : ℕ) (past : List Item) (a b o : ℕ) → IsReadyToCollect v n past a b → is_made past o ≡ false → is_some (get_or v.sizes o None) ≡ false
sized_made v n past a b o r un = elim (less o (length v.sizes)) [
  | inl lt ↦ (let long = r.knows.sizes_long in ap (λ (s : Option ℕ). is_some s) (r.knows.size_is o (omega (arith, lt, long))) ∙ un)
  | inr ge ↦ ap (λ (s : Option ℕ). is_some s) (get_or_past v.sizes o None ge)
]
  where
    less : (a b : ℕ) → (a < b) ⊎ (b ≤ a)
    less a b = grind arith

made_sized : (v : Both) (n : ℕ) (past : List Item) (a b o : ℕ) → IsReadyToCollect v n past a b → is_made past o ≡ true → is_some (get_or v.sizes o None) ≡ true
made_sized v n past a b o r m = ap (λ (s : Option ℕ). is_some s) (r.knows.size_is o (in_range n past o r.fed m).1) ∙ m

-- what is noted after an object was written to a slot
wrote_noted : (v : Both) (n : ℕ) (past : List Item) (a b event object slot new : ℕ) (slots' : List (BTreeMap ℕ ℕ)) → WritesSlot v.slots slots' object slot new → IsReadyToCollect v n past a b → AreNoted (record v { slots = slots'; remembered = (reference_noted object new v).remembered; early = (reference_noted object new v).early }) (Write event object slot new ∷ past)
wrote_noted v n past a b event object slot new slots' w r =
    let x = reference_noted object new v in
    record {
      young = λ u t k m y. elim (names_before v.slots slots' object slot new u t w m) [
        | inl e ↦
            let old : place_at v.places object ≡ Old = subst (λ (j : ℕ). place_at v.places j ≡ Old) e.0 (r.places.old u k) in
            let fresh : place_at v.places new ≡ Nursery = subst (λ (j : ℕ). place_at v.places j ≡ Nursery) e.1 y in
            let some = in_nursery_some v n past a b new r fresh in
            let sized = made_sized v n past a b new r (in_nursery_made v n past a b new r fresh) in
            Contains-append_left x.remembered x.early u (subst (λ (j : ℕ). Contains x.remembered j) (sym e.0) (noted_young object new v some sized old fresh))
        | inr q ↦ in_either v.remembered v.early x.remembered x.early u (noted_keeps object new v u) (r.noted.young u t k q y)
      ];
      early = λ u t m nz un. elim (names_before v.slots slots' object slot new u t w m) [
        | inl e ↦
            let some : new ≢ 0 = λ z. nz (e.1 ∙ z) in
            let none = sized_made v n past a b new r (subst (λ (j : ℕ). is_made past j ≡ false) e.1 un) in
            subst (λ (j : ℕ). Contains x.early j) (sym e.0) (noted_early object new v some none)
        | inr q ↦ (noted_keeps object new v u).1 (r.noted.early u t q nz un)
      ];
    }

with_slots : (v : Both) (n : ℕ) (past : List Item) (a b event object slot new : ℕ) (slots' : List (BTreeMap ℕ ℕ)) (remembered early : List ℕ) → KnowsSlots slots' n (Write event object slot new ∷ past) → AreNoted (record v { slots = slots'; remembered = remembered; early = early }) (Write event object slot new ∷ past) → IsReadyToCollect v n past a b → IsReadyToCollect (record v { slots = slots'; remembered = remembered; early = early }) n (Write event object slot new ∷ past) a b
with_slots v n past a b event object slot new slots' remembered early k noted_now r = record {
  fed = (r.fed, tt);
  few = r.few;
  knows = record { sizes_long = r.knows.sizes_long; dead_long = r.knows.dead_long; size_is = r.knows.size_is; dead_is = r.knows.dead_is };
  slots = k;
  places = r.places;
  noted = noted_now;
  holds = record { young_bytes_is = r.holds.young_bytes_is; old_bytes_is = r.holds.old_bytes_is; young_made = r.holds.young_made; old_made = r.holds.old_made; sums = r.holds.sums };
  collected = record { kept_low = r.collected.kept_low; minor_low = r.collected.minor_low; major_low = r.collected.major_low };
}

pub wrote_ready : (v : Both) (n : ℕ) (past : List Item) (a b event object slot new : ℕ) (slots' : List (BTreeMap ℕ ℕ)) → is_made past object ≡ true → WritesSlot v.slots slots' object slot new → IsReadyToCollect v n past a b → IsReadyToCollect (record (reference_noted object new v) { slots = slots' }) n (Write event object slot new ∷ past) a b
wrote_ready v n past a b event object slot new slots' m w r =
    let x = reference_noted object new v in
    subst (λ (u : Both). IsReadyToCollect (record u { slots = slots' }) n (Write event object slot new ∷ past) a b) (sym (noted_is object new v))
    (with_slots v n past a b event object slot new slots' x.remembered x.early (wrote_slots v.slots slots' n past event object slot new m w r.slots) (wrote_noted v n past a b event object slot new slots' w r) r)

pub ignored_ready : (v : Both) (n : ℕ) (past : List Item) (a b event object slot new : ℕ) → is_made past object ≡ false → IsReadyToCollect v n past a b → IsReadyToCollect v n (Write event object slot new ∷ past) a b
ignored_ready v n past a b event object slot new m r = with_slots v n past a b event object slot new v.slots v.remembered v.early (ignored_slots v.slots n past event object slot new m r.slots) (record { young = r.noted.young; early = r.noted.early }) r
