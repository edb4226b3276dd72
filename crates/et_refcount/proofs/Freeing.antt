-- Objects are freed, one after another.
use Rattle.std.proofs.Common.{◌≡◌, ◌≢◌, ℕ, ◌+◌, ◌<◌, ◌≤◌, Bool, true, false, List, [], ◌∷◌, ◌++◌, length, Option, Some, None, sum, refl, sym, ap, subst, ◌∙◌, arith, inl, inr, ◌⊎◌}
use Rattle.std.specs.Prelude.{Contains, is_some, unwrap_or}
use Rattle.std.proofs.Math.ListN.{set, length-set}
use Rattle.std.proofs.lemmas.List.{get_or_past, get_or-set_same, get_or-set_other}
use Rattle.std.proofs.lemmas.List.Sums.{sum_by-set}
use Rattle.std.proofs.lemmas.List.Elements.{Contains-push, Contains-append_left}
use Rattle.std.proofs.lemmas.Bool.{cases_lt}
use Rattle.et_replay.proofs.Coming.{not_both}
use Rattle.et_base.proofs.Lists.{Contains-none, Contains-cons, in_longer}
use Rattle.et_base.proofs.Tests.{cases_eqb}
use Rattle.et_refcount.specs.declared.objects.Place.{Place}
use Rattle.et_refcount.specs.declared.objects.Place.TheVariants.{Unmade, Held, Gone}
use Rattle.et_refcount.specs.Objects.{Slots, Tables, size_of, is_not_unmade, place_at, held_at, made_at, weight_of, flag_at, slots_at, target_at, all_hits, weight, is_left, work_with, FreesOne, FreesNone, AreCounted, KeepsItself, IsFreed, IsFreeing, IsOnlyLeft}
use Rattle.et_refcount.proofs.Hits.{left_parts, left_of, all_found, all_without}

some_none : {A : Type 0} (x : Option ℕ) → is_some x ≡ true → x ≡ None → A
some_none (Some n) e f = absurd cc
some_none None e f = absurd cc

pub held_within : (places : List Place) (o size : ℕ) → held_at places o ≡ Some size → o < length places
held_within places o size e = elim (cases_lt o (length places)) [ inl lt ↦ lt | inr ge ↦ absurd (none (ap (λ (p : Place). size_of p) (get_or_past places o Unmade ge)) e) ]
  where
    none : held_at places o ≡ None → held_at places o ≡ Some size → ⊥
    none a b = cc

held_made : (p : Place) (size : ℕ) → size_of p ≡ Some size → is_not_unmade p ≡ true
held_made Unmade size e = absurd cc
held_made (Held z) size e = refl
held_made Gone size e = refl

-- an object that waits is freed
pub frees_one : (start t t' : Tables) (w work' : List ℕ) (object size freed : ℕ) → IsFreeing start t (w ++ object ∷ []) freed → FreesOne object size t t' w work' → IsFreeing start t' work' (freed + size)
frees_one start t t' w work' object size freed i f =
    let in_held = held_within t.places object size f.was in
    let slots_long = i.tables.slots_long in
    let in_slots : object < length t.slots = omega (arith, in_held, slots_long) in
    let r = f.released in
    let gone : held_at t'.places object ≡ None = ap (λ (h : List Place). held_at h object) f.places_is ∙ ap (λ (p : Place). size_of p) (get_or-set_same t.places object Gone Unmade in_held) in
    let stays : (o : ℕ) → o ≢ object → held_at t'.places o ≡ held_at t.places o = λ o ne. ap (λ (h : List Place). held_at h o) f.places_is ∙ ap (λ (p : Place). size_of p) (get_or-set_other t.places object o Gone Unmade ne) in
    let empty : slots_at t'.slots object ≡ [] = ap (λ (h : List Slots). slots_at h object) f.slots_is ∙ get_or-set_same t.slots object [] [] in_slots in
    let same_slots : (o : ℕ) → o ≢ object → slots_at t'.slots o ≡ slots_at t.slots o = λ o ne. ap (λ (h : List Slots). slots_at h o) f.slots_is ∙ get_or-set_other t.slots object o [] [] ne in
    let waited = left_parts t.dead t.counts object (i.waits object (Contains-push w object)) in
    let died : flag_at start.dead object ≡ true = subst (λ (d : List Bool). flag_at d object ≡ true) i.dead_is waited.0 in
    let held_before : (o : ℕ) → is_some (held_at t'.places o) ≡ true → (o ≢ object) × (is_some (held_at t.places o) ≡ true) = λ o h. elim (cases_eqb o object) [
      | inl e ↦ some_none (held_at t'.places o) h (subst (λ (k : ℕ). held_at t'.places k ≡ None) (sym e.1) gone)
      | inr e ↦ (e.1, ap (λ (x : Option ℕ). is_some x) (sym (stays o e.1)) ∙ h)
    ] in
    record {
      dead_is = f.dead_is ∙ i.dead_is;
      as_long = ap (λ (h : List Place). length h) f.places_is ∙ (length-set t.places object Gone ∙ i.as_long);
      made_is = λ o. elim (cases_eqb o object) [
        | inl e ↦ subst (λ (k : ℕ). made_at t'.places k ≡ made_at start.places k) (sym e.1) (ap (λ (h : List Place). made_at h object) f.places_is ∙ (ap (λ (p : Place). is_not_unmade p) (get_or-set_same t.places object Gone Unmade in_held) ∙ (sym (held_made (place_at t.places object) size f.was) ∙ i.made_is object)))
        | inr e ↦ ap (λ (h : List Place). made_at h o) f.places_is ∙ (ap (λ (p : Place). is_not_unmade p) (get_or-set_other t.places object o Gone Unmade e.1) ∙ i.made_is o)
      ];
      tables = record {
        slots_long = ap (λ (h : List Slots). length h) f.slots_is ∙ (length-set t.slots object [] ∙ (i.tables.slots_long ∙ sym (ap (λ (h : List Place). length h) f.places_is ∙ length-set t.places object Gone)));
        counts_long = r.as_long ∙ (i.tables.counts_long ∙ sym (ap (λ (h : List Place). length h) f.places_is ∙ length-set t.places object Gone));
        counted = λ o. (let less = r.less o in let before = i.tables.counted o in let without = all_without t.slots object o in_slots in
            let is : all_hits t'.slots o ≡ all_hits (set t.slots object []) o = ap (λ (h : List Slots). all_hits h o) f.slots_is in
            omega (arith, less, before, without, is));
      };
      each = λ o. elim (cases_eqb o object) [
        | inl e ↦ inr (subst (λ (k : ℕ). IsFreed start t' k) (sym e.1) (gone, died, empty))
        | inr e ↦ elim (i.each o) [
          | inl b ↦ inl (stays o e.1 ∙ b.0, same_slots o e.1 ∙ b.1)
          | inr b ↦ inr (stays o e.1 ∙ b.0, b.1, same_slots o e.1 ∙ b.2)
        ]
      ];
      waits = λ o c. subst (λ (d : List Bool). is_left d t'.counts o ≡ true) (sym f.dead_is) (elim (r.only o c) [
        | inl old ↦
            let p = left_parts t.dead t.counts o (i.waits o (Contains-append_left w (object ∷ []) o old)) in
            let less = r.less o in let z = p.1 in
            left_of t.dead t'.counts o p.0 (omega (arith, less, z))
        | inr e ↦ e
      ]);
      all = λ o h l. (let b = held_before o h in
          let left = subst (λ (d : List Bool). is_left d t'.counts o ≡ true) f.dead_is l in
          elim (r.all o left) [
            | inl none ↦
                let p = left_parts t.dead t'.counts o left in
                let less = r.less o in let z = p.1 in
                let before = left_of t.dead t.counts o p.0 (omega (arith, less, none, z)) in
                elim (in_longer w object o (i.all o b.1 before)) [ inl c ↦ r.grows o c | inr e ↦ absurd (b.0 e) ]
            | inr c ↦ c
          ]);
      kept = λ set k o s. elim (cases_eqb o object) [
        | inl e ↦ not_kept set k (subst (λ (j : ℕ). set j ≡ true) e.1 s)
        | inr e ↦ ap (λ (x : Option ℕ). is_some x) (stays o e.1) ∙ i.kept set k o s
      ];
      bytes = (let s = sum_by-set weight_of t.places object Gone Unmade in_held in
          let was : unwrap_or (held_at t.places object) 0 ≡ size = ap (λ (z : Option ℕ). unwrap_or z 0) f.was in
          let is : weight t'.places ≡ weight (set t.places object Gone) = ap (λ (h : List Place). weight h) f.places_is in
          let bytes = i.bytes in
          omega (arith, s, was, is, bytes));
    }
  where
    not_kept : {A : Type 0} (set : ℕ → Bool) → KeepsItself start set → set object ≡ true → A
    not_kept {A} set k s =
        let waited = left_parts t.dead t.counts object (i.waits object (Contains-push w object)) in
        let died : flag_at start.dead object ≡ true = subst (λ (d : List Bool). flag_at d object ≡ true) i.dead_is waited.0 in
        elim (k.by object s) [
          | inl lives ↦ not_both (flag_at start.dead object) died lives
          | inr u ↦ elim (i.each u.0) [
            | inl b ↦
                let found = all_found t.slots u.0 u.1 object (ap (λ (m : Slots). target_at m u.1) b.1 ∙ u.3) in
                let counted = i.tables.counted object in let z = waited.1 in
                absurd (omega (arith, found, counted, z))
            | inr b ↦ some_none (held_at t.places u.0) (i.kept set k u.0 u.2) b.0
          ]
        ]

-- one that was freed before waits no longer
pub frees_none : (start t t' : Tables) (w work' : List ℕ) (object size freed : ℕ) → IsFreeing start t (w ++ object ∷ []) freed → FreesNone object size t t' w work' → IsFreeing start t' work' (freed + size)
frees_none start t t' w work' object size freed i f =
    let zero = f.none in
    let same : freed ≡ freed + size = omega (arith, zero) in
    subst (λ (u : Tables). IsFreeing start u work' (freed + size)) (sym f.same)
    (subst (λ (x : List ℕ). IsFreeing start t x (freed + size)) (sym f.work_is)
    (subst (λ (n : ℕ). IsFreeing start t w n) same (record {
      dead_is = i.dead_is;
      as_long = i.as_long;
      made_is = i.made_is;
      tables = i.tables;
      each = i.each;
      waits = λ o c. i.waits o (Contains-append_left w (object ∷ []) o c);
      all = λ o h l. elim (in_longer w object o (i.all o h l)) [
        | inl c ↦ c
        | inr e ↦ some_none (held_at t.places o) h (subst (λ (k : ℕ). held_at t.places k ≡ None) (sym e) f.was)
      ];
      kept = i.kept;
      bytes = i.bytes;
    })))

pub frees : (start t t' : Tables) (w work' : List ℕ) (object size freed : ℕ) → IsFreeing start t (w ++ object ∷ []) freed → FreesOne object size t t' w work' ⊎ FreesNone object size t t' w work' → IsFreeing start t' work' (freed + size)
frees start t t' w work' object size freed i (inl f) = frees_one start t t' w work' object size freed i f
frees start t t' w work' object size freed i (inr f) = frees_none start t t' w work' object size freed i f

-- each turn takes an object out, or a reference
pub frees_less : (t t' : Tables) (w work' : List ℕ) (object size : ℕ) → FreesOne object size t t' w work' ⊎ FreesNone object size t t' w work' → length work' + sum t'.counts ≤ length w + sum t.counts
frees_less t t' w work' object size (inl f) = let r = f.released in r.spent
frees_less t t' w work' object size (inr f) =
    let a : length work' ≡ length w = ap (λ (x : List ℕ). length x) f.work_is in
    let b : sum t'.counts ≡ sum t.counts = ap (λ (u : Tables). sum u.counts) f.same in
    omega (arith, a, b)

-- at first one object waits, or none
pub freeing_first : (t : Tables) (object : ℕ) (work : List ℕ) → AreCounted t → IsOnlyLeft t object → work ≡ work_with [] (is_left t.dead t.counts object) object → IsFreeing t t work 0
freeing_first t object work c only e = subst (λ (w : List ℕ). IsFreeing t t w 0) (sym e) (record {
  dead_is = refl;
  as_long = refl;
  made_is = λ o. refl;
  tables = c;
  each = λ o. inl (refl, refl);
  waits = λ o h. waits (is_left t.dead t.counts object) o refl h;
  all = λ o h l. all (is_left t.dead t.counts object) o refl (only o h l) l;
  kept = λ set k o s. k.held o s;
  bytes = omega arith;
})
  where
    waits : (b : Bool) (o : ℕ) → is_left t.dead t.counts object ≡ b → Contains (work_with [] b object) o → is_left t.dead t.counts o ≡ true
    waits true o e h = elim (Contains-cons object [] o h) [ inl q ↦ subst (λ (k : ℕ). is_left t.dead t.counts k ≡ true) q e | inr n ↦ absurd (Contains-none o n) ]
    waits false o e h = absurd (Contains-none o h)

    all : (b : Bool) (o : ℕ) → is_left t.dead t.counts object ≡ b → o ≡ object → is_left t.dead t.counts o ≡ true → Contains (work_with [] b object) o
    all true o e q l = subst (λ (k : ℕ). Contains (object ∷ []) k) (sym q) (Contains-push [] object)
    all false o e q l = not_both (is_left t.dead t.counts object) (subst (λ (k : ℕ). is_left t.dead t.counts k ≡ true) q l) e
