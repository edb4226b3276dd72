-- What the tables tell after an item was noted.
use Rattle.std.proofs.Common.{◌≡◌, ◌≢◌, ℕ, ◌+◌, ◌<◌, ◌≤◌, Bool, true, false, cond, not, ◌&&◌, ◌||◌, eqb, List, [], ◌∷◌, ◌++◌, length, get_or, filter, Option, Some, None, refl, sym, ap, subst, ◌∙◌, arith, inl, inr, ◌⊎◌, max}
use Rattle.std.specs.Prelude.{Contains, is_some, unwrap_or, nat_eq}
use Rattle.std.specs.List.{list_any, sum_by}
use Rattle.std.specs.Cmp.{nat_eq_equiv}
use Rattle.std.specs.List.Sorted.{IsStrictlySortedBy}
use Rattle.std.specs.Map.{keys_of}
use Rattle.std.specs.Ordering.{nat_cmp}
use Rattle.std.proofs.Math.ListN.{set, length-set}
use Rattle.std.proofs.lemmas.Bool.Decides.{nat_tests}
use Rattle.std.proofs.lemmas.List.{get_or_default, get_or-set_same, get_or-set_other}
use Rattle.std.proofs.lemmas.List.Sums.{sum_by-cons, sum_by-append, sum_by_push}
use Rattle.std.proofs.lemmas.List.Elements.{All-contains, All-filter, All-push, filter-append, Contains-push, Contains-append_left, Contains-append_cases}
use Rattle.std.proofs.lemmas.Map.Keys.{IsDistinct-push}
use Rattle.std.proofs.lemmas.Bool.{cases_Bool}
use Rattle.et_base.proofs.Lists.{Contains-none, Contains-here, Contains-there, Contains-cons, any_contains, has_contains, contains_has, filter_kept, filter_keeps}
use Rattle.et_base.proofs.Tests.{cases_eqb, bool_same}
use Rattle.et_replay.specs.declared.item.Item.{Item}
use Rattle.et_replay.specs.declared.item.Item.TheVariants.{Alloc, Write, Death}
use Rattle.et_replay.specs.Feeding.{IsNewObject}
use Rattle.et_replay.specs.Heap.{size_in, is_made, is_live, ends_life, bytes}
use Rattle.et_replay.specs.Items.{sizes}
use Rattle.et_replay.specs.Tally.{Counted, Reference, is_among, is_slot, live_of, written, entered, exhaust}
use Rattle.et_replay.proofs.ByKey.{filter_same}
use Rattle.et_replay.proofs.Coming.{AreMade, are_made_on, bytes_stay, size_here, size_there, apart, in_range, not_both}
use Rattle.et_refcount.specs.declared.objects.Place.{Place}
use Rattle.et_refcount.specs.declared.objects.Place.TheVariants.{Unmade, Held, Gone}
use Rattle.et_refcount.specs.Objects.{Slots, Tables, size_of, is_not_unmade, held_at, made_at, flag_at, slots_at, target_at, is_left, WritesReference}
use Rattle.et_refcount.specs.Counts.{View, AgreesWith, IsReady, IsCountedHeap, WritesTo, placed, left_out, ended}
use Rattle.et_refcount.proofs.Hits.{left_parts, left_of}
use Rattle.et_refcount.proofs.Settling.{held_made, held_some, held_among, held_none, live_flag}
use Rattle.et_refcount.proofs.Weighing.{sum_without}

own_at : (xs : List ℕ) (k d : ℕ) → k < length xs → Contains xs (get_or xs k d)
own_at xs k d lt = (k, lt, same xs k d lt)
  where
    same : (ys : List ℕ) (i e : ℕ) → i < length ys → get_or ys i (get_or ys i e) ≡ get_or ys i e
    same ys i e l = get_or_default ys i (get_or ys i e) e l

made_of : (past : List Item) (xs : List ℕ) (o : ℕ) → AreMade past xs → Contains xs o → is_made past o ≡ true
made_of past xs o m k = All-contains (λ p. is_made past p ≡ true) xs o m k

-- AN OBJECT COMES

module _ (v : View) (n : ℕ) (past : List Item) (c : Counted) (event object size : ℕ) (new : IsNewObject n past object size) (h : IsCountedHeap v n past c) where
  abbrev item : Item
  item = Alloc event object size

  abbrev space : List ℕ
  space = c.heap.space

  far : (o : ℕ) → Contains space o → object ≢ o
  far o k = apart past object o new.new (made_of past space o h.agrees.made k)

  live_same : (o : ℕ) → Contains space o → is_live (item ∷ past) o ≡ is_live past o
  live_same o k = ap (λ (s : Option ℕ). is_some s && not (list_any (ends_life o) past)) (size_there past event object size o (far o k))

  live_stay : live_of (item ∷ past) space ≡ live_of past space
  live_stay = filter_same (is_live (item ∷ past)) (is_live past) space (λ k d lt. live_same (get_or space k d) (own_at space k d lt))

  bytes_of_space : bytes (item ∷ past) space ≡ bytes past space
  bytes_of_space = bytes_stay n past item space new h.agrees.made

  live_made : AreMade past (live_of past space)
  live_made = All-filter (is_live past) (λ o. is_made past o ≡ true) space h.agrees.made

  bytes_of_live : bytes (item ∷ past) (live_of past space) ≡ bytes past (live_of past space)
  bytes_of_live = bytes_stay n past item (live_of past space) new live_made

  held_there : (o : ℕ) → cond (is_among space o) (size_in past o) None ≡ cond (is_among space o) (size_in (item ∷ past) o) None
  held_there o = elim (cases_Bool (is_among space o)) [
    | inl e ↦ ap (λ (z : Option ℕ). cond (is_among space o) z None) (sym (size_there past event object size o (far o (has_contains space o e))))
    | inr e ↦ ap (λ (b : Bool). cond b (size_in past o) None) e ∙ sym (ap (λ (b : Bool). cond b (size_in (item ∷ past) o) None) e)
  ]

  -- there is room
  within : object < length v.tables.places
  within = let last = new.last in let long = h.agrees.long in omega (arith, last, long)

  some_none : {A : Type 0} (x : Option ℕ) → is_some x ≡ true → x ≡ None → A
  some_none (Some z) e f = absurd cc
  some_none None e f = absurd cc

  not_among : is_among space object ≡ false
  not_among = elim (cases_Bool (is_among space object)) [
    | inl e ↦ not_both (is_made past object) (made_of past space object h.agrees.made (has_contains space object e)) new.new
    | inr e ↦ e
  ]

  made_more : (p : Place) → is_not_unmade p ≡ true → (o : ℕ) → o ≤ n → made_at (set v.tables.places object p) o ≡ is_made (item ∷ past) o
  made_more p known o le = elim (cases_eqb o object) [
    | inl e ↦ subst (λ (k : ℕ). made_at (set v.tables.places object p) k ≡ is_made (item ∷ past) k) (sym e.1) (ap (λ (q : Place). is_not_unmade q) (get_or-set_same v.tables.places object p Unmade within) ∙ (known ∙ sym (ap (λ (s : Option ℕ). is_some s) (size_here past event object size))))
    | inr e ↦
        let ne : object ≢ o = (let f = e.1 in λ (q : object ≡ o). f (sym q)) in
        ap (λ (q : Place). is_not_unmade q) (get_or-set_other v.tables.places object o p Unmade e.1) ∙ (h.agrees.made_is o le ∙ ap (λ (s : Option ℕ). is_some s) (sym (size_there past event object size o ne)))
  ]

  -- there is no room
  pub left_out_stands : IsCountedHeap (left_out event object v) n (item ∷ past) (record c { heap = exhaust event c.heap })
  left_out_stands =
      let gone = set v.tables.places object Gone in
      let a = h.agrees in let t = h.totals in
      let kept = h.kept_is in let b = bytes_of_space in let l = bytes_of_live in
      let live : bytes (item ∷ past) (live_of (item ∷ past) space) ≡ bytes (item ∷ past) (live_of past space) = ap (λ (xs : List ℕ). bytes (item ∷ past) xs) live_stay in
      let bi = t.bytes_is in let sums = t.sums in
      record {
        few = h.few;
        fed = (h.fed, new);
        agrees = record {
          long = length-set v.tables.places object Gone ∙ a.long;
          dead_long = a.dead_long;
          tables = record { slots_long = a.tables.slots_long ∙ sym (length-set v.tables.places object Gone); counts_long = a.tables.counts_long ∙ sym (length-set v.tables.places object Gone); counted = a.tables.counted };
          held_is = λ o. elim (cases_eqb o object) [
            | inl e ↦
                let here : held_at gone object ≡ None = ap (λ (p : Place). size_of p) (get_or-set_same v.tables.places object Gone Unmade within) in
                let out : is_among space object ≡ false = not_among in
                subst (λ (k : ℕ). held_at gone k ≡ cond (is_among space k) (size_in (item ∷ past) k) None) (sym e.1) (here ∙ sym (ap (λ (b : Bool). cond b (size_in (item ∷ past) object) None) out))
            | inr e ↦ ap (λ (p : Place). size_of p) (get_or-set_other v.tables.places object o Gone Unmade e.1) ∙ (a.held_is o ∙ held_there o)
          ];
          made_is = made_more Gone refl;
          made = are_made_on past item space a.made;
          distinct = a.distinct;
          dead_is = a.dead_is;
          stands = a.stands;
          found = a.found;
          among = a.among;
          sorted = a.sorted;
        };
        totals = record {
          bytes_is = omega (arith, bi, b);
          freed_is = t.freed_is;
          peak_is = t.peak_is;
          exhausted_is = refl;
          nursery_none = t.nursery_none;
          minor_is = t.minor_is;
          major_is = t.major_is;
          sums = omega (arith, sums, b, sum_by-cons (λ x. x) size (sizes past));
        };
        leaked_is = h.leaked_is;
        kept_is = omega (arith, kept, b, l, live);
        none = λ o k. elim (cases_eqb o object) [
          | inl e ↦ some_none (held_at gone o) k (subst (λ (z : ℕ). held_at gone z ≡ None) (sym e.1) (ap (λ (p : Place). size_of p) (get_or-set_same v.tables.places object Gone Unmade within)))
          | inr e ↦ h.none o (ap (λ (p : Place). is_some (size_of p)) (sym (get_or-set_other v.tables.places object o Gone Unmade e.1)) ∙ k)
        ];
      }

  abbrev more : List ℕ
  more = space ++ object ∷ []

  among_more : (o : ℕ) → o ≢ object → is_among more o ≡ is_among space o
  among_more o ne = bool_same (is_among more o) (is_among space o)
      (λ e. contains_has space o (elim (Contains-append_cases space (object ∷ []) o (has_contains more o e)) [ inl k ↦ k | inr k ↦ elim (Contains-cons object [] o k) [ inl q ↦ absurd (ne (sym q)) | inr z ↦ absurd (Contains-none o z) ] ]))
      (λ e. contains_has more o (Contains-append_left space (object ∷ []) o (has_contains space o e)))

  not_in : list_any (nat_eq object) space ≡ false
  not_in = elim (cases_Bool (list_any (nat_eq object) space)) [
    | inl e ↦ not_both (is_made past object) (made_of past space object h.agrees.made (any_contains (nat_eq object) object (λ y t. same object y t) space e)) new.new
    | inr e ↦ e
  ]
    where
      same : (a b : ℕ) → eqb a b ≡ true → b ≡ a
      same a b t = grind (arith, nat_tests)

  pub placed_agrees : AgreesWith (placed object size v).tables n (item ∷ past) (entered (item ∷ past) object c)
  placed_agrees =
      let a = h.agrees in
      let t = v.tables in
      let held = set t.places object (Held size) in
      let long : length held ≡ length t.places = length-set t.places object (Held size) in
      record {
        long = long ∙ a.long;
        dead_long = a.dead_long;
        tables = record { slots_long = a.tables.slots_long ∙ sym long; counts_long = a.tables.counts_long ∙ sym long; counted = a.tables.counted };
        held_is = λ o. elim (cases_eqb o object) [
          | inl e ↦
              let in_more = contains_has more object (Contains-push space object) in
              let here : held_at held object ≡ cond (is_among more object) (size_in (item ∷ past) object) None =
              ap (λ (p : Place). size_of p) (get_or-set_same t.places object (Held size) Unmade within) ∙ (sym (size_here past event object size) ∙ sym (ap (λ (b : Bool). cond b (size_in (item ∷ past) object) None) in_more)) in
              subst (λ (k : ℕ). held_at held k ≡ cond (is_among more k) (size_in (item ∷ past) k) None) (sym e.1) here
          | inr e ↦ ap (λ (p : Place). size_of p) (get_or-set_other t.places object o (Held size) Unmade e.1) ∙ (a.held_is o ∙ (held_there o ∙ sym (ap (λ (b : Bool). cond b (size_in (item ∷ past) o) None) (among_more o e.1))))
        ];
        made_is = made_more (Held size) refl;
        made = All-push (λ o. is_made (item ∷ past) o ≡ true) space object (are_made_on past item space a.made) (ap (λ (s : Option ℕ). is_some s) (size_here past event object size));
        distinct = IsDistinct-push nat_eq_equiv space object a.distinct not_in;
        dead_is = a.dead_is;
        stands = a.stands;
        found = a.found;
        among = λ u s x k. (let m = a.among u s x k in (Contains-append_left space (object ∷ []) u m.0, Contains-append_left space (object ∷ []) x m.1));
        sorted = a.sorted;
      }

  one_live : (b : Bool) → flag_at v.tables.dead object ≡ b → live_of (item ∷ past) (object ∷ []) ≡ cond b [] (object ∷ [])
  one_live b e =
      let made : is_made (item ∷ past) object ≡ true = ap (λ (s : Option ℕ). is_some s) (size_here past event object size) in
      let dead : list_any (ends_life object) past ≡ b = sym (h.agrees.dead_is object new.last) ∙ e in
      let live : is_live (item ∷ past) object ≡ not b = ap (λ (x : Bool). x && not (list_any (ends_life object) past)) made ∙ ap not dead in
      ap (λ (x : Bool). cond x (object ∷ []) []) live ∙ turned b
    where
      turned : (x : Bool) → cond (not x) (object ∷ []) [] ≡ cond x [] (object ∷ [])
      turned true = refl
      turned false = refl

  pub placed_ready : IsReady (placed object size v) object n (item ∷ past) (entered (item ∷ past) object c)
  placed_ready =
      let a = h.agrees in let t = h.totals in
      let f = λ (o : ℕ). unwrap_or (size_in (item ∷ past) o) 0 in
      let one : f object ≡ size = ap (λ (s : Option ℕ). unwrap_or s 0) (size_here past event object size) in
      let push = sum_by_push f space object in
      let bs = bytes_of_space in let bi = t.bytes_is in let sums = t.sums in
      let total : v.bytes + size ≡ bytes (item ∷ past) more = omega (arith, bi, bs, one, push) in
      let young : bytes (item ∷ past) c.heap.nursery ≡ 0 = ap (λ (xs : List ℕ). bytes (item ∷ past) xs) t.nursery_none in
      let leaked = h.leaked_is in let kept = h.kept_is in
      let split : live_of (item ∷ past) more ≡ live_of past space ++ live_of (item ∷ past) (object ∷ []) = filter-append (is_live (item ∷ past)) space (object ∷ []) ∙ ap (λ (l : List ℕ). l ++ live_of (item ∷ past) (object ∷ [])) live_stay in
      let both : bytes (item ∷ past) (live_of (item ∷ past) more) ≡ bytes (item ∷ past) (live_of past space) + bytes (item ∷ past) (live_of (item ∷ past) (object ∷ [])) = ap (λ (xs : List ℕ). bytes (item ∷ past) xs) split ∙ sum_by-append f (live_of past space) (live_of (item ∷ past) (object ∷ [])) in
      let bl = bytes_of_live in
      record {
        few = h.few;
        fed = (h.fed, new);
        agrees = placed_agrees;
        totals = record {
          bytes_is = total;
          freed_is = t.freed_is;
          peak_is = ap (λ (p : ℕ). max p (v.bytes + size)) t.peak_is ∙ ap (λ (p : ℕ). max c.heap.peak p) (plus young total);
          exhausted_is = t.exhausted_is;
          nursery_none = t.nursery_none;
          minor_is = t.minor_is;
          major_is = t.major_is;
          sums = omega (arith, sums, total, bi, sum_by-cons (λ x. x) size (sizes past));
        };
        leaked_is = elim (cases_Bool (flag_at v.tables.dead object)) [
          | inl e ↦
              let none : bytes (item ∷ past) (live_of (item ∷ past) (object ∷ [])) ≡ 0 = ap (λ (xs : List ℕ). bytes (item ∷ past) xs) (one_live true e) in
              let is : cond (flag_at v.tables.dead object) (v.leaked + size) v.leaked ≡ v.leaked + size = ap (λ (b : Bool). cond b (v.leaked + size) v.leaked) e in
              omega (arith, is, none, both, bl, leaked, kept, bi)
          | inr e ↦
              let some : bytes (item ∷ past) (live_of (item ∷ past) (object ∷ [])) ≡ f object = ap (λ (xs : List ℕ). bytes (item ∷ past) xs) (one_live false e) ∙ single f object in
              let is : cond (flag_at v.tables.dead object) (v.leaked + size) v.leaked ≡ v.leaked = ap (λ (b : Bool). cond b (v.leaked + size) v.leaked) e in
              omega (arith, is, some, one, both, bl, leaked, kept, bi)
        ];
        only = λ o k l. elim (cases_eqb o object) [
          | inl e ↦ e.1
          | inr e ↦ not_both (is_left v.tables.dead v.tables.counts o) l (h.none o (ap (λ (z : Option ℕ). is_some z) (sym (ap (λ (p : Place). size_of p) (get_or-set_other v.tables.places object o (Held size) Unmade e.1))) ∙ k))
        ];
      }
    where
      plus : {a b d : ℕ} → a ≡ 0 → b ≡ d → b ≡ a + d
      plus z e = omega (arith, z, e)

      single : (f : ℕ → ℕ) (o : ℕ) → sum_by f (o ∷ []) ≡ f o
      single f o = (let s = sum_by-cons f o [] in let z : sum_by f [] ≡ 0 = refl in omega (arith, s, z))

-- AN OBJECT ENDS

module _ (v : View) (n : ℕ) (past : List Item) (c : Counted) (object time : ℕ) (h : IsCountedHeap v n past c) where
  abbrev death : Item
  death = Death object time

  death_agrees : (dead : List Bool) → length dead ≡ length v.tables.dead → ((o : ℕ) → o ≤ n → flag_at dead o ≡ (eqb object o || flag_at v.tables.dead o)) → AgreesWith (record v.tables { dead = dead }) n (death ∷ past) c
  death_agrees dead long is = (let a = h.agrees in record {
    long = a.long;
    dead_long = long ∙ a.dead_long;
    tables = record { slots_long = a.tables.slots_long; counts_long = a.tables.counts_long; counted = a.tables.counted };
    held_is = a.held_is;
    made_is = a.made_is;
    made = a.made;
    distinct = a.distinct;
    dead_is = λ o le. is o le ∙ ap (λ (b : Bool). eqb object o || b) (a.dead_is o le);
    stands = a.stands;
    found = a.found;
    among = a.among;
    sorted = a.sorted;
  })

  live_now : (o : ℕ) → object ≢ o → is_live (death ∷ past) o ≡ is_live past o
  live_now o ne = elim (cases_eqb object o) [ inl e ↦ absurd (ne e.1) | inr e ↦ ap (λ (b : Bool). is_made past o && not (b || list_any (ends_life o) past)) e.0 ]

  dead_now : is_live (death ∷ past) object ≡ false
  dead_now = elim (cases_eqb object object) [ inl e ↦ ap (λ (b : Bool). is_made past object && not (b || list_any (ends_life object) past)) e.0 ∙ no (is_made past object) | inr e ↦ absurd (e.1 refl) ]
    where
      no : (b : Bool) → (b && false) ≡ false
      no true = refl
      no false = refl

  -- what it leaks
  pub death_leaks : (dead : Bool) → flag_at v.tables.dead object ≡ dead → v.leaked + cond dead 0 (unwrap_or (held_at v.tables.places object) 0) + bytes past (live_of (death ∷ past) c.heap.space) ≡ v.bytes
  death_leaks dead e =
      let leaked = h.leaked_is in let kept = h.kept_is in let bi = h.totals.bytes_is in
      elim (cases_Bool (is_among c.heap.space object)) [
        | inl m ↦
            let k = has_contains c.heap.space object m in
            let le = (in_range n past object h.fed (made_of past c.heap.space object h.agrees.made k)).1 in
            let was = live_flag v.tables n past c object h.fed h.agrees k in
            let size : held_at v.tables.places object ≡ size_in past object = held_made v.tables n past c object h.agrees k in
            let f = λ (o : ℕ). unwrap_or (size_in past o) 0 in
            let is : unwrap_or (held_at v.tables.places object) 0 ≡ f object = ap (λ (z : Option ℕ). unwrap_or z 0) size in
            by_flag dead e k was is
        | inr m ↦
            let same : live_of (death ∷ past) c.heap.space ≡ live_of past c.heap.space = filter_same (is_live (death ∷ past)) (is_live past) c.heap.space (λ i d lt. live_now (get_or c.heap.space i d) (λ q. not_both (is_among c.heap.space object) (contains_has c.heap.space object (subst (λ (z : ℕ). Contains c.heap.space z) (sym q) (own_at c.heap.space i d lt))) m)) in
            let b : bytes past (live_of (death ∷ past) c.heap.space) ≡ bytes past (live_of past c.heap.space) = ap (λ (xs : List ℕ). bytes past xs) same in
            let none : held_at v.tables.places object ≡ None = held_none v.tables n past c object h.agrees (λ k. not_both (is_among c.heap.space object) (contains_has c.heap.space object k) m) in
            let z : cond dead 0 (unwrap_or (held_at v.tables.places object) 0) ≡ 0 = ap (λ (x : Option ℕ). cond dead 0 (unwrap_or x 0)) none ∙ zero_both dead in
            omega (arith, leaked, kept, bi, b, z)
      ]
    where
      zero_both : (b : Bool) → ◌≡◌ {A = ℕ} (cond b 0 0) 0
      zero_both true = refl
      zero_both false = refl

      by_flag : (b : Bool) → flag_at v.tables.dead object ≡ b → Contains c.heap.space object → is_live past object ≡ not (flag_at v.tables.dead object) → unwrap_or (held_at v.tables.places object) 0 ≡ unwrap_or (size_in past object) 0 → v.leaked + cond b 0 (unwrap_or (held_at v.tables.places object) 0) + bytes past (live_of (death ∷ past) c.heap.space) ≡ v.bytes
      by_flag true e k was is =
          let leaked = h.leaked_is in let kept = h.kept_is in let bi = h.totals.bytes_is in
          let same : live_of (death ∷ past) c.heap.space ≡ live_of past c.heap.space = filter_same (is_live (death ∷ past)) (is_live past) c.heap.space (λ i d lt. elim (cases_eqb object (get_or c.heap.space i d)) [
            | inl q ↦ subst (λ (z : ℕ). is_live (death ∷ past) z ≡ is_live past z) q.1 (dead_now ∙ sym (was ∙ ap not e))
            | inr q ↦ live_now (get_or c.heap.space i d) q.1
          ]) in
          let b : bytes past (live_of (death ∷ past) c.heap.space) ≡ bytes past (live_of past c.heap.space) = ap (λ (xs : List ℕ). bytes past xs) same in
          omega (arith, leaked, kept, bi, b)
      by_flag false e k was is =
          let leaked = h.leaked_is in let kept = h.kept_is in let bi = h.totals.bytes_is in
          let less = sum_without (λ (o : ℕ). unwrap_or (size_in past o) 0) (is_live past) (is_live (death ∷ past)) object c.heap.space h.agrees.distinct k (was ∙ ap not e) dead_now (λ o ne. live_now o (λ q. ne (sym q))) in
          omega (arith, leaked, kept, bi, less, is)

  pub ended_ready : IsReady (ended object v) object n (death ∷ past) c
  ended_ready = elim (cases_Bool (flag_at v.tables.dead object)) [
    | inl e ↦ subst (λ (w : View). IsReady w object n (death ∷ past) c) (sym (ap (λ (b : Bool). cond b v (record v { tables = record v.tables { dead = set v.tables.dead object true }; leaked = v.leaked + unwrap_or (held_at v.tables.places object) 0 })) e)) (record {
      few = h.few;
      fed = (h.fed, tt);
      agrees = death_agrees v.tables.dead refl (λ o le. elim (cases_eqb object o) [
        | inl q ↦ subst (λ (z : ℕ). flag_at v.tables.dead z ≡ (eqb object z || flag_at v.tables.dead z)) q.1 (e ∙ sym (ap (λ (b : Bool). eqb object object || b) e ∙ or_true (eqb object object)))
        | inr q ↦ sym (ap (λ (b : Bool). b || flag_at v.tables.dead o) q.0)
      ]);
      totals = record { bytes_is = h.totals.bytes_is; freed_is = h.totals.freed_is; peak_is = h.totals.peak_is; exhausted_is = h.totals.exhausted_is; nursery_none = h.totals.nursery_none; minor_is = h.totals.minor_is; major_is = h.totals.major_is; sums = h.totals.sums };
      leaked_is = (let l = death_leaks true e in omega (arith, l));
      only = λ o k l. not_both (is_left v.tables.dead v.tables.counts o) l (h.none o k);
    })
    | inr e ↦
        let dead = set v.tables.dead object true in
        subst (λ (w : View). IsReady w object n (death ∷ past) c) (sym (ap (λ (b : Bool). cond b v (record v { tables = record v.tables { dead = dead }; leaked = v.leaked + unwrap_or (held_at v.tables.places object) 0 })) e)) (record {
          few = h.few;
          fed = (h.fed, tt);
          agrees = death_agrees dead (length-set v.tables.dead object true) (λ o le. elim (cases_eqb object o) [
            | inl q ↦
                let dl = h.agrees.dead_long in let same = q.1 in
                let lt : object < length v.tables.dead = omega (arith, dl, le, same) in
                subst (λ (z : ℕ). flag_at dead z ≡ (eqb object z || flag_at v.tables.dead z)) q.1 (get_or-set_same v.tables.dead object true false lt ∙ sym (ap (λ (b : Bool). b || flag_at v.tables.dead object) (itself object)))
            | inr q ↦ get_or-set_other v.tables.dead object o true false (λ r. q.1 (sym r)) ∙ sym (ap (λ (b : Bool). b || flag_at v.tables.dead o) q.0)
          ]);
          totals = record { bytes_is = h.totals.bytes_is; freed_is = h.totals.freed_is; peak_is = h.totals.peak_is; exhausted_is = h.totals.exhausted_is; nursery_none = h.totals.nursery_none; minor_is = h.totals.minor_is; major_is = h.totals.major_is; sums = h.totals.sums };
          leaked_is = death_leaks false e;
          only = λ o k l. elim (cases_eqb o object) [
            | inl q ↦ q.1
            | inr q ↦
                let p = left_parts dead v.tables.counts o l in
                not_both (is_left v.tables.dead v.tables.counts o) (left_of v.tables.dead v.tables.counts o (sym (get_or-set_other v.tables.dead object o true false q.1) ∙ p.0) p.1) (h.none o k)
          ];
        })
  ]
    where
      or_true : (b : Bool) → (b || true) ≡ true
      or_true true = refl
      or_true false = refl

      itself : (o : ℕ) → eqb o o ≡ true
      itself o = grind (arith, nat_tests)

-- A REFERENCE IS WRITTEN

module _ (v v' : View) (n : ℕ) (past : List Item) (c : Counted) (event object slot new old : ℕ) (h : IsCountedHeap v n past c) (w : WritesTo object slot new old v v') where
  abbrev write : Item
  write = Write event object slot new

  abbrev others : List Reference
  others = filter (λ r. not (is_slot object slot r)) c.references

  abbrev target : ℕ
  target = cond (is_some (held_at v.tables.places new)) new 0

  -- what is written to an object that isn't held changes nothing
  ignored : is_some (held_at v.tables.places object) ≡ false → written object slot new c ≡ c
  ignored e = ap (λ (b : Bool). cond (not b) c (cond (is_among c.heap.space new) (record c { references = (object, slot, new) ∷ others }) (record c { references = others }))) out
    where
      out : is_among c.heap.space object ≡ false
      out = elim (cases_Bool (is_among c.heap.space object)) [
        | inl m ↦ not_both (is_some (held_at v.tables.places object)) (held_some v.tables n past c object h.agrees (has_contains c.heap.space object m)) e
        | inr m ↦ m
      ]

  -- the references after it
  abbrev referred : List Reference
  referred = cond (is_among c.heap.space new) ((object, slot, new) ∷ others) others

  taken : is_some (held_at v.tables.places object) ≡ true → written object slot new c ≡ record c { references = referred }
  taken e =
      ap (λ (b : Bool). cond (not b) c (cond (is_among c.heap.space new) (record c { references = (object, slot, new) ∷ others }) (record c { references = others }))) (contains_has c.heap.space object (held_among v.tables n past c object h.agrees e))
      ∙ inside (is_among c.heap.space new)
    where
      inside : (b : Bool) → cond b (record c { references = (object, slot, new) ∷ others }) (record c { references = others }) ≡ record c { references = cond b ((object, slot, new) ∷ others) others }
      inside true = refl
      inside false = refl

  slot_test : (u s x : ℕ) → ((u ≡ object) × (s ≡ slot)) ⊎ (is_slot object slot (u, s, x) ≡ false)
  slot_test u s x = elim (cases_eqb u object) [
    | inl e ↦ elim (cases_eqb s slot) [
      | inl f ↦ inl (e.1, f.1)
      | inr f ↦ inr (ap (λ (b : Bool). eqb u object && b) f.0 ∙ no (eqb u object))
    ]
    | inr e ↦ inr (ap (λ (b : Bool). b && eqb s slot) e.0)
  ]
    where
      no : (b : Bool) → (b && false) ≡ false
      no true = refl
      no false = refl

  is_here : is_slot object slot (object, slot, 0) ≡ true
  is_here = ap (λ (b : Bool). b && eqb slot slot) (itself object) ∙ itself slot
    where
      itself : (o : ℕ) → eqb o o ≡ true
      itself o = grind (arith, nat_tests)

  among_new : is_among c.heap.space new ≡ is_some (held_at v.tables.places new)
  among_new = bool_same (is_among c.heap.space new) (is_some (held_at v.tables.places new)) (λ e. held_some v.tables n past c new h.agrees (has_contains c.heap.space new e)) (λ e. contains_has c.heap.space new (held_among v.tables n past c new h.agrees e))

  -- a reference is the new one, or one of another slot
  of_referred : (u s x : ℕ) → Contains referred (u, s, x) → ((u ≡ object) × (s ≡ slot) × (x ≡ new) × (is_among c.heap.space new ≡ true)) ⊎ (Contains c.references (u, s, x) × (is_slot object slot (u, s, x) ≡ false))
  of_referred u s x k = elim (cases_Bool (is_among c.heap.space new)) [
    | inl e ↦ elim (Contains-cons (object, slot, new) others (u, s, x) (subst (λ (b : Bool). Contains (cond b ((object, slot, new) ∷ others) others) (u, s, x)) e k)) [
      | inl q ↦ inl (sym (ap (λ (r : Reference). r.0) q), sym (ap (λ (r : Reference). r.1) q), sym (ap (λ (r : Reference). r.2) q), e)
      | inr m ↦ inr (other u s x m)
    ]
    | inr e ↦ inr (other u s x (subst (λ (b : Bool). Contains (cond b ((object, slot, new) ∷ others) others) (u, s, x)) e k))
  ]
    where
      not_true : (b : Bool) → not b ≡ true → b ≡ false
      not_true true e = absurd cc
      not_true false e = refl

      other : (u s x : ℕ) → Contains others (u, s, x) → Contains c.references (u, s, x) × (is_slot object slot (u, s, x) ≡ false)
      other u s x m = (let f = filter_kept (λ (r : Reference). not (is_slot object slot r)) c.references (u, s, x) m in (f.0, not_true (is_slot object slot (u, s, x)) f.1))

  in_others : (u s x : ℕ) → Contains c.references (u, s, x) → is_slot object slot (u, s, x) ≡ false → Contains referred (u, s, x)
  in_others u s x k e =
      let m = filter_keeps (λ (r : Reference). not (is_slot object slot r)) c.references (u, s, x) k (ap not e) in
      elim (is_among c.heap.space new) as (λ b. Contains (cond b ((object, slot, new) ∷ others) others) (u, s, x)) [ true ↦ Contains-there (object, slot, new) others (u, s, x) m | false ↦ m ]

  not_slot : (u s x : ℕ) → is_slot object slot (u, s, x) ≡ false → u ≡ object → s ≢ slot
  not_slot u s x e q r = not_both (is_slot object slot (u, s, x)) (ap (λ (b : Bool). b && eqb s slot) (same u object q) ∙ same s slot r) e
    where
      same : (a b : ℕ) → a ≡ b → eqb a b ≡ true
      same a b f = grind (arith, nat_tests)

  written_agrees : is_some (held_at v.tables.places object) ≡ true → WritesReference object slot target old v.tables v'.tables → AgreesWith v'.tables n (write ∷ past) (record c { references = referred })
  written_agrees held r =
      let a = h.agrees in
      let t = v.tables in
      record {
        long = ap (λ (l : List Place). length l) r.places_is ∙ a.long;
        dead_long = ap (λ (l : List Bool). length l) r.dead_is ∙ a.dead_long;
        tables = r.tables;
        held_is = λ o. ap (λ (l : List Place). held_at l o) r.places_is ∙ a.held_is o;
        made_is = λ o le. ap (λ (l : List Place). made_at l o) r.places_is ∙ a.made_is o le;
        made = a.made;
        distinct = a.distinct;
        dead_is = λ o le. ap (λ (l : List Bool). flag_at l o) r.dead_is ∙ a.dead_is o le;
        stands = λ u s x e ne. elim (cases_eqb u object) [
          | inl q ↦
              let at : target_at (slots_at v'.tables.slots object) s ≡ Some x = subst (λ (z : ℕ). target_at (slots_at v'.tables.slots z) s ≡ Some x) q.1 e in
              elim (cases_eqb slot s) [
                | inl f ↦
                    let is : Some target ≡ Some x = sym (ap (λ (b : Bool). cond b (Some target) (target_at (slots_at t.slots object) s)) f.0) ∙ (sym (r.here s) ∙ at) in
                    let tx : target ≡ x = ap (λ (z : Option ℕ). unwrap_or z 0) is in
                    new_in u s x q.1 (sym f.1) tx ne (is_some (held_at t.places new)) refl
                | inr f ↦
                    let before : target_at (slots_at t.slots u) s ≡ Some x = subst (λ (z : ℕ). target_at (slots_at t.slots z) s ≡ Some x) (sym q.1) (sym (ap (λ (b : Bool). cond b (Some target) (target_at (slots_at t.slots object) s)) f.0) ∙ (sym (r.here s) ∙ at)) in
                    elim (slot_test u s x) [ inl g ↦ absurd (let apart = f.1 in apart (sym g.1)) | inr g ↦ in_others u s x (a.stands u s x before ne) g ]
              ]
          | inr q ↦
              let before : target_at (slots_at t.slots u) s ≡ Some x = ap (λ (m : Slots). target_at m s) (sym (r.there u q.1)) ∙ e in
              elim (slot_test u s x) [ inl g ↦ absurd (q.1 g.0) | inr g ↦ in_others u s x (a.stands u s x before ne) g ]
        ];
        found = λ u s x k. elim (of_referred u s x k) [
          | inl e ↦
              let tn : target ≡ new = ap (λ (b : Bool). cond b new 0) (sym among_new ∙ e.3) in
              let yes : eqb slot slot ≡ true = itself slot in
              let here : target_at (slots_at v'.tables.slots object) slot ≡ Some new = r.here slot ∙ (ap (λ (b : Bool). cond b (Some target) (target_at (slots_at t.slots object) slot)) yes ∙ ap (λ (z : ℕ). Some z) tn) in
              rest u s x e.0 e.1 e.2 here
          | inr e ↦ elim (cases_eqb u object) [
            | inl q ↦
                let no = not_slot u s x e.1 q.1 in
                let f : eqb slot s ≡ false = apart slot s (λ z. no (sym z)) in
                subst (λ (z : ℕ). target_at (slots_at v'.tables.slots z) s ≡ Some x) (sym q.1) (r.here s ∙ (ap (λ (b : Bool). cond b (Some target) (target_at (slots_at t.slots object) s)) f ∙ subst (λ (z : ℕ). target_at (slots_at t.slots z) s ≡ Some x) q.1 (a.found u s x e.0)))
            | inr q ↦ ap (λ (m : Slots). target_at m s) (r.there u q.1) ∙ a.found u s x e.0
          ]
        ];
        among = λ u s x k. elim (of_referred u s x k) [
          | inl e ↦ (subst (λ (z : ℕ). Contains c.heap.space z) (sym e.0) (held_among t n past c object a held), subst (λ (z : ℕ). Contains c.heap.space z) (sym e.2) (has_contains c.heap.space new e.3))
          | inr e ↦ a.among u s x e.0
        ];
        sorted = λ u. elim (cases_eqb u object) [
          | inl q ↦ subst (λ (z : ℕ). IsStrictlySortedBy nat_cmp (keys_of (slots_at v'.tables.slots z))) (sym q.1) r.sorted
          | inr q ↦ subst (λ (m : Slots). IsStrictlySortedBy nat_cmp (keys_of m)) (sym (r.there u q.1)) (a.sorted u)
        ];
      }
    where
      itself : (o : ℕ) → eqb o o ≡ true
      itself o = grind (arith, nat_tests)

      apart : (a b : ℕ) → a ≢ b → eqb a b ≡ false
      apart a b ne = grind (arith, nat_tests)

      rest : (u s x : ℕ) → u ≡ object → s ≡ slot → x ≡ new → target_at (slots_at v'.tables.slots object) slot ≡ Some new → target_at (slots_at v'.tables.slots u) s ≡ Some x
      rest u s x e f g at = subst (λ (z : ℕ). target_at (slots_at v'.tables.slots z) s ≡ Some x) (sym e) (subst (λ (z : ℕ). target_at (slots_at v'.tables.slots object) z ≡ Some x) (sym f) (at ∙ ap (λ (z : ℕ). Some z) (sym g)))

      new_in : (u s x : ℕ) → u ≡ object → s ≡ slot → target ≡ x → x ≢ 0 → (b : Bool) → is_some (held_at v.tables.places new) ≡ b → Contains referred (u, s, x)
      new_in u s x e f g ne true held =
          let nx : new ≡ x = sym (ap (λ (b : Bool). cond b new 0) held) ∙ g in
          let first : Contains referred (object, slot, new) = subst (λ (b : Bool). Contains (cond b ((object, slot, new) ∷ others) others) (object, slot, new)) (sym (among_new ∙ held)) (Contains-here (object, slot, new) others) in
          subst (λ (z : ℕ). Contains referred (z, s, x)) (sym e) (subst (λ (z : ℕ). Contains referred (object, z, x)) (sym f) (subst (λ (z : ℕ). Contains referred (object, slot, z)) nx first))
      new_in u s x e f g ne false held = absurd (ne (sym g ∙ ap (λ (b : Bool). cond b new 0) held))

  pub written_ready : IsReady v' old n (write ∷ past) (written object slot new c)
  written_ready = elim w.done [
    | inl e ↦ subst (λ (d : Counted). IsReady v' old n (write ∷ past) d) (sym (ignored e.0)) (subst (λ (u : View). IsReady u old n (write ∷ past) c) (sym (w.rest ∙ ap (λ (t : Tables). record v { tables = t }) e.1)) (record {
      few = h.few;
      fed = (h.fed, tt);
      agrees = unchanged;
      totals = record { bytes_is = h.totals.bytes_is; freed_is = h.totals.freed_is; peak_is = h.totals.peak_is; exhausted_is = h.totals.exhausted_is; nursery_none = h.totals.nursery_none; minor_is = h.totals.minor_is; major_is = h.totals.major_is; sums = h.totals.sums };
      leaked_is = (let leaked = h.leaked_is in let kept = h.kept_is in let bi = h.totals.bytes_is in omega (arith, leaked, kept, bi));
      only = λ o k l. not_both (is_left v.tables.dead v.tables.counts o) l (h.none o k);
    }))
    | inr e ↦ subst (λ (d : Counted). IsReady v' old n (write ∷ past) d) (sym (taken e.0)) (subst (λ (u : View). IsReady u old n (write ∷ past) (record c { references = referred })) (sym w.rest) (record {
      few = h.few;
      fed = (h.fed, tt);
      agrees = written_agrees e.0 e.1;
      totals = record { bytes_is = h.totals.bytes_is; freed_is = h.totals.freed_is; peak_is = h.totals.peak_is; exhausted_is = h.totals.exhausted_is; nursery_none = h.totals.nursery_none; minor_is = h.totals.minor_is; major_is = h.totals.major_is; sums = h.totals.sums };
      leaked_is = (let leaked = h.leaked_is in let kept = h.kept_is in let bi = h.totals.bytes_is in omega (arith, leaked, kept, bi));
      only = λ o k l.
          (let r = e.1 in
          let p = left_parts v'.tables.dead v'.tables.counts o l in
          elim (r.counts_low o p.1) [
            | inl z ↦ not_both (is_left v.tables.dead v.tables.counts o) (left_of v.tables.dead v.tables.counts o (subst (λ (d : List Bool). flag_at d o ≡ true) r.dead_is p.0) z) (h.none o (subst (λ (l : List Place). is_some (held_at l o) ≡ true) r.places_is k))
            | inr q ↦ q
          ]);
    }))
  ]
    where
      unchanged : AgreesWith v.tables n (write ∷ past) c
      unchanged = (let a = h.agrees in record { long = a.long; dead_long = a.dead_long; tables = a.tables; held_is = a.held_is; made_is = a.made_is; made = a.made; distinct = a.distinct; dead_is = a.dead_is; stands = a.stands; found = a.found; among = a.among; sorted = a.sorted })
