-- Local variables of types, as the machine writes them: the machine looks at the entry that it writes, and the types at its
-- neighbours. Where longs are whole, both free the same entries.
use Rattle.std.proofs.Common.{ℤ, ◌⊎◌, ◌≡◌, ℕ, zero, suc, ◌+◌, ◌-◌, ◌<◌, ◌==◌, ◌&&◌, Bool, true, false, List, length, get_or, set, refl, sym, ◌∙◌, ap, subst, inl, inr, arith, get_or-set_same, get_or-set_other}
use Rattle.std.specs.Prelude.{if◌then◌else◌}
use Rattle.std.proofs.lemmas.Bool.{cases_eq, cases_lt, eq-eqb, eqb-true, and_parts, false≢true, and_from, ne_eqb}
use Rattle.std.proofs.lemmas.List.{length-set, get_or_past}
use Rattle.et_base.specs.declared.value.Value.{Value}
use Rattle.et_base.specs.declared.value.Value.TheVariants as value
use Rattle.et_event.specs.Plain.{long_stored, other_half_unset, freed, one_stored}
use Rattle.et_flow.specs.declared.types.EntryType.{EntryType}
use Rattle.et_flow.specs.declared.types.EntryType.TheVariants as entry
use Rattle.et_flow.specs.Types.{IsBelow, type_of}
use Rattle.et_flow.specs.Stores.{is_long, is_high, without_lower, without_upper, one_set, long_set}
use Rattle.et_theorems.specs.typings.Values.{ArePaired, type_at, AreLocalsOf}
use Rattle.et_flow.proofs.Stores.{gone_if, kept_at, kept_below, kept_there, length-kept}
use Rattle.et_verify.proofs.Monotone.{long_is, high_is}

-- ONE ENTRY

abbrev value_gone : (EntryType → Bool) → Bool → Value → Value
value_gone test b v = if b && test (type_of v) then value.Unset else v

abbrev value_kept : ℕ → ℕ → ℕ → Value → Value
value_kept first last j v = value_gone is_high (j == last + 1) (value_gone is_long (j + 1 == first) v)

type-value_gone : (test : EntryType → Bool) (b : Bool) (v : Value) → type_of (value_gone test b v) ≡ gone_if test b (type_of v)
type-value_gone test b v = by (b && test (type_of v))
  where
    by : (c : Bool) → type_of (if c then value.Unset else v) ≡ (if c then entry.Free else type_of v)
    by true = refl
    by false = refl

type-value_kept : (first last j : ℕ) (v : Value) → type_of (value_kept first last j v) ≡ kept_at first last j (type_of v)
type-value_kept first last j v =
    type-value_gone is_high (j == last + 1) (value_gone is_long (j + 1 == first) v) ∙ ap (gone_if is_high (j == last + 1)) (type-value_gone is_long (j + 1 == first) v)

gone_same : (test : EntryType → Bool) (b : Bool) (v : Value) → (b ≡ true → test (type_of v) ≡ true → ⊥) → value_gone test b v ≡ v
gone_same test b v h = by (b && test (type_of v)) refl
  where
    by : (c : Bool) → (b && test (type_of v)) ≡ c → (if c then value.Unset else v) ≡ v
    by true e = let p = and_parts b (test (type_of v)) e in absurd (h p.0 p.1)
    by false e = refl

gone_now : (test : EntryType → Bool) (b : Bool) (v : Value) → b ≡ true → test (type_of v) ≡ true → value_gone test b v ≡ value.Unset
gone_now test true v e h = ap (λ (c : Bool). if c then value.Unset else v) h
gone_now test false v e h = cc

kept_same : (first last j : ℕ) (v : Value) → (j + 1 ≡ first → type_of v ≡ entry.Long → ⊥) → (j ≡ last + 1 → type_of v ≡ entry.LongHigh → ⊥) → value_kept first last j v ≡ v
kept_same first last j v lower upper =
    let inner : value_gone is_long (j + 1 == first) v ≡ v = gone_same is_long (j + 1 == first) v (λ b t. lower (eqb-true (j + 1) first b) (long_is (type_of v) t)) in
    ap (value_gone is_high (j == last + 1)) inner ∙ gone_same is_high (j == last + 1) v (λ b t. upper (eqb-true j (last + 1) b) (high_is (type_of v) t))

kept_lower : (first last j : ℕ) (v : Value) → j + 1 ≡ first → type_of v ≡ entry.Long → value_kept first last j v ≡ value.Unset
kept_lower first last j v e t =
    ap (value_gone is_high (j == last + 1)) (gone_now is_long (j + 1 == first) v (eq-eqb (j + 1) first e) (ap is_long t)) ∙ gone_same is_high (j == last + 1) value.Unset (λ b f. cc)

kept_upper : (first last j : ℕ) (v : Value) → (j + 1 ≡ first → ⊥) → j ≡ last + 1 → type_of v ≡ entry.LongHigh → value_kept first last j v ≡ value.Unset
kept_upper first last j v ne e t =
    ap (value_gone is_high (j == last + 1)) (gone_same is_long (j + 1 == first) v (λ b f. ne (eqb-true (j + 1) first b))) ∙ gone_now is_high (j == last + 1) v (eq-eqb j (last + 1) e) (ap is_high t)

-- WHAT THE MACHINE FREES

not_high_and_long : (t : EntryType) → t ≡ entry.LongHigh → t ≡ entry.Long → ⊥
not_high_and_long t a b = cc

length-other : (vs : List Value) (i : ℕ) (w : Value) → length (other_half_unset i w vs) ≡ length vs
length-other vs i value.Unset = refl
length-other vs i (value.Int n) = refl
length-other vs i (value.Long n) = length-set vs (i + 1) value.Unset
length-other vs i value.LongHigh = length-set vs (i - 1) value.Unset
length-other vs i value.Null = refl
length-other vs i (value.Ref o) = refl

module _ (vs : List Value) (paired : ArePaired (type_at vs)) where
  -- an entry that is no half of a long has no half beside it
  beside : (i j : ℕ) (t : EntryType) → type_at vs i ≡ t → (t ≡ entry.Long → ⊥) → (t ≡ entry.LongHigh → ⊥) → value_kept i i j (get_or vs j value.Unset) ≡ get_or vs j value.Unset
  beside i j t is long high =
      kept_same i i j (get_or vs j value.Unset)
      (λ e f. high (sym is ∙ subst (λ (k : ℕ). type_at vs k ≡ entry.LongHigh) e (paired.upper j f)))
      (λ e f. long (sym is ∙ paired.lower i (subst (λ (k : ℕ). type_at vs k ≡ entry.LongHigh) e f)))

  freed_by : (i j : ℕ) (w : Value) → get_or vs i value.Unset ≡ w → j < length vs → (j ≡ i → ⊥) → get_or (other_half_unset i w vs) j value.Unset ≡ value_kept i i j (get_or vs j value.Unset)
  freed_by i j value.Unset is lt ne = sym (beside i j entry.Free (ap type_of is) (λ e. cc) (λ e. cc))
  freed_by i j (value.Int n) is lt ne = sym (beside i j entry.Int (ap type_of is) (λ e. cc) (λ e. cc))
  freed_by i j value.Null is lt ne = sym (beside i j entry.Reference (ap type_of is) (λ e. cc) (λ e. cc))
  freed_by i j (value.Ref o) is lt ne = sym (beside i j entry.Reference (ap type_of is) (λ e. cc) (λ e. cc))
  freed_by i j (value.Long n) is lt ne =
      let high : type_at vs (i + 1) ≡ entry.LongHigh = paired.upper i (ap type_of is) in
      elim (cases_eq j (i + 1)) [
        | inl same ↦ subst (λ (k : ℕ). get_or (set vs (i + 1) value.Unset) k value.Unset ≡ value.Unset) (sym same) (get_or-set_same vs (i + 1) value.Unset value.Unset (subst (λ (k : ℕ). k < length vs) same lt))
            ∙ sym (kept_upper i i j (get_or vs j value.Unset) (λ e. absurd (omega arith)) same (subst (λ (k : ℕ). type_at vs k ≡ entry.LongHigh) (sym same) high))
        | inr other ↦ get_or-set_other vs (i + 1) j value.Unset value.Unset other
            ∙ sym (kept_same i i j (get_or vs j value.Unset) (λ e f. not_high_and_long (type_at vs i) (subst (λ (k : ℕ). type_at vs k ≡ entry.LongHigh) e (paired.upper j f)) (ap type_of is)) (λ e f. other e))
      ]
  freed_by zero j value.LongHigh is lt ne = absurd (paired.first (ap type_of is))
  freed_by (suc k) j value.LongHigh is lt ne =
      let long : type_at vs k ≡ entry.Long = paired.lower k (ap type_of (ap (λ (n : ℕ). get_or vs n value.Unset) (let e : k + 1 ≡ suc k = omega arith in e) ∙ is)) in
      subst (λ (n : ℕ). get_or (set vs n value.Unset) j value.Unset ≡ value_kept (suc k) (suc k) j (get_or vs j value.Unset)) (let e : k ≡ suc k - 1 = omega arith in e)
      (elim (cases_eq j k) [
        | inl same ↦ subst (λ (n : ℕ). get_or (set vs k value.Unset) n value.Unset ≡ value.Unset) (sym same) (get_or-set_same vs k value.Unset value.Unset (subst (λ (n : ℕ). n < length vs) same lt))
            ∙ sym (kept_lower (suc k) (suc k) j (get_or vs j value.Unset) (omega arith) (subst (λ (n : ℕ). type_at vs n ≡ entry.Long) (sym same) long))
        | inr other ↦ get_or-set_other vs k j value.Unset value.Unset other
            ∙ sym (kept_same (suc k) (suc k) j (get_or vs j value.Unset) (λ e f. other (omega arith)) (λ e f. not_high_and_long (type_at vs (suc k)) (ap type_of is) (paired.lower (suc k) (subst (λ (n : ℕ). type_at vs n ≡ entry.LongHigh) e f))))
      ])

  pub freed_at : (i j : ℕ) → j < length vs → (j ≡ i → ⊥) → get_or (freed i vs) j value.Unset ≡ value_kept i i j (get_or vs j value.Unset)
  freed_at i j lt ne = freed_by i j (get_or vs i value.Unset) refl lt ne

-- WHAT STAYS

record Stays (test : EntryType → Bool) (b : Bool) (x u : EntryType) : Type 0 where
  same : x ≡ u
  off : b ≡ true → test x ≡ true → ⊥

stays : (test : EntryType → Bool) (b : Bool) (x u : EntryType) → gone_if test b x ≡ u → (u ≡ entry.Free → ⊥) → Stays test b x u
stays test b x u e used = by (b && test x) refl e
  where
    by : (c : Bool) → (b && test x) ≡ c → (if c then entry.Free else x) ≡ u → Stays test b x u
    by true q h = absurd (used (sym h))
    by false q h = record { same = h; off = λ on t. false≢true (sym q ∙ and_from b (test x) on t) }

stays_so : (test : EntryType → Bool) (b : Bool) (x : EntryType) → (b ≡ true → test x ≡ true → ⊥) → gone_if test b x ≡ x
stays_so test b x off = by (b && test x) refl
  where
    by : (c : Bool) → (b && test x) ≡ c → (if c then entry.Free else x) ≡ x
    by true q = let h = and_parts b (test x) q in absurd (off h.0 h.1)
    by false q = refl

record Remains (first last j : ℕ) (x u : EntryType) : Type 0 where
  same : x ≡ u
  lower : j + 1 ≡ first → is_long x ≡ true → ⊥
  upper : j ≡ last + 1 → is_high x ≡ true → ⊥

remains : (first last j : ℕ) (x u : EntryType) → kept_at first last j x ≡ u → (u ≡ entry.Free → ⊥) → Remains first last j x u
remains first last j x u e used =
    let outer : Stays is_high (j == last + 1) (gone_if is_long (j + 1 == first) x) u = stays is_high (j == last + 1) (gone_if is_long (j + 1 == first) x) u e used in
    let inner : Stays is_long (j + 1 == first) x u = stays is_long (j + 1 == first) x u outer.same used in
    record {
      same = inner.same;
      lower = λ q t. inner.off (eq-eqb (j + 1) first q) t;
      upper = λ q t. outer.off (eq-eqb j (last + 1) q) (ap is_high (outer.same ∙ sym inner.same) ∙ t);
    }

remains_so : (first last j : ℕ) (x : EntryType) → (j + 1 ≡ first → is_long x ≡ true → ⊥) → (j ≡ last + 1 → is_high x ≡ true → ⊥) → kept_at first last j x ≡ x
remains_so first last j x lower upper =
    let inner : gone_if is_long (j + 1 == first) x ≡ x = stays_so is_long (j + 1 == first) x (λ b t. lower (eqb-true (j + 1) first b) t) in
    ap (gone_if is_high (j == last + 1)) inner ∙ stays_so is_high (j == last + 1) x (λ b t. upper (eqb-true j (last + 1) b) t)

free_kept : (first last n : ℕ) → kept_at first last n entry.Free ≡ entry.Free
free_kept first last n = by (n + 1 == first) (n == last + 1)
  where
    by : (a b : Bool) → gone_if is_high b (gone_if is_long a entry.Free) ≡ entry.Free
    by true true = refl
    by true false = refl
    by false true = refl
    by false false = refl

-- A STORE of one entry

module _ (vs : List Value) (ts : List EntryType) (i : ℕ) (v : Value) (t : EntryType) (held : AreLocalsOf vs ts) (inside : i < length vs) (is : type_of v ≡ t) (long : t ≡ entry.Long → ⊥) (high : t ≡ entry.LongHigh → ⊥) where
  stored_long : length (one_stored i v vs) ≡ length vs
  stored_long = length-set (freed i vs) i v ∙ length-other vs i (get_or vs i value.Unset)

  -- the type of each entry then
  abbrev type_now : ℕ → EntryType
  type_now j = if j == i then t else kept_at i i j (type_at vs j)

  stored_type : (j : ℕ) → type_at (one_stored i v vs) j ≡ type_now j
  stored_type j = elim (cases_eq j i) [
    | inl same ↦ subst (λ (b : Bool). type_at (one_stored i v vs) j ≡ (if b then t else kept_at i i j (type_at vs j))) (sym (eq-eqb j i same))
        (ap type_of (subst (λ (k : ℕ). get_or (set (freed i vs) i v) k value.Unset ≡ v) (sym same) (get_or-set_same (freed i vs) i v value.Unset (omega (arith, length-other vs i (get_or vs i value.Unset))))) ∙ is)
    | inr ne ↦ subst (λ (b : Bool). type_at (one_stored i v vs) j ≡ (if b then t else kept_at i i j (type_at vs j))) (sym (ne_eqb j i ne)) (other j ne)
  ]
    where
      other : (k : ℕ) → (k ≡ i → ⊥) → type_at (one_stored i v vs) k ≡ kept_at i i k (type_at vs k)
      other k ne = elim (cases_lt k (length vs)) [
        | inl lt ↦ ap type_of (get_or-set_other (freed i vs) i k v value.Unset ne ∙ freed_at vs held.paired i k lt ne) ∙ type-value_kept i i k (get_or vs k value.Unset)
        | inr past ↦ ap type_of (get_or_past (one_stored i v vs) k value.Unset (omega (arith, stored_long))) ∙ sym (ap (kept_at i i k) (ap type_of (get_or_past vs k value.Unset past)) ∙ free_kept i i k)
      ]

  now_here : type_now i ≡ t
  now_here = ap (λ (b : Bool). if b then t else kept_at i i i (type_at vs i)) (eq-eqb i i refl)

  now_other : (j : ℕ) → (j ≡ i → ⊥) → type_now j ≡ kept_at i i j (type_at vs j)
  now_other j ne = ap (λ (b : Bool). if b then t else kept_at i i j (type_at vs j)) (ne_eqb j i ne)

  upper_now : (j : ℕ) → type_now j ≡ entry.Long → type_now (j + 1) ≡ entry.LongHigh
  upper_now j e = elim (cases_eq j i) [
    | inl same ↦ absurd (long (sym now_here ∙ subst (λ (k : ℕ). type_now k ≡ entry.Long) same e))
    | inr ne ↦ (
        let r : Remains i i j (type_at vs j) entry.Long = remains i i j (type_at vs j) entry.Long (sym (now_other j ne) ∙ e) (λ q. cc) in
        let high : type_at vs (j + 1) ≡ entry.LongHigh = held.paired.upper j r.same in
        now_other (j + 1) (λ q. r.lower q (ap is_long r.same))
        ∙ (ap (kept_at i i (j + 1)) high ∙ remains_so i i (j + 1) entry.LongHigh (λ q f. false≢true f) (λ q f. ne (omega arith))))
  ]

  lower_now : (j : ℕ) → type_now (j + 1) ≡ entry.LongHigh → type_now j ≡ entry.Long
  lower_now j e = elim (cases_eq (j + 1) i) [
    | inl same ↦ absurd (high (sym now_here ∙ subst (λ (k : ℕ). type_now k ≡ entry.LongHigh) same e))
    | inr ne ↦ (
        let r : Remains i i (j + 1) (type_at vs (j + 1)) entry.LongHigh = remains i i (j + 1) (type_at vs (j + 1)) entry.LongHigh (sym (now_other (j + 1) ne) ∙ e) (λ q. cc) in
        let low : type_at vs j ≡ entry.Long = held.paired.lower j r.same in
        now_other j (λ q. r.upper (ap (λ (k : ℕ). k + 1) q) (ap is_high r.same))
        ∙ (ap (kept_at i i j) low ∙ remains_so i i j entry.Long (λ q f. ne q) (λ q f. false≢true f)))
  ]

  first_now : type_now 0 ≡ entry.LongHigh → ⊥
  first_now e = elim (cases_eq 0 i) [
    | inl same ↦ high (sym now_here ∙ subst (λ (k : ℕ). type_now k ≡ entry.LongHigh) same e)
    | inr ne ↦ held.paired.first (remains i i 0 (type_at vs 0) entry.LongHigh (sym (now_other 0 ne) ∙ e) (λ q. cc)).same
  ]

  each_now : (j : ℕ) → j < length vs → IsBelow (type_at (one_stored i v vs) j) (get_or (one_set i t ts) j entry.Free)
  each_now j lt = elim (cases_eq j i) [
    | inl same ↦ inl (stored_type j ∙ (subst (λ (k : ℕ). type_now k ≡ t) (sym same) now_here
        ∙ sym (subst (λ (k : ℕ). get_or (one_set i t ts) k entry.Free ≡ t) (sym same) (get_or-set_same (without_upper i (without_lower i ts)) i t entry.Free (omega (arith, inside, held.long, length-kept ts i i))))))
    | inr ne ↦
        subst (λ (a : EntryType). IsBelow a (get_or (one_set i t ts) j entry.Free)) (sym (stored_type j ∙ now_other j ne))
        (subst (λ (b : EntryType). IsBelow (kept_at i i j (type_at vs j)) b) (sym (get_or-set_other (without_upper i (without_lower i ts)) i j t entry.Free ne ∙ kept_there ts i i j (omega (arith, lt, held.long))))
        (kept_below i i j (type_at vs j) (get_or ts j entry.Free) (held.each j lt)))
  ]

  -- the local variables are of the types then
  pub stored_locals : AreLocalsOf (one_stored i v vs) (one_set i t ts)
  stored_locals = record {
    long = stored_long ∙ (held.long ∙ sym (length-set (without_upper i (without_lower i ts)) i t ∙ length-kept ts i i));
    each = λ j lt. each_now j (omega (arith, lt, stored_long));
    paired = record {
      upper = λ j e. stored_type (j + 1) ∙ upper_now j (sym (stored_type j) ∙ e);
      lower = λ j e. stored_type j ∙ lower_now j (sym (stored_type (j + 1)) ∙ e);
      first = λ e. first_now (sym (stored_type 0) ∙ e);
    };
  }

-- A STORE of a long, in two entries

-- what frees the neighbours of the first entry frees those of both, but for the one above the second
kept_of_both : (i j : ℕ) (v : Value) → (j ≡ i + 1 → ⊥) → (j ≡ i + 1 + 1 → type_of v ≡ entry.LongHigh → ⊥) → value_kept i i j v ≡ value_kept i (i + 1) j v
kept_of_both i j v ne off = elim (cases_eq j (i + 1 + 1)) [
  | inl same ↦
      kept_same i i j v (λ e t. absurd (omega arith)) (λ e t. ne e)
      ∙ sym (kept_same i (i + 1) j v (λ e t. absurd (omega arith)) (λ e t. off e t))
  | inr other ↦ (
      let inner : Value = value_gone is_long (j + 1 == i) v in
      gone_same is_high (j == i + 1) inner (λ b t. ne (eqb-true j (i + 1) b))
      ∙ sym (gone_same is_high (j == i + 1 + 1) inner (λ b t. other (eqb-true j (i + 1 + 1) b))))
]

-- an entry that is kept, or nothing
record IsKept (v w : Value) : Type 0 where
  or_gone : (w ≡ value.Unset) ⊎ (w ≡ v)

gone_kept : (test : EntryType → Bool) (b : Bool) (v : Value) → IsKept v (value_gone test b v)
gone_kept test b v = by (b && test (type_of v))
  where
    by : (c : Bool) → IsKept v (if c then value.Unset else v)
    by true = record { or_gone = inl refl }
    by false = record { or_gone = inr refl }

kept_kept : (first last j : ℕ) (v : Value) → IsKept v (value_kept first last j v)
kept_kept first last j v =
    elim (gone_kept is_high (j == last + 1) (value_gone is_long (j + 1 == first) v)).or_gone [
      | inl none ↦ record { or_gone = inl none }
      | inr same ↦ elim (gone_kept is_long (j + 1 == first) v).or_gone [
        | inl none ↦ record { or_gone = inl (same ∙ none) }
        | inr more ↦ record { or_gone = inr (same ∙ more) }
      ]
    ]

-- .. so it is of the type that it had, where it is of one
kept_type : (first last j : ℕ) (v : Value) (t : EntryType) → (t ≡ entry.Free → ⊥) → type_of (value_kept first last j v) ≡ t → type_of v ≡ t
kept_type first last j v t used e = elim (kept_kept first last j v).or_gone [
  | inl none ↦ absurd (used (sym e ∙ ap type_of none))
  | inr same ↦ sym (ap type_of same) ∙ e
]

module _ (vs : List Value) (paired : ArePaired (type_at vs)) (i : ℕ) where
  abbrev ws : List Value
  ws = freed i vs

  ws_long : length ws ≡ length vs
  ws_long = length-other vs i (get_or vs i value.Unset)

  -- what the second entry still is
  second_is : (t : EntryType) → i + 1 < length vs → (t ≡ entry.Free → ⊥) → type_at ws (i + 1) ≡ t → type_at vs (i + 1) ≡ t
  second_is t lt used e =
      kept_type i i (i + 1) (get_or vs (i + 1) value.Unset) t used (sym (ap type_of (freed_at vs paired i (i + 1) lt (λ q. absurd (omega arith)))) ∙ e)

  -- a long there stays one
  second_long : i + 1 < length vs → type_at vs (i + 1) ≡ entry.Long → type_at ws (i + 1) ≡ entry.Long
  second_long lt e =
      ap type_of (freed_at vs paired i (i + 1) lt (λ q. absurd (omega arith))
      ∙ kept_same i i (i + 1) (get_or vs (i + 1) value.Unset) (λ q t. absurd (omega arith)) (λ q t. not_high_and_long (type_at vs (i + 1)) t e))
      ∙ e

  both_freed : (j : ℕ) (w : Value) → get_or ws (i + 1) value.Unset ≡ w → i + 1 < length vs → j < length vs → (j ≡ i → ⊥) → (j ≡ i + 1 → ⊥) → get_or (other_half_unset (i + 1) w ws) j value.Unset ≡ value_kept i (i + 1) j (get_or vs j value.Unset)
  both_freed j w is room lt ne other = by w is
    where
      first : get_or ws j value.Unset ≡ value_kept i i j (get_or vs j value.Unset)
      first = freed_at vs paired i j lt ne

      -- nothing more is freed where the second entry is no long
      nothing : (type_at ws (i + 1) ≡ entry.Long → ⊥) → get_or ws j value.Unset ≡ value_kept i (i + 1) j (get_or vs j value.Unset)
      nothing never =
          first ∙ kept_of_both i j (get_or vs j value.Unset) other
          (λ e t. never (second_long room (paired.lower (i + 1) (subst (λ (k : ℕ). type_at vs k ≡ entry.LongHigh) e t))))

      by : (x : Value) → get_or ws (i + 1) value.Unset ≡ x → get_or (other_half_unset (i + 1) x ws) j value.Unset ≡ value_kept i (i + 1) j (get_or vs j value.Unset)
      by value.Unset e = nothing (λ t. no_long entry.Free (λ q. cc) (sym (ap type_of e) ∙ t))
        where
          no_long : (t : EntryType) → (t ≡ entry.Long → ⊥) → t ≡ entry.Long → ⊥
          no_long t h q = h q
      by (value.Int n) e = nothing (λ t. int_long (sym (ap type_of e) ∙ t))
        where
          int_long : entry.Int ≡ entry.Long → ⊥
          int_long q = cc
      by value.Null e = nothing (λ t. reference_long (sym (ap type_of e) ∙ t))
        where
          reference_long : entry.Reference ≡ entry.Long → ⊥
          reference_long q = cc
      by (value.Ref o) e = nothing (λ t. reference_long (sym (ap type_of e) ∙ t))
        where
          reference_long : entry.Reference ≡ entry.Long → ⊥
          reference_long q = cc
      by (value.Long n) e =
          let long : type_at vs (i + 1) ≡ entry.Long = second_is entry.Long room (λ q. cc) (ap type_of e) in
          let high : type_at vs (i + 1 + 1) ≡ entry.LongHigh = paired.upper (i + 1) long in
          elim (cases_eq j (i + 1 + 1)) [
            | inl same ↦ subst (λ (k : ℕ). get_or (set ws (i + 1 + 1) value.Unset) k value.Unset ≡ value.Unset) (sym same) (get_or-set_same ws (i + 1 + 1) value.Unset value.Unset (omega (arith, same, lt, ws_long)))
                ∙ sym (kept_upper i (i + 1) j (get_or vs j value.Unset) (λ q. absurd (omega arith)) same (subst (λ (k : ℕ). type_at vs k ≡ entry.LongHigh) (sym same) high))
            | inr more ↦ get_or-set_other ws (i + 1 + 1) j value.Unset value.Unset more ∙ (first ∙ kept_of_both i j (get_or vs j value.Unset) other (λ q t. more q))
          ]
      by value.LongHigh e =
          let back : i + 1 - 1 ≡ i = omega arith in
          subst (λ (k : ℕ). get_or (set ws k value.Unset) j value.Unset ≡ value_kept i (i + 1) j (get_or vs j value.Unset)) (sym back)
          (get_or-set_other ws i j value.Unset value.Unset ne ∙ nothing (λ t. not_high_and_long (type_at ws (i + 1)) (ap type_of e) t))

  pub both_freed_at : (j : ℕ) → i + 1 < length vs → j < length vs → (j ≡ i → ⊥) → (j ≡ i + 1 → ⊥) → get_or (freed (i + 1) (freed i vs)) j value.Unset ≡ value_kept i (i + 1) j (get_or vs j value.Unset)
  both_freed_at j room lt ne other = both_freed j (get_or ws (i + 1) value.Unset) refl room lt ne other

  pub both_length : length (freed (i + 1) (freed i vs)) ≡ length vs
  both_length = length-other ws (i + 1) (get_or ws (i + 1) value.Unset) ∙ ws_long

module _ (vs : List Value) (ts : List EntryType) (i : ℕ) (n : ℤ) (held : AreLocalsOf vs ts) (inside : i + 1 < length vs) where
  abbrev fs : List Value
  fs = freed (i + 1) (freed i vs)

  fs_long : length fs ≡ length vs
  fs_long = both_length vs held.paired i

  long_length : length (long_stored i n vs) ≡ length vs
  long_length = length-set (set fs i (value.Long n)) (i + 1) value.LongHigh ∙ (length-set fs i (value.Long n) ∙ fs_long)

  abbrev type_then : ℕ → EntryType
  type_then j = if j == i then entry.Long else (if j == i + 1 then entry.LongHigh else kept_at i (i + 1) j (type_at vs j))

  then_low : (j : ℕ) → j ≡ i → type_then j ≡ entry.Long
  then_low j e = ap (λ (b : Bool). if b then entry.Long else (if j == i + 1 then entry.LongHigh else kept_at i (i + 1) j (type_at vs j))) (eq-eqb j i e)

  then_up : (j : ℕ) → j ≡ i + 1 → type_then j ≡ entry.LongHigh
  then_up j e =
      ap (λ (b : Bool). if b then entry.Long else (if j == i + 1 then entry.LongHigh else kept_at i (i + 1) j (type_at vs j))) (ne_eqb j i (λ q. absurd (omega arith)))
      ∙ ap (λ (b : Bool). if b then entry.LongHigh else kept_at i (i + 1) j (type_at vs j)) (eq-eqb j (i + 1) e)

  then_other : (j : ℕ) → (j ≡ i → ⊥) → (j ≡ i + 1 → ⊥) → type_then j ≡ kept_at i (i + 1) j (type_at vs j)
  then_other j ne other =
      ap (λ (b : Bool). if b then entry.Long else (if j == i + 1 then entry.LongHigh else kept_at i (i + 1) j (type_at vs j))) (ne_eqb j i ne)
      ∙ ap (λ (b : Bool). if b then entry.LongHigh else kept_at i (i + 1) j (type_at vs j)) (ne_eqb j (i + 1) other)

  low_stored : type_at (long_stored i n vs) i ≡ entry.Long
  low_stored =
      ap type_of (get_or-set_other (set fs i (value.Long n)) (i + 1) i value.LongHigh value.Unset (λ q. absurd (omega arith))
      ∙ get_or-set_same fs i (value.Long n) value.Unset (omega (arith, inside, fs_long)))

  up_stored : type_at (long_stored i n vs) (i + 1) ≡ entry.LongHigh
  up_stored = ap type_of (get_or-set_same (set fs i (value.Long n)) (i + 1) value.LongHigh value.Unset (omega (arith, inside, fs_long, length-set fs i (value.Long n))))

  other_stored : (j : ℕ) → (j ≡ i → ⊥) → (j ≡ i + 1 → ⊥) → type_at (long_stored i n vs) j ≡ kept_at i (i + 1) j (type_at vs j)
  other_stored j ne other = elim (cases_lt j (length vs)) [
    | inl lt ↦ ap type_of (get_or-set_other (set fs i (value.Long n)) (i + 1) j value.LongHigh value.Unset other ∙ (get_or-set_other fs i j (value.Long n) value.Unset ne ∙ both_freed_at vs held.paired i j inside lt ne other))
        ∙ type-value_kept i (i + 1) j (get_or vs j value.Unset)
    | inr past ↦ ap type_of (get_or_past (long_stored i n vs) j value.Unset (omega (arith, past, long_length))) ∙ sym (ap (kept_at i (i + 1) j) (ap type_of (get_or_past vs j value.Unset past)) ∙ free_kept i (i + 1) j)
  ]

  then_is : (j : ℕ) → type_at (long_stored i n vs) j ≡ type_then j
  then_is j = elim (cases_eq j i) [
    | inl same ↦ subst (λ (k : ℕ). type_at (long_stored i n vs) k ≡ entry.Long) (sym same) low_stored ∙ sym (then_low j same)
    | inr ne ↦ elim (cases_eq j (i + 1)) [
      | inl same ↦ subst (λ (k : ℕ). type_at (long_stored i n vs) k ≡ entry.LongHigh) (sym same) up_stored ∙ sym (then_up j same)
      | inr other ↦ other_stored j ne other ∙ sym (then_other j ne other)
    ]
  ]

  high_is_long : entry.LongHigh ≡ entry.Long → ⊥
  high_is_long q = cc

  upper_then : (j : ℕ) → type_then j ≡ entry.Long → type_then (j + 1) ≡ entry.LongHigh
  upper_then j e = elim (cases_eq j i) [
    | inl same ↦ then_up (j + 1) (omega arith)
    | inr ne ↦ elim (cases_eq j (i + 1)) [
      | inl same ↦ absurd (high_is_long (sym (then_up j same) ∙ e))
      | inr other ↦ (
          let r : Remains i (i + 1) j (type_at vs j) entry.Long = remains i (i + 1) j (type_at vs j) entry.Long (sym (then_other j ne other) ∙ e) (λ q. cc) in
          let high : type_at vs (j + 1) ≡ entry.LongHigh = held.paired.upper j r.same in
          then_other (j + 1) (λ q. r.lower q (ap is_long r.same)) (λ q. ne (omega arith))
          ∙ (ap (kept_at i (i + 1) (j + 1)) high ∙ remains_so i (i + 1) (j + 1) entry.LongHigh (λ q f. false≢true f) (λ q f. other (omega arith))))
    ]
  ]

  lower_then : (j : ℕ) → type_then (j + 1) ≡ entry.LongHigh → type_then j ≡ entry.Long
  lower_then j e = elim (cases_eq (j + 1) i) [
    | inl same ↦ absurd (high_is_long (sym e ∙ then_low (j + 1) same))
    | inr ne ↦ elim (cases_eq j i) [
      | inl same ↦ then_low j same
      | inr other ↦ (
          let r : Remains i (i + 1) (j + 1) (type_at vs (j + 1)) entry.LongHigh = remains i (i + 1) (j + 1) (type_at vs (j + 1)) entry.LongHigh (sym (then_other (j + 1) ne (λ q. other (omega arith))) ∙ e) (λ q. cc) in
          let low : type_at vs j ≡ entry.Long = held.paired.lower j r.same in
          then_other j other (λ q. r.upper (ap (λ (k : ℕ). k + 1) q) (ap is_high r.same))
          ∙ (ap (kept_at i (i + 1) j) low ∙ remains_so i (i + 1) j entry.Long (λ q f. ne q) (λ q f. false≢true f)))
    ]
  ]

  first_then : type_then 0 ≡ entry.LongHigh → ⊥
  first_then e = elim (cases_eq 0 i) [
    | inl same ↦ high_is_long (sym e ∙ then_low 0 same)
    | inr ne ↦ held.paired.first (remains i (i + 1) 0 (type_at vs 0) entry.LongHigh (sym (then_other 0 ne (λ q. absurd (omega arith))) ∙ e) (λ q. cc)).same
  ]

  abbrev us : List EntryType
  us = without_upper (i + 1) (without_lower i ts)

  us_long : length us ≡ length ts
  us_long = length-kept ts i (i + 1)

  each_then : (j : ℕ) → j < length vs → IsBelow (type_at (long_stored i n vs) j) (get_or (long_set i ts) j entry.Free)
  each_then j lt = elim (cases_eq j i) [
    | inl same ↦ inl (then_is j ∙ (then_low j same ∙ sym (subst (λ (k : ℕ). get_or (long_set i ts) k entry.Free ≡ entry.Long) (sym same)
        (get_or-set_other (set us i entry.Long) (i + 1) i entry.LongHigh entry.Free (λ q. absurd (omega arith)) ∙ get_or-set_same us i entry.Long entry.Free (omega (arith, inside, held.long, us_long))))))
    | inr ne ↦ elim (cases_eq j (i + 1)) [
      | inl same ↦ inl (then_is j ∙ (then_up j same ∙ sym (subst (λ (k : ℕ). get_or (long_set i ts) k entry.Free ≡ entry.LongHigh) (sym same)
          (get_or-set_same (set us i entry.Long) (i + 1) entry.LongHigh entry.Free (omega (arith, inside, held.long, us_long, length-set us i entry.Long))))))
      | inr other ↦
          subst (λ (a : EntryType). IsBelow a (get_or (long_set i ts) j entry.Free)) (sym (then_is j ∙ then_other j ne other))
          (subst (λ (b : EntryType). IsBelow (kept_at i (i + 1) j (type_at vs j)) b)
          (sym (get_or-set_other (set us i entry.Long) (i + 1) j entry.LongHigh entry.Free other ∙ (get_or-set_other us i j entry.Long entry.Free ne ∙ kept_there ts i (i + 1) j (omega (arith, lt, held.long)))))
          (kept_below i (i + 1) j (type_at vs j) (get_or ts j entry.Free) (held.each j lt)))
    ]
  ]

  -- the local variables are of the types then
  pub long_locals : AreLocalsOf (long_stored i n vs) (long_set i ts)
  long_locals = record {
    long = long_length ∙ (held.long ∙ sym (length-set (set us i entry.Long) (i + 1) entry.LongHigh ∙ (length-set us i entry.Long ∙ us_long)));
    each = λ j lt. each_then j (omega (arith, lt, long_length));
    paired = record {
      upper = λ j e. then_is (j + 1) ∙ upper_then j (sym (then_is j) ∙ e);
      lower = λ j e. then_is j ∙ lower_then j (sym (then_is (j + 1)) ∙ e);
      first = λ e. first_then (sym (then_is 0) ∙ e);
    };
  }
