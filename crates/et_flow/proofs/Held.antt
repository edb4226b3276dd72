-- What a search finds among the local variables that are kept, and what writing one does.
use Rattle.std.proofs.Common.{◌≡◌, ℕ, zero, suc, ◌+◌, ◌-◌, ◌<◌, ◌≤◌, ◌==◌, Bool, true, false, get_or-set_same, get_or-set_other, List, [], ◌∷◌, ◌++◌, length, get_or, set, refl, sym, ◌∙◌, ap, subst, inl, inr, arith}
use Rattle.std.specs.Prelude.{if◌then◌else◌, replicate, sum_by}
use Rattle.std.specs.List.{insert}
use Rattle.std.proofs.lemmas.Bool.{cases_eq, cases_lt, eq-eqb, eqb-true, false≢true, ne_eqb}
use Rattle.std.proofs.lemmas.Bool.Decides.{nat_tests}
use Rattle.std.proofs.lemmas.List.{length-set, length-append, length-replicate, get_or_append_left, get_or-append_right, get_or-replicate}
use Rattle.std.proofs.lemmas.List.Edits.{length-insert, get_or-insert_below, get_or-insert_at, get_or-insert_above}
use Rattle.std.proofs.lemmas.List.FromFn.{length-map-range_with_len, get_or-map-range_with_len, fill_by_all}
use Rattle.std.proofs.lemmas.List.Sums.{sum_by-cons}
use Rattle.et_flow.proofs.Below.{joined_is, rank_joined, length-joined_lists, joined_at}
use Rattle.et_flow.specs.Stores.{with_free}
use Rattle.et_flow.specs.declared.types.EntryType.TheVariants as entry
use Rattle.et_flow.specs.declared.types.EntryType.{EntryType}
use Rattle.et_flow.specs.declared.types.EntryType.TheVariants.{Free}
use Rattle.et_flow.specs.declared.locals.Held.{Held}
use Rattle.et_flow.specs.Types.{joined, joined_lists, rank}
use Rattle.et_flow.specs.Locals.{type_in, spread, local_at, AreInOrder, IsAt, IsGapFor, AreHeld}

abbrev pub nothing : Held
nothing = record { local = 0; entry = Free }

abbrev pub entry_at : List Held → ℕ → EntryType
entry_at held k = let h : Held = get_or held k nothing in h.entry

-- A LIST AND WHAT IT HOLDS

-- no place before this one has the local variable
abbrev pub NoneBefore : List Held → ℕ → ℕ → Type 0
NoneBefore held i at = (j : ℕ) → j < at → local_at held j ≡ i → ⊥

none_in_rest : (h : Held) (held : List Held) (i at : ℕ) → NoneBefore (h ∷ held) i (suc at) → NoneBefore held i at
none_in_rest h held i at none j lt = none (suc j) (omega arith)

at_in_rest : (h : Held) (held : List Held) (i at : ℕ) → IsAt (h ∷ held) i (suc at) → IsAt held i at
at_in_rest h held i at is = record { inside = omega (arith, is.inside); here = omega (arith, is.here) }

pub absent : (held : List Held) (i : ℕ) → NoneBefore held i (length held) → type_in held i ≡ Free
absent [] i none = refl
absent (h ∷ held) i none = grind (arith, nat_tests, none 0 (omega arith), absent held i (none_in_rest h held i _ none))

pub present : (held : List Held) (i at : ℕ) → IsAt held i at → NoneBefore held i at → type_in held i ≡ entry_at held at
present [] i at is none = absurd (omega (arith, is.inside))
present (h ∷ held) i zero is none = grind (arith, nat_tests, is.here)
present (h ∷ held) i (suc at) is none = grind (arith, nat_tests, none 0 (omega arith), present held i at (at_in_rest h held i at is) (none_in_rest h held i at none))

-- one local variable gets a type, and no other
abbrev pub IsSet : List Held → List Held → ℕ → EntryType → Type 0
IsSet old new i entry = (q : ℕ) → type_in new q ≡ (if i == q then entry else type_in old q)

pub set_there : (held : List Held) (x : Held) (at : ℕ) → IsAt held x.local at → NoneBefore held x.local at → IsSet held (set held at x) x.local x.entry
set_there [] x at is none q = absurd (omega (arith, is.inside))
set_there (h ∷ held) x zero is none q = grind (arith, nat_tests, is.here)
set_there (h ∷ held) x (suc at) is none q = grind (arith, nat_tests, none 0 (omega arith), set_there held x at (at_in_rest h held x.local at is) (none_in_rest h held x.local at none) q)

pub inserted : (held : List Held) (x : Held) (at : ℕ) → NoneBefore held x.local at → IsSet held (insert held at x) x.local x.entry
inserted held x zero none q = refl
inserted [] x (suc at) none q = refl
inserted (h ∷ held) x (suc at) none q = grind (arith, nat_tests, none 0 (omega arith), inserted held x at (none_in_rest h held x.local at none) q)

-- IN ORDER

at_none : (held : List Held) → AreInOrder held → (i at : ℕ) → IsAt held i at → NoneBefore held i at
at_none held order i at is j lt same = omega (arith, order j at lt is.inside, is.here, same)

gap_none : (held : List Held) (i at : ℕ) → IsGapFor held i at → NoneBefore held i (length held)
gap_none held i at gap j lt same = elim (cases_lt j at) [
  | inl before ↦ omega (arith, gap.before j before, same)
  | inr behind ↦ omega (arith, gap.behind j behind lt, same)
]

pub type_found : (held : List Held) → AreInOrder held → (i at : ℕ) → IsAt held i at → type_in held i ≡ entry_at held at
type_found held order i at is = present held i at is (at_none held order i at is)

pub type_missing : (held : List Held) (i at : ℕ) → IsGapFor held i at → type_in held i ≡ Free
type_missing held i at gap = absent held i (gap_none held i at gap)

-- THE LIST THAT IS MEANT

pub length-spread : (count : ℕ) (held : List Held) → length (spread count held) ≡ count
length-spread count held = length-map-range_with_len (type_in held) 0 count

pub at_spread : (count : ℕ) (held : List Held) (i : ℕ) → i < count → get_or (spread count held) i Free ≡ type_in held i
at_spread count held i lt = get_or-map-range_with_len (type_in held) 0 count i i Free lt (omega arith)

pub spread_is : (count : ℕ) (held : List Held) (xs : List EntryType) → length xs ≡ count → ((k : ℕ) → k < count → get_or xs k Free ≡ type_in held k) → spread count held ≡ xs
spread_is count held xs long each = sym (fill_by_all (type_in held) xs count Free long each)

pub set_spread : (count : ℕ) (old new : List Held) (i : ℕ) (entry : EntryType) → i < count → IsSet old new i entry → spread count new ≡ set (spread count old) i entry
set_spread count old new i entry lt is = spread_is count new (set (spread count old) i entry) (length-set (spread count old) i entry ∙ length-spread count old) (λ k inside. elim (cases_eq k i) [
  | inl same ↦ subst (λ (n : ℕ). get_or (set (spread count old) i entry) n Free ≡ type_in new n) (sym same)
      (get_or-set_same (spread count old) i entry Free (omega (arith, lt, length-spread count old)) ∙ sym (is i ∙ ap (λ (b : Bool). if b then entry else type_in old i) (eq-eqb i i refl)))
  | inr ne ↦ get_or-set_other (spread count old) i k entry Free ne ∙ (at_spread count old k inside ∙ sym (is k ∙ ap (λ (b : Bool). if b then entry else type_in old k) (ne_eqb i k (λ e. ne (sym e)))))
])

pub type_read : (count : ℕ) (held : List Held) (xs : List EntryType) (i : ℕ) → spread count held ≡ xs → i < count → type_in held i ≡ get_or xs i Free
type_read count held xs i e lt = sym (at_spread count held i lt) ∙ ap (λ (ys : List EntryType). get_or ys i Free) e

-- WHAT STAYS

pub local_same : (held : List Held) (at : ℕ) (x : Held) → at < length held → x.local ≡ local_at held at → (k : ℕ) → local_at (set held at x) k ≡ local_at held k
local_same held at x lt e k = elim (cases_eq k at) [
  | inl same ↦ subst (λ (n : ℕ). local_at (set held at x) n ≡ local_at held n) (sym same) (ap (λ (h : Held). h.local) (get_or-set_same held at x nothing lt) ∙ e)
  | inr ne ↦ ap (λ (h : Held). h.local) (get_or-set_other held at k x nothing ne)
]

pub held_set : (count : ℕ) (held : List Held) (at : ℕ) (x : Held) → AreHeld count held → at < length held → x.local ≡ local_at held at → AreHeld count (set held at x)
held_set count held at x h lt e = record {
  order = λ j k less inside. omega (arith, local_same held at x lt e j, local_same held at x lt e k, h.order j k less (omega (arith, inside, length-set held at x)));
  within = λ k inside. omega (arith, local_same held at x lt e k, h.within k (omega (arith, inside, length-set held at x)));
  few = h.few;
}

module _ (count : ℕ) (held : List Held) (at : ℕ) (x : Held) (h : AreHeld count held) (gap : IsGapFor held x.local at) (lt : x.local < count) where
  key_below : (i : ℕ) → i < at → local_at (insert held at x) i ≡ local_at held i
  key_below i below = ap (λ (y : Held). y.local) (get_or-insert_below held at x nothing i below gap.inside)

  key_here : (i : ℕ) → i ≡ at → local_at (insert held at x) i ≡ x.local
  key_here i here = rw here (ap (λ (y : Held). y.local) (get_or-insert_at held at x nothing gap.inside))

  key_above : (i : ℕ) → at < i → local_at (insert held at x) i ≡ local_at held (i - 1)
  key_above i above = subst (λ q. local_at (insert held at x) q ≡ local_at held (i - 1)) {x = i - 1 + 1} (omega arith) (ap (λ (y : Held). y.local) (get_or-insert_above held at x nothing (i - 1) (omega arith) gap.inside))

  pub held_inserted : AreHeld count (insert held at x)
  held_inserted = record {
    order = λ i j less inside.
        let long = length-insert held at x gap.inside in
        grind (arith, key_below i, key_here i, key_above i, key_below j, key_here j, key_above j, h.order i j, h.order i (j - 1), h.order (i - 1) (j - 1), gap.before i, gap.behind (j - 1));
    within = λ i inside.
        let long = length-insert held at x gap.inside in
        grind (arith, key_below i, key_here i, key_above i, h.within i, h.within (i - 1), lt);
    few = h.few;
  }

-- A TYPE IS WRITTEN where the local variable stands, or put in where it would

pub set_at : (count : ℕ) (held : List Held) (i at : ℕ) (was : Held) (entry : EntryType) → AreInOrder held → i < count → IsAt held i at → was ≡ get_or held at nothing → spread count (set held at (record { local = was.local; entry = entry })) ≡ set (spread count held) i entry
set_at count held i at was entry order lt is read =
    let local : was.local ≡ i = ap (λ (h : Held). h.local) read ∙ is.here in
    let x : Held = record { local = was.local; entry = entry } in
    let there : IsAt held x.local at = record { inside = is.inside; here = is.here ∙ sym local } in
    subst (λ (n : ℕ). spread count (set held at x) ≡ set (spread count held) n entry) local
    (set_spread count held (set held at x) x.local entry (omega (arith, lt, local)) (set_there held x at there (at_none held order x.local at there)))

pub inserted_at : (count : ℕ) (held : List Held) (at : ℕ) (x : Held) → x.local < count → IsGapFor held x.local at → spread count (insert held at x) ≡ set (spread count held) x.local x.entry
inserted_at count held at x lt gap = set_spread count held (insert held at x) x.local x.entry lt (inserted held x at (λ j less same. omega (arith, gap.before j less, same)))

-- .. as the local variables are seen
pub put_in_gap : (count : ℕ) (held seen now : List Held) (at : ℕ) (x : Held) (was : List EntryType) → spread count held ≡ was → AreHeld count held → seen ≡ held → IsGapFor seen x.local at → x.local < count → now ≡ insert held at x → AreHeld count now × (spread count now ≡ set was x.local x.entry)
put_in_gap count held seen now at x was view kept same gap lt is =
    let there : IsGapFor held x.local at = subst (λ (hs : List Held). IsGapFor hs x.local at) same gap in (
      subst (λ (hs : List Held). AreHeld count hs) (sym is) (held_inserted count held at x kept there lt),
      ap (spread count) is ∙ (inserted_at count held at x lt there ∙ ap (λ (xs : List EntryType). set xs x.local x.entry) view),
    )

-- TYPES ARE JOINED, those of the first places so far

-- one of them changes
pub record Falls (old : List Held) (others : List EntryType) : Type 0 where
  pub at : ℕ
  pub inside : at < length old
  pub differs : joined (entry_at old at) (get_or others (local_at old at) Free) ≡ entry_at old at → ⊥

pub record IsJoined (old : List Held) (others : List EntryType) (held : List Held) (at : ℕ) (changed : Bool) : Type 0 where
  pub long : length held ≡ length old
  pub locals : (k : ℕ) → local_at held k ≡ local_at old k
  pub done : (k : ℕ) → k < at → entry_at held k ≡ joined (entry_at old k) (get_or others (local_at old k) Free)
  pub rest : (k : ℕ) → at ≤ k → entry_at held k ≡ entry_at old k
  pub same : changed ≡ false → held ≡ old
  pub less : changed ≡ true → Falls old others

module _ (old : List Held) (others : List EntryType) (held : List Held) (at : ℕ) (changed : Bool) (t : IsJoined old others held at changed) (inside : at < length held) (was : Held) (read : was ≡ get_or held at nothing) (j : EntryType) (is : j ≡ joined was.entry (get_or others was.local Free)) where
  entry_was : was.entry ≡ entry_at old at
  entry_was = ap (λ (h : Held). h.entry) read ∙ t.rest at (omega arith)

  local_was : was.local ≡ local_at old at
  local_was = ap (λ (h : Held). h.local) read ∙ t.locals at

  now : j ≡ joined (entry_at old at) (get_or others (local_at old at) Free)
  now = is ∙ (ap (λ (x : EntryType). joined x (get_or others was.local Free)) entry_was ∙ ap (λ (n : ℕ). joined (entry_at old at) (get_or others n Free)) local_was)

  pub joined_new : (x : Held) → x.local ≡ was.local → x.entry ≡ j → (j ≡ was.entry → ⊥) → IsJoined old others (set held at x) (at + 1) true
  joined_new x local entry ne = record {
    long = length-set held at x ∙ t.long;
    locals = λ k. local_same held at x inside (local ∙ ap (λ (h : Held). h.local) read) k ∙ t.locals k;
    done = λ k lt. elim (cases_eq k at) [
      | inl same ↦ subst (λ (n : ℕ). entry_at (set held at x) n ≡ joined (entry_at old n) (get_or others (local_at old n) Free)) (sym same) (ap (λ (h : Held). h.entry) (get_or-set_same held at x nothing inside) ∙ (entry ∙ now))
      | inr other ↦ ap (λ (h : Held). h.entry) (get_or-set_other held at k x nothing other) ∙ t.done k (omega (arith, lt, other))
    ];
    rest = λ k le. ap (λ (h : Held). h.entry) (get_or-set_other held at k x nothing (λ e. absurd (omega (arith, le, e)))) ∙ t.rest k (omega (arith, le));
    same = λ e. absurd (false≢true (sym e));
    less = λ e. record { at = at; inside = omega (arith, inside, t.long); differs = λ same. ne (now ∙ (same ∙ sym entry_was)) };
  }

  pub joined_same : j ≡ was.entry → IsJoined old others held (at + 1) changed
  joined_same same = record {
    long = t.long;
    locals = t.locals;
    done = λ k lt. elim (cases_eq k at) [
      | inl here ↦ subst (λ (n : ℕ). entry_at held n ≡ joined (entry_at old n) (get_or others (local_at old n) Free)) (sym here) (t.rest at (omega arith) ∙ (sym entry_was ∙ (sym same ∙ now)))
      | inr other ↦ t.done k (omega (arith, lt, other))
    ];
    rest = λ k le. t.rest k (omega (arith, le));
    same = t.same;
    less = t.less;
  }

-- .. all of them
joined_free : (b : EntryType) → joined Free b ≡ Free
joined_free entry.Free = refl
joined_free entry.Int = refl
joined_free entry.Long = refl
joined_free entry.LongHigh = refl
joined_free entry.Reference = refl

all_joined : (old held : List Held) (others : List EntryType) → length held ≡ length old → ((k : ℕ) → local_at held k ≡ local_at old k) → ((k : ℕ) → k < length old → entry_at held k ≡ joined (entry_at old k) (get_or others (local_at old k) Free)) → (i : ℕ) → type_in held i ≡ joined (type_in old i) (get_or others i Free)
all_joined [] [] others long locals done i = sym (joined_free (get_or others i Free))
all_joined [] (g ∷ held) others long locals done i = absurd (omega (arith, long))
all_joined (h ∷ old) [] others long locals done i = absurd (omega (arith, long))
all_joined (h ∷ old) (g ∷ held) others long locals done i = by (h.local == i) refl (all_joined old held others (omega (arith, long)) (λ k. locals (suc k)) (λ k lt. done (suc k) (omega (arith, lt))) i)
  where
    test : (g.local == i) ≡ (h.local == i)
    test = ap (λ (n : ℕ). n == i) (locals 0)

    by : (b : Bool) → (h.local == i) ≡ b → type_in held i ≡ joined (type_in old i) (get_or others i Free) → (if g.local == i then g.entry else type_in held i) ≡ joined (if h.local == i then h.entry else type_in old i) (get_or others i Free)
    by true e rest =
        ap (λ (c : Bool). if c then g.entry else type_in held i) (test ∙ e)
        ∙ (done 0 (omega arith) ∙ (ap (λ (n : ℕ). joined h.entry (get_or others n Free)) (eqb-true h.local i e)
        ∙ ap (λ (c : Bool). joined (if c then h.entry else type_in old i) (get_or others i Free)) (sym e)))
    by false e rest =
        ap (λ (c : Bool). if c then g.entry else type_in held i) (test ∙ e)
        ∙ (rest ∙ ap (λ (c : Bool). joined (if c then h.entry else type_in old i) (get_or others i Free)) (sym e))

rank_low : (a b : EntryType) → rank (joined a b) ≤ rank a
rank_low a b = elim (joined_is a b) [
  | inl x ↦ omega (arith, ap rank x.0)
  | inr free ↦ omega (arith, ap rank free)
]

ranks_low : (xs ys : List EntryType) → sum_by rank (joined_lists xs ys) ≤ sum_by rank xs
ranks_low [] [] = omega arith
ranks_low [] (b ∷ ys) = omega arith
ranks_low (a ∷ xs) [] = omega arith
ranks_low (a ∷ xs) (b ∷ ys) = omega (arith, sum_by-cons rank a xs, sum_by-cons rank (joined a b) (joined_lists xs ys), rank_low a b, ranks_low xs ys)

ranks_less : (xs ys : List EntryType) (i : ℕ) → length xs ≡ length ys → i < length xs → (joined (get_or xs i Free) (get_or ys i Free) ≡ get_or xs i Free → ⊥) → sum_by rank (joined_lists xs ys) < sum_by rank xs
ranks_less [] ys i long lt ne = absurd (omega (arith, lt))
ranks_less (a ∷ xs) [] i long lt ne = absurd (omega (arith, long))
ranks_less (a ∷ xs) (b ∷ ys) zero long lt ne = omega (arith, sum_by-cons rank a xs, sum_by-cons rank (joined a b) (joined_lists xs ys), rank_joined a b ne, ranks_low xs ys)
ranks_less (a ∷ xs) (b ∷ ys) (suc i) long lt ne = omega (arith, sum_by-cons rank a xs, sum_by-cons rank (joined a b) (joined_lists xs ys), rank_low a b, ranks_less xs ys i (omega (arith, long)) (omega (arith, lt)) ne)

module _ (count : ℕ) (old : List Held) (others : List EntryType) (held : List Held) (at : ℕ) (changed : Bool) (t : IsJoined old others held at changed) (end : length old ≤ at) (long : length others ≡ count) where
  type_joined : (i : ℕ) → type_in held i ≡ joined (type_in old i) (get_or others i Free)
  type_joined i = all_joined old held others t.long t.locals (λ k lt. t.done k (omega (arith, lt, end))) i

  same_long : length (spread count old) ≡ length others
  same_long = length-spread count old ∙ sym long

  pub joined_spread : spread count held ≡ joined_lists (spread count old) others
  joined_spread = spread_is count held (joined_lists (spread count old) others) (length-joined_lists (spread count old) others ∙ length-spread count old) (λ k lt.
      joined_at (spread count old) others k same_long (omega (arith, lt, length-spread count old))
      ∙ (ap (λ (x : EntryType). joined x (get_or others k Free)) (at_spread count old k lt) ∙ sym (type_joined k)))

  pub joined_less : AreHeld count old → Falls old others → sum_by rank (spread count held) < sum_by rank (spread count old)
  joined_less h f =
      let i : ℕ = local_at old f.at in
      let lt : i < count = h.within f.at f.inside in
      let there : get_or (spread count old) i Free ≡ entry_at old f.at = at_spread count old i lt ∙ type_found old h.order i f.at (record { inside = f.inside; here = refl }) in
      subst (λ (xs : List EntryType). sum_by rank xs < sum_by rank (spread count old)) (sym joined_spread)
      (ranks_less (spread count old) others i same_long (omega (arith, lt, length-spread count old)) (λ e. f.differs (ap (λ (x : EntryType). joined x (get_or others i Free)) (sym there) ∙ (e ∙ there))))

-- THE FIRST local variables are held, and no others
pub first_spread : (count : ℕ) (entries : List EntryType) (held : List Held) → length held ≡ length entries → ((k : ℕ) → k < length entries → local_at held k ≡ k) → ((k : ℕ) → k < length entries → entry_at held k ≡ get_or entries k Free) → length entries ≤ count → spread count held ≡ with_free count entries
first_spread count entries held long locals types fits = spread_is count held (with_free count entries) (omega (arith, length-append entries more, length-replicate (count - length entries) Free, fits)) at
  where
    more : List EntryType
    more = replicate (count - length entries) Free

    order : AreInOrder held
    order j k less inside = omega (arith, locals j (omega (arith, less, inside, long)), locals k (omega (arith, inside, long)))

    at : (k : ℕ) → k < count → get_or (entries ++ replicate (count - length entries) Free) k Free ≡ type_in held k
    at k lt = elim (cases_lt k (length entries)) [
      | inl below ↦ get_or_append_left entries (replicate (count - length entries) Free) Free k below ∙ (sym (types k below) ∙ sym (type_found held order k k (record { inside = omega (arith, below, long); here = locals k below })))
      | inr behind ↦ get_or-append_right entries (replicate (count - length entries) Free) (length entries) k Free refl behind
          ∙ (get_or-replicate (count - length entries) (k - length entries) Free Free (omega (arith, lt, behind))
          ∙ sym (absent held k (λ j inside same. omega (arith, locals j (omega (arith, inside, long)), same, inside, long, behind))))
    ]
