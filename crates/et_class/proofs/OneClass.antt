-- Any bytes are those of exactly one class file, or have exactly one first fault.
use Rattle.std.proofs.Common.{◌≡◌, ℕ, List, Option, Some, None, Result, Ok, Err, refl, sym, ap, subst, ◌∙◌, ◌⊎◌, inl, inr}
use Rattle.std.proofs.lemmas.Option.{same_Some}
use Rattle.et_base.specs.Marks.{MarksAre, first_from}
use Rattle.et_base.proofs.Firsts.{one, found_is_first}
use Rattle.et_base.proofs.Options.{some-none}
use Rattle.et_pool.specs.Broken.{Broken}
use Rattle.et_pool.specs.Entries.{Item}
use Rattle.et_pool.specs.Pools.{IsPool, BreaksPool, PoolIs}
use Rattle.et_pool.proofs.OneAnswer as pools
use Rattle.et_class.specs.Layout.{ClassOf}
use Rattle.et_class.specs.Reading.{HeaderOf, MembersOf, head_at, header_at, members_at, IsRead, BreaksRead, InHead, InPool, InHeader, InMembers, fault_of}
use Rattle.et_class.specs.Rules.{class_marks, header_of, members_of}
use Rattle.et_class.specs.Classes.{InFirstPass, InSecondPass, ClassIs, HasOneClass}

same_ok : {A : Type 0} (r : Result A (ℕ × ℕ)) (x y : A) → r ≡ Ok x → r ≡ Ok y → x ≡ y
same_ok r x y h i = cc

same_err : {A : Type 0} (r : Result A (ℕ × ℕ)) (f g : ℕ × ℕ) → r ≡ Err f → r ≡ Err g → f ≡ g
same_err r f g h i = cc

not_both : {A : Type 0} (r : Result A (ℕ × ℕ)) (x : A) (f : ℕ × ℕ) → r ≡ Ok x → r ≡ Err f → ⊥
not_both r x f h i = cc

ok_is : (x y : List (Option Item) × ℕ) → let a : Result (List (Option Item) × ℕ) Broken = Ok x in a ≡ Ok y → x ≡ y
ok_is x y e = cc

err_is : (f g : Broken) → let a : Result (List (Option Item) × ℕ) Broken = Err f in a ≡ Err g → f ≡ g
err_is f g e = cc

ok_err : (x : List (Option Item) × ℕ) (f : Broken) → let a : Result (List (Option Item) × ℕ) Broken = Ok x in a ≡ Err f → ⊥
ok_err x f e = cc

pool_same : (bytes : List ℕ) (at : ℕ) (a b : Result (List (Option Item) × ℕ) Broken) → PoolIs bytes at a → PoolIs bytes at b → a ≡ b
pool_same bytes at a b p q = let all = pools.exactly_one bytes at in all.only a p ∙ sym (all.only b q)

one_pool : (bytes : List ℕ) (x y : List (Option Item) × ℕ) → IsPool bytes 8 x.0 x.1 → IsPool bytes 8 y.0 y.1 → x ≡ y
one_pool bytes x y p q = ok_is x y (pool_same bytes 8 (Ok x) (Ok y) p q)

one_break : (bytes : List ℕ) (f g : Broken) → BreaksPool bytes 8 f → BreaksPool bytes 8 g → f ≡ g
one_break bytes f g p q = err_is f g (pool_same bytes 8 (Err f) (Err g) p q)

no_break : (bytes : List ℕ) (x : List (Option Item) × ℕ) (f : Broken) → IsPool bytes 8 x.0 x.1 → BreaksPool bytes 8 f → ⊥
no_break bytes x f p q = ok_err x f (pool_same bytes 8 (Ok x) (Err f) p q)

-- ONE FIRST PASS

-- the header behind the pool
header_same : (bytes : List ℕ) (x y : List (Option Item) × ℕ) (r : Result (HeaderOf × ℕ) (ℕ × ℕ)) → IsPool bytes 8 x.0 x.1 → IsPool bytes 8 y.0 y.1 → header_at bytes y.1 ≡ r → header_at bytes x.1 ≡ r
header_same bytes x y r p q h = ap (λ (z : List (Option Item) × ℕ). header_at bytes z.1) (one_pool bytes x y p q) ∙ h

-- the members behind the header
members_same : (bytes : List ℕ) (x y : List (Option Item) × ℕ) (h k : HeaderOf × ℕ) (r : Result MembersOf (ℕ × ℕ)) → IsPool bytes 8 x.0 x.1 → IsPool bytes 8 y.0 y.1 → header_at bytes x.1 ≡ Ok h → header_at bytes y.1 ≡ Ok k → members_at bytes k.1 ≡ r → members_at bytes h.1 ≡ r
members_same bytes x y h k r p q i j m = ap (λ (z : HeaderOf × ℕ). members_at bytes z.1) (same_ok (header_at bytes x.1) h k i (header_same bytes x y (Ok k) p q j)) ∙ m

-- a class, of its parts
abbrev pub built : ℕ × ℕ → List (Option Item) → HeaderOf → MembersOf → ClassOf
built v slots h m = record { minor = v.0; major = v.1; slots = slots; flags = h.flags; this = h.this; super = h.super; interfaces = h.interfaces; fields = m.fields; methods = m.methods; attributes = m.attributes }

pub one_read : (bytes : List ℕ) (c d : ClassOf) → IsRead bytes c → IsRead bytes d → c ≡ d
one_read bytes c d r s =
    let v = same_ok (head_at bytes) (c.minor, c.major) (d.minor, d.major) r.head_is s.head_is in
    let p = one_pool bytes (c.slots, r.header) (d.slots, s.header) r.pool_is s.pool_is in
    let h = same_ok (header_at bytes r.header) (header_of c, r.members) (header_of d, s.members) r.header_is (header_same bytes (c.slots, r.header) (d.slots, s.header) (Ok (header_of d, s.members)) r.pool_is s.pool_is s.header_is) in
    let m = same_ok (members_at bytes r.members) (members_of c) (members_of d) r.members_are (members_same bytes (c.slots, r.header) (d.slots, s.header) (header_of c, r.members) (header_of d, s.members) (Ok (members_of d)) r.pool_is s.pool_is r.header_is s.header_is s.members_are) in
    ap (λ (x : ℕ × ℕ). built x c.slots (header_of c) (members_of c)) v
    ∙ (ap (λ (x : List (Option Item) × ℕ). built (d.minor, d.major) x.0 (header_of c) (members_of c)) p
    ∙ (ap (λ (x : HeaderOf × ℕ). built (d.minor, d.major) d.slots x.0 (members_of c)) h
    ∙ ap (λ (x : MembersOf). built (d.minor, d.major) d.slots (header_of d) x) m))

no_fault : (bytes : List ℕ) (c : ClassOf) (f : ℕ × ℕ) → IsRead bytes c → BreaksRead bytes f → ⊥
no_fault bytes c f r (InHead h) = not_both (head_at bytes) (c.minor, c.major) f r.head_is h
no_fault bytes c f r (InPool v h b p e) = no_break bytes (c.slots, r.header) b r.pool_is p
no_fault bytes c f r (InHeader v h slots header p i) = not_both (header_at bytes r.header) (header_of c, r.members) f r.header_is (header_same bytes (c.slots, r.header) (slots, header) (Err f) r.pool_is p i)
no_fault bytes c f r (InMembers v h slots header p k members i m) = not_both (members_at bytes r.members) (members_of c) f r.members_are (members_same bytes (c.slots, r.header) (slots, header) (header_of c, r.members) (k, members) (Err f) r.pool_is p r.header_is i m)

one_fault : (bytes : List ℕ) (f g : ℕ × ℕ) → BreaksRead bytes f → BreaksRead bytes g → f ≡ g
one_fault bytes f g (InHead h) (InHead i) = same_err (head_at bytes) f g h i
one_fault bytes f g (InHead h) (InPool v i b p e) = absurd (not_both (head_at bytes) v f i h)
one_fault bytes f g (InHead h) (InHeader v i slots header p j) = absurd (not_both (head_at bytes) v f i h)
one_fault bytes f g (InHead h) (InMembers v i slots header p k members j m) = absurd (not_both (head_at bytes) v f i h)
one_fault bytes f g (InPool v h b p e) (InHead i) = absurd (not_both (head_at bytes) v g h i)
one_fault bytes f g (InPool v h b p e) (InPool w i c q d) = e ∙ (ap fault_of (one_break bytes b c p q) ∙ sym d)
one_fault bytes f g (InPool v h b p e) (InHeader w i slots header q j) = absurd (no_break bytes (slots, header) b q p)
one_fault bytes f g (InPool v h b p e) (InMembers w i slots header q k members j m) = absurd (no_break bytes (slots, header) b q p)
one_fault bytes f g (InHeader v h slots header p i) (InHead j) = absurd (not_both (head_at bytes) v g h j)
one_fault bytes f g (InHeader v h slots header p i) (InPool w j b q e) = absurd (no_break bytes (slots, header) b p q)
one_fault bytes f g (InHeader v h slots header p i) (InHeader w j slots' header' q k) = same_err (header_at bytes header) f g i (header_same bytes (slots, header) (slots', header') (Err g) p q k)
one_fault bytes f g (InHeader v h slots header p i) (InMembers w j slots' header' q k members l m) = absurd (not_both (header_at bytes header) (k, members) f (header_same bytes (slots, header) (slots', header') (Ok (k, members)) p q l) i)
one_fault bytes f g (InMembers v h slots header p k members i m) (InHead j) = absurd (not_both (head_at bytes) v g h j)
one_fault bytes f g (InMembers v h slots header p k members i m) (InPool w j b q e) = absurd (no_break bytes (slots, header) b p q)
one_fault bytes f g (InMembers v h slots header p k members i m) (InHeader w j slots' header' q l) = absurd (not_both (header_at bytes header) (k, members) g i (header_same bytes (slots, header) (slots', header') (Err g) p q l))
one_fault bytes f g (InMembers v h slots header p k members i m) (InMembers w j slots' header' q k' members' l n) = same_err (members_at bytes members) f g m (members_same bytes (slots, header) (slots', header') (k, members) (k', members') (Err g) p q i l n)

-- A FIRST PASS

abbrev Decided : List ℕ → Type 0
Decided bytes = ((c : ClassOf) × IsRead bytes c) ⊎ ((f : ℕ × ℕ) × BreaksRead bytes f)

by_members : (bytes : List ℕ) (v : ℕ × ℕ) → head_at bytes ≡ Ok v → (slots : List (Option Item)) (header : ℕ) → IsPool bytes 8 slots header → (h : HeaderOf × ℕ) → header_at bytes header ≡ Ok h → (r : Result MembersOf (ℕ × ℕ)) → members_at bytes h.1 ≡ r → Decided bytes
by_members bytes v i slots header p h j (Ok m) k = inl (built v slots h.0 m, record { header = header; members = h.1; head_is = i; pool_is = p; header_is = j; members_are = k })
by_members bytes v i slots header p h j (Err f) k = inr (f, InMembers v i slots header p h.0 h.1 j k)

by_header : (bytes : List ℕ) (v : ℕ × ℕ) → head_at bytes ≡ Ok v → (slots : List (Option Item)) (header : ℕ) → IsPool bytes 8 slots header → (r : Result (HeaderOf × ℕ) (ℕ × ℕ)) → header_at bytes header ≡ r → Decided bytes
by_header bytes v i slots header p (Ok h) j = by_members bytes v i slots header p h j (members_at bytes h.1) refl
by_header bytes v i slots header p (Err f) j = inr (f, InHeader v i slots header p j)

by_pool : (bytes : List ℕ) (v : ℕ × ℕ) → head_at bytes ≡ Ok v → (r : Result (List (Option Item) × ℕ) Broken) → PoolIs bytes 8 r → Decided bytes
by_pool bytes v i (Ok x) p = by_header bytes v i x.0 x.1 p (header_at bytes x.1) refl
by_pool bytes v i (Err b) p = inr (fault_of b, InPool v i b p refl)

by_head : (bytes : List ℕ) (r : Result (ℕ × ℕ) (ℕ × ℕ)) → head_at bytes ≡ r → Decided bytes
by_head bytes (Ok v) i = let all = pools.exactly_one bytes 8 in by_pool bytes v i all.answer all.holds
by_head bytes (Err f) i = inr (f, InHead i)

-- BOTH PASSES

same_rules : (c d : ClassOf) → c ≡ d → (a b : Option (ℕ × ℕ)) → MarksAre (class_marks c) a → MarksAre (class_marks d) b → b ≡ a
same_rules c d e a b h i = one (class_marks c) a b h (subst (λ x. MarksAre (class_marks x) b) (sym e) i)

same : (bytes : List ℕ) (a b : Result ClassOf (ℕ × ℕ)) → ClassIs bytes a → ClassIs bytes b → b ≡ a
same bytes (Ok c) (Ok d) p q = ap (λ (x : ClassOf). Ok x) (one_read bytes d c q.read p.read)
same bytes (Ok c) (Err f) p (InFirstPass q) = absurd (no_fault bytes c f p.read q)
same bytes (Ok c) (Err f) p (InSecondPass d r s) = absurd (some-none f (same_rules c d (one_read bytes c d p.read r) None (Some f) p.rules s))
same bytes (Err f) (Ok d) (InFirstPass p) q = absurd (no_fault bytes d f q.read p)
same bytes (Err f) (Ok d) (InSecondPass c r s) q = absurd (some-none f (same_rules d c (one_read bytes d c q.read r) None (Some f) q.rules s))
same bytes (Err f) (Err g) (InFirstPass p) (InFirstPass q) = ap (λ (x : ℕ × ℕ). Err x) (one_fault bytes g f q p)
same bytes (Err f) (Err g) (InFirstPass p) (InSecondPass d r s) = absurd (no_fault bytes d f r p)
same bytes (Err f) (Err g) (InSecondPass c r s) (InFirstPass q) = absurd (no_fault bytes c g r q)
same bytes (Err f) (Err g) (InSecondPass c r s) (InSecondPass d t u) = ap (λ (x : ℕ × ℕ). Err x) (same_Some g f (same_rules c d (one_read bytes c d r t) (Some f) (Some g) s u))

the : (bytes : List ℕ) (a : Result ClassOf (ℕ × ℕ)) → ClassIs bytes a → HasOneClass bytes
the bytes a p = record { answer = a; holds = p; only = λ other q. same bytes a other p q }

by_rules : (bytes : List ℕ) (c : ClassOf) → IsRead bytes c → (a : Option (ℕ × ℕ)) → MarksAre (class_marks c) a → HasOneClass bytes
by_rules bytes c r None h = the bytes (Ok c) (record { read = r; rules = h })
by_rules bytes c r (Some f) h = the bytes (Err f) (InSecondPass c r h)

by_decided : (bytes : List ℕ) → Decided bytes → HasOneClass bytes
by_decided bytes (inl d) = by_rules bytes d.0 d.1 (first_from None (class_marks d.0)) (found_is_first (class_marks d.0))
by_decided bytes (inr d) = the bytes (Err d.0) (InFirstPass d.1)

pub exactly_one : (bytes : List ℕ) → HasOneClass bytes
exactly_one bytes = by_decided bytes (by_head bytes (head_at bytes) refl)
