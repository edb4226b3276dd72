-- Each bytes have exactly one pool or first fault at a place.
use Rattle.std.proofs.Common.{◌≡◌, ℕ, zero, suc, ◌-◌, ◌<◌, ◌≤◌, List, [], ◌∷◌, Option, Result, Ok, Err, refl, sym, ap, subst, ◌∙◌, arith, ◌⊎◌, inl, inr}
use Rattle.std.specs.Int.{w16}
use Rattle.std.proofs.lemmas.Bool.{cases_lt}
use Rattle.et_pool.specs.Broken.{Broken, Tag}
use Rattle.et_pool.specs.Entries.{Item, Text, Word, Wide, Name, Pair, Handle, slots_taken, slots_of}
use Rattle.et_pool.specs.Reading.{pool_number, entry_at}
use Rattle.et_pool.specs.Pools.{AreEntries, BreaksEntries, IsPool, BreaksPool, CutCount, NoCount, InEntry, PoolIs, HasOnePool}
use Rattle.et_pool.proofs.Rooms.{entry_room}

pub ok_is : {A : Type 0} (r : Result A Broken) (x y : A) → r ≡ Ok x → r ≡ Ok y → x ≡ y
ok_is r x y h i = cc

err_is : {A : Type 0} (r : Result A Broken) (f g : Broken) → r ≡ Err f → r ≡ Err g → f ≡ g
err_is r f g h i = cc

not_both : {A : Type 0} (r : Result A Broken) (x : A) (f : Broken) → r ≡ Ok x → r ≡ Err f → ⊥
not_both r x f h i = cc

pub room_pos : (e : Item) → 0 < slots_taken e
room_pos (Text bytes) = omega arith
room_pos (Word tag bits) = omega arith
room_pos (Wide tag bits) = omega arith
room_pos (Name tag index) = omega arith
room_pos (Pair tag first second) = omega arith
room_pos (Handle kind index) = omega arith

none_left : (bytes : List ℕ) (at : ℕ) (e : Item) (next : ℕ) (room : ℕ) → 0 ≡ room → entry_at bytes room at ≡ Ok (e, next) → ⊥
none_left bytes at e next room z h = omega (arith, entry_room bytes room at e next h, room_pos e)

-- the second walk begins as the first does
moved : (bytes : List ℕ) (room at : ℕ) (e e' : Item) (n n' : ℕ) (es : List Item) (left a : ℕ) → entry_at bytes room at ≡ Ok (e, n) → entry_at bytes room at ≡ Ok (e', n') → AreEntries bytes (room - slots_taken e') n' es left a → AreEntries bytes (room - slots_taken e) n es left a
moved bytes room at e e' n n' es left a h h' w = subst (λ (x : Item × ℕ). AreEntries bytes (room - slots_taken x.0) x.1 es left a) (ok_is (entry_at bytes room at) (e', n') (e, n) h' h) w

same_walk : (bytes : List ℕ) (room at : ℕ) (es es' : List Item) (a a' : ℕ) → AreEntries bytes room at es 0 a → AreEntries bytes room at es' 0 a' → (es ≡ es') × (a ≡ a')
same_walk bytes room at [] [] a a' h h' = (refl, h.1 ∙ sym h'.1)
same_walk bytes room at [] (e ∷ es') a a' h h' = absurd (none_left bytes at e h'.0 room h.0 h'.1)
same_walk bytes room at (e ∷ es) [] a a' h h' = absurd (none_left bytes at e h.0 room h'.0 h.1)
same_walk bytes room at (e ∷ es) (e' ∷ es') a a' h h' =
    let more = same_walk bytes (room - slots_taken e) h.0 es es' a a' h.2 (moved bytes room at e e' h.0 h'.0 es' 0 a' h.1 h'.1 h'.2) in
    let same : e ≡ e' = ap (λ (x : Item × ℕ). x.0) (ok_is (entry_at bytes room at) (e, h.0) (e', h'.0) h.1 h'.1) in
    (ap (λ (x : Item). x ∷ es) same ∙ ap (λ (xs : List Item). e' ∷ xs) more.0, more.1)

not_broken : (bytes : List ℕ) (room at : ℕ) (es before : List Item) (a left place : ℕ) (f : Broken) → AreEntries bytes room at es 0 a → AreEntries bytes room at before left place → 0 < left → entry_at bytes left place ≡ Err f → ⊥
not_broken bytes room at [] [] a left place f h w pos b = omega (arith, h.0, w.0)
not_broken bytes room at [] (e ∷ before) a left place f h w pos b = none_left bytes at e w.0 room h.0 w.1
not_broken bytes room at (e ∷ es) [] a left place f h w pos b = not_both (entry_at bytes room at) (e, h.0) f h.1 (ap (λ k. entry_at bytes k at) (sym w.0) ∙ (ap (λ k. entry_at bytes left k) (sym w.1) ∙ b))
not_broken bytes room at (e ∷ es) (e' ∷ before) a left place f h w pos b =
    not_broken bytes (room - slots_taken e) h.0 es before a left place f h.2 (moved bytes room at e e' h.0 w.0 before left place h.1 w.1 w.2) pos b

same_break : (bytes : List ℕ) (room at : ℕ) (es es' : List Item) (left left' p p' : ℕ) (f g : Broken) → AreEntries bytes room at es left p → AreEntries bytes room at es' left' p' → entry_at bytes left p ≡ Err f → entry_at bytes left' p' ≡ Err g → f ≡ g
same_break bytes room at [] [] left left' p p' f g w w' b b' =
    err_is (entry_at bytes room at) f g (ap (λ k. entry_at bytes k at) (sym w.0) ∙ (ap (λ k. entry_at bytes left k) (sym w.1) ∙ b)) (ap (λ k. entry_at bytes k at) (sym w'.0) ∙ (ap (λ k. entry_at bytes left' k) (sym w'.1) ∙ b'))
same_break bytes room at [] (e ∷ es') left left' p p' f g w w' b b' = absurd (not_both (entry_at bytes room at) (e, w'.0) f w'.1 (ap (λ k. entry_at bytes k at) (sym w.0) ∙ (ap (λ k. entry_at bytes left k) (sym w.1) ∙ b)))
same_break bytes room at (e ∷ es) [] left left' p p' f g w w' b b' = absurd (not_both (entry_at bytes room at) (e, w.0) g w.1 (ap (λ k. entry_at bytes k at) (sym w'.0) ∙ (ap (λ k. entry_at bytes left' k) (sym w'.1) ∙ b')))
same_break bytes room at (e ∷ es) (e' ∷ es') left left' p p' f g w w' b b' =
    same_break bytes (room - slots_taken e) w.0 es es' left left' p p' f g w.2 (moved bytes room at e e' w.0 w'.0 es' left' p' w.1 w'.1 w'.2) b b'

-- whole entries fill the room, or one is broken
abbrev Decided : List ℕ → ℕ → ℕ → Type 0
Decided bytes room at = ((es : List Item) × (a : ℕ) × AreEntries bytes room at es 0 a) ⊎ ((f : Broken) × BreaksEntries bytes room at f)

decided_more : (bytes : List ℕ) (room at : ℕ) (e : Item) (next : ℕ) → entry_at bytes room at ≡ Ok (e, next) → Decided bytes (room - slots_taken e) next → Decided bytes room at
decided_more bytes room at e next h (inl d) = inl (e ∷ d.0, d.1, (next, h, d.2))
decided_more bytes room at e next h (inr d) =
    inr (d.0, record { before = e ∷ d.1.before; left = d.1.left; place = d.1.place; whole = (next, h, d.1.whole); wanted = d.1.wanted; broken = d.1.broken })

decided : (fuel : ℕ) (bytes : List ℕ) (room at : ℕ) → room ≤ fuel → Decided bytes room at
decided zero bytes room at le = inl ([], at, (omega arith, refl))
decided (suc fuel) bytes room at le =
    let by : (r : Result (Item × ℕ) Broken) → entry_at bytes room at ≡ r → 0 < room → Decided bytes room at =
    λ r h p. elim r as (λ r. entry_at bytes room at ≡ r → Decided bytes room at) [
      | Ok x ↦ λ h. decided_more bytes room at x.0 x.1 h (decided fuel bytes (room - slots_taken x.0) x.1 (omega (arith, room_pos x.0)))
      | Err f ↦ λ h. inr (f, record { before = []; left = room; place = at; whole = (refl, refl); wanted = p; broken = h })
    ] h in
    elim (cases_lt 0 room) [ inl p ↦ by (entry_at bytes room at) refl p | inr z ↦ inl ([], at, (omega arith, refl)) ]

ok_fault : (bytes : List ℕ) (at : ℕ) (s : List (Option Item)) (a : ℕ) (f : Broken) → IsPool bytes at s a → BreaksPool bytes at f → ⊥
ok_fault bytes at s a f p (CutCount b) = not_both (pool_number w16 bytes at) (p.count, p.start) f p.counted b
ok_fault bytes at s a f p (NoCount start h e) = omega (arith, p.some, ap (λ (x : ℕ × ℕ). x.0) (ok_is (pool_number w16 bytes at) (p.count, p.start) (0, start) p.counted h))
ok_fault bytes at s a f p (InEntry count start h pos x) =
    let w : AreEntries bytes (p.count - 1) p.start x.before x.left x.place =
    subst (λ (y : ℕ × ℕ). AreEntries bytes (y.0 - 1) y.1 x.before x.left x.place) (ok_is (pool_number w16 bytes at) (count, start) (p.count, p.start) h p.counted) x.whole in
    not_broken bytes (p.count - 1) p.start p.filled.entries x.before a x.left x.place f p.filled.whole w x.wanted x.broken

one_pool : (bytes : List ℕ) (at : ℕ) (s s' : List (Option Item)) (a a' : ℕ) → IsPool bytes at s a → IsPool bytes at s' a' → (s ≡ s') × (a ≡ a')
one_pool bytes at s s' a a' p q =
    let w : AreEntries bytes (p.count - 1) p.start q.filled.entries 0 a' =
    subst (λ (y : ℕ × ℕ). AreEntries bytes (y.0 - 1) y.1 q.filled.entries 0 a') (ok_is (pool_number w16 bytes at) (q.count, q.start) (p.count, p.start) q.counted p.counted) q.filled.whole in
    let e = same_walk bytes (p.count - 1) p.start p.filled.entries q.filled.entries a a' p.filled.whole w in
    (p.filled.slots_are ∙ (ap slots_of e.0 ∙ sym q.filled.slots_are), e.1)

one_fault : (bytes : List ℕ) (at : ℕ) (f g : Broken) → BreaksPool bytes at f → BreaksPool bytes at g → f ≡ g
one_fault bytes at f g (CutCount b) (CutCount d) = err_is (pool_number w16 bytes at) f g b d
one_fault bytes at f g (CutCount b) (NoCount start h e) = absurd (not_both (pool_number w16 bytes at) (0, start) f h b)
one_fault bytes at f g (CutCount b) (InEntry count start h pos x) = absurd (not_both (pool_number w16 bytes at) (count, start) f h b)
one_fault bytes at f g (NoCount start h e) (CutCount d) = absurd (not_both (pool_number w16 bytes at) (0, start) g h d)
one_fault bytes at f g (NoCount start h e) (NoCount start' h' e') = e ∙ sym e'
one_fault bytes at f g (NoCount start h e) (InEntry count start' h' pos x) = absurd (omega (arith, pos, ap (λ (x : ℕ × ℕ). x.0) (ok_is (pool_number w16 bytes at) (0, start) (count, start') h h')))
one_fault bytes at f g (InEntry count start h pos x) (CutCount d) = absurd (not_both (pool_number w16 bytes at) (count, start) g h d)
one_fault bytes at f g (InEntry count start h pos x) (NoCount start' h' e') = absurd (omega (arith, pos, ap (λ (x : ℕ × ℕ). x.0) (ok_is (pool_number w16 bytes at) (0, start') (count, start) h' h)))
one_fault bytes at f g (InEntry count start h pos x) (InEntry count' start' h' pos' y) =
    let w : AreEntries bytes (count - 1) start y.before y.left y.place =
    subst (λ (z : ℕ × ℕ). AreEntries bytes (z.0 - 1) z.1 y.before y.left y.place) (ok_is (pool_number w16 bytes at) (count', start') (count, start) h' h) y.whole in
    same_break bytes (count - 1) start x.before y.before x.left y.left x.place y.place f g x.whole w x.broken y.broken

only_ok : (bytes : List ℕ) (at : ℕ) (s : List (Option Item)) (a : ℕ) → IsPool bytes at s a → (other : Result (List (Option Item) × ℕ) Broken) → PoolIs bytes at other → other ≡ Ok (s, a)
only_ok bytes at s a p (Ok x) q =
    let e = one_pool bytes at x.0 s x.1 a q p in
    ap (λ (t : List (Option Item)). Ok (t, x.1)) e.0 ∙ ap (λ (n : ℕ). Ok (s, n)) e.1
only_ok bytes at s a p (Err f) q = absurd (ok_fault bytes at s a f p q)

only_err : (bytes : List ℕ) (at : ℕ) (f : Broken) → BreaksPool bytes at f → (other : Result (List (Option Item) × ℕ) Broken) → PoolIs bytes at other → other ≡ Err f
only_err bytes at f b (Ok x) q = absurd (ok_fault bytes at x.0 x.1 f q b)
only_err bytes at f b (Err g) q = ap (λ (h : Broken). Err h) (one_fault bytes at g f q b)

the_ok : (bytes : List ℕ) (at : ℕ) (s : List (Option Item)) (a : ℕ) → IsPool bytes at s a → HasOnePool bytes at
the_ok bytes at s a p = record { answer = Ok (s, a); holds = p; only = only_ok bytes at s a p }

the_err : (bytes : List ℕ) (at : ℕ) (f : Broken) → BreaksPool bytes at f → HasOnePool bytes at
the_err bytes at f b = record { answer = Err f; holds = b; only = only_err bytes at f b }

by_entries : (bytes : List ℕ) (at count start : ℕ) → pool_number w16 bytes at ≡ Ok (count, start) → 0 < count → Decided bytes (count - 1) start → HasOnePool bytes at
by_entries bytes at count start h pos (inl d) =
    the_ok bytes at (slots_of d.0) d.1 (record { count = count; start = start; counted = h; some = pos; filled = record { entries = d.0; whole = d.2; slots_are = refl } })
by_entries bytes at count start h pos (inr d) = the_err bytes at d.0 (InEntry count start h pos d.1)

by_count : (bytes : List ℕ) (at : ℕ) (r : Result (ℕ × ℕ) Broken) → pool_number w16 bytes at ≡ r → HasOnePool bytes at
by_count bytes at (Err f) h = the_err bytes at f (CutCount h)
by_count bytes at (Ok x) h =
    elim (cases_lt 0 x.0) [
      | inl pos ↦ by_entries bytes at x.0 x.1 h pos (decided (x.0 - 1) bytes (x.0 - 1) x.1 (omega arith))
      | inr z ↦ let none : x.0 ≡ 0 = omega arith in the_err bytes at (Tag at) (NoCount x.1 (h ∙ ap (λ (n : ℕ). Ok (n, x.1)) none) refl)
    ]

pub exactly_one : (bytes : List ℕ) (at : ℕ) → HasOnePool bytes at
exactly_one bytes at = by_count bytes at (pool_number w16 bytes at) refl
