-- A pool is read exactly where it is spelled.
use Rattle.std.proofs.Common.{◌≡◌, ℕ, zero, suc, ◌+◌, ◌-◌, ◌%◌, ◌^◌, ◌≤◌, ◌<◌, Bool, true, false, cond, eqb, ltb, List, [], ◌∷◌, ◌++◌, length, Option, Some, None, Result, Ok, Err, refl, sym, ap, subst, ◌∙◌, arith, length-append, inl, inr}
use Rattle.std.specs.Prelude.{ok_or, All, slice_index_or}
use Rattle.std.specs.List.{flat_map}
use Rattle.std.specs.Int.{w8, w16, w32, w64, to_be_bytes}
use Rattle.std.proofs.lemmas.Bool.{le-ltb, eqb-true, cases_lt}
use Rattle.std.proofs.lemmas.Option.{none-some}
use Rattle.et_base.specs.Numbers.{number_at, bytes_at, AreBytes}
use Rattle.et_base.proofs.Readings.{by_bind, by_if, ok_some, some_ok, bind_ok}
use Rattle.et_base.proofs.Spelling.{Reads, Reads-nothing, Reads-then, Reads-first, Reads-second, wide8, wide16, wide32, wide64, number_reads, reads_number, run_reads, reads_run, in_bytes}
use Rattle.et_pool.specs.Broken.{Broken, Tag, Utf8, Short}
use Rattle.et_pool.specs.declared.entry.Layout.{Layout}
use Rattle.et_pool.specs.declared.entry.Layout.TheVariants as layout
use Rattle.et_pool.specs.Text.{is_modified}
use Rattle.et_pool.specs.Entries.{Item, Text, Word, Wide, Name, Pair, Handle, tag_layout, indices, item_bytes, slots_taken, slots_of, slots_of_item}
use Rattle.et_pool.specs.Reading.{pool_number, text_at, body_at, shaped_at, entry_at}
use Rattle.et_pool.specs.Pools.{AreEntries, IsPool}
use Rattle.et_pool.specs.Looks.{slot_bytes, end_of}
use Rattle.et_pool.specs.Spelling.{IsEntry, IsPoolSpelled}
use Rattle.et_pool.proofs.Rooms.{entry_room}
use Rattle.et_pool.proofs.Listing.{slots_length}
use Rattle.et_pool.proofs.OneAnswer.{room_pos, ok_is}

-- TAGS

never : (b2 b3 b4 b5 b6 : Bool) → cond b2 (Some layout.Word) (cond b3 (Some layout.Wide) (cond b4 (Some layout.Name) (cond b5 (Some layout.Pair) (cond b6 (Some layout.Handle) None)))) ≡ Some layout.Text → ⊥
never true b3 b4 b5 b6 e = cc
never false true b4 b5 b6 e = cc
never false false true b5 b6 e = cc
never false false false true b6 e = cc
never false false false false true e = cc
never false false false false false e = cc

first_true : (b : Bool) (x y : Option Layout) → (y ≡ Some layout.Text → ⊥) → cond b x y ≡ Some layout.Text → b ≡ true
first_true true x y h e = refl
first_true false x y h e = absurd (h e)

tag_text : (tag : ℕ) → tag_layout tag ≡ Some layout.Text → tag ≡ 1
tag_text tag e = eqb-true _ _ (first_true (eqb tag 1) (Some layout.Text) _ (never _ _ _ _ _) e)

last_true : (b1 b2 b3 b4 b5 b6 : Bool) → cond b1 (Some layout.Text) (cond b2 (Some layout.Word) (cond b3 (Some layout.Wide) (cond b4 (Some layout.Name) (cond b5 (Some layout.Pair) (cond b6 (Some layout.Handle) None))))) ≡ Some layout.Handle → b6 ≡ true
last_true true b2 b3 b4 b5 b6 e = absurd cc
last_true false true b3 b4 b5 b6 e = absurd cc
last_true false false true b4 b5 b6 e = absurd cc
last_true false false false true b5 b6 e = absurd cc
last_true false false false false true b6 e = absurd cc
last_true false false false false false true e = refl
last_true false false false false false false e = absurd cc

tag_handle : (tag : ℕ) → tag_layout tag ≡ Some layout.Handle → tag ≡ 15
tag_handle tag e = eqb-true _ _ (last_true _ _ _ _ _ (eqb tag 15) e)

-- WHAT IS READ IS SPELLED

-- what an entry's reading says of the bytes from a place on, where `tag` stood before
abbrev Spelt : List ℕ → ℕ → ℕ → Result (Item × ℕ) Broken → Type 0
Spelt bytes at tag (Ok x) = (rest : List ℕ) × (item_bytes x.0 ≡ tag ∷ rest) × Reads bytes at rest x.1 × IsEntry x.0
Spelt bytes at tag (Err f) = Unit {0}

-- a byte stands at a place as itself
record IsByte (bytes : List ℕ) (at n next : ℕ) : Type 0 where
  reads : Reads bytes at (n ∷ []) next
  fits : n < 256

byte_reads : (bytes : List ℕ) (at n next : ℕ) → AreBytes bytes → number_at w8 bytes at ≡ Some (n, next) → IsByte bytes at n next
byte_reads bytes at n next fits e =
    let r = number_reads w8 wide8 bytes at n next fits e in
    let lt : n < 256 = r.fits in
    let same : n % 256 ≡ n = omega arith in
    record { reads = subst (λ (k : ℕ). Reads bytes at (k ∷ []) next) same r.reads; fits = lt }

text_spelt : (bytes : List ℕ) (entry tag at : ℕ) → AreBytes bytes → tag ≡ 1 → Spelt bytes at tag (text_at bytes entry at)
unfolding text_at
text_spelt bytes entry tag at fits one =
    by_bind (Spelt bytes at tag) (pool_number w16 bytes at) _ (λ f h. tt) (λ n h.
    by_bind (Spelt bytes at tag) (ok_or (bytes_at bytes n.0 n.1) (Short n.1)) _ (λ f g. tt) (λ text g.
    by_if (Spelt bytes at tag) (is_modified text.0) (Ok (Text text.0, text.1)) (Err (Utf8 entry)) (λ m.
    let r = number_reads w16 wide16 bytes at n.0 n.1 fits (ok_some _ _ _ h) in
    let s = run_reads bytes n.0 n.1 text.0 text.1 (ok_some _ _ _ g) in
    let size : n.0 ≡ length text.0 = sym s.size_is in (
      to_be_bytes w16 (length text.0) ++ text.0,
      ap (λ (k : ℕ). k ∷ (to_be_bytes w16 (length text.0) ++ text.0)) (sym one),
      Reads-then bytes at (to_be_bytes w16 (length text.0)) n.1 text.0 text.1 (subst (λ (k : ℕ). Reads bytes at (to_be_bytes w16 k) n.1) size r.reads) s.reads,
      (m, omega (arith, r.fits, size)),
    )) (λ m. tt)))

body_spelt : (bytes : List ℕ) (entry tag at : ℕ) (s : Layout) → AreBytes bytes → tag_layout tag ≡ Some s → Spelt bytes at tag (body_at bytes entry tag at s)
body_spelt bytes entry tag at layout.Text fits e = text_spelt bytes entry tag at fits (tag_text tag e)
body_spelt bytes entry tag at layout.Word fits e =
    by_bind (Spelt bytes at tag) (pool_number w32 bytes at) _ (λ f h. tt) (λ n h.
    let r = number_reads w32 wide32 bytes at n.0 n.1 fits (ok_some _ _ _ h) in (to_be_bytes w32 n.0, refl, r.reads, (e, r.fits)))
body_spelt bytes entry tag at layout.Wide fits e =
    by_bind (Spelt bytes at tag) (pool_number w64 bytes at) _ (λ f h. tt) (λ n h.
    let r = number_reads w64 wide64 bytes at n.0 n.1 fits (ok_some _ _ _ h) in (to_be_bytes w64 n.0, refl, r.reads, (e, r.fits)))
body_spelt bytes entry tag at layout.Name fits e =
    by_bind (Spelt bytes at tag) (pool_number w16 bytes at) _ (λ f h. tt) (λ n h.
    let r = number_reads w16 wide16 bytes at n.0 n.1 fits (ok_some _ _ _ h) in (to_be_bytes w16 n.0, refl, r.reads, (e, r.fits)))
body_spelt bytes entry tag at layout.Pair fits e =
    by_bind (Spelt bytes at tag) (pool_number w16 bytes at) _ (λ f h. tt) (λ m h.
    by_bind (Spelt bytes at tag) (pool_number w16 bytes m.1) _ (λ f i. tt) (λ n i.
    let r = number_reads w16 wide16 bytes at m.0 m.1 fits (ok_some _ _ _ h) in
    let s = number_reads w16 wide16 bytes m.1 n.0 n.1 fits (ok_some _ _ _ i) in
    (to_be_bytes w16 m.0 ++ to_be_bytes w16 n.0, refl, Reads-then bytes at (to_be_bytes w16 m.0) m.1 (to_be_bytes w16 n.0) n.1 r.reads s.reads, (e, r.fits, s.fits))))
body_spelt bytes entry tag at layout.Handle fits e =
    by_bind (Spelt bytes at tag) (pool_number w8 bytes at) _ (λ f h. tt) (λ m h.
    by_bind (Spelt bytes at tag) (pool_number w16 bytes m.1) _ (λ f i. tt) (λ n i.
    let r = byte_reads bytes at m.0 m.1 fits (ok_some _ _ _ h) in
    let s = number_reads w16 wide16 bytes m.1 n.0 n.1 fits (ok_some _ _ _ i) in
    (m.0 ∷ to_be_bytes w16 n.0, ap (λ (k : ℕ). k ∷ m.0 ∷ to_be_bytes w16 n.0) (sym (tag_handle tag e)), Reads-then bytes at (m.0 ∷ []) m.1 (to_be_bytes w16 n.0) n.1 r.reads s.reads, (r.fits, s.fits))))

shaped_spelt : (bytes : List ℕ) (room entry tag at : ℕ) (s : Option Layout) → AreBytes bytes → tag_layout tag ≡ s → Spelt bytes at tag (shaped_at bytes room entry tag at s)
shaped_spelt bytes room entry tag at None fits e = tt
shaped_spelt bytes room entry tag at (Some s) fits e = by_if (Spelt bytes at tag) (ltb room (indices s)) _ _ (λ t. tt) (λ t. body_spelt bytes entry tag at s fits e)

-- an entry that is read stands whole at its place
record IsWhole (bytes : List ℕ) (at : ℕ) (e : Item) (next : ℕ) : Type 0 where
  reads : Reads bytes at (item_bytes e) next
  entry : IsEntry e

abbrev Whole : List ℕ → ℕ → Result (Item × ℕ) Broken → Type 0
Whole bytes at (Ok x) = IsWhole bytes at x.0 x.1
Whole bytes at (Err f) = Unit {0}

whole_from : (bytes : List ℕ) (at tag after : ℕ) (r : Result (Item × ℕ) Broken) → Reads bytes at (tag ∷ []) after → Spelt bytes after tag r → Whole bytes at r
whole_from bytes at tag after (Ok x) h s = record { reads = subst (λ (xs : List ℕ). Reads bytes at xs x.1) (sym s.1) (Reads-then bytes at (tag ∷ []) after s.0 x.1 h s.2); entry = s.3 }
whole_from bytes at tag after (Err f) h s = tt

entry_whole : (bytes : List ℕ) (room at : ℕ) → AreBytes bytes → Whole bytes at (entry_at bytes room at)
unfolding entry_at
entry_whole bytes room at fits =
    by_bind (Whole bytes at) (pool_number w8 bytes at) _ (λ f h. tt) (λ tag h.
    whole_from bytes at tag.0 tag.1 (shaped_at bytes room at tag.0 tag.1 (tag_layout tag.0)) (byte_reads bytes at tag.0 tag.1 fits (ok_some _ _ _ h)).reads (shaped_spelt bytes room at tag.0 tag.1 _ fits refl))

entry_reads : (bytes : List ℕ) (room at : ℕ) (e : Item) (next : ℕ) → AreBytes bytes → entry_at bytes room at ≡ Ok (e, next) → IsWhole bytes at e next
entry_reads bytes room at e next fits h = subst (λ r. Whole bytes at r) h (entry_whole bytes room at fits)

entries_read : (bytes : List ℕ) (room at : ℕ) (es : List Item) (left after : ℕ) → AreBytes bytes → AreEntries bytes room at es left after → Reads bytes at (flat_map item_bytes es) after
entries_read bytes room at [] left after fits h = Reads-nothing bytes at after h.1
entries_read bytes room at (e ∷ es) left after fits h =
    Reads-then bytes at (item_bytes e) h.0 (flat_map item_bytes es) after (entry_reads bytes room at e h.0 fits h.1).reads (entries_read bytes (room - slots_taken e) h.0 es left after fits h.2)

at_place : (e : Item) (es : List Item) → IsEntry e → All IsEntry es → (k : ℕ) (d : Item) → k < length (e ∷ es) → IsEntry (slice_index_or (e ∷ es) k d)
at_place e es h all zero d lt = h
at_place e es h all (suc k) d lt = all k d (omega arith)

All-cons : (e : Item) (es : List Item) → IsEntry e → All IsEntry es → All IsEntry (e ∷ es)
All-cons e es h all = λ k d lt. at_place e es h all k d lt

are_entries : (bytes : List ℕ) (room at : ℕ) (es : List Item) (left after : ℕ) → AreBytes bytes → AreEntries bytes room at es left after → All IsEntry es
are_entries bytes room at [] left after fits h = λ k d lt. absurd (omega arith)
are_entries bytes room at (e ∷ es) left after fits h = All-cons e es (entry_reads bytes room at e h.0 fits h.1).entry (are_entries bytes (room - slots_taken e) h.0 es left after fits h.2)

slots_fill : (bytes : List ℕ) (room at : ℕ) (es : List Item) (left after : ℕ) → AreEntries bytes room at es left after → length (flat_map slots_of_item es) + left ≡ room
slots_fill bytes room at [] left after h = omega (arith, h.0)
slots_fill bytes room at (e ∷ es) left after h =
    omega (arith, slots_fill bytes (room - slots_taken e) h.0 es left after h.2, entry_room bytes room at e h.0 h.1, slots_length e, length-append (slots_of_item e) (flat_map slots_of_item es))

pub pool_spelled : (bytes : List ℕ) (at : ℕ) (slots : List (Option Item)) (after : ℕ) → AreBytes bytes → IsPool bytes at slots after → IsPoolSpelled bytes at slots after
pool_spelled bytes at slots after fits p =
    let fill = slots_fill bytes (p.count - 1) p.start p.filled.entries 0 after p.filled.whole in
    let count_is : p.count ≡ length (slots_of p.filled.entries) = omega (arith, fill, p.some) in
    let first = number_reads w16 wide16 bytes at p.count p.start fits (ok_some _ _ _ p.counted) in
    let first' = subst (λ (k : ℕ). Reads bytes at (to_be_bytes w16 k) p.start) count_is first.reads in
    let all = Reads-then bytes at (to_be_bytes w16 (length (slots_of p.filled.entries))) p.start (flat_map item_bytes p.filled.entries) after first' (entries_read bytes (p.count - 1) p.start p.filled.entries 0 after fits p.filled.whole) in
    record {
      entries = p.filled.entries;
      are_entries = are_entries bytes (p.count - 1) p.start p.filled.entries 0 after fits p.filled.whole;
      few = omega (arith, first.fits, count_is);
      slots_are = p.filled.slots_are;
      stands = all.stands;
      after_is = all.next_is;
    }

-- WHAT IS SPELLED IS READ

none_is : (tag k : ℕ) → k < tag → eqb tag k ≡ false
none_is tag k lt = grind arith

none_beyond : (tag : ℕ) → 256 ≤ tag → tag_layout tag ≡ None
none_beyond tag le =
    rw (none_is tag 1 (omega arith), none_is tag 3 (omega arith), none_is tag 4 (omega arith), none_is tag 5 (omega arith), none_is tag 6 (omega arith), none_is tag 7 (omega arith), none_is tag 8 (omega arith), none_is tag 16 (omega arith), none_is tag 9 (omega arith), none_is tag 10 (omega arith), none_is tag 11 (omega arith), none_is tag 12 (omega arith), none_is tag 18 (omega arith), none_is tag 15 (omega arith)) refl

tag_small : (tag : ℕ) (s : Layout) → tag_layout tag ≡ Some s → tag < 256
tag_small tag s e = elim (cases_lt tag 256) [ inl lt ↦ lt | inr le ↦ absurd (none-some s (sym (none_beyond tag le) ∙ e)) ]

read_byte : (bytes : List ℕ) (at n next : ℕ) → n < 256 → Reads bytes at (n ∷ []) next → pool_number w8 bytes at ≡ Ok (n, next)
read_byte bytes at n next lt r =
    let same : n ≡ n % 256 = omega arith in
    some_ok _ _ _ (reads_number w8 wide8 (omega arith) bytes at n next lt (subst (λ (k : ℕ). Reads bytes at (k ∷ []) next) same r))

read_16 : (bytes : List ℕ) (at n next : ℕ) → n < 2 ^ 16 → Reads bytes at (to_be_bytes w16 n) next → pool_number w16 bytes at ≡ Ok (n, next)
read_16 bytes at n next lt r = some_ok _ _ _ (reads_number w16 wide16 (omega arith) bytes at n next lt r)

-- an entry behind its tag
after_tag : (bytes : List ℕ) (room at tag : ℕ) (s : Layout) (rest : List ℕ) (next : ℕ) (x : Result (Item × ℕ) Broken) → tag_layout tag ≡ Some s → indices s ≤ room → Reads bytes at (tag ∷ rest) next → body_at bytes at tag (at + 1) s ≡ x → entry_at bytes room at ≡ x
unfolding entry_at
after_tag bytes room at tag s rest next x e le r h =
    let first = read_byte bytes at tag (at + 1) (tag_small tag s e) (Reads-first bytes at (tag ∷ []) rest next r) in
    bind_ok (pool_number w8 bytes at) _ (tag, at + 1) x first (ap (λ o. shaped_at bytes room at tag (at + 1) o) e ∙ (ap (λ (b : Bool). cond b (Err (Tag at)) (body_at bytes at tag (at + 1) s)) (le-ltb _ _ le) ∙ h))

-- a text that is spelled is read, or refused where it isn't modified UTF-8
text_read : (bytes : List ℕ) (entry at : ℕ) (text : List ℕ) (next : ℕ) → length text < 2 ^ 16 → Reads bytes at (to_be_bytes w16 (length text) ++ text) next → text_at bytes entry at ≡ cond (is_modified text) (Ok (Text text, next)) (Err (Utf8 entry))
unfolding text_at
text_read bytes entry at text next lt r =
    let head = Reads-first bytes at (to_be_bytes w16 (length text)) text next r in
    let n = read_16 bytes at (length text) (at + 2) lt head in
    let run = reads_run bytes (length text) (at + 2) text next (in_bytes bytes at (to_be_bytes w16 (length text)) (at + 2) (omega arith) head) refl (Reads-second bytes at (to_be_bytes w16 (length text)) text next r) in
    bind_ok (pool_number w16 bytes at) _ (length text, at + 2) _ n (bind_ok (ok_or (bytes_at bytes (length text) (at + 2)) (Short (at + 2))) _ (text, next) _ (some_ok _ _ _ run) refl)

text_back : (bytes : List ℕ) (entry at : ℕ) (text : List ℕ) (next : ℕ) → is_modified text ≡ true → length text < 2 ^ 16 → Reads bytes at (to_be_bytes w16 (length text) ++ text) next → text_at bytes entry at ≡ Ok (Text text, next)
text_back bytes entry at text next m lt r = text_read bytes entry at text next lt r ∙ ap (λ (b : Bool). cond {A = Result (Item × ℕ) Broken} b (Ok (Text text, next)) (Err (Utf8 entry))) m

entry_back : (bytes : List ℕ) (room at : ℕ) (e : Item) (next : ℕ) → IsEntry e → slots_taken e ≤ room → Reads bytes at (item_bytes e) next → entry_at bytes room at ≡ Ok (e, next)
entry_back bytes room at (Text text) next h le r =
    after_tag bytes room at 1 layout.Text _ next _ refl le r (text_back bytes at (at + 1) text next h.0 h.1 (Reads-second bytes at (1 ∷ []) _ next r))
entry_back bytes room at (Word tag n) next h le r =
    after_tag bytes room at tag layout.Word _ next _ h.0 le r (bind_ok (pool_number w32 bytes (at + 1)) _ (n, next) _ (some_ok _ _ _ (reads_number w32 wide32 (omega arith) bytes (at + 1) n next h.1 (Reads-second bytes at (tag ∷ []) _ next r))) refl)
entry_back bytes room at (Wide tag n) next h le r =
    after_tag bytes room at tag layout.Wide _ next _ h.0 le r (bind_ok (pool_number w64 bytes (at + 1)) _ (n, next) _ (some_ok _ _ _ (reads_number w64 wide64 (omega arith) bytes (at + 1) n next h.1 (Reads-second bytes at (tag ∷ []) _ next r))) refl)
entry_back bytes room at (Name tag n) next h le r =
    after_tag bytes room at tag layout.Name _ next _ h.0 le r (bind_ok (pool_number w16 bytes (at + 1)) _ (n, next) _ (read_16 bytes (at + 1) n next h.1 (Reads-second bytes at (tag ∷ []) _ next r)) refl)
entry_back bytes room at (Pair tag m n) next h le r =
    let body = Reads-second bytes at (tag ∷ []) (to_be_bytes w16 m ++ to_be_bytes w16 n) next r in
    after_tag bytes room at tag layout.Pair _ next _ h.0 le r
    (bind_ok (pool_number w16 bytes (at + 1)) _ (m, at + 1 + 2) _ (read_16 bytes (at + 1) m (at + 1 + 2) h.1 (Reads-first bytes (at + 1) (to_be_bytes w16 m) (to_be_bytes w16 n) next body))
    (bind_ok (pool_number w16 bytes (at + 1 + 2)) _ (n, next) _ (read_16 bytes (at + 1 + 2) n next h.2 (Reads-second bytes (at + 1) (to_be_bytes w16 m) (to_be_bytes w16 n) next body)) refl))
entry_back bytes room at (Handle k n) next h le r =
    let body = Reads-second bytes at (15 ∷ []) (k ∷ to_be_bytes w16 n) next r in
    after_tag bytes room at 15 layout.Handle _ next _ refl le r
    (bind_ok (pool_number w8 bytes (at + 1)) _ (k, at + 1 + 1) _ (read_byte bytes (at + 1) k (at + 1 + 1) h.0 (Reads-first bytes (at + 1) (k ∷ []) (to_be_bytes w16 n) next body))
    (bind_ok (pool_number w16 bytes (at + 1 + 1)) _ (n, next) _ (read_16 bytes (at + 1 + 1) n next h.1 (Reads-second bytes (at + 1) (k ∷ []) (to_be_bytes w16 n) next body)) refl))

entries_back : (bytes : List ℕ) (room at : ℕ) (es : List Item) (after : ℕ) → All IsEntry es → length (flat_map slots_of_item es) ≡ room → Reads bytes at (flat_map item_bytes es) after → AreEntries bytes room at es 0 after
entries_back bytes room at [] after all k r = (k, omega (arith, r.next_is))
entries_back bytes room at (e ∷ es) after all k r =
    let split = length-append (slots_of_item e) (flat_map slots_of_item es) in (
      at + length (item_bytes e),
      entry_back bytes room at e (at + length (item_bytes e)) (all 0 e (omega arith)) (omega (arith, split, k, slots_length e)) (Reads-first bytes at (item_bytes e) (flat_map item_bytes es) after r),
      entries_back bytes (room - slots_taken e) (at + length (item_bytes e)) es after (λ i d lt. all (suc i) d (omega arith)) (omega (arith, split, k, slots_length e)) (Reads-second bytes at (item_bytes e) (flat_map item_bytes es) after r),
    )

pub spelled_pool : (bytes : List ℕ) (at : ℕ) (slots : List (Option Item)) (after : ℕ) → IsPoolSpelled bytes at slots after → IsPool bytes at slots after
spelled_pool bytes at slots after s =
    let whole : Reads bytes at (to_be_bytes w16 (length (slots_of s.entries)) ++ flat_map item_bytes s.entries) after = record { stands = s.stands; next_is = s.after_is } in
    record {
      count = length (slots_of s.entries);
      start = at + 2;
      counted = read_16 bytes at (length (slots_of s.entries)) (at + 2) s.few (Reads-first bytes at (to_be_bytes w16 (length (slots_of s.entries))) (flat_map item_bytes s.entries) after whole);
      some = omega arith;
      filled = record {
        entries = s.entries;
        whole = entries_back bytes (length (slots_of s.entries) - 1) (at + 2) s.entries after s.are_entries (omega arith) (Reads-second bytes at (to_be_bytes w16 (length (slots_of s.entries))) (flat_map item_bytes s.entries) after whole);
        slots_are = s.slots_are;
      };
    }

-- WHAT IS READ WHERE ENTRIES STAND

-- an entry whose numbers fit; whether a text is modified UTF-8 is left open
abbrev pub Fits : Item → Type 0
Fits (Text bytes) = length bytes < 2 ^ 16
Fits (Word tag bits) = IsEntry (Word tag bits)
Fits (Wide tag bits) = IsEntry (Wide tag bits)
Fits (Name tag index) = IsEntry (Name tag index)
Fits (Pair tag first second) = IsEntry (Pair tag first second)
Fits (Handle kind index) = IsEntry (Handle kind index)

text_case : (bytes : List ℕ) (room at : ℕ) (text : List ℕ) (next : ℕ) (x : Item × ℕ) (b : Bool) → is_modified text ≡ b → length text < 2 ^ 16 → 1 ≤ room → Reads bytes at (item_bytes (Text text)) next → entry_at bytes room at ≡ Ok x → b ≡ true
text_case bytes room at text next x true m lt le r h = refl
text_case bytes room at text next x false m lt le r h =
    let bad : Result (Item × ℕ) Broken = Err (Utf8 at) in
    let refused : entry_at bytes room at ≡ bad =
    after_tag bytes room at 1 layout.Text _ next bad refl le r
    (text_read bytes at (at + 1) text next lt (Reads-second bytes at (1 ∷ []) _ next r) ∙ ap (λ (b : Bool). cond {A = Result (Item × ℕ) Broken} b (Ok (Text text, next)) (Err (Utf8 at))) m) in
    absurd cc

-- an entry that fits is one that can be spelled, where any entry is read from its bytes
read_fits : (bytes : List ℕ) (room at : ℕ) (e : Item) (next : ℕ) (x : Item × ℕ) → Fits e → slots_taken e ≤ room → Reads bytes at (item_bytes e) next → entry_at bytes room at ≡ Ok x → IsEntry e
read_fits bytes room at (Text text) next x f le r h = (text_case bytes room at text next x (is_modified text) refl f le r h, f)
read_fits bytes room at (Word tag n) next x f le r h = f
read_fits bytes room at (Wide tag n) next x f le r h = f
read_fits bytes room at (Name tag n) next x f le r h = f
read_fits bytes room at (Pair tag m n) next x f le r h = f
read_fits bytes room at (Handle k n) next x f le r h = f

entries_fit : (bytes : List ℕ) (room at : ℕ) (es ds : List Item) (after next : ℕ) → All Fits ds → length (flat_map slots_of_item ds) ≡ room → Reads bytes at (flat_map item_bytes ds) next → AreEntries bytes room at es 0 after → All IsEntry ds
entries_fit bytes room at es [] after next all k r w = λ i d lt. absurd (omega arith)
entries_fit bytes room at [] (d ∷ ds) after next all k r w =
    let split = length-append (slots_of_item d) (flat_map slots_of_item ds) in
    absurd (omega (arith, split, k, slots_length d, room_pos d, w.0))
entries_fit bytes room at (e ∷ es) (d ∷ ds) after next all k r w =
    let split = length-append (slots_of_item d) (flat_map slots_of_item ds) in
    let le : slots_taken d ≤ room = omega (arith, split, k, slots_length d) in
    let here = Reads-first bytes at (item_bytes d) (flat_map item_bytes ds) next r in
    let rest = Reads-second bytes at (item_bytes d) (flat_map item_bytes ds) next r in
    let is = read_fits bytes room at d (at + length (item_bytes d)) (e, w.0) (all 0 d (omega arith)) le here w.1 in
    let same = ok_is (entry_at bytes room at) (e, w.0) (d, at + length (item_bytes d)) w.1 (entry_back bytes room at d (at + length (item_bytes d)) is le here) in
    All-cons d ds is
    (entries_fit bytes (room - slots_taken d) (at + length (item_bytes d)) es ds after next (λ i x lt. all (suc i) x (omega arith)) (omega (arith, split, k, slots_length d)) rest
    (subst (λ (x : Item × ℕ). AreEntries bytes (room - slots_taken x.0) x.1 es 0 after) same w.2))

-- where a pool is read from the bytes of entries that fit, they can be spelled
pub pool_stands : (bytes : List ℕ) (at : ℕ) (slots : List (Option Item)) (after : ℕ) (ds : List Item) (next : ℕ) → IsPool bytes at slots after → All Fits ds → length (slots_of ds) < 2 ^ 16 → Reads bytes at (to_be_bytes w16 (length (slots_of ds)) ++ flat_map item_bytes ds) next → All IsEntry ds
pool_stands bytes at slots after ds next p all lt r =
    let n = length (slots_of ds) in
    let counted : pool_number w16 bytes at ≡ Ok (n, at + 2) = read_16 bytes at n (at + 2) lt (Reads-first bytes at (to_be_bytes w16 n) (flat_map item_bytes ds) next r) in
    let same = ok_is (pool_number w16 bytes at) (p.count, p.start) (n, at + 2) p.counted counted in
    entries_fit bytes (n - 1) (at + 2) p.filled.entries ds after next all (omega arith) (Reads-second bytes at (to_be_bytes w16 n) (flat_map item_bytes ds) next r)
    (subst (λ (x : ℕ × ℕ). AreEntries bytes (x.0 - 1) x.1 p.filled.entries 0 after) same p.filled.whole)

-- THE PLACE AFTER A POOL

slots_bytes : (e : Item) (rest : List (Option Item)) → length (flat_map slot_bytes (slots_of_item e ++ rest)) ≡ length (item_bytes e) + length (flat_map slot_bytes rest)
slots_bytes (Text bytes) rest = length-append (item_bytes (Text bytes)) (flat_map slot_bytes rest)
slots_bytes (Word tag bits) rest = length-append (item_bytes (Word tag bits)) (flat_map slot_bytes rest)
slots_bytes (Wide tag bits) rest = length-append (item_bytes (Wide tag bits)) (flat_map slot_bytes rest)
slots_bytes (Name tag index) rest = length-append (item_bytes (Name tag index)) (flat_map slot_bytes rest)
slots_bytes (Pair tag first second) rest = length-append (item_bytes (Pair tag first second)) (flat_map slot_bytes rest)
slots_bytes (Handle kind index) rest = length-append (item_bytes (Handle kind index)) (flat_map slot_bytes rest)

entries_bytes : (es : List Item) → length (flat_map slot_bytes (flat_map slots_of_item es)) ≡ length (flat_map item_bytes es)
entries_bytes [] = refl
entries_bytes (e ∷ es) = omega (arith, slots_bytes e (flat_map slots_of_item es), length-append (item_bytes e) (flat_map item_bytes es), entries_bytes es)

pub pool_end : (bytes : List ℕ) (at : ℕ) (slots : List (Option Item)) (after : ℕ) → AreBytes bytes → IsPool bytes at slots after → after ≡ end_of at slots
pool_end bytes at slots after fits p =
    let s = pool_spelled bytes at slots after fits p in
    let long : after ≡ at + length (to_be_bytes w16 (length (slots_of s.entries)) ++ flat_map item_bytes s.entries) = s.after_is in
    let same : length (flat_map slot_bytes slots) ≡ length (flat_map slot_bytes (slots_of s.entries)) = ap (λ (x : List (Option Item)). length (flat_map slot_bytes x)) s.slots_are in
    omega (arith, long, same, entries_bytes s.entries, length-append (to_be_bytes w16 (length (slots_of s.entries))) (flat_map item_bytes s.entries))

pub pool_fits : (bytes : List ℕ) (at : ℕ) (slots : List (Option Item)) (after : ℕ) → AreBytes bytes → IsPool bytes at slots after → after ≤ length bytes
pool_fits bytes at slots after fits p =
    let s = pool_spelled bytes at slots after fits p in
    in_bytes bytes at (to_be_bytes w16 (length (slots_of s.entries)) ++ flat_map item_bytes s.entries) after (omega arith) (record { stands = s.stands; next_is = s.after_is })
