-- An entry that is read takes no more indices than are left.
use Rattle.std.proofs.Common.{◌≡◌, ℕ, ◌≤◌, Bool, true, false, cond, ltb, List, Option, Some, None, Result, Ok, Err, refl, subst, arith}
use Rattle.std.specs.Prelude.{ok_or}
use Rattle.std.specs.Int.{w8, w16, w32, w64}
use Rattle.std.proofs.lemmas.Bool.{ltb-false}
use Rattle.et_base.specs.Numbers.{bytes_at}
use Rattle.et_base.specs.Steps.{◌>>=◌}
use Rattle.et_pool.specs.Broken.{Broken, Tag, Utf8, Short}
use Rattle.et_pool.specs.declared.entry.Layout.{Layout}
use Rattle.et_pool.specs.declared.entry.Layout.TheVariants as layout
use Rattle.et_pool.specs.Text.{is_modified}
use Rattle.et_pool.specs.Entries.{Item, Text, Word, Wide, Name, Pair, Handle, tag_layout, indices, slots_taken}
use Rattle.et_pool.specs.Reading.{pool_number, text_at, body_at, shaped_at, entry_at}

-- an entry that was read takes k indices
abbrev pub Has : ℕ → Result (Item × ℕ) Broken → Type 0
Has k (Ok x) = slots_taken x.0 ≡ k
Has k (Err f) = Unit {0}

Has-bind : {A : Type 0} (k : ℕ) (r : Result A Broken) (f : A → Result (Item × ℕ) Broken) → ((x : A) → Has k (f x)) → Has k (r >>= f)
Has-bind k (Ok x) f h = h x
Has-bind k (Err e) f h = tt

Has-if : (k : ℕ) (b : Bool) (x y : Result (Item × ℕ) Broken) → Has k x → Has k y → Has k (cond b x y)
Has-if k true x y h i = h
Has-if k false x y h i = i

Has-text : (bytes : List ℕ) (entry at : ℕ) → Has 1 (text_at bytes entry at)
unfolding text_at
Has-text bytes entry at =
    Has-bind 1 (pool_number w16 bytes at) _ (λ n.
    Has-bind 1 (ok_or (bytes_at bytes n.0 n.1) (Short n.1)) _ (λ text.
    Has-if 1 (is_modified text.0) (Ok (Text text.0, text.1)) (Err (Utf8 entry)) refl tt))

Has-body : (bytes : List ℕ) (entry tag at : ℕ) (s : Layout) → Has (indices s) (body_at bytes entry tag at s)
Has-body bytes entry tag at layout.Text = Has-text bytes entry at
Has-body bytes entry tag at layout.Word = Has-bind 1 (pool_number w32 bytes at) (λ n. Ok (Word tag n.0, n.1)) (λ n. refl)
Has-body bytes entry tag at layout.Wide = Has-bind 2 (pool_number w64 bytes at) (λ n. Ok (Wide tag n.0, n.1)) (λ n. refl)
Has-body bytes entry tag at layout.Name = Has-bind 1 (pool_number w16 bytes at) (λ n. Ok (Name tag n.0, n.1)) (λ n. refl)
Has-body bytes entry tag at layout.Pair = Has-bind 1 (pool_number w16 bytes at) (λ m. pool_number w16 bytes m.1 >>= λ n. Ok (Pair tag m.0 n.0, n.1)) (λ m. Has-bind 1 (pool_number w16 bytes m.1) (λ n. Ok (Pair tag m.0 n.0, n.1)) (λ n. refl))
Has-body bytes entry tag at layout.Handle = Has-bind 1 (pool_number w8 bytes at) (λ m. pool_number w16 bytes m.1 >>= λ n. Ok (Handle m.0 n.0, n.1)) (λ m. Has-bind 1 (pool_number w16 bytes m.1) (λ n. Ok (Handle m.0 n.0, n.1)) (λ n. refl))

abbrev pub Within : ℕ → Result (Item × ℕ) Broken → Type 0
Within room (Ok x) = slots_taken x.0 ≤ room
Within room (Err f) = Unit {0}

Within-has : (room k : ℕ) (r : Result (Item × ℕ) Broken) → Has k r → k ≤ room → Within room r
Within-has room k (Ok x) h le = omega (arith, h)
Within-has room k (Err f) h le = tt

Within-if : (room k : ℕ) (entry : ℕ) (r : Result (Item × ℕ) Broken) (b : Bool) → ltb room k ≡ b → Has k r → Within room (cond b (Err (Tag entry)) r)
Within-if room k entry r true e h = tt
Within-if room k entry r false e h = Within-has room k r h (ltb-false _ _ e)

Within-shaped : (bytes : List ℕ) (room entry tag at : ℕ) (s : Option Layout) → Within room (shaped_at bytes room entry tag at s)
Within-shaped bytes room entry tag at None = tt
Within-shaped bytes room entry tag at (Some s) = Within-if room (indices s) entry (body_at bytes entry tag at s) (ltb room (indices s)) refl (Has-body bytes entry tag at s)

Within-bind : {A : Type 0} (room : ℕ) (r : Result A Broken) (f : A → Result (Item × ℕ) Broken) → ((x : A) → Within room (f x)) → Within room (r >>= f)
Within-bind room (Ok x) f h = h x
Within-bind room (Err e) f h = tt

Within-entry : (bytes : List ℕ) (room at : ℕ) → Within room (entry_at bytes room at)
unfolding entry_at
Within-entry bytes room at = Within-bind room (pool_number w8 bytes at) (λ tag. shaped_at bytes room at tag.0 tag.1 (tag_layout tag.0)) (λ tag. Within-shaped bytes room at tag.0 tag.1 (tag_layout tag.0))

pub entry_room : (bytes : List ℕ) (room at : ℕ) (e : Item) (next : ℕ) → entry_at bytes room at ≡ Ok (e, next) → slots_taken e ≤ room
entry_room bytes room at e next h = subst (λ r. Within room r) h (Within-entry bytes room at)
