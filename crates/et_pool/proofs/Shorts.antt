-- The texts of a pool are short.
use Rattle.std.proofs.Common.{ℕ, List, [], ◌∷◌, length, Option, Some, None, sym, subst, inl, inr}
use Rattle.std.specs.Prelude.{All}
use Rattle.std.specs.List.{flat_map}
use Rattle.std.proofs.lemmas.Bool.{cases_lt}
use Rattle.std.proofs.lemmas.List.{get_or_past}
use Rattle.std.proofs.lemmas.List.Elements.{All-nil, All-cons, All-head, All-tail, All-append}
use Rattle.et_base.specs.Numbers.{AreBytes}
use Rattle.et_pool.specs.Entries.{Item, Text, Word, Wide, Name, Pair, Handle, slots_of_item}
use Rattle.et_pool.specs.Looks.{HasShortText, slot_at}
use Rattle.et_pool.specs.Pools.{IsPool}
use Rattle.et_pool.specs.Spelling.{IsEntry}
use Rattle.et_pool.proofs.Spelled.{pool_spelled}

one : (s : Option Item) → HasShortText s → All HasShortText (s ∷ [])
one s h = All-cons HasShortText s [] h (All-nil HasShortText)

entry_short : (e : Item) → IsEntry e → All HasShortText (slots_of_item e)
entry_short (Text bytes) h = one (Some (Text bytes)) h.1
entry_short (Word tag bits) h = one (Some (Word tag bits)) tt
entry_short (Wide tag bits) h = All-cons HasShortText (Some (Wide tag bits)) (None ∷ []) tt (one None tt)
entry_short (Name tag index) h = one (Some (Name tag index)) tt
entry_short (Pair tag first second) h = one (Some (Pair tag first second)) tt
entry_short (Handle kind index) h = one (Some (Handle kind index)) tt

entries_short : (es : List Item) → All IsEntry es → All HasShortText (flat_map slots_of_item es)
entries_short [] all = All-nil HasShortText
entries_short (e ∷ es) all =
    All-append HasShortText (slots_of_item e) (flat_map slots_of_item es) (entry_short e (All-head IsEntry e es all)) (entries_short es (All-tail IsEntry e es all))

pub pool_short : (bytes : List ℕ) (at : ℕ) (slots : List (Option Item)) (after : ℕ) → AreBytes bytes → IsPool bytes at slots after → All HasShortText slots
pool_short bytes at slots after fits p =
    let s = pool_spelled bytes at slots after fits p in
    subst (All HasShortText) (sym s.slots_are) (All-cons HasShortText None (flat_map slots_of_item s.entries) tt (entries_short s.entries s.are_entries))

-- what stands at an index is no long text
pub slot_short : (slots : List (Option Item)) (i : ℕ) → All HasShortText slots → HasShortText (slot_at slots i)
slot_short slots i all =
    elim (cases_lt i (length slots)) [
      | inl lt ↦ all i None lt
      | inr le ↦ subst HasShortText (sym (get_or_past slots i None le)) tt
    ]
