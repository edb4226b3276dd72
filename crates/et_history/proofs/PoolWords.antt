-- What holds of each text that a pool can have holds of what its entries name.
use Rattle.std.proofs.Common.{◌≡◌, ℕ, zero, suc, ◌==◌, Bool, true, false, List, [], ◌∷◌, Option, Some, None, sym, subst}
use Rattle.std.specs.Prelude.{All, if◌then◌else◌}
use Rattle.std.specs.List.{flat_map, list_all, slice_index_or}
use Rattle.std.proofs.lemmas.Bool.{and_parts}
use Rattle.std.proofs.lemmas.List.Elements.{All-nil, All-cons, All-head, All-tail, All-append}
use Rattle.std.proofs.lemmas.Option.{none-some, same_Some}
use Rattle.et_pool.specs.declared.tags.TheConstants.{CLASS}
use Rattle.et_pool.specs.Entries.{Item, Text, Word, Wide, Name, Pair, Handle, slots_of_item, slots_of}
use Rattle.et_pool.specs.Looks.{text_of_slot, utf8_at, named_by}
use Rattle.et_pool.specs.Spelling.{IsEntry}
use Rattle.et_class.specs.Spelling.{ArePoolSlots}

-- ELEMENTS

-- what holds of each element and of what stands at other places
pub each_at : {X : Type 0} (P : X → Type 0) (xs : List X) (i : ℕ) (d : X) → P d → All P xs → P (slice_index_or xs i d)
each_at P [] i d none h = none
each_at P (x ∷ xs) zero d none h = All-head P x xs h
each_at P (x ∷ xs) (suc i) d none h = each_at P xs i d none (All-tail P x xs h)

pub each_passes : {X : Type 0} (t : X → Bool) (P : X → Type 0) → ((x : X) → t x ≡ true → P x) → (xs : List X) → list_all t xs ≡ true → All P xs
each_passes t P says [] h = All-nil P
each_passes t P says (x ∷ xs) h =
    let parts = and_parts (t x) (list_all t xs) h in
    All-cons P x xs (says x parts.0) (each_passes t P says xs parts.1)

-- TEXTS of which something holds
module _ (P : List ℕ → Type 0) where
  abbrev pub AreTexts : List (Option Item) → Type 0
  AreTexts slots = (i : ℕ) (name : List ℕ) → utf8_at slots i ≡ Some name → P name

  abbrev pub AreNames : List (Option Item) → Type 0
  AreNames slots = (s : Option Item) (name : List ℕ) → named_by slots CLASS s ≡ Some name → P name

  abbrev IsSlot : Option Item → Type 0
  IsSlot s = (name : List ℕ) → text_of_slot s ≡ Some name → P name

  no_text : IsSlot None
  no_text name e = absurd (none-some name e)

  item_texts : ((bytes : List ℕ) → IsEntry (Text bytes) → P bytes) → (e : Item) → IsEntry e → All IsSlot (slots_of_item e)
  item_texts says (Text bytes) h = All-cons IsSlot (Some (Text bytes)) [] (λ name e. subst P (same_Some bytes name e) (says bytes h)) (All-nil IsSlot)
  item_texts says (Word tag bits) h = All-cons IsSlot (Some (Word tag bits)) [] (λ name e. absurd (none-some name e)) (All-nil IsSlot)
  item_texts says (Wide tag bits) h = All-cons IsSlot (Some (Wide tag bits)) (None ∷ []) (λ name e. absurd (none-some name e)) (All-cons IsSlot None [] no_text (All-nil IsSlot))
  item_texts says (Name tag index) h = All-cons IsSlot (Some (Name tag index)) [] (λ name e. absurd (none-some name e)) (All-nil IsSlot)
  item_texts says (Pair tag first second) h = All-cons IsSlot (Some (Pair tag first second)) [] (λ name e. absurd (none-some name e)) (All-nil IsSlot)
  item_texts says (Handle kind index) h = All-cons IsSlot (Some (Handle kind index)) [] (λ name e. absurd (none-some name e)) (All-nil IsSlot)

  items_texts : ((bytes : List ℕ) → IsEntry (Text bytes) → P bytes) → (items : List Item) → All IsEntry items → All IsSlot (flat_map slots_of_item items)
  items_texts says [] h = All-nil IsSlot
  items_texts says (e ∷ items) h =
      All-append IsSlot (slots_of_item e) (flat_map slots_of_item items) (item_texts says e (All-head IsEntry e items h)) (items_texts says items (All-tail IsEntry e items h))

  pub pool_texts : ((bytes : List ℕ) → IsEntry (Text bytes) → P bytes) → (slots : List (Option Item)) → ArePoolSlots slots → AreTexts slots
  pool_texts says slots spelled i =
      let all : All IsSlot (slots_of spelled.entries) = All-cons IsSlot None (flat_map slots_of_item spelled.entries) no_text (items_texts says spelled.entries spelled.are_entries) in
      each_at IsSlot slots i None no_text (subst (λ (ss : List (Option Item)). All IsSlot ss) (sym spelled.slots_are) all)

  -- the names of Class entries
  pub class_texts : (slots : List (Option Item)) → AreTexts slots → AreNames slots
  class_texts slots texts None name e = absurd (none-some name e)
  class_texts slots texts (Some (Text bytes)) name e = absurd (none-some name e)
  class_texts slots texts (Some (Word tag bits)) name e = absurd (none-some name e)
  class_texts slots texts (Some (Wide tag bits)) name e = absurd (none-some name e)
  class_texts slots texts (Some (Name tag index)) name e = by (tag == CLASS) e
    where
      by : (b : Bool) → (if b then utf8_at slots index else None) ≡ Some name → P name
      by true k = texts index name k
      by false k = absurd (none-some name k)
  class_texts slots texts (Some (Pair tag first second)) name e = absurd (none-some name e)
  class_texts slots texts (Some (Handle kind index)) name e = absurd (none-some name e)
