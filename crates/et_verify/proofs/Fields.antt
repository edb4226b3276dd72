-- The type of a field is the descriptor of the member, where that was found to be one of a field.
use Rattle.std.proofs.Common.{◌≡◌, ℕ, Bool, true, false, List, Option, Some, None, refl, sym, ap, ◌∙◌}
use Rattle.std.specs.Prelude.{if◌then◌else◌, option_map, option_and_then}
use Rattle.std.specs.Option.{option_map_or}
use Rattle.std.proofs.lemmas.Bool.{false≢true}
use Rattle.std.proofs.lemmas.Option.{none-some, same_Some}
use Rattle.et_class.specs.Descriptors.{is_field_descriptor}
use Rattle.et_class.specs.Entries.{Item}
use Rattle.et_class.specs.Looks.{utf8_at, class_name_at, name_and_type_at, member_at}
use Rattle.et_program.specs.Entries.{Linked}
use Rattle.et_program.specs.Referring.{Member, pool_of_class, described, member_described, is_field_referred}
use Rattle.et_event.specs.Sites.{Site, site_member, pool_index}
use Rattle.et_verify.specs.Effects.{described_by, field_type}
use Rattle.et_verify.specs.Named.{descriptor_in}

-- THE DESCRIPTOR of a member that is given

abbrev member_of : List ℕ → List ℕ → List ℕ → Member
member_of owner name descriptor = record { owner = owner; name = name; descriptor = descriptor }

by_text : (m : Member) (owner : List ℕ) (name text : Option (List ℕ)) → option_and_then (λ n. option_map (λ d. member_of owner n d) text) name ≡ Some m → text ≡ Some m.descriptor
by_text m owner None text e = absurd (none-some m e)
by_text m owner (Some n) None e = absurd (none-some m e)
by_text m owner (Some n) (Some d) e = ap (λ (k : Member). Some k.descriptor) (same_Some (member_of owner n d) m e)

by_pair : (pool : List (Option Item)) (m : Member) (owner : List ℕ) (o : Option (ℕ × ℕ))
    → option_and_then (λ (y : ℕ × ℕ). option_and_then (λ n. option_map (λ d. member_of owner n d) (utf8_at pool y.1)) (utf8_at pool y.0)) o ≡ Some m
    → option_and_then (λ (y : ℕ × ℕ). utf8_at pool y.1) o ≡ Some m.descriptor
by_pair pool m owner None e = absurd (none-some m e)
by_pair pool m owner (Some y) e = by_text m owner (utf8_at pool y.0) (utf8_at pool y.1) e

by_owner : (pool : List (Option Item)) (m : Member) (owner : Option (List ℕ)) (o : Option (ℕ × ℕ))
    → option_and_then (λ (c : List ℕ). option_and_then (λ (y : ℕ × ℕ). option_and_then (λ n. option_map (λ d. member_of c n d) (utf8_at pool y.1)) (utf8_at pool y.0)) o) owner ≡ Some m
    → option_and_then (λ (y : ℕ × ℕ). utf8_at pool y.1) o ≡ Some m.descriptor
by_owner pool m None o e = absurd (none-some m e)
by_owner pool m (Some c) o e = by_pair pool m c o e

by_entry : (pool : List (Option Item)) (m : Member) (o : Option (ℕ × ℕ)) → option_and_then (described pool) o ≡ Some m
    → option_and_then (λ (x : ℕ × ℕ). option_and_then (λ (y : ℕ × ℕ). utf8_at pool y.1) (name_and_type_at pool x.1)) o ≡ Some m.descriptor
by_entry pool m None e = absurd (none-some m e)
by_entry pool m (Some x) e = by_owner pool m (class_name_at pool x.0) (name_and_type_at pool x.1) e

-- WHERE IT IS THAT OF A FIELD

abbrev is_of_field : Option Member → Bool
is_of_field o = option_map_or (λ (m : Member). is_field_descriptor m.descriptor) o false

module _ (p : Linked) (class index : ℕ) (at : Site) (pool : at.pool ≡ pool_of_class p class) (same : index ≡ pool_index at) where
  asked : is_of_field (site_member at) ≡ is_field_referred p class index
  asked = ap (λ (s : List (Option Item)). is_of_field (member_described s (pool_index at))) pool ∙ ap (λ (i : ℕ). is_of_field (member_described (pool_of_class p class) i)) (sym same)

  pub is_field : is_field_referred p class index ≡ true → descriptor_in at.pool (pool_index at) ≡ field_type at
  is_field e = by (site_member at) refl (asked ∙ e)
    where
      by : (o : Option Member) → site_member at ≡ o → is_of_field o ≡ true → descriptor_in at.pool (pool_index at) ≡ described_by o
      by None s f = absurd (false≢true f)
      by (Some m) s f = by_entry at.pool m (member_at at.pool (pool_index at)) s ∙ sym (ap (λ (b : Bool). if b then Some m.descriptor else None) f)

  pub no_field : is_field_referred p class index ≡ false → None ≡ field_type at
  no_field e = by (site_member at) (asked ∙ e)
    where
      by : (o : Option Member) → is_of_field o ≡ false → None ≡ described_by o
      by None f = refl
      by (Some m) f = sym (ap (λ (b : Bool). if b then Some m.descriptor else None) f)
