-- A method is found among those of a name and a descriptor, by the places that are kept.
use Rattle.std.proofs.Common.{◌≡◌, ◌∙◌, ℕ, ◌<◌, ◌≤◌, List, length, map, Option, All, ap, arith}
use Rattle.std.specs.List.{slice_index_or, position_from}
use Rattle.std.proofs.lemmas.List.{get_or-map}
use Rattle.std.proofs.lemmas.List.Elements.{All-map}
use Rattle.et_program.specs.declared.info.MethodInfo.{MethodInfo}
use Rattle.et_program.specs.declared.signatures.Signature.{Signature}
use Rattle.et_program.specs.Entries.{ClassEntry, no_method}
use Rattle.et_program.specs.Members.{is_method}
use Rattle.et_program.specs.Order.{KeyOf, is_key, method_key, IsOrder, place_of}
use Rattle.et_program.specs.Signatures.{signature_of}
use Rattle.et_program.proofs.OrderLemmas.{starts, ends, method_by_key}

module _ (classes : List ClassEntry) (methods : List MethodInfo) (entries : List (ℕ × ℕ)) (signatures : List Signature) (order : IsOrder (map method_key methods) entries) (within : All (λ (m : MethodInfo). m.class < length classes) methods)
    (signed : signatures ≡ map (signature_of (map method_key methods) entries classes) methods) (m : ℕ) (s : Signature) (lt : m < length methods) (is : s ≡ slice_index_or signatures m s) where
  abbrev like : MethodInfo
  like = slice_index_or methods m no_method

  kept : s ≡ signature_of (map method_key methods) entries classes like
  kept = is ∙ (ap (λ (ss : List Signature). slice_index_or ss m s) signed ∙ get_or-map (signature_of (map method_key methods) entries classes) methods m no_method s lt)

  few : All (λ (k : KeyOf). k.2 < length classes) (map method_key methods)
  few = All-map (λ (k : KeyOf). k.2 < length classes) method_key methods within

  pub start_le_end : s.start ≤ s.end
  start_le_end =
      let a : s.start ≡ place_of (map method_key methods) entries (like.name, like.descriptor, 0) = ap (λ (t : Signature). t.start) kept in
      let b : s.end ≡ place_of (map method_key methods) entries (like.name, like.descriptor, length classes) = ap (λ (t : Signature). t.end) kept in
      omega (arith, a, b, starts (map method_key methods) entries order like.name like.descriptor (length classes) few)

  pub end_within : s.end ≤ length entries
  end_within =
      let b : s.end ≡ place_of (map method_key methods) entries (like.name, like.descriptor, length classes) = ap (λ (t : Signature). t.end) kept in
      omega (arith, b, ends (map method_key methods) entries order like.name like.descriptor (length classes) few)

  pub found_like : (c : ℕ) (r : Option ℕ)
      → ((keys : List KeyOf) (name descriptor : List ℕ) (count : ℕ) → IsOrder keys entries → All (λ (k : KeyOf). k.2 < count) keys → s.start ≡ place_of keys entries (name, descriptor, 0) → s.end ≡ place_of keys entries (name, descriptor, count) → r ≡ position_from (is_key (name, descriptor, c)) 0 keys)
      → r ≡ position_from (is_method like.name like.descriptor c) 0 methods
  found_like c r finds =
      finds (map method_key methods) like.name like.descriptor (length classes) order few (ap (λ (t : Signature). t.start) kept) (ap (λ (t : Signature). t.end) kept)
      ∙ method_by_key like.name like.descriptor c methods
