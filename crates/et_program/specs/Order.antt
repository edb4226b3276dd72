-- THE ORDER in which the elements of a table are looked for: by name, then by descriptor, and then by class.
use Rattle.std.specs.Prelude.{◌≡◌, ℕ, ◌<◌, ◌==◌, ◌&&◌, Bool, true, List, [], length, map, All}
use Rattle.std.specs.List.{slice_index_or, prefix_len, list_any}
use Rattle.std.specs.List.Sorted.{IsSortedBy}
use Rattle.std.specs.declared.cmp.Ordering.{Ordering}
use Rattle.std.specs.Ordering.{is_lt, ordering_then, nat_cmp}
use Rattle.std.specs.Cmp.Lexicographic.{slice_cmp}
use Rattle.std.specs.Str.{bytes_eq}
use Rattle.et_program.specs.declared.info.MethodInfo.{MethodInfo}
use Rattle.et_program.specs.declared.info.FieldInfo.{FieldInfo}
use Rattle.et_program.specs.declared.tables.order.Key.{Key}
use Rattle.et_program.specs.declared.tables.order.Table.{Table}
use Rattle.et_program.specs.declared.tables.order.Table.TheVariants.{Classes, Methods, Fields}
use Rattle.et_program.specs.Entries.{ClassEntry}

-- a name, a descriptor, and the number of a class
abbrev pub KeyOf : Type 0
KeyOf = List ℕ × List ℕ × ℕ

abbrev pub key_cmp : KeyOf → KeyOf → Ordering
key_cmp x y = ordering_then (ordering_then (slice_cmp nat_cmp x.0 y.0) (slice_cmp nat_cmp x.1 y.1)) (nat_cmp x.2 y.2)

abbrev pub is_key : KeyOf → KeyOf → Bool
is_key q x = (x.2 == q.2) && (bytes_eq x.0 q.0 && bytes_eq x.1 q.1)

-- WHAT THE ELEMENTS OF A TABLE ARE LOOKED FOR BY: a class by its name alone

abbrev pub class_key : ClassEntry → KeyOf
class_key c = (c.info.name, [], 0)

abbrev pub method_key : MethodInfo → KeyOf
method_key m = (m.name, m.descriptor, m.class)

abbrev pub field_key : FieldInfo → KeyOf
field_key f = (f.name, f.descriptor, f.class)

abbrev pub keys_of : Table → List KeyOf
keys_of (Classes classes) = map class_key classes.now
keys_of (Methods methods) = map method_key methods.now
keys_of (Fields fields) = map field_key fields.now

abbrev pub shown_key : Key → KeyOf
shown_key k = (k.name.now, k.descriptor.now, k.class)

abbrev pub key_at : List KeyOf → ℕ → KeyOf
key_at keys n = slice_index_or keys n ([], [], 0)

-- ENTRIES, each the class and the number of an element

-- by their keys, and of one key by their numbers
abbrev pub entry_cmp : List KeyOf → ℕ × ℕ → ℕ × ℕ → Ordering
entry_cmp keys e f = ordering_then (key_cmp (key_at keys e.1) (key_at keys f.1)) (nat_cmp e.1 f.1)

-- there is one of each element and of nothing else, and they are in order
pub record IsOrder (keys : List KeyOf) (entries : List (ℕ × ℕ)) : Type 0 where
  pub within : All (λ (e : ℕ × ℕ). (e.1 < length keys) × (e.0 ≡ (key_at keys e.1).2)) entries
  pub whole : (n : ℕ) → n < length keys → list_any (λ e. e.1 == n) entries ≡ true
  pub sorted : IsSortedBy (λ e f. is_lt (entry_cmp keys e f)) entries

abbrev pub is_before : List KeyOf → KeyOf → ℕ × ℕ → Bool
is_before keys q e = is_lt (key_cmp (key_at keys e.1) q)

-- how many stand before what is looked for
abbrev pub place_of : List KeyOf → List (ℕ × ℕ) → KeyOf → ℕ
place_of keys entries q = prefix_len (is_before keys q) entries
