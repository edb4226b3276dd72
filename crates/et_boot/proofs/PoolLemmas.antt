-- The pool of each class is read: it is spelled there.
use Rattle.std.proofs.Common.{◌≡◌, ℕ, ◌<◌, ◌^◌, Bool, true, ◌||◌, inl, inr, List, [], ◌∷◌, length, refl, sym, subst, lit<, arith, append-nil}
use Rattle.std.specs.Prelude.{All}
use Rattle.std.specs.List.{list_all}
use Rattle.std.specs.Str.{bytes_eq}
use Rattle.std.proofs.lemmas.Bool.{and_parts, or_cases}
use Rattle.std.proofs.lemmas.List.Elements.{All-nil, All-cons, All-from_recursion}
use Rattle.std.proofs.lemmas.Slice.Eq.{bytes_eq-Decides}
use Rattle.et_pool.specs.Entries.{Item, slots_of}
use Rattle.et_pool.specs.Text.{is_modified}
use Rattle.et_pool.specs.Pools.{IsPool}
use Rattle.et_pool.specs.Spelling.{IsEntry, pool_bytes}
use Rattle.et_pool.proofs.Spelled.{spelled_pool}
use Rattle.et_boot.specs.Classes.{BootClassOf, boot_classes, thread, thread_pool}
use Rattle.et_boot.specs.Pools.{HasPool}

fits : All IsEntry thread_pool
unfolding is_modified
fits = All-from_recursion IsEntry thread_pool ((refl, lit< tt), ((refl, lit< tt), ((refl, lit< tt), ((refl, lit< tt), ((refl, lit< tt, lit< tt), ((refl, lit< tt, lit< tt), ((refl, lit< tt), ((refl, lit< tt), ((refl, lit< tt), ((refl, lit< tt), ((refl, lit< tt, lit< tt), ((refl, lit< tt, lit< tt), tt))))))))))))

pub read : (entries : List Item) → All IsEntry entries → length (slots_of entries) < 2 ^ 16 → IsPool (pool_bytes entries) 0 (slots_of entries) (length (pool_bytes entries))
read entries are few = spelled_pool _ _ _ _ (record {
  entries = entries;
  are_entries = are;
  few = few;
  slots_are = refl;
  stands = ([], sym (append-nil _));
  after_is = omega arith;
})

pub thread_is_read : IsPool thread.pool 0 (slots_of thread_pool) (length thread.pool)
thread_is_read = read thread_pool fits (lit< tt)

-- EACH CLASS has the pool without entries or that of Thread

abbrev is_one_of_two : BootClassOf → Bool
is_one_of_two c = bytes_eq c.pool (pool_bytes []) || bytes_eq c.pool thread.pool

each_is : list_all is_one_of_two boot_classes ≡ true
each_is = refl

of_bytes : (c : BootClassOf) (entries : List Item) → bytes_eq c.pool (pool_bytes entries) ≡ true → IsPool (pool_bytes entries) 0 (slots_of entries) (length (pool_bytes entries)) → HasPool c
of_bytes c entries e p =
    let same : pool_bytes entries ≡ c.pool = sym ((bytes_eq-Decides c.pool (pool_bytes entries)).0 e) in
    record { slots = slots_of entries; read = subst (λ (bytes : List ℕ). IsPool bytes 0 (slots_of entries) (length bytes)) same p }

of_class : (c : BootClassOf) → is_one_of_two c ≡ true → HasPool c
of_class c h = elim (or_cases (bytes_eq c.pool (pool_bytes [])) (bytes_eq c.pool thread.pool) h) [
  | inl e ↦ of_bytes c [] e (read [] (All-nil IsEntry) (lit< tt))
  | inr e ↦ of_bytes c thread_pool e thread_is_read
]

of_classes : (cs : List BootClassOf) → list_all is_one_of_two cs ≡ true → All HasPool cs
of_classes [] h = All-nil HasPool
of_classes (c ∷ cs) h =
    let parts = and_parts (is_one_of_two c) (list_all is_one_of_two cs) h in
    All-cons HasPool c cs (of_class c parts.0) (of_classes cs parts.1)

pub pools_are_read : All HasPool boot_classes
pools_are_read = of_classes boot_classes each_is
