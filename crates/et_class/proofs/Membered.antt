-- Fields, methods and attributes, one list after the other.
use Rattle.std.proofs.Common.{◌≡◌, ℕ, ◌+◌, ◌≤◌, Bool, cond, List, [], ◌++◌, length, Option, Result, Ok, Err, sym, ap, ◌∙◌, arith}
use Rattle.std.specs.Int.{w16}
use Rattle.std.proofs.lemmas.Bool.{le-ltb}
use Rattle.et_base.specs.Numbers.{AreBytes}
use Rattle.et_base.specs.Marks.{first_from}
use Rattle.et_base.proofs.Readings.{bind_ok}
use Rattle.et_base.proofs.Firsts.{first_from-append}
use Rattle.et_pool.specs.Entries.{Item}
use Rattle.et_class.specs.declared.fault.TheConstants.{TRAILING}
use Rattle.et_class.specs.Layout.{AttributeOf, MemberOf, counted_bytes, attribute_bytes, member_bytes}
use Rattle.et_class.specs.Reading.{number_read, many_at, counted_at, attribute_at, member_read_at, MembersOf, members_at}
use Rattle.et_class.specs.Along.{along}
use Rattle.et_class.specs.Fields.{field_marks, attribute_marks}
use Rattle.et_class.specs.Methods.{method_marks}
use Rattle.et_class.specs.Rules.{members_marks}
use Rattle.et_class.proofs.Spelt.{number_u2, counted_read, attribute_reads, member_reads}

pub after_count : (bytes : List ℕ) (at n next : ℕ) → AreBytes bytes → number_read w16 bytes at ≡ Ok (n, next) → next ≡ at + 2
after_count bytes at n next fits h = omega (arith, (number_u2 bytes at n next fits h).reads.next_is)

pub after_members : (bytes : List ℕ) (at count start : ℕ) (ms : List MemberOf) (after : ℕ) → AreBytes bytes → number_read w16 bytes at ≡ Ok (count, start) → many_at (member_read_at bytes) count start ≡ Ok (ms, after) → after ≡ at + length (counted_bytes member_bytes ms)
after_members bytes at count start ms after fits h i =
    (counted_read (member_read_at bytes) member_bytes bytes (member_reads bytes fits) at ms after fits (bind_ok (number_read w16 bytes at) _ (count, start) _ h i)).next_is

pub after_attributes : (bytes : List ℕ) (at : ℕ) (xs : List AttributeOf) (after : ℕ) → AreBytes bytes → counted_at bytes (attribute_at bytes) at ≡ Ok (xs, after) → after ≡ at + length (counted_bytes attribute_bytes xs)
after_attributes bytes at xs after fits h = (counted_read (attribute_at bytes) attribute_bytes bytes (attribute_reads bytes fits) at xs after fits h).next_is

module _ (bytes : List ℕ) (at : ℕ) (fields methods : List MemberOf) (attributes : List AttributeOf) (m a : ℕ) (fc fs mc ms end : ℕ) where
  pub members_read : number_read w16 bytes at ≡ Ok (fc, fs) → many_at (member_read_at bytes) fc fs ≡ Ok (fields, m) → number_read w16 bytes m ≡ Ok (mc, ms) → many_at (member_read_at bytes) mc ms ≡ Ok (methods, a)
      → counted_at bytes (attribute_at bytes) a ≡ Ok (attributes, end) → length bytes ≤ end → members_at bytes at ≡ Ok (record { fields = fields; methods = methods; attributes = attributes })
  unfolding members_at
  members_read h1 h2 h3 h4 h5 le =
      bind_ok (counted_at bytes (member_read_at bytes) at) _ (fields, m) _ (bind_ok (number_read w16 bytes at) _ (fc, fs) _ h1 h2)
      (bind_ok (counted_at bytes (member_read_at bytes) m) _ (methods, a) _ (bind_ok (number_read w16 bytes m) _ (mc, ms) _ h3 h4)
      (bind_ok (counted_at bytes (attribute_at bytes) a) _ (attributes, end) _ h5
      (ap (λ (t : Bool). cond {A = Result MembersOf (ℕ × ℕ)} t (Err (end, TRAILING)) (Ok (record { fields = fields; methods = methods; attributes = attributes }))) (le-ltb end (length bytes) le))))

pub members_found : (slots : List (Option Item)) (interface : Bool) (first f1 f2 f3 : Option (ℕ × ℕ)) (at : ℕ) (fields methods : List MemberOf) (attributes : List AttributeOf) (p1 p2 p3 : ℕ)
    → p1 ≡ at + 2 → f1 ≡ first_from first (along member_bytes (field_marks slots interface) [] p1 fields)
    → p2 ≡ at + length (counted_bytes member_bytes fields) + 2 → f2 ≡ first_from f1 (along member_bytes (method_marks slots) [] p2 methods)
    → p3 ≡ at + length (counted_bytes member_bytes fields) + length (counted_bytes member_bytes methods) + 2 → f3 ≡ first_from f2 (along attribute_bytes (attribute_marks slots) [] p3 attributes)
    → f3 ≡ first_from first (members_marks slots interface at (record { fields = fields; methods = methods; attributes = attributes }))
members_found slots interface first f1 f2 f3 at fields methods attributes p1 p2 p3 e1 h1 e2 h2 e3 h3 =
    let a1 = h1 ∙ ap (λ (p : ℕ). first_from first (along member_bytes (field_marks slots interface) [] p fields)) e1 in
    let a2 = h2 ∙ (ap (λ (p : ℕ). first_from f1 (along member_bytes (method_marks slots) [] p methods)) e2 ∙ ap (λ f. first_from f (along member_bytes (method_marks slots) [] (at + length (counted_bytes member_bytes fields) + 2) methods)) a1) in
    h3 ∙ (ap (λ (p : ℕ). first_from f2 (along attribute_bytes (attribute_marks slots) [] p attributes)) e3
    ∙ (ap (λ f. first_from f (along attribute_bytes (attribute_marks slots) [] (at + length (counted_bytes member_bytes fields) + length (counted_bytes member_bytes methods) + 2) attributes)) a2
    ∙ (sym (first_from-append (first_from first (along member_bytes (field_marks slots interface) [] (at + 2) fields)) (along member_bytes (method_marks slots) [] (at + length (counted_bytes member_bytes fields) + 2) methods) (along attribute_bytes (attribute_marks slots) [] (at + length (counted_bytes member_bytes fields) + length (counted_bytes member_bytes methods) + 2) attributes))
    ∙ sym (first_from-append first (along member_bytes (field_marks slots interface) [] (at + 2) fields) (along member_bytes (method_marks slots) [] (at + length (counted_bytes member_bytes fields) + 2) methods ++ along attribute_bytes (attribute_marks slots) [] (at + length (counted_bytes member_bytes fields) + length (counted_bytes member_bytes methods) + 2) attributes)))))
