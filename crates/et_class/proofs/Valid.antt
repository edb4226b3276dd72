-- What is read can be spelled.
use Rattle.std.proofs.Common.{◌≡◌, ℕ, zero, suc, ◌^◌, ◌<◌, List, ◌∷◌, length, Result, Ok, Err, refl, subst, arith}
use Rattle.std.specs.Prelude.{ok_or, All, slice_index_or}
use Rattle.std.specs.Int.{w16, w32}
use Rattle.et_base.specs.Numbers.{bytes_at, AreBytes}
use Rattle.et_base.proofs.Readings.{by_bind, ok_some}
use Rattle.et_base.proofs.Spelling.{run_reads}
use Rattle.et_class.specs.declared.fault.TheConstants.{SHORT}
use Rattle.et_class.specs.Layout.{AttributeOf, MemberOf}
use Rattle.et_class.specs.Reading.{number_read, many_at, counted_at, attribute_at, member_read_at, HeaderOf, header_at}
use Rattle.et_class.specs.Spelling.{IsAttribute, IsMember, IsCounted, IsIndex}
use Rattle.et_class.proofs.Spelt.{number_u2, number_u4}

abbrev Valid : {X : Type 0} → (X → Type 0) → Result (X × ℕ) (ℕ × ℕ) → Type 0
Valid V (Ok x) = V x.0
Valid V (Err f) = Unit {0}

at_place : {X : Type 0} (V : X → Type 0) (x : X) (xs : List X) → V x → All V xs → (k : ℕ) (d : X) → k < length (x ∷ xs) → V (slice_index_or (x ∷ xs) k d)
at_place V x xs h all zero d lt = h
at_place V x xs h all (suc k) d lt = all k d (omega arith)

module _ {X : Type 0} (one : ℕ → Result (X × ℕ) (ℕ × ℕ)) (V : X → Type 0) (valid : (at : ℕ) (x : X) (next : ℕ) → one at ≡ Ok (x, next) → V x) where
  record AreValid (n : ℕ) (xs : List X) : Type 0 where
    each : All V xs
    many : length xs ≡ n

  more : (n : ℕ) (x : X) (xs : List X) → V x → AreValid n xs → AreValid (suc n) (x ∷ xs)
  more n x xs h a = record { each = λ k d lt. at_place V x xs h a.each k d lt; many = omega (arith, a.many) }

  all_valid : (n at : ℕ) → Valid (AreValid n) (many_at one n at)
  unfolding many_at
  all_valid zero at = record { each = λ k d lt. absurd (omega arith); many = refl }
  all_valid (suc n) at =
      by_bind (Valid (AreValid (suc n))) (one at) _ (λ f h. tt) (λ x h.
      by_bind (Valid (AreValid (suc n))) (many_at one n x.1) _ (λ f i. tt) (λ xs i.
      more n x.0 xs.0 (valid at x.0 x.1 h) (subst (Valid (AreValid n)) i (all_valid n x.1))))

  counted_case : (bytes : List ℕ) (at : ℕ) → AreBytes bytes → Valid (IsCounted V) (counted_at bytes one at)
  counted_case bytes at fits =
      by_bind (Valid (IsCounted V)) (number_read w16 bytes at) _ (λ f h. tt) (λ count h. there count h (many_at one count.0 count.1) (all_valid count.0 count.1))
    where
      there : (count : ℕ × ℕ) → number_read w16 bytes at ≡ Ok count → (r : Result (List X × ℕ) (ℕ × ℕ)) → Valid (AreValid count.0) r → Valid (IsCounted V) r
      there count h (Err f) a = tt
      there count h (Ok x) a = record { few = omega (arith, a.many, (number_u2 bytes at count.0 count.1 fits h).fits); each = a.each }

  pub counted_valid : (bytes : List ℕ) (at : ℕ) (xs : List X) (next : ℕ) → AreBytes bytes → counted_at bytes one at ≡ Ok (xs, next) → IsCounted V xs
  counted_valid bytes at xs next fits h = subst (Valid (IsCounted V)) h (counted_case bytes at fits)

attribute_case : (bytes : List ℕ) (at : ℕ) → AreBytes bytes → Valid IsAttribute (attribute_at bytes at)
unfolding attribute_at
attribute_case bytes at fits =
    by_bind (Valid IsAttribute) (number_read w16 bytes at) _ (λ f h. tt) (λ name h.
    by_bind (Valid IsAttribute) (number_read w32 bytes name.1) _ (λ f i. tt) (λ size i.
    by_bind (Valid IsAttribute) (ok_or (bytes_at bytes size.0 size.1) (size.1, SHORT)) _ (λ f j. tt) (λ body j.
    record { name = (number_u2 bytes at name.0 name.1 fits h).fits; body = omega (arith, (number_u4 bytes name.1 size.0 size.1 fits i).fits, (run_reads bytes size.0 size.1 body.0 body.1 (ok_some _ _ _ j)).size_is) })))

pub attribute_valid : (bytes : List ℕ) → AreBytes bytes → (at : ℕ) (a : AttributeOf) (next : ℕ) → attribute_at bytes at ≡ Ok (a, next) → IsAttribute a
attribute_valid bytes fits at a next h = subst (Valid IsAttribute) h (attribute_case bytes at fits)

member_case : (bytes : List ℕ) (at : ℕ) → AreBytes bytes → Valid IsMember (member_read_at bytes at)
unfolding member_read_at
member_case bytes at fits =
    by_bind (Valid IsMember) (number_read w16 bytes at) _ (λ f h. tt) (λ flags h.
    by_bind (Valid IsMember) (number_read w16 bytes flags.1) _ (λ f i. tt) (λ name i.
    by_bind (Valid IsMember) (number_read w16 bytes name.1) _ (λ f j. tt) (λ descriptor j.
    by_bind (Valid IsMember) (counted_at bytes (attribute_at bytes) descriptor.1) _ (λ f k. tt) (λ attributes k.
    record {
      flags = (number_u2 bytes at flags.0 flags.1 fits h).fits;
      name = (number_u2 bytes flags.1 name.0 name.1 fits i).fits;
      descriptor = (number_u2 bytes name.1 descriptor.0 descriptor.1 fits j).fits;
      attributes = counted_valid (attribute_at bytes) IsAttribute (attribute_valid bytes fits) bytes descriptor.1 attributes.0 attributes.1 fits k;
    }))))

pub member_valid : (bytes : List ℕ) → AreBytes bytes → (at : ℕ) (m : MemberOf) (next : ℕ) → member_read_at bytes at ≡ Ok (m, next) → IsMember m
member_valid bytes fits at m next h = subst (Valid IsMember) h (member_case bytes at fits)

pub index_valid : (bytes : List ℕ) → AreBytes bytes → (at n next : ℕ) → number_read w16 bytes at ≡ Ok (n, next) → IsIndex n
index_valid bytes fits at n next h = record { fits = (number_u2 bytes at n next fits h).fits }

pub record IsHeader (h : HeaderOf) : Type 0 where
  pub flags : h.flags < 2 ^ 16
  pub this : h.this < 2 ^ 16
  pub super : h.super < 2 ^ 16
  pub interfaces : IsCounted IsIndex h.interfaces

header_case : (bytes : List ℕ) (at : ℕ) → AreBytes bytes → Valid IsHeader (header_at bytes at)
unfolding header_at
header_case bytes at fits =
    by_bind (Valid IsHeader) (number_read w16 bytes at) _ (λ f h. tt) (λ flags h.
    by_bind (Valid IsHeader) (number_read w16 bytes flags.1) _ (λ f i. tt) (λ this i.
    by_bind (Valid IsHeader) (number_read w16 bytes this.1) _ (λ f j. tt) (λ super j.
    by_bind (Valid IsHeader) (counted_at bytes (number_read w16 bytes) super.1) _ (λ f k. tt) (λ interfaces k.
    record {
      flags = (number_u2 bytes at flags.0 flags.1 fits h).fits;
      this = (number_u2 bytes flags.1 this.0 this.1 fits i).fits;
      super = (number_u2 bytes this.1 super.0 super.1 fits j).fits;
      interfaces = counted_valid (number_read w16 bytes) IsIndex (index_valid bytes fits) bytes super.1 interfaces.0 interfaces.1 fits k;
    }))))

pub header_valid : (bytes : List ℕ) (at : ℕ) (h : HeaderOf) (next : ℕ) → AreBytes bytes → header_at bytes at ≡ Ok (h, next) → IsHeader h
header_valid bytes at h next fits e = subst (Valid IsHeader) e (header_case bytes at fits)
