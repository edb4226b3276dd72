-- What is read is spelled where it is read.
use Rattle.std.proofs.Common.{◌≡◌, ℕ, zero, suc, List, ◌∷◌, ◌++◌, length, Result, Ok, Err, refl, sym, subst, arith}
use Rattle.std.specs.Prelude.{ok_or}
use Rattle.std.specs.List.{flat_map}
use Rattle.std.specs.Int.{w16, w32}
use Rattle.et_base.specs.Numbers.{bytes_at, AreBytes}
use Rattle.et_base.proofs.Readings.{by_bind, ok_some}
use Rattle.et_base.proofs.Spelling.{Reads, Reads-nothing, Reads-then, wide16, wide32, IsNumber, number_reads, run_reads}
use Rattle.et_class.specs.declared.fault.TheConstants.{SHORT}
use Rattle.et_class.specs.Layout.{AttributeOf, MemberOf, u2, u4, counted_bytes, attribute_bytes, member_bytes}
use Rattle.et_class.specs.Reading.{number_read, many_at, counted_at, attribute_at, member_read_at}

pub number_u2 : (bytes : List ℕ) (at n next : ℕ) → AreBytes bytes → number_read w16 bytes at ≡ Ok (n, next) → IsNumber w16 bytes at n next
number_u2 bytes at n next fits h = number_reads w16 wide16 bytes at n next fits (ok_some _ _ _ h)

pub number_u4 : (bytes : List ℕ) (at n next : ℕ) → AreBytes bytes → number_read w32 bytes at ≡ Ok (n, next) → IsNumber w32 bytes at n next
number_u4 bytes at n next fits h = number_reads w32 wide32 bytes at n next fits (ok_some _ _ _ h)

-- what a reading gives stands at the place
abbrev pub StandsThere : {X : Type 0} → (X → List ℕ) → List ℕ → ℕ → Result (X × ℕ) (ℕ × ℕ) → Type 0
StandsThere spell bytes at (Ok x) = Reads bytes at (spell x.0) x.1
StandsThere spell bytes at (Err f) = Unit {0}

-- MANY OF ONE THING

module _ {X : Type 0} (one : ℕ → Result (X × ℕ) (ℕ × ℕ)) (spell : X → List ℕ) (bytes : List ℕ) (reads : (at : ℕ) (x : X) (next : ℕ) → one at ≡ Ok (x, next) → Reads bytes at (spell x) next) where
  pub record AreMany (n at : ℕ) (xs : List X) (next : ℕ) : Type 0 where
    pub stand : Reads bytes at (flat_map spell xs) next
    pub many : length xs ≡ n

  abbrev Many : ℕ → ℕ → Result (List X × ℕ) (ℕ × ℕ) → Type 0
  Many n at (Ok x) = AreMany n at x.0 x.1
  Many n at (Err f) = Unit {0}

  many_cons : (n at : ℕ) (x : X) (after : ℕ) (xs : List X) (next : ℕ) → Reads bytes at (spell x) after → Many n after (Ok (xs, next)) → Many (suc n) at (Ok (x ∷ xs, next))
  many_cons n at x after xs next r m = record { stand = Reads-then bytes at (spell x) after (flat_map spell xs) next r m.stand; many = omega (arith, m.many) }

  many_whole : (n at : ℕ) → Many n at (many_at one n at)
  unfolding many_at
  many_whole zero at = record { stand = Reads-nothing bytes at at refl; many = refl }
  many_whole (suc n) at =
      by_bind (Many (suc n) at) (one at) _ (λ f h. tt) (λ x h.
      by_bind (Many (suc n) at) (many_at one n x.1) _ (λ f i. tt) (λ xs i.
      many_cons n at x.0 x.1 xs.0 xs.1 (reads at x.0 x.1 h) (subst (Many n x.1) i (many_whole n x.1))))

  pub many_read : (n at : ℕ) (xs : List X) (next : ℕ) → many_at one n at ≡ Ok (xs, next) → AreMany n at xs next
  many_read n at xs next h = subst (Many n at) h (many_whole n at)

  counted_whole : (at : ℕ) → AreBytes bytes → StandsThere (counted_bytes spell) bytes at (counted_at bytes one at)
  counted_whole at fits =
      by_bind (StandsThere (counted_bytes spell) bytes at) (number_read w16 bytes at) _ (λ f h. tt) (λ count h. many_there count h (many_at one count.0 count.1) refl)
    where
      many_there : (count : ℕ × ℕ) → number_read w16 bytes at ≡ Ok count → (r : Result (List X × ℕ) (ℕ × ℕ)) → many_at one count.0 count.1 ≡ r → StandsThere (counted_bytes spell) bytes at r
      many_there count h (Err f) i = tt
      many_there count h (Ok x) i =
          let m = many_read count.0 count.1 x.0 x.1 i in
          let k = number_u2 bytes at count.0 count.1 fits h in
          Reads-then bytes at (u2 (length x.0)) count.1 (flat_map spell x.0) x.1 (subst (λ (n : ℕ). Reads bytes at (u2 n) count.1) (sym m.many) k.reads) m.stand

  pub counted_read : (at : ℕ) (xs : List X) (next : ℕ) → AreBytes bytes → counted_at bytes one at ≡ Ok (xs, next) → Reads bytes at (counted_bytes spell xs) next
  counted_read at xs next fits h = subst (StandsThere (counted_bytes spell) bytes at) h (counted_whole at fits)

-- ATTRIBUTES AND MEMBERS

attribute_whole : (bytes : List ℕ) (at : ℕ) → AreBytes bytes → StandsThere attribute_bytes bytes at (attribute_at bytes at)
unfolding attribute_at
attribute_whole bytes at fits =
    by_bind (StandsThere attribute_bytes bytes at) (number_read w16 bytes at) _ (λ f h. tt) (λ name h.
    by_bind (StandsThere attribute_bytes bytes at) (number_read w32 bytes name.1) _ (λ f i. tt) (λ size i.
    by_bind (StandsThere attribute_bytes bytes at) (ok_or (bytes_at bytes size.0 size.1) (size.1, SHORT)) _ (λ f j. tt) (λ body j.
    let n = number_u2 bytes at name.0 name.1 fits h in
    let s = number_u4 bytes name.1 size.0 size.1 fits i in
    let b = run_reads bytes size.0 size.1 body.0 body.1 (ok_some _ _ _ j) in
    Reads-then bytes at (u2 name.0) name.1 (u4 (length body.0) ++ body.0) body.1 n.reads
    (Reads-then bytes name.1 (u4 (length body.0)) size.1 body.0 body.1 (subst (λ (k : ℕ). Reads bytes name.1 (u4 k) size.1) (sym b.size_is) s.reads) b.reads))))

pub attribute_reads : (bytes : List ℕ) → AreBytes bytes → (at : ℕ) (a : AttributeOf) (next : ℕ) → attribute_at bytes at ≡ Ok (a, next) → Reads bytes at (attribute_bytes a) next
attribute_reads bytes fits at a next h = subst (StandsThere attribute_bytes bytes at) h (attribute_whole bytes at fits)

member_whole : (bytes : List ℕ) (at : ℕ) → AreBytes bytes → StandsThere member_bytes bytes at (member_read_at bytes at)
unfolding member_read_at
member_whole bytes at fits =
    by_bind (StandsThere member_bytes bytes at) (number_read w16 bytes at) _ (λ f h. tt) (λ flags h.
    by_bind (StandsThere member_bytes bytes at) (number_read w16 bytes flags.1) _ (λ f i. tt) (λ name i.
    by_bind (StandsThere member_bytes bytes at) (number_read w16 bytes name.1) _ (λ f j. tt) (λ descriptor j.
    by_bind (StandsThere member_bytes bytes at) (counted_at bytes (attribute_at bytes) descriptor.1) _ (λ f k. tt) (λ attributes k.
    let f = number_u2 bytes at flags.0 flags.1 fits h in
    let n = number_u2 bytes flags.1 name.0 name.1 fits i in
    let d = number_u2 bytes name.1 descriptor.0 descriptor.1 fits j in
    let a = counted_read (attribute_at bytes) attribute_bytes bytes (attribute_reads bytes fits) descriptor.1 attributes.0 attributes.1 fits k in
    Reads-then bytes at (u2 flags.0) flags.1 _ attributes.1 f.reads
    (Reads-then bytes flags.1 (u2 name.0) name.1 _ attributes.1 n.reads
    (Reads-then bytes name.1 (u2 descriptor.0) descriptor.1 (counted_bytes attribute_bytes attributes.0) attributes.1 d.reads a))))))

pub member_reads : (bytes : List ℕ) → AreBytes bytes → (at : ℕ) (m : MemberOf) (next : ℕ) → member_read_at bytes at ≡ Ok (m, next) → Reads bytes at (member_bytes m) next
member_reads bytes fits at m next h = subst (StandsThere member_bytes bytes at) h (member_whole bytes at fits)
