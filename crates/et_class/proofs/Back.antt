-- What is spelled is read.
use Rattle.std.proofs.Common.{◌≡◌, ℕ, suc, ◌+◌, ◌^◌, ◌<◌, ◌≤◌, Bool, cond, List, [], ◌∷◌, ◌++◌, length, Result, Ok, Err, refl, ap, arith}
use Rattle.std.specs.Prelude.{ok_or, All}
use Rattle.std.specs.List.{flat_map}
use Rattle.std.specs.Int.{w16, w32}
use Rattle.std.proofs.lemmas.Bool.{le-ltb}
use Rattle.et_base.specs.Numbers.{bytes_at}
use Rattle.et_base.proofs.Readings.{bind_ok, some_ok}
use Rattle.et_base.proofs.Spelling.{Reads, Reads-first, Reads-second, wide16, wide32, reads_number, reads_run, in_bytes}
use Rattle.et_class.specs.declared.fault.TheConstants.{SHORT, TRAILING}
use Rattle.et_class.specs.Layout.{AttributeOf, MemberOf, u2, u4, counted_bytes, attribute_bytes, member_bytes}
use Rattle.et_class.specs.Reading.{number_read, many_at, counted_at, attribute_at, member_read_at, head_at, HeaderOf, header_at, MembersOf, members_at}
use Rattle.et_class.specs.Spelling.{IsAttribute, IsMember, IsCounted, IsIndex}
use Rattle.et_class.proofs.Valid.{IsHeader}
use Rattle.et_class.proofs.Headed.{header_bytes}

pub read_u2 : (bytes : List ℕ) (at n next : ℕ) → n < 2 ^ 16 → Reads bytes at (u2 n) next → number_read w16 bytes at ≡ Ok (n, next)
read_u2 bytes at n next lt r = some_ok _ _ _ (reads_number w16 wide16 (omega arith) bytes at n next lt r)

pub read_u4 : (bytes : List ℕ) (at n next : ℕ) → n < 2 ^ 32 → Reads bytes at (u4 n) next → number_read w32 bytes at ≡ Ok (n, next)
read_u4 bytes at n next lt r = some_ok _ _ _ (reads_number w32 wide32 (omega arith) bytes at n next lt r)

module _ {X : Type 0} (one : ℕ → Result (X × ℕ) (ℕ × ℕ)) (spell : X → List ℕ) (V : X → Type 0) (bytes : List ℕ) (back : (at : ℕ) (x : X) (next : ℕ) → V x → Reads bytes at (spell x) next → one at ≡ Ok (x, next)) where
  many_back : (at : ℕ) (xs : List X) (next : ℕ) → All V xs → Reads bytes at (flat_map spell xs) next → many_at one (length xs) at ≡ Ok (xs, next)
  unfolding many_at
  many_back at [] next all r = let e : at ≡ next = omega (arith, r.next_is) in ap (λ (n : ℕ). Ok ([], n)) e
  many_back at (x ∷ xs) next all r =
      bind_ok (one at) _ (x, at + length (spell x)) _ (back at x (at + length (spell x)) (all 0 x (omega arith)) (Reads-first bytes at (spell x) (flat_map spell xs) next r))
      (bind_ok (many_at one (length xs) (at + length (spell x))) _ (xs, next) _ (many_back (at + length (spell x)) xs next (λ k d lt. all (suc k) d (omega arith)) (Reads-second bytes at (spell x) (flat_map spell xs) next r)) refl)

  pub counted_back : (at : ℕ) (xs : List X) (next : ℕ) → IsCounted V xs → Reads bytes at (counted_bytes spell xs) next → counted_at bytes one at ≡ Ok (xs, next)
  counted_back at xs next c r =
      bind_ok (number_read w16 bytes at) _ (length xs, at + 2) _ (read_u2 bytes at (length xs) (at + 2) c.few (Reads-first bytes at (u2 (length xs)) (flat_map spell xs) next r))
      (many_back (at + 2) xs next c.each (Reads-second bytes at (u2 (length xs)) (flat_map spell xs) next r))

pub attribute_back : (bytes : List ℕ) (at : ℕ) (a : AttributeOf) (next : ℕ) → IsAttribute a → Reads bytes at (attribute_bytes a) next → attribute_at bytes at ≡ Ok (a, next)
unfolding attribute_at
attribute_back bytes at a next v r =
    let size = Reads-second bytes at (u2 a.name) (u4 (length a.body) ++ a.body) next r in
    let head = Reads-first bytes (at + 2) (u4 (length a.body)) a.body next size in
    let run = reads_run bytes (length a.body) (at + 2 + 4) a.body next (in_bytes bytes (at + 2) (u4 (length a.body)) (at + 2 + 4) (omega arith) head) refl (Reads-second bytes (at + 2) (u4 (length a.body)) a.body next size) in
    bind_ok (number_read w16 bytes at) _ (a.name, at + 2) _ (read_u2 bytes at a.name (at + 2) v.name (Reads-first bytes at (u2 a.name) (u4 (length a.body) ++ a.body) next r))
    (bind_ok (number_read w32 bytes (at + 2)) _ (length a.body, at + 2 + 4) _ (read_u4 bytes (at + 2) (length a.body) (at + 2 + 4) v.body head)
    (bind_ok (ok_or (bytes_at bytes (length a.body) (at + 2 + 4)) (at + 2 + 4, SHORT)) _ (a.body, next) _ (some_ok _ _ _ run) refl))

pub member_back : (bytes : List ℕ) (at : ℕ) (m : MemberOf) (next : ℕ) → IsMember m → Reads bytes at (member_bytes m) next → member_read_at bytes at ≡ Ok (m, next)
unfolding member_read_at
member_back bytes at m next v r =
    let r1 = Reads-second bytes at (u2 m.flags) (u2 m.name ++ (u2 m.descriptor ++ counted_bytes attribute_bytes m.attributes)) next r in
    let r2 = Reads-second bytes (at + 2) (u2 m.name) (u2 m.descriptor ++ counted_bytes attribute_bytes m.attributes) next r1 in
    let r3 = Reads-second bytes (at + 2 + 2) (u2 m.descriptor) (counted_bytes attribute_bytes m.attributes) next r2 in
    bind_ok (number_read w16 bytes at) _ (m.flags, at + 2) _ (read_u2 bytes at m.flags (at + 2) v.flags (Reads-first bytes at (u2 m.flags) (u2 m.name ++ (u2 m.descriptor ++ counted_bytes attribute_bytes m.attributes)) next r))
    (bind_ok (number_read w16 bytes (at + 2)) _ (m.name, at + 2 + 2) _ (read_u2 bytes (at + 2) m.name (at + 2 + 2) v.name (Reads-first bytes (at + 2) (u2 m.name) (u2 m.descriptor ++ counted_bytes attribute_bytes m.attributes) next r1))
    (bind_ok (number_read w16 bytes (at + 2 + 2)) _ (m.descriptor, at + 2 + 2 + 2) _ (read_u2 bytes (at + 2 + 2) m.descriptor (at + 2 + 2 + 2) v.descriptor (Reads-first bytes (at + 2 + 2) (u2 m.descriptor) (counted_bytes attribute_bytes m.attributes) next r2))
    (bind_ok (counted_at bytes (attribute_at bytes) (at + 2 + 2 + 2)) _ (m.attributes, next) _ (counted_back (attribute_at bytes) attribute_bytes IsAttribute bytes (attribute_back bytes) (at + 2 + 2 + 2) m.attributes next v.attributes r3) refl)))

index_back : (bytes : List ℕ) (at n next : ℕ) → IsIndex n → Reads bytes at (u2 n) next → number_read w16 bytes at ≡ Ok (n, next)
index_back bytes at n next v r = read_u2 bytes at n next v.fits r

pub header_back : (bytes : List ℕ) (at : ℕ) (h : HeaderOf) (next : ℕ) → IsHeader h → Reads bytes at (header_bytes h) next → header_at bytes at ≡ Ok (h, next)
unfolding header_at
header_back bytes at h next v r =
    let r1 = Reads-second bytes at (u2 h.flags) (u2 h.this ++ (u2 h.super ++ counted_bytes u2 h.interfaces)) next r in
    let r2 = Reads-second bytes (at + 2) (u2 h.this) (u2 h.super ++ counted_bytes u2 h.interfaces) next r1 in
    let r3 = Reads-second bytes (at + 2 + 2) (u2 h.super) (counted_bytes u2 h.interfaces) next r2 in
    bind_ok (number_read w16 bytes at) _ (h.flags, at + 2) _ (read_u2 bytes at h.flags (at + 2) v.flags (Reads-first bytes at (u2 h.flags) (u2 h.this ++ (u2 h.super ++ counted_bytes u2 h.interfaces)) next r))
    (bind_ok (number_read w16 bytes (at + 2)) _ (h.this, at + 2 + 2) _ (read_u2 bytes (at + 2) h.this (at + 2 + 2) v.this (Reads-first bytes (at + 2) (u2 h.this) (u2 h.super ++ counted_bytes u2 h.interfaces) next r1))
    (bind_ok (number_read w16 bytes (at + 2 + 2)) _ (h.super, at + 2 + 2 + 2) _ (read_u2 bytes (at + 2 + 2) h.super (at + 2 + 2 + 2) v.super (Reads-first bytes (at + 2 + 2) (u2 h.super) (counted_bytes u2 h.interfaces) next r2))
    (bind_ok (counted_at bytes (number_read w16 bytes) (at + 2 + 2 + 2)) _ (h.interfaces, next) _ (counted_back (number_read w16 bytes) u2 IsIndex bytes (index_back bytes) (at + 2 + 2 + 2) h.interfaces next v.interfaces r3) refl)))

pub members_back : (bytes : List ℕ) (at : ℕ) (m : MembersOf) → IsCounted IsMember m.fields → IsCounted IsMember m.methods → IsCounted IsAttribute m.attributes
    → Reads bytes at (counted_bytes member_bytes m.fields ++ (counted_bytes member_bytes m.methods ++ counted_bytes attribute_bytes m.attributes)) (length bytes) → members_at bytes at ≡ Ok m
unfolding members_at
members_back bytes at m f g a r =
    let r1 = Reads-second bytes at (counted_bytes member_bytes m.fields) (counted_bytes member_bytes m.methods ++ counted_bytes attribute_bytes m.attributes) (length bytes) r in
    let r2 = Reads-second bytes (at + length (counted_bytes member_bytes m.fields)) (counted_bytes member_bytes m.methods) (counted_bytes attribute_bytes m.attributes) (length bytes) r1 in
    bind_ok (counted_at bytes (member_read_at bytes) at) _ (m.fields, at + length (counted_bytes member_bytes m.fields)) _ (counted_back (member_read_at bytes) member_bytes IsMember bytes (member_back bytes) at m.fields (at + length (counted_bytes member_bytes m.fields)) f (Reads-first bytes at (counted_bytes member_bytes m.fields) (counted_bytes member_bytes m.methods ++ counted_bytes attribute_bytes m.attributes) (length bytes) r))
    (bind_ok (counted_at bytes (member_read_at bytes) (at + length (counted_bytes member_bytes m.fields))) _ (m.methods, at + length (counted_bytes member_bytes m.fields) + length (counted_bytes member_bytes m.methods)) _ (counted_back (member_read_at bytes) member_bytes IsMember bytes (member_back bytes) (at + length (counted_bytes member_bytes m.fields)) m.methods (at + length (counted_bytes member_bytes m.fields) + length (counted_bytes member_bytes m.methods)) g (Reads-first bytes (at + length (counted_bytes member_bytes m.fields)) (counted_bytes member_bytes m.methods) (counted_bytes attribute_bytes m.attributes) (length bytes) r1))
    (bind_ok (counted_at bytes (attribute_at bytes) (at + length (counted_bytes member_bytes m.fields) + length (counted_bytes member_bytes m.methods))) _ (m.attributes, length bytes) _ (counted_back (attribute_at bytes) attribute_bytes IsAttribute bytes (attribute_back bytes) (at + length (counted_bytes member_bytes m.fields) + length (counted_bytes member_bytes m.methods)) m.attributes (length bytes) a r2)
    (ap (λ (t : Bool). cond {A = Result MembersOf (ℕ × ℕ)} t (Err (length bytes, TRAILING)) (Ok m)) (le-ltb (length bytes) (length bytes) (omega arith)))))

pub head_back : (bytes : List ℕ) (minor major : ℕ) → minor < 2 ^ 16 → 45 ≤ major → major ≤ 52 → Reads bytes 0 (u4 0xCAFEBABE ++ (u2 minor ++ u2 major)) 8 → head_at bytes ≡ Ok (minor, major)
unfolding head_at
head_back bytes minor major lt low high r =
    let r1 = Reads-second bytes 0 (u4 0xCAFEBABE) (u2 minor ++ u2 major) 8 r in
    bind_ok (number_read w32 bytes 0) _ (0xCAFEBABE, 4) _ (read_u4 bytes 0 0xCAFEBABE 4 (omega arith) (Reads-first bytes 0 (u4 0xCAFEBABE) (u2 minor ++ u2 major) 8 r))
    (bind_ok (number_read w16 bytes 4) _ (minor, 6) _ (read_u2 bytes 4 minor 6 lt (Reads-first bytes 4 (u2 minor) (u2 major) 8 r1))
    (bind_ok (number_read w16 bytes 6) _ (major, 8) _ (read_u2 bytes 6 major 8 (omega arith) (Reads-second bytes 4 (u2 minor) (u2 major) 8 r1))
    (rw (le-ltb major 45 low, le-ltb 52 major high) refl)))
