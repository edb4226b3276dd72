-- A class is read exactly where it is spelled.
use Rattle.std.proofs.Common.{◌≡◌, ℕ, ◌+◌, ◌^◌, ◌<◌, ◌≤◌, true, ltb, eqb, ◌||◌, List, [], ◌∷◌, ◌++◌, length, Option, Result, Ok, Err, refl, sym, ap, subst, ◌∙◌, arith, length-append}
use Rattle.std.specs.List.{flat_map}
use Rattle.std.specs.Int.{w16, w32}
use Rattle.std.proofs.lemmas.Bool.{eqb-true, ltb-false, or_parts}
use Rattle.std.proofs.lemmas.List.{append-nil}
use Rattle.std.proofs.lemmas.List.Concat.{flat_map-append}
use Rattle.et_base.specs.Numbers.{AreBytes}
use Rattle.et_base.proofs.Readings.{by_bind, by_if}
use Rattle.et_base.proofs.Spelling.{Reads, Reads-then, Reads-first, Reads-second, in_bytes}
use Rattle.et_base.proofs.Lists.{none_long}
use Rattle.et_pool.specs.Entries.{Item, Text, Word, Wide, Name, Pair, Handle, slots_of, slots_of_item, item_bytes}
use Rattle.et_pool.specs.Looks.{slot_bytes}
use Rattle.et_pool.specs.Spelling.{pool_bytes}
use Rattle.et_pool.proofs.Spelled.{pool_spelled, spelled_pool}
use Rattle.et_class.specs.declared.fault.TheConstants.{MAGIC, VERSION, TRAILING}
use Rattle.et_class.specs.Layout.{ClassOf, u2, u4, counted_bytes, attribute_bytes, member_bytes, tail_bytes, class_bytes}
use Rattle.et_class.specs.Reading.{number_read, counted_at, attribute_at, member_read_at, versions_at, head_at, MembersOf, members_at, IsRead}
use Rattle.et_class.specs.Rules.{header_of, members_of}
use Rattle.et_class.specs.Spelling.{IsAttribute, IsMember, IsCounted, IsClassSpelled}
use Rattle.et_class.proofs.Spelt.{number_u2, number_u4, counted_read, attribute_reads, member_reads}
use Rattle.et_class.proofs.Headed.{header_bytes, header_reads}
use Rattle.et_class.proofs.Valid.{counted_valid, attribute_valid, member_valid, IsHeader, header_valid}
use Rattle.et_class.proofs.Back.{header_back, members_back, head_back}

-- THE HEAD

abbrev pub head_bytes : ℕ × ℕ → List ℕ
head_bytes v = u4 0xCAFEBABE ++ (u2 v.0 ++ u2 v.1)

record IsHead (bytes : List ℕ) (v : ℕ × ℕ) : Type 0 where
  reads : Reads bytes 0 (head_bytes v) 8
  minor : v.0 < 2 ^ 16
  lowest : 45 ≤ v.1
  highest : v.1 ≤ 52

abbrev Head : List ℕ → Result (ℕ × ℕ) (ℕ × ℕ) → Type 0
Head bytes (Ok v) = IsHead bytes v
Head bytes (Err f) = Unit {0}

versions_read : (bytes : List ℕ) → AreBytes bytes → (magic : ℕ × ℕ) → number_read w32 bytes 0 ≡ Ok magic → eqb magic.0 0xCAFEBABE ≡ true → Head bytes (versions_at bytes magic.1)
versions_read bytes fits magic h e =
    by_bind (Head bytes) (number_read w16 bytes magic.1) _ (λ f i. tt) (λ minor i.
    by_bind (Head bytes) (number_read w16 bytes minor.1) _ (λ f j. tt) (λ major j.
    by_if (Head bytes) (ltb major.0 45 || ltb 52 major.0) (Err (minor.1, VERSION)) (Ok (minor.0, major.0)) (λ t. tt) (λ t.
    let n = or_parts (ltb major.0 45) (ltb 52 major.0) t in
    let m = number_u4 bytes 0 magic.0 magic.1 fits h in
    let a = number_u2 bytes magic.1 minor.0 minor.1 fits i in
    let b = number_u2 bytes minor.1 major.0 major.1 fits j in
    let is : magic.0 ≡ 0xCAFEBABE = eqb-true _ _ e in
    let first : Reads bytes 0 (u4 0xCAFEBABE) magic.1 = subst (λ (k : ℕ). Reads bytes 0 (u4 k) magic.1) is m.reads in
    let all = Reads-then bytes 0 (u4 0xCAFEBABE) magic.1 _ major.1 first (Reads-then bytes magic.1 (u2 minor.0) minor.1 (u2 major.0) major.1 a.reads b.reads) in
    let end : major.1 ≡ 8 = omega (arith, all.next_is) in
    record { reads = subst (λ (k : ℕ). Reads bytes 0 (head_bytes (minor.0, major.0)) k) end all; minor = a.fits; lowest = ltb-false _ _ n.0; highest = ltb-false _ _ n.1 })))

head_case : (bytes : List ℕ) → AreBytes bytes → Head bytes (head_at bytes)
unfolding head_at
head_case bytes fits =
    by_bind (Head bytes) (number_read w32 bytes 0) _ (λ f h. tt) (λ magic h.
    by_if (Head bytes) (eqb magic.0 0xCAFEBABE) (versions_at bytes magic.1) (Err (0, MAGIC)) (versions_read bytes fits magic h) (λ t. tt))

head_read : (bytes : List ℕ) (v : ℕ × ℕ) → AreBytes bytes → head_at bytes ≡ Ok v → IsHead bytes v
head_read bytes v fits h = subst (Head bytes) h (head_case bytes fits)

-- THE POOL

one_slot : (e : Item) → flat_map slot_bytes (slots_of_item e) ≡ item_bytes e
one_slot (Text bytes) = append-nil (item_bytes (Text bytes))
one_slot (Word tag bits) = append-nil (item_bytes (Word tag bits))
one_slot (Wide tag bits) = append-nil (item_bytes (Wide tag bits))
one_slot (Name tag index) = append-nil (item_bytes (Name tag index))
one_slot (Pair tag first second) = append-nil (item_bytes (Pair tag first second))
one_slot (Handle kind index) = append-nil (item_bytes (Handle kind index))

slots_bytes : (es : List Item) → flat_map slot_bytes (flat_map slots_of_item es) ≡ flat_map item_bytes es
slots_bytes [] = refl
slots_bytes (e ∷ es) = flat_map-append slot_bytes (slots_of_item e) (flat_map slots_of_item es) ∙ (ap (λ (xs : List ℕ). xs ++ flat_map slot_bytes (flat_map slots_of_item es)) (one_slot e) ∙ ap (λ (xs : List ℕ). item_bytes e ++ xs) (slots_bytes es))

pool_same : (slots : List (Option Item)) (es : List Item) → slots ≡ slots_of es → pool_bytes es ≡ counted_bytes slot_bytes slots
pool_same slots es e = ap (λ (xs : List ℕ). u2 (length (slots_of es)) ++ xs) (sym (slots_bytes es)) ∙ ap (λ (s : List (Option Item)). counted_bytes slot_bytes s) (sym e)

-- THE MEMBERS

abbrev members_bytes : MembersOf → List ℕ
members_bytes m = counted_bytes member_bytes m.fields ++ (counted_bytes member_bytes m.methods ++ counted_bytes attribute_bytes m.attributes)

record AreMembers (bytes : List ℕ) (at : ℕ) (m : MembersOf) : Type 0 where
  reads : Reads bytes at (members_bytes m) (length bytes)
  fields : IsCounted IsMember m.fields
  methods : IsCounted IsMember m.methods
  attributes : IsCounted IsAttribute m.attributes

abbrev Members : List ℕ → ℕ → Result MembersOf (ℕ × ℕ) → Type 0
Members bytes at (Ok m) = AreMembers bytes at m
Members bytes at (Err f) = Unit {0}

members_case : (bytes : List ℕ) (at : ℕ) → AreBytes bytes → Members bytes at (members_at bytes at)
unfolding members_at
members_case bytes at fits =
    by_bind (Members bytes at) (counted_at bytes (member_read_at bytes) at) _ (λ f h. tt) (λ fields h.
    by_bind (Members bytes at) (counted_at bytes (member_read_at bytes) fields.1) _ (λ f i. tt) (λ methods i.
    by_bind (Members bytes at) (counted_at bytes (attribute_at bytes) methods.1) _ (λ f j. tt) (λ attributes j.
    by_if (Members bytes at) (ltb attributes.1 (length bytes)) (Err (attributes.1, TRAILING)) (Ok (record { fields = fields.0; methods = methods.0; attributes = attributes.0 })) (λ t. tt) (λ t.
    let a = counted_read (member_read_at bytes) member_bytes bytes (member_reads bytes fits) at fields.0 fields.1 fits h in
    let b = counted_read (member_read_at bytes) member_bytes bytes (member_reads bytes fits) fields.1 methods.0 methods.1 fits i in
    let c = counted_read (attribute_at bytes) attribute_bytes bytes (attribute_reads bytes fits) methods.1 attributes.0 attributes.1 fits j in
    let all = Reads-then bytes at (counted_bytes member_bytes fields.0) fields.1 _ attributes.1 a (Reads-then bytes fields.1 (counted_bytes member_bytes methods.0) methods.1 (counted_bytes attribute_bytes attributes.0) attributes.1 b c) in
    let end : attributes.1 ≡ length bytes = omega (arith, ltb-false _ _ t, in_bytes bytes methods.1 (counted_bytes attribute_bytes attributes.0) attributes.1 (omega arith) c) in
    record {
      reads = subst (λ (k : ℕ). Reads bytes at (members_bytes (record { fields = fields.0; methods = methods.0; attributes = attributes.0 })) k) end all;
      fields = counted_valid (member_read_at bytes) IsMember (member_valid bytes fits) bytes at fields.0 fields.1 fits h;
      methods = counted_valid (member_read_at bytes) IsMember (member_valid bytes fits) bytes fields.1 methods.0 methods.1 fits i;
      attributes = counted_valid (attribute_at bytes) IsAttribute (attribute_valid bytes fits) bytes methods.1 attributes.0 attributes.1 fits j;
    }))))

members_read : (bytes : List ℕ) (at : ℕ) (m : MembersOf) → AreBytes bytes → members_at bytes at ≡ Ok m → AreMembers bytes at m
members_read bytes at m fits h = subst (Members bytes at) h (members_case bytes at fits)

-- THE WHOLE

whole : (bytes xs : List ℕ) → Reads bytes 0 xs (length bytes) → bytes ≡ xs
whole bytes xs r =
    let none : r.stands.0 ≡ [] = none_long r.stands.0 (omega (arith, ap length r.stands.1, r.next_is, length-append xs r.stands.0)) in
    r.stands.1 ∙ (ap (λ (ys : List ℕ). xs ++ ys) none ∙ append-nil xs)

all_there : (bytes xs : List ℕ) → bytes ≡ xs → Reads bytes 0 xs (length bytes)
all_there bytes xs e = record { stands = ([], e ∙ sym (append-nil xs)); next_is = omega (arith, ap length e) }

pub class_spelled : (bytes : List ℕ) (c : ClassOf) → AreBytes bytes → IsRead bytes c → IsClassSpelled bytes c
class_spelled bytes c fits r =
    let h = head_read bytes (c.minor, c.major) fits r.head_is in
    let p = pool_spelled bytes 8 c.slots r.header fits r.pool_is in
    let pool : Reads bytes 8 (counted_bytes slot_bytes c.slots) r.header = subst (λ (xs : List ℕ). Reads bytes 8 xs r.header) (pool_same c.slots p.entries p.slots_are) (record { stands = p.stands; next_is = p.after_is }) in
    let header = header_reads bytes r.header (header_of c) r.members fits r.header_is in
    let v = header_valid bytes r.header (header_of c) r.members fits r.header_is in
    let m = members_read bytes r.members (members_of c) fits r.members_are in
    record {
      can_be = record {
        minor = h.minor;
        lowest = h.lowest;
        highest = h.highest;
        slots = record { entries = p.entries; are_entries = p.are_entries; few = omega (arith, p.few, ap (λ (s : List (Option Item)). length s) p.slots_are); slots_are = p.slots_are };
        flags = v.flags;
        this = v.this;
        super = v.super;
        interfaces = v.interfaces;
        fields = m.fields;
        methods = m.methods;
        attributes = m.attributes;
      };
      bytes_are = whole bytes (class_bytes c)
          (Reads-then bytes 0 (head_bytes (c.minor, c.major)) 8 (counted_bytes slot_bytes c.slots ++ tail_bytes c) (length bytes) h.reads
          (Reads-then bytes 8 (counted_bytes slot_bytes c.slots) r.header (tail_bytes c) (length bytes) pool
          (Reads-then bytes r.header (header_bytes (header_of c)) r.members (members_bytes (members_of c)) (length bytes) header m.reads)));
    }

-- the entries of the pool stand behind the head
pub pool_reads : (bytes : List ℕ) (c : ClassOf) → bytes ≡ class_bytes c → (es : List Item) → c.slots ≡ slots_of es → Reads bytes 8 (pool_bytes es) (8 + length (counted_bytes slot_bytes c.slots))
pool_reads bytes c is es slots_are =
    let rest = Reads-second bytes 0 (head_bytes (c.minor, c.major)) (counted_bytes slot_bytes c.slots ++ tail_bytes c) (length bytes) (all_there bytes (class_bytes c) is) in
    subst (λ (xs : List ℕ). Reads bytes 8 xs (8 + length (counted_bytes slot_bytes c.slots))) (sym (pool_same c.slots es slots_are)) (Reads-first bytes 8 (counted_bytes slot_bytes c.slots) (tail_bytes c) (length bytes) rest)

pub spelled_class : (bytes : List ℕ) (c : ClassOf) → IsClassSpelled bytes c → IsRead bytes c
spelled_class bytes c s =
    let v = s.can_be in
    let all = all_there bytes (class_bytes c) s.bytes_are in
    let rest = Reads-second bytes 0 (head_bytes (c.minor, c.major)) (counted_bytes slot_bytes c.slots ++ tail_bytes c) (length bytes) all in
    let pool = pool_reads bytes c s.bytes_are v.slots.entries v.slots.slots_are in
    let tail = Reads-second bytes 8 (counted_bytes slot_bytes c.slots) (tail_bytes c) (length bytes) rest in
    let members = Reads-second bytes (8 + length (counted_bytes slot_bytes c.slots)) (header_bytes (header_of c)) (members_bytes (members_of c)) (length bytes) tail in
    let valid : IsHeader (header_of c) = record { flags = v.flags; this = v.this; super = v.super; interfaces = v.interfaces } in
    record {
      header = 8 + length (counted_bytes slot_bytes c.slots);
      members = 8 + length (counted_bytes slot_bytes c.slots) + length (header_bytes (header_of c));
      head_is = head_back bytes c.minor c.major v.minor v.lowest v.highest (Reads-first bytes 0 (head_bytes (c.minor, c.major)) (counted_bytes slot_bytes c.slots ++ tail_bytes c) (length bytes) all);
      pool_is = spelled_pool bytes 8 c.slots (8 + length (counted_bytes slot_bytes c.slots)) (record {
        entries = v.slots.entries;
        are_entries = v.slots.are_entries;
        few = omega (arith, v.slots.few, ap (λ (s : List (Option Item)). length s) v.slots.slots_are);
        slots_are = v.slots.slots_are;
        stands = pool.stands;
        after_is = pool.next_is;
      });
      header_is = header_back bytes (8 + length (counted_bytes slot_bytes c.slots)) (header_of c) (8 + length (counted_bytes slot_bytes c.slots) + length (header_bytes (header_of c))) valid (Reads-first bytes (8 + length (counted_bytes slot_bytes c.slots)) (header_bytes (header_of c)) (members_bytes (members_of c)) (length bytes) tail);
      members_are = members_back bytes (8 + length (counted_bytes slot_bytes c.slots) + length (header_bytes (header_of c))) (members_of c) v.fields v.methods v.attributes members;
    }
