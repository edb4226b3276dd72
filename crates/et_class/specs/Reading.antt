-- THE FIRST PASS: what stands at a place of the bytes and the place after it, or the place and the kind of the first
-- broken item there (JVMS 4.1, 4.5, 4.6, 4.7).
use Rattle.std.specs.Prelude.{◌≡◌, ℕ, zero, suc, List, [], ◌∷◌, length, Option, Result, Ok, Err, ok_or, nat_lt, ◌==◌, ◌||◌, if◌then◌else◌}
use Rattle.std.specs.Int.{Width, w16, w32}
use Rattle.et_base.specs.Numbers.{number_at, bytes_at}
use Rattle.et_base.specs.Steps.{◌>>=◌}
use Rattle.et_pool.specs.Broken as pool
use Rattle.et_pool.specs.Broken.{Broken}
use Rattle.et_pool.specs.Entries.{Item}
use Rattle.et_pool.specs.Pools.{IsPool, BreaksPool}
use Rattle.et_class.specs.declared.fault.TheConstants.{MAGIC, VERSION, POOL, TRAILING, SHORT}
use Rattle.et_class.specs.declared.fault.ClassFault.{ClassFault}
use Rattle.et_class.specs.declared.fault.ClassFault.TheVariants as fault
use Rattle.et_class.specs.Layout.{AttributeOf, MemberOf, ClassOf}

-- the fault that a call answered is this broken item; want of memory says nothing
abbrev pub IsClassFaultOf : ClassFault → (ℕ × ℕ → Type 0) → Type 0
IsClassFaultOf (fault.At kind place) P = P (place, kind)
IsClassFaultOf fault.NoMemory P = Unit {0}

-- what a call returned, seen by `view`, is what is read
abbrev pub GivesOrBreaks : {X Y : Type 0} → (X → Y) → Result X ClassFault → Result Y (ℕ × ℕ) → Type 0
GivesOrBreaks view (Ok x) read = read ≡ Ok (view x)
GivesOrBreaks view (Err e) read = IsClassFaultOf e (λ f. read ≡ Err f)

-- an item fits before the end of the bytes
abbrev pub number_read : Width → List ℕ → ℕ → Result (ℕ × ℕ) (ℕ × ℕ)
number_read w bytes at = ok_or (number_at w bytes at) (at, SHORT)

-- as many of one thing, one after the other
unfoldable pub many_at : {X : Type 0} → (ℕ → Result (X × ℕ) (ℕ × ℕ)) → ℕ → ℕ → Result (List X × ℕ) (ℕ × ℕ)
many_at one zero at = Ok ([], at)
many_at one (suc n) at = do
  x ← one at
  xs ← many_at one n x.1
  Ok (x.0 ∷ xs.0, xs.1)

-- a count, and as many of one thing
abbrev pub counted_at : {X : Type 0} → List ℕ → (ℕ → Result (X × ℕ) (ℕ × ℕ)) → ℕ → Result (List X × ℕ) (ℕ × ℕ)
counted_at bytes one at = do
  count ← number_read w16 bytes at
  many_at one count.0 count.1

-- an attribute: the index of its name, the length of its body, and the body, which is one item
unfoldable pub attribute_at : List ℕ → ℕ → Result (AttributeOf × ℕ) (ℕ × ℕ)
attribute_at bytes at = do
  name ← number_read w16 bytes at
  size ← number_read w32 bytes name.1
  body ← ok_or (bytes_at bytes size.0 size.1) (size.1, SHORT)
  Ok (record { name = name.0; body = body.0 }, body.1)

-- a field or a method
unfoldable pub member_read_at : List ℕ → ℕ → Result (MemberOf × ℕ) (ℕ × ℕ)
member_read_at bytes at = do
  flags ← number_read w16 bytes at
  name ← number_read w16 bytes flags.1
  descriptor ← number_read w16 bytes name.1
  attributes ← counted_at bytes (attribute_at bytes) descriptor.1
  Ok (record { flags = flags.0; name = name.0; descriptor = descriptor.0; attributes = attributes.0 }, attributes.1)

-- the versions: major_version is 45 to 52
abbrev pub versions_at : List ℕ → ℕ → Result (ℕ × ℕ) (ℕ × ℕ)
versions_at bytes at = do
  minor ← number_read w16 bytes at
  major ← number_read w16 bytes minor.1
  if nat_lt major.0 45 || nat_lt 52 major.0 then Err (minor.1, VERSION) else Ok (minor.0, major.0)

-- what stands before the pool: the magic number and the versions
unfoldable pub head_at : List ℕ → Result (ℕ × ℕ) (ℕ × ℕ)
head_at bytes = do
  magic ← number_read w32 bytes 0
  if magic.0 == 0xCAFEBABE then versions_at bytes magic.1 else Err (0, MAGIC)

-- the access flags, and the indices of this class, its superclass and its interfaces
pub record HeaderOf : Type 0 where
  pub flags : ℕ
  pub this : ℕ
  pub super : ℕ
  pub interfaces : List ℕ

unfoldable pub header_at : List ℕ → ℕ → Result (HeaderOf × ℕ) (ℕ × ℕ)
header_at bytes at = do
  flags ← number_read w16 bytes at
  this ← number_read w16 bytes flags.1
  super ← number_read w16 bytes this.1
  interfaces ← counted_at bytes (number_read w16 bytes) super.1
  Ok (record { flags = flags.0; this = this.0; super = super.0; interfaces = interfaces.0 }, interfaces.1)

-- the fields, the methods and the attributes, and no byte behind the last of them
pub record MembersOf : Type 0 where
  pub fields : List MemberOf
  pub methods : List MemberOf
  pub attributes : List AttributeOf

unfoldable pub members_at : List ℕ → ℕ → Result MembersOf (ℕ × ℕ)
members_at bytes at = do
  fields ← counted_at bytes (member_read_at bytes) at
  methods ← counted_at bytes (member_read_at bytes) fields.1
  attributes ← counted_at bytes (attribute_at bytes) methods.1
  if nat_lt attributes.1 (length bytes) then Err (attributes.1, TRAILING) else Ok (record { fields = fields.0; methods = methods.0; attributes = attributes.0 })

-- THE WHOLE FILE: the head, a pool at 8, the header behind it, and the members behind that

pub record IsRead (bytes : List ℕ) (c : ClassOf) : Type 0 where
  pub header : ℕ
  pub members : ℕ
  pub head_is : head_at bytes ≡ Ok (c.minor, c.major)
  pub pool_is : IsPool bytes 8 c.slots header
  pub header_is : header_at bytes header ≡ Ok (record { flags = c.flags; this = c.this; super = c.super; interfaces = c.interfaces }, members)
  pub members_are : members_at bytes members ≡ Ok (record { fields = c.fields; methods = c.methods; attributes = c.attributes })

-- a broken item of a pool, by its place and its kind
abbrev pub fault_of : Broken → ℕ × ℕ
fault_of (pool.Tag p) = (p, POOL)
fault_of (pool.Utf8 p) = (p, POOL)
fault_of (pool.Short p) = (p, SHORT)

-- the place and the kind of the first broken item: in the head, in the pool behind a whole head, in the header behind
-- a whole pool, or in the members behind a whole header
pub data BreaksRead (bytes : List ℕ) (f : ℕ × ℕ) : Type 0 where
  InHead : head_at bytes ≡ Err f → BreaksRead bytes f
  InPool : (versions : ℕ × ℕ) → head_at bytes ≡ Ok versions → (b : Broken) → BreaksPool bytes 8 b → f ≡ fault_of b → BreaksRead bytes f
  InHeader : (versions : ℕ × ℕ) → head_at bytes ≡ Ok versions → (slots : List (Option Item)) → (header : ℕ) → IsPool bytes 8 slots header → header_at bytes header ≡ Err f → BreaksRead bytes f
  InMembers : (versions : ℕ × ℕ) → head_at bytes ≡ Ok versions → (slots : List (Option Item)) → (header : ℕ) → IsPool bytes 8 slots header → (h : HeaderOf) → (members : ℕ) → header_at bytes header ≡ Ok (h, members) → members_at bytes members ≡ Err f → BreaksRead bytes f
