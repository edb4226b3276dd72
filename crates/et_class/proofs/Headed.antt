-- The header, and the rules of all parts of a class.
use Rattle.std.proofs.Common.{◌≡◌, ℕ, ◌+◌, List, [], ◌++◌, length, Option, Some, None, Ok, Err, refl, sym, ap, subst, ◌∙◌, arith}
use Rattle.std.specs.Int.{w16}
use Rattle.et_base.specs.Numbers.{AreBytes}
use Rattle.et_base.specs.Marks.{MarksAre, first_from}
use Rattle.et_base.proofs.Firsts.{first_from-append, found_is_first}
use Rattle.et_base.proofs.Readings.{by_bind}
use Rattle.et_base.proofs.Spelling.{Reads, Reads-then}
use Rattle.et_pool.specs.declared.fault.PoolFault.{PoolFault}
use Rattle.et_pool.specs.declared.fault.PoolFault.TheVariants as code
use Rattle.et_pool.specs.Entries.{Item}
use Rattle.et_pool.specs.Looks.{end_of}
use Rattle.et_pool.specs.Pools.{IsPool, BreaksPool}
use Rattle.et_pool.specs.Reading.{IsPoolFaultOf as IsPoolFault}
use Rattle.et_pool.proofs.Spelled.{pool_end}
use Rattle.et_class.specs.declared.fault.ClassFault.{ClassFault}
use Rattle.et_class.specs.declared.fault.ClassFault.TheVariants as fault
use Rattle.et_class.specs.declared.flags.TheConstants.{INTERFACE}
use Rattle.et_class.specs.Layout.{u2, counted_bytes, attribute_bytes, member_bytes}
use Rattle.et_class.specs.Reading.{IsClassFaultOf, number_read, counted_at, HeaderOf, MembersOf, head_at, header_at, members_at, IsRead, InPool, InHeader, InMembers}
use Rattle.et_class.specs.Along.{along}
use Rattle.et_class.specs.Names.{has}
use Rattle.et_class.specs.Fields.{field_marks, attribute_marks}
use Rattle.et_class.specs.Methods.{method_marks}
use Rattle.et_class.specs.Rules.{pool_marks, header_marks, members_marks, class_marks}
use Rattle.et_class.specs.Lifted.{lifted}
use Rattle.et_class.specs.Classes.{IsClassFile, ShowsFirstFault, InFirstPass, InSecondPass}
use Rattle.et_class.proofs.Spelt.{StandsThere, number_u2, counted_read}
use Rattle.et_class.proofs.OneClass.{built}
use Rattle.et_class.proofs.Kept.{front_none, back_none}

abbrev pub header_bytes : HeaderOf → List ℕ
header_bytes h = u2 h.flags ++ (u2 h.this ++ (u2 h.super ++ counted_bytes u2 h.interfaces))

index_reads : (bytes : List ℕ) → AreBytes bytes → (at n next : ℕ) → number_read w16 bytes at ≡ Ok (n, next) → Reads bytes at (u2 n) next
index_reads bytes fits at n next h = (number_u2 bytes at n next fits h).reads

header_whole : (bytes : List ℕ) (at : ℕ) → AreBytes bytes → StandsThere header_bytes bytes at (header_at bytes at)
unfolding header_at
header_whole bytes at fits =
    by_bind (StandsThere header_bytes bytes at) (number_read w16 bytes at) _ (λ f h. tt) (λ flags h.
    by_bind (StandsThere header_bytes bytes at) (number_read w16 bytes flags.1) _ (λ f i. tt) (λ this i.
    by_bind (StandsThere header_bytes bytes at) (number_read w16 bytes this.1) _ (λ f j. tt) (λ super j.
    by_bind (StandsThere header_bytes bytes at) (counted_at bytes (number_read w16 bytes) super.1) _ (λ f k. tt) (λ interfaces k.
    Reads-then bytes at (u2 flags.0) flags.1 _ interfaces.1 (index_reads bytes fits at flags.0 flags.1 h)
    (Reads-then bytes flags.1 (u2 this.0) this.1 _ interfaces.1 (index_reads bytes fits flags.1 this.0 this.1 i)
    (Reads-then bytes this.1 (u2 super.0) super.1 (counted_bytes u2 interfaces.0) interfaces.1 (index_reads bytes fits this.1 super.0 super.1 j)
    (counted_read (number_read w16 bytes) u2 bytes (index_reads bytes fits) super.1 interfaces.0 interfaces.1 fits k)))))))

pub header_reads : (bytes : List ℕ) (at : ℕ) (h : HeaderOf) (next : ℕ) → AreBytes bytes → header_at bytes at ≡ Ok (h, next) → Reads bytes at (header_bytes h) next
header_reads bytes at h next fits e = subst (StandsThere header_bytes bytes at) e (header_whole bytes at fits)

pub after_header : (bytes : List ℕ) (at : ℕ) (h : HeaderOf) (next : ℕ) → AreBytes bytes → header_at bytes at ≡ Ok (h, next) → next ≡ at + 6 + length (counted_bytes u2 h.interfaces)
after_header bytes at h next fits e =
    let r : Reads bytes at (header_bytes h) next = subst (StandsThere header_bytes bytes at) e (header_whole bytes at fits) in
    let size : length (header_bytes h) ≡ 6 + length (counted_bytes u2 h.interfaces) = omega arith in
    omega (arith, r.next_is, size)

-- FAULTS OF THE PARTS

pub pool_fault : (bytes : List ℕ) (v : ℕ × ℕ) → head_at bytes ≡ Ok v → (f : PoolFault) → IsPoolFault f (BreaksPool bytes 8) → IsClassFaultOf (lifted f) (ShowsFirstFault bytes)
pool_fault bytes v h (code.Tag p) b = InFirstPass (InPool v h _ b refl)
pool_fault bytes v h (code.Utf8 p) b = InFirstPass (InPool v h _ b refl)
pool_fault bytes v h (code.Index p) b = absurd b
pool_fault bytes v h (code.Short p) b = InFirstPass (InPool v h _ b refl)
pool_fault bytes v h code.NoMemory b = tt

pub header_fault : (bytes : List ℕ) (v : ℕ × ℕ) → head_at bytes ≡ Ok v → (slots : List (Option Item)) (header : ℕ) → IsPool bytes 8 slots header → (e : ClassFault) → IsClassFaultOf e (λ f. header_at bytes header ≡ Err f) → IsClassFaultOf e (ShowsFirstFault bytes)
header_fault bytes v h slots header p (fault.At kind place) i = InFirstPass (InHeader v h slots header p i)
header_fault bytes v h slots header p fault.NoMemory i = tt

pub members_fault : (bytes : List ℕ) (v : ℕ × ℕ) → head_at bytes ≡ Ok v → (slots : List (Option Item)) (header : ℕ) → IsPool bytes 8 slots header → (h : HeaderOf) (members : ℕ) → header_at bytes header ≡ Ok (h, members) → (e : ClassFault) → IsClassFaultOf e (λ f. members_at bytes members ≡ Err f) → IsClassFaultOf e (ShowsFirstFault bytes)
members_fault bytes v i slots header p h members j (fault.At kind place) k = InFirstPass (InMembers v i slots header p h members j k)
members_fault bytes v i slots header p h members j fault.NoMemory k = tt

-- ALL PARTS

module _ (bytes : List ℕ) (fits : AreBytes bytes) (v : ℕ × ℕ) (slots : List (Option Item)) (header : ℕ) (h : HeaderOf) (members : ℕ) (m : MembersOf)
    (head_is : head_at bytes ≡ Ok v) (pool_is : IsPool bytes 8 slots header) (header_is : header_at bytes header ≡ Ok (h, members)) (members_are : members_at bytes members ≡ Ok m) where
  pub is_read : IsRead bytes (built v slots h m)
  is_read = record { header = header; members = members; head_is = head_is; pool_is = pool_is; header_is = header_is; members_are = members_are }

  pub all_found : (f1 f2 f3 : Option (ℕ × ℕ)) → f1 ≡ first_from None (pool_marks slots) → f2 ≡ first_from f1 (header_marks slots header h) → f3 ≡ first_from f2 (members_marks slots (has h.flags INTERFACE) members m)
      → f3 ≡ first_from None (class_marks (built v slots h m))
  all_found f1 f2 f3 e1 e2 e3 =
      let at = pool_end bytes 8 slots header fits pool_is in
      let next : members ≡ end_of 8 slots + 6 + length (counted_bytes u2 h.interfaces) = omega (arith, after_header bytes header h members fits header_is, at) in
      e3 ∙ (ap (λ (p : ℕ). first_from f2 (members_marks slots (has h.flags INTERFACE) p m)) next
      ∙ (ap (λ f. first_from f (members_marks slots (has h.flags INTERFACE) (end_of 8 slots + 6 + length (counted_bytes u2 h.interfaces)) m)) (e2 ∙ (ap (λ (p : ℕ). first_from f1 (header_marks slots p h)) at ∙ ap (λ f. first_from f (header_marks slots (end_of 8 slots) h)) e1))
      ∙ (sym (first_from-append (first_from None (pool_marks slots)) (header_marks slots (end_of 8 slots) h) (members_marks slots (has h.flags INTERFACE) (end_of 8 slots + 6 + length (counted_bytes u2 h.interfaces)) m))
      ∙ sym (first_from-append None (pool_marks slots) (header_marks slots (end_of 8 slots) h ++ members_marks slots (has h.flags INTERFACE) (end_of 8 slots + 6 + length (counted_bytes u2 h.interfaces)) m)))))

  pub is_class : first_from None (class_marks (built v slots h m)) ≡ None → IsClassFile bytes (built v slots h m)
  is_class e = record { read = is_read; rules = subst (MarksAre (class_marks (built v slots h m))) e (found_is_first (class_marks (built v slots h m))) }

  pub has_fault : (f : ℕ × ℕ) → first_from None (class_marks (built v slots h m)) ≡ Some f → ShowsFirstFault bytes f
  has_fault f e = InSecondPass (built v slots h m) is_read (subst (MarksAre (class_marks (built v slots h m))) e (found_is_first (class_marks (built v slots h m))))

  pub methods_none : first_from None (class_marks (built v slots h m)) ≡ None → first_from None (along member_bytes (method_marks slots) [] (end_of 8 slots + 6 + length (counted_bytes u2 h.interfaces) + length (counted_bytes member_bytes m.fields) + 2) m.methods) ≡ None
  methods_none e =
      front_none (along member_bytes (method_marks slots) [] (end_of 8 slots + 6 + length (counted_bytes u2 h.interfaces) + length (counted_bytes member_bytes m.fields) + 2) m.methods) (along attribute_bytes (attribute_marks slots) [] (end_of 8 slots + 6 + length (counted_bytes u2 h.interfaces) + length (counted_bytes member_bytes m.fields) + length (counted_bytes member_bytes m.methods) + 2) m.attributes)
      (back_none (along member_bytes (field_marks slots (has h.flags INTERFACE)) [] (end_of 8 slots + 6 + length (counted_bytes u2 h.interfaces) + 2) m.fields) _
      (back_none (header_marks slots (end_of 8 slots) h) (members_marks slots (has h.flags INTERFACE) (end_of 8 slots + 6 + length (counted_bytes u2 h.interfaces)) m)
      (back_none (pool_marks slots) (header_marks slots (end_of 8 slots) h ++ members_marks slots (has h.flags INTERFACE) (end_of 8 slots + 6 + length (counted_bytes u2 h.interfaces)) m) e)))
