-- Rearrangements of operands, and stores of one entry.
use Rattle.std.proofs.Common.{◌≡◌, ℕ, zero, suc, ◌+◌, ◌<◌, ◌≤◌, ◌==◌, ◌&&◌, ltb, Bool, true, false, List, [], ◌∷◌, ◌++◌, length, get_or, set, get_or-set_same, get_or-set_other, drop, Option, Some, None, refl, sym, ◌∙◌, ap, subst, inl, inr, arith, Contains}
use Rattle.std.specs.Int.{w32}
use Rattle.et_base.specs.Integers.{add}
use Rattle.std.specs.Prelude.{ℤ, map, sum, if◌then◌else◌}
use Rattle.std.proofs.lemmas.Bool.{ltb-true, lt-ltb, cases_eq, cases_lt}
use Rattle.std.proofs.lemmas.List.{map-append, drop-map, length-set, get_or_past}
use Rattle.et_base.specs.declared.value.Value.{Value}
use Rattle.et_base.specs.declared.value.Value.TheVariants as value
use Rattle.et_class.specs.PoolOperands.Operand.TheVariants as operand
use Rattle.et_heap.specs.Objects.{referent_value}
use Rattle.et_state.specs.Threads.{FrameState}
use Rattle.et_event.specs.declared.rows.Rearrangement.{Rearrangement}
use Rattle.et_event.specs.Plain as machine
use Rattle.et_event.specs.Plain.{long_stored, is_value_pair, is_one_value, are_groups, groups_of, operand_places, rearranged, put, one_stored, with_locals, stored, increased}
use Rattle.et_event.specs.Checks.{Reference}
use Rattle.et_flow.specs.declared.types.EntryType.{EntryType}
use Rattle.et_flow.specs.declared.types.EntryType.TheVariants as entry
use Rattle.et_flow.specs.Types.{TypesOf, IsBelow, type_of}
use Rattle.et_flow.specs.Stores.{long_set, one_set, where_within, set_to}
use Rattle.et_flow.specs.Types.{is_single}
use Rattle.et_verify.specs.Steps.{is_one, is_pair, have_groups, rearranged_types, below_taken}
use Rattle.et_theorems.specs.typings.Values.{AreOperandsOf, AreLocalsOf, type_at}
use Rattle.et_theorems.proofs.typings.Taking.{typed_int, long_taken, int_taken, reference_taken}
use Rattle.et_theorems.proofs.typings.Plain.{Steps, put_steps}
use Rattle.et_theorems.proofs.typings.Paired.{stored_locals, long_locals}

-- GROUPS of values are groups of their types

single_same : (v : Value) → machine.is_single v ≡ is_single (type_of v)
single_same value.Unset = refl
single_same (value.Int n) = refl
single_same (value.Long n) = refl
single_same value.LongHigh = refl
single_same value.Null = refl
single_same (value.Ref o) = refl

one_same : (ops : List Value) → is_one_value ops ≡ is_one (map type_of ops)
one_same [] = refl
one_same (v ∷ ops) = single_same v

pair_same : (ops : List Value) → is_value_pair ops ≡ is_pair (map type_of ops)
pair_same [] = refl
pair_same (value.Unset ∷ []) = refl
pair_same (value.Int n ∷ []) = refl
pair_same (value.Long n ∷ []) = refl
pair_same (value.LongHigh ∷ []) = refl
pair_same (value.Null ∷ []) = refl
pair_same (value.Ref o ∷ []) = refl
pair_same (value.Unset ∷ w ∷ ops) = refl
pair_same (value.Int n ∷ w ∷ ops) = single_same w
pair_same (value.Long n ∷ w ∷ ops) = refl
pair_same (value.LongHigh ∷ value.Unset ∷ ops) = refl
pair_same (value.LongHigh ∷ value.Int n ∷ ops) = refl
pair_same (value.LongHigh ∷ value.Long n ∷ ops) = refl
pair_same (value.LongHigh ∷ value.LongHigh ∷ ops) = refl
pair_same (value.LongHigh ∷ value.Null ∷ ops) = refl
pair_same (value.LongHigh ∷ value.Ref o ∷ ops) = refl
pair_same (value.Null ∷ w ∷ ops) = single_same w
pair_same (value.Ref o ∷ w ∷ ops) = single_same w

groups_same : (sizes : List ℕ) (ops : List Value) → are_groups sizes ops ≡ have_groups sizes (map type_of ops)
groups_same [] ops = refl
groups_same (size ∷ sizes) ops =
    ap (λ (x : Bool). x && are_groups sizes (drop size ops)) (by (size == 1))
    ∙ ap (λ (y : Bool). (if size == 1 then is_one (map type_of ops) else is_pair (map type_of ops)) && y)
    (groups_same sizes (drop size ops) ∙ ap (have_groups sizes) (sym (drop-map type_of size ops)))
  where
    by : (b : Bool) → (if b then is_one_value ops else is_value_pair ops) ≡ (if b then is_one (map type_of ops) else is_pair (map type_of ops))
    by true = one_same ops
    by false = pair_same ops

-- WHAT IS PUT BACK

entry_same : (ops : List Value) (k : ℕ) → type_of (get_or ops k value.Unset) ≡ get_or (map type_of ops) k entry.Free
entry_same [] k = refl
entry_same (v ∷ ops) zero = refl
entry_same (v ∷ ops) (suc k) = entry_same ops k

picked_same : (ops : List Value) (ks : List ℕ) → map type_of (map (λ (k : ℕ). get_or ops k value.Unset) ks) ≡ map (λ (k : ℕ). get_or (map type_of ops) k entry.Free) ks
picked_same ops [] = refl
picked_same ops (k ∷ ks) =
    ap (λ (t : EntryType). t ∷ map type_of (map (λ (j : ℕ). get_or ops j value.Unset) ks)) (entry_same ops k)
    ∙ ap (λ (ts : List EntryType). get_or (map type_of ops) k entry.Free ∷ ts) (picked_same ops ks)

back_same : (ops : List Value) (ks : List ℕ) (n : ℕ) → map type_of (map (λ (k : ℕ). get_or ops k value.Unset) ks ++ drop n ops) ≡ map (λ (k : ℕ). get_or (map type_of ops) k entry.Free) ks ++ drop n (map type_of ops)
back_same ops ks n =
    map-append type_of (map (λ (k : ℕ). get_or ops k value.Unset) ks) (drop n ops)
    ∙ (ap (λ (ts : List EntryType). ts ++ map type_of (drop n ops)) (picked_same ops ks)
    ∙ ap (λ (ts : List EntryType). map (λ (k : ℕ). get_or (map type_of ops) k entry.Free) ks ++ ts) (sym (drop-map type_of n ops)))

when_some : (b : Bool) (xs ys : List EntryType) → (if b then Some xs else None) ≡ Some ys → (b ≡ true) × (xs ≡ ys)
when_some true xs ys e = (refl, let h : Some xs ≡ Some ys = e in cc)
when_some false xs ys e = cc

module _ (f : FrameState) (ts us : TypesOf) (places : List ℕ) (are : AreOperandsOf f.operands ts.operands) where
  pub rearranged_steps : (next : ℕ) (r : Rearrangement) → AreLocalsOf f.locals us.locals → length us.operands ≤ f.room → rearranged_types r ts.operands ≡ Some us.operands → Contains places next → Steps f us places (rearranged next r f)
  rearranged_steps next r locals le e goes =
      let back : List EntryType = map (λ (k : ℕ). get_or ts.operands k entry.Free) (operand_places r) ++ drop (sum (groups_of r)) ts.operands in
      let h = when_some (have_groups (groups_of r) ts.operands) back us.operands e in
      let groups : are_groups (groups_of r) f.operands ≡ true = groups_same (groups_of r) f.operands ∙ (ap (have_groups (groups_of r)) are ∙ h.0) in
      let new : List Value = map (λ (k : ℕ). get_or f.operands k value.Unset) (operand_places r) ++ drop (sum (groups_of r)) f.operands in
      let typed : AreOperandsOf new us.operands =
      back_same f.operands (operand_places r) (sum (groups_of r))
      ∙ (ap (λ (xs : List EntryType). map (λ (k : ℕ). get_or xs k entry.Free) (operand_places r) ++ drop (sum (groups_of r)) xs) are ∙ h.1) in
      subst (λ (b : Bool). Steps f us places (if b then put next new f else None)) (sym groups) (put_steps f us places next new typed locals le goes)

  -- STORES

  with_steps : (next i : ℕ) (locals below : List Value) → i < length f.locals → AreOperandsOf below us.operands → AreLocalsOf locals us.locals → Contains places next → Steps f us places (with_locals next i locals below f)
  with_steps next i locals below lt operands held goes = record {
    frame = record f { pc = next; locals = locals; operands = below };
    is = ap (λ (b : Bool). if b then Some (record f { pc = next; locals = locals; operands = below }) else None) (lt-ltb i (length f.locals) lt);
    same = refl;
    operands = operands;
    locals = held;
    goes = goes;
  }

  one_steps : (next i : ℕ) (v : Value) (t : EntryType) (below : List Value) (rest : List EntryType) → AreLocalsOf f.locals ts.locals → type_of v ≡ t → (t ≡ entry.Long → ⊥) → (t ≡ entry.LongHigh → ⊥)
      → where_within i ts.locals (one_set i t ts.locals) ≡ Some us.locals → AreOperandsOf below rest → rest ≡ us.operands → Contains places next → Steps f us places (with_locals next i (one_stored i v f.locals) below f)
  one_steps next i v t below rest held is long high set ar same goes =
      let h = when_some (ltb i (length ts.locals)) (one_set i t ts.locals) us.locals set in
      let lt : i < length f.locals = omega (arith, ltb-true i (length ts.locals) h.0, held.long) in
      with_steps next i (one_stored i v f.locals) below lt (ar ∙ same)
      (subst (λ (xs : List EntryType). AreLocalsOf (one_stored i v f.locals) xs) h.1 (stored_locals f.locals ts.locals i v t held lt is long high)) goes

  left_same : (rest left : List EntryType) → Some rest ≡ Some left → rest ≡ left
  left_same rest left e = cc

  abbrev S : Option FrameState → Type 0
  S o = Steps f us places o

  pub stored_int : (next i : ℕ) → AreLocalsOf f.locals ts.locals → below_taken (operand.Int ∷ []) ts.operands ≡ Some us.operands → set_to operand.Int ts.locals i ≡ Some us.locals → Contains places next → Steps f us places (stored next operand.Int i f)
  stored_int next i held taken set goes =
      int_taken S None [] f.operands ts.operands us.operands _ are taken (λ n below rest ar last.
      one_steps next i (value.Int n) entry.Int below rest held refl (λ q. cc) (λ q. cc) set ar (left_same rest us.operands last) goes)

  reference_type : (r : Reference) → type_of (referent_value r) ≡ entry.Reference
  reference_type None = refl
  reference_type (Some o) = refl

  pub stored_reference : (next i : ℕ) → AreLocalsOf f.locals ts.locals → below_taken (operand.Reference ∷ []) ts.operands ≡ Some us.operands → set_to operand.Reference ts.locals i ≡ Some us.locals → Contains places next → Steps f us places (stored next operand.Reference i f)
  stored_reference next i held taken set goes =
      reference_taken S None [] f.operands ts.operands us.operands _ are taken (λ r below rest is ar last.
      one_steps next i (get_or f.operands 0 value.Unset) entry.Reference below rest held (ap (λ (ops : List Value). type_of (get_or ops 0 value.Unset)) is ∙ reference_type r) (λ q. cc) (λ q. cc) set ar (left_same rest us.operands last) goes)

  pub stored_wide : (next i : ℕ) → AreLocalsOf f.locals ts.locals → below_taken (operand.Long ∷ []) ts.operands ≡ Some us.operands → set_to operand.Long ts.locals i ≡ Some us.locals → Contains places next → Steps f us places (stored next operand.Long i f)
  stored_wide next i held taken set goes =
      let h = when_some (ltb (i + 1) (length ts.locals)) (long_set i ts.locals) us.locals set in
      let lt : i + 1 < length f.locals = omega (arith, ltb-true (i + 1) (length ts.locals) h.0, held.long) in
      long_taken S None [] f.operands ts.operands us.operands _ are taken (λ n below rest ar last.
      with_steps next (i + 1) (long_stored i n f.locals) below lt (ar ∙ left_same rest us.operands last)
      (subst (λ (xs : List EntryType). AreLocalsOf (long_stored i n f.locals) xs) h.1 (long_locals f.locals ts.locals i n held lt)) goes)

-- IINC: an int where an int is

retyped : (vs : List Value) (i : ℕ) (v : Value) → i < length vs → type_of v ≡ type_at vs i → (j : ℕ) → type_at (set vs i v) j ≡ type_at vs j
retyped vs i v lt e j = elim (cases_eq j i) [
  | inl same ↦ subst (λ (k : ℕ). type_at (set vs i v) k ≡ type_at vs k) (sym same) (ap type_of (get_or-set_same vs i v value.Unset lt) ∙ e)
  | inr ne ↦ ap type_of (get_or-set_other vs i j v value.Unset ne)
]

retyped_locals : (vs : List Value) (types : List EntryType) (i : ℕ) (v : Value) → AreLocalsOf vs types → i < length vs → type_of v ≡ type_at vs i → AreLocalsOf (set vs i v) types
retyped_locals vs types i v held lt e = record {
  long = length-set vs i v ∙ held.long;
  each = λ j inside. subst (λ (t : EntryType). IsBelow t (get_or types j entry.Free)) (sym (retyped vs i v lt e j)) (held.each j (omega (arith, inside, length-set vs i v)));
  paired = record {
    upper = λ j q. retyped vs i v lt e (j + 1) ∙ held.paired.upper j (sym (retyped vs i v lt e j) ∙ q);
    lower = λ j q. retyped vs i v lt e j ∙ held.paired.lower j (sym (retyped vs i v lt e (j + 1)) ∙ q);
    first = λ q. held.paired.first (sym (retyped vs i v lt e 0) ∙ q);
  };
}

-- what is of a type that isn't Free
int_there : (vs : List Value) (types : List EntryType) (i : ℕ) → AreLocalsOf vs types → get_or types i entry.Free ≡ entry.Int → (i < length vs) × (type_at vs i ≡ entry.Int)
int_there vs types i held e = elim (cases_lt i (length vs)) [
  | inl lt ↦ (lt, elim (held.each i lt) [ inl same ↦ same ∙ e | inr free ↦ absurd (int_free (sym e ∙ free)) ])
  | inr past ↦ absurd (int_free (sym e ∙ get_or_past types i entry.Free (omega (arith, past, held.long))))
]
  where
    int_free : entry.Int ≡ entry.Free → ⊥
    int_free q = cc

pub increased_steps : (f : FrameState) (ts us : TypesOf) (places : List ℕ) (next i : ℕ) (n : ℤ) → AreOperandsOf f.operands us.operands → AreLocalsOf f.locals ts.locals → get_or ts.locals i entry.Free ≡ entry.Int → ts.locals ≡ us.locals → Contains places next → Steps f us places (increased next i n f)
increased_steps f ts us places next i n are held int same goes =
    let there = int_there f.locals ts.locals i held int in
    typed_int (λ (o : Option FrameState). Steps f us places o) None (get_or f.locals i value.Unset ∷ []) [] _ (ap (λ (t : EntryType). t ∷ []) there.1)
    (λ k below none. record {
      frame = record f { pc = next; locals = set f.locals i (value.Int (add w32 k n)); operands = f.operands };
      is = ap (λ (b : Bool). if b then Some (record f { pc = next; locals = set f.locals i (value.Int (add w32 k n)); operands = f.operands }) else None) (lt-ltb i (length f.locals) there.0);
      same = refl;
      operands = are;
      locals = subst (λ (xs : List EntryType). AreLocalsOf (set f.locals i (value.Int (add w32 k n))) xs) same (retyped_locals f.locals ts.locals i (value.Int (add w32 k n)) held there.0 (sym there.1));
      goes = goes;
    })
