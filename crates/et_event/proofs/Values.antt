-- What a record leaves, and the values that fields hold: their kinds, and how many entries they take as operands.
use Rattle.std.proofs.Common.{◌≡◌, ℕ, ◌≤◌, ◌==◌, ◌||◌, Bool, true, false, List, [], ◌∷◌, length, Option, Some, None, refl, arith}
use Rattle.std.specs.Prelude.{ℤ, if◌then◌else◌}
use Rattle.std.proofs.lemmas.Bool.{false≢true}
use Rattle.et_base.specs.declared.value.Value.{Value}
use Rattle.et_base.specs.declared.value.Value.TheVariants.{Unset, Int, Long, LongHigh, Null, Ref}
use Rattle.et_class.specs.Descriptors.{width_of}
use Rattle.et_class.specs.Operands.{operand_kind}
use Rattle.et_class.specs.PoolOperands.Operand.{Operand}
use Rattle.et_class.specs.PoolOperands.Operand.TheVariants as operand
use Rattle.et_event.specs.Checks.{entries_of}
use Rattle.et_event.specs.Kinds.{or_zero, narrowed}
use Rattle.et_event.specs.Moments.{Moment, Doing, updated}
use Rattle.et_event.specs.Sound.{is_of_kind}

-- A RECORD changes no state

pub updated_state : (e : Moment) (o i : ℕ) (old v : Value) (d : Doing) → (updated e o i old v d).state ≡ d.state
updated_state e o i old Unset d = refl
updated_state e o i old (Int n) d = refl
updated_state e o i old (Long n) d = refl
updated_state e o i old LongHigh d = refl
updated_state e o i old Null d = refl
updated_state e o i old (Ref r) d = refl

-- KINDS

any_int : (k : Option Operand) (n m : ℤ) → is_of_kind k (Int n) ≡ true → is_of_kind k (Int m) ≡ true
any_int None n m h = h
any_int (Some operand.Int) n m h = refl
any_int (Some operand.Long) n m h = h
any_int (Some operand.Reference) n m h = h

-- what a field keeps of a value is of the same kind
pub narrowed_kind : (k : Option Operand) (descriptor : List ℕ) (v : Value) → is_of_kind k v ≡ true → is_of_kind k (narrowed descriptor v) ≡ true
narrowed_kind k descriptor Unset h = h
narrowed_kind k descriptor (Int n) h = any_int k n _ h
narrowed_kind k descriptor (Long n) h = h
narrowed_kind k descriptor LongHigh h = h
narrowed_kind k descriptor Null h = h
narrowed_kind k descriptor (Ref o) h = h

pub any_reference : (k : Option Operand) (o : ℕ) → is_of_kind k Null ≡ true → is_of_kind k (Ref o) ≡ true
any_reference None o h = h
any_reference (Some operand.Int) o h = h
any_reference (Some operand.Long) o h = h
any_reference (Some operand.Reference) o h = refl

-- ENTRIES

pub few_entries : (v : Value) → length (entries_of v) ≤ 2
few_entries Unset = omega arith
few_entries (Int n) = omega arith
few_entries (Long n) = omega arith
few_entries LongHigh = omega arith
few_entries Null = omega arith
few_entries (Ref o) = omega arith

abbrev width : Option Operand → ℕ
width (Some operand.Long) = 2
width other = 1

entries_width : (k : Option Operand) (v : Value) → is_of_kind k v ≡ true → length (entries_of (or_zero k v)) ≤ width k
entries_width None Unset h = omega arith
entries_width None (Int n) h = absurd (false≢true h)
entries_width None (Long n) h = absurd (false≢true h)
entries_width None LongHigh h = absurd (false≢true h)
entries_width None Null h = absurd (false≢true h)
entries_width None (Ref o) h = absurd (false≢true h)
entries_width (Some operand.Int) Unset h = omega arith
entries_width (Some operand.Int) (Int n) h = omega arith
entries_width (Some operand.Int) (Long n) h = absurd (false≢true h)
entries_width (Some operand.Int) LongHigh h = absurd (false≢true h)
entries_width (Some operand.Int) Null h = absurd (false≢true h)
entries_width (Some operand.Int) (Ref o) h = absurd (false≢true h)
entries_width (Some operand.Long) v h = few_entries (or_zero (Some operand.Long) v)
entries_width (Some operand.Reference) Unset h = omega arith
entries_width (Some operand.Reference) (Int n) h = absurd (false≢true h)
entries_width (Some operand.Reference) (Long n) h = absurd (false≢true h)
entries_width (Some operand.Reference) LongHigh h = absurd (false≢true h)
entries_width (Some operand.Reference) Null h = omega arith
entries_width (Some operand.Reference) (Ref o) h = omega arith

some_width : (b : Bool) → 1 ≤ (if b then 2 else 1)
some_width true = omega arith
some_width false = omega arith

letter_width : (int long reference double : Bool) → width (if int then Some operand.Int else (if long then Some operand.Long else (if reference then Some operand.Reference else None))) ≤ (if double || long then 2 else 1)
letter_width true long reference double = some_width (double || long)
letter_width false true reference true = omega arith
letter_width false true reference false = omega arith
letter_width false false true double = some_width (double || false)
letter_width false false false double = some_width (double || false)

kind_width : (descriptor : List ℕ) → width (operand_kind descriptor) ≤ width_of descriptor
kind_width [] = omega arith
kind_width (a ∷ rest) = letter_width ((a == 66) || (a == 67) || (a == 73) || (a == 83) || (a == 90)) (a == 74) ((a == 76) || (a == 91)) (a == 68)

-- what is read from a field takes no more entries than its type
pub read_width : (descriptor : List ℕ) (v : Value) → is_of_kind (operand_kind descriptor) v ≡ true → length (entries_of (or_zero (operand_kind descriptor) v)) ≤ width_of descriptor
read_width descriptor v h =
    let a = entries_width (operand_kind descriptor) v h in
    let b = kind_width descriptor in
    omega arith
