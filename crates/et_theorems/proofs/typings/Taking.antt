-- Operands of types are operands of kinds: what an instruction takes is there.
use Rattle.std.proofs.Common.{◌≡◌, Bool, true, false, List, [], ◌∷◌, ◌++◌, length, Some, None, refl, sym, ap, ◌∙◌}
use Rattle.std.specs.Prelude.{ℤ, map, slice_index_or}
use Rattle.std.proofs.lemmas.List.{length-map}
use Rattle.et_base.specs.declared.value.Value.{Value}
use Rattle.et_base.specs.declared.value.Value.TheVariants as value
use Rattle.et_class.specs.PoolOperands.Operand.{Operand}
use Rattle.et_class.specs.PoolOperands.Operand.TheVariants as operand
use Rattle.et_event.specs.Checks.{Reference, with_int, with_long, with_reference, with_value, entries_of}
use Rattle.et_event.specs.Heap.{truth}
use Rattle.et_heap.specs.Objects.{referent_value}
use Rattle.et_flow.specs.declared.types.EntryType.{EntryType}
use Rattle.et_flow.specs.declared.types.EntryType.TheVariants as entry
use Rattle.et_flow.specs.Types.{type_of, operand_entries}
use Rattle.et_verify.specs.Steps.{below_taken}
use Rattle.et_verify.proofs.Taken.{Takes, takes}
use Rattle.et_theorems.specs.typings.Values.{AreOperandsOf}

-- a test is told by an int
pub truth_type : (b : Bool) → type_of (truth b) ≡ entry.Int
truth_type true = refl
truth_type false = refl

-- .. OF VALUES. P holds of what is done then

module _ {A : Type 0} (P : A → Type 0) (refused : A) where
  pub typed_int : (ops : List Value) (rest : List EntryType) (go : ℤ → List Value → A) → map type_of ops ≡ entry.Int ∷ rest → ((n : ℤ) (below : List Value) → map type_of below ≡ rest → P (go n below)) → P (with_int refused ops go)
  typed_int [] rest go e h = cc
  typed_int (value.Unset ∷ below) rest go e h = cc
  typed_int (value.Int n ∷ below) rest go e h = h n below (let same : entry.Int ∷ map type_of below ≡ entry.Int ∷ rest = e in cc)
  typed_int (value.Long n ∷ below) rest go e h = cc
  typed_int (value.LongHigh ∷ below) rest go e h = cc
  typed_int (value.Null ∷ below) rest go e h = cc
  typed_int (value.Ref o ∷ below) rest go e h = cc

  high_then : (ops : List Value) (rest : List EntryType) (go : ℤ → List Value → A) → entry.LongHigh ∷ map type_of ops ≡ entry.LongHigh ∷ entry.Long ∷ rest → ((n : ℤ) (below : List Value) → map type_of below ≡ rest → P (go n below)) → P (with_long refused (value.LongHigh ∷ ops) go)
  high_then [] rest go e h = cc
  high_then (value.Unset ∷ below) rest go e h = cc
  high_then (value.Int n ∷ below) rest go e h = cc
  high_then (value.Long n ∷ below) rest go e h = h n below (let same : entry.LongHigh ∷ entry.Long ∷ map type_of below ≡ entry.LongHigh ∷ entry.Long ∷ rest = e in cc)
  high_then (value.LongHigh ∷ below) rest go e h = cc
  high_then (value.Null ∷ below) rest go e h = cc
  high_then (value.Ref o ∷ below) rest go e h = cc

  pub typed_long : (ops : List Value) (rest : List EntryType) (go : ℤ → List Value → A) → map type_of ops ≡ entry.LongHigh ∷ entry.Long ∷ rest → ((n : ℤ) (below : List Value) → map type_of below ≡ rest → P (go n below)) → P (with_long refused ops go)
  typed_long [] rest go e h = cc
  typed_long (value.Unset ∷ below) rest go e h = cc
  typed_long (value.Int n ∷ below) rest go e h = cc
  typed_long (value.Long n ∷ below) rest go e h = cc
  typed_long (value.LongHigh ∷ below) rest go e h = high_then below rest go e h
  typed_long (value.Null ∷ below) rest go e h = cc
  typed_long (value.Ref o ∷ below) rest go e h = cc

  pub typed_reference : (ops : List Value) (rest : List EntryType) (go : Reference → List Value → A) → map type_of ops ≡ entry.Reference ∷ rest → ((r : Reference) (below : List Value) → ops ≡ referent_value r ∷ below → map type_of below ≡ rest → P (go r below)) → P (with_reference refused ops go)
  typed_reference [] rest go e h = cc
  typed_reference (value.Unset ∷ below) rest go e h = cc
  typed_reference (value.Int n ∷ below) rest go e h = cc
  typed_reference (value.Long n ∷ below) rest go e h = cc
  typed_reference (value.LongHigh ∷ below) rest go e h = cc
  typed_reference (value.Null ∷ below) rest go e h = h None below refl (let same : entry.Reference ∷ map type_of below ≡ entry.Reference ∷ rest = e in cc)
  typed_reference (value.Ref o ∷ below) rest go e h = h (Some o) below refl (let same : entry.Reference ∷ map type_of below ≡ entry.Reference ∷ rest = e in cc)

  -- THE KINDS one after another

  pub int_taken : (kinds : List Operand) (ops : List Value) (types left : List EntryType) (go : ℤ → List Value → A) → AreOperandsOf ops types → below_taken (operand.Int ∷ kinds) types ≡ Some left
      → ((n : ℤ) (below : List Value) (rest : List EntryType) → AreOperandsOf below rest → below_taken kinds rest ≡ Some left → P (go n below)) → P (with_int refused ops go)
  int_taken kinds ops types left go are e h =
      let t : Takes operand.Int kinds types left = takes operand.Int kinds types left e in
      typed_int ops t.rest go (are ∙ t.types_are) (λ n below b. h n below t.rest b t.more)

  pub long_taken : (kinds : List Operand) (ops : List Value) (types left : List EntryType) (go : ℤ → List Value → A) → AreOperandsOf ops types → below_taken (operand.Long ∷ kinds) types ≡ Some left
      → ((n : ℤ) (below : List Value) (rest : List EntryType) → AreOperandsOf below rest → below_taken kinds rest ≡ Some left → P (go n below)) → P (with_long refused ops go)
  long_taken kinds ops types left go are e h =
      let t : Takes operand.Long kinds types left = takes operand.Long kinds types left e in
      typed_long ops t.rest go (are ∙ t.types_are) (λ n below b. h n below t.rest b t.more)

  pub reference_taken : (kinds : List Operand) (ops : List Value) (types left : List EntryType) (go : Reference → List Value → A) → AreOperandsOf ops types → below_taken (operand.Reference ∷ kinds) types ≡ Some left
      → ((r : Reference) (below : List Value) (rest : List EntryType) → ops ≡ referent_value r ∷ below → AreOperandsOf below rest → below_taken kinds rest ≡ Some left → P (go r below)) → P (with_reference refused ops go)
  reference_taken kinds ops types left go are e h =
      let t : Takes operand.Reference kinds types left = takes operand.Reference kinds types left e in
      typed_reference ops t.rest go (are ∙ t.types_are) (λ r below is b. h r below t.rest is b t.more)

-- the entries of the value are of the types of the kind
abbrev pub IsValueOf : Operand → Value → Type 0
IsValueOf kind v = map type_of (entries_of v) ≡ operand_entries kind

-- a value of a kind
pub value_taken : {A : Type 0} (P : A → Type 0) (refused : A) (kind : Operand) (kinds : List Operand) (ops : List Value) (types left : List EntryType) (go : Value → List Value → A) → AreOperandsOf ops types → below_taken (kind ∷ kinds) types ≡ Some left
    → ((v : Value) (below : List Value) (rest : List EntryType) → IsValueOf kind v → AreOperandsOf below rest → below_taken kinds rest ≡ Some left → P (go v below)) → P (with_value (Some kind) refused ops go)
value_taken P refused operand.Int kinds ops types left go are e h = int_taken P refused kinds ops types left (λ n. go (value.Int n)) are e (λ n below rest b more. h (value.Int n) below rest refl b more)
value_taken P refused operand.Long kinds ops types left go are e h = long_taken P refused kinds ops types left (λ n. go (value.Long n)) are e (λ n below rest b more. h (value.Long n) below rest refl b more)
value_taken P refused operand.Reference kinds ops types left go are e h = reference_taken P refused kinds ops types left (λ r. go (referent_value r)) are e (λ r below rest is b more. h (referent_value r) below rest (of_reference r) b more)
  where
    of_reference : (r : Reference) → IsValueOf operand.Reference (referent_value r)
    of_reference None = refl
    of_reference (Some o) = refl

-- WITH THE PLACES of what is taken

module _ {A : Type 0} (P : A → Type 0) (refused : A) where
  int_there : (ops : List Value) (rest : List EntryType) (go : ℤ → List Value → A) → map type_of ops ≡ entry.Int ∷ rest → ((n : ℤ) (below : List Value) → ops ≡ value.Int n ∷ below → map type_of below ≡ rest → P (go n below)) → P (with_int refused ops go)
  int_there [] rest go e h = cc
  int_there (value.Unset ∷ below) rest go e h = cc
  int_there (value.Int n ∷ below) rest go e h = h n below refl (let same : entry.Int ∷ map type_of below ≡ entry.Int ∷ rest = e in cc)
  int_there (value.Long n ∷ below) rest go e h = cc
  int_there (value.LongHigh ∷ below) rest go e h = cc
  int_there (value.Null ∷ below) rest go e h = cc
  int_there (value.Ref o ∷ below) rest go e h = cc

  half_there : (ops : List Value) (rest : List EntryType) (go : ℤ → List Value → A) → entry.LongHigh ∷ map type_of ops ≡ entry.LongHigh ∷ entry.Long ∷ rest → ((n : ℤ) (below : List Value) → value.LongHigh ∷ ops ≡ value.LongHigh ∷ value.Long n ∷ below → map type_of below ≡ rest → P (go n below)) → P (with_long refused (value.LongHigh ∷ ops) go)
  half_there [] rest go e h = cc
  half_there (value.Unset ∷ below) rest go e h = cc
  half_there (value.Int n ∷ below) rest go e h = cc
  half_there (value.Long n ∷ below) rest go e h = h n below refl (let same : entry.LongHigh ∷ entry.Long ∷ map type_of below ≡ entry.LongHigh ∷ entry.Long ∷ rest = e in cc)
  half_there (value.LongHigh ∷ below) rest go e h = cc
  half_there (value.Null ∷ below) rest go e h = cc
  half_there (value.Ref o ∷ below) rest go e h = cc

  long_there : (ops : List Value) (rest : List EntryType) (go : ℤ → List Value → A) → map type_of ops ≡ entry.LongHigh ∷ entry.Long ∷ rest → ((n : ℤ) (below : List Value) → ops ≡ value.LongHigh ∷ value.Long n ∷ below → map type_of below ≡ rest → P (go n below)) → P (with_long refused ops go)
  long_there [] rest go e h = cc
  long_there (value.Unset ∷ below) rest go e h = cc
  long_there (value.Int n ∷ below) rest go e h = cc
  long_there (value.Long n ∷ below) rest go e h = cc
  long_there (value.LongHigh ∷ below) rest go e h = half_there below rest go e h
  long_there (value.Null ∷ below) rest go e h = cc
  long_there (value.Ref o ∷ below) rest go e h = cc

  pub int_at : (kinds : List Operand) (ops : List Value) (types left : List EntryType) (go : ℤ → List Value → A) → AreOperandsOf ops types → below_taken (operand.Int ∷ kinds) types ≡ Some left
      → ((n : ℤ) (below : List Value) (rest : List EntryType) → ops ≡ value.Int n ∷ below → AreOperandsOf below rest → below_taken kinds rest ≡ Some left → P (go n below)) → P (with_int refused ops go)
  int_at kinds ops types left go are e h =
      let t : Takes operand.Int kinds types left = takes operand.Int kinds types left e in
      int_there ops t.rest go (are ∙ t.types_are) (λ n below is b. h n below t.rest is b t.more)

  long_at : (kinds : List Operand) (ops : List Value) (types left : List EntryType) (go : ℤ → List Value → A) → AreOperandsOf ops types → below_taken (operand.Long ∷ kinds) types ≡ Some left
      → ((n : ℤ) (below : List Value) (rest : List EntryType) → ops ≡ value.LongHigh ∷ value.Long n ∷ below → AreOperandsOf below rest → below_taken kinds rest ≡ Some left → P (go n below)) → P (with_long refused ops go)
  long_at kinds ops types left go are e h =
      let t : Takes operand.Long kinds types left = takes operand.Long kinds types left e in
      long_there ops t.rest go (are ∙ t.types_are) (λ n below is b. h n below t.rest is b t.more)

pub value_at : {A : Type 0} (P : A → Type 0) (refused : A) (kind : Operand) (kinds : List Operand) (ops : List Value) (types left : List EntryType) (go : Value → List Value → A) → AreOperandsOf ops types → below_taken (kind ∷ kinds) types ≡ Some left
    → ((v : Value) (below : List Value) (rest : List EntryType) → ops ≡ entries_of v ++ below → IsValueOf kind v → AreOperandsOf below rest → below_taken kinds rest ≡ Some left → P (go v below)) → P (with_value (Some kind) refused ops go)
value_at P refused operand.Int kinds ops types left go are e h = int_at P refused kinds ops types left (λ n. go (value.Int n)) are e (λ n below rest is b more. h (value.Int n) below rest is refl b more)
value_at P refused operand.Long kinds ops types left go are e h = long_at P refused kinds ops types left (λ n. go (value.Long n)) are e (λ n below rest is b more. h (value.Long n) below rest is refl b more)
value_at P refused operand.Reference kinds ops types left go are e h = reference_taken P refused kinds ops types left (λ r. go (referent_value r)) are e (λ r below rest is b more. by r below rest is b more)
  where
    by : (r : Reference) (below : List Value) (rest : List EntryType) → ops ≡ referent_value r ∷ below → AreOperandsOf below rest → below_taken kinds rest ≡ Some left → P (go (referent_value r) below)
    by None below rest is b more = h value.Null below rest is refl b more
    by (Some o) below rest is b more = h (value.Ref o) below rest is refl b more

-- the operand behind others
pub behind : (xs : List Value) (w : Value) (ys : List Value) → slice_index_or (xs ++ w ∷ ys) (length xs) value.Unset ≡ w
behind [] w ys = refl
behind (x ∷ xs) w ys = behind xs w ys

pub value_long : (kind : Operand) (v : Value) → IsValueOf kind v → length (entries_of v) ≡ length (operand_entries kind)
value_long kind v is = sym (length-map (entries_of v) type_of) ∙ ap length is
