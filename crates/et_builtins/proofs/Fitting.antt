-- Whether a call may be done, by its shape.
use Rattle.std.proofs.Common.{◌≡◌, ℕ, zero, suc, ◌+◌, ◌-◌, ◌<◌, ◌≤◌, ◌&&◌, Bool, true, false, List, [], ◌∷◌, length, take, drop, reverse, map, Option, Some, None, refl, sym, ◌∙◌, ap, arith}
use Rattle.std.specs.Prelude.{sum_by, nat_le, if◌then◌else◌}
use Rattle.std.proofs.lemmas.List.Sums.{sum_by-cons}
use Rattle.std.proofs.lemmas.Bool.{and_parts, leb-true}
use Rattle.std.proofs.lemmas.Bool.Decides.{nat_tests}
use Rattle.std.proofs.lemmas.List.{length-reverse, length-drop}
use Rattle.et_base.specs.declared.value.Value.{Value}
use Rattle.et_base.specs.declared.value.Value.TheVariants.{Int, Long, LongHigh, Null, Ref}
use Rattle.et_base.proofs.Options.{same_by_test}
use Rattle.et_pool.specs.Descriptors.{MethodType, width_of}
use Rattle.et_pool.specs.Operands.{Shape, shape_of, return_of, entries_returned}
use Rattle.et_pool.proofs.Returns.{width_returned}
use Rattle.et_event.specs.PoolOperands.Operand.{Operand}
use Rattle.et_event.specs.PoolOperands.Operand.TheVariants as operand
use Rattle.et_event.specs.Calls.{are_of, are_passed, are_arguments, arguments_of, begin_with, call_fits, entry_count}
use Rattle.et_event.specs.Operands.{operand_kind, kind_of_letter, returned_width}
use Rattle.et_event.specs.Moments.{Moment, current_frame}
use Rattle.et_state.specs.Threads.{FrameState}
use Rattle.et_builtins.specs.Arguments.{arguments_in, fitting, is_passing}

-- HOW MANY ENTRIES ARGUMENTS ARE

abbrev operand_width : Operand → ℕ
operand_width operand.Int = 1
operand_width operand.Long = 2
operand_width operand.Reference = 1

letter_width : (a : ℕ) (rest : List ℕ) (kind : Operand) → kind_of_letter a ≡ Some kind → width_of (a ∷ rest) ≡ operand_width kind
letter_width a rest operand.Int e = grind (arith, nat_tests)
letter_width a rest operand.Long e = grind (arith, nat_tests)
letter_width a rest operand.Reference e = grind (arith, nat_tests)

type_width : (t : List ℕ) (kind : Operand) → operand_kind t ≡ Some kind → width_of t ≡ operand_width kind
type_width [] kind e = cc
type_width (a ∷ rest) kind e = letter_width a rest kind e

-- one value, and the rest
record Begins (kind : Option Operand) (g : List Value → Bool) (vs : List Value) : Type 0 where
  operand : Operand
  is : kind ≡ Some operand
  rest : List Value
  passes : g rest ≡ true
  long : length vs ≡ operand_width operand + length rest

begins : (kind : Option Operand) (g : List Value → Bool) (vs : List Value) → begin_with kind g vs ≡ true → Begins kind g vs
begins None g vs e = cc
begins (Some operand.Int) g [] e = cc
begins (Some operand.Int) g (Int n ∷ vs) e = record { operand = operand.Int; is = refl; rest = vs; passes = e; long = omega arith }
begins (Some operand.Int) g (v ∷ vs) e = cc
begins (Some operand.Long) g [] e = cc
begins (Some operand.Long) g (Long n ∷ []) e = cc
begins (Some operand.Long) g (Long n ∷ LongHigh ∷ vs) e = record { operand = operand.Long; is = refl; rest = vs; passes = e; long = omega arith }
begins (Some operand.Long) g (Long n ∷ v ∷ vs) e = cc
begins (Some operand.Long) g (v ∷ vs) e = cc
begins (Some operand.Reference) g [] e = cc
begins (Some operand.Reference) g (Null ∷ vs) e = record { operand = operand.Reference; is = refl; rest = vs; passes = e; long = omega arith }
begins (Some operand.Reference) g (Ref o ∷ vs) e = record { operand = operand.Reference; is = refl; rest = vs; passes = e; long = omega arith }
begins (Some operand.Reference) g (v ∷ vs) e = cc

are_of_length : (types : List (List ℕ)) (vs : List Value) → are_of (map operand_kind types) vs ≡ true → length vs ≡ sum_by width_of types
are_of_length [] [] e = refl
are_of_length [] (v ∷ vs) e = cc
are_of_length (t ∷ types) vs e =
    let b : Begins (operand_kind t) (are_of (map operand_kind types)) vs = begins (operand_kind t) (are_of (map operand_kind types)) vs e in
    let one : width_of t ≡ operand_width b.operand = type_width t b.operand b.is in
    let more : length b.rest ≡ sum_by width_of types = are_of_length types b.rest b.passes in
    let split : sum_by width_of (t ∷ types) ≡ width_of t + sum_by width_of types = sum_by-cons width_of t types in
    let long : length vs ≡ operand_width b.operand + length b.rest = b.long in omega arith

pub arguments_length : (static : Bool) (type : MethodType) (vs : List Value) → are_arguments static type vs ≡ true → length vs ≡ entry_count static type
arguments_length true type vs e = let h : length vs ≡ sum_by width_of type.parameters = are_of_length type.parameters vs e in omega arith
arguments_length false type vs e =
    let b : Begins (Some operand.Reference) (are_of (map operand_kind type.parameters)) vs = begins (Some operand.Reference) (are_of (map operand_kind type.parameters)) vs e in
    let k : operand.Reference ≡ b.operand = some_same operand.Reference b.operand b.is in
    let one : operand_width b.operand ≡ 1 = ap operand_width (sym k) in
    let more : length b.rest ≡ sum_by width_of type.parameters = are_of_length type.parameters b.rest b.passes in
    let long : length vs ≡ operand_width b.operand + length b.rest = b.long in omega arith
  where
    some_same : (k j : Operand) → Some k ≡ Some j → k ≡ j
    some_same k j e = cc

-- WHETHER THE CALL MAY BE DONE

taken_short : (vs : List Value) (n : ℕ) → length (take n vs) ≤ length vs
taken_short vs zero = omega arith
taken_short [] (suc n) = omega arith
taken_short (v ∷ vs) (suc n) = let h : length (take n vs) ≤ length vs = taken_short vs n in omega arith

too_few : (static : Bool) (type : MethodType) (ops : List Value) (b : Bool) → length ops < entry_count static type → b ≡ are_arguments static type (reverse (take (entry_count static type) ops)) → b ≡ false
too_few static type ops false lt e = refl
too_few static type ops true lt e =
    let n : ℕ = entry_count static type in
    let long : length (reverse (take n ops)) ≡ n = arguments_length static type (reverse (take n ops)) (sym e) in
    let same : length (reverse (take n ops)) ≡ length (take n ops) = length-reverse (take n ops) in
    let short : length (take n ops) ≤ length ops = taken_short ops n in absurd (omega arith)

pub fitting_few : (e : Moment) (static : Bool) (type : MethodType) → length (current_frame e).operands < entry_count static type → fitting e static (Some type) ≡ None
fitting_few e static type lt =
    ap (λ (b : Bool). if b && nat_le (length (drop (entry_count static type) (current_frame e).operands) + returned_width type.returned) (current_frame e).room then Some (entry_count static type) else None)
    (too_few static type (current_frame e).operands (are_arguments static type (arguments_of e (entry_count static type))) lt refl)

passing_type : (e : Moment) (static : Bool) (type : MethodType) (count : ℕ) → count ≡ entry_count static type → is_passing (current_frame e) static (shape_of type) count ≡ call_fits e static type
passing_type e static type count n =
    let ops : List Value = (current_frame e).operands in
    let left : length ops - count ≡ length (drop count ops) = sym (length-drop count ops) in
    ap (λ (k : ℕ). are_arguments static type (arguments_in (current_frame e) count) && nat_le (k + entries_returned (return_of type.returned)) (current_frame e).room) left
    ∙ (ap (λ (w : ℕ). are_arguments static type (arguments_in (current_frame e) count) && nat_le (length (drop count ops) + w) (current_frame e).room) (width_returned type.returned)
    ∙ ap (λ (k : ℕ). are_arguments static type (arguments_in (current_frame e) k) && nat_le (length (drop k ops) + returned_width type.returned) (current_frame e).room) n)

-- by the shape of a call

abbrev counted : ℕ → Bool → ℕ
counted entries static = entries + (if static then 0 else 1)

counted_is : (entries : ℕ) (static : Bool) (shape : Shape) (type : MethodType) → entries ≡ shape.entries → shape ≡ shape_of type → counted entries static ≡ entry_count static type
counted_is entries static shape type same is = ap (λ (n : ℕ). counted n static) (same ∙ ap (λ (x : Shape). x.entries) is)

none_counted : (n depth : ℕ) → None ≡ (if nat_le n depth then Some n else None) → depth < n
none_counted n depth e = small (nat_le n depth) n depth refl e
  where
    small : (b : Bool) (n depth : ℕ) → nat_le n depth ≡ b → None ≡ (if b then Some n else None) → depth < n
    small true n depth b e = cc
    small false n depth b e = grind (arith, nat_tests)

pub count_refused : (e : Moment) (static : Bool) (shape : Shape) (type : MethodType) (entries depth : ℕ) → shape ≡ shape_of type → entries ≡ shape.entries → depth ≡ length (current_frame e).operands
    → None ≡ (if nat_le (counted entries static) depth then Some (counted entries static) else None) → None ≡ fitting e static (Some type)
count_refused e static shape type entries depth is same deep none =
    let n : counted entries static ≡ entry_count static type = counted_is entries static shape type same is in
    let few : depth < counted entries static = none_counted (counted entries static) depth none in
    sym (fitting_few e static type (omega arith))

pub passes_by : (e : Moment) (static : Bool) (shape : Shape) (type : MethodType) (entries depth count : ℕ) (passes : Bool) → shape ≡ shape_of type → entries ≡ shape.entries
    → Some count ≡ (if nat_le (counted entries static) depth then Some (counted entries static) else None) → is_passing (current_frame e) static shape count ≡ passes → (if passes then Some count else None) ≡ fitting e static (Some type)
passes_by e static shape type entries depth count passes is same some by =
    let n : count ≡ entry_count static type = same_by_test (nat_le (counted entries static) depth) (counted entries static) count some ∙ counted_is entries static shape type same is in
    let fits : passes ≡ call_fits e static type = sym by ∙ (ap (λ (x : Shape). is_passing (current_frame e) static x count) is ∙ passing_type e static type count n) in
    ap (λ (b : Bool). if b then Some count else None) fits ∙ ap (λ (k : ℕ). if call_fits e static type then Some k else None) n

-- what is returned fits then

pub passing_room : (f : FrameState) (static : Bool) (shape : Shape) (count : ℕ) → is_passing f static shape count ≡ true → length (drop count f.operands) + entries_returned shape.returned ≤ f.room
passing_room f static shape count e =
    let left : length (drop count f.operands) ≡ length f.operands - count = length-drop count f.operands in
    let h : length f.operands - count + entries_returned shape.returned ≤ f.room =
    leb-true (length f.operands - count + entries_returned shape.returned) f.room
    (and_parts (are_passed static shape.kinds (arguments_in f count)) (nat_le (length f.operands - count + entries_returned shape.returned) f.room) e).1 in
    omega arith
