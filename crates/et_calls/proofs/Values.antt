-- The value that a return takes from the operands.
use Rattle.std.proofs.Common.{◌≡◌, ℕ, Bool, true, false, List, [], ◌∷◌, length, get_or, Option, Some, None, refl, sym, ◌∙◌, ap, subst, arith, Contains}
use Rattle.std.proofs.lemmas.Bool.Decides.{nat_tests}
use Rattle.std.specs.Prelude.{option_map, if◌then◌else◌}
use Rattle.std.specs.Option.{option_map_or}
use Rattle.et_base.specs.declared.value.Value.{Value}
use Rattle.et_base.specs.declared.value.Value.TheVariants.{Unset, Int, Long, LongHigh, Null, Ref}
use Rattle.et_pool.specs.declared.operand.Returned.{Returned}
use Rattle.et_pool.specs.Descriptors.{MethodType, method_type, is_void, width_of}
use Rattle.et_pool.specs.Operands.{Shape, shape_of, shape_in, return_of, is_returnable}
use Rattle.et_pool.proofs.Returns.{kind_returned}
use Rattle.et_builtins.specs.Types.{returned_in}
use Rattle.et_base.proofs.Lists.{Contains-none}
use Rattle.et_heap.specs.Refs.{refs_of}
use Rattle.et_state.specs.Threads.{FrameState}
use Rattle.et_state.specs.ThreadRoots.{frame_roots}
use Rattle.et_event.specs.PoolOperands.Operand.{Operand}
use Rattle.et_event.specs.PoolOperands.Operand.TheVariants as operand
use Rattle.et_state.specs.State.{Kept}
use Rattle.et_state.specs.Outcome.{Outcome}
use Rattle.et_event.specs.declared.errors.GuestError.TheVariants.{IllegalMonitorStateException}
use Rattle.et_event.specs.Calls.{return, returned_by, with_returned, frame_returned}
use Rattle.et_event.specs.Checks.{with_value, entries_of, ill_typed_unless, throws_unless}
use Rattle.et_event.specs.Moments.{Moment, begins, current_frame, goes, ill_typed}
use Rattle.et_event.specs.Monitors.{lock_in, owns_some}
use Rattle.et_event.specs.Sites.{running_method}
use Rattle.et_event.specs.Operands.{operand_kind, kind_of_letter, is_kind, may_return, returned_width}
use Rattle.et_event.specs.Tops.{IsIn}
use Rattle.et_calls.specs.Returned.{IsValueIn, returned_value, value_in, values_of, returned_entries, returned_values, returning_frame}

pub value_on_top : (kind : Operand) (ops : List Value) → value_in kind (get_or ops 0 Unset) (get_or ops 1 Unset) ≡ returned_value kind ops
value_on_top operand.Int [] = refl
value_on_top operand.Int (Int n ∷ ops) = refl
value_on_top operand.Int (v ∷ ops) = refl
value_on_top operand.Long [] = refl
value_on_top operand.Long (LongHigh ∷ []) = refl
value_on_top operand.Long (LongHigh ∷ Long n ∷ ops) = refl
value_on_top operand.Long (LongHigh ∷ v ∷ ops) = refl
value_on_top operand.Long (v ∷ ops) = refl
value_on_top operand.Reference [] = refl
value_on_top operand.Reference (Null ∷ ops) = refl
value_on_top operand.Reference (Ref o ∷ ops) = refl
value_on_top operand.Reference (v ∷ ops) = refl

pub value_is_in : (f : FrameState) (kind : Operand) (v w : Value) → IsIn f v → IsIn f w → IsValueIn f (value_in kind v w)
value_is_in f operand.Int (Int n) w h k = h
value_is_in f operand.Int v w h k = tt
value_is_in f operand.Long LongHigh (Long n) h k = k
value_is_in f operand.Long LongHigh w h k = tt
value_is_in f operand.Long v w h k = tt
value_is_in f operand.Reference Null w h k = h
value_is_in f operand.Reference (Ref o) w h k = h
value_is_in f operand.Reference v w h k = tt

-- what the entries of a value refer to
pub entries_are_in : (f : FrameState) (value : Option Value) → IsValueIn f value → (o : ℕ) → Contains (refs_of (returned_entries value)) o → Contains (frame_roots f) o
entries_are_in f None h o c = absurd (Contains-none o c)
entries_are_in f (Some Unset) h o c = absurd (Contains-none o c)
entries_are_in f (Some (Int n)) h o c = absurd (Contains-none o c)
entries_are_in f (Some (Long n)) h o c = absurd (Contains-none o c)
entries_are_in f (Some LongHigh) h o c = absurd (Contains-none o c)
entries_are_in f (Some Null) h o c = absurd (Contains-none o c)
entries_are_in f (Some (Ref r)) h o c = h o c

-- WHAT THE TABLE MAKES OF IT

taken : {A : Type 0} (kind : Operand) (refused : A) (ops : List Value) (go : Value → A) → with_value (Some kind) refused ops (λ v below. go v) ≡ option_map_or go (returned_value kind ops) refused
taken operand.Int refused [] go = refl
taken operand.Int refused (Int n ∷ ops) go = refl
taken operand.Int refused (v ∷ ops) go = refl
taken operand.Long refused [] go = refl
taken operand.Long refused (LongHigh ∷ []) go = refl
taken operand.Long refused (LongHigh ∷ Long n ∷ ops) go = refl
taken operand.Long refused (LongHigh ∷ v ∷ ops) go = refl
taken operand.Long refused (v ∷ ops) go = refl
taken operand.Reference refused [] go = refl
taken operand.Reference refused (Null ∷ ops) go = refl
taken operand.Reference refused (Ref o ∷ ops) go = refl
taken operand.Reference refused (v ∷ ops) go = refl

abbrev pub by_values : {A : Type 0} → A → (Option Value → A) → Option (Option Value) → A
by_values refused go None = refused
by_values refused go (Some value) = go value

by_value : {A : Type 0} (refused : A) (go : List Value → A) (value : Option Value) → option_map_or (λ v. go (entries_of v)) value refused ≡ by_values refused (λ w. go (returned_entries w)) (option_map (λ v. Some v) value)
by_value refused go None = refl
by_value refused go (Some v) = refl

pub returned_as : (kind : Option Operand) (refused : Outcome Kept) (ops : List Value) (go : List Value → Outcome Kept) → with_returned kind refused ops go ≡ by_values refused (λ value. go (returned_entries value)) (values_of kind ops)
returned_as None refused ops go = refl
returned_as (Some kind) refused ops go = taken kind refused ops (λ v. go (entries_of v)) ∙ by_value refused go (returned_value kind ops)

checked : (e : Moment) (b : Bool) (kind : Option Operand) (ops : List Value) (go : List Value → Outcome Kept)
    → ill_typed_unless e b (with_returned kind (ill_typed e) ops go) ≡ by_values (ill_typed e) (λ value. go (returned_entries value)) (if b then values_of kind ops else None)
checked e true kind ops go = returned_as kind (ill_typed e) ops go
checked e false kind ops go = refl

pub return_is : (e : Moment) (kind : Option Operand) → return e kind ≡ by_values (ill_typed e) (returning_frame e) (returned_values kind (returned_by e) (current_frame e).operands)
return_is e kind =
    checked e (may_return kind (returned_by e)) kind (current_frame e).operands
    (λ values. throws_unless e (begins e) IllegalMonitorStateException (owns_some e (begins e) (lock_in (current_frame e).stage (running_method e.program (current_frame e)) (current_frame e).lock)) (goes (frame_returned e values (begins e))))

-- BY THE SHAPE OF THE METHOD

no_kind : (kind : Option Operand) → may_return kind [] ≡ false
no_kind None = refl
no_kind (Some operand.Int) = refl
no_kind (Some operand.Long) = refl
no_kind (Some operand.Reference) = refl

nothing_in : (o : Option MethodType) → None ≡ option_map (λ (s : Shape). s.returned) (option_map shape_of o) → option_map_or (λ (type : MethodType). type.returned) o [] ≡ []
nothing_in None e = refl
nothing_in (Some type) e = cc

pub returned_none : (kind : Option Operand) (d : List ℕ) (ops : List Value) → None ≡ option_map (λ (s : Shape). s.returned) (shape_in d) → returned_values kind (returned_in d) ops ≡ None
returned_none kind d ops e =
    ap (λ (r : List ℕ). returned_values kind r ops) (nothing_in (method_type d) e) ∙ ap (λ (b : Bool). if b then values_of kind ops else None) (no_kind kind)

by_type : (kind : Option Operand) (ops : List Value) (returned : Returned) (o : Option MethodType) → Some returned ≡ option_map (λ (s : Shape). s.returned) (option_map shape_of o)
    → returned_values kind (option_map_or (λ (type : MethodType). type.returned) o []) ops ≡ (if is_returnable kind returned then values_of kind ops else None)
by_type kind ops returned None e = cc
by_type kind ops returned (Some type) e =
    let s : returned ≡ return_of type.returned = cc in
    ap (λ (b : Bool). if b then values_of kind ops else None) (sym (kind_returned kind type.returned) ∙ ap (is_returnable kind) (sym s))

pub returned_some : (kind : Option Operand) (d : List ℕ) (ops : List Value) (returned : Returned) → Some returned ≡ option_map (λ (s : Shape). s.returned) (shape_in d)
    → returned_values kind (returned_in d) ops ≡ (if is_returnable kind returned then values_of kind ops else None)
returned_some kind d ops returned e = by_type kind ops returned (method_type d) e

-- HOW MANY ENTRIES IT TAKES

abbrev operand_width : Operand → ℕ
operand_width operand.Int = 1
operand_width operand.Long = 2
operand_width operand.Reference = 1

kind_width : (a : ℕ) (rest : List ℕ) (kind : Operand) → is_kind kind (kind_of_letter a) ≡ true → returned_width (a ∷ rest) ≡ operand_width kind
kind_width a rest operand.Int e = grind (arith, nat_tests)
kind_width a rest operand.Long e = grind (arith, nat_tests)
kind_width a rest operand.Reference e = grind (arith, nat_tests)

type_width : (returned : List ℕ) (kind : Operand) → is_kind kind (operand_kind returned) ≡ true → returned_width returned ≡ operand_width kind
type_width [] operand.Int e = cc
type_width [] operand.Long e = cc
type_width [] operand.Reference e = cc
type_width (a ∷ rest) kind e = kind_width a rest kind e

value_width : (kind : Operand) (top below v : Value) → value_in kind top below ≡ Some v → length (entries_of v) ≡ operand_width kind
value_width operand.Int (Int n) w v e = let s : Int n ≡ v = cc in subst (λ (x : Value). length (entries_of x) ≡ 1) s refl
value_width operand.Int u w v e = cc
value_width operand.Long LongHigh (Long n) v e = let s : Long n ≡ v = cc in subst (λ (x : Value). length (entries_of x) ≡ 2) s refl
value_width operand.Long LongHigh w v e = cc
value_width operand.Long u w v e = cc
value_width operand.Reference Null w v e = let s : Null ≡ v = cc in subst (λ (x : Value). length (entries_of x) ≡ 1) s refl
value_width operand.Reference (Ref o) w v e = let s : Ref o ≡ v = cc in subst (λ (x : Value). length (entries_of x) ≡ 1) s refl
value_width operand.Reference u w v e = cc

none_width : (b : Bool) (ops : List Value) (value : Option Value) → (if b then values_of None ops else None) ≡ Some value → (b ≡ true) × (value ≡ None)
none_width true ops value e = (refl, cc)
none_width false ops value e = cc

some_width : (b : Bool) (kind : Operand) (found : Option Value) (value : Option Value) → (if b then option_map (λ (v : Value). Some v) found else None) ≡ Some value → (b ≡ true) × (found ≡ value)
some_width true kind (Some v) value e = (refl, cc)
some_width true kind None value e = cc
some_width false kind found value e = cc

pub width_returned : (kind : Option Operand) (returned : List ℕ) (ops : List Value) (value : Option Value) → returned_values kind returned ops ≡ Some value → length (returned_entries value) ≡ returned_width returned
width_returned None returned ops value e =
    let h = none_width (is_void returned) ops value e in
    ap (λ (w : Option Value). length (returned_entries w)) h.1 ∙ sym (ap (λ (b : Bool). if b then 0 else width_of returned) h.0)
width_returned (Some kind) returned ops None e =
    let h = some_width (is_kind kind (operand_kind returned)) kind (returned_value kind ops) None e in cc
width_returned (Some kind) returned ops (Some v) e =
    let h = some_width (is_kind kind (operand_kind returned)) kind (returned_value kind ops) (Some v) e in
    value_width kind (get_or ops 0 Unset) (get_or ops 1 Unset) v (value_on_top kind ops ∙ h.1) ∙ sym (type_width returned kind h.0)
