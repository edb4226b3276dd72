-- What is taken of a call, argument by argument.
use Rattle.std.proofs.Common.{◌≡◌, ℕ, suc, ◌+◌, ◌-◌, ◌<◌, arith, length, take, get_or, Bool, true, false, List, [], ◌∷◌, ◌++◌, Option, Some, None, refl, sym, ◌∙◌, ap}
use Rattle.std.specs.Prelude.{reverse, if◌then◌else◌, ◌==◌, option_map, option_and_then, unwrap_or, map, replicate}
use Rattle.std.proofs.lemmas.List.{reverse-append}
use Rattle.std.proofs.Math.Seq.{take-suc}
use Rattle.et_class.specs.Descriptors.{MethodType, method_type, is_void, width_of}
use Rattle.et_class.specs.Entries.{Item}
use Rattle.et_class.specs.Operands.{operand_kind}
use Rattle.et_class.specs.PoolOperands.Operand.{Operand}
use Rattle.et_class.specs.PoolOperands.Operand.TheVariants as operand
use Rattle.et_pool.specs.declared.operand.Returned.TheVariants.{Void, Value}
use Rattle.et_pool.specs.Operands.{Shape, shape_of, shape_in, return_of}
use Rattle.et_program.specs.Entries.{Linked}
use Rattle.et_program.specs.Referring.{Member, pool_of_class, member_described}
use Rattle.et_program.specs.Shapes.{shape_referred}
use Rattle.et_event.specs.Sites.{Site, site_member, pool_index}
use Rattle.et_flow.specs.declared.types.EntryType.{EntryType}
use Rattle.et_flow.specs.declared.types.EntryType.TheVariants as entry
use Rattle.et_verify.specs.Effects.{Effect, all_kinds, arguments_with, returned_kind, given_by, type_effect, call_effect, result_kind}
use Rattle.et_verify.specs.Steps.{below_taken, with_given, moved_where}
use Rattle.et_verify.specs.Calling.{arguments_taken, receiver_taken, called}

-- ONE AFTER ANOTHER

pub below_step : (k : Operand) (ks : List Operand) (ops : List EntryType) → below_taken (k ∷ ks) ops ≡ option_and_then (below_taken ks) (below_taken (k ∷ []) ops)
below_step operand.Int ks [] = refl
below_step operand.Int ks (entry.Free ∷ ts) = refl
below_step operand.Int ks (entry.Int ∷ ts) = refl
below_step operand.Int ks (entry.Long ∷ ts) = refl
below_step operand.Int ks (entry.LongHigh ∷ ts) = refl
below_step operand.Int ks (entry.Reference ∷ ts) = refl
below_step operand.Long ks [] = refl
below_step operand.Long ks (entry.Free ∷ ts) = refl
below_step operand.Long ks (entry.Int ∷ ts) = refl
below_step operand.Long ks (entry.Long ∷ ts) = refl
below_step operand.Long ks (entry.LongHigh ∷ []) = refl
below_step operand.Long ks (entry.LongHigh ∷ entry.Free ∷ ts) = refl
below_step operand.Long ks (entry.LongHigh ∷ entry.Int ∷ ts) = refl
below_step operand.Long ks (entry.LongHigh ∷ entry.Long ∷ ts) = refl
below_step operand.Long ks (entry.LongHigh ∷ entry.LongHigh ∷ ts) = refl
below_step operand.Long ks (entry.LongHigh ∷ entry.Reference ∷ ts) = refl
below_step operand.Long ks (entry.Reference ∷ ts) = refl
below_step operand.Reference ks [] = refl
below_step operand.Reference ks (entry.Free ∷ ts) = refl
below_step operand.Reference ks (entry.Int ∷ ts) = refl
below_step operand.Reference ks (entry.Long ∷ ts) = refl
below_step operand.Reference ks (entry.LongHigh ∷ ts) = refl
below_step operand.Reference ks (entry.Reference ∷ ts) = refl

after_taken : (xs ys : List Operand) (o : Option (List EntryType)) → ((left : List EntryType) → below_taken (xs ++ ys) left ≡ option_and_then (below_taken ys) (below_taken xs left)) → option_and_then (below_taken (xs ++ ys)) o ≡ option_and_then (below_taken ys) (option_and_then (below_taken xs) o)
after_taken xs ys None h = refl
after_taken xs ys (Some left) h = h left

pub below_append : (xs ys : List Operand) (ops : List EntryType) → below_taken (xs ++ ys) ops ≡ option_and_then (below_taken ys) (below_taken xs ops)
below_append [] ys ops = refl
below_append (k ∷ xs) ys ops = below_step k (xs ++ ys) ops ∙ (after_taken xs ys (below_taken (k ∷ []) ops) (λ left. below_append xs ys left) ∙ ap (option_and_then (below_taken ys)) (sym (below_step k xs ops)))

-- .. of ints, in the turns of a loop
pub int_taken : (count i : ℕ) (ops left : List EntryType) → i < count → below_taken (operand.Int ∷ []) ops ≡ Some left → below_taken (replicate (count - i) operand.Int) ops ≡ below_taken (replicate (count - (i + 1)) operand.Int) left
int_taken count i ops left lt e =
    let up : count - i ≡ suc (count - (i + 1)) = omega (arith, lt) in
    ap (λ (n : ℕ). below_taken (replicate n operand.Int) ops) up
    ∙ (below_step operand.Int (replicate (count - (i + 1)) operand.Int) ops ∙ ap (option_and_then (below_taken (replicate (count - (i + 1)) operand.Int))) e)

-- THE LAST ARGUMENT FIRST

all_last : (ks : List (Option Operand)) (k : Operand) → all_kinds (ks ++ Some k ∷ []) ≡ option_map (λ (xs : List Operand). xs ++ k ∷ []) (all_kinds ks)
all_last [] k = refl
all_last (None ∷ ks) k = refl
all_last (Some a ∷ ks) k = ap (option_map (λ (xs : List Operand). a ∷ xs)) (all_last ks k) ∙ by (all_kinds ks)
  where
    by : (o : Option (List Operand)) → option_map (λ (xs : List Operand). a ∷ xs) (option_map (λ (xs : List Operand). xs ++ k ∷ []) o) ≡ option_map (λ (xs : List Operand). xs ++ k ∷ []) (option_map (λ (xs : List Operand). a ∷ xs) o)
    by None = refl
    by (Some xs) = refl

all_none : (ks : List (Option Operand)) → all_kinds (ks ++ None ∷ []) ≡ None
all_none [] = refl
all_none (None ∷ ks) = refl
all_none (Some a ∷ ks) = ap (option_map (λ (xs : List Operand). a ∷ xs)) (all_none ks)

pub last_taken : (ks : List (Option Operand)) (k : Option Operand) (ops : List EntryType) → arguments_taken (ks ++ k ∷ []) ops ≡ option_and_then (arguments_taken ks) (arguments_taken (k ∷ []) ops)
last_taken ks None ops = ap (option_and_then (λ (xs : List Operand). below_taken (reverse xs) ops)) (all_none ks)
last_taken ks (Some k) ops = ap (option_and_then (λ (xs : List Operand). below_taken (reverse xs) ops)) (all_last ks k) ∙ (by (all_kinds ks) refl)
  where
    none : (o : Option (List EntryType)) → all_kinds ks ≡ None → None ≡ option_and_then (arguments_taken ks) o
    none None e = refl
    none (Some left) e = sym (ap (option_and_then (λ (xs : List Operand). below_taken (reverse xs) left)) e)

    some : (xs : List Operand) (o : Option (List EntryType)) → all_kinds ks ≡ Some xs → option_and_then (below_taken (reverse xs)) o ≡ option_and_then (arguments_taken ks) o
    some xs None e = refl
    some xs (Some left) e = sym (ap (option_and_then (λ (ys : List Operand). below_taken (reverse ys) left)) e)

    by : (o : Option (List Operand)) → all_kinds ks ≡ o → option_and_then (λ (xs : List Operand). below_taken (reverse xs) ops) (option_map (λ (xs : List Operand). xs ++ k ∷ []) o) ≡ option_and_then (arguments_taken ks) (below_taken (k ∷ []) ops)
    by None e = none (below_taken (k ∷ []) ops) e
    by (Some xs) e = ap (λ (ys : List Operand). below_taken ys ops) (reverse-append xs (k ∷ [])) ∙ (below_step k (reverse xs) ops ∙ some xs (below_taken (k ∷ []) ops) e)

-- .. in the turns of a loop
pub turn_taken : (kinds : List (Option Operand)) (n : ℕ) (ops : List EntryType) → n < length kinds → arguments_taken (take (length kinds - n) kinds) ops ≡ option_and_then (arguments_taken (take (length kinds - (n + 1)) kinds)) (arguments_taken (get_or kinds (length kinds - 1 - n) None ∷ []) ops)
turn_taken kinds n ops lt =
    let j = length kinds - 1 - n in
    let up : length kinds - n ≡ suc j = omega (arith, lt) in
    let same : j ≡ length kinds - (n + 1) = omega (arith, lt) in
    let inside : j < length kinds = omega (arith, lt) in
    ap (λ (i : ℕ). arguments_taken (take i kinds) ops) up
    ∙ (ap (λ (ks : List (Option Operand)). arguments_taken ks ops) (take-suc kinds j None inside)
    ∙ (last_taken (take j kinds) (get_or kinds j None) ops
    ∙ ap (λ (i : ℕ). option_and_then (arguments_taken (take i kinds)) (arguments_taken (get_or kinds j None ∷ []) ops)) same))

-- A CALL, by what is read off its descriptor

given_is : (returned : List ℕ) → returned_kind returned ≡ given_by (return_of returned)
given_is returned = by (is_void returned)
  where
    kind : (o : Option Operand) → Some (unwrap_or o (if width_of returned == 2 then operand.Long else operand.Int)) ≡ given_by (Value o (width_of returned))
    kind None = refl
    kind (Some k) = refl

    by : (b : Bool) → (if b then None else Some (result_kind returned)) ≡ given_by (if b then Void else Value (operand_kind returned) (width_of returned))
    by true = refl
    by false = kind (operand_kind returned)

abbrev shape_effect : Bool → Shape → Option Effect
shape_effect static shape = option_map (λ kinds. record { taken = reverse (arguments_with static kinds); given = given_by shape.returned }) (all_kinds shape.kinds)

shaped_effect : (static : Bool) (type : MethodType) → type_effect static type ≡ shape_effect static (shape_of type)
shaped_effect static type = ap (λ (g : Option Operand). option_map (λ kinds. let x : Effect = record { taken = reverse (arguments_with static kinds); given = g } in x) (all_kinds (map operand_kind type.parameters))) (given_is type.returned)

moved_called : (static : Bool) (shape : Shape) (ops : List EntryType) → moved_where (shape_effect static shape) ops ≡ called static shape ops
moved_called static shape ops = by (all_kinds shape.kinds)
  where
    same : (o : Option (List EntryType)) → o ≡ option_and_then (receiver_taken true) o
    same None = refl
    same (Some left) = refl

    taken : (static : Bool) (ks : List Operand) → below_taken (reverse (arguments_with static ks)) ops ≡ option_and_then (receiver_taken static) (below_taken (reverse ks) ops)
    taken true ks = same (below_taken (reverse ks) ops)
    taken false ks = ap (λ (xs : List Operand). below_taken xs ops) (reverse-append (operand.Reference ∷ []) ks) ∙ below_append (reverse ks) (operand.Reference ∷ []) ops

    by : (o : Option (List Operand)) → moved_where (option_map (λ kinds. record { taken = reverse (arguments_with static kinds); given = given_by shape.returned }) o) ops ≡ option_map (with_given (given_by shape.returned)) (option_and_then (receiver_taken static) (option_and_then (λ (ks : List Operand). below_taken (reverse ks) ops) o))
    by None = refl
    by (Some ks) = ap (option_map (with_given (given_by shape.returned))) (taken static ks)

abbrev named_shape : Option Member → Option Shape
named_shape o = option_and_then (λ (m : Member). shape_in m.descriptor) o

shape_is : (p : Linked) (class index : ℕ) (at : Site) → at.pool ≡ pool_of_class p class → index ≡ pool_index at → shape_referred p class index ≡ named_shape (site_member at)
shape_is p class index at pool same =
    ap (λ (s : List (Option Item)). named_shape (member_described s index)) (sym pool) ∙ ap (λ (i : ℕ). named_shape (member_described at.pool i)) same

by_type : (static : Bool) (o : Option MethodType) → option_and_then (type_effect static) o ≡ option_and_then (shape_effect static) (option_map shape_of o)
by_type static None = refl
by_type static (Some type) = shaped_effect static type

by_member : (static : Bool) (o : Option Member) → option_and_then (λ (m : Member). option_and_then (type_effect static) (method_type m.descriptor)) o ≡ option_and_then (shape_effect static) (named_shape o)
by_member static None = refl
by_member static (Some m) = by_type static (method_type m.descriptor)

effect_is : (p : Linked) (class index : ℕ) (at : Site) (static : Bool) → at.pool ≡ pool_of_class p class → index ≡ pool_index at → call_effect at static ≡ option_and_then (shape_effect static) (shape_referred p class index)
effect_is p class index at static pool same = by_member static (site_member at) ∙ ap (option_and_then (shape_effect static)) (sym (shape_is p class index at pool same))

pub call_shaped : (p : Linked) (class index : ℕ) (at : Site) (static : Bool) (shape : Shape) (ops : List EntryType) → at.pool ≡ pool_of_class p class → index ≡ pool_index at → Some shape ≡ shape_referred p class index → moved_where (call_effect at static) ops ≡ called static shape ops
call_shaped p class index at static shape ops pool same e =
    ap (λ (x : Option Effect). moved_where x ops) (effect_is p class index at static pool same ∙ ap (option_and_then (shape_effect static)) (sym e)) ∙ moved_called static shape ops

pub call_unshaped : (p : Linked) (class index : ℕ) (at : Site) (static : Bool) (ops : List EntryType) → at.pool ≡ pool_of_class p class → index ≡ pool_index at → None ≡ shape_referred p class index → moved_where (call_effect at static) ops ≡ None
call_unshaped p class index at static ops pool same e =
    ap (λ (x : Option Effect). moved_where x ops) (effect_is p class index at static pool same ∙ ap (option_and_then (shape_effect static)) (sym e))
