-- The types after an instruction fit where those before it do: no operand is of type Free.
use Rattle.std.proofs.Common.{◌≡◌, ℕ, ◌+◌, ◌<◌, ◌≤◌, ◌&&◌, Bool, true, false, List, [], ◌∷◌, ◌++◌, length, get_or, drop, Option, Some, None, refl, ◌∙◌, subst, arith}
use Rattle.std.specs.Prelude.{if◌then◌else◌, map, sum, All, option_and_then, option_map}
use Rattle.std.proofs.lemmas.Bool.{and_parts, false≢true}
use Rattle.std.proofs.lemmas.List.{length-drop}
use Rattle.std.proofs.lemmas.List.Elements.{All-nil, All-cons, All-tail, All-append, All-drop, All-map, All-get_or}
use Rattle.et_class.specs.PoolOperands.Operand.{Operand}
use Rattle.et_class.specs.PoolOperands.Operand.TheVariants as operand
use Rattle.et_code.specs.Bodies.{Body}
use Rattle.et_event.specs.declared.rows.Rearrangement.{Rearrangement}
use Rattle.et_event.specs.declared.rows.Rearrangement.TheVariants as stack
use Rattle.et_event.specs.declared.rows.FrameRow.TheVariants as row
use Rattle.et_event.specs.declared.rows.Row.{Row}
use Rattle.et_event.specs.declared.rows.Row.TheVariants as rows
use Rattle.et_event.specs.Plain.{groups_of, operand_places}
use Rattle.et_event.specs.Sites.{Site}
use Rattle.et_flow.specs.declared.types.EntryType.{EntryType}
use Rattle.et_flow.specs.declared.types.EntryType.TheVariants as entry
use Rattle.et_flow.specs.Types.{TypesOf, operand_entries}
use Rattle.et_verify.specs.Effects.{Effect, effect, frame_effect}
use Rattle.et_verify.specs.Steps.{below_taken, with_given, is_one, is_pair, have_groups, rearranged_types, moved_by, operands_after, locals_after, types_after}
use Rattle.et_verify.specs.Typings.{FitFrame}
use Rattle.et_verify.proofs.Taken.{Takes, takes, FitsAs, fits_as}

abbrev IsUsed : EntryType → Type 0
IsUsed t = t ≡ entry.Free → ⊥

abbrev AreUsed : Option (List EntryType) → Type 0
AreUsed None = Unit {0}
AreUsed (Some ts) = All IsUsed ts

-- TAKEN AND GIVEN

rest_used : (kind : Operand) (rest : List EntryType) → All IsUsed (operand_entries kind ++ rest) → All IsUsed rest
rest_used operand.Int rest h = All-tail IsUsed entry.Int rest h
rest_used operand.Long rest h = All-tail IsUsed entry.Long rest (All-tail IsUsed entry.LongHigh (entry.Long ∷ rest) h)
rest_used operand.Reference rest h = All-tail IsUsed entry.Reference rest h

left_used : (kinds : List Operand) (types : List EntryType) → All IsUsed types → AreUsed (below_taken kinds types)
left_used kinds types h = by (below_taken kinds types) refl
  where
    on : (ks : List Operand) (ts left : List EntryType) → All IsUsed ts → below_taken ks ts ≡ Some left → All IsUsed left
    on [] ts left u e = subst (λ (o : Option (List EntryType)). AreUsed o) e u
    on (kind ∷ ks) ts left u e =
        let t : Takes kind ks ts left = takes kind ks ts left e in
        on ks t.rest left (rest_used kind t.rest (subst (λ (xs : List EntryType). All IsUsed xs) t.types_are u)) t.more

    by : (o : Option (List EntryType)) → below_taken kinds types ≡ o → AreUsed o
    by None e = tt
    by (Some left) e = on kinds types left h e

entries_used : (kind : Operand) (ops : List EntryType) → All IsUsed ops → All IsUsed (operand_entries kind ++ ops)
entries_used operand.Int ops h = All-cons IsUsed entry.Int ops (λ e. cc) h
entries_used operand.Long ops h = All-cons IsUsed entry.LongHigh (entry.Long ∷ ops) (λ e. cc) (All-cons IsUsed entry.Long ops (λ e. cc) h)
entries_used operand.Reference ops h = All-cons IsUsed entry.Reference ops (λ e. cc) h

given_used : (kind : Option Operand) (ops : List EntryType) → All IsUsed ops → All IsUsed (with_given kind ops)
given_used None ops h = h
given_used (Some kind) ops h = entries_used kind ops h

moved_used : (x : Effect) (ops : List EntryType) → All IsUsed ops → AreUsed (moved_by x ops)
moved_used x ops h = by (below_taken x.taken ops) (left_used x.taken ops h)
  where
    by : (o : Option (List EntryType)) → AreUsed o → AreUsed (option_map (with_given x.given) o)
    by None u = tt
    by (Some left) u = given_used x.given left u

effect_used : (x : Option Effect) (ops : List EntryType) → All IsUsed ops → AreUsed (option_and_then (λ (y : Effect). moved_by y ops) x)
effect_used None ops h = tt
effect_used (Some x) ops h = moved_used x ops h

-- REARRANGED

has_one : (ops : List EntryType) → is_one ops ≡ true → 1 ≤ length ops
has_one [] e = absurd (false≢true e)
has_one (t ∷ ops) e = omega arith

has_two : (ops : List EntryType) → is_pair ops ≡ true → 2 ≤ length ops
has_two [] e = absurd (false≢true e)
has_two (entry.Free ∷ []) e = absurd (false≢true e)
has_two (entry.Int ∷ []) e = absurd (false≢true e)
has_two (entry.Long ∷ []) e = absurd (false≢true e)
has_two (entry.LongHigh ∷ []) e = absurd (false≢true e)
has_two (entry.Reference ∷ []) e = absurd (false≢true e)
has_two (t ∷ u ∷ ops) e = omega arith

one_more : (sizes : List ℕ) (n : ℕ) (ops : List EntryType) → (is_one ops && have_groups sizes (drop 1 ops)) ≡ true → (have_groups sizes (drop 1 ops) ≡ true → n ≤ length (drop 1 ops)) → 1 + n ≤ length ops
one_more sizes n ops e h =
    let p = and_parts (is_one ops) (have_groups sizes (drop 1 ops)) e in
    omega (arith, has_one ops p.0, h p.1, length-drop 1 ops)

two_more : (sizes : List ℕ) (n : ℕ) (ops : List EntryType) → (is_pair ops && have_groups sizes (drop 2 ops)) ≡ true → (have_groups sizes (drop 2 ops) ≡ true → n ≤ length (drop 2 ops)) → 2 + n ≤ length ops
two_more sizes n ops e h =
    let p = and_parts (is_pair ops) (have_groups sizes (drop 2 ops)) e in
    omega (arith, has_two ops p.0, h p.1, length-drop 2 ops)

groups_long : (r : Rearrangement) (ops : List EntryType) → have_groups (groups_of r) ops ≡ true → sum (groups_of r) ≤ length ops
groups_long stack.Nop ops e = omega arith
groups_long stack.Pop ops e = one_more [] 0 ops e (λ q. omega arith)
groups_long stack.Pop2 ops e = two_more [] 0 ops e (λ q. omega arith)
groups_long stack.Dup ops e = one_more [] 0 ops e (λ q. omega arith)
groups_long stack.DupX1 ops e = one_more (1 ∷ []) 1 ops e (λ q. one_more [] 0 (drop 1 ops) q (λ w. omega arith))
groups_long stack.DupX2 ops e = one_more (2 ∷ []) 2 ops e (λ q. two_more [] 0 (drop 1 ops) q (λ w. omega arith))
groups_long stack.Dup2 ops e = two_more [] 0 ops e (λ q. omega arith)
groups_long stack.Dup2X1 ops e = two_more (1 ∷ []) 1 ops e (λ q. one_more [] 0 (drop 2 ops) q (λ w. omega arith))
groups_long stack.Dup2X2 ops e = two_more (2 ∷ []) 2 ops e (λ q. two_more [] 0 (drop 2 ops) q (λ w. omega arith))
groups_long stack.Swap ops e = one_more (1 ∷ []) 1 ops e (λ q. one_more [] 0 (drop 1 ops) q (λ w. omega arith))

module _ (ops : List EntryType) (used : All IsUsed ops) where
  abbrev IsPlaceUsed : ℕ → Type 0
  IsPlaceUsed k = IsUsed (get_or ops k entry.Free)

  at_place : (k : ℕ) → k < length ops → IsPlaceUsed k
  at_place k lt = All-get_or IsUsed ops k entry.Free lt used

  one_place : (k : ℕ) (ks : List ℕ) → k < length ops → All IsPlaceUsed ks → All IsPlaceUsed (k ∷ ks)
  one_place k ks lt h = All-cons IsPlaceUsed k ks (at_place k lt) h

  no_place : All IsPlaceUsed []
  no_place = All-nil IsPlaceUsed

  places_used : (r : Rearrangement) → sum (groups_of r) ≤ length ops → All IsPlaceUsed (operand_places r)
  places_used stack.Nop le = no_place
  places_used stack.Pop le = no_place
  places_used stack.Pop2 le = no_place
  places_used stack.Dup le = one_place 0 (0 ∷ []) (omega arith) (one_place 0 [] (omega arith) no_place)
  places_used stack.DupX1 le = one_place 0 (1 ∷ 0 ∷ []) (omega arith) (one_place 1 (0 ∷ []) (omega arith) (one_place 0 [] (omega arith) no_place))
  places_used stack.DupX2 le = one_place 0 (1 ∷ 2 ∷ 0 ∷ []) (omega arith) (one_place 1 (2 ∷ 0 ∷ []) (omega arith) (one_place 2 (0 ∷ []) (omega arith) (one_place 0 [] (omega arith) no_place)))
  places_used stack.Dup2 le = one_place 0 (1 ∷ 0 ∷ 1 ∷ []) (omega arith) (one_place 1 (0 ∷ 1 ∷ []) (omega arith) (one_place 0 (1 ∷ []) (omega arith) (one_place 1 [] (omega arith) no_place)))
  places_used stack.Dup2X1 le = one_place 0 (1 ∷ 2 ∷ 0 ∷ 1 ∷ []) (omega arith) (one_place 1 (2 ∷ 0 ∷ 1 ∷ []) (omega arith) (one_place 2 (0 ∷ 1 ∷ []) (omega arith) (one_place 0 (1 ∷ []) (omega arith) (one_place 1 [] (omega arith) no_place))))
  places_used stack.Dup2X2 le =
      one_place 0 (1 ∷ 2 ∷ 3 ∷ 0 ∷ 1 ∷ []) (omega arith) (one_place 1 (2 ∷ 3 ∷ 0 ∷ 1 ∷ []) (omega arith) (one_place 2 (3 ∷ 0 ∷ 1 ∷ []) (omega arith) (one_place 3 (0 ∷ 1 ∷ []) (omega arith) (one_place 0 (1 ∷ []) (omega arith) (one_place 1 [] (omega arith) no_place)))))
  places_used stack.Swap le = one_place 1 (0 ∷ []) (omega arith) (one_place 0 [] (omega arith) no_place)

  rearranged_used : (r : Rearrangement) → AreUsed (rearranged_types r ops)
  rearranged_used r = by (have_groups (groups_of r) ops) refl
    where
      by : (b : Bool) → have_groups (groups_of r) ops ≡ b → AreUsed (if b then Some (map (λ (k : ℕ). get_or ops k entry.Free) (operand_places r) ++ drop (sum (groups_of r)) ops) else None)
      by false e = tt
      by true e =
          All-append IsUsed (map (λ (k : ℕ). get_or ops k entry.Free) (operand_places r)) (drop (sum (groups_of r)) ops)
          (All-map IsUsed (λ (k : ℕ). get_or ops k entry.Free) (operand_places r) (places_used r (groups_long r ops e)))
          (All-drop IsUsed (sum (groups_of r)) ops used)

-- ROW BY ROW

after_used : (returned : List ℕ) (at : Site) (r : Row) (ops : List EntryType) → All IsUsed ops → AreUsed (operands_after returned at r ops)
after_used returned at (rows.Frame (row.Rearrange r)) ops h = rearranged_used ops h r
after_used returned at (rows.Frame row.Null) ops h = moved_used (frame_effect row.Null) ops h
after_used returned at (rows.Frame (row.Int n)) ops h = moved_used (frame_effect (row.Int n)) ops h
after_used returned at (rows.Frame (row.Long n)) ops h = moved_used (frame_effect (row.Long n)) ops h
after_used returned at (rows.Frame row.Immediate) ops h = moved_used (frame_effect row.Immediate) ops h
after_used returned at (rows.Frame (row.Load kind local)) ops h = moved_used (frame_effect (row.Load kind local)) ops h
after_used returned at (rows.Frame (row.Store kind local)) ops h = moved_used (frame_effect (row.Store kind local)) ops h
after_used returned at (rows.Frame row.Increment) ops h = moved_used (frame_effect row.Increment) ops h
after_used returned at (rows.Frame (row.Arithmetic n o)) ops h = moved_used (frame_effect (row.Arithmetic n o)) ops h
after_used returned at (rows.Frame (row.Negate n)) ops h = moved_used (frame_effect (row.Negate n)) ops h
after_used returned at (rows.Frame (row.Shift n s)) ops h = moved_used (frame_effect (row.Shift n s)) ops h
after_used returned at (rows.Frame (row.Convert c)) ops h = moved_used (frame_effect (row.Convert c)) ops h
after_used returned at (rows.Frame row.CompareLongs) ops h = moved_used (frame_effect row.CompareLongs) ops h
after_used returned at (rows.Frame (row.Branch c)) ops h = moved_used (frame_effect (row.Branch c)) ops h
after_used returned at (rows.Frame row.Switch) ops h = moved_used (frame_effect row.Switch) ops h
after_used returned at rows.PoolConstant ops h = effect_used (effect returned at rows.PoolConstant) ops h
after_used returned at (rows.Divide n o) ops h = effect_used (effect returned at (rows.Divide n o)) ops h
after_used returned at (rows.Heap r) ops h = effect_used (effect returned at (rows.Heap r)) ops h
after_used returned at (rows.Call r) ops h = effect_used (effect returned at (rows.Call r)) ops h
after_used returned at rows.Throw ops h = effect_used (effect returned at rows.Throw) ops h
after_used returned at (rows.Monitor r) ops h = effect_used (effect returned at (rows.Monitor r)) ops h

pub after_fits : (body : Body) (returned : List ℕ) (at : Site) (r : Row) (ts after : TypesOf) → FitFrame body ts → length after.locals ≡ length ts.locals → types_after body.max_stack returned at r ts ≡ Some after → FitFrame body after
after_fits body returned at r ts after fit long e =
    let f : FitsAs body.max_stack (operands_after returned at r ts.operands) (locals_after at r ts.locals) after = fits_as body.max_stack (operands_after returned at r ts.operands) (locals_after at r ts.locals) after e in
    record {
      used = subst (λ (o : Option (List EntryType)). AreUsed o) f.operands (after_used returned at r ts.operands fit.used);
      few = f.few;
      locals = long ∙ fit.locals;
    }
