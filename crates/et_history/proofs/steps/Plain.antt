-- The plain instructions: what the frame refers to after one, it referred to before.
use Rattle.std.proofs.Common.{ℕ, ◌+◌, ◌-◌, Bool, true, false, leb, ltb, List, [], ◌∷◌, ◌++◌, length, set, get_or, drop, map, Option, Some, None}
use Rattle.std.specs.Prelude.{ℤ, IfSome, if◌then◌else◌, option_map, sum}
use Rattle.et_base.specs.declared.value.Value.{Value}
use Rattle.et_base.specs.declared.value.Value.TheVariants.{Unset, Int, Long, LongHigh, Null, Ref}
use Rattle.et_heap.specs.Objects.{Objects}
use Rattle.et_state.specs.Threads.{FrameState, local_of}
use Rattle.et_event.specs.PoolOperands.Operand.{Operand}
use Rattle.et_event.specs.PoolOperands.Operand.TheVariants as operand
use Rattle.et_event.specs.declared.rows.Local.TheVariants.{Named}
use Rattle.et_event.specs.declared.rows.Number.{Number}
use Rattle.et_event.specs.declared.rows.Number.TheVariants as number
use Rattle.et_event.specs.declared.rows.Rearrangement.{Rearrangement}
use Rattle.et_event.specs.declared.rows.Arithmetic.{Arithmetic}
use Rattle.et_event.specs.declared.rows.Shift.{Shift}
use Rattle.et_event.specs.declared.rows.Conversion.{Conversion}
use Rattle.et_event.specs.declared.rows.Conversion.TheVariants.{IntToLong, LongToInt, IntToByte, IntToChar, IntToShort}
use Rattle.et_event.specs.declared.rows.Condition.{Condition}
use Rattle.et_event.specs.declared.rows.Condition.TheVariants as when
use Rattle.et_event.specs.declared.rows.FrameRow.{FrameRow}
use Rattle.et_event.specs.declared.rows.FrameRow.TheVariants as row
use Rattle.et_event.specs.Plain.{put, put_some, with_locals, other_half_unset, freed, one_stored, long_stored, stored, increased, loaded, loaded_long, are_groups, groups_of, operand_places, rearranged, combined, negated, values_moved, converted, compared, condition_tested, branched, switched, frame_after}
use Rattle.et_event.specs.Sites.{Site, local_index}
use Rattle.et_history.specs.steps.Values.{Fine, Fines, FineFrame}
use Rattle.et_history.proofs.steps.Values.{fine_at, fines_set, fines_append, fines_drop}
use Rattle.et_history.proofs.steps.Taken.{any_int, any_long, any_reference}

abbrev pub FineFrameSome : Objects → Option FrameState → Type 0
FineFrameSome h o = IfSome o (λ f. FineFrame h f)

abbrev FinesSome : Objects → Option (List Value) → Type 0
FinesSome h o = IfSome o (λ vs. Fines h vs)

some_if : (h : Objects) (b : Bool) (f : FrameState) → FineFrame h f → FineFrameSome h (if b then Some f else None)
some_if h true f fine = fine
some_if h false f fine = tt

pub put_fine : (h : Objects) (pc : ℕ) (ops : List Value) (f : FrameState) → FineFrame h f → Fines h ops → FineFrameSome h (put pc ops f)
put_fine h pc ops f fine g = some_if h (leb (length ops) f.room) (record f { pc = pc; operands = ops }) (record { locals = fine.locals; operands = g; lock = fine.lock })

put_some_fine : (h : Objects) (pc : ℕ) (ops : Option (List Value)) (f : FrameState) → FineFrame h f → FinesSome h ops → FineFrameSome h (put_some pc ops f)
put_some_fine h pc None f fine g = tt
put_some_fine h pc (Some ops) f fine g = put_fine h pc ops f fine g

locals_fine : (h : Objects) (pc last : ℕ) (locals ops : List Value) (f : FrameState) → FineFrame h f → Fines h locals → Fines h ops → FineFrameSome h (with_locals pc last locals ops f)
locals_fine h pc last locals ops f fine g i = some_if h (ltb last (length f.locals)) (record f { pc = pc; locals = locals; operands = ops }) (record { locals = g; operands = i; lock = fine.lock })

-- LOADS AND STORES

long_loaded : (h : Objects) (low high : Value) → FinesSome h (loaded_long low high)
long_loaded h Unset high = tt
long_loaded h (Int n) high = tt
long_loaded h (Long n) Unset = tt
long_loaded h (Long n) (Int m) = tt
long_loaded h (Long n) (Long m) = tt
long_loaded h (Long n) LongHigh = (tt, (tt, tt))
long_loaded h (Long n) Null = tt
long_loaded h (Long n) (Ref o) = tt
long_loaded h LongHigh high = tt
long_loaded h Null high = tt
long_loaded h (Ref o) high = tt

loaded_fine : (h : Objects) (kind : Operand) (i : ℕ) (f : FrameState) → FineFrame h f → FinesSome h (loaded kind i f)
loaded_fine h operand.Int i f fine = any_int (FinesSome h) None tt h (local_of f i ∷ []) _ (fine_at h f.locals i fine.locals, tt) (λ n below g. (tt, tt))
loaded_fine h operand.Long i f fine = long_loaded h (local_of f i) (local_of f (i + 1))
loaded_fine h operand.Reference i f fine =
    any_reference (FinesSome h) None tt h (local_of f i ∷ []) _ (fine_at h f.locals i fine.locals, tt) (λ r below held g. (fine_at h f.locals i fine.locals, tt))

onto : (h : Objects) (ops : List Value) (o : Option (List Value)) → Fines h ops → FinesSome h o → FinesSome h (option_map (λ vs. vs ++ ops) o)
onto h ops None g i = tt
onto h ops (Some vs) g i = fines_append h vs ops i g

half_fine : (h : Objects) (i : ℕ) (v : Value) (locals : List Value) → Fines h locals → Fines h (other_half_unset i v locals)
half_fine h i Unset locals g = g
half_fine h i (Int n) locals g = g
half_fine h i (Long n) locals g = fines_set h locals (i + 1) Unset tt g
half_fine h i LongHigh locals g = fines_set h locals (i - 1) Unset tt g
half_fine h i Null locals g = g
half_fine h i (Ref o) locals g = g

freed_fine : (h : Objects) (i : ℕ) (locals : List Value) → Fines h locals → Fines h (freed i locals)
freed_fine h i locals g = half_fine h i (get_or locals i Unset) locals g

one_fine : (h : Objects) (i : ℕ) (v : Value) (locals : List Value) → Fine h v → Fines h locals → Fines h (one_stored i v locals)
one_fine h i v locals f g = fines_set h (freed i locals) i v f (freed_fine h i locals g)

long_fine : (h : Objects) (i : ℕ) (n : ℤ) (locals : List Value) → Fines h locals → Fines h (long_stored i n locals)
long_fine h i n locals g =
    fines_set h (set (freed (i + 1) (freed i locals)) i (Long n)) (i + 1) LongHigh tt (fines_set h (freed (i + 1) (freed i locals)) i (Long n) tt (freed_fine h (i + 1) (freed i locals) (freed_fine h i locals g)))

stored_fine : (h : Objects) (pc : ℕ) (kind : Operand) (i : ℕ) (f : FrameState) → FineFrame h f → FineFrameSome h (stored pc kind i f)
stored_fine h pc operand.Int i f fine =
    any_int (FineFrameSome h) None tt h f.operands _ fine.operands (λ n below g. locals_fine h pc i (one_stored i (Int n) f.locals) below f fine (one_fine h i (Int n) f.locals tt fine.locals) g)
stored_fine h pc operand.Long i f fine =
    any_long (FineFrameSome h) None tt h f.operands _ fine.operands (λ n below g. locals_fine h pc (i + 1) (long_stored i n f.locals) below f fine (long_fine h i n f.locals fine.locals) g)
stored_fine h pc operand.Reference i f fine =
    any_reference (FineFrameSome h) None tt h f.operands _ fine.operands (λ r below held g.
    locals_fine h pc i (one_stored i (get_or f.operands 0 Unset) f.locals) below f fine (one_fine h i (get_or f.operands 0 Unset) f.locals (fine_at h f.operands 0 fine.operands) fine.locals) g)

increased_fine : (h : Objects) (pc i : ℕ) (by : ℤ) (f : FrameState) → FineFrame h f → FineFrameSome h (increased pc i by f)
increased_fine h pc i by f fine =
    any_int (FineFrameSome h) None tt h (local_of f i ∷ []) _ (fine_at h f.locals i fine.locals, tt) (λ n below g. locals_fine h pc i _ f.operands f fine (fines_set h f.locals i _ tt fine.locals) fine.operands)

-- REARRANGEMENTS

places_fine : (h : Objects) (ops : List Value) (ks : List ℕ) → Fines h ops → Fines h (map (λ k. get_or ops k Unset) ks)
places_fine h ops [] g = tt
places_fine h ops (k ∷ ks) g = (fine_at h ops k g, places_fine h ops ks g)

if_fine : (h : Objects) (b : Bool) (o : Option FrameState) → FineFrameSome h o → FineFrameSome h (if b then o else None)
if_fine h true o g = g
if_fine h false o g = tt

rearranged_fine : (h : Objects) (pc : ℕ) (r : Rearrangement) (f : FrameState) → FineFrame h f → FineFrameSome h (rearranged pc r f)
rearranged_fine h pc r f fine =
    if_fine h (are_groups (groups_of r) f.operands) (put pc (map (λ k. get_or f.operands k Unset) (operand_places r) ++ drop (sum (groups_of r)) f.operands) f)
    (put_fine h pc (map (λ k. get_or f.operands k Unset) (operand_places r) ++ drop (sum (groups_of r)) f.operands) f fine
    (fines_append h (map (λ k. get_or f.operands k Unset) (operand_places r)) (drop (sum (groups_of r)) f.operands) (places_fine h f.operands (operand_places r) fine.operands) (fines_drop h (sum (groups_of r)) f.operands fine.operands)))

-- NUMBERS

combined_fine : (h : Objects) (n : Number) (o : Arithmetic) (ops : List Value) → Fines h ops → FinesSome h (combined n o ops)
combined_fine h number.Int o ops g = any_int (FinesSome h) None tt h ops _ g (λ b more i. any_int (FinesSome h) None tt h more _ i (λ a below j. (tt, j)))
combined_fine h number.Long o ops g = any_long (FinesSome h) None tt h ops _ g (λ b more i. any_long (FinesSome h) None tt h more _ i (λ a below j. (tt, (tt, j))))

negated_fine : (h : Objects) (n : Number) (ops : List Value) → Fines h ops → FinesSome h (negated n ops)
negated_fine h number.Int ops g = any_int (FinesSome h) None tt h ops _ g (λ a below j. (tt, j))
negated_fine h number.Long ops g = any_long (FinesSome h) None tt h ops _ g (λ a below j. (tt, (tt, j)))

moved_fine : (h : Objects) (n : Number) (s : Shift) (ops : List Value) → Fines h ops → FinesSome h (values_moved n s ops)
moved_fine h number.Int s ops g = any_int (FinesSome h) None tt h ops _ g (λ b more i. any_int (FinesSome h) None tt h more _ i (λ a below j. (tt, j)))
moved_fine h number.Long s ops g = any_int (FinesSome h) None tt h ops _ g (λ b more i. any_long (FinesSome h) None tt h more _ i (λ a below j. (tt, (tt, j))))

converted_fine : (h : Objects) (c : Conversion) (ops : List Value) → Fines h ops → FinesSome h (converted c ops)
converted_fine h IntToLong ops g = any_int (FinesSome h) None tt h ops _ g (λ a below j. (tt, (tt, j)))
converted_fine h LongToInt ops g = any_long (FinesSome h) None tt h ops _ g (λ a below j. (tt, j))
converted_fine h IntToByte ops g = any_int (FinesSome h) None tt h ops _ g (λ a below j. (tt, j))
converted_fine h IntToChar ops g = any_int (FinesSome h) None tt h ops _ g (λ a below j. (tt, j))
converted_fine h IntToShort ops g = any_int (FinesSome h) None tt h ops _ g (λ a below j. (tt, j))

compared_fine : (h : Objects) (ops : List Value) → Fines h ops → FinesSome h (compared ops)
compared_fine h ops g = any_long (FinesSome h) None tt h ops _ g (λ b more i. any_long (FinesSome h) None tt h more _ i (λ a below j. (tt, j)))

-- BRANCHES

abbrev FineTest : Objects → Option (Bool × List Value) → Type 0
FineTest h o = IfSome o (λ x. Fines h x.1)

tested_fine : (h : Objects) (c : Condition) (ops : List Value) → Fines h ops → FineTest h (condition_tested c ops)
tested_fine h when.Always ops g = g
tested_fine h (when.WithZero c) ops g = any_int (FineTest h) None tt h ops _ g (λ a below j. j)
tested_fine h (when.OfInts c) ops g = any_int (FineTest h) None tt h ops _ g (λ b more i. any_int (FineTest h) None tt h more _ i (λ a below j. j))
tested_fine h when.SameReference ops g = any_reference (FineTest h) None tt h ops _ g (λ b more held i. any_reference (FineTest h) None tt h more _ i (λ a below held' j. j))
tested_fine h when.OtherReference ops g = any_reference (FineTest h) None tt h ops _ g (λ b more held i. any_reference (FineTest h) None tt h more _ i (λ a below held' j. j))
tested_fine h when.Null ops g = any_reference (FineTest h) None tt h ops _ g (λ a below held j. j)
tested_fine h when.NotNull ops g = any_reference (FineTest h) None tt h ops _ g (λ a below held j. j)

branched_fine : (h : Objects) (at : Site) (f : FrameState) (o : Option (Bool × List Value)) → FineFrame h f → FineTest h o → FineFrameSome h (option_map (branched at f) o)
branched_fine h at f None fine g = tt
branched_fine h at f (Some x) fine g = record { locals = fine.locals; operands = g; lock = fine.lock }

switched_fine : (h : Objects) (at : Site) (f : FrameState) → FineFrame h f → FineFrameSome h (switched at f)
switched_fine h at f fine = any_int (FineFrameSome h) None tt h f.operands _ fine.operands (λ key below g. record { locals = fine.locals; operands = g; lock = fine.lock })

pub after_fine : (h : Objects) (at : Site) (r : FrameRow) (f : FrameState) → FineFrame h f → FineFrameSome h (frame_after at r f)
after_fine h at row.Null f fine = put_fine h at.next (Null ∷ f.operands) f fine (tt, fine.operands)
after_fine h at (row.Int n) f fine = put_fine h at.next (Int n ∷ f.operands) f fine (tt, fine.operands)
after_fine h at (row.Long n) f fine = put_fine h at.next (LongHigh ∷ Long n ∷ f.operands) f fine (tt, (tt, fine.operands))
after_fine h at row.Immediate f fine = put_fine h at.next (Int at.instr.first ∷ f.operands) f fine (tt, fine.operands)
after_fine h at (row.Load kind local) f fine =
    put_some_fine h at.next (option_map (λ vs. vs ++ f.operands) (loaded kind (local_index local at) f)) f fine (onto h f.operands (loaded kind (local_index local at) f) fine.operands (loaded_fine h kind (local_index local at) f fine))
after_fine h at (row.Store kind local) f fine = stored_fine h at.next kind (local_index local at) f fine
after_fine h at row.Increment f fine = increased_fine h at.next (local_index Named at) at.instr.second f fine
after_fine h at (row.Rearrange r) f fine = rearranged_fine h at.next r f fine
after_fine h at (row.Arithmetic n o) f fine = put_some_fine h at.next (combined n o f.operands) f fine (combined_fine h n o f.operands fine.operands)
after_fine h at (row.Negate n) f fine = put_some_fine h at.next (negated n f.operands) f fine (negated_fine h n f.operands fine.operands)
after_fine h at (row.Shift n s) f fine = put_some_fine h at.next (values_moved n s f.operands) f fine (moved_fine h n s f.operands fine.operands)
after_fine h at (row.Convert c) f fine = put_some_fine h at.next (converted c f.operands) f fine (converted_fine h c f.operands fine.operands)
after_fine h at row.CompareLongs f fine = put_some_fine h at.next (compared f.operands) f fine (compared_fine h f.operands fine.operands)
after_fine h at (row.Branch c) f fine = branched_fine h at f (condition_tested c f.operands) fine (tested_fine h c f.operands fine.operands)
after_fine h at row.Switch f fine = switched_fine h at f fine
