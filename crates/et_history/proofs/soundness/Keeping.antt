-- What a plain instruction keeps of the frame: its method, its stage, its lock and its room; and the pc stays one of the
-- code.
use Rattle.std.proofs.Common.{◌≡◌, ℕ, ◌+◌, ◌-◌, ◌≤◌, Bool, true, false, leb, ltb, List, [], ◌∷◌, ◌++◌, length, set, get_or, Option, Some, None, refl, ◌∙◌, arith}
use Rattle.std.specs.Prelude.{ℤ, IfSome, if◌then◌else◌, option_map}
use Rattle.std.proofs.lemmas.List.{length-set}
use Rattle.std.proofs.lemmas.Bool.{leb-true}
use Rattle.et_base.specs.declared.value.Value.{Value}
use Rattle.et_base.specs.declared.value.Value.TheVariants.{Unset, Int, Long, LongHigh, Null, Ref}
use Rattle.et_code.specs.Bodies.{Body}
use Rattle.et_code.specs.Switches.{target_of}
use Rattle.et_state.specs.Threads.{FrameState, local_of}
use Rattle.et_event.specs.PoolOperands.Operand.{Operand}
use Rattle.et_event.specs.PoolOperands.Operand.TheVariants as operand
use Rattle.et_event.specs.declared.rows.Local.TheVariants.{Named}
use Rattle.et_event.specs.declared.rows.Condition.{Condition}
use Rattle.et_event.specs.declared.rows.Condition.TheVariants as when
use Rattle.et_event.specs.declared.rows.FrameRow.{FrameRow}
use Rattle.et_event.specs.declared.rows.FrameRow.TheVariants as row
use Rattle.et_event.specs.Sites.{Site, local_index, target}
use Rattle.et_event.specs.Plain.{put, put_some, with_locals, other_half_unset, freed, one_stored, long_stored, stored, increased, loaded, are_groups, groups_of, combined, negated, values_moved, converted, compared, condition_tested, branched, switched, frame_after}
use Rattle.et_event.specs.Sound.{IsPc}
use Rattle.et_event.proofs.Taken.{taken_int, taken_long, taken_reference}

pub record Keeps (body : Body) (f f' : FrameState) : Type 0 where
  pub same : f' ≡ record f { pc = f'.pc; locals = f'.locals; operands = f'.operands }
  pub locals : length f'.locals ≡ length f.locals
  pub operands : length f'.operands ≤ f.room
  pub pc : IsPc body f'.pc

abbrev pub KeepsSome : Body → FrameState → Option FrameState → Type 0
KeepsSome body f o = IfSome o (λ f'. Keeps body f f')

-- OPERANDS PUT

put_case : (body : Body) (f : FrameState) (pc : ℕ) (ops : List Value) (b : Bool) → (b ≡ true → length ops ≤ f.room) → IsPc body pc → KeepsSome body f (if b then Some (record f { pc = pc; operands = ops }) else None)
put_case body f pc ops true le at = record { same = refl; locals = refl; operands = le refl; pc = at }
put_case body f pc ops false le at = tt

pub kept_put : (body : Body) (f : FrameState) (pc : ℕ) (ops : List Value) → IsPc body pc → KeepsSome body f (put pc ops f)
kept_put body f pc ops at = put_case body f pc ops (leb (length ops) f.room) (leb-true (length ops) f.room) at

kept_put_some : (body : Body) (f : FrameState) (pc : ℕ) (ops : Option (List Value)) → IsPc body pc → KeepsSome body f (put_some pc ops f)
kept_put_some body f pc None at = tt
kept_put_some body f pc (Some ops) at = kept_put body f pc ops at

kept_if : (body : Body) (f : FrameState) (b : Bool) (o : Option FrameState) → KeepsSome body f o → KeepsSome body f (if b then o else None)
kept_if body f true o h = h
kept_if body f false o h = tt

-- LOCALS WRITTEN

locals_case : (body : Body) (f : FrameState) (pc : ℕ) (locals ops : List Value) (b : Bool) → length locals ≡ length f.locals → length ops ≤ f.room → IsPc body pc → KeepsSome body f (if b then Some (record f { pc = pc; locals = locals; operands = ops }) else None)
locals_case body f pc locals ops true same le at = record { same = refl; locals = same; operands = le; pc = at }
locals_case body f pc locals ops false same le at = tt

kept_locals : (body : Body) (f : FrameState) (pc last : ℕ) (locals ops : List Value) → length locals ≡ length f.locals → length ops ≤ f.room → IsPc body pc → KeepsSome body f (with_locals pc last locals ops f)
kept_locals body f pc last locals ops same le at = locals_case body f pc locals ops (ltb last (length f.locals)) same le at

length-other_half : (i : ℕ) (v : Value) (locals : List Value) → length (other_half_unset i v locals) ≡ length locals
length-other_half i Unset locals = refl
length-other_half i (Int n) locals = refl
length-other_half i (Long n) locals = length-set locals (i + 1) Unset
length-other_half i LongHigh locals = length-set locals (i - 1) Unset
length-other_half i Null locals = refl
length-other_half i (Ref o) locals = refl

length-freed : (i : ℕ) (locals : List Value) → length (freed i locals) ≡ length locals
length-freed i locals = length-other_half i (get_or locals i Unset) locals

length-one_stored : (i : ℕ) (v : Value) (locals : List Value) → length (one_stored i v locals) ≡ length locals
length-one_stored i v locals = length-set (freed i locals) i v ∙ length-freed i locals

length-long_stored : (i : ℕ) (n : ℤ) (locals : List Value) → length (long_stored i n locals) ≡ length locals
length-long_stored i n locals =
    length-set (set (freed (i + 1) (freed i locals)) i (Long n)) (i + 1) LongHigh
    ∙ (length-set (freed (i + 1) (freed i locals)) i (Long n) ∙ (length-freed (i + 1) (freed i locals) ∙ length-freed i locals))

-- THE FRAME BEHIND AN INSTRUCTION

kept_stored : (body : Body) (f : FrameState) (pc : ℕ) (kind : Operand) (i : ℕ) → length f.operands ≤ f.room → IsPc body pc → KeepsSome body f (stored pc kind i f)
kept_stored body f pc operand.Int i le at =
    taken_int (KeepsSome body f) None f.operands f.room (λ n below. with_locals pc i (one_stored i (Int n) f.locals) below f) tt le
    (λ n below few. kept_locals body f pc i (one_stored i (Int n) f.locals) below (length-one_stored i (Int n) f.locals) few at)
kept_stored body f pc operand.Long i le at =
    taken_long (KeepsSome body f) None f.operands f.room (λ n below. with_locals pc (i + 1) (long_stored i n f.locals) below f) tt le
    (λ n below few. kept_locals body f pc (i + 1) (long_stored i n f.locals) below (length-long_stored i n f.locals) few at)
kept_stored body f pc operand.Reference i le at =
    let v = get_or f.operands 0 Unset in
    taken_reference (KeepsSome body f) None f.operands f.room (λ r below. with_locals pc i (one_stored i v f.locals) below f) tt le
    (λ r below few. kept_locals body f pc i (one_stored i v f.locals) below (length-one_stored i v f.locals) few at)

kept_increased : (body : Body) (f : FrameState) (pc i : ℕ) (by : ℤ) → length f.operands ≤ f.room → IsPc body pc → KeepsSome body f (increased pc i by f)
kept_increased body f pc i by le at =
    taken_int (KeepsSome body f) None (local_of f i ∷ []) 1 _ tt (omega arith) (λ n none few. kept_locals body f pc i _ f.operands (length-set f.locals i _) le at)

-- BRANCHES

abbrev IsShort : ℕ → Option (Bool × List Value) → Type 0
IsShort k o = IfSome o (λ test. length test.1 ≤ k)

short_tested : (c : Condition) (ops : List Value) (k : ℕ) → length ops ≤ k → IsShort k (condition_tested c ops)
short_tested when.Always ops k le = le
short_tested (when.WithZero c) ops k le = taken_int (IsShort k) None ops k _ tt le (λ a below few. few)
short_tested (when.OfInts c) ops k le = taken_int (IsShort k) None ops k _ tt le (λ b more few. taken_int (IsShort k) None more k _ tt few (λ a below fewer. fewer))
short_tested when.SameReference ops k le = taken_reference (IsShort k) None ops k _ tt le (λ b more few. taken_reference (IsShort k) None more k _ tt few (λ a below fewer. fewer))
short_tested when.OtherReference ops k le = taken_reference (IsShort k) None ops k _ tt le (λ b more few. taken_reference (IsShort k) None more k _ tt few (λ a below fewer. fewer))
short_tested when.Null ops k le = taken_reference (IsShort k) None ops k _ tt le (λ a below few. few)
short_tested when.NotNull ops k le = taken_reference (IsShort k) None ops k _ tt le (λ a below few. few)

either_pc : (body : Body) (b : Bool) (p q : ℕ) → IsPc body p → IsPc body q → IsPc body (if b then p else q)
either_pc body true p q h i = h
either_pc body false p q h i = i

kept_branched : (body : Body) (at : Site) (f : FrameState) (o : Option (Bool × List Value)) → IsShort f.room o → IsPc body at.next → IsPc body (target f.pc at.instr.first) → KeepsSome body f (option_map (branched at f) o)
kept_branched body at f None le next there = tt
kept_branched body at f (Some test) le next there =
    record { same = refl; locals = refl; operands = le; pc = either_pc body test.0 (target f.pc at.instr.first) at.next there next }

kept_switched : (body : Body) (at : Site) (f : FrameState) → length f.operands ≤ f.room → ((key : ℤ) → IsPc body (target f.pc (target_of at.code at.instr key))) → KeepsSome body f (switched at f)
kept_switched body at f le there =
    taken_int (KeepsSome body f) None f.operands f.room _ tt le (λ key below few. record { same = refl; locals = refl; operands = few; pc = there key })

-- THE SHAPES

-- where an instruction of this row may go
pub record MayGo (body : Body) (at : Site) (r : FrameRow) (pc : ℕ) : Type 0 where
  pub next : IsPc body at.next
  pub branch : (c : Condition) → r ≡ row.Branch c → IsPc body (target pc at.instr.first)
  pub switch : r ≡ row.Switch → (key : ℤ) → IsPc body (target pc (target_of at.code at.instr key))

pub kept_after : (body : Body) (at : Site) (r : FrameRow) (f : FrameState) → length f.operands ≤ f.room → MayGo body at r f.pc → KeepsSome body f (frame_after at r f)
kept_after body at row.Null f le may = kept_put body f at.next (Null ∷ f.operands) may.next
kept_after body at (row.Int n) f le may = kept_put body f at.next (Int n ∷ f.operands) may.next
kept_after body at (row.Long n) f le may = kept_put body f at.next (LongHigh ∷ Long n ∷ f.operands) may.next
kept_after body at row.Immediate f le may = kept_put body f at.next (Int at.instr.first ∷ f.operands) may.next
kept_after body at (row.Load kind local) f le may = kept_put_some body f at.next (option_map (λ vs. vs ++ f.operands) (loaded kind (local_index local at) f)) may.next
kept_after body at (row.Store kind local) f le may = kept_stored body f at.next kind (local_index local at) le may.next
kept_after body at row.Increment f le may = kept_increased body f at.next (local_index Named at) at.instr.second le may.next
kept_after body at (row.Rearrange r) f le may = kept_if body f (are_groups (groups_of r) f.operands) _ (kept_put body f at.next _ may.next)
kept_after body at (row.Arithmetic n o) f le may = kept_put_some body f at.next (combined n o f.operands) may.next
kept_after body at (row.Negate n) f le may = kept_put_some body f at.next (negated n f.operands) may.next
kept_after body at (row.Shift n s) f le may = kept_put_some body f at.next (values_moved n s f.operands) may.next
kept_after body at (row.Convert c) f le may = kept_put_some body f at.next (converted c f.operands) may.next
kept_after body at row.CompareLongs f le may = kept_put_some body f at.next (compared f.operands) may.next
kept_after body at (row.Branch c) f le may = kept_branched body at f (condition_tested c f.operands) (short_tested c f.operands f.room le) may.next (may.branch c refl)
kept_after body at row.Switch f le may = kept_switched body at f le (may.switch refl)
