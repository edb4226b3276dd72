-- An instruction that reads and changes nothing but its frame changes its pc, its locals and its operands alone.
use Rattle.std.proofs.Common.{◌≡◌, ℕ, ◌+◌, Bool, true, false, leb, ltb, List, [], ◌∷◌, ◌++◌, length, get_or, Option, Some, None, Result, Ok, Err, refl, subst, arith}
use Rattle.std.specs.Prelude.{IfSome, if◌then◌else◌, option_map}
use Rattle.et_base.specs.declared.value.Value.{Value}
use Rattle.et_base.specs.declared.value.Value.TheVariants.{Unset, Int, Long, LongHigh, Null}
use Rattle.et_code.specs.Decoding.{instruction_at}
use Rattle.et_code.specs.declared.instr.Instr.{Instr}
use Rattle.et_code.specs.declared.instr.CodeFault.{CodeFault}
use Rattle.et_state.specs.Threads.{FrameState, local_of}
use Rattle.et_event.specs.PoolOperands.Operand.{Operand}
use Rattle.et_event.specs.PoolOperands.Operand.TheVariants as operand
use Rattle.et_event.specs.declared.rows.FrameRow.{FrameRow}
use Rattle.et_event.specs.declared.rows.FrameRow.TheVariants as row
use Rattle.et_event.specs.declared.rows.Local.TheVariants.{Named}
use Rattle.et_event.specs.declared.rows.Row.{Row}
use Rattle.et_event.specs.declared.rows.Row.TheVariants as rows
use Rattle.et_event.specs.FrameSteps.{frame_by_row, frame_decoded, frame_next}
use Rattle.et_event.specs.Plain.{put, put_some, with_locals, one_stored, long_stored, stored, loaded, are_groups, groups_of, combined, negated, values_moved, converted, compared, condition_tested, branched, frame_after}
use Rattle.et_event.specs.Sites.{Site, local_index}
use Rattle.et_event.specs.Table.{row_of}
use Rattle.et_event.proofs.Taken.{taken_int, taken_long, taken_reference}

-- f' is f with another pc, other locals and other operands
abbrev pub Stays : FrameState → FrameState → Type 0
Stays f f' = f' ≡ record f { pc = f'.pc; locals = f'.locals; operands = f'.operands }

abbrev StaysSome : FrameState → Option FrameState → Type 0
StaysSome f o = IfSome o (λ f'. Stays f f')

stays_if : (f x : FrameState) (b : Bool) → Stays f x → StaysSome f (if b then Some x else None)
stays_if f x true h = h
stays_if f x false h = tt

stays_put : (f : FrameState) (pc : ℕ) (ops : List Value) → StaysSome f (put pc ops f)
stays_put f pc ops = stays_if f (record f { pc = pc; operands = ops }) (leb (length ops) f.room) refl

stays_put_some : (f : FrameState) (pc : ℕ) (ops : Option (List Value)) → StaysSome f (put_some pc ops f)
stays_put_some f pc None = tt
stays_put_some f pc (Some ops) = stays_put f pc ops

stays_unless : (f : FrameState) (b : Bool) (o : Option FrameState) → StaysSome f o → StaysSome f (if b then o else None)
stays_unless f true o h = h
stays_unless f false o h = tt

stays_locals : (f : FrameState) (pc last : ℕ) (locals ops : List Value) → StaysSome f (with_locals pc last locals ops f)
stays_locals f pc last locals ops = stays_if f (record f { pc = pc; locals = locals; operands = ops }) (ltb last (length f.locals)) refl

stays_stored : (f : FrameState) (pc : ℕ) (kind : Operand) (i : ℕ) → StaysSome f (stored pc kind i f)
stays_stored f pc operand.Int i =
    taken_int (StaysSome f) None f.operands (length f.operands) (λ n below. with_locals pc i (one_stored i (Int n) f.locals) below f) tt (omega arith)
    (λ n below few. stays_locals f pc i (one_stored i (Int n) f.locals) below)
stays_stored f pc operand.Long i =
    taken_long (StaysSome f) None f.operands (length f.operands) (λ n below. with_locals pc (i + 1) (long_stored i n f.locals) below f) tt (omega arith)
    (λ n below few. stays_locals f pc (i + 1) (long_stored i n f.locals) below)
stays_stored f pc operand.Reference i =
    let v = get_or f.operands 0 Unset in
    taken_reference (StaysSome f) None f.operands (length f.operands) (λ r below. with_locals pc i (one_stored i v f.locals) below f) tt (omega arith)
    (λ r below few. stays_locals f pc i (one_stored i v f.locals) below)

stays_branched : (at : Site) (f : FrameState) (o : Option (Bool × List Value)) → StaysSome f (option_map (branched at f) o)
stays_branched at f None = tt
stays_branched at f (Some test) = refl

frame_stays : (at : Site) (r : FrameRow) (f : FrameState) → StaysSome f (frame_after at r f)
frame_stays at row.Null f = stays_put f at.next (Null ∷ f.operands)
frame_stays at (row.Int n) f = stays_put f at.next (Int n ∷ f.operands)
frame_stays at (row.Long n) f = stays_put f at.next (LongHigh ∷ Long n ∷ f.operands)
frame_stays at row.Immediate f = stays_put f at.next (Int at.instr.first ∷ f.operands)
frame_stays at (row.Load kind local) f = stays_put_some f at.next (option_map (λ vs. vs ++ f.operands) (loaded kind (local_index local at) f))
frame_stays at (row.Store kind local) f = stays_stored f at.next kind (local_index local at)
frame_stays at row.Increment f = taken_int (StaysSome f) None (local_of f (local_index Named at) ∷ []) 1 _ tt (omega arith) (λ n none few. stays_locals f at.next (local_index Named at) _ f.operands)
frame_stays at (row.Rearrange r) f = stays_unless f (are_groups (groups_of r) f.operands) _ (stays_put f at.next _)
frame_stays at (row.Arithmetic n o) f = stays_put_some f at.next (combined n o f.operands)
frame_stays at (row.Negate n) f = stays_put_some f at.next (negated n f.operands)
frame_stays at (row.Shift n s) f = stays_put_some f at.next (values_moved n s f.operands)
frame_stays at (row.Convert c) f = stays_put_some f at.next (converted c f.operands)
frame_stays at row.CompareLongs f = stays_put_some f at.next (compared f.operands)
frame_stays at (row.Branch c) f = stays_branched at f (condition_tested c f.operands)
frame_stays at row.Switch f = taken_int (StaysSome f) None f.operands (length f.operands) _ tt (omega arith) (λ key below few. refl)

some_stays : (f f' : FrameState) (o : Option FrameState) → StaysSome f o → o ≡ Some f' → Stays f f'
some_stays f f' None h e = cc
some_stays f f' (Some x) h e = let same : x ≡ f' = cc in subst (λ (y : FrameState). Stays f y) same h

-- What stands at the pc of a frame that has a frame after it: an instruction of such a row.
pub record IsInFrame (code : List ℕ) (f f' : FrameState) : Type 0 where
  pub decoded : Instr × ℕ
  pub there : instruction_at code f.pc ≡ Ok decoded
  pub shape : FrameRow
  pub row : row_of decoded.0.opcode ≡ Some (rows.Frame shape)
  pub stays : Stays f f'

abbrev OfFrame : FrameState → FrameState → Option Row → Type 0
OfFrame f f' r = (x : FrameRow) × (r ≡ Some (rows.Frame x)) × Stays f f'

by_row : (at : Site) (f f' : FrameState) (r : Option Row) → frame_by_row at r f ≡ Some f' → OfFrame f f' r
by_row at f f' None h = cc
by_row at f f' (Some (rows.Frame x)) h = (x, refl, some_stays f f' (frame_after at x f) (frame_stays at x f) h)
by_row at f f' (Some rows.PoolConstant) h = cc
by_row at f f' (Some (rows.Divide n o)) h = cc
by_row at f f' (Some (rows.Heap x)) h = cc
by_row at f f' (Some (rows.Call x)) h = cc
by_row at f f' (Some rows.Throw) h = cc
by_row at f f' (Some (rows.Monitor x)) h = cc

by_decoded : (code : List ℕ) (f f' : FrameState) (d : Result (Instr × ℕ) CodeFault) → instruction_at code f.pc ≡ d → frame_decoded code d f ≡ Some f' → IsInFrame code f f'
by_decoded code f f' (Err fault) e h = cc
by_decoded code f f' (Ok x) e h =
    let is = by_row (record { instr = x.0; next = x.1; code = code; pool = []; class = 0 }) f f' (row_of x.0.opcode) h in
    record { decoded = x; there = e; shape = is.0; row = is.1; stays = is.2 }

pub in_frame : (code : List ℕ) (f f' : FrameState) → frame_next code f ≡ Some f' → IsInFrame code f f'
in_frame code f f' h = by_decoded code f f' (instruction_at code f.pc) refl h
