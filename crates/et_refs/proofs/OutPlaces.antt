-- Where System.out is read, and what is answered there.
use Rattle.std.proofs.Common.{◌≡◌, ℕ, Bool, true, false, List, Option, Some, None, Result, IfOk, refl, sym, ◌∙◌, ap, subst}
use Rattle.std.specs.Prelude.{◌↔◌, is_some, option_and_then, option_map, unwrap_or, IsSome}
use Rattle.et_code.specs.declared.instr.Instr.{Instr}
use Rattle.et_code.specs.declared.instr.CodeFault.{CodeFault}
use Rattle.et_program.specs.Entries.{Linked}
use Rattle.et_state.specs.declared.stage.Turn.TheVariants.{Instruction}
use Rattle.et_state.specs.declared.records.Record.{Record}
use Rattle.et_state.specs.declared.ends.EventEnd.{EventEnd}
use Rattle.et_state.specs.declared.ends.EventEnd.TheVariants as ends
use Rattle.et_state.specs.Outcome.{Outcome}
use Rattle.et_state.specs.State.{Kept, MachineState, kept_of}
use Rattle.et_state.specs.Threads.{turn_of}
use Rattle.et_state.specs.Words.{thread_at, top}
use Rattle.et_event.specs.declared.rows.HeapRow.{HeapRow}
use Rattle.et_event.specs.declared.rows.HeapRow.TheVariants as heap_rows
use Rattle.et_event.specs.declared.rows.Row.{Row}
use Rattle.et_event.specs.declared.rows.Row.TheVariants as rows
use Rattle.et_event.specs.Answered.{DefersOrAnswers, EventAnswers}
use Rattle.et_event.specs.Moments.{Moment, current_frame, moment}
use Rattle.et_event.specs.Out.{OutRead, out_at, out_by, out_method, out_turn}
use Rattle.et_event.specs.Sites.{Site, site_of}
use Rattle.et_event.proofs.Deferrals.{answered, native_exactly}
use Rattle.et_event.proofs.OutTurns.{out_at_turn}
use Rattle.et_event.proofs.Answering.{if_ok}
use Rattle.et_event.specs.Places.{IsPlace}
use Rattle.et_event.specs.declared.places.Place.{Place}
use Rattle.et_refs.specs.Rows.{is_get_static}
use Rattle.et_refs.proofs.Over.{no_out}

pub out_at_place : (p : Linked) (m : MachineState) (t : ℕ) (place : Place) → turn_of (thread_at m.guest t) ≡ Instruction → IsPlace p (top m.guest t) place → out_turn p (kept_of m) t ≡ out_at (moment p m t) place.site place.row
out_at_place p m t place turn is =
    let e : Moment = moment p m t in
    out_at_turn p (kept_of m) t Instruction turn
    ∙ (ap (λ (d : Result (Instr × ℕ) CodeFault). out_by e d) is.decoded
    ∙ (ap (λ (r : Option Row). option_and_then (out_at e (site_of p (current_frame e) (place.site.instr, place.site.next))) r) is.row
    ∙ ap (λ (at : Site). out_at e at place.row) (sym is.site)))

-- THE METHOD THAT IS ANSWERED there, by whether System.out is read

abbrev method_by : ℕ → Option OutRead → Option ℕ
method_by method o = option_map (λ (x : OutRead). method) o

none_by : (method : ℕ) (o : Option OutRead) (b : Bool) → b ≡ is_some o → b ≡ false → method_by method o ≡ None
none_by method None b is at_false = refl
none_by method (Some x) b is at_false = cc

some_by : (method : ℕ) (o : Option OutRead) (b : Bool) → b ≡ is_some o → b ≡ true → method_by method o ≡ Some method
some_by method None b is at_true = cc
some_by method (Some x) b is at_true = refl

is_by : (o : Option OutRead) (b : Bool) → b ≡ is_some o → IsSome o → b ≡ true
is_by None b is some = cc
is_by (Some x) b is some = is

module _ (p : Linked) (m : MachineState) (t : ℕ) (place : Place) (row : Row) (left : Bool) (turn : turn_of (thread_at m.guest t) ≡ Instruction) (here : IsPlace p (top m.guest t) place) (at_row : place.row ≡ row) (is : left ≡ is_some (out_at (moment p m t) place.site row)) where
  told : left ≡ is_some (out_turn p (kept_of m) t)
  told = is ∙ ap is_some (ap (out_at (moment p m t) place.site) (sym at_row) ∙ sym (out_at_place p m t place turn here))

  pub not_left : left ≡ false → out_method p (kept_of m) t ≡ None
  not_left at_false = none_by (unwrap_or (top m.guest t).method 0) (out_turn p (kept_of m) t) left told at_false

  pub is_left_there : left ≡ true → out_method p (kept_of m) t ≡ Some (unwrap_or (top m.guest t).method 0)
  is_left_there at_true = some_by (unwrap_or (top m.guest t).method 0) (out_turn p (kept_of m) t) left told at_true

  pub left_where : IsSome (out_turn p (kept_of m) t) → left ≡ true
  left_where some = is_by (out_turn p (kept_of m) t) left told some

-- THE ROW of a place where it is read
row_read : (e : Moment) (at : Site) (r : Row) → IsSome (out_at e at r) → r ≡ rows.Heap heap_rows.GetStatic
row_read e at (rows.Frame r) h = cc
row_read e at rows.PoolConstant h = cc
row_read e at (rows.Divide n o) h = cc
row_read e at (rows.Heap heap_rows.GetStatic) h = refl
row_read e at (rows.Heap heap_rows.PutStatic) h = cc
row_read e at (rows.Heap heap_rows.GetField) h = cc
row_read e at (rows.Heap heap_rows.PutField) h = cc
row_read e at (rows.Heap (heap_rows.LoadElement k)) h = cc
row_read e at (rows.Heap (heap_rows.StoreElement k)) h = cc
row_read e at (rows.Heap heap_rows.New) h = cc
row_read e at (rows.Heap heap_rows.NewArray) h = cc
row_read e at (rows.Heap heap_rows.NewReferenceArray) h = cc
row_read e at (rows.Heap heap_rows.NewMultiArray) h = cc
row_read e at (rows.Heap heap_rows.ArrayLength) h = cc
row_read e at (rows.Heap heap_rows.CheckCast) h = cc
row_read e at (rows.Heap heap_rows.InstanceOf) h = cc
row_read e at (rows.Call r) h = cc
row_read e at rows.Throw h = cc
row_read e at (rows.Monitor r) h = cc

pub read_row : (p : Linked) (m : MachineState) (t : ℕ) (place : Place) → turn_of (thread_at m.guest t) ≡ Instruction → IsPlace p (top m.guest t) place → IsSome (out_turn p (kept_of m) t) → place.row ≡ rows.Heap heap_rows.GetStatic
read_row p m t place turn here some = row_read (moment p m t) place.site place.row (subst (λ (o : Option OutRead). IsSome o) (out_at_place p m t place turn here) some)

-- WHAT A CALL ANSWERS that leaves the reading of System.out to another
module _ {E : Type 0} (p : Linked) (m : MachineState) (t : ℕ) (o : Outcome Kept) (r : Result EventEnd E) (m' : MachineState) (out out' : List Record) where
  pub answers_unless_out : out_method p (kept_of m) t ≡ None → IfOk r (λ end. EventAnswers o end m m' out out') → IfOk r (λ end. DefersOrAnswers (out_method p (kept_of m) t) o end m m' out out')
  answers_unless_out none h = if_ok r (λ end a. answered (out_method p (kept_of m) t) o end m m' out out' none a) h

  pub native_where_out : IfOk r (λ end. DefersOrAnswers (out_method p (kept_of m) t) o end m m' out out') → IfOk r (λ end. (method : ℕ) → (end ≡ ends.Native method) ↔ (out_method p (kept_of m) t ≡ Some method))
  native_where_out h = if_ok r (λ end a. native_exactly (out_method p (kept_of m) t) o end m m' out out' a) h

pub left_to_other : (p : Linked) (m : MachineState) (t : ℕ) (o : Outcome Kept) (end : EventEnd) (out : List Record) → end ≡ ends.Native (unwrap_or (top m.guest t).method 0) → out_method p (kept_of m) t ≡ Some (unwrap_or (top m.guest t).method 0)
    → DefersOrAnswers (out_method p (kept_of m) t) o end m m out out
left_to_other p m t o end out named is = subst (λ (q : Option ℕ). DefersOrAnswers q o end m m out out) (sym is) (named, refl, refl)

-- THE OTHER ROWS read no static field

other_row : (e : Moment) (at : Site) (r : HeapRow) → is_get_static r ≡ false → false ≡ is_some (out_at e at (rows.Heap r))
other_row e at r h = ap is_some (sym (no_out e at r h))

pub static_row : (r : HeapRow) → is_get_static r ≡ true → r ≡ heap_rows.GetStatic
static_row heap_rows.GetStatic h = refl
static_row heap_rows.PutStatic h = cc
static_row heap_rows.GetField h = cc
static_row heap_rows.PutField h = cc
static_row (heap_rows.LoadElement k) h = cc
static_row (heap_rows.StoreElement k) h = cc
static_row heap_rows.New h = cc
static_row heap_rows.NewArray h = cc
static_row heap_rows.NewReferenceArray h = cc
static_row heap_rows.NewMultiArray h = cc
static_row heap_rows.ArrayLength h = cc
static_row heap_rows.CheckCast h = cc
static_row heap_rows.InstanceOf h = cc

module _ (p : Linked) (m : MachineState) (t : ℕ) (place : Place) (r : HeapRow) (turn : turn_of (thread_at m.guest t) ≡ Instruction) (here : IsPlace p (top m.guest t) place) (row : place.row ≡ rows.Heap r) (other : is_get_static r ≡ false) where
  is : false ≡ is_some (out_at (moment p m t) place.site (rows.Heap r))
  is = other_row (moment p m t) place.site r other

  pub none_left : out_method p (kept_of m) t ≡ None
  none_left = not_left p m t place (rows.Heap r) false turn here row is refl

  pub none_read : IsSome (out_turn p (kept_of m) t) → ⊥
  none_read some = let at_true : false ≡ true = left_where p m t place (rows.Heap r) false turn here row is some in absurd (cc)
