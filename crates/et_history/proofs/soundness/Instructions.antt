-- An instruction, by its row.
use Rattle.std.proofs.Common.{◌≡◌, ℕ, true, List, Option, Some, None, IfSome, Result, Ok, Err, refl, sym, ◌∙◌, ap, subst}
use Rattle.et_code.specs.declared.instr.Instr.{Instr}
use Rattle.et_code.specs.declared.instr.CodeFault.{CodeFault}
use Rattle.et_code.specs.Bodies.{Body}
use Rattle.et_code.specs.Kept.{IsKeptCode}
use Rattle.et_code.specs.Rules.{KeepsRules}
use Rattle.et_code.specs.Starts.{IsStart}
use Rattle.et_code.proofs.Keeping.{kept_code}
use Rattle.et_program.specs.Entries.{Linked}
use Rattle.et_program.specs.declared.info.MethodInfo.{MethodInfo}
use Rattle.et_state.specs.Threads.{FrameState}
use Rattle.et_event.specs.declared.rows.HeapRow.{HeapRow}
use Rattle.et_event.specs.declared.rows.HeapRow.TheVariants as heap_rows
use Rattle.et_event.specs.declared.rows.CallRow.{CallRow}
use Rattle.et_event.specs.declared.rows.CallRow.TheVariants as call_rows
use Rattle.et_event.specs.declared.rows.Row.{Row}
use Rattle.et_event.specs.declared.rows.Row.TheVariants as rows
use Rattle.et_event.specs.Calls.{call_event}
use Rattle.et_event.specs.Event.{does, by_row, by_instruction, instruction}
use Rattle.et_event.specs.Heap.{heap_event}
use Rattle.et_event.specs.Moments.{Moment, current_frame}
use Rattle.et_event.specs.Sites.{Site, site_of, running_method, code_of_frame, decoded_at}
use Rattle.et_event.specs.Table.{row_of}
use Rattle.et_event.specs.Places.{Runs}
use Rattle.et_event.proofs.Placing.{method_runs, rules_found}
use Rattle.et_event.specs.PlainRows.{is_plain}
use Rattle.et_history.proofs.soundness.Going.{may_go}
use Rattle.et_history.proofs.soundness.Sounding.{Begins, does_sound}
use Rattle.et_history.specs.soundness.Outcomes.{KeepsSound}
use Rattle.et_history.specs.soundness.WellFormed.{StandsAt}
use Rattle.et_history.proofs.soundness.Classes.{get_static_sound, put_static_sound, new_sound}
use Rattle.et_history.proofs.soundness.Fields.{get_field_sound, put_field_sound, load_element_sound, store_element_sound}
use Rattle.et_event.proofs.Running.{starts_there}
use Rattle.et_history.proofs.soundness.Frames.{RunsSome, pc_there}
use Rattle.et_history.proofs.soundness.Steps.{array_length_sound, check_cast_sound, instance_of_sound, monitor_sound, throw_sound}
use Rattle.et_history.specs.soundness.Places.{IsAtRow}
use Rattle.et_event.specs.Runnable.{IsRunnable}
use Rattle.et_history.proofs.soundness.Entering.{runs_here, runs_method}
use Rattle.et_history.proofs.soundness.Invoking.{invoke_sound}
use Rattle.et_history.proofs.soundness.Returning.{return_sound}
use Rattle.et_history.proofs.soundness.Arrays.{new_array_sound, new_reference_array_sound, multi_array_sound}

-- FIELDS, ARRAYS AND CLASSES

pub heap_sound : (e : Moment) (at : Site) (r : HeapRow) → IsAtRow e at (rows.Heap r) → IsRunnable e.program → KeepsSound e.program (heap_event e at r)
heap_sound e at heap_rows.GetStatic here may = get_static_sound e at here.stands may.makes may.slots may.initializers
heap_sound e at heap_rows.PutStatic here may = put_static_sound e at here.stands may.makes may.slots may.initializers
heap_sound e at heap_rows.GetField here may = get_field_sound e at here.stands may.makes
heap_sound e at heap_rows.PutField here may = put_field_sound e at here.stands may.makes may.slots
heap_sound e at (heap_rows.LoadElement kind) here may = load_element_sound e at kind here.stands may.makes
heap_sound e at (heap_rows.StoreElement kind) here may = store_element_sound e at kind here.stands may.makes may.slots
heap_sound e at heap_rows.New here may = new_sound e at here.stands may.makes may.slots may.initializers
heap_sound e at heap_rows.NewArray here may = new_array_sound e at here may
heap_sound e at heap_rows.NewReferenceArray here may = new_reference_array_sound e at here may
heap_sound e at heap_rows.NewMultiArray here may = multi_array_sound e at here may
heap_sound e at heap_rows.ArrayLength here may = array_length_sound e at here.stands may.makes
heap_sound e at heap_rows.CheckCast here may = check_cast_sound e at here.stands may.makes
heap_sound e at heap_rows.InstanceOf here may = instance_of_sound e at here.stands may.makes

-- CALLS AND RETURNS

pub call_sound : (e : Moment) (at : Site) (r : CallRow) → IsAtRow e at (rows.Call r) → IsRunnable e.program → KeepsSound e.program (call_event e at r)
call_sound e at (call_rows.Invoke kind) here may = invoke_sound e at kind here may
call_sound e at (call_rows.Return kind) here may = return_sound e at kind here.stands may.makes

-- THE CODE of a frame keeps the rules

method_rules : (p : Linked) (f : FrameState) (r : Runs p f) → IsRunnable p → IfSome (running_method p f).code (λ body. KeepsRules body)
method_rules p f r may =
    subst (λ (m : MethodInfo). IfSome m.code (λ body. KeepsRules body)) (sym (method_runs p f r))
    (subst (λ (o : Option Body). IfSome o (λ body. KeepsRules body)) (sym r.runs.code) (may.rules r.method r.runs.body r.runs.method r.runs.code))

pub kept_here : (p : Linked) (f : FrameState) → RunsSome p f → IsRunnable p → (tags : List ℕ) × IsKeptCode (code_of_frame p f) tags
kept_here p f r may =
    let rules : KeepsRules (code_of_frame p f) = rules_found p f (runs_method p f r) (method_rules p f (runs_method p f r) may) in
    (rules.tags, kept_code (code_of_frame p f) rules.tags rules.kept)

-- PLAIN INSTRUCTIONS

plain_at : (e : Moment) (x : Instr × ℕ) (r : Row) → StandsAt e (site_of e.program (current_frame e) x) → IsRunnable e.program → decoded_at e.program (current_frame e) ≡ Ok x → row_of x.0.opcode ≡ Some r → is_plain r ≡ true
    → KeepsSound e.program (does e (site_of e.program (current_frame e) x) r)
plain_at e x r here may decoded row plain =
    let p : Linked = e.program in
    let f : FrameState = current_frame e in
    let some : RunsSome p f = runs_here e (site_of p f x) here in
    let start : IsStart (code_of_frame p f).code f.pc = starts_there (code_of_frame p f) f.pc x (pc_there p f some) decoded in
    let kept = kept_here p f some may in
    let begins : Begins p e.before e.thread = record { sound = here.sound; clock = here.clock; has = here.frame; runs = here.runs; room = here.operands } in
    does_sound p e.before e.thread (site_of p f x) r begins may.makes plain here.next
    (λ q same. may_go (code_of_frame p f) kept.0 f.pc x (site_of p f x) q kept.1 start decoded (row ∙ ap (λ (z : Row). Some z) same) refl refl refl)

pub plain_sound : (e : Moment) (at : Site) (r : Row) → IsAtRow e at r → IsRunnable e.program → is_plain r ≡ true → KeepsSound e.program (does e at r)
plain_sound e at r here may plain =
    subst (λ (s : Site). KeepsSound e.program (does e s r)) (sym here.site) (plain_at e here.decoded r (subst (λ (s : Site). StandsAt e s) here.site here.stands) may here.is here.row plain)

-- THE ROWS

pub row_sound : (e : Moment) (at : Site) (r : Row) → IsAtRow e at r → IsRunnable e.program → KeepsSound e.program (does e at r)
row_sound e at (rows.Frame x) here may = plain_sound e at (rows.Frame x) here may refl
row_sound e at rows.PoolConstant here may = plain_sound e at rows.PoolConstant here may refl
row_sound e at (rows.Divide n o) here may = plain_sound e at (rows.Divide n o) here may refl
row_sound e at (rows.Heap x) here may = heap_sound e at x here may
row_sound e at (rows.Call x) here may = call_sound e at x here may
row_sound e at rows.Throw here may = throw_sound e at here.stands may.makes
row_sound e at (rows.Monitor x) here may = monitor_sound e at x here.stands may.makes

-- THE INSTRUCTION at the pc

pub instruction_sound : (e : Moment) → ((x : Instr × ℕ) → decoded_at e.program (current_frame e) ≡ Ok x → StandsAt e (site_of e.program (current_frame e) x)) → IsRunnable e.program → KeepsSound e.program (instruction e)
instruction_sound e stands may = by (decoded_at e.program (current_frame e)) refl
  where
    by_its_row : (x : Instr × ℕ) → decoded_at e.program (current_frame e) ≡ Ok x → (o : Option Row) → row_of x.0.opcode ≡ o → KeepsSound e.program (by_row e (site_of e.program (current_frame e) x) o)
    by_its_row x q None s = tt
    by_its_row x q (Some r) s = row_sound e (site_of e.program (current_frame e) x) r (record { stands = stands x q; decoded = x; is = q; row = s; site = refl }) may

    by : (d : Result (Instr × ℕ) CodeFault) → decoded_at e.program (current_frame e) ≡ d → KeepsSound e.program (by_instruction e d)
    by (Err fault) q = tt
    by (Ok x) q = by_its_row x q (row_of x.0.opcode) refl
