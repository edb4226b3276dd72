-- An instruction at which a thread stands makes arrays of one dimension or more.
use Rattle.std.proofs.Common.{◌≡◌, ℕ, ◌<◌, List, Some, Ok, Option, sym, ◌∙◌, ap, subst}
use Rattle.et_pool.specs.Looks.{class_name_at}
use Rattle.et_code.specs.declared.instr.Instr.{Instr}
use Rattle.et_code.specs.Bodies.{Body}
use Rattle.et_code.specs.Decoding.{instruction_at}
use Rattle.et_program.specs.Entries.{Linked, method_at}
use Rattle.et_program.specs.Resolution.{resolve_class}
use Rattle.et_program.specs.declared.info.MethodInfo.{MethodInfo}
use Rattle.et_state.specs.declared.stage.Turn.TheVariants.{Instruction}
use Rattle.et_state.specs.Threads.{FrameState, turn_of}
use Rattle.et_state.specs.State.{MachineState, kept_of}
use Rattle.et_state.specs.Words.{thread_at, top}
use Rattle.et_event.specs.declared.rows.Row.{Row}
use Rattle.et_event.specs.declared.rows.Row.TheVariants.{Heap}
use Rattle.et_event.specs.declared.rows.HeapRow.TheVariants.{NewMultiArray}
use Rattle.et_event.specs.Sites.{Site, class_operand, pool_of_class, natural_of}
use Rattle.et_event.specs.Sound.{IsSoundFor}
use Rattle.et_event.specs.Table.{row_of}
use Rattle.et_event.specs.declared.places.Place.{Place}
use Rattle.et_event.specs.Places.{Runs, IsPlace}
use Rattle.et_event.proofs.Placing.{method_runs, body_runs}
use Rattle.et_event.proofs.Running.{runs_there, starts_there}
use Rattle.et_event.specs.Programs.{IsInstruction, NamesClass, HasArrays}

pub some_dimension : (p : Linked) (m : MachineState) (t : ℕ) (place : Place) (name : List ℕ) (c : ℕ) → IsSoundFor p (kept_of m) → HasArrays p → turn_of (thread_at m.guest t) ≡ Instruction → IsPlace p (top m.guest t) place
    → place.row ≡ Heap NewMultiArray → Some name ≡ class_operand place.site → resolve_class p name ≡ Ok c → 0 < natural_of place.site.instr.second
some_dimension p m t place name c sound arrays turn is row named found =
    let f : FrameState = top m.guest t in
    let x : Instr × ℕ = (place.site.instr, place.site.next) in
    let r : Runs p f = runs_there p (kept_of m) t sound turn in
    let there : instruction_at r.runs.body.code f.pc ≡ Ok x = subst (λ (b : Body). instruction_at b.code f.pc ≡ Ok x) (body_runs p f r) is.decoded in
    let instruction : IsInstruction p r.method x = record { method = r.runs.method; body = r.runs.body; code = r.runs.code; pc = f.pc; start = starts_there r.runs.body f.pc x r.runs.pc there; at = there } in
    let operand : class_name_at (pool_of_class p (method_at p r.method).class) (natural_of place.site.instr.first) ≡ Some name =
    subst (λ (k : MethodInfo). class_name_at (pool_of_class p k.class) (natural_of place.site.instr.first) ≡ Some name) (method_runs p f r) (subst (λ (s : Site). class_operand s ≡ Some name) is.site (sym named)) in
    let names : NamesClass p r.method x c = record { name = name; operand = operand; resolves = found } in
    let here : row_of place.site.instr.opcode ≡ Some (Heap NewMultiArray) = is.row ∙ ap (λ (k : Row). let o : Option Row = Some k in o) row in
    (arrays.multi r.method x c instruction here names).0
