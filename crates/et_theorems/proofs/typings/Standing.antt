-- A thread whose turn is an instruction stands where its method's typing has types, which the instruction accepts.
use Rattle.std.proofs.Common.{◌≡◌, ℕ, List, Option, Some, None, Ok, Result, refl, sym, ◌∙◌, ap, subst}
use Rattle.std.specs.Prelude.{unwrap_or}
use Rattle.et_code.specs.Bodies.{Body}
use Rattle.et_code.specs.Decoding.{instruction_at}
use Rattle.et_code.specs.declared.instr.CodeFault.{CodeFault}
use Rattle.et_code.specs.declared.instr.Instr.{Instr}
use Rattle.et_event.specs.Calls.{is_static_call, returned_by}
use Rattle.et_event.specs.Event.{by_instruction, by_row, does, instruction}
use Rattle.et_event.specs.Moments.{Moment, current_frame, thread_of}
use Rattle.et_event.specs.Sites.{Site, code_of_frame, decoded_at, present_body, site_of}
use Rattle.et_event.specs.Sound.{IsPc, RunsMethod, returned_of}
use Rattle.et_event.specs.declared.rows.CallRow.TheVariants as call
use Rattle.et_event.specs.declared.rows.Row.{Row}
use Rattle.et_event.specs.declared.rows.Row.TheVariants as rows
use Rattle.et_event.proofs.Running.{has_frame_there, runs_there}
use Rattle.et_event.specs.Places.{Runs}
use Rattle.et_program.specs.Entries.{Linked, method_at}
use Rattle.et_history.proofs.soundness.Frames.{next_pc, pc_there}
use Rattle.et_history.specs.soundness.Places.{IsAtRow}
use Rattle.et_history.specs.soundness.WellFormed.{StandsAt}
use Rattle.et_state.specs.Threads.{FrameState, turn_of}
use Rattle.et_state.specs.declared.stage.Turn.TheVariants.{Instruction}
use Rattle.et_verify.specs.Leads.{next_places, site_in}
use Rattle.et_verify.specs.Steps.{locals_after, operands_after, types_after}
use Rattle.et_flow.specs.Types.{TypesOf}
use Rattle.et_verify.specs.Typings.{AreThere, IsAccepted, IsTyping}
use Rattle.et_verify.proofs.Taken.{fits_as}
use Rattle.et_theorems.specs.typings.Typed.{Holds, IsTypedFrame, Typings, Whole}
use Rattle.et_theorems.proofs.typings.Answering.{built_in_typed}
use Rattle.et_theorems.proofs.typings.CallRows.{Calls, calls, invoke_typed}
use Rattle.et_theorems.proofs.typings.HeapRows.{heap_typed}
use Rattle.et_theorems.proofs.typings.Here.{Here}
use Rattle.et_theorems.proofs.typings.Own.{LeavesTyped, first_typed}
use Rattle.et_theorems.proofs.typings.PlainRows.{constant_typed, divide_typed, frame_typed, monitor_typed, throw_typed}
use Rattle.et_theorems.proofs.typings.ReturnRows.{return_typed, returning, site_same}
use Rattle.et_theorems.proofs.typings.Ways.{Calm}

-- EACH ROW
row_typed : (e : Moment) (typings : Typings) (m : ℕ) (at : Site) (r : Row) (ts us : TypesOf) → Here e typings m at r ts us → LeavesTyped e typings (does e at r)
row_typed e typings m at (rows.Frame r) ts us here = frame_typed e typings m at ts us r here
row_typed e typings m at rows.PoolConstant ts us here = constant_typed e typings m at ts us here
row_typed e typings m at (rows.Divide n o) ts us here = divide_typed e typings m at ts us n o here
row_typed e typings m at (rows.Heap r) ts us here = heap_typed e typings m at r ts us here
row_typed e typings m at (rows.Call (call.Invoke kind)) ts us here =
    let c : Calls at (is_static_call kind) ts.operands us.operands = calls at (is_static_call kind) ts.operands us.operands here.after.operands in
    invoke_typed e typings m at ts us kind here c (built_in_typed e typings m at kind ts us here c)
row_typed e typings m at (rows.Call (call.Return kind)) ts us here = return_typed e typings m at kind ts us here (returning kind (returned_by e) ts.operands us.operands here.after.operands)
row_typed e typings m at rows.Throw ts us here = throw_typed e typings m at ts us here
row_typed e typings m at (rows.Monitor r) ts us here = monitor_typed e typings m at ts us r here

-- WHERE IT STANDS: the instruction, and the types before and after it
pub record Accepted (e : Moment) (typings : Typings) : Type 0 where
  pub method : ℕ
  pub at : Site
  pub row : Row
  pub before : TypesOf
  pub after : TypesOf
  pub here : Here e typings method at row before after

module _ (e : Moment) (typings : Typings) (calm : Calm e typings) (turn : turn_of (thread_of e) ≡ Instruction) where
  runs : Runs e.program (current_frame e)
  runs = runs_there e.program e.before e.thread calm.sound turn

  no_method : (o : Option ℕ) (m : ℕ) → o ≡ Some m → o ≡ None → ⊥
  no_method o m named none = cc

  holds : (m : ℕ) → (current_frame e).method ≡ Some m → IsTypedFrame e.program typings (current_frame e) (current_frame e).method Whole → Holds (typings m) (current_frame e)
  holds m named h = subst (λ (o : Option ℕ). IsTypedFrame e.program typings (current_frame e) o Whole) named h

  at_row : (m : ℕ) → (current_frame e).method ≡ Some m → (r : RunsMethod e.program (current_frame e) m) (h : Holds (typings m) (current_frame e)) → IsTyping e.program m r.body (typings m) → IsAccepted e.program m r.body (typings m) (current_frame e).pc h.types → Accepted e typings
  at_row m named r h t a =
      let p : Linked = e.program in
      let f : FrameState = current_frame e in
      let code_is : (code_of_frame e.program (current_frame e)).code ≡ r.body.code = ap (λ (o : Option ℕ). (present_body (method_at e.program (unwrap_or o 0)).code).code) named ∙ ap (λ (c : Option Body). (present_body c).code) r.code in
      let decoded : decoded_at e.program (current_frame e) ≡ Ok a.decoded = ap (λ (c : List ℕ). instruction_at c (current_frame e).pc) code_is ∙ a.at in
      let at : Site = site_of e.program (current_frame e) a.decoded in
      let site : site_in e.program m r.body a.decoded ≡ site_of e.program (current_frame e) a.decoded = sym (site_same e.program (current_frame e) m r.body a.decoded named r.code) in
      let there : IsPc (code_of_frame e.program (current_frame e)) (current_frame e).pc = pc_there e.program (current_frame e) (record { method = m; named = named; runs = r }) in
      let stands : StandsAt e (site_of e.program (current_frame e) a.decoded) = record {
        sound = calm.sound;
        clock = calm.clock;
        frame = has_frame_there e.before.guest e.thread turn;
        runs = λ none. no_method (current_frame e).method m named none;
        operands = r.operands;
        next = next_pc (code_of_frame e.program (current_frame e)) (current_frame e).pc a.decoded there decoded;
      } in
      let row : IsAtRow e (site_of e.program (current_frame e) a.decoded) a.row = record { stands = stands; decoded = a.decoded; is = decoded; row = a.does; site = refl } in
      let returned : returned_by e ≡ returned_of (method_at e.program m) = ap (λ (o : Option ℕ). returned_of (method_at e.program (unwrap_or o 0))) named in
      let accepted : types_after (current_frame e).room (returned_by e) (site_of e.program (current_frame e) a.decoded) a.row h.types ≡ Some a.after =
      subst (λ (n : ℕ). types_after n (returned_by e) (site_of e.program (current_frame e) a.decoded) a.row h.types ≡ Some a.after) (sym r.room)
      (subst (λ (x : List ℕ). types_after r.body.max_stack x (site_of e.program (current_frame e) a.decoded) a.row h.types ≡ Some a.after) (sym returned)
      (subst (λ (s : Site). types_after r.body.max_stack (returned_of (method_at e.program m)) s a.row h.types ≡ Some a.after) site a.accepts)) in
      let next : AreThere (typings m) (next_places (current_frame e).pc (site_of e.program (current_frame e) a.decoded) a.row) a.after =
      subst (λ (s : Site). AreThere (typings m) (next_places (current_frame e).pc s a.row) a.after) site a.goes_on in
      let here : Here e typings m (site_of e.program (current_frame e) a.decoded) a.row h.types a.after = record {
        calm = calm;
        row = row;
        method = named;
        typed_at = h.at_pc;
        operands = h.operands;
        locals = h.locals;
        accepted = accepted;
        after = fits_as (current_frame e).room (operands_after (returned_by e) (site_of e.program (current_frame e) a.decoded) a.row h.types.operands) (locals_after (site_of e.program (current_frame e) a.decoded) a.row h.types.locals) a.after accepted;
        next = next;
      } in
      record { method = m; at = site_of e.program (current_frame e) a.decoded; row = a.row; before = h.types; after = a.after; here = here }

  pub accepted : Accepted e typings
  accepted =
      let h : Holds (typings runs.method) (current_frame e) =
      holds runs.method runs.named (first_typed e.program typings Whole (thread_of e).frames (has_frame_there e.before.guest e.thread turn).frame calm.frames).0 in
      let t : IsTyping e.program runs.method runs.runs.body (typings runs.method) = calm.kinds.typing runs.method runs.runs.body runs.runs.method runs.runs.code in
      at_row runs.method runs.named runs.runs h t (t.accepted (current_frame e).pc h.types h.at_pc)

-- THE INSTRUCTION
pub instruction_typed : (e : Moment) (typings : Typings) → Calm e typings → turn_of (thread_of e) ≡ Instruction → LeavesTyped e typings (instruction e)
instruction_typed e typings calm turn =
    let a : Accepted e typings = accepted e typings calm turn in
    let row : IsAtRow e a.at a.row = a.here.row in
    subst (λ (x : Result (Instr × ℕ) CodeFault). LeavesTyped e typings (by_instruction e x)) (sym row.is)
    (subst (λ (o : Option Row). LeavesTyped e typings (by_row e (site_of e.program (current_frame e) row.decoded) o)) (sym row.row)
    (subst (λ (q : Site). LeavesTyped e typings (does e q a.row)) row.site
    (row_typed e typings a.method a.at a.row a.before a.after a.here)))
