-- Each turn of a thread.
use Rattle.et_base.proofs.Positions.{Passes, position_passes}
use Rattle.et_class.specs.Names.{has}
use Rattle.et_code.specs.declared.instr.CodeFault.{CodeFault}
use Rattle.et_code.specs.declared.instr.Instr.{Instr}
use Rattle.et_event.specs.Event.{by_instruction, by_row, does_turn, event, initializes}
use Rattle.et_event.specs.Moments.{Moment, current_frame, thread_of}
use Rattle.et_event.specs.Plain.{frame_after}
use Rattle.et_event.specs.Programs.{IsArrayClass}
use Rattle.et_event.specs.Runnable.{IsRunnable}
use Rattle.et_event.specs.Sites.{Site, constant_at, decoded_at, natural_of, pool_index, pool_of_class, site_of}
use Rattle.et_event.specs.Sound.{AreSoundFrames, IsSoundFor, IsStaged}
use Rattle.et_event.specs.Table.{row_of}
use Rattle.et_event.specs.declared.rows.CallKind.{CallKind}
use Rattle.et_event.specs.declared.rows.CallRow.{CallRow}
use Rattle.et_event.specs.declared.rows.CallRow.TheVariants.{Invoke}
use Rattle.et_event.specs.declared.rows.HeapRow.{HeapRow}
use Rattle.et_event.specs.declared.rows.MonitorRow.{MonitorRow}
use Rattle.et_event.specs.declared.rows.Row.{Row}
use Rattle.et_heap.specs.Objects.{at}
use Rattle.et_program.specs.Entries.{ClassEntry, Linked, class_at, no_class}
use Rattle.et_program.specs.Members.{base_array, is_base_array}
use Rattle.et_program.specs.declared.info.MethodInfo.{MethodInfo}
use Rattle.et_history.proofs.soundness.Arrays.{names_class}
use Rattle.et_history.proofs.soundness.Entering.{StandsIn, stands_in}
use Rattle.et_history.proofs.soundness.Frames.{RunsSome, runs_some}
use Rattle.et_history.proofs.soundness.Turning.{class_by, parts, runs_by}
use Rattle.et_history.proofs.soundness.Wholes.{sound}
use Rattle.et_history.proofs.soundness.Classes.{base_is_array}
use Rattle.et_state.specs.State.{Kept}
use Rattle.et_state.specs.Threads.{FrameState, has_frame, rest_of, turn_of}
use Rattle.et_state.specs.Words.{IsUnended}
use Rattle.et_state.specs.declared.stage.Stage.{Stage}
use Rattle.et_state.specs.declared.stage.Stage.TheVariants.{Before, Clinit, Plain}
use Rattle.et_state.specs.declared.stage.Turn.{Turn}
use Rattle.et_state.specs.declared.stage.Turn.TheVariants.{EndThread, Entry, Initialize, Instruction, Unwind}
use Rattle.et_history.proofs.steps.Calls.{NamesNoInitializer, call_leads, entry_leads, frame_method, step_leads, unwinding_leads}
use Rattle.et_history.proofs.steps.Held.{IsInMethod, Ready, frame_fine, in_method, thread_fine}
use Rattle.et_history.proofs.steps.Plain.{after_fine}
use Rattle.et_history.proofs.steps.Rows.{MakesArrays, constant_leads, divides_leads, end_leads_on, heap_leads, monitor_leads, on_frame_leads, throw_leads}
use Rattle.et_history.specs.steps.Holding.{monitor_row, monitor_row_at, row_decoded}
use Rattle.et_history.specs.steps.Steps.{IsAtMonitor, IsFramed, IsMethodOf, Leads}
use Rattle.std.proofs.Common.{Err, List, None, Ok, Option, Result, Some, ap, arith, length, refl, subst, sym, true, ℕ, ◌<◌, ◌∙◌, ◌∷◌, ◌≡◌}
use Rattle.std.specs.Prelude.{IfSome, IsSome, unwrap_or}
use Rattle.et_event.proofs.Running.{some_frame}
use Rattle.et_state.proofs.Steps.{with_first}
use Rattle.et_base.proofs.Options.{some-none}
use Rattle.et_event.specs.declared.rows.Row.TheVariants as row
use Rattle.et_event.specs.declared.rows.HeapRow.TheVariants as heap

-- the classes of the arrays that the thread makes
abbrev MakesAll : Moment → Type 0
MakesAll e = (x : Instr × ℕ) → decoded_at e.program (current_frame e) ≡ Ok x → (r : HeapRow) → row_of x.0.opcode ≡ Some (row.Heap r) → MakesArrays e.program (site_of e.program (current_frame e) x) r

-- .. and its calls name no <clinit>
abbrev CallsAll : Moment → Type 0
CallsAll e = (x : Instr × ℕ) → decoded_at e.program (current_frame e) ≡ Ok x → (kind : CallKind) → row_of x.0.opcode ≡ Some (row.Call (Invoke kind)) → NamesNoInitializer (site_of e.program (current_frame e) x)

module _ (e : Moment) (ready : Ready e) (framed : IsFramed e) where
  row_leads : (at : Site) (r : Option Row) → IsMethodOf e.program (unwrap_or (current_frame e).method 0) → ((x : MonitorRow) → r ≡ Some (row.Monitor x) → IsAtMonitor e) → ((x : HeapRow) → r ≡ Some (row.Heap x) → MakesArrays e.program at x)
      → ((kind : CallKind) → r ≡ Some (row.Call (Invoke kind)) → NamesNoInitializer at) → Leads e (by_row e at r)
  row_leads at None is monitors makes names = tt
  row_leads at (Some (row.Frame r)) is monitors makes names = on_frame_leads e ready framed (frame_after at r (current_frame e)) (after_fine e.before.heap at r (current_frame e) (frame_fine e ready))
  row_leads at (Some row.PoolConstant) is monitors makes names = constant_leads e ready framed at (constant_at at.pool (pool_index at))
  row_leads at (Some (row.Divide n o)) is monitors makes names = divides_leads e ready framed at n o
  row_leads at (Some (row.Heap r)) is monitors makes names = heap_leads e ready framed at r (makes r refl)
  row_leads at (Some (row.Call r)) is monitors makes names = call_leads e ready framed at r is (λ kind same. names kind (ap (λ (x : CallRow). Some (row.Call x)) same))
  row_leads at (Some row.Throw) is monitors makes names = throw_leads e ready framed
  row_leads at (Some (row.Monitor r)) is monitors makes names = monitor_leads e ready framed at r (monitors r refl)

  -- a monitor instruction is the one that the thread does
  at_monitor : (x : Instr × ℕ) → turn_of (thread_of e) ≡ Instruction → decoded_at e.program (current_frame e) ≡ Ok x → (r : MonitorRow) → row_of x.0.opcode ≡ Some (row.Monitor r) → IsAtMonitor e
  at_monitor x turn decoded r is none =
      let one : monitor_row_at e (turn_of (thread_of e)) ≡ monitor_row (row_decoded (decoded_at e.program (current_frame e))) = ap (λ (t : Turn). monitor_row_at e t) turn in
      let two : monitor_row (row_decoded (decoded_at e.program (current_frame e))) ≡ monitor_row (row_of x.0.opcode) = ap (λ (q : Result (Instr × ℕ) CodeFault). monitor_row (row_decoded q)) decoded in
      let three : monitor_row (row_of x.0.opcode) ≡ Some r = ap (λ (q : Option Row). monitor_row q) is in
      some-none r (sym (one ∙ (two ∙ three)) ∙ none)

  instruction_leads : (x : Result (Instr × ℕ) CodeFault) → turn_of (thread_of e) ≡ Instruction → decoded_at e.program (current_frame e) ≡ x → IsMethodOf e.program (unwrap_or (current_frame e).method 0) → MakesAll e → CallsAll e → Leads e (by_instruction e x)
  instruction_leads (Err fault) turn is runs makes names = tt
  instruction_leads (Ok x) turn is runs makes names = row_leads (site_of e.program (current_frame e) x) (row_of x.0.opcode) runs (λ r same. at_monitor x turn is r same) (λ r same. makes x is r same) (λ kind same. names x is kind same)

module _ (e : Moment) (ready : Ready e) where
  abbrev IsInRunning : Type 0
  IsInRunning = IsMethodOf e.program (unwrap_or (current_frame e).method 0)

  framed_by : has_frame (thread_of e).frames ≡ true → IsFramed e
  framed_by has = some_frame (thread_of e).frames has

  -- THE TOPMOST FRAME

  frames_there : has_frame (thread_of e).frames ≡ true → AreSoundFrames e.program (current_frame e ∷ rest_of (thread_of e).frames)
  frames_there has = subst (λ (fs : List FrameState). AreSoundFrames e.program fs) (sym (with_first (thread_of e).frames (framed_by has))) (ready.knows.sound.threads e.thread ready.knows.thread.thread).frames

  top_staged : has_frame (thread_of e).frames ≡ true → IsStaged e.program (current_frame e) (current_frame e).stage (current_frame e).method
  top_staged has = (frames_there has).0

  running : has_frame (thread_of e).frames ≡ true → IsInMethod (current_frame e).stage → IsInRunning
  running has runs = frame_method e ready (current_frame e) (current_frame e).stage (current_frame e).method (top_staged has) runs

  initializes_leads : (stage : Stage) → (current_frame e).stage ≡ stage → has_frame (thread_of e).frames ≡ true → Leads e (initializes e stage)
  initializes_leads Plain same has = tt
  initializes_leads (Before c) same has =
      step_leads e ready (framed_by has) c same (class_by e.program (current_frame e) c (current_frame e).method (subst (λ (s : Stage). IsStaged e.program (current_frame e) s (current_frame e).method) same (top_staged has)))
  initializes_leads (Clinit c) same has = tt

  turn_leads : (turn : Turn) → turn_of (thread_of e) ≡ turn → (turn ≡ Instruction → MakesAll e × CallsAll e) → Leads e (does_turn e turn)
  turn_leads Unwind is reads = unwinding_leads e ready (framed_by ((parts (thread_of e)).unwind is)) (thread_of e).pending (λ runs. running ((parts (thread_of e)).unwind is) runs) (thread_fine e ready).pending
  turn_leads EndThread is reads = end_leads_on e
  turn_leads Entry is reads = entry_leads e ready
  turn_leads Initialize is reads = initializes_leads (current_frame e).stage refl ((parts (thread_of e)).initialize is)
  turn_leads Instruction is reads =
      let says = (parts (thread_of e)).instruction is in
      instruction_leads e ready (framed_by says.0) (decoded_at e.program (current_frame e)) is refl (running says.0 (in_method (current_frame e).stage says.1)) (reads refl).0 (reads refl).1

-- THE ARRAYS that the code makes

base_array_is : (p : Linked) (kind : ℕ) (o : Option ℕ) → IfSome o (Passes (λ (x : ClassEntry). is_base_array kind x.info.element) no_class 0 p.classes) → IsSome o → IsArrayClass p (unwrap_or o 0)
base_array_is p kind None h some = absurd (nothing None refl some)
  where
    nothing : (o : Option ℕ) → o ≡ None → IsSome o → ⊥
    nothing o none is = cc
base_array_is p kind (Some c) h some =
    let at : h.place ≡ c = omega (arith, h.is) in
    record {
      within = subst (λ (k : ℕ). k < length p.classes) at h.within;
      array = base_is_array kind (class_at p c).info.element (subst (λ (k : ℕ). is_base_array kind (class_at p k).info.element ≡ true) at h.passes);
    }

heap_row : (r x : HeapRow) (o : Option Row) → r ≡ x → o ≡ Some (row.Heap r) → o ≡ Some (row.Heap x)
heap_row r x o same is = subst (λ (y : HeapRow). o ≡ Some (row.Heap y)) same is

-- where the thread stands in the code of a method
standing : (e : Moment) → Ready e → turn_of (thread_of e) ≡ Instruction → (x : Instr × ℕ) → decoded_at e.program (current_frame e) ≡ Ok x → StandsIn e x
standing e ready turn x decoded =
    let p : Linked = e.program in
    let f : FrameState = current_frame e in
    let below : List FrameState = rest_of (thread_of e).frames in
    let says = (parts (thread_of e)).instruction turn in
    let frames : AreSoundFrames p (f ∷ below) = frames_there e ready says.0 in
    let some : RunsSome p f = runs_some p f below (runs_by p f f.stage f.method frames.0 says.1) frames in
    stands_in e x some decoded

makes_all : (e : Moment) → Ready e → turn_of (thread_of e) ≡ Instruction → MakesAll e
makes_all e ready turn x decoded r is =
    let p : Linked = e.program in
    let s : StandsIn e x = standing e ready turn x decoded in
    let kind : ℕ = natural_of x.0.first in
    record {
      base = λ same. base_array_is p kind (base_array p kind) (position_passes (λ (c : ClassEntry). is_base_array kind c.info.element) no_class 0 p.classes)
          (ready.may.arrays.base s.method x s.is (heap_row r heap.NewArray (row_of x.0.opcode) same is));
      single = λ same name class named resolves. ready.may.arrays.single s.method x class s.is (heap_row r heap.NewReferenceArray (row_of x.0.opcode) same is) (names_class e x s name class named resolves);
      multi = λ same name class named resolves. ready.may.arrays.multi s.method x class s.is (heap_row r heap.NewMultiArray (row_of x.0.opcode) same is) (names_class e x s name class named resolves);
    }

-- NO CALL names <clinit>
calls_all : (e : Moment) → Ready e → turn_of (thread_of e) ≡ Instruction → CallsAll e
calls_all e ready turn x decoded kind is m named =
    let s : StandsIn e x = standing e ready turn x decoded in
    ready.may.methods.calls s.method (site_of e.program (current_frame e) x) kind m s.is (ap (λ (i : MethodInfo). pool_of_class e.program i.class) s.named) is named

-- THE LAW
pub event_leads : (p : Linked) (s : Kept) (t : ℕ) → IsSoundFor p s → IsUnended s.guest t → IsRunnable p → Leads (record { program = p; before = s; thread = t }) (event p s t)
unfolding event
event_leads p s t sound unended may =
    let e : Moment = record { program = p; before = s; thread = t } in
    let ready : Ready e = record { knows = record { sound = sound; thread = unended; classes = may.owners }; may = may } in
    turn_leads e ready (turn_of (thread_of e)) refl (λ turn. (makes_all e ready turn, calls_all e ready turn))
