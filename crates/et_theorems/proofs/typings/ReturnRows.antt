-- Returns: check 1 passes, and the caller goes on with what is returned.
use Rattle.std.proofs.Common.{◌≡◌, ℕ, ◌<◌, ◌++◌, ◌==◌, Bool, true, false, List, [], ◌∷◌, length, Option, Some, None, Ok, Result, refl, sym, ◌∙◌, ap, subst}
use Rattle.std.specs.Prelude.{if◌then◌else◌, map, unwrap_or}
use Rattle.std.specs.Option.{option_map_or}
use Rattle.std.proofs.lemmas.Bool.{and_parts, eqb-true, false≢true}
use Rattle.std.proofs.lemmas.List.{map-append}
use Rattle.std.proofs.lemmas.Option.{none-some, same_Some}
use Rattle.et_state.proofs.Steps.{with_first}
use Rattle.et_base.specs.declared.value.Value.{Value}
use Rattle.et_class.specs.Descriptors.{MethodType, is_void, method_type, width_of}
use Rattle.et_class.specs.Operands.{is_kind, may_return, operand_kind}
use Rattle.et_class.specs.PoolOperands.Operand.{Operand}
use Rattle.et_class.specs.PoolOperands.Operand.TheVariants as operand
use Rattle.et_code.specs.Bodies.{Body}
use Rattle.et_code.specs.declared.instr.CodeFault.{CodeFault}
use Rattle.et_code.specs.declared.instr.Instr.{Instr}
use Rattle.et_event.specs.Calls.{class_done_by, frame_returned, is_static_call, return, returned_by, with_returned}
use Rattle.et_event.specs.Checks.{entries_of, throws_unless}
use Rattle.et_event.specs.Frames.{behind_or, frames_after_return, next_place_of}
use Rattle.et_event.specs.Moments.{Doing, Moment, begins, current_frame, goes, ill_typed, thread_of}
use Rattle.et_event.specs.Monitors.{Lock, OfClass, OfObject, left_some, lock_in, owns_some}
use Rattle.et_event.specs.Sites.{Member, Site, code_of_frame, present_body, decoded_at, running_method, site_member, site_of}
use Rattle.et_event.specs.Sound.{AreSoundFrames, IsAbove, IsCaller, RunsMethod, returned_of}
use Rattle.et_event.specs.Table.{row_of}
use Rattle.et_event.specs.declared.errors.GuestError.TheVariants as errors
use Rattle.et_event.specs.declared.rows.CallKind.{CallKind}
use Rattle.et_event.specs.declared.rows.CallRow.TheVariants as call
use Rattle.et_event.specs.declared.rows.Row.{Row}
use Rattle.et_event.specs.declared.rows.Row.TheVariants as rows
use Rattle.et_program.specs.Entries.{Linked, method_at}
use Rattle.et_history.proofs.soundness.Frames.{RunsSome, runs_some}
use Rattle.et_state.specs.Outcome.{Outcome}
use Rattle.et_state.specs.State.{Kept}
use Rattle.et_state.specs.Threads.{FrameState, ThreadState, rest_of}
use Rattle.et_state.specs.declared.stage.Stage.{Stage}
use Rattle.et_state.specs.declared.stage.Stage.TheVariants.{Before, Clinit, Plain}
use Rattle.et_flow.specs.declared.types.EntryType.{EntryType}
use Rattle.et_verify.specs.Effects.{Effect, kinds_returned, result_kind, return_effect, returned_kind, taking}
use Rattle.et_verify.specs.Leads.{next_places, site_in}
use Rattle.et_verify.specs.Steps.{types_after, below_taken, locals_after, moved_where, operands_after, with_given}
use Rattle.et_flow.specs.Types.{TypesOf, operand_entries, type_of}
use Rattle.et_verify.specs.Typings.{AreThere, IsAccepted, IsTyping}
use Rattle.et_flow.specs.Flows.{IsThere}
use Rattle.et_code.specs.Decoding.{instruction_at}
use Rattle.et_program.specs.Referring.{pool_of_class}
use Rattle.et_verify.proofs.Taken.{FitsAs, fits_as}
use Rattle.et_theorems.specs.typings.Typed.{AreTypedFrames, AreTypings, Holds, HoldsBelow, IsTypedFrame, Typings, UnderCall, Whole, part_below, part_of}
use Rattle.et_theorems.specs.typings.Values.{AreLocalsOf, AreOperandsOf}
use Rattle.et_theorems.proofs.typings.CallRows.{Calls, calls}
use Rattle.et_theorems.proofs.typings.Here.{Here, behind_there, never_refused, there_holds}
use Rattle.et_theorems.proofs.typings.Moves.{takes_all}
use Rattle.et_theorems.proofs.typings.Own.{LeavesTyped, Own, first_typed, thread_own}
use Rattle.et_theorems.proofs.typings.Taking.{value_taken}
use Rattle.et_theorems.proofs.typings.Ways.{unless_thrown}
use Rattle.et_history.proofs.soundness.Returning.{kind_is as same_kind}

-- WHAT A RETURN TAKES

pub record Returning (kind : Option Operand) (returned : List ℕ) (before after : List EntryType) : Type 0 where
  pub may : may_return kind returned ≡ true
  pub taken : below_taken (kinds_returned kind) before ≡ Some after

pub returning : (kind : Option Operand) (returned : List ℕ) (before after : List EntryType) → moved_where (return_effect kind returned) before ≡ Some after → Returning kind returned before after
returning kind returned before after h = by (may_return kind returned) refl h
  where
    by : (b : Bool) → may_return kind returned ≡ b → moved_where (if b then Some (taking (kinds_returned kind)) else None) before ≡ Some after → Returning kind returned before after
    by true q k = record { may = q; taken = takes_all (kinds_returned kind) before after k }
    by false q k = absurd (none-some after k)

-- values of the type that is returned
abbrev AreReturned : List ℕ → List Value → Type 0
AreReturned returned values = (left : List EntryType) (ops : List Value) → AreOperandsOf ops left → AreOperandsOf (values ++ ops) (with_given (returned_kind returned) left)

none_returned : (returned : List ℕ) → is_void returned ≡ true → AreReturned returned []
none_returned returned void left ops are = are ∙ sym (ap (λ (b : Bool). with_given (if b then None else Some (result_kind returned)) left) void)

-- what is returned as V is of no kind
void_none : (returned : List ℕ) → is_void returned ≡ true → (kind : Operand) → operand_kind returned ≡ Some kind → ⊥
void_none [] void kind e = absurd (false≢true void)
void_none (a ∷ rest) void kind e = no_kind (subst (λ (n : ℕ). operand_kind (n ∷ rest) ≡ Some kind) (letter a rest void) e)
  where
    no_kind : operand_kind (86 ∷ rest) ≡ Some kind → ⊥
    no_kind q = none-some kind q

    letter : (n : ℕ) (more : List ℕ) → is_void (n ∷ more) ≡ true → n ≡ 86
    letter n more q = eqb-true n 86 (and_parts (n == 86) (length more == 0) q).0

one_returned : (kind : Operand) (returned : List ℕ) (v : Value) → is_kind kind (operand_kind returned) ≡ true → map type_of (entries_of v) ≡ operand_entries kind → AreReturned returned (entries_of v)
one_returned kind returned v may is left ops are =
    let k : operand_kind returned ≡ Some kind = same_kind kind (operand_kind returned) may in
    let given : with_given (returned_kind returned) left ≡ operand_entries kind ++ left = not_void (is_void returned) refl k in
    map-append type_of (entries_of v) ops ∙ (ap (λ (xs : List EntryType). xs ++ map type_of ops) is ∙ (ap (λ (xs : List EntryType). operand_entries kind ++ xs) are ∙ sym given))
  where
    not_void : (b : Bool) → is_void returned ≡ b → operand_kind returned ≡ Some kind → with_given (if b then None else Some (result_kind returned)) left ≡ operand_entries kind ++ left
    not_void true q e = absurd (void_none returned q kind e)
    not_void false q e = ap (λ (o : Option Operand). operand_entries (unwrap_or o (if width_of returned == 2 then operand.Long else operand.Int)) ++ left) e

-- THE CALLER GOES ON

same_decoded : (r q : Result (Instr × ℕ) CodeFault) (x y : Instr × ℕ) → r ≡ Ok x → q ≡ Ok y → r ≡ q → x ≡ y
same_decoded r q x y a b same = cc

-- a frame of a method with code has its site in it
pub site_same : (p : Linked) (f : FrameState) (m : ℕ) (body : Body) (decoded : Instr × ℕ) → f.method ≡ Some m → (method_at p m).code ≡ Some body → site_of p f decoded ≡ site_in p m body decoded
site_same p f m body decoded named code =
    ap (λ (o : Option ℕ). site_of p (record f { method = o }) decoded) named
    ∙ ap (λ (c : Option Body). record { instr = decoded.0; next = decoded.1; code = (present_body c).code; pool = pool_of_class p (method_at p m).class; class = (method_at p m).class }) code

module _ (p : Linked) (typings : Typings) (kinds : AreTypings p typings) (f g : FrameState) (returned : List ℕ) (values : List Value) (of_type : AreReturned returned values) where
  -- g waits for f, which returns values of this type
  resumed_holds : (m : ℕ) → g.method ≡ Some m → HoldsBelow p (typings m) g → IsCaller p g f → returned_of (running_method p f) ≡ returned → RunsMethod p g m → Holds (typings m) (record g { pc = next_place_of p g; operands = values ++ g.operands })
  resumed_holds m named h caller same runs =
      let t : IsTyping p m runs.body (typings m) = kinds.typing m runs.body runs.method runs.code in
      let a : IsAccepted p m runs.body (typings m) g.pc h.types = t.accepted g.pc h.types h.at_pc in
      goes m named h caller same runs a
    where
      kind_is : (x y : CallKind) → Some (rows.Call (call.Invoke x)) ≡ Some (rows.Call (call.Invoke y)) → x ≡ y
      kind_is x y q = cc

      goes : (m : ℕ) → g.method ≡ Some m → (h : HoldsBelow p (typings m) g) → IsCaller p g f → returned_of (running_method p f) ≡ returned → (runs : RunsMethod p g m) → IsAccepted p m runs.body (typings m) g.pc h.types → Holds (typings m) (record g { pc = next_place_of p g; operands = values ++ g.operands })
      goes m named h caller same runs a =
          let code_is : (code_of_frame p g).code ≡ runs.body.code = ap (λ (o : Option ℕ). (present_body (method_at p (unwrap_or o 0)).code).code) named ∙ ap (λ (c : Option Body). (present_body c).code) runs.code in
          let decoded_same : a.decoded ≡ h.decoded = same_decoded (instruction_at runs.body.code g.pc) (decoded_at p g) a.decoded h.decoded a.at h.here (sym (ap (λ (c : List ℕ). instruction_at c g.pc) code_is)) in
          let row_same : a.row ≡ rows.Call (call.Invoke h.kind) = same_Some a.row (rows.Call (call.Invoke h.kind)) (sym a.does ∙ (ap (λ (x : Instr × ℕ). row_of x.0.opcode) decoded_same ∙ h.calls)) in
          let site : site_in p m runs.body a.decoded ≡ site_of p g h.decoded = ap (λ (x : Instr × ℕ). site_in p m runs.body x) decoded_same ∙ sym (site_same p g m runs.body h.decoded named runs.code) in
          let at : Site = site_of p g h.decoded in
          let accepted : types_after runs.body.max_stack (returned_of (method_at p m)) at (rows.Call (call.Invoke h.kind)) h.types ≡ Some a.after =
          subst (λ (s : Site). types_after runs.body.max_stack (returned_of (method_at p m)) s (rows.Call (call.Invoke h.kind)) h.types ≡ Some a.after) site
          (subst (λ (r : Row). types_after runs.body.max_stack (returned_of (method_at p m)) (site_in p m runs.body a.decoded) r h.types ≡ Some a.after) row_same a.accepts) in
          let next : AreThere (typings m) (next_places g.pc at (rows.Call (call.Invoke h.kind))) a.after =
          subst (λ (s : Site). AreThere (typings m) (next_places g.pc s (rows.Call (call.Invoke h.kind))) a.after) site
          (subst (λ (r : Row). AreThere (typings m) (next_places g.pc (site_in p m runs.body a.decoded) r) a.after) row_same a.goes_on) in
          let fits : FitsAs runs.body.max_stack (operands_after (returned_of (method_at p m)) at (rows.Call (call.Invoke h.kind)) h.types.operands) (locals_after at (rows.Call (call.Invoke h.kind)) h.types.locals) a.after =
          fits_as runs.body.max_stack (operands_after (returned_of (method_at p m)) at (rows.Call (call.Invoke h.kind)) h.types.operands) (locals_after at (rows.Call (call.Invoke h.kind)) h.types.locals) a.after accepted in
          let c : Calls at (is_static_call h.kind) h.types.operands a.after.operands = calls at (is_static_call h.kind) h.types.operands a.after.operands fits.operands in
          let does_same : c.does ≡ h.does = same_Some c.does h.does (sym c.effect_is ∙ h.effect_is) in
          let left_same : c.left ≡ h.left =
          same_Some c.left h.left (sym c.taken ∙ (ap (λ (x : Effect). below_taken x.taken h.types.operands) (sym c.does_is ∙ does_same) ∙ h.taken)) in
          let kind_same : h.kind ≡ caller.kind = kind_is h.kind caller.kind (sym (sym (ap (λ (x : Instr × ℕ). row_of x.0.opcode) (same_decoded (decoded_at p g) (decoded_at p g) h.decoded caller.decoded h.here caller.at refl)) ∙ h.calls) ∙ caller.call) in
          let member_same : c.member ≡ caller.member =
          same_Some c.member caller.member (sym c.named ∙ (ap (λ (x : Instr × ℕ). site_member (site_of p g x)) (same_decoded (decoded_at p g) (decoded_at p g) h.decoded caller.decoded h.here caller.at refl) ∙ caller.names)) in
          let type_same : returned ≡ c.type.returned =
          sym same ∙ (ap (λ (d : List ℕ). option_map_or (λ (t : MethodType). t.returned) (method_type d) []) (sym caller.descriptor ∙ sym (ap (λ (x : Member). x.descriptor) member_same))
          ∙ ap (λ (o : Option MethodType). option_map_or (λ (t : MethodType). t.returned) o []) c.typed) in
          let operands : AreOperandsOf (values ++ g.operands) a.after.operands =
          of_type h.left g.operands h.operands ∙ (ap (λ (xs : List EntryType). with_given (returned_kind returned) xs) (sym left_same) ∙ (ap (λ (r : List ℕ). with_given (returned_kind r) c.left) type_same ∙ sym c.given)) in
          let locals : AreLocalsOf g.locals a.after.locals = subst (λ (xs : List EntryType). AreLocalsOf g.locals xs) (same_Some h.types.locals a.after.locals fits.locals) h.locals in
          let pc_is : next_place_of p g ≡ h.decoded.1 = ap (λ (x : Result (Instr × ℕ) CodeFault). behind_or g.pc x) h.here in
          there_holds (typings m) (record g { pc = next_place_of p g; operands = values ++ g.operands }) a.after
          (subst (λ (n : ℕ). IsThere (typings m) n a.after) (sym pc_is) (next h.decoded.1 (behind_there g.pc at (rows.Call (call.Invoke h.kind)) refl))) operands locals

-- THE FRAMES AFTER A RETURN
module _ (p : Linked) (typings : Typings) (kinds : AreTypings p typings) (f : FrameState) (values : List Value) where
  abbrev returned : List ℕ
  returned = returned_of (running_method p f)

  waiting : (g : FrameState) (below : List FrameState) → AreReturned (returned_of (running_method p f)) values → IsCaller p g f → AreSoundFrames p (g ∷ below) → (o : Option ℕ) → g.method ≡ o → IsTypedFrame p typings g o UnderCall → IsTypedFrame p typings (record g { pc = next_place_of p g; operands = values ++ g.operands }) o Whole
  waiting g below of_type caller sound None named h = tt
  waiting g below of_type caller sound (Some m) named h =
      let r : RunsSome p g = runs_some p g below caller.runs sound in
      let same : r.method ≡ m = same_Some r.method m (sym r.named ∙ named) in
      resumed_holds p typings kinds f g (returned_of (running_method p f)) values of_type m named h caller refl (subst (λ (k : ℕ). RunsMethod p g k) same r.runs)

  pub after_return : (stage : Stage) (below : List FrameState) → AreReturned (returned_of (running_method p f)) values → IsAbove p f stage below → AreSoundFrames p below → AreTypedFrames p typings (part_below stage) below → AreTypedFrames p typings Whole (frames_after_return p stage values below)
  after_return Plain [] of_type above sound h = tt
  after_return Plain (g ∷ below) of_type above sound h = (waiting g below of_type above sound g.method refl h.0, h.1)
  after_return (Before c) below of_type above sound h = h
  after_return (Clinit c) below of_type above sound h = h

left_threads : (lock : Option Lock) (d : Doing) → (left_some lock d).state.guest.threads ≡ d.state.guest.threads
left_threads None d = refl
left_threads (Some (OfObject o)) d = refl
left_threads (Some (OfClass c)) d = refl

done_threads : (stage : Stage) (d : Doing) → (class_done_by stage d).state.guest.threads ≡ d.state.guest.threads
done_threads Plain d = refl
done_threads (Before c) d = refl
done_threads (Clinit c) d = refl

module _ (e : Moment) (typings : Typings) (m : ℕ) (at : Site) (kind : Option Operand) (ts us : TypesOf) (here : Here e typings m at (rows.Call (call.Return kind)) ts us) where
  abbrev P : Outcome Kept → Type 0
  P o = LeavesTyped e typings o

  f : FrameState
  f = current_frame e

  returned_own : (values : List Value) → AreReturned (returned_by e) values → Own e typings (frame_returned e values (begins e))
  returned_own values of_type =
      let lock : Option Lock = lock_in (current_frame e).stage (running_method e.program (current_frame e)) (current_frame e).lock in
      let y : Doing = left_some lock (begins e) in
      let x : Doing = class_done_by (current_frame e).stage y in
      let threads : x.state.guest.threads ≡ e.before.guest.threads = done_threads (current_frame e).stage y ∙ left_threads lock (begins e) in
      let inside : e.thread < length x.state.guest.threads = subst (λ (ts : List ThreadState). e.thread < length ts) (sym threads) here.calm.started in
      let split = first_typed e.program typings Whole (thread_of e).frames here.row.stands.frame.frame here.calm.frames in
      let sound : AreSoundFrames e.program (current_frame e ∷ rest_of (thread_of e).frames) =
      subst (λ (fs : List FrameState). AreSoundFrames e.program fs) (sym (with_first (thread_of e).frames here.row.stands.frame.frame)) (here.calm.sound.threads e.thread here.calm.started).frames in
      thread_own e typings (record (thread_of e) { frames = frames_after_return e.program (current_frame e).stage values (rest_of (thread_of e).frames) }) x inside
      (subst (λ (o : Option ℕ). AreTypedFrames e.program typings (part_of o) (frames_after_return e.program (current_frame e).stage values (rest_of (thread_of e).frames))) (sym here.calm.none)
      (after_return e.program typings here.calm.kinds (current_frame e) values (current_frame e).stage (rest_of (thread_of e).frames) of_type sound.1 sound.2 split.1))

  pub return_typed : Returning kind (returned_by e) ts.operands us.operands → P (return e kind)
  return_typed h =
      never_refused e typings m at (rows.Call (call.Return kind)) ts us here (may_return kind (returned_by e)) _ h.may (by kind h.may h.taken)
    where
      goes_so : (values : List Value) → AreReturned (returned_by e) values → P (throws_unless e (begins e) errors.IllegalMonitorStateException (owns_some e (begins e) (lock_in (current_frame e).stage (running_method e.program (current_frame e)) (current_frame e).lock)) (goes (frame_returned e values (begins e))))
      goes_so values of_type = unless_thrown e typings here.calm (begins e) errors.IllegalMonitorStateException (owns_some e (begins e) (lock_in (current_frame e).stage (running_method e.program (current_frame e)) (current_frame e).lock)) _ refl (λ owned. returned_own values of_type)

      by : (k : Option Operand) → may_return k (returned_by e) ≡ true → below_taken (kinds_returned k) ts.operands ≡ Some us.operands
          → P (with_returned k (ill_typed e) (current_frame e).operands (λ values. throws_unless e (begins e) errors.IllegalMonitorStateException (owns_some e (begins e) (lock_in (current_frame e).stage (running_method e.program (current_frame e)) (current_frame e).lock)) (goes (frame_returned e values (begins e)))))
      by None may taken = goes_so [] (none_returned (returned_by e) may)
      by (Some k) may taken =
          value_taken P (ill_typed e) k [] (current_frame e).operands ts.operands us.operands _ here.operands taken (λ v below rest is are last. goes_so (entries_of v) (one_returned k (returned_by e) v may is))
