-- An exception is pending: a handler is entered with it and the local variables, or a frame is dropped.
use Rattle.std.proofs.Common.{◌≡◌, ℕ, ◌<◌, ◌≤◌, ◌==◌, ◌&&◌, ◌||◌, Bool, true, false, List, [], ◌∷◌, length, Option, Some, None, refl, sym, ◌∙◌, ap, subst, arith, Contains}
use Rattle.std.specs.Prelude.{if◌then◌else◌, filter, find, is_some, map, nat_le, nat_lt, unwrap_or}
use Rattle.std.proofs.lemmas.Bool.{false≢true, lt-ltb}
use Rattle.std.proofs.lemmas.List.{length-set}
use Rattle.std.proofs.lemmas.Option.{none-some, same_Some}
use Rattle.et_state.proofs.Steps.{with_first}
use Rattle.et_base.proofs.Lists.{Contains-here, Contains-there}
use Rattle.et_base.specs.declared.value.Value.TheVariants.{Ref}
use Rattle.et_code.specs.Bodies.{Body}
use Rattle.et_code.specs.declared.body.TableRow.{TableRow}
use Rattle.et_event.specs.Errors.{error_class}
use Rattle.et_event.specs.Initialization.{with_state}
use Rattle.et_event.specs.Moments.{Doing, Moment, begins, current_frame, goes, instance_made, next_object, object_class, slot_written, thread_of, told, with_thread_state}
use Rattle.et_event.specs.Monitors.{Lock, OfClass, OfObject, left, lock_in, owns}
use Rattle.et_event.specs.Checks.{ill_typed_unless}
use Rattle.et_event.specs.Sites.{code_of_frame, pool_of_class, present_body, running_method}
use Rattle.et_event.specs.Sound.{AreSoundFrames, IsSoundFor, IsStaged, RunsMethod}
use Rattle.et_event.specs.Throw.{by_handler, catches, catches_name, caught, dropped, failed, handled, handler_of, is_above_or_same, is_error, left_if_owned, replaced, unwinding_step, unwinds, unwound, unwound_clinit}
use Rattle.et_event.specs.declared.errors.GuestError.TheVariants.{ExceptionInInitializerError}
use Rattle.et_class.specs.Looks.{class_name_at}
use Rattle.et_class.specs.Entries.{Item}
use Rattle.et_program.specs.Entries.{Linked, method_at}
use Rattle.et_program.specs.Members.{class_named}
use Rattle.et_history.proofs.soundness.Outcomes.{if_case}
use Rattle.et_state.specs.Outcome.{Outcome}
use Rattle.et_state.specs.State.{Kept}
use Rattle.et_state.specs.Threads.{FrameState, ThreadState, rest_of, with_pending, with_top_of, without_top}
use Rattle.et_state.specs.Words.{thread_at}
use Rattle.et_state.specs.declared.class_state.ClassState.TheVariants.{Failed}
use Rattle.et_state.specs.declared.records.Record.TheVariants.{Unwind}
use Rattle.et_state.specs.declared.stage.Stage.{Stage}
use Rattle.et_state.specs.declared.stage.Stage.TheVariants.{Before, Clinit, Plain}
use Rattle.et_flow.specs.Flows.{AreAbove, IsThere}
use Rattle.et_flow.specs.Types.{caught as caught_types}
use Rattle.et_verify.specs.Leads.{handlers_at, is_of_program, may_handle}
use Rattle.et_flow.specs.Types.{TypesOf}
use Rattle.et_verify.specs.Typings.{IsAccepted, IsTyping}
use Rattle.et_theorems.specs.typings.Typed.{AreTypedFrames, AreTypings, Holds, HoldsLocals, IsTypedFrame, IsTypedThread, LocalsAlone, Typings, Whole, part_below, part_of}
use Rattle.et_theorems.proofs.typings.Here.{there_holds}
use Rattle.et_theorems.proofs.typings.Own.{AsBefore, LeavesTyped, Own, ends_leave, first_typed, own_by, pending_own, same_thread, slot_threads, started_still, thread_own, weak_frames}

-- HANDLERS

-- what the machine finds may handle
named_there : (p : Linked) (class : ℕ) (o : Option (List ℕ)) → catches_name p class o ≡ true → is_of_program p o ≡ true
named_there p class None h = h
named_there p class (Some name) h = by (class_named p name) h
  where
    by : (k : Option ℕ) → is_above_or_same p class k ≡ true → is_some k ≡ true
    by None q = q
    by (Some k) q = refl

or_more : (a b c : Bool) → (b ≡ true → c ≡ true) → (a || b) ≡ true → (a || c) ≡ true
or_more true b c h q = refl
or_more false b c h q = h q

and_more : (a b c : Bool) → (b ≡ true → c ≡ true) → (a && b) ≡ true → (a && c) ≡ true
and_more true b c h q = h q
and_more false b c h q = q

pub may_so : (p : Linked) (pool : List (Option Item)) (pc class : ℕ) (row : TableRow) → catches p pool pc class row ≡ true → may_handle p pool pc row ≡ true
may_so p pool pc class row h =
    and_more (nat_le row.start pc && nat_lt pc row.end) ((row.catch == 0) || catches_name p class (class_name_at pool row.catch)) ((row.catch == 0) || is_of_program p (class_name_at pool row.catch))
    (or_more (row.catch == 0) (catches_name p class (class_name_at pool row.catch)) (is_of_program p (class_name_at pool row.catch)) (named_there p class (class_name_at pool row.catch))) h

found_handles : (test may : TableRow → Bool) (rows : List TableRow) (row : TableRow) → ((r : TableRow) → test r ≡ true → may r ≡ true) → find test rows ≡ Some row → Contains (map (λ (r : TableRow). r.handler) (filter may rows)) row.handler
found_handles test may [] row so h = absurd (none-some row h)
found_handles test may (r ∷ rows) row so h = by (test r) refl h (found_handles test may rows row so)
  where
    kept : (b : Bool) → may r ≡ b → b ≡ true → r ≡ row → Contains (map (λ (x : TableRow). x.handler) (if b then r ∷ filter may rows else filter may rows)) row.handler
    kept true q t same = subst (λ (x : TableRow). Contains (r.handler ∷ map (λ (y : TableRow). y.handler) (filter may rows)) x.handler) same (Contains-here r.handler (map (λ (y : TableRow). y.handler) (filter may rows)))
    kept false q t same = absurd (false≢true t)

    past : (b : Bool) → Contains (map (λ (x : TableRow). x.handler) (filter may rows)) row.handler → Contains (map (λ (x : TableRow). x.handler) (if b then r ∷ filter may rows else filter may rows)) row.handler
    past true c = Contains-there r.handler (map (λ (y : TableRow). y.handler) (filter may rows)) row.handler c
    past false c = c

    by : (b : Bool) → test r ≡ b → (if b then Some r else find test rows) ≡ Some row → (find test rows ≡ Some row → Contains (map (λ (x : TableRow). x.handler) (filter may rows)) row.handler) → Contains (map (λ (x : TableRow). x.handler) (filter may (r ∷ rows))) row.handler
    by true q e more = kept (may r) refl (so r q) (same_Some r row e)
    by false q e more = past (may r) (more e)

-- WHAT IS KNOWN
pub record Pends (e : Moment) (typings : Typings) (o : ℕ) : Type 0 where
  pub sound : IsSoundFor e.program e.before
  pub kinds : AreTypings e.program typings
  pub started : e.thread < length e.before.guest.threads
  pub pending : (thread_of e).pending ≡ Some o
  pub framed : 0 < length (thread_of e).frames
  pub frames : AreTypedFrames e.program typings LocalsAlone (thread_of e).frames

left_threads : (e : Moment) (lock : Option Lock) (d : Doing) → (left_if_owned e lock d).state.guest.threads ≡ d.state.guest.threads
left_threads e None d = refl
left_threads e (Some (OfObject o)) d = if_case (λ (x : Doing). x.state.guest.threads ≡ d.state.guest.threads) (owns e d (OfObject o)) (left (OfObject o) d) d refl refl
left_threads e (Some (OfClass c)) d = if_case (λ (x : Doing). x.state.guest.threads ≡ d.state.guest.threads) (owns e d (OfClass c)) (left (OfClass c) d) d refl refl

module _ (e : Moment) (typings : Typings) (o : ℕ) (k : Pends e typings o) where
  abbrev P : Outcome Kept → Type 0
  P x = LeavesTyped e typings x

  split : IsTypedFrame e.program typings (current_frame e) (current_frame e).method LocalsAlone × AreTypedFrames e.program typings (part_below (current_frame e).stage) (rest_of (thread_of e).frames)
  split = first_typed e.program typings LocalsAlone (thread_of e).frames k.framed k.frames

  -- A FRAME IS DROPPED
  record Dropped (d : Doing) : Type 0 where
    own : Own e typings d
    inside : e.thread < length d.state.guest.threads

  dropped_so : (d : Doing) → AsBefore e d → Dropped (dropped e d)
  dropped_so d same = record {
    own =
        thread_own e typings (without_top (thread_at d.state.guest e.thread)) d (started_still e d k.started same)
        (subst (λ (x : ThreadState). IsTypedThread e.program typings (without_top x)) (sym (same_thread e d same))
        (subst (λ (p : Option ℕ). AreTypedFrames e.program typings (part_of p) (rest_of (thread_of e).frames)) (sym k.pending)
        (weak_frames e.program typings (part_below (current_frame e).stage) (rest_of (thread_of e).frames) split.1)));
    inside = omega (arith, started_still e d k.started same, length-set d.state.guest.threads e.thread (without_top (thread_at d.state.guest e.thread)));
  }

  replaced_own : (d : Doing) → Dropped d → Own e typings (replaced e o d)
  replaced_own d h =
      let y : Doing = instance_made e (error_class e.program ExceptionInInitializerError) d in
      let z : Doing = slot_written e (next_object d) 1 (Ref o) y in
      let same : z.state.guest.threads ≡ d.state.guest.threads = slot_threads e (next_object d) 1 (Ref o) y in
      pending_own e typings (next_object d) z (subst (λ (ts : List ThreadState). e.thread < length ts) (sym same) h.inside)
      (weak_frames e.program typings (part_of (thread_at z.state.guest e.thread).pending) (thread_at z.state.guest e.thread).frames (own_by e typings d z same h.own))

  failed_own : (c : ℕ) (d : Doing) → Dropped d → Own e typings (failed e c o d)
  failed_own c d h =
      let x : Doing = with_state c Failed d in
      if_case (λ (y : Doing). Own e typings y) (is_error e o) x (replaced e o x) h.own (replaced_own x (record { own = h.own; inside = h.inside }))

  -- A HANDLER IS ENTERED
  room_there : (m : ℕ) (body : Body) → IsTyping e.program m body (typings m) → (handler : ℕ) (ts : TypesOf) → IsThere (typings m) handler (caught_types ts) → 0 < body.max_stack
  room_there m body t handler ts there = by (typings m handler) refl there
    where
      by : (x : Option TypesOf) → typings m handler ≡ x → AreAbove (caught_types ts) x → 0 < body.max_stack
      by None q h = absurd h
      by (Some us) q h = (let few : length us.operands ≤ body.max_stack = (t.fits handler us q).few in let one : length (caught_types ts).operands ≡ length us.operands = ap length h.operands in omega (arith, few, one))

  enters_handler : (m : ℕ) → (current_frame e).method ≡ Some m → RunsMethod e.program (current_frame e) m → (row : TableRow) → handler_of e.program (current_frame e) (object_class (begins e) o) ≡ Some row → P (caught e o row.handler)
  enters_handler m named r row found =
      let h : HoldsLocals (typings m) (current_frame e) = subst (λ (x : Option ℕ). IsTypedFrame e.program typings (current_frame e) x LocalsAlone) named split.0 in
      let t : IsTyping e.program m r.body (typings m) = k.kinds.typing m r.body r.method r.code in
      let a : IsAccepted e.program m r.body (typings m) (current_frame e).pc h.types = t.accepted (current_frame e).pc h.types h.at_pc in
      goes_so h t a
    where
      code_is : code_of_frame e.program (current_frame e) ≡ r.body
      code_is = ap (λ (x : Option ℕ). present_body (method_at e.program (unwrap_or x 0)).code) named ∙ ap present_body r.code

      in_pool : pool_of_class e.program (running_method e.program (current_frame e)).class ≡ pool_of_class e.program (method_at e.program m).class
      in_pool = ap (λ (x : Option ℕ). pool_of_class e.program (method_at e.program (unwrap_or x 0)).class) named

      -- it is one of those that may be entered there
      handles : Contains (handlers_at e.program m r.body (current_frame e).pc) row.handler
      handles =
          found_handles (catches e.program (pool_of_class e.program (method_at e.program m).class) (current_frame e).pc (object_class (begins e) o)) (may_handle e.program (pool_of_class e.program (method_at e.program m).class) (current_frame e).pc) r.body.table row
          (λ x q. may_so e.program (pool_of_class e.program (method_at e.program m).class) (current_frame e).pc (object_class (begins e) o) x q)
          (subst (λ (b : Body). find (catches e.program (pool_of_class e.program (method_at e.program m).class) (current_frame e).pc (object_class (begins e) o)) b.table ≡ Some row) code_is
          (subst (λ (pool : List (Option Item)). find (catches e.program pool (current_frame e).pc (object_class (begins e) o)) (code_of_frame e.program (current_frame e)).table ≡ Some row) in_pool found))

      goes_so : (h : HoldsLocals (typings m) (current_frame e)) → IsTyping e.program m r.body (typings m) → IsAccepted e.program m r.body (typings m) (current_frame e).pc h.types → P (caught e o row.handler)
      goes_so h t a =
          let there : IsThere (typings m) row.handler (caught_types h.types) = a.handled row.handler handles in
          let f : FrameState = handled (current_frame e) row.handler o in
          let holds : Holds (typings m) f = there_holds (typings m) f (caught_types h.types) there refl h.locals in
          let typed : IsTypedFrame e.program typings f (current_frame e).method Whole = subst (λ (x : Option ℕ). IsTypedFrame e.program typings f x Whole) (sym named) holds in
          let room : nat_lt 0 (current_frame e).room ≡ true = lt-ltb 0 (current_frame e).room (subst (λ (n : ℕ). 0 < n) (sym r.room) (room_there m r.body t row.handler h.types there)) in
          subst (λ (b : Bool). P (ill_typed_unless e b (goes (with_thread_state e (with_pending None (with_top_of (thread_of e) (handled (current_frame e) row.handler o))) (begins e))))) (sym room)
          (thread_own e typings (with_pending None (with_top_of (thread_of e) (handled (current_frame e) row.handler o))) (begins e) k.started (typed, split.1))

  by_handlers : (m : ℕ) → (current_frame e).method ≡ Some m → RunsMethod e.program (current_frame e) m → (go : Outcome Kept) → P go → P (by_handler e o go (handler_of e.program (current_frame e) (object_class (begins e) o)))
  by_handlers m named r go h = by (handler_of e.program (current_frame e) (object_class (begins e) o)) refl
    where
      by : (x : Option TableRow) → handler_of e.program (current_frame e) (object_class (begins e) o) ≡ x → P (by_handler e o go x)
      by None q = h
      by (Some row) q = enters_handler m named r row q

  unwound_typed : P (unwound e o)
  unwound_typed =
      let lock : Option Lock = lock_in (current_frame e).stage (running_method e.program (current_frame e)) (current_frame e).lock in
      (dropped_so (left_if_owned e lock (begins e)) (left_threads e lock (begins e))).own

  clinit_typed : (c : ℕ) → P (unwound_clinit e c o)
  clinit_typed c =
      let h : Dropped (dropped e (begins e)) = dropped_so (begins e) refl in
      let d : Doing = told (Unwind (begins e).state.guest.clock e.thread (unwrap_or (current_frame e).method 0) o) (dropped e (begins e)) in
      ends_leave e typings (failed e c o d) (failed_own c d (record { own = h.own; inside = h.inside }))

  staged_typed : (stage : Stage) (method : Option ℕ) → (current_frame e).method ≡ method → IsStaged e.program (current_frame e) stage method → P (unwinds e o stage)
  staged_typed Plain None named h = absurd h
  staged_typed Plain (Some m) named h = by_handlers m named h.0 (unwound e o) unwound_typed
  staged_typed (Before c) method named h = ends_leave e typings (failed e c o (dropped e (begins e))) (failed_own c (dropped e (begins e)) (dropped_so (begins e) refl))
  staged_typed (Clinit c) None named h = absurd h
  staged_typed (Clinit c) (Some m) named h = by_handlers m named h.1 (unwound_clinit e c o) (clinit_typed c)

  pub unwinding_typed : P (unwinding_step e (Some o))
  unwinding_typed =
      let sound : AreSoundFrames e.program (current_frame e ∷ rest_of (thread_of e).frames) =
      subst (λ (fs : List FrameState). AreSoundFrames e.program fs) (sym (with_first (thread_of e).frames k.framed)) (k.sound.threads e.thread k.started).frames in
      staged_typed (current_frame e).stage (current_frame e).method refl sound.0
