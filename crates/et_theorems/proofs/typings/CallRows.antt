-- Calls: check 1 passes, the method that is entered begins with its first types, and its caller waits for what it returns.
use Rattle.std.proofs.Common.{◌≡◌, ℕ, ◌+◌, ◌<◌, ◌≤◌, ◌&&◌, ◌||◌, ◌⊎◌, Bool, true, false, leb, List, ◌∷◌, length, drop, Option, Some, None, Ok, Result, IsSome, refl, sym, ◌∙◌, ap, subst, inl, inr, arith}
use Rattle.std.specs.Prelude.{if◌then◌else◌, map, not, option_and_then, option_map, reverse, slice_index_or, codes}
use Rattle.std.specs.List.{flat_map}
use Rattle.std.specs.Str.{bytes_eq}
use Rattle.std.specs.Result.{result_ok}
use Rattle.std.proofs.lemmas.Bool.{le-leb, not-true, true≢false}
use Rattle.std.proofs.lemmas.List.{length-append, length-map, length-set}
use Rattle.std.proofs.lemmas.Option.{none-some, same_Some}
use Rattle.et_base.specs.declared.value.Value.{Value}
use Rattle.et_class.specs.Descriptors.{MethodType, is_void, method_type, width_of}
use Rattle.et_class.specs.Names.{has}
use Rattle.et_class.specs.Operands.{operand_kind, returned_width}
use Rattle.et_class.specs.PoolOperands.Operand.{Operand}
use Rattle.et_class.specs.declared.flags.TheConstants.{NATIVE}
use Rattle.et_code.specs.Bodies.{Body}
use Rattle.et_event.specs.BuiltIns.{built_in_event, is_fit_for}
use Rattle.et_event.specs.Calls.{are_arguments, are_of, are_passed, arguments_of, call_fits, dispatched, enters_method, entry_count, fits_resolved, invoke, is_as, is_static_call, special_class, taking, with_method, with_type}
use Rattle.et_event.specs.Checks.{after_selection, not_null}
use Rattle.et_event.specs.Frames.{by_code, enters, first_reference, frame_entered, method_frame, receiver_of}
use Rattle.et_event.specs.Moments.{Doing, Moment, begins, current_frame, object_class, thread_of}
use Rattle.et_event.specs.Monitors.{Lock, OfClass, OfObject, entered_some, lock_for, may_enter_some}
use Rattle.et_event.specs.Programs.{is_initializing}
use Rattle.et_event.specs.Sites.{Member, Site, names_interface, site_member, site_of}
use Rattle.et_event.specs.TextRows.{is_fit_text}
use Rattle.et_event.specs.declared.errors.GuestError.TheVariants as errors
use Rattle.et_event.specs.declared.rows.CallKind.{CallKind}
use Rattle.et_event.specs.declared.rows.CallKind.TheVariants.{Interface, Special, Static, Virtual}
use Rattle.et_event.specs.declared.rows.CallRow.TheVariants as call
use Rattle.et_event.specs.declared.rows.Row.TheVariants as rows
use Rattle.et_program.specs.BootMethods.BuiltIn.{BuiltIn}
use Rattle.et_program.specs.BootTexts.TextMethod.{TextMethod}
use Rattle.et_program.specs.BuiltIns.{built_in_of, text_method_of}
use Rattle.et_program.specs.Entries.{is_static, method_at}
use Rattle.et_program.specs.Resolution.{resolve_class, resolve_method, select, select_special}
use Rattle.et_program.specs.declared.errors.LinkError.{LinkError}
use Rattle.et_program.specs.declared.info.MethodInfo.{MethodInfo}
use Rattle.et_program.specs.Referring.{pool_of_class}
use Rattle.et_history.proofs.soundness.Calling.{IsCall, IsCalled, not_initializing, typed_as, either}
use Rattle.et_history.proofs.soundness.Entering.{StandsIn, runs_here, stands_in, thread_now}
use Rattle.et_history.proofs.soundness.Invoking.{as_wanted}
use Rattle.et_history.proofs.soundness.Resolving.{resolved_method, selected_method, selected_special}
use Rattle.et_history.specs.soundness.Methods.{IsInstanceMethod, IsMethod}
use Rattle.et_history.specs.soundness.Places.{IsAtRow}
use Rattle.et_state.specs.Outcome.{Outcome}
use Rattle.et_state.specs.State.{Kept}
use Rattle.et_state.specs.Threads.{FrameState, ThreadState, entered_by, locals_with, no_thread, popped, rest_of, with_top_of}
use Rattle.et_state.specs.Words.{thread_at}
use Rattle.et_flow.specs.declared.types.EntryType.{EntryType}
use Rattle.et_verify.specs.Effects.{Effect, all_kinds, arguments_with, call_effect, returned_kind, result_kind, type_effect}
use Rattle.et_verify.specs.Steps.{below_taken, moved_where, with_given}
use Rattle.et_flow.specs.Types.{TypesOf, local_entries, operand_entries, type_of}
use Rattle.et_flow.specs.Stores.{with_free}
use Rattle.et_verify.specs.Typings.{IsTyping, argument_entries, first_types}
use Rattle.et_theorems.specs.typings.Refused.{FailsBuiltIn, FailsResolved, FailsRow, FailsText, selected}
use Rattle.et_theorems.specs.typings.Typed.{AreTypedFrames, AreTypings, Holds, HoldsBelow, IsTypedFrame, IsTypedThread, Typings, UnderCall, Whole, part_below, part_of}
use Rattle.et_theorems.specs.typings.Values.{AreLocalsOf, AreOperandsOf}
use Rattle.et_theorems.proofs.typings.Arguments.{Passes, arguments_are, passed}
use Rattle.et_theorems.proofs.typings.Here.{Here, never_refused, there_holds, unless_refused}
use Rattle.et_history.proofs.texts.Called.{result_some}
use Rattle.et_theorems.proofs.typings.Moves.{width_is}
use Rattle.et_theorems.proofs.typings.Own.{AsBefore, LeavesTyped, Own, ends_leave, first_typed, same_thread, started_still, thread_own}
use Rattle.et_theorems.proofs.typings.Plain.{MovesAs, moves_as}
use Rattle.et_theorems.proofs.typings.Starting.{all_some, arguments_local, count_is, entries_are}
use Rattle.et_theorems.proofs.typings.Ways.{begun_well, unless_thrown, unless_waiting, where_frame_fits, where_initialized, where_not_null, where_resolved}

-- WHAT A CALL TAKES

pub record Calls (at : Site) (static : Bool) (before after : List EntryType) : Type 0 where
  pub member : Member
  pub named : site_member at ≡ Some member
  pub type : MethodType
  pub typed : method_type member.descriptor ≡ Some type
  pub kinds : List Operand
  pub all : map operand_kind type.parameters ≡ map Some kinds
  pub does : Effect
  pub effect_is : call_effect at static ≡ Some does
  pub does_is : does ≡ record { taken = reverse (arguments_with static kinds); given = returned_kind type.returned }
  pub left : List EntryType
  pub taken : below_taken (reverse (arguments_with static kinds)) before ≡ Some left
  pub given : after ≡ with_given (returned_kind type.returned) left

module _ (at : Site) (static : Bool) (before after : List EntryType) where
  calls_kinds : (x : Member) (type : MethodType) (o : Option (List Operand)) → site_member at ≡ Some x → method_type x.descriptor ≡ Some type → all_kinds (map operand_kind type.parameters) ≡ o
      → call_effect at static ≡ option_map (λ kinds. record { taken = reverse (arguments_with static kinds); given = returned_kind type.returned }) o
      → moved_where (option_map (λ kinds. record { taken = reverse (arguments_with static kinds); given = returned_kind type.returned }) o) before ≡ Some after → Calls at static before after
  calls_kinds x type None named typed all is h = absurd (none-some after h)
  calls_kinds x type (Some kinds) named typed all is h =
      let does : Effect = record { taken = reverse (arguments_with static kinds); given = returned_kind type.returned } in
      let m : MovesAs does before after = moves_as does before after h in
      record { member = x; named = named; type = type; typed = typed; kinds = kinds; all = all_some (map operand_kind type.parameters) kinds all; does = does; effect_is = is; does_is = refl; left = m.left; taken = m.taken; given = m.given }

  calls_type : (x : Member) (o : Option MethodType) → site_member at ≡ Some x → method_type x.descriptor ≡ o → call_effect at static ≡ option_and_then (type_effect static) o → moved_where (option_and_then (type_effect static) o) before ≡ Some after → Calls at static before after
  calls_type x None named typed is h = absurd (none-some after h)
  calls_type x (Some type) named typed is h = calls_kinds x type (all_kinds (map operand_kind type.parameters)) named typed refl is h

  calls_member : (o : Option Member) → site_member at ≡ o → call_effect at static ≡ option_and_then (λ (m : Member). option_and_then (type_effect static) (method_type m.descriptor)) o
      → moved_where (option_and_then (λ (m : Member). option_and_then (type_effect static) (method_type m.descriptor)) o) before ≡ Some after → Calls at static before after
  calls_member None named is h = absurd (none-some after h)
  calls_member (Some x) named is h = calls_type x (method_type x.descriptor) named refl is h

  pub calls : moved_where (call_effect at static) before ≡ Some after → Calls at static before after
  calls h = calls_member (site_member at) refl refl h

-- the arguments pass the test of a call
passed_so : (static : Bool) (type : MethodType) (kinds : List Operand) (vs : List Value) → map operand_kind type.parameters ≡ map Some kinds → are_of (map Some (arguments_with static kinds)) vs ≡ true → are_arguments static type vs ≡ true
passed_so true type kinds vs all h = subst (λ (ks : List (Option Operand)). are_passed true ks vs ≡ true) (sym all) h
passed_so false type kinds vs all h = subst (λ (ks : List (Option Operand)). are_passed false ks vs ≡ true) (sym all) h

-- what is returned has room
returned_long : (returned : List ℕ) (left : List EntryType) → length (with_given (returned_kind returned) left) ≡ length left + returned_width returned
returned_long returned left = by (is_void returned)
  where
    by : (b : Bool) → length (with_given (if b then None else Some (result_kind returned)) left) ≡ length left + (if b then 0 else width_of returned)
    by true = (let z : length left ≡ length left + 0 = omega arith in z)
    by false = (let w : length (operand_entries (result_kind returned)) ≡ width_of returned = width_is returned in omega (arith, w, length-append (operand_entries (result_kind returned)) left))

pub some_threads : (e : Moment) (lock : Option Lock) (d : Doing) → (entered_some e lock d).state.guest.threads ≡ d.state.guest.threads
some_threads e None d = refl
some_threads e (Some (OfObject o)) d = refl
some_threads e (Some (OfClass c)) d = refl

-- A METHOD BEGINS with the arguments that it takes
pub begins_typed : (e : Moment) (typings : Typings) (k : ℕ) (body : Body) (type : MethodType) (static : Bool) (kinds : List Operand) (arguments : List Value) (all : AreTypings e.program typings) → k < length e.program.methods → (method_at e.program k).code ≡ Some body
    → method_type (method_at e.program k).descriptor ≡ Some type → map operand_kind type.parameters ≡ map Some kinds → (is_static e.program k || is_initializing e.program k) ≡ static → map type_of arguments ≡ flat_map local_entries (arguments_with static kinds)
    → Holds (typings k) (method_frame e.program k body arguments)
begins_typed e typings k body type static kinds arguments all lt code typed params flags are =
    let t : IsTyping e.program k body (typings k) = all.typing k body lt code in
    let same : t.type ≡ type = same_Some t.type type (sym t.typed ∙ typed) in
    let locals : (first_types e.program k body t.type).locals ≡ with_free body.max_locals (flat_map local_entries (arguments_with static kinds)) =
    ap (λ (x : MethodType). with_free body.max_locals (argument_entries (is_static e.program k || is_initializing e.program k) (map operand_kind x.parameters))) same
    ∙ (ap (λ (b : Bool). with_free body.max_locals (argument_entries b (map operand_kind type.parameters))) flags
    ∙ ap (λ (xs : List EntryType). with_free body.max_locals xs) (entries_are static (map operand_kind type.parameters) kinds params)) in
    there_holds (typings k) (method_frame e.program k body arguments) (first_types e.program k body t.type) t.entry refl
    (subst (λ (xs : List EntryType). AreLocalsOf (locals_with body.max_locals arguments) xs) (sym locals) (arguments_local (arguments_with static kinds) body.max_locals arguments are))

module _ (e : Moment) (typings : Typings) (m : ℕ) (at : Site) (kind : CallKind) (ts us : TypesOf) (here : Here e typings m at (rows.Call (call.Invoke kind)) ts us) (c : Calls at (is_static_call kind) ts.operands us.operands) where
  abbrev P : Outcome Kept → Type 0
  P o = LeavesTyped e typings o

  abbrev pub static : Bool
  static = is_static_call kind

  abbrev pub count : ℕ
  count = entry_count (is_static_call kind) c.type

  abbrev pub args : List Value
  args = arguments_of e (entry_count (is_static_call kind) c.type)

  abbrev pub ops : List Value
  ops = (current_frame e).operands

  pub passes : Passes (arguments_with (is_static_call kind) c.kinds) ops c.left count
  passes = passed (arguments_with (is_static_call kind) c.kinds) ops ts.operands c.left count here.operands c.taken (count_is (is_static_call kind) c.type c.kinds c.all)

  -- CHECK 1
  arguments_pass : are_arguments (is_static_call kind) c.type args ≡ true
  arguments_pass = passed_so (is_static_call kind) c.type c.kinds args c.all (arguments_are (arguments_with (is_static_call kind) c.kinds) args passes.arguments)

  room : length (drop count ops) + returned_width c.type.returned ≤ (current_frame e).room
  room =
      let few : length us.operands ≤ (current_frame e).room = here.after.few in
      let long : length us.operands ≡ length c.left + returned_width c.type.returned = ap length c.given ∙ returned_long c.type.returned c.left in
      let same : length (drop count ops) ≡ length c.left = sym (length-map (drop count ops) type_of) ∙ ap length passes.others in
      omega (arith, few, long, same)

  both_true : (a b : Bool) → a ≡ true → b ≡ true → (a && b) ≡ true
  both_true true b p q = q
  both_true false b p q = p

  fits : call_fits e (is_static_call kind) c.type ≡ true
  fits =
      both_true (are_arguments (is_static_call kind) c.type args) (leb (length (drop count ops) + returned_width c.type.returned) (current_frame e).room) arguments_pass
      (le-leb (length (drop count ops) + returned_width c.type.returned) (current_frame e).room room)

  -- what et_history asks of a call
  not_clinit : bytes_eq c.member.name (codes "<clinit>") ≡ false
  not_clinit =
      let row : IsAtRow e at (rows.Call (call.Invoke kind)) = here.row in
      let s : StandsIn e row.decoded = stands_in e row.decoded (runs_here e at row.stands) row.is in
      here.calm.may.methods.calls s.method (site_of e.program (current_frame e) row.decoded) kind c.member s.is (ap (λ (x : MethodInfo). pool_of_class e.program x.class) s.named) row.row
      (subst (λ (q : Site). site_member q ≡ Some c.member) row.site c.named)

  is_call : IsCall e at kind c.member c.type
  is_call = record { here = here.row; names = c.named; typed = c.typed; called = not_clinit; passed = arguments_pass; fits = room }

  -- IT IS ENTERED

  -- all of its arguments were there
  taken_all : length args ≡ count
  taken_all = sym (length-map args type_of) ∙ (ap length passes.arguments ∙ sym (count_is (is_static_call kind) c.type c.kinds c.all))

  pub left_operands : AreOperandsOf (drop (length args) ops) c.left
  left_operands = subst (λ (n : ℕ). AreOperandsOf (drop n ops) c.left) (sym taken_all) passes.others

  -- below it the caller waits
  caller_waits : HoldsBelow e.program (typings m) (popped (length args) (current_frame e))
  caller_waits =
      let row : IsAtRow e at (rows.Call (call.Invoke kind)) = here.row in
      record {
        types = ts;
        at_pc = here.typed_at;
        locals = here.locals;
        decoded = row.decoded;
        here = row.is;
        kind = kind;
        calls = row.row;
        does = c.does;
        effect_is = subst (λ (q : Site). call_effect q (is_static_call kind) ≡ Some c.does) row.site c.effect_is;
        left = c.left;
        taken = subst (λ (x : Effect). below_taken x.taken ts.operands ≡ Some c.left) (sym c.does_is) c.taken;
        operands = left_operands;
      }

  waiting_frame : (o : Option ℕ) → o ≡ Some m → IsTypedFrame e.program typings (popped (length args) (current_frame e)) o UnderCall
  waiting_frame o is = subst (λ (x : Option ℕ). IsTypedFrame e.program typings (popped (length args) (current_frame e)) x UnderCall) (sym is) caller_waits

  code_typed : (k : ℕ) (body : Body) (d : Doing) → IsCalled e kind c.member c.type k → (method_at e.program k).code ≡ Some body → AsBefore e d → Own e typings (frame_entered e k body args (taking e (length args) d))
  code_typed k body d called code same =
      let f : FrameState = popped (length args) (current_frame e) in
      let new : FrameState = method_frame e.program k body args in
      let y : Doing = taking e (length args) d in
      let x : Doing = entered_some e (lock_for (method_at e.program k) (receiver_of e.program k args)) y in
      let started : e.thread < length d.state.guest.threads = started_still e d here.calm.started same in
      let t : ThreadState = with_top_of (thread_at d.state.guest e.thread) f in
      let now : thread_at x.state.guest e.thread ≡ t =
      ap (λ (ts : List ThreadState). slice_index_or ts e.thread no_thread) (some_threads e (lock_for (method_at e.program k) (receiver_of e.program k args)) y) ∙ thread_now e t d.state.guest.threads started in
      let inside : e.thread < length x.state.guest.threads =
      omega (arith, started, length-set d.state.guest.threads e.thread t, ap length (some_threads e (lock_for (method_at e.program k) (receiver_of e.program k args)) y)) in
      let flags : (is_static e.program k || is_initializing e.program k) ≡ is_static_call kind = either (is_static e.program k) (is_initializing e.program k) (is_static_call kind) called.static (not_initializing e kind c.member c.type k not_clinit called) in
      let first : Holds (typings k) new =
      begins_typed e typings k body c.type (is_static_call kind) c.kinds args here.calm.kinds called.method.within code (typed_as e kind c.member c.type k c.typed called) c.all flags passes.arguments in
      let below : AreTypedFrames e.program typings (part_below (current_frame e).stage) (rest_of (thread_of e).frames) = (first_typed e.program typings Whole (thread_of e).frames here.row.stands.frame.frame here.calm.frames).1 in
      thread_own e typings (entered_by new (thread_at x.state.guest e.thread)) x inside
      (subst (λ (z : ThreadState). IsTypedThread e.program typings (entered_by new z)) (sym now)
      (subst (λ (z : ThreadState). IsTypedThread e.program typings (entered_by new (with_top_of z f))) (sym (same_thread e d same))
      (subst (λ (o : Option ℕ). AreTypedFrames e.program typings (part_of o) (new ∷ f ∷ rest_of (thread_of e).frames)) (sym here.calm.none)
      (first, (waiting_frame (current_frame e).method here.method, below)))))

  entered_typed : (k : ℕ) (d : Doing) (built_in : Outcome Kept) → IsCalled e kind c.member c.type k → AsBefore e d → ((method_at e.program k).code ≡ None → has (method_at e.program k).flags NATIVE ≡ false → P built_in) → P (enters e d (taking e (length args)) k args built_in)
  entered_typed k d built_in called same without = by (method_at e.program k).code refl
    where
      by : (o : Option Body) → (method_at e.program k).code ≡ o → P (by_code e d (taking e (length args)) k args built_in o)
      by (Some body) q =
          unless_waiting e typings here.calm (may_enter_some e d (lock_for (method_at e.program k) (receiver_of e.program k args))) _
          (where_frame_fits e typings here.calm d _ same (ends_leave e typings (frame_entered e k body args (taking e (length args) d)) (code_typed k body d called q same)))
      by None q = unless_thrown e typings here.calm d errors.UnsatisfiedLinkError (not (has (method_at e.program k).flags NATIVE)) built_in same (λ b. without q (not-true (has (method_at e.program k).flags NATIVE) b))

  -- WHAT IS RESOLVED
  pub record Resolved (owner n : ℕ) : Type 0 where
    pub class_found : resolve_class e.program c.member.owner ≡ Ok owner
    pub method_found : resolve_method e.program owner (names_interface at) c.member.name c.member.descriptor ≡ Ok n

  -- what a method without code does
  abbrev pub DoesBuiltIn : Type 0
  DoesBuiltIn = (owner n k o : ℕ) → Resolved owner n → selected e at kind owner n o ≡ Some k → first_reference args ≡ Some o → IsCalled e kind c.member c.type k → P (built_in_event e at (begins e) args (method_at e.program k))

  static_typed : (k : ℕ) (d : Doing) → is_static_call kind ≡ true → IsMethod e.program c.member.name c.member.descriptor k → is_static e.program k ≡ true → AsBefore e d → P (enters_method e at d args k)
  static_typed k d is found static same =
      let called : IsCalled e kind c.member c.type k = record { method = found; static = static ∙ sym is; receiver = λ instance. absurd (true≢false (sym static ∙ instance)) } in
      entered_typed k d (built_in_event e at d args (method_at e.program k)) called same
      (λ none native. absurd (true≢false (sym (here.calm.may.methods.static k found.within static (not_initializing e kind c.member c.type k not_clinit called) none) ∙ native)))

  called_on : (k o : ℕ) → is_static_call kind ≡ false → first_reference args ≡ Some o → IsInstanceMethod e.program c.member.name c.member.descriptor k → IsCalled e kind c.member c.type k
  called_on k o instance receiver is = record { method = is.method; static = is.instance ∙ sym instance; receiver = λ b. subst (λ (x : Option ℕ). IsSome x) (sym receiver) refl }

  instance_typed : DoesBuiltIn → (owner n k o : ℕ) → Resolved owner n → selected e at kind owner n o ≡ Some k → is_static_call kind ≡ false → first_reference args ≡ Some o → IsInstanceMethod e.program c.member.name c.member.descriptor k → P (enters_method e at (begins e) args k)
  instance_typed built_in owner n k o so chosen instance receiver is =
      let called : IsCalled e kind c.member c.type k = called_on k o instance receiver is in
      entered_typed k (begins e) (built_in_event e at (begins e) args (method_at e.program k)) called refl (λ none native. built_in owner n k o so chosen receiver called)

  as_named : (n k : ℕ) → IsMethod e.program c.member.name c.member.descriptor n → IsInstanceMethod e.program (method_at e.program n).name (method_at e.program n).descriptor k → IsInstanceMethod e.program c.member.name c.member.descriptor k
  as_named n k is named =
      subst (λ (t : List ℕ). IsInstanceMethod e.program c.member.name t k) is.descriptor (subst (λ (x : List ℕ). IsInstanceMethod e.program x (method_at e.program n).descriptor k) is.named named)

  not_none : (o : Option ℕ) (go : ℕ → Outcome Kept) → ((k : ℕ) → o ≡ Some k → P (go k)) → P (not_null e (begins e) o go)
  not_none o go h = where_not_null e typings here.calm (begins e) o go refl h

  chosen : (answer : Result ℕ LinkError) (go : ℕ → Outcome Kept) → ((k : ℕ) → answer ≡ Ok k → P (go k)) → P (after_selection e (begins e) answer go)
  chosen answer go h = where_resolved e typings here.calm (begins e) answer go refl h

  fails_so : (owner n o : ℕ) → Resolved owner n → first_reference args ≡ Some o → FailsResolved e kind args n o ⊎ (FailsBuiltIn e at kind owner n o ⊎ FailsText e at kind args owner n o) → FailsRow e at (rows.Call (call.Invoke kind))
  fails_so owner n o so receiver fails = record {
    member = c.member;
    named = c.named;
    type = c.type;
    typed = c.typed;
    class = owner;
    class_found = so.class_found;
    method = n;
    method_found = so.method_found;
    object = o;
    receiver = receiver;
    fails = fails;
  }

  refuses : (owner n o : ℕ) → Resolved owner n → first_reference args ≡ Some o → FailsResolved e kind args n o → FailsRow e at (rows.Call (call.Invoke kind))
  refuses owner n o so receiver fails = fails_so owner n o so receiver (inl fails)

  pub built_in_refuses : (owner n o k : ℕ) (b : BuiltIn) → Resolved owner n → first_reference args ≡ Some o → selected e at kind owner n o ≡ Some k → built_in_of (method_at e.program k) ≡ Some b → is_fit_for e (begins e) o b ≡ false → FailsRow e at (rows.Call (call.Invoke kind))
  built_in_refuses owner n o k b so receiver is_selected is unfit = fails_so owner n o so receiver (inr (inl (record { method = k; is_selected = is_selected; built_in = b; is_built_in = is; unfit = unfit })))

  pub text_refuses : (owner n o k : ℕ) (x : TextMethod) → Resolved owner n → first_reference args ≡ Some o → selected e at kind owner n o ≡ Some k → text_method_of e.program k ≡ Some x → is_fit_text e (begins e) args o x ≡ false → FailsRow e at (rows.Call (call.Invoke kind))
  text_refuses owner n o k x so receiver is_selected is unfit = fails_so owner n o so receiver (inr (inr (record { method = k; is_selected = is_selected; text = x; is_text = is; unfit = unfit })))

-- BY THE KIND of the call
module _ (e : Moment) (typings : Typings) (m : ℕ) (at : Site) (ts us : TypesOf) where
  abbrev Q : Outcome Kept → Type 0
  Q o = LeavesTyped e typings o

  dispatched_typed : (kind : CallKind) (here : Here e typings m at (rows.Call (call.Invoke kind)) ts us) (c : Calls at (is_static_call kind) ts.operands us.operands) → DoesBuiltIn e typings m at kind ts us here c → (owner n : ℕ) → Resolved e typings m at kind ts us here c owner n
      → IsMethod e.program c.member.name c.member.descriptor n → is_static e.program n ≡ is_static_call kind → Q (dispatched e at kind (args e typings m at kind ts us here c) owner n)
  dispatched_typed Static here c built_in owner n so is static =
      where_initialized e typings here.calm (method_at e.program n).class (begins e) _ refl (begun_well e typings here.calm) (λ d same well. static_typed e typings m at Static ts us here c n d refl is static same)
  dispatched_typed Virtual here c built_in owner n so is instance =
      not_none e typings m at Virtual ts us here c (first_reference (args e typings m at Virtual ts us here c)) _ (λ o receiver.
      unless_refused e typings m at (rows.Call (call.Invoke Virtual)) ts us here (fits_resolved e (begins e) (args e typings m at Virtual ts us here c) n o) _ (λ fails. refuses e typings m at Virtual ts us here c owner n o so receiver fails) (λ fit.
      chosen e typings m at Virtual ts us here c (select e.program (object_class (begins e) o) n false) _ (λ k found.
      instance_typed e typings m at Virtual ts us here c built_in owner n k o so (ap result_ok found) refl receiver (as_named e typings m at Virtual ts us here c n k is (selected_method e.program (object_class (begins e) o) n false k is.within instance found)))))
  dispatched_typed Special here c built_in owner n so is instance =
      not_none e typings m at Special ts us here c (first_reference (args e typings m at Special ts us here c)) _ (λ o receiver.
      unless_refused e typings m at (rows.Call (call.Invoke Special)) ts us here (fits_resolved e (begins e) (args e typings m at Special ts us here c) n o) _ (λ fails. refuses e typings m at Special ts us here c owner n o so receiver fails) (λ fit.
      chosen e typings m at Special ts us here c (select_special e.program at.class (special_class e.program owner) n) _ (λ k found.
      instance_typed e typings m at Special ts us here c built_in owner n k o so (ap result_ok found) refl receiver (as_named e typings m at Special ts us here c n k is (selected_special e.program at.class (special_class e.program owner) n k is.within instance found)))))
  dispatched_typed Interface here c built_in owner n so is instance =
      not_none e typings m at Interface ts us here c (first_reference (args e typings m at Interface ts us here c)) _ (λ o receiver.
      chosen e typings m at Interface ts us here c (select e.program (object_class (begins e) o) n true) _ (λ k found.
      instance_typed e typings m at Interface ts us here c built_in owner n k o so (ap result_ok found) refl receiver (as_named e typings m at Interface ts us here c n k is (selected_method e.program (object_class (begins e) o) n true k is.within instance found))))

  with_method_named : (o : Option Member) (x : Member) (type : MethodType) (go : Member → MethodType → Outcome Kept) → o ≡ Some x → method_type x.descriptor ≡ Some type → Q (go x type) → Q (with_method e o go)
  with_method_named o x type go named typed h =
      subst (λ (y : Option Member). Q (with_method e y go)) (sym named) (subst (λ (t : Option MethodType). Q (with_type e t (go x))) (sym typed) h)

  pub invoke_typed : (kind : CallKind) (here : Here e typings m at (rows.Call (call.Invoke kind)) ts us) (c : Calls at (is_static_call kind) ts.operands us.operands) → DoesBuiltIn e typings m at kind ts us here c → Q (invoke e at kind)
  invoke_typed kind here c built_in =
      with_method_named (site_member at) c.member c.type _ c.named c.typed
      (never_refused e typings m at (rows.Call (call.Invoke kind)) ts us here (call_fits e (is_static_call kind) c.type) _ (fits e typings m at kind ts us here c)
      (where_resolved e typings here.calm (begins e) (resolve_class e.program c.member.owner) _ refl (λ owner named.
      where_resolved e typings here.calm (begins e) (resolve_method e.program owner (names_interface at) c.member.name c.member.descriptor) _ refl (λ n found.
      unless_thrown e typings here.calm (begins e) errors.IncompatibleClassChangeError (is_as (is_static_call kind) (is_static e.program n)) _ refl (λ wanted.
      dispatched_typed kind here c built_in owner n (record { class_found = named; method_found = found }) (resolved_method e.program owner (names_interface at) c.member.name c.member.descriptor n found) (as_wanted (is_static_call kind) (is_static e.program n) wanted))))))

  -- what is selected on an object is called
  pub selected_called : (kind : CallKind) (here : Here e typings m at (rows.Call (call.Invoke kind)) ts us) (c : Calls at (is_static_call kind) ts.operands us.operands) (owner n k o : ℕ) → Resolved e typings m at kind ts us here c owner n
      → is_as (is_static_call kind) (is_static e.program n) ≡ true → first_reference (args e typings m at kind ts us here c) ≡ Some o → selected e at kind owner n o ≡ Some k → (is_static_call kind ≡ false) × IsCalled e kind c.member c.type k
  selected_called kind here c owner n k o so wanted receiver chosen =
      by kind here c so (resolved_method e.program owner (names_interface at) c.member.name c.member.descriptor n so.method_found) (as_wanted (is_static_call kind) (is_static e.program n) wanted) receiver chosen
    where
      by : (kind : CallKind) (here : Here e typings m at (rows.Call (call.Invoke kind)) ts us) (c : Calls at (is_static_call kind) ts.operands us.operands) → Resolved e typings m at kind ts us here c owner n → IsMethod e.program c.member.name c.member.descriptor n
          → is_static e.program n ≡ is_static_call kind → first_reference (args e typings m at kind ts us here c) ≡ Some o → selected e at kind owner n o ≡ Some k → (is_static_call kind ≡ false) × IsCalled e kind c.member c.type k
      by Static here c so is wants receiver chosen = absurd (none-some k chosen)
      by Virtual here c so is instance receiver chosen = (
        refl,
        called_on e typings m at Virtual ts us here c k o refl receiver
            (as_named e typings m at Virtual ts us here c n k is (selected_method e.program (object_class (begins e) o) n false k is.within instance (result_some (select e.program (object_class (begins e) o) n false) k chosen))),
      )
      by Special here c so is instance receiver chosen = (
        refl,
        called_on e typings m at Special ts us here c k o refl receiver
            (as_named e typings m at Special ts us here c n k is (selected_special e.program at.class (special_class e.program owner) n k is.within instance (result_some (select_special e.program at.class (special_class e.program owner) n) k chosen))),
      )
      by Interface here c so is instance receiver chosen = (
        refl,
        called_on e typings m at Interface ts us here c k o refl receiver
            (as_named e typings m at Interface ts us here c n k is (selected_method e.program (object_class (begins e) o) n true k is.within instance (result_some (select e.program (object_class (begins e) o) n true) k chosen))),
      )
