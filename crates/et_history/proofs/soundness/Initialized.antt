-- What is done once a class is initialized: where quiet classes became done, the clock and the monitors of classes are as
-- the event began.
use Rattle.std.proofs.Common.{◌≡◌, ℕ, ◌<◌, ◌^◌, ◌==◌, List, [], ◌∷◌, length, Option, Some, None, refl, sym, ◌∙◌, ap, subst}
use Rattle.std.specs.Prelude.{fold, is_some, codes}
use Rattle.et_base.specs.declared.value.Value.{Value}
use Rattle.et_base.specs.declared.value.Value.TheVariants.{Int, Long, Ref}
use Rattle.et_program.specs.Entries.{class_at, field_at}
use Rattle.et_program.specs.declared.info.FieldInfo.{FieldInfo}
use Rattle.et_state.specs.Threads.{ThreadState}
use Rattle.et_state.specs.declared.class_state.ClassState.{ClassState}
use Rattle.et_state.specs.declared.class_state.ClassState.TheVariants.{Untouched, Begun, Done, Failed}
use Rattle.et_state.specs.Interned.{object_of}
use Rattle.et_state.specs.State.{Kept}
use Rattle.et_state.specs.Words.{static_at, with_static, with_string}
use Rattle.et_state.specs.Outcome.{Outcome}
use Rattle.et_event.specs.declared.errors.GuestError.TheVariants.{NoClassDefFoundError}
use Rattle.et_event.specs.Errors.{class_called}
use Rattle.et_event.specs.Initialization.{state_of, with_state, constant_set, field_set, is_quiet, class_done, quietly_done, begins_class, needed, initialized}
use Rattle.et_event.specs.Kinds.{narrowed}
use Rattle.et_event.specs.Moments.{Moment, Doing, begins, doing_with_guest, next_object, instance_made, static_written, waits}
use Rattle.et_event.specs.Sites.{LoadedConstant, AnInt, ALong, AString, constant_at, pool_of_class}
use Rattle.et_event.specs.Strings.{interned, string_object}
use Rattle.et_event.specs.Sound.{IsSoundFor}
use Rattle.et_history.specs.soundness.Outcomes.{KeepsSound}
use Rattle.et_event.specs.Programs.{MakesSound, HasInitializers}
use Rattle.et_history.specs.soundness.WellFormed.{IsUnderWayAt}
use Rattle.et_history.proofs.soundness.Initializing.{AllGoOn, all_done, begins_sound}
use Rattle.et_history.proofs.soundness.Outcomes.{if_case, throws_sound, waits_sound}
use Rattle.et_event.proofs.Values.{updated_state}
use Rattle.et_history.proofs.soundness.Entering.{IsOnTime, begins_on_time}

-- WHAT STAYS

static_on_time : (e : Moment) (i : ℕ) (v : Value) (d : Doing) → IsOnTime e d → IsOnTime e (static_written e i v d)
static_on_time e i v d on =
    let next : Doing = doing_with_guest (with_static d.state.guest i v) d in
    let same : (static_written e i v d).state ≡ next.state = updated_state e 0 i (static_at d.state.guest i) v next in
    record { clock = ap (λ (s : Kept). s.guest.clock) same ∙ on.clock; monitors = ap (λ (s : Kept). s.guest.class_monitors) same ∙ on.monitors }

interned_on_time : (e : Moment) (bytes : List ℕ) (d : Doing) → IsOnTime e d → IsOnTime e (interned e bytes d)
interned_on_time e bytes d on =
    let x : Doing = instance_made e (class_called e.program (codes "java/lang/String")) d in
    if_case (λ (y : Doing). IsOnTime e y) (is_some (object_of d.state.guest.interned bytes)) d (doing_with_guest (with_string x.state.guest bytes (next_object d)) x) on (record { clock = on.clock; monitors = on.monitors })

constant_on_time : (e : Moment) (f : FieldInfo) (k : Option LoadedConstant) (d : Doing) → IsOnTime e d → IsOnTime e (constant_set e f k d)
constant_on_time e f None d on = on
constant_on_time e f (Some (AnInt n)) d on = static_on_time e f.slot (narrowed f.descriptor (Int n)) d on
constant_on_time e f (Some (ALong n)) d on = static_on_time e f.slot (Long n) d on
constant_on_time e f (Some (AString bytes)) d on = static_on_time e f.slot (Ref (string_object bytes (interned e bytes d))) (interned e bytes d) (interned_on_time e bytes d on)

constants_on_time : (e : Moment) (fs : List ℕ) (d : Doing) → IsOnTime e d → IsOnTime e (fold (field_set e) d fs)
constants_on_time e [] d on = on
constants_on_time e (f ∷ fs) d on =
    constants_on_time e fs (field_set e d f) (constant_on_time e (field_at e.program f) (constant_at (pool_of_class e.program (field_at e.program f).class) (field_at e.program f).constant) d on)

done_on_time : (e : Moment) (c : ℕ) (st : ClassState) (d : Doing) → IsOnTime e d → IsOnTime e (class_done e c st d)
done_on_time e c Untouched d on = constants_on_time e (class_at e.program c).info.constants (with_state c Done d) (record { clock = on.clock; monitors = on.monitors })
done_on_time e c (Begun t) d on = on
done_on_time e c Done d on = on
done_on_time e c Failed d on = on

all_on_time : (e : Moment) (cs : List ℕ) (d : Doing) → IsOnTime e d → IsOnTime e (fold (λ x k. class_done e k (state_of x k) x) d cs)
all_on_time e [] d on = on
all_on_time e (c ∷ cs) d on = all_on_time e cs (class_done e c (state_of d c) d) (done_on_time e c (state_of d c) d on)

-- A CLASS IS NEEDED as the event begins

-- what is done then
pub record IsReady (e : Moment) (x : Doing) : Type 0 where
  pub going : IsUnderWayAt e x
  pub threads : x.state.guest.threads ≡ e.before.guest.threads
  pub on_time : IsOnTime e x

pub where_initialized : (e : Moment) (c : ℕ) (go : Doing → Outcome Kept) → IsSoundFor e.program e.before → e.before.guest.clock < 2 ^ 40 → HasInitializers e.program → MakesSound e.program → c < length e.program.classes → IsUnderWayAt e (begins e)
    → ((x : Doing) → IsReady e x → KeepsSound e.program (go x)) → KeepsSound e.program (initialized e (begins e) c go)
where_initialized e c go sound clock initializers makes lt g h = by (state_of (begins e) c)
  where
    here : IsReady e (begins e)
    here = record { going = g; threads = refl; on_time = begins_on_time e }

    by : (st : ClassState) → KeepsSound e.program (needed e (begins e) c st go)
    by Done = h (begins e) here
    by (Begun t) = if_case (KeepsSound e.program) (t == e.thread) (go (begins e)) (waits e) (h (begins e) here) (waits_sound e.program e sound clock)
    by Failed = throws_sound e NoClassDefFoundError (begins e) makes g
    by Untouched =
        let on : AllGoOn e (class_at e.program c).init_order (begins e) (quietly_done e c (begins e)) = all_done e (class_at e.program c).init_order (begins e) initializers makes (initializers.orders c) g.well in
        let going : IsUnderWayAt e (quietly_done e c (begins e)) = record { well = on.further.well; thread = subst (λ (ts : List ThreadState). e.thread < length ts) (sym on.further.threads) g.thread } in
        let ready : IsReady e (quietly_done e c (begins e)) = record { going = going; threads = on.further.threads; on_time = all_on_time e (class_at e.program c).init_order (begins e) (begins_on_time e) } in
        if_case (KeepsSound e.program) (is_quiet e (begins e) c) (go (quietly_done e c (begins e))) (begins_class e c (begins e)) (h (quietly_done e c (begins e)) ready) (begins_sound e c (begins e) initializers makes lt g)
