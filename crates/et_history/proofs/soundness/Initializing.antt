-- The initialization of a class that an event needs.
use Rattle.std.proofs.Common.{◌≡◌, ℕ, ◌<◌, ◌≤◌, ◌^◌, ◌==◌, true, List, [], ◌∷◌, length, Option, Some, None, refl, sym, ◌∙◌, ap, subst, inl, inr, arith, Contains, get_or-set_same}
use Rattle.std.specs.Prelude.{All, fold, codes, is_some}
use Rattle.std.specs.List.{slice_index_or}
use Rattle.std.proofs.lemmas.List.Elements.{All-head, All-tail}
use Rattle.et_base.proofs.Lists.{Contains-none, Contains-cons}
use Rattle.et_base.specs.declared.value.Value.{Value}
use Rattle.et_base.specs.declared.value.Value.TheVariants.{Int, Long, Ref}
use Rattle.et_program.specs.Entries.{Linked, class_at, field_at}
use Rattle.et_state.specs.Threads.{ThreadState, no_thread, entered_by, most_frames}
use Rattle.et_state.specs.declared.class_state.ClassState.{ClassState}
use Rattle.et_state.specs.declared.class_state.ClassState.TheVariants.{Untouched, Begun, Done, Failed}
use Rattle.et_state.specs.Interned.{object_of}
use Rattle.et_state.specs.State.{GuestState, Kept}
use Rattle.et_state.specs.Words.{thread_at, static_at, with_static, class_state_at, with_class_state, with_string}
use Rattle.et_state.specs.Outcome.{Outcome}
use Rattle.et_event.specs.declared.errors.GuestError.TheVariants.{NoClassDefFoundError}
use Rattle.et_event.specs.Errors.{class_called}
use Rattle.et_event.specs.Initialization.{state_of, with_state, constant_set, field_set, constants_set, is_quiet, class_done, quietly_done, initializer_frame, begun_by, begins_class, needed, initialized}
use Rattle.et_event.specs.Kinds.{narrowed}
use Rattle.et_event.specs.Operands.{operand_kind}
use Rattle.et_event.specs.Moments.{Moment, Doing, doing_with_guest, next_object, instance_made, static_written, waits, ends_event}
use Rattle.et_event.specs.Sites.{LoadedConstant, AnInt, ALong, AString, constant_at, pool_of_class}
use Rattle.et_event.specs.Strings.{interned, string_object}
use Rattle.et_event.specs.Sound.{is_of_kind, IsSoundClassState, IsSoundFor}
use Rattle.et_history.specs.soundness.Outcomes.{KeepsSound}
use Rattle.et_event.specs.Programs.{MakesSound, HasConstant, HasInitializers, value_like}
use Rattle.et_history.specs.soundness.WellFormed.{IsWellFormed, IsUnderWayAt, IsFurther}
use Rattle.et_history.proofs.soundness.Frames.{initializer_frames}
use Rattle.et_history.proofs.soundness.Monitors.{class_well, untouched_before}
use Rattle.et_history.proofs.soundness.Outcomes.{if_case, interned_well, ends_sound, waits_sound, throws_sound, where_frame_fits}
use Rattle.et_event.proofs.Values.{updated_state, narrowed_kind, any_reference}
use Rattle.et_history.proofs.soundness.Slots.{static_well}
use Rattle.et_history.proofs.soundness.Threads.{with_thread_well, may_have_frames}

-- WHAT STAYS

-- the threads and the states of the classes are those of d
pub record IsBeside (d x : Doing) : Type 0 where
  pub threads : x.state.guest.threads ≡ d.state.guest.threads
  pub classes : x.state.guest.classes ≡ d.state.guest.classes

beside_itself : (d : Doing) → IsBeside d d
beside_itself d = record { threads = refl; classes = refl }

beside_then : (d x y : Doing) → IsBeside d x → IsBeside x y → IsBeside d y
beside_then d x y a b = record { threads = b.threads ∙ a.threads; classes = b.classes ∙ a.classes }

static_beside : (e : Moment) (i : ℕ) (v : Value) (d : Doing) → IsBeside d (static_written e i v d)
static_beside e i v d =
    let next : Doing = doing_with_guest (with_static d.state.guest i v) d in
    let same : (static_written e i v d).state ≡ next.state = updated_state e 0 i (static_at d.state.guest i) v next in
    record { threads = ap (λ (s : Kept). s.guest.threads) same; classes = ap (λ (s : Kept). s.guest.classes) same }

interned_beside : (e : Moment) (bytes : List ℕ) (d : Doing) → IsBeside d (interned e bytes d)
interned_beside e bytes d =
    let x : Doing = instance_made e (class_called e.program (codes "java/lang/String")) d in
    if_case (λ (y : Doing). IsBeside d y) (is_some (object_of d.state.guest.interned bytes)) d (doing_with_guest (with_string x.state.guest bytes (next_object d)) x) (beside_itself d) (record { threads = refl; classes = refl })

-- CONSTANTS are set, of a class that is no longer untouched

record IsSetting (e : Moment) (c : ℕ) (d x : Doing) : Type 0 where
  well : IsWellFormed e.program x.state
  beside : IsBeside d x

touched_still : (d x : Doing) (c : ℕ) → IsBeside d x → (state_of d c ≡ Untouched → ⊥) → state_of x c ≡ Untouched → ⊥
touched_still d x c b touched u = touched (subst (λ (cs : List ClassState). slice_index_or cs c Untouched ≡ Untouched) b.classes u)

written : (e : Moment) (c f : ℕ) (v : Value) (d : Doing) → HasConstant e.program c f → (state_of d c ≡ Untouched → ⊥) → IsWellFormed e.program d.state → is_of_kind (operand_kind (field_at e.program f).descriptor) v ≡ true → IsSetting e c d (static_written e (field_at e.program f).slot v d)
written e c f v d has touched h kind =
    let p : Linked = e.program in
    let i : ℕ = (field_at p f).slot in
    record {
      well = static_well p e i v d h has.slot (subst (λ (k : ℕ). is_of_kind (operand_kind (field_at p k).descriptor) v ≡ true) (sym has.place) kind)
          (subst (λ (k : ℕ). class_state_at d.state.guest (field_at p k).class ≡ Untouched → ⊥) (sym has.place) (subst (λ (k : ℕ). class_state_at d.state.guest k ≡ Untouched → ⊥) (sym has.class) touched));
      beside = static_beside e i v d;
    }

one_set : (e : Moment) (c f : ℕ) (k : Option LoadedConstant) (d : Doing) → MakesSound e.program → HasConstant e.program c f → ((x : LoadedConstant) → k ≡ Some x → is_of_kind (operand_kind (field_at e.program f).descriptor) (value_like x) ≡ true) → (state_of d c ≡ Untouched → ⊥) → IsWellFormed e.program d.state
    → IsSetting e c d (constant_set e (field_at e.program f) k d)
one_set e c f None d makes has typed touched h = record { well = h; beside = beside_itself d }
one_set e c f (Some (AnInt n)) d makes has typed touched h =
    written e c f (narrowed (field_at e.program f).descriptor (Int n)) d has touched h (narrowed_kind (operand_kind (field_at e.program f).descriptor) (field_at e.program f).descriptor (Int n) (typed (AnInt n) refl))
one_set e c f (Some (ALong n)) d makes has typed touched h = written e c f (Long n) d has touched h (typed (ALong n) refl)
one_set e c f (Some (AString bytes)) d makes has typed touched h =
    let x : Doing = interned e bytes d in
    let beside : IsBeside d x = interned_beside e bytes d in
    let set : IsSetting e c x (static_written e (field_at e.program f).slot (Ref (string_object bytes x)) x) =
    written e c f (Ref (string_object bytes x)) x has (touched_still d x c beside touched) (interned_well e bytes d makes h) (any_reference (operand_kind (field_at e.program f).descriptor) (string_object bytes x) (typed (AString bytes) refl)) in
    record { well = set.well; beside = beside_then d x _ beside set.beside }

all_set : (e : Moment) (c : ℕ) (fs : List ℕ) (d : Doing) → MakesSound e.program → All (HasConstant e.program c) fs → (state_of d c ≡ Untouched → ⊥) → IsWellFormed e.program d.state → IsSetting e c d (fold (field_set e) d fs)
all_set e c [] d makes all touched h = record { well = h; beside = beside_itself d }
all_set e c (f ∷ fs) d makes all touched h =
    let has : HasConstant e.program c f = All-head (HasConstant e.program c) f fs all in
    let x : Doing = field_set e d f in
    let one : IsSetting e c d x = one_set e c f (constant_at (pool_of_class e.program (field_at e.program f).class) (field_at e.program f).constant) d makes has has.typed touched h in
    let rest : IsSetting e c x (fold (field_set e) x fs) = all_set e c fs x makes (All-tail (HasConstant e.program c) f fs all) (touched_still d x c one.beside touched) one.well in
    record { well = rest.well; beside = beside_then d x _ one.beside rest.beside }

-- A CLASS goes on, and gets its constants

pub further_itself : (e : Moment) (d : Doing) → IsWellFormed e.program d.state → IsFurther e d d
further_itself e d h = record { well = h; threads = refl; touched = λ k touched u. touched u }

pub further_then : (e : Moment) (d x y : Doing) → IsFurther e d x → IsFurther e x y → IsFurther e d y
further_then e d x y a b = record { well = b.well; threads = b.threads ∙ a.threads; touched = λ k touched. b.touched k (a.touched k touched) }

-- class c becomes x
record GoesOn (e : Moment) (c : ℕ) (d y : Doing) : Type 0 where
  further : IsFurther e d y
  touched : state_of y c ≡ Untouched → ⊥

state_set : (g : GuestState) (c : ℕ) (x : ClassState) → c < length g.classes → class_state_at (with_class_state g c x) c ≡ x
state_set g c x lt = get_or-set_same g.classes c x Untouched lt

goes_on : (e : Moment) (c : ℕ) (x : ClassState) (d : Doing) → HasInitializers e.program → MakesSound e.program → c < length e.program.classes → IsSoundClassState d.state.guest x → (x ≡ Untouched → ⊥) → IsWellFormed e.program d.state → GoesOn e c d (constants_set e c (with_state c x d))
goes_on e c x d initializers makes lt sound touched h =
    let p : Linked = e.program in
    let y : Doing = with_state c x d in
    let inside : c < length d.state.guest.classes = subst (λ (n : ℕ). c < n) (sym h.classes.0) lt in
    let well : IsWellFormed p y.state = class_well p c x d h lt sound touched in
    let now : state_of y c ≡ Untouched → ⊥ = λ u. touched (sym (state_set d.state.guest c x inside) ∙ u) in
    let set : IsSetting e c y (constants_set e c y) = all_set e c (class_at p c).info.constants y makes (initializers.constants c lt) now well in
    record {
      further = record { well = set.well; threads = set.beside.threads; touched = λ k was. touched_still y (constants_set e c y) k set.beside (λ u. was (untouched_before d.state.guest c k x inside touched u)) };
      touched = touched_still y (constants_set e c y) c set.beside now;
    }

pub not_done : Done ≡ Untouched → ⊥
not_done e = cc

not_begun : (t : ℕ) → Begun t ≡ Untouched → ⊥
not_begun t e = cc

not_failed : Failed ≡ Untouched → ⊥
not_failed e = cc

done_by : (e : Moment) (c : ℕ) (st : ClassState) (d : Doing) → state_of d c ≡ st → HasInitializers e.program → MakesSound e.program → c < length e.program.classes → IsWellFormed e.program d.state → GoesOn e c d (class_done e c st d)
done_by e c Untouched d is initializers makes lt h = goes_on e c Done d initializers makes lt tt not_done h
done_by e c (Begun t) d is initializers makes lt h = record { further = further_itself e d h; touched = λ u. not_begun t (sym is ∙ u) }
done_by e c Done d is initializers makes lt h = record { further = further_itself e d h; touched = λ u. not_done (sym is ∙ u) }
done_by e c Failed d is initializers makes lt h = record { further = further_itself e d h; touched = λ u. not_failed (sym is ∙ u) }

-- .. as do all with which it is initialized
pub record AllGoOn (e : Moment) (cs : List ℕ) (d y : Doing) : Type 0 where
  pub further : IsFurther e d y
  pub touched : (k : ℕ) → Contains cs k → state_of y k ≡ Untouched → ⊥

pub all_done : (e : Moment) (cs : List ℕ) (d : Doing) → HasInitializers e.program → MakesSound e.program → All (λ k. k < length e.program.classes) cs → IsWellFormed e.program d.state → AllGoOn e cs d (fold (λ x k. class_done e k (state_of x k) x) d cs)
all_done e [] d initializers makes all h = record { further = further_itself e d h; touched = λ k c. absurd (Contains-none k c) }
all_done e (c ∷ cs) d initializers makes all h =
    let x : Doing = class_done e c (state_of d c) d in
    let one : GoesOn e c d x = done_by e c (state_of d c) d refl initializers makes (All-head (λ k. k < length e.program.classes) c cs all) h in
    let rest : AllGoOn e cs x (fold (λ y k. class_done e k (state_of y k) y) x cs) = all_done e cs x initializers makes (All-tail (λ k. k < length e.program.classes) c cs all) one.further.well in
    record {
      further = further_then e d x _ one.further rest.further;
      touched = λ k there. elim (Contains-cons c cs k there) [
        | inl same ↦ subst (λ (j : ℕ). state_of (fold (λ y i. class_done e i (state_of y i) y) x cs) j ≡ Untouched → ⊥) same (rest.further.touched c one.touched)
        | inr more ↦ rest.touched k more
      ];
    }

-- AN INITIALIZER BEGINS
pub begins_sound : (e : Moment) (c : ℕ) (d : Doing) → HasInitializers e.program → MakesSound e.program → c < length e.program.classes → IsUnderWayAt e d → KeepsSound e.program (begins_class e c d)
begins_sound e c d initializers makes lt g =
    let p : Linked = e.program in
    let x : Doing = constants_set e c (with_state c (Begun e.thread) d) in
    let on : GoesOn e c d x = goes_on e c (Begun e.thread) d initializers makes lt g.thread (not_begun e.thread) g.well in
    let thread : e.thread < length x.state.guest.threads = subst (λ (ts : List ThreadState). e.thread < length ts) (sym on.further.threads) g.thread in
    let t : ThreadState = thread_at x.state.guest e.thread in
    let was = on.further.well.threads e.thread thread in
    where_frame_fits e d (ends_event (begun_by e c d)) makes g (λ few.
    let same : length t.frames ≡ length (thread_at d.state.guest e.thread).frames = ap (λ (ts : List ThreadState). length (slice_index_or ts e.thread no_thread).frames) on.further.threads in
    let room : length (initializer_frame c ∷ t.frames) ≤ most_frames = omega arith in
    ends_sound p (begun_by e c d)
    (with_thread_well p x.state e.thread (entered_by (initializer_frame c) t) on.further.well thread (may_have_frames p x.state e.thread (initializer_frame c ∷ t.frames) on.further.well thread (initializer_frames p c t.frames lt was.frames) room)))

-- A CLASS IS NEEDED: the event goes on where it is done, begun by this thread, or quiet
pub initialized_sound : (e : Moment) (d : Doing) (c : ℕ) (go : Doing → Outcome Kept) → IsSoundFor e.program e.before → e.before.guest.clock < 2 ^ 40 → HasInitializers e.program → MakesSound e.program → c < length e.program.classes → IsUnderWayAt e d
    → ((x : Doing) → IsUnderWayAt e x → IsFurther e d x → (state_of x c ≡ Untouched → ⊥) → KeepsSound e.program (go x)) → KeepsSound e.program (initialized e d c go)
initialized_sound e d c go sound clock initializers makes lt g h = by (state_of d c) refl
  where
    by : (st : ClassState) → state_of d c ≡ st → KeepsSound e.program (needed e d c st go)
    by Done is = h d g (further_itself e d g.well) (λ u. not_done (sym is ∙ u))
    by (Begun t) is = if_case (KeepsSound e.program) (t == e.thread) (go d) (waits e) (h d g (further_itself e d g.well) (λ u. not_begun t (sym is ∙ u))) (waits_sound e.program e sound clock)
    by Failed is = throws_sound e NoClassDefFoundError d makes g
    by Untouched is =
        let on : AllGoOn e (class_at e.program c).init_order d (quietly_done e c d) = all_done e (class_at e.program c).init_order d initializers makes (initializers.orders c) g.well in
        let going : IsUnderWayAt e (quietly_done e c d) = record { well = on.further.well; thread = subst (λ (ts : List ThreadState). e.thread < length ts) (sym on.further.threads) g.thread } in
        if_case (KeepsSound e.program) (is_quiet e d c) (go (quietly_done e c d)) (begins_class e c d) (h (quietly_done e c d) going on.further (on.touched c (initializers.own c lt))) (begins_sound e c d initializers makes lt g)
