-- The prerequisites of a class.
use Rattle.std.proofs.Common.{◌≡◌, ℕ, zero, suc, ◌+◌, ◌<◌, ◌⊎◌, Bool, true, false, cond, List, [], ◌∷◌, length, get_or, take, All, Some, None, refl, sym, ◌∙◌, ap, subst, arith, inl, inr, Contains}
use Rattle.std.specs.Prelude.{fold, ◌&&◌, if◌then◌else◌, find, take_while, not}
use Rattle.std.specs.List.{list_all, prefix_len}
use Rattle.std.proofs.lemmas.Bool.{cases_eq, and_parts}
use Rattle.std.proofs.lemmas.List.Sums.{fold_more}
use Rattle.std.proofs.lemmas.List.{length-set, get_or_default}
use Rattle.std.proofs.lemmas.List.Elements.{All-take}
use Rattle.et_base.proofs.Lists.{Contains-none, Contains-here, Contains-there, Contains-cons, all_true}
use Rattle.et_base.proofs.Firsts.{true_false}
use Rattle.et_state.specs.declared.class_state.ClassState.{ClassState}
use Rattle.et_state.specs.declared.class_state.ClassState.TheVariants.{Untouched, Begun, Done, Failed}
use Rattle.et_state.specs.State.{Kept, MachineState, kept_of}
use Rattle.et_state.specs.Words.{class_state_at}
use Rattle.et_program.specs.Entries.{Linked, class_at}
use Rattle.et_state.specs.declared.records.Record.{Record}
use Rattle.et_state.specs.Outcome.{Outcome}
use Rattle.et_event.specs.Moments.{Moment, moment, Doing, begins}
use Rattle.et_event.specs.Initialization.{state_of, with_state, class_done, quietly_done, quietly_if_untouched, prepared, is_quiet, is_quiet_state, is_ready, is_ready_state, initialized}
use Rattle.et_initialize.specs.declared.needs.Need.{Need}
use Rattle.et_initialize.specs.declared.needs.Need.TheVariants.{Quiet, Begins}
use Rattle.et_initialize.specs.Needs.{need_by, need_of, met}
use Rattle.et_event.specs.InitializationOrder.{IsInOrder}
use Rattle.et_initialize.specs.Texts.{CountedAll}
use Rattle.et_event.specs.Telling.{so_far, StandsAt}
use Rattle.et_initialize.specs.Under.{IsInitializing, HasMadeStrings}
use Rattle.et_initialize.proofs.Needing.{needed_by}
use Rattle.et_initialize.proofs.Running.{at, known}
use Rattle.et_initialize.proofs.Setting.{Grown, grown_none, grown_then, grown_order, done_step, done_untouched, begun_untouched, state_changed, state_set, follows_each}
use Rattle.et_initialize.proofs.Legal.{quietly_made, quietly_ready, quietly_threads, quietly_monitors}
use Rattle.et_initialize.proofs.Counting.{done_is}
use Rattle.et_initialize.proofs.Records.{behind, behind_quietly}

abbrev pub pre_step : Moment → Doing → ℕ → Doing
pre_step e x k = quietly_if_untouched e k (state_of x k) x

-- an untouched class becomes done quietly, another one stays
pub by_state : (P : Doing → Type 0) (e : Moment) (x : Doing) (k : ℕ) → (class_state_at x.state.guest k ≡ Untouched → P (quietly_done e k x)) → P x → P (pre_step e x k)
by_state P e x k quiet other = case (state_of x k) refl
  where
    case : (s : ClassState) → state_of x k ≡ s → P (quietly_if_untouched e k s x)
    case Untouched un = quiet un
    case (Begun t) un = other
    case Done un = other
    case Failed un = other

-- what each step keeps
pub keeps : (P : Doing → Type 0) (f : Doing → ℕ → Doing) (n : ℕ) (ks : List ℕ) (d : Doing) → ((x : Doing) (k : ℕ) → k < n → P x → P (f x k)) → All (λ k. k < n) ks → P d → P (fold f d ks)
keeps P f n [] d step all h = h
keeps P f n (k ∷ ks) d step all h = keeps P f n ks (f d k) step (λ i z lt. all (suc i) z (omega arith)) (step d k (all 0 0 (omega arith)) h)

pub ready_prepared : (e : Moment) (ks : List ℕ) (d : Doing) → IsInOrder e.program → All (λ k. k < length e.program.classes) ks → IsInitializing e.program d.state → IsInitializing e.program (prepared e ks d).state
ready_prepared e ks d has all ready =
    keeps (λ x. IsInitializing e.program x.state) (pre_step e) (length e.program.classes) ks d (λ x k lt h. by_state (λ y. IsInitializing e.program y.state) e x k (λ un. quietly_ready e k x has lt h) h) all ready

pub made_prepared : (e : Moment) (ks : List ℕ) (d : Doing) (s : Kept) (lost : List ℕ) → IsInOrder e.program → All (λ k. k < length e.program.classes) ks → IsInitializing e.program d.state → HasMadeStrings s d.state lost → HasMadeStrings s (prepared e ks d).state lost
made_prepared e ks d s lost has all ready made =
    (keeps (λ x. IsInitializing e.program x.state × HasMadeStrings s x.state lost) (pre_step e) (length e.program.classes) ks d
    (λ x k lt h. by_state (λ y. IsInitializing e.program y.state × HasMadeStrings s y.state lost) e x k (λ un. (quietly_ready e k x has lt h.0, quietly_made e k x s lost has lt h.0 h.1)) h) all (ready, made)).1

pub threads_prepared : (e : Moment) (ks : List ℕ) (d : Doing) → (prepared e ks d).state.guest.threads ≡ d.state.guest.threads
threads_prepared e [] d = refl
threads_prepared e (k ∷ ks) d = threads_prepared e ks (pre_step e d k) ∙ by_state (λ y. y.state.guest.threads ≡ d.state.guest.threads) e d k (λ un. quietly_threads e k d) refl

pub monitors_prepared : (e : Moment) (ks : List ℕ) (d : Doing) → (prepared e ks d).state.guest.class_monitors ≡ d.state.guest.class_monitors
monitors_prepared e [] d = refl
monitors_prepared e (k ∷ ks) d = monitors_prepared e ks (pre_step e d k) ∙ by_state (λ y. y.state.guest.class_monitors ≡ d.state.guest.class_monitors) e d k (λ un. quietly_monitors e k d) refl

pub grown_prepared : (e : Moment) (ks : List ℕ) (d : Doing) → Grown d.state.heap (prepared e ks d).state.heap
grown_prepared e [] d = grown_none d.state.heap
grown_prepared e (k ∷ ks) d = grown_then d.state.heap (pre_step e d k).state.heap (prepared e ks (pre_step e d k)).state.heap
    (by_state (λ y. Grown d.state.heap y.state.heap) e d k (λ un. grown_order e (class_at e.program k).init_order d) (grown_none d.state.heap)) (grown_prepared e ks (pre_step e d k))

behind_step : (r : List Record) (e : Moment) (k : ℕ) (s : ClassState) (d : Doing) → quietly_if_untouched e k s (behind r d) ≡ behind r (quietly_if_untouched e k s d)
behind_step r e k Untouched d = behind_quietly r e k d
behind_step r e k (Begun t) d = refl
behind_step r e k Done d = refl
behind_step r e k Failed d = refl

pub behind_prepared : (r : List Record) (e : Moment) (ks : List ℕ) (d : Doing) → prepared e ks (behind r d) ≡ behind r (prepared e ks d)
behind_prepared r e [] d = refl
behind_prepared r e (k ∷ ks) d = ap (λ (y : Doing). prepared e ks y) (behind_step r e k (state_of d k) d) ∙ behind_prepared r e ks (pre_step e d k)

-- HOW FAR CLASSES ARE

failed_not : Failed ≡ Untouched → ⊥
failed_not e = cc

-- a step changes no other class, and leaves this one not untouched
step_other : (e : Moment) (d : Doing) (c j : ℕ) → (j ≡ c → ⊥) → class_state_at (done_step e d c).state.guest j ≡ class_state_at d.state.guest j
step_other e d c j ne = case (state_of d c)
  where
    case : (s : ClassState) → class_state_at (class_done e c s d).state.guest j ≡ class_state_at d.state.guest j
    case Untouched = ap (λ (xs : List ClassState). get_or xs j Untouched) (follows_each e (class_at e.program c).info.constants (with_state c Done d)).classes ∙ state_changed d c j Done ne
    case (Begun t) = refl
    case Done = refl
    case Failed = refl

-- .. it is as far as it was, or it was untouched and is done
step_this : (e : Moment) (d : Doing) (c : ℕ) → c < length d.state.guest.classes
    → (class_state_at d.state.guest c ≡ Untouched → class_state_at (done_step e d c).state.guest c ≡ Done) × ((class_state_at d.state.guest c ≡ Untouched → ⊥) → class_state_at (done_step e d c).state.guest c ≡ class_state_at d.state.guest c)
step_this e d c lt = case (state_of d c) refl
  where
    case : (s : ClassState) → state_of d c ≡ s → (state_of d c ≡ Untouched → class_state_at (class_done e c s d).state.guest c ≡ Done) × ((state_of d c ≡ Untouched → ⊥) → class_state_at (class_done e c s d).state.guest c ≡ class_state_at d.state.guest c)
    case Untouched is = (λ un. ap (λ (xs : List ClassState). get_or xs c Untouched) (follows_each e (class_at e.program c).info.constants (with_state c Done d)).classes ∙ state_set d c Done lt, λ apart. absurd (apart is))
    case (Begun t) is = (λ un. absurd (begun_untouched t (sym is ∙ un)), λ apart. refl)
    case Done is = (λ un. absurd (done_untouched (sym is ∙ un)), λ apart. refl)
    case Failed is = (λ un. absurd (failed_not (sym is ∙ un)), λ apart. refl)

step_classes : (e : Moment) (d : Doing) (c : ℕ) → length (done_step e d c).state.guest.classes ≡ length d.state.guest.classes
step_classes e d c = case (state_of d c)
  where
    case : (s : ClassState) → length (class_done e c s d).state.guest.classes ≡ length d.state.guest.classes
    case Untouched = ap (λ (xs : List ClassState). length xs) (follows_each e (class_at e.program c).info.constants (with_state c Done d)).classes ∙ length-set d.state.guest.classes c Done
    case (Begun t) = refl
    case Done = refl
    case Failed = refl

is_untouched : (s : ClassState) → (s ≡ Untouched) ⊎ (s ≡ Untouched → ⊥)
is_untouched Untouched = inl refl
is_untouched (Begun t) = inr (λ e. cc)
is_untouched Done = inr (λ e. cc)
is_untouched Failed = inr (λ e. cc)

-- over an order: a class is as far as it was, or it was untouched, is done, and stands in the order; each that stands there is not untouched
pub record Passed (ks : List ℕ) (d d' : Doing) : Type 0 where
  pub each : (j : ℕ) → (class_state_at d'.state.guest j ≡ class_state_at d.state.guest j) ⊎ ((class_state_at d.state.guest j ≡ Untouched) × (class_state_at d'.state.guest j ≡ Done) × Contains ks j)
  pub whole : (j : ℕ) → Contains ks j → class_state_at d'.state.guest j ≡ Untouched → ⊥
  pub classes : length d'.state.guest.classes ≡ length d.state.guest.classes

passed : (e : Moment) (ks : List ℕ) (d : Doing) → All (λ k. k < length d.state.guest.classes) ks → Passed ks d (fold (done_step e) d ks)
passed e [] d all = record { each = λ j. inl refl; whole = λ j c. absurd (Contains-none j c); classes = refl }
passed e (k ∷ ks) d all =
    let x = done_step e d k in
    let d' = fold (done_step e) x ks in
    let this = step_this e d k (all 0 0 (omega arith)) in
    let same = step_classes e d k in
    let tail : Passed ks x d' = passed e ks x (λ i z lt. subst (λ (n : ℕ). get_or ks i z < n) (sym same) (all (suc i) z (omega arith))) in
    record {
      each = λ j. elim (cases_eq j k) [
        | inl is ↦ subst (λ (i : ℕ). (class_state_at d'.state.guest i ≡ class_state_at d.state.guest i) ⊎ ((class_state_at d.state.guest i ≡ Untouched) × (class_state_at d'.state.guest i ≡ Done) × Contains (k ∷ ks) i)) (sym is)
            (elim (is_untouched (class_state_at d.state.guest k)) [
              | inl un ↦ elim (tail.each k) [
                | inl stay ↦ inr (un, stay ∙ this.0 un, Contains-here k ks)
                | inr t ↦ absurd (done_untouched (sym (this.0 un) ∙ t.0))
              ]
              | inr apart ↦ elim (tail.each k) [
                | inl stay ↦ inl (stay ∙ this.1 apart)
                | inr t ↦ absurd (apart (sym (this.1 apart) ∙ t.0))
              ]
            ])
        | inr ne ↦
            let as_was : class_state_at x.state.guest j ≡ class_state_at d.state.guest j = step_other e d k j ne in
            elim (tail.each j) [
              | inl stay ↦ inl (stay ∙ as_was)
              | inr t ↦ inr (sym as_was ∙ t.0, t.1, Contains-there k ks j t.2)
            ]
      ];
      whole = λ j c un. elim (Contains-cons k ks j c) [
        | inl is ↦
            let un_k : class_state_at d'.state.guest k ≡ Untouched = ap (λ (i : ℕ). class_state_at d'.state.guest i) is ∙ un in
            elim (tail.each k) [
              | inl stay ↦ first_set e d k (all 0 0 (omega arith)) (sym stay ∙ un_k)
              | inr t ↦ done_untouched (sym t.1 ∙ un_k)
            ]
        | inr in_rest ↦ tail.whole j in_rest un
      ];
      classes = tail.classes ∙ same;
    }
  where
    first_set : (e : Moment) (d : Doing) (c : ℕ) → c < length d.state.guest.classes → class_state_at (done_step e d c).state.guest c ≡ Untouched → ⊥
    first_set e d c lt un =
        let this = step_this e d c lt in
        elim (is_untouched (class_state_at d.state.guest c)) [
          | inl u ↦ done_untouched (sym (this.0 u) ∙ un)
          | inr apart ↦ apart (sym (this.1 apart) ∙ un)
        ]

-- TESTS OVER LISTS

at_true : (p : ℕ → Bool) (xs : List ℕ) (j : ℕ) → list_all p xs ≡ true → Contains xs j → p j ≡ true
at_true p [] j h c = absurd (Contains-none j c)
at_true p (x ∷ xs) j h c =
    let b = and_parts (p x) (list_all p xs) h in
    elim (Contains-cons x xs j c) [ inl is ↦ subst (λ (i : ℕ). p i ≡ true) is b.0 | inr d ↦ at_true p xs j b.1 d ]

same_tests : (p q : ℕ → Bool) (xs : List ℕ) → ((j : ℕ) → p j ≡ q j) → list_all p xs ≡ list_all q xs
same_tests p q [] h = refl
same_tests p q (x ∷ xs) h = ap (λ (b : Bool). b && list_all p xs) (h x) ∙ ap (λ (b : Bool). q x && b) (same_tests p q xs h)

-- one more passes
taken : (p : ℕ → Bool) (x : ℕ) (xs : List ℕ) → p x ≡ true → take_while p (x ∷ xs) ≡ x ∷ take_while p xs
taken p x xs h =
    let n : ℕ = prefix_len p xs in
    let more : 1 + n ≡ suc n = omega arith in
    ap (λ (c : Bool). take (cond c (1 + n) 0) (x ∷ xs)) h ∙ ap (λ (k : ℕ). take k (x ∷ xs)) more

pub all_pass : (p : ℕ → Bool) (xs : List ℕ) → list_all p xs ≡ true → (take_while p xs ≡ xs) × (find (λ k. not (p k)) xs ≡ None)
all_pass p [] h = (refl, refl)
all_pass p (x ∷ xs) h =
    let b = and_parts (p x) (list_all p xs) h in
    let rest = all_pass p xs b.1 in
    (taken p x xs b.0 ∙ ap (λ (l : List ℕ). x ∷ l) rest.0, ap (λ (c : Bool). cond (not c) (Some x) (find (λ k. not (p k)) xs)) b.0 ∙ rest.1)

pub first_fails : (p : ℕ → Bool) (xs : List ℕ) (n : ℕ) → n < length xs → list_all p (take n xs) ≡ true → p (get_or xs n 0) ≡ false → (take_while p xs ≡ take n xs) × (find (λ k. not (p k)) xs ≡ Some (get_or xs n 0))
first_fails p [] n lt h f = absurd (omega arith)
first_fails p (x ∷ xs) zero lt h f =
    (ap (λ (c : Bool). take (cond c (1 + prefix_len p xs) 0) (x ∷ xs)) f, ap (λ (c : Bool). cond (not c) (Some x) (find (λ k. not (p k)) xs)) f)
first_fails p (x ∷ xs) (suc n) lt h f =
    let b = and_parts (p x) (list_all p (take n xs)) h in
    let rest = first_fails p xs n (omega arith) b.1 f in
    (taken p x xs b.0 ∙ ap (λ (l : List ℕ). x ∷ l) rest.0, ap (λ (c : Bool). cond (not c) (Some x) (find (λ k. not (p k)) xs)) b.0 ∙ rest.1)

-- WHAT PREPARING CHANGES: classes that were untouched, in the order of a class that was quiet; each class of that order is not untouched
pub record Turned (e : Moment) (d₀ d : Doing) (j : ℕ) : Type 0 where
  pub was : class_state_at d₀.state.guest j ≡ Untouched
  pub is : class_state_at d.state.guest j ≡ Done
  pub by : ℕ
  pub within : by < length e.program.classes
  pub quiet : is_quiet e d₀ by ≡ true
  pub member : Contains (class_at e.program by).init_order j
  pub whole : (i : ℕ) → Contains (class_at e.program by).init_order i → class_state_at d.state.guest i ≡ Untouched → ⊥

pub record Turns (e : Moment) (d₀ d : Doing) : Type 0 where
  pub each : (j : ℕ) → (class_state_at d.state.guest j ≡ class_state_at d₀.state.guest j) ⊎ Turned e d₀ d j
  pub classes : length d.state.guest.classes ≡ length e.program.classes

pub turns_none : (e : Moment) (d : Doing) → length d.state.guest.classes ≡ length e.program.classes → Turns e d d
turns_none e d classes = record { each = λ j. inl refl; classes = classes }

turns_step : (e : Moment) (d₀ d : Doing) (c : ℕ) → IsInOrder e.program → c < length e.program.classes → is_ready e d₀ c ≡ true → Turns e d₀ d → Turns e d₀ (pre_step e d c)
turns_step e d₀ d c has lt ready t = by_state (λ y. Turns e d₀ y) e d c (λ un.
    let d' = quietly_done e c d in
    let ks = (class_at e.program c).init_order in
    let first : class_state_at d₀.state.guest c ≡ Untouched = elim (t.each c) [ inl same ↦ sym same ∙ un | inr v ↦ absurd (done_untouched (sym v.is ∙ un)) ] in
    let quiet : is_quiet e d₀ c ≡ true = sym (ap (λ (s : ClassState). is_ready_state e d₀ c s) first) ∙ ready in
    let over : Passed ks d d' = passed e ks d (λ i z within. subst (λ (n : ℕ). get_or ks i z < n) (sym t.classes) (has.within c lt i z within)) in
    record {
      each = λ j. elim (over.each j) [
        | inl same ↦ elim (t.each j) [
          | inl stay ↦ inl (same ∙ stay)
          | inr v ↦ inr (record { was = v.was; is = same ∙ v.is; by = v.by; within = v.within; quiet = v.quiet; member = v.member; whole = λ i m u. elim (over.each i) [ inl s ↦ v.whole i m (sym s ∙ u) | inr w ↦ v.whole i m w.0 ] })
        ]
        | inr w ↦ elim (t.each j) [
          | inl stay ↦ inr (record { was = sym stay ∙ w.0; is = w.1; by = c; within = lt; quiet = quiet; member = w.2; whole = over.whole })
          | inr v ↦ absurd (done_untouched (sym v.is ∙ w.0))
        ]
      ];
      classes = over.classes ∙ t.classes;
    }) t

pub turns_prepared : (e : Moment) (d₀ d : Doing) (ks : List ℕ) → IsInOrder e.program → All (λ k. k < length e.program.classes) ks → list_all (is_ready e d₀) ks ≡ true → Turns e d₀ d → Turns e d₀ (prepared e ks d)
turns_prepared e d₀ d [] has all ready t = t
turns_prepared e d₀ d (k ∷ ks) has all ready t =
    let b = and_parts (is_ready e d₀ k) (list_all (is_ready e d₀) ks) ready in
    turns_prepared e d₀ (pre_step e d k) ks has (λ i z lt. all (suc i) z (omega arith)) b.1 (turns_step e d₀ d k has (all 0 0 (omega arith)) b.0 t)

-- THE BLOCKER is as far as it was, and as quiet

quiet_within : (e : Moment) (d₀ : Doing) (c b : ℕ) → IsInOrder e.program → c < length e.program.classes → is_quiet e d₀ c ≡ true → Contains (class_at e.program c).init_order b → is_quiet e d₀ b ≡ true
quiet_within e d₀ c b has lt quiet member =
    all_true (λ k. is_quiet_state e.program k (state_of d₀ k)) (class_at e.program b).init_order
    (λ j m. at_true (λ k. is_quiet_state e.program k (state_of d₀ k)) (class_at e.program c).init_order j quiet (has.orders c b j lt member m))

pub blocker_state : (e : Moment) (d₀ d : Doing) (b : ℕ) → IsInOrder e.program → is_ready e d₀ b ≡ false → Turns e d₀ d → state_of d b ≡ state_of d₀ b
blocker_state e d₀ d b has blocked t = elim (t.each b) [
  | inl same ↦ same
  | inr v ↦ absurd (true_false (sym (quiet_within e d₀ v.by b has v.within v.quiet v.member) ∙ (sym (ap (λ (s : ClassState). is_ready_state e d₀ b s) v.was) ∙ blocked)))
]

quiet_same : (e : Moment) (d₀ d : Doing) (b : ℕ) → Turns e d₀ d → is_quiet e d b ≡ is_quiet e d₀ b
quiet_same e d₀ d b t = same_tests (λ k. is_quiet_state e.program k (state_of d k)) (λ k. is_quiet_state e.program k (state_of d₀ k)) (class_at e.program b).init_order
    (λ j. elim (t.each j) [
      | inl same ↦ ap (λ (s : ClassState). is_quiet_state e.program j s) same
      | inr v ↦ ap (λ (s : ClassState). is_quiet_state e.program j s) v.is ∙ sym (at_true (λ k. is_quiet_state e.program k (state_of d₀ k)) (class_at e.program v.by).init_order j v.quiet v.member)
    ])

need_alike : (e : Moment) (d₀ d : Doing) (b : ℕ) (s : ClassState) → is_quiet e d b ≡ is_quiet e d₀ b → need_by e d b s ≡ need_by e d₀ b s
need_alike e d₀ d b Untouched q = ap (λ (x : Bool). if x then Quiet else Begins) q
need_alike e d₀ d b (Begun t) q = refl
need_alike e d₀ d b Done q = refl
need_alike e d₀ d b Failed q = refl

pub blocked : (e : Moment) (d₀ d : Doing) (b : ℕ) (go : Doing → Outcome Kept) → IsInOrder e.program → is_ready e d₀ b ≡ false → Turns e d₀ d → initialized e d b go ≡ met e d b go (need_of e d₀ b)
blocked e d₀ d b go has not_ready t =
    needed_by e d b (state_of d b) go
    ∙ ap (λ (n : Need). met e d b go n) (ap (λ (s : ClassState). need_by e d b s) (blocker_state e d₀ d b has not_ready t) ∙ need_alike e d₀ d b (state_of d₀ b) (quiet_same e d₀ d b t))

-- THE STRINGS of prerequisites

all_done : (e : Moment) (ks : List ℕ) (d : Doing) → ((j : ℕ) → Contains ks j → class_state_at d.state.guest j ≡ Untouched → ⊥) → fold (done_step e) d ks ≡ d
all_done e [] d h = refl
all_done e (k ∷ ks) d h =
    let one : done_step e d k ≡ d = done_is e k (state_of d k) d (h k (Contains-here k ks)) in
    ap (λ (x : Doing). fold (done_step e) x ks) one ∙ all_done e ks d (λ j c. h j (Contains-there k ks j c))

pub pre_is : (e : Moment) (c : ℕ) (s : ClassState) (d : Doing) → (s ≡ Untouched → ⊥) → quietly_if_untouched e c s d ≡ d
pre_is e c Untouched d apart = absurd (apart refl)
pre_is e c (Begun t) d apart = refl
pre_is e c Done d apart = refl
pre_is e c Failed d apart = refl

-- a prerequisite that was not untouched
pub counted_passed : (e : Moment) (d₀ d : Doing) (c : ℕ) → (class_state_at d₀.state.guest c ≡ Untouched → ⊥) → Turns e d₀ d → pre_step e d c ≡ d
counted_passed e d₀ d c apart t = pre_is e c (state_of d c) d (λ un. elim (t.each c) [ inl same ↦ apart (sym same ∙ un) | inr v ↦ apart v.was ])

-- one that was
pub counted_pre : (m : MachineState) (seen seen' : List ℕ) (e : Moment) (d₀ d : Doing) (c : ℕ) → IsInOrder e.program → class_state_at d₀.state.guest c ≡ Untouched → Turns e d₀ d
    → ((x : Doing) → CountedAll e.program m seen x → CountedAll e.program m seen' (quietly_done e c x)) → CountedAll e.program m seen d → CountedAll e.program m seen' (pre_step e d c)
counted_pre m seen seen' e d₀ d c has un t count h = elim (t.each c) [
  | inl same ↦ subst (λ (x : Doing). CountedAll e.program m seen' x) (sym (ap (λ (s : ClassState). quietly_if_untouched e c s d) (same ∙ un))) (count d h)
  | inr v ↦
      let stays : quietly_done e c d ≡ d = all_done e (class_at e.program c).init_order d (λ j m. v.whole j (has.orders v.by c j v.within v.member m)) in
      let pre : pre_step e d c ≡ d = pre_is e c (state_of d c) d (λ u. done_untouched (sym v.is ∙ u)) in
      subst (λ (x : Doing). CountedAll e.program m seen' x) (stays ∙ sym pre) (count d h)
]

-- A LOOP OVER PREREQUISITES

abbrev pub pre_first : Moment → Doing → List ℕ → ℕ → Doing
pre_first e d ks k = fold (pre_step e) d (take k ks)

pub pre_ready : (p : Linked) (t : ℕ) (m₀ m : MachineState) (out₀ out : List Record) (ks : List ℕ) (k : ℕ) → IsInOrder p → All (λ c. c < length p.classes) ks → IsInitializing p (kept_of m₀)
    → StandsAt (pre_first (moment p m₀ t) (so_far m₀ out₀) ks k) m₀ m out → IsInitializing p (kept_of m)
pre_ready p t m₀ m out₀ out ks k has all ready before =
    let e = moment p m₀ t in
    let d = so_far m₀ out₀ in
    known (λ b x. IsInitializing p b) m₀ m out (pre_first e d ks k) before.0 before.1 (ready_prepared e (take k ks) d has (All-take (λ c. c < length p.classes) k ks all) ready)

-- one prerequisite more is counted
list_all_take : (p : ℕ → Bool) (xs : List ℕ) (n : ℕ) → list_all p xs ≡ true → list_all p (take n xs) ≡ true
list_all_take p [] zero h = refl
list_all_take p [] (suc n) h = refl
list_all_take p (x ∷ xs) zero h = refl
list_all_take p (x ∷ xs) (suc n) h =
    let b = and_parts (p x) (list_all p xs) h in
    ap (λ (c : Bool). c && list_all p (take n xs)) b.0 ∙ list_all_take p xs n b.1

pub counted_more : (p : Linked) (m : MachineState) (t : ℕ) (ks : List ℕ) (k c : ℕ) (seen seen' : List ℕ) → IsInOrder p → All (λ j. j < length p.classes) ks → list_all (is_ready (moment p m t) (begins (moment p m t))) ks ≡ true → length m.guest.classes ≡ length p.classes
    → k < length ks → c ≡ get_or ks k c
    → (class_state_at m.guest c ≡ Untouched → (before : Kept) (thread : ℕ) (d : Doing) → CountedAll p m seen d → CountedAll p m seen' (quietly_done (at p thread before) c d))
    → ((class_state_at m.guest c ≡ Untouched → ⊥) → seen' ≡ seen)
    → CountedAll p m seen (pre_first (moment p m t) (begins (moment p m t)) ks k) → CountedAll p m seen' (pre_first (moment p m t) (begins (moment p m t)) ks (k + 1))
counted_more p m t ks k c seen seen' has all ready classes lt read count other h =
    let e = moment p m t in
    let d = pre_first e (begins e) ks k in
    let same : get_or ks k 0 ≡ c = sym (read ∙ get_or_default ks k c 0 lt) in
    let more : pre_first e (begins e) ks (k + 1) ≡ pre_step e d c = fold_more (pre_step e) (begins e) ks k 0 lt ∙ ap (λ (g : ℕ). pre_step e d g) same in
    let turns : Turns e (begins e) d = turns_prepared e (begins e) (begins e) (take k ks) has (All-take (λ j. j < length p.classes) k ks all) (list_all_take (is_ready e (begins e)) ks k ready) (turns_none e (begins e) classes) in
    subst (λ (x : Doing). CountedAll p m seen' x) (sym more) (elim (is_untouched (class_state_at m.guest c)) [
      | inl un ↦ counted_pre m seen seen' e (begins e) d c has un turns (λ x g. count un (kept_of m) t x g) h
      | inr apart ↦ subst (λ (fs : List ℕ). CountedAll p m fs (pre_step e d c)) (sym (other apart)) (subst (λ (x : Doing). CountedAll p m seen x) (sym (counted_passed e (begins e) d c apart turns)) h)
    ])
