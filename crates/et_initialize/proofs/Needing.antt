-- What an event does that needs a class, by its need; and an event in which quiet classes become done.
use Rattle.std.proofs.Common.{◌≡◌, ℕ, Bool, true, false, List, ◌++◌, refl, sym, ◌∙◌, ap}
use Rattle.std.specs.Prelude.{◌==◌, if◌then◌else◌}
use Rattle.et_state.specs.declared.class_state.ClassState.{ClassState}
use Rattle.et_state.specs.declared.class_state.ClassState.TheVariants.{Untouched, Begun, Done, Failed}
use Rattle.et_state.specs.State.{Kept, MachineState}
use Rattle.et_state.specs.Words.{begun}
use Rattle.et_program.specs.Entries.{Linked}
use Rattle.et_state.specs.declared.records.Record.{Record}
use Rattle.et_state.specs.Outcome.{Outcome}
use Rattle.et_event.specs.Initialization.{state_of, is_quiet, needed, quietly_done}
use Rattle.et_event.specs.Moments.{Moment, moment, Doing, begins, fits_heap}
use Rattle.et_initialize.specs.declared.needs.Need.{Need}
use Rattle.et_initialize.specs.declared.needs.Need.TheVariants.{Ready, Waits, Quiet, Begins}
use Rattle.et_initialize.specs.Needs.{need_by, need_of, met}
use Rattle.et_event.specs.Telling.{so_far, StandsAt}
use Rattle.et_initialize.specs.Under.{base}
use Rattle.et_initialize.proofs.Records.{behind_quietly, came_behind, fits_behind}

-- what the classes come to, with the records that were there
abbrev pub quiet : Linked → ℕ → MachineState → ℕ → Doing
quiet p t m c = quietly_done (moment p m t) c (begins (moment p m t))

pub quiet_came : (p : Linked) (t c : ℕ) (m m₁ m₂ : MachineState) (out out₂ : List Record) → m₁ ≡ begun m → StandsAt (quietly_done (moment p m₁ t) c (so_far m₁ out)) m₁ m₂ out₂
    → (m₂ ≡ base m (quiet p t m c)) × (out₂ ≡ out ++ (quiet p t m c).records)
quiet_came p t c m m₁ m₂ out out₂ e h = came_behind (λ q x. quietly_done q c x) p t m m₁ m₂ out out₂ (λ x. refl) (behind_quietly out (moment p m t) c (begins (moment p m t))) e h

pub quiet_fit : (p : Linked) (t c : ℕ) (m m₁ : MachineState) (out : List Record) → m₁ ≡ begun m → fits_heap (quiet p t m c).state.heap ≡ true → fits_heap (quietly_done (moment p m₁ t) c (so_far m₁ out)).state.heap ≡ true
quiet_fit p t c m m₁ out e fit = fits_behind (λ q x. quietly_done q c x) p t m m₁ out (λ x. refl) (behind_quietly out (moment p m t) c (begins (moment p m t))) e fit

-- WHAT IS NEEDED

met_either : (e : Moment) (d : Doing) (c : ℕ) (go : Doing → Outcome Kept) (x y : Need) (b : Bool) → (if b then met e d c go x else met e d c go y) ≡ met e d c go (if b then x else y)
met_either e d c go x y true = refl
met_either e d c go x y false = refl

pub needed_by : (e : Moment) (d : Doing) (c : ℕ) (s : ClassState) (go : Doing → Outcome Kept) → needed e d c s go ≡ met e d c go (need_by e d c s)
needed_by e d c Untouched go = met_either e d c go Quiet Begins (is_quiet e d c)
needed_by e d c (Begun t) go = met_either e d c go Ready Waits (t == e.thread)
needed_by e d c Done go = refl
needed_by e d c Failed go = refl

pub needs_met : (e : Moment) (d : Doing) (c : ℕ) (go : Doing → Outcome Kept) (n k : Need) → n ≡ need_of e d c → n ≡ k → needed e d c (state_of d c) go ≡ met e d c go k
needs_met e d c go n k is at = needed_by e d c (state_of d c) go ∙ ap (λ (x : Need). met e d c go x) (sym is ∙ at)

not_begins : (b : Bool) → (if b then Ready else Waits) ≡ Begins → ⊥
not_begins true e = cc
not_begins false e = cc

pub begins_untouched : (e : Moment) (d : Doing) (c : ℕ) (s : ClassState) → need_by e d c s ≡ Begins → s ≡ Untouched
begins_untouched e d c Untouched h = refl
begins_untouched e d c (Begun t) h = absurd (not_begins (t == e.thread) h)
begins_untouched e d c Done h = cc
begins_untouched e d c Failed h = cc

pub untouched : (e : Moment) (d : Doing) (c : ℕ) (n : Need) → n ≡ need_of e d c → n ≡ Begins → state_of d c ≡ Untouched
untouched e d c n is at = begins_untouched e d c (state_of d c) (sym is ∙ at)
