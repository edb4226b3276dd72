-- Thread 0 enters `main`, by what its class needs.
use Rattle.std.proofs.Common.{◌≡◌, ℕ, Bool, true, false, refl, sym, ◌∙◌}
use Rattle.std.specs.Prelude.{◌==◌, if◌then◌else◌}
use Rattle.et_state.specs.declared.class_state.ClassState.{ClassState}
use Rattle.et_state.specs.declared.class_state.ClassState.TheVariants.{Untouched, Begun, Done, Failed}
use Rattle.et_event.specs.Initialization.{state_of}
use Rattle.et_event.specs.Moments.{Moment, Doing, begins}
use Rattle.et_initialize.specs.declared.needs.Need.{Need}
use Rattle.et_initialize.specs.declared.needs.Need.TheVariants.{Ready, Waits, Quiet}
use Rattle.et_initialize.specs.Needs.{need_by, need_of}

-- a class that is quiet and not done is untouched

not_quiet : (b : Bool) → Quiet ≡ (if b then Ready else Waits) → ⊥
not_quiet true e = cc
not_quiet false e = cc

quiet_state : (e : Moment) (d : Doing) (c : ℕ) (s : ClassState) → Quiet ≡ need_by e d c s → s ≡ Untouched
quiet_state e d c Untouched is = refl
quiet_state e d c (Begun t) is = absurd (not_quiet (t == e.thread) is)
quiet_state e d c Done is = cc
quiet_state e d c Failed is = cc

pub quiet_untouched : (e : Moment) (c : ℕ) (n : Need) → n ≡ need_of e (begins e) c → n ≡ Quiet → state_of (begins e) c ≡ Untouched
quiet_untouched e c n is at = quiet_state e (begins e) c (state_of (begins e) c) (sym at ∙ is)
