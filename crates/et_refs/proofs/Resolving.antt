-- A class that was resolved is the one of its name.
use Rattle.std.proofs.Common.{◌≡◌, ℕ, Bool, true, false, List, [], Result, Ok, Err, ap}
use Rattle.std.specs.Prelude.{if◌then◌else◌}
use Rattle.et_state.specs.State.{GuestState, Kept}
use Rattle.et_state.specs.Outcome.{Outcome, Goes, Waits, IllTyped, ObjectLimit}
use Rattle.et_program.specs.Entries.{Linked}
use Rattle.et_program.specs.Resolution.{resolve_class}
use Rattle.et_program.specs.declared.errors.LinkError.{LinkError}
use Rattle.et_event.specs.Checks.{resolved}
use Rattle.et_event.specs.Heap.{resolved_class}
use Rattle.et_event.specs.Errors.{error_of, error_class}
use Rattle.et_event.specs.declared.errors.GuestError.{GuestError}
use Rattle.et_event.specs.Moments.{Moment, Doing, begins, next_object, instance_made, entry_given_up, pending_now, fits_heap, ends_event, throws}

no_wait : (b : Bool) (d : Doing) (s : Kept) → (if b then Goes d.state d.records else ObjectLimit) ≡ Waits s → ⊥
no_wait true d s e = cc
no_wait false d s e = cc

never_waits : (d : Doing) (s : Kept) → ends_event d ≡ Waits s → ⊥
never_waits d s e = no_wait (fits_heap d.state.heap) d s e

abbrev named_in : Outcome Kept → ℕ
named_in (IllTyped method pc) = method
named_in other = 0

pub never_thrown : (e : Moment) (error : GuestError) (s : Kept) → throws e error (begins e) ≡ Waits s → ⊥
never_thrown e error s h = never_waits (pending_now e (next_object (begins e)) (instance_made e (error_class e.program error) (entry_given_up e (begins e)))) s h

resolves_by : (e : Moment) (r : Result ℕ LinkError) (c : ℕ) → ((go : ℕ → Outcome Kept) → resolved e (begins e) r go ≡ go c) → r ≡ Ok c
resolves_by e (Ok k) c h = ap (λ (o : Outcome Kept). let x : Result ℕ LinkError = Ok (named_in o) in x) (h (λ n. IllTyped n 0))
resolves_by e (Err error) c h = absurd (never_thrown e (error_of error) e.before (h (λ n. Waits e.before)))

pub resolves : (p : Linked) (s : Kept) (t c : ℕ) (name : List ℕ)
    → ((go : ℕ → Outcome Kept) → resolved_class (record { program = p; before = s; thread = t }) (begins (record { program = p; before = s; thread = t })) name go ≡ go c) → resolve_class p name ≡ Ok c
resolves p s t c name h = resolves_by (record { program = p; before = s; thread = t }) (resolve_class p name) c h

-- a state of nothing
pub nowhere : Kept
nowhere = record { heap = []; guest = let g : GuestState = record { clock = 0; statics = []; threads = []; classes = []; class_monitors = []; interned = []; texts = [] } in g }
