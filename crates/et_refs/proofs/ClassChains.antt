-- The rows in parts: what goes on behind each check.
use Rattle.std.proofs.Common.{ℕ, ◌∷◌, List}
use Rattle.et_base.specs.declared.value.Value.{Value}
use Rattle.et_base.specs.declared.value.Value.TheVariants.{Ref}
use Rattle.et_program.specs.Entries.{field_at}
use Rattle.et_state.specs.State.{Kept}
use Rattle.et_state.specs.Outcome.{Outcome}
use Rattle.et_event.specs.declared.errors.GuestError.TheVariants.{IncompatibleClassChangeError, InstantiationError, NoSuchFieldError}
use Rattle.et_event.specs.Moments.{Moment, current_frame, begins, next_object, instance_made, static_written, ill_typed, ends_event}
use Rattle.et_event.specs.Checks.{with_value, ill_typed_unless, throws_unless}
use Rattle.et_event.specs.Heap.{leaving_values, field_fits, resolved_field, resolved_class, is_out, is_static_at, may_be_made}
use Rattle.et_event.specs.Initialization.{initialized}
use Rattle.et_event.specs.Kinds.{kind_of_field, narrowed}
use Rattle.et_event.specs.Sites.{Site, Member}
use Rattle.std.specs.Prelude.{nat_le, not, ◌+◌, length}
use Rattle.et_refs.specs.declared.slots.static_fields.StaticRead.{StaticRead}
use Rattle.et_refs.specs.StaticReads.{read_of}

-- GETSTATIC, whatever goes on

abbrev pub Going : Type 0
Going = StaticRead → Outcome Kept

abbrev pub read_then : Moment → Member → Going → ℕ → Outcome Kept
read_then e m go f = go (read_of e.program m.descriptor f)

abbrev pub static_then : Moment → Member → Going → ℕ → Outcome Kept
static_then e m go f = throws_unless e (begins e) IncompatibleClassChangeError (is_static_at e.program f) (read_then e m go f)

abbrev pub reads_field : Moment → Going → Member → Outcome Kept
reads_field e go m = resolved_field e (begins e) m (static_then e m go)

abbrev pub reads : Moment → Going → Member → Outcome Kept
reads e go m = ill_typed_unless e (field_fits e (current_frame e).operands m) (reads_field e go m)

-- PUTSTATIC

abbrev pub put : Moment → Site → Member → Value → List Value → ℕ → Outcome Kept
put e at m v below f = initialized e (begins e) (field_at e.program f).class (λ d. ends_event (static_written e (field_at e.program f).slot (narrowed m.descriptor v) (leaving_values e at below d)))

abbrev pub puts_field : Moment → Site → Member → Value → List Value → Outcome Kept
puts_field e at m v below = resolved_field e (begins e) m (λ f. throws_unless e (begins e) IncompatibleClassChangeError (is_static_at e.program f) (throws_unless e (begins e) NoSuchFieldError (not (is_out e.program f)) (put e at m v below f)))

abbrev pub puts : Moment → Site → Member → Outcome Kept
puts e at m = with_value (kind_of_field m.descriptor) (ill_typed e) (current_frame e).operands (puts_field e at m)

-- NEW

abbrev pub made_of : Moment → Site → ℕ → Outcome Kept
made_of e at class = initialized e (begins e) class (λ d. ends_event (leaving_values e at (Ref (next_object d) ∷ (current_frame e).operands) (instance_made e class d)))

abbrev pub makes_class : Moment → Site → ℕ → Outcome Kept
makes_class e at class = throws_unless e (begins e) InstantiationError (may_be_made e.program class) (made_of e at class)

abbrev pub makes_named : Moment → Site → List ℕ → Outcome Kept
makes_named e at name = resolved_class e (begins e) name (makes_class e at)

abbrev pub makes_fitting : Moment → Site → List ℕ → Outcome Kept
makes_fitting e at name = ill_typed_unless e (nat_le (1 + length (current_frame e).operands) (current_frame e).room) (makes_named e at name)
