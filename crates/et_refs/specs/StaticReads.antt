-- The reading of a static field, up to its value, and whether it is that of System.out.
use Rattle.std.specs.Prelude.{ℕ, ◌==◌, ◌&&◌, not, codes, Bool, if◌then◌else◌, List, Option, Some, None, Result, Ok, Err}
use Rattle.et_program.specs.Entries.{Linked, field_at}
use Rattle.et_state.specs.Words.{class_state_at}
use Rattle.et_state.specs.Outcome.{Outcome}
use Rattle.et_state.specs.State.{Kept}
use Rattle.et_event.specs.declared.errors.GuestError.TheVariants.{NoSuchFieldError}
use Rattle.et_event.specs.Checks.{throws_unless}
use Rattle.et_event.specs.Errors.{class_called}
use Rattle.et_event.specs.Heap.{is_out}
use Rattle.et_event.specs.Moments.{Moment, begins}
use Rattle.et_event.specs.Operands.{operand_kind}
use Rattle.et_event.specs.Out.{is_done}
use Rattle.et_refs.specs.declared.doing.accesses.Access.TheVariants.{Read}
use Rattle.et_refs.specs.declared.doing.accesses.Wanted.{Wanted}
use Rattle.et_refs.specs.declared.refusals.Refusal.{Refusal}
use Rattle.et_refs.specs.declared.slots.static_fields.StaticRead.{StaticRead}

-- that of a field, as one of this descriptor
abbrev pub read_of : Linked → List ℕ → ℕ → StaticRead
read_of p type f = record { class = (field_at p f).class; read = record { slot = (field_at p f).slot; kind = operand_kind type } }

abbrev pub wanted_by : StaticRead → Wanted
wanted_by x = record { class = x.class; access = Read x.read }

-- the static field of this class is System.out, which may be read
abbrev pub is_out_class : Moment → ℕ → Bool
is_out_class e c = (c == class_called e.program (codes "java/lang/System")) && is_done (class_state_at e.before.guest c)

-- what goes on where a field isn't System.out
abbrev pub unless_out : Moment → (ℕ → Outcome Kept) → ℕ → Outcome Kept
unless_out e go f = throws_unless e (begins e) NoSuchFieldError (not (is_out e.program f)) (go f)

-- its slot, where that is what is read
abbrev pub out_slot : Moment → Result StaticRead Refusal → Option ℕ
out_slot e (Ok x) = if is_out_class e x.class then Some x.read.slot else None
out_slot e (Err refusal) = None
