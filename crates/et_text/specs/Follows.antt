-- What a line leaves.
use Rattle.std.specs.Prelude.{◌≡◌, ℕ, Bool, true, false, List, ◌∷◌, Option, Some, None}
use Rattle.et_base.specs.declared.line.TraceLine.{TraceLine}
use Rattle.et_base.specs.declared.line.TraceLine.TheVariants.{Header, Class, Method, Alloc, Update, Enter, Exit, Unwind, Flush, Death, Finish}
use Rattle.et_text.specs.Ranges.{IsInRange}
use Rattle.et_text.specs.Rules.{is_final, next_fault}
use Rattle.et_text.specs.declared.standing.Standing.{Standing}
use Rattle.et_text.specs.StandsFor.{last_due, StandsForLines, NotesObject, NotesDeath, NotesClass, NotesMethod}

abbrev pub NotesEvent : Standing → Standing → ℕ → Bool → Type 0
NotesEvent s s' event added = (added ≡ true) × (s' ≡ record s { begun = true; latest = event; stands = false; awaited = 0; last_dead = 0 })

abbrev pub Notes : Standing → Standing → TraceLine → Bool → Type 0
Notes s s' (Header v n) added = (added ≡ true) × (s' ≡ record s { begun = true; interval = n; stands = false; awaited = 0; last_dead = 0 })
Notes s s' (Class number name) added = NotesClass s s' number name added
Notes s s' (Method number class name descriptor) added = NotesMethod s s' number class name descriptor added
Notes s s' (Alloc event thread object class size len) added = (added ≡ true) × NotesObject s s' event
Notes s s' (Update event thread object slot old new) added = NotesEvent s s' event added
Notes s s' (Enter event thread method receiver) added = NotesEvent s s' event added
Notes s s' (Exit event thread method) added = NotesEvent s s' event added
Notes s s' (Unwind event thread method exception) added = NotesEvent s s' event added
Notes s s' (Flush event deaths) added = (added ≡ true) × (s' ≡ record s { begun = true; latest = event; flushed = Some event; is_last = is_final s.interval (Some event); last_due = last_due s.interval (Some event); stands = true; awaited = deaths; last_dead = 0 })
Notes s s' (Death object time) added = (added ≡ true) × NotesDeath s s' object
Notes s s' (Finish event how) added = (added ≡ true) × (s' ≡ record s { begun = true; ended = true; stands = false; awaited = 0; last_dead = 0 })

-- what is left after a line that breaks no rule
abbrev pub StandsOn : Standing → List TraceLine → TraceLine → Option ℕ → Type 0
StandsOn s' past line None = StandsForLines s' (line ∷ past)
StandsOn s' past line (Some kind) = Unit {0}

-- the answer is the fault of the line by the lines so far, and where there is none, the line is noted
abbrev pub Follows : Standing → Standing → ℕ → List TraceLine → TraceLine → Option ℕ → Type 0
Follows s s' version past line found = StandsForLines s past → IsInRange version line → (found ≡ next_fault past line) × StandsOn s' past line found
