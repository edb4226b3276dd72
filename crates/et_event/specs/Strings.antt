-- The strings of constants (JVMS 5.1): each sequence of bytes has one object.
use Rattle.std.specs.Prelude.{ℕ, if◌then◌else◌, List, unwrap_or, is_some, codes}
use Rattle.et_state.specs.Interned.{object_of}
use Rattle.et_state.specs.Words.{with_string}
use Rattle.et_event.specs.Errors.{class_called}
use Rattle.et_event.specs.Moments.{Moment, Doing, doing_with_guest, next_object, instance_made}

-- the object of bytes for which one was made
abbrev pub string_object : List ℕ → Doing → ℕ
string_object bytes d = unwrap_or (object_of d.state.guest.interned bytes) 0

abbrev string_made : Moment → List ℕ → Doing → Doing
string_made e bytes d =
    let x = instance_made e (class_called e.program (codes "java/lang/String")) d in
    doing_with_guest (with_string x.state.guest bytes (next_object d)) x

-- the object is made where there is none yet
abbrev pub interned : Moment → List ℕ → Doing → Doing
interned e bytes d = if is_some (object_of d.state.guest.interned bytes) then d else string_made e bytes d
