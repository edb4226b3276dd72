-- The kinds of the lines of a trace.
use Rattle.std.specs.Prelude.{Bool, true, false}
use Rattle.et_base.specs.declared.line.TraceLine.{TraceLine}
use Rattle.et_base.specs.declared.line.TraceLine.TheVariants.{Alloc, Update, Enter, Exit, Unwind}

-- whether a line tells what a thread did: A, U, M, E or X
abbrev pub is_of_thread : TraceLine → Bool
is_of_thread (Alloc event thread object class size length) = true
is_of_thread (Update event thread object slot old new) = true
is_of_thread (Enter event thread method receiver) = true
is_of_thread (Exit event thread method) = true
is_of_thread (Unwind event thread method exception) = true
is_of_thread other = false
