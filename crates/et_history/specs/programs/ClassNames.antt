-- The names of the classes of files.
use Rattle.std.specs.Prelude.{◌≡◌, true}
use Rattle.et_class.specs.Names.{is_plain_class}
use Rattle.et_program.specs.Loaded.{LoadedClass}

-- the class has the name of a class, and not that of an array type (JVMS 4.1, 4.4.1)
abbrev pub HasClassName : LoadedClass → Type 0
HasClassName c = is_plain_class c.pool.slots c.this ≡ true
