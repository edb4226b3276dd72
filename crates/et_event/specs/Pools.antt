-- The pool of a class that may have none, as an array class.
use Rattle.std.specs.Prelude.{List, Option, unwrap_or}
use Rattle.et_class.specs.Entries.{Item, Constants}
use Rattle.et_event.specs.Sites.{no_constants}

abbrev pub pool_slots : Option Constants → List (Option Item)
pool_slots pool = (unwrap_or pool no_constants).slots
