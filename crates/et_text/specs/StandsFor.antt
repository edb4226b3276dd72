-- What is kept is what the lines so far say.
use Rattle.std.specs.Prelude.{◌≡◌, ℕ, ◌-◌, ◌%◌, ◌==◌, Bool, true, false, not, bytes_eq, if◌then◌else◌, List, [], ◌∷◌, ◌++◌, length, slice_set, Option, Some, None}
use Rattle.et_base.specs.declared.line.TraceLine.{TraceLine}
use Rattle.et_text.specs.Rules.{has_begun, has_ended, interval, classes, methods, births, latest, newest_flush, is_final, awaited, last_dead, standing_flush, is_reported, has_class, has_method}
use Rattle.et_text.specs.ByStanding.{reported_in}
use Rattle.et_text.specs.NameSets.{Bytes, MethodKey, has_name, has_key, same_method}
use Rattle.et_text.specs.declared.standing.Standing.{Standing}

-- the newest event up to the newest flush after which a flush is due, or 0
abbrev pub last_due : ℕ → Option ℕ → ℕ
last_due every None = 0
last_due every (Some event) = if every == 0 then 0 else event - event % every

-- WHAT THE LINES SAY, but for their names, for the deaths and for the end
pub record Said : Type 0 where
  pub begun : Bool
  pub interval : ℕ
  pub classes : ℕ
  pub methods : ℕ
  pub births : List ℕ
  pub latest : ℕ
  pub flushed : Option ℕ
  pub is_last : Bool
  pub last_due : ℕ
  pub standing : Option ℕ
  pub awaited : ℕ
  pub last_dead : ℕ

abbrev pub said : List TraceLine → Said
said past = record {
  begun = has_begun past;
  interval = interval past;
  classes = classes past;
  methods = methods past;
  births = births past;
  latest = latest past;
  flushed = newest_flush past;
  is_last = is_final (interval past) (newest_flush past);
  last_due = last_due (interval past) (newest_flush past);
  standing = standing_flush past;
  awaited = awaited past;
  last_dead = last_dead past;
}

-- .. as it is kept
abbrev pub kept : Standing → Said
kept s = record {
  begun = s.begun;
  interval = s.interval;
  classes = s.classes;
  methods = s.methods;
  births = s.births.items;
  latest = s.latest;
  flushed = s.flushed;
  is_last = s.is_last;
  last_due = s.last_due;
  standing = if s.stands then s.flushed else None;
  awaited = s.awaited;
  last_dead = s.last_dead;
}

pub record StandsForLines (s : Standing) (past : List TraceLine) : Type 0 where
  pub said_is : kept s ≡ said past
  pub ended_is : s.ended ≡ has_ended past
  pub as_many : length s.reported.items ≡ length s.births.items
  pub reported_is : (o : ℕ) → reported_in s o ≡ is_reported past o
  pub class_names_are : (q : Bytes) → has_name s.class_names q ≡ has_class past q.items
  pub method_names_are : (q : MethodKey) → has_key s.method_names q ≡ has_method past q.0 q.1.items q.2.items

-- an object was made
pub record NotesObject (old new : Standing) (event : ℕ) : Type 0 where
  pub births : new.births.items ≡ old.births.items ++ event ∷ []
  pub reported : new.reported.items ≡ old.reported.items ++ false ∷ []
  pub others : new ≡ record old { begun = true; latest = event; stands = false; awaited = 0; last_dead = 0; births = new.births; reported = new.reported }

-- an object was reported
pub record NotesDeath (old new : Standing) (object : ℕ) : Type 0 where
  pub reported : new.reported.items ≡ slice_set old.reported.items (object - 1) true
  pub others : new ≡ record old { begun = true; awaited = old.awaited - 1; last_dead = object; reported = new.reported }

-- a class was named; added says whether the name is new
pub record NotesClass (old new : Standing) (number : ℕ) (name : List ℕ) (added : Bool) : Type 0 where
  pub key : Bytes
  pub key_is : key.items ≡ name
  pub added_is : added ≡ not (has_name old.class_names key)
  pub names : (q : Bytes) → has_name new.class_names q ≡ (if bytes_eq key.items q.items then true else has_name old.class_names q)
  pub others : new ≡ record old { begun = true; classes = number; stands = false; awaited = 0; last_dead = 0; class_names = new.class_names }

pub record NotesMethod (old new : Standing) (number class : ℕ) (name descriptor : List ℕ) (added : Bool) : Type 0 where
  pub key : MethodKey
  pub class_is : key.0 ≡ class
  pub name_is : key.1.items ≡ name
  pub descriptor_is : key.2.items ≡ descriptor
  pub added_is : added ≡ not (has_key old.method_names key)
  pub names : (q : MethodKey) → has_key new.method_names q ≡ (if same_method key q then true else has_key old.method_names q)
  pub others : new ≡ record old { begun = true; methods = number; stands = false; awaited = 0; last_dead = 0; method_names = new.method_names }
