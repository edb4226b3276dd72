-- Which classes can be spelled: each number fits the bytes that it has (JVMS 4.1, 4.4, 4.5, 4.7).
use Rattle.std.specs.Prelude.{◌≡◌, ℕ, ◌<◌, ◌≤◌, ◌^◌, List, length, All, Option}
use Rattle.et_pool.specs.Entries.{Item, slots_of}
use Rattle.et_pool.specs.Spelling.{IsEntry}
use Rattle.et_class.specs.Layout.{AttributeOf, MemberOf, ClassOf, class_bytes}

pub record IsAttribute (a : AttributeOf) : Type 0 where
  pub name : a.name < 2 ^ 16
  pub body : length a.body < 2 ^ 32

-- a list behind a count of two bytes
pub record IsCounted {X : Type 0} (Each : X → Type 0) (xs : List X) : Type 0 where
  pub few : length xs < 2 ^ 16
  pub each : All Each xs

pub record IsMember (m : MemberOf) : Type 0 where
  pub flags : m.flags < 2 ^ 16
  pub name : m.name < 2 ^ 16
  pub descriptor : m.descriptor < 2 ^ 16
  pub attributes : IsCounted IsAttribute m.attributes

-- the slots of a pool are those of entries that can be spelled
pub record ArePoolSlots (slots : List (Option Item)) : Type 0 where
  pub entries : List Item
  pub are_entries : All IsEntry entries
  pub few : length slots < 2 ^ 16
  pub slots_are : slots ≡ slots_of entries

pub record IsIndex (n : ℕ) : Type 0 where
  pub fits : n < 2 ^ 16

pub record CanBeSpelled (c : ClassOf) : Type 0 where
  pub minor : c.minor < 2 ^ 16
  pub lowest : 45 ≤ c.major
  pub highest : c.major ≤ 52
  pub slots : ArePoolSlots c.slots
  pub flags : c.flags < 2 ^ 16
  pub this : c.this < 2 ^ 16
  pub super : c.super < 2 ^ 16
  pub interfaces : IsCounted IsIndex c.interfaces
  pub fields : IsCounted IsMember c.fields
  pub methods : IsCounted IsMember c.methods
  pub attributes : IsCounted IsAttribute c.attributes

-- the bytes are those of the class, in order, and nothing else
pub record IsClassSpelled (bytes : List ℕ) (c : ClassOf) : Type 0 where
  pub can_be : CanBeSpelled c
  pub bytes_are : bytes ≡ class_bytes c
