-- The pools that stand in the table as bytes.
use Rattle.std.specs.Prelude.{List, Option, length}
use Rattle.et_pool.specs.Entries.{Item}
use Rattle.et_pool.specs.Pools.{IsPool}
use Rattle.et_boot.specs.Classes.{BootClassOf}

-- the bytes of a class are a pool, whole
pub record HasPool (c : BootClassOf) : Type 0 where
  pub slots : List (Option Item)
  pub read : IsPool c.pool 0 slots (length c.pool)
