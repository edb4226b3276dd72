-- A fault of a pool, as one of the class file.
use Rattle.std.specs.Prelude.{ℕ}
use Rattle.et_pool.specs.declared.fault.PoolFault.{PoolFault}
use Rattle.et_pool.specs.declared.fault.PoolFault.TheVariants as pool
use Rattle.et_class.specs.declared.fault.ClassFault.{ClassFault}
use Rattle.et_class.specs.declared.fault.ClassFault.TheVariants as fault
use Rattle.et_class.specs.declared.fault.TheConstants.{POOL, SHORT}

abbrev pub place_in : PoolFault → ℕ
place_in (pool.Tag p) = p
place_in (pool.Utf8 p) = p
place_in (pool.Index p) = p
place_in (pool.Short p) = p
place_in pool.NoMemory = 0

abbrev pub lifted : PoolFault → ClassFault
lifted (pool.Tag p) = fault.At POOL p
lifted (pool.Utf8 p) = fault.At POOL p
lifted (pool.Index p) = fault.At POOL p
lifted (pool.Short p) = fault.At SHORT p
lifted pool.NoMemory = fault.NoMemory
