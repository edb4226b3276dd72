use Rattle.std.proofs.Common.{◌≡◌, ℕ, ◌-◌, ◌<◌, List, Ok, refl, ap, ◌∙◌, arith}
use Rattle.std.specs.Int.{w16}
use Rattle.et_pool.specs.Entries.{view_slots}
use Rattle.std.proofs.lemmas.Result.{err_from_is_err_and}
use Rattle.et_pool.specs.declared.fault.PoolFault.{PoolFault}
use Rattle.et_pool.specs.declared.fault.PoolFault.TheVariants as fault
use Rattle.et_pool.specs.Reading.{pool_number, IsPoolFaultOf}
use Rattle.et_pool.specs.Pools.{IsPool, BreaksEntries, BreaksPool, NoCount, InEntry}
use Rattle.et_pool.proofs.Spelled.{pool_end}
use Rattle.et_pool.proofs.Shorts.{pool_short}
use Rattle.et_pool.proofs.reading.read_pool.Goals as goal

entry_broken : (bytes : List ℕ) (at count start : ℕ) (f : PoolFault) → pool_number w16 bytes at ≡ Ok (count, start) → 0 < count → IsPoolFaultOf f (BreaksEntries bytes (count - 1) start) → IsPoolFaultOf f (BreaksPool bytes at)
entry_broken bytes at count start (fault.Tag p) h some b = InEntry count start h some b
entry_broken bytes at count start (fault.Utf8 p) h some b = InEntry count start h some b
entry_broken bytes at count start (fault.Index p) h some b = b
entry_broken bytes at count start (fault.Short p) h some b = InEntry count start h some b
entry_broken bytes at count start fault.NoMemory h some b = tt

pub returns-then-count-eq0 : goal.returns-then-count-eq0
returns-then-count-eq0 c = NoCount c.in_ok-count.start (c.in_ok-count.ensures ∙ ap (λ (n : ℕ). Ok (n, c.in_ok-count.start)) c.if-count-eq0.true) refl

pub returns-in_err-slots : goal.returns-in_err-slots
returns-in_err-slots c =
    let p = err_from_is_err_and c.from_residual-in_err-slots.result c.from_residual-in_err-slots.ensures.1 in
    rw (p.1, p.2) (entry_broken c.args.bytes.now c.args.at c.in_ok-count.count c.in_ok-count.start c.in_err-slots.field-0.0 c.in_ok-count.ensures (omega arith) c.in_err-slots.ensures)

pub invariant_of-result : goal.invariant_of-result
invariant_of-result c =
    let p : IsPool c.args.bytes.now c.args.at (view_slots c.in_ok-slots.slots.items) c.in_ok-slots.after = record { count = c.in_ok-count.count; start = c.in_ok-count.start; counted = c.in_ok-count.ensures; some = omega arith; filled = c.in_ok-slots.ensures } in
    let after = pool_end c.args.bytes.now c.args.at (view_slots c.in_ok-slots.slots.items) c.in_ok-slots.after (λ i. (c.type_inv.bytes i).fits) p in
    (omega (arith, after), pool_short c.args.bytes.now c.args.at (view_slots c.in_ok-slots.slots.items) c.in_ok-slots.after (λ i. (c.type_inv.bytes i).fits) p)
