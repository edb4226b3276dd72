use Rattle.std.proofs.Common.{arith, refl}
use Rattle.et_binary.proofs.Beginnings.{front_takes, front_none, front_some, unfinished_first, malformed_range, front_by, begun_is_whole}
use Rattle.et_binary.proofs.records.in_range.Goals as goal

pub returns-in_default-clause-none : goal.returns-in_default-clause-none
returns-in_default-clause-none c =
    unfinished_first c.args.bytes.now c.requires.some c.requires.letter
    (front_none (λ x. (x.0, x.1.now)) c.args.found c.args.bytes.now c.requires.found c.in_default.is)

pub is_in_range-requires : goal.is_in_range-requires
is_in_range-requires c =
    let some = front_some (λ x. (x.0, x.1.now)) c.args.found (c.in-Some.line, c.in-Some.behind) c.args.bytes.now c.requires.found c.in-Some.is in
    (front_takes c.args.bytes.now (c.in-Some.line, c.in-Some.behind.now) (λ i. omega (arith, c.type_inv.bytes i)) some).packed

pub returns-then-not-is_in_range-clause-form : goal.returns-then-not-is_in_range-clause-form
returns-then-not-is_in_range-clause-form c = λ e.
    let some = front_some (λ x. (x.0, x.1.now)) c.args.found (c.in-Some.line, c.in-Some.behind) c.args.bytes.now c.requires.found c.in-Some.is in
    malformed_range c.args.bytes.now c.in-Some.line c.in-Some.behind.now (front_takes c.args.bytes.now (c.in-Some.line, c.in-Some.behind.now) (λ i. omega (arith, c.type_inv.bytes i)) some) (λ r. absurd (let both = c.if-not-is_in_range.ensures.1 r in cc))

pub returns-clause-found : goal.returns-clause-found
returns-clause-found c =
    let some = front_some (λ x. (x.0, x.1.now)) c.args.found (c.in-Some.line, c.in-Some.behind) c.args.bytes.now c.requires.found c.in-Some.is in
    front_by c.args.bytes.now c.in-Some.line c.in-Some.behind.now (front_takes c.args.bytes.now (c.in-Some.line, c.in-Some.behind.now) (λ i. omega (arith, c.type_inv.bytes i)) some) (c.if-not-is_in_range.ensures.0 refl)

pub returns-then-not-is_in_range-clause-early : goal.returns-then-not-is_in_range-clause-early
returns-then-not-is_in_range-clause-early c = λ u.
    let some = front_some (λ x. (x.0, x.1.now)) c.args.found (c.in-Some.line, c.in-Some.behind) c.args.bytes.now c.requires.found c.in-Some.is in
    absurd (begun_is_whole c.in-Some.line c.in-Some.behind.now c.args.bytes.now (front_takes c.args.bytes.now (c.in-Some.line, c.in-Some.behind.now) (λ i. omega (arith, c.type_inv.bytes i)) some) u)
