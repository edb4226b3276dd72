use Rattle.std.proofs.Common.{◌≡◌, ℕ, ◌+◌, ◌<◌, Bool, List, length, Option, Some, None, sym, ap, ◌∙◌, arith}
use Rattle.std.specs.Prelude.{if◌then◌else◌, slice_set}
use Rattle.std.proofs.lemmas.Bool.{lt-ltb}
use Rattle.std.proofs.lemmas.List.{length-set}
use Rattle.et_flow.specs.declared.types.EntryType.{EntryType}
use Rattle.et_flow.specs.declared.types.EntryType.TheVariants.{Long, LongHigh}
use Rattle.et_flow.specs.Stores.{without_lower, without_upper, long_set}
use Rattle.et_flow.proofs.Stores.{both_cut}
use Rattle.et_flow.proofs.Held.{length-spread}
use Rattle.et_flow.proofs.locals.Locals.set_long.Goals as goal

pub returns-then-i-self-clause-none : goal.returns-then-i-self-clause-none
returns-then-i-self-clause-none c = λ e. omega (arith, c.if-i-self.true, ap length c.self.view_is, length-spread c.self.inside.count c.self.inside.held.items)

pub put-requires : goal.put-requires
put-requires c = omega (arith, c.if-i-self.false, ap length c.self.view_is, length-spread c.self.inside.count c.self.inside.held.items, (both_cut c.args.i (c.args.i + 1) c.args.self.now c.without_lower.new.self c.without_upper.new.self c.in_ok-without_lower.ensures c.in_ok-without_upper.ensures).1)

pub put-requires-2 : goal.put-requires-2
put-requires-2 c = omega (arith, c.if-i-self.false, ap length c.self.view_is, length-spread c.self.inside.count c.self.inside.held.items, (both_cut c.args.i (c.args.i + 1) c.args.self.now c.without_lower.new.self c.without_upper.new.self c.in_ok-without_lower.ensures c.in_ok-without_upper.ensures).1, ap length c.in_ok-put.ensures, length-set c.without_upper.new.self c.args.i Long)

pub returns-clause-written : goal.returns-clause-written
returns-clause-written c = λ e.
    let i : ℕ = c.args.i in
    let was : List EntryType = c.args.self.now in
    let kept = (both_cut c.args.i (c.args.i + 1) c.args.self.now c.without_lower.new.self c.without_upper.new.self c.in_ok-without_lower.ensures c.in_ok-without_upper.ensures).0 in
    let one : c.put.new.self ≡ slice_set (without_upper (i + 1) (without_lower i was)) i Long = c.in_ok-put.ensures ∙ ap (λ (xs : List EntryType). slice_set xs i Long) kept in
    let now : c.put-2.new.self ≡ long_set i was = c.in_ok-put-2.ensures ∙ ap (λ (xs : List EntryType). slice_set xs (i + 1) LongHigh) one in
    let lt : i + 1 < length was = omega (arith, c.if-i-self.false, ap length c.self.view_is, length-spread c.self.inside.count c.self.inside.held.items) in
    ap (λ (b : Bool). let o : Option (List EntryType) = if b then Some (long_set i was) else None in o) (lt-ltb (i + 1) (length was) lt) ∙ ap (λ (xs : List EntryType). let o : Option (List EntryType) = Some xs in o) (sym now)
