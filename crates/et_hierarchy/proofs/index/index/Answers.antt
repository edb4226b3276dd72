use Rattle.std.proofs.Common.{◌≡◌, ◌<◌, length, is_some, sym, ◌∙◌, ap, take, arith, below_more}
use Rattle.std.proofs.lemmas.List.{take_all}
use Rattle.et_base.proofs.Options.{is_none}
use Rattle.et_hierarchy.specs.Outline.{class_place}
use Rattle.et_hierarchy.specs.Faults.{IsRepeated}
use Rattle.et_hierarchy.proofs.Names.{first_repeat, repeats_not}
use Rattle.et_hierarchy.proofs.Maps.{indexed_under}
use Rattle.et_hierarchy.proofs.EntryLemmas.{read_outline}
use Rattle.et_hierarchy.proofs.index.index.Goals as goal

pub returns-then-contains_key : goal.returns-then-contains_key
returns-then-contains_key c =
    let lt : c.loop-i.i < length c.args.set.now = omega arith in
    let name = c.name-name.ensures ∙ ap (λ o. o.name) (read_outline c.args.set.now c.loop-i.i _ lt c.index-set-i.is) in
    first_repeat c.args.set.now c.loop-i.i c.name-name.result.now lt name (ap is_some (sym (c.loop-i.invariant.indexed c.name-name.result.now)) ∙ (sym c.contains_key.ensures ∙ c.if-contains_key.true)) c.loop-i.invariant.apart

pub loop-i-preserved : goal.loop-i-preserved
loop-i-preserved c =
    let lt : c.loop-i.i < length c.args.set.now = omega arith in
    let name = c.name-name.ensures ∙ ap (λ o. o.name) (read_outline c.args.set.now c.loop-i.i _ lt c.index-set-i.is) in
    let none = is_none _ (ap is_some (sym (c.loop-i.invariant.indexed c.name-name.result.now)) ∙ (sym c.contains_key.ensures ∙ c.if-contains_key.false)) in
    record {
      indexed = indexed_under c.args.set.now c.loop-i.i c.name-name.result.now c.in_ok-from_slice.field-0 c.loop-i.places c.insert.new.self lt name none c.loop-i.invariant.indexed (c.in_ok-from_slice.ensures.items) c.in_ok-insert.ensures.updates;
      apart = below_more (λ k. IsRepeated c.args.set.now k → ⊥) _ c.loop-i.invariant.apart (repeats_not c.args.set.now c.loop-i.i c.name-name.result.now lt name none);
    }

pub returns : goal.returns
returns c =
    let all : take c.loop-i.i c.args.set.now ≡ c.args.set.now = take_all c.loop-i.i c.args.set.now (omega arith) in (
      λ name. c.loop-i.invariant.indexed name ∙ ap (λ s. class_place s name) all,
      λ k lt. c.loop-i.invariant.apart k (omega arith),
    )
