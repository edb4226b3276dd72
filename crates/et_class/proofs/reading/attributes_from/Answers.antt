use Rattle.std.proofs.Common.{◌≡◌, ◌++◌, ◌∷◌, [], map}
use Rattle.std.proofs.lemmas.Result.{err_from_is_err_and}
use Rattle.std.proofs.lemmas.List.{map_push}
use Rattle.et_class.specs.Layout.{attribute_of}
use Rattle.et_class.specs.Reading.{attribute_at}
use Rattle.et_class.specs.Reading.{many_at}
use Rattle.et_class.proofs.Counted.{goes_on, ends, is_done}
use Rattle.et_class.proofs.reading.attributes_from.Goals as goal

pub returns-in_err-attribute : goal.returns-in_err-attribute
returns-in_err-attribute c =
    let p = err_from_is_err_and c.from_residual.result c.from_residual.ensures.1 in
    rw (p.1, p.2) (ends (attribute_at c.args.bytes.now) c.in_err-attribute.field-0.0 (map attribute_of c.loop.attributes.items) c.args.count c.loop.counter c.loop.at (many_at (attribute_at c.args.bytes.now) c.args.count c.args.start) c.loop-test.true c.in_err-attribute.ensures c.loop.invariant)

pub loop-preserved : goal.loop-preserved
loop-preserved c =
    let e : map attribute_of c.push.new.self.items ≡ map attribute_of c.loop.attributes.items ++ attribute_of c.in_ok-attribute.attribute ∷ [] = rw c.in_ok-push.ensures.items (map_push attribute_of c.loop.attributes.items c.in_ok-attribute.attribute) in
    rw e (goes_on (attribute_at c.args.bytes.now) (map attribute_of c.loop.attributes.items) c.args.count c.loop.counter c.loop.at (attribute_of c.in_ok-attribute.attribute) c.in_ok-attribute.after (many_at (attribute_at c.args.bytes.now) c.args.count c.args.start) c.loop-test.true c.in_ok-attribute.ensures c.loop.invariant)

pub returns : goal.returns
returns c = is_done (attribute_at c.args.bytes.now) (map attribute_of c.loop.attributes.items) c.args.count c.loop.counter c.loop.at (many_at (attribute_at c.args.bytes.now) c.args.count c.args.start) c.loop-test.false c.loop.invariant
