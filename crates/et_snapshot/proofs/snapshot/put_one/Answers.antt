use Rattle.std.proofs.Common.{◌≡◌, ◌∙◌, ◌-◌, ◌<◌, ◌++◌, ◌∷◌, [], List, ℕ, Some, length, get_or, sym, ap, subst, append_assoc, arith}
use Rattle.std.specs.Prelude.{codes}
use Rattle.std.specs.List.{flat_map}
use Rattle.std.proofs.lemmas.List.{get_or-map}
use Rattle.std.proofs.lemmas.Result.{on_err_weaker}
use Rattle.et_io.specs.Sink.{TakesPrefix}
use Rattle.et_io.proofs.Taking.{none_put}
use Rattle.et_text.specs.Spelling.{number_field}
use Rattle.et_snapshot.specs.Heap.{body_of, lists_of, row_of, object_row, rows_of}
use Rattle.et_snapshot.proofs.snapshot.put_one.Goals as goal

pub returns-in_default-clause-err : goal.returns-in_default-clause-err
returns-in_default-clause-err g c = none_put (g.O.Sink.taken c.args.sink.now) (c.args.text.now.items ++ rows_of (lists_of c.args.names.now) (c.args.object, body_of c.args.seen.now))

pub returns-clause-err : goal.returns-clause-err
returns-clause-err g c =
    let names = c.args.names.now in
    let seen = c.args.seen.now in
    let text = c.args.text.now.items in
    let old = g.O.Sink.taken c.args.sink.now in
    let new = g.O.Sink.taken c.put_slots.new.sink in
    let class = c.requires.class in
    let within : seen.class - 1 < length names = (let low = class.0 in let high = class.1 in omega (arith, low, high)) in
    let name : c.as_slice-name.result.now ≡ get_or (lists_of names) (seen.class - 1) [] =
    c.as_slice-name.ensures.value ∙ (ap (λ v. v.items) c.index-names-seen.is ∙ sym (get_or-map (λ v. v.items) names (seen.class - 1) c.index-names-seen.result [] within)) in
    let row = object_row (lists_of names) (c.args.object, body_of seen) in
    let slots = flat_map (row_of (Some c.args.object)) seen.slots.entries in
    let put : c.put_object.new.text.items ≡ text ++ row = c.in-Ok.ensures ∙ ap (λ (n : List ℕ). text ++ (codes "o" ++ number_field c.args.object ++ n ++ number_field seen.size ++ 10 ∷ [])) name in
    on_err_weaker c.put_slots.result (λ (b : TakesPrefix old new (c.put_object.new.text.items ++ slots)). subst (λ (t : List ℕ). TakesPrefix old new t) (ap (λ (t : List ℕ). t ++ slots) put ∙ append_assoc text row slots) b) c.put_slots.ensures.err
