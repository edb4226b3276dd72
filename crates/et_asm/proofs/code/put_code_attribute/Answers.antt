use Rattle.std.proofs.Common.{◌≡◌, ◌++◌, ap, ◌∙◌}
use Rattle.et_asm.specs.Code.{code_head, code_tail, code_bytes, catch_count, labels_of, place_behind}
use Rattle.et_asm.proofs.Loops.{chain, on_ok}
use Rattle.et_asm.proofs.code.put_code_attribute.Goals as goal

pub returns : goal.returns
returns c =
    let entries = c.args.symbols.now in
    let body = c.args.body.now in
    let labels = labels_of entries body in
    let head = c.in_ok-put_code_head.ensures ∙ (ap (λ n. c.args.out.now.items ++ code_head c.args.limits n c.catch_count-rows.result) c.in_ok-size.ensures ∙ ap (λ n. c.args.out.now.items ++ code_head c.args.limits (place_behind entries body) n) c.catch_count-rows.ensures.count) in
    let code = c.in_ok-put_code.ensures ∙ ap (λ ls. c.put_code_head.new.out.items ++ code_bytes entries ls body) c.in_ok-labels.ensures in
    on_ok (λ last. chain c.args.out.now.items c.put_code_head.new.out.items c.put_code_tail.new.out.items (code_head c.args.limits (place_behind entries body) (catch_count body)) (code_bytes entries labels body ++ code_tail entries labels body) head
    (chain c.put_code_head.new.out.items c.put_code.new.out.items c.put_code_tail.new.out.items (code_bytes entries labels body) (code_tail entries labels body) code (last ∙ ap (λ ls. c.put_code.new.out.items ++ code_tail entries ls body) c.in_ok-labels.ensures)))
    c.put_code_tail.result c.put_code_tail.ensures
