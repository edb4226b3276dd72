use Rattle.std.proofs.Common.{◌≡◌, ◌+◌, cond, Bool, refl, ap, ◌∙◌, get_or, rules}
use Rattle.std.proofs.Math.Path.{fun_ext}
use Rattle.et_base.specs.Marks.{first_from}
use Rattle.et_asm.specs.Code.{labels_of, is_catch}
use Rattle.et_asm.specs.Listings.{body_marks_at}
use Rattle.et_asm.specs.Symbols.{places}
use Rattle.et_asm.proofs.Stages.{place_more, count_more, few_more}
use Rattle.et_asm.proofs.Places.{labels_more, labels_none}
use Rattle.et_asm.proofs.Marked.{loop_more, loop_end}
use Rattle.et_asm.proofs.Checked.{body_step}
use Rattle.et_asm.proofs.check.check_body.Goals as goal

pub loop-i-init : goal.loop-i-init
loop-i-init c = record {
  found = refl;
  seen = λ q. ap (λ es. places es q) c.new-seen.ensures.empty ∙ labels_none c.args.symbols.now q;
  at = refl;
  catches = refl;
  few = search rules;
}

pub loop-i-preserved : goal.loop-i-preserved
loop-i-preserved c =
    let entries = c.args.symbols.now in
    let body = c.args.body.now in
    let labels = labels_of entries body in
    let i = c.loop-i.i in
    let p = get_or body i c.index-body-i.result in
    let lt = c.loop-i-test.true in
    let is = ap (get_or body i) c.index-body-i.is in
    let end = place_more entries body i p c.loop-i.at c.in_ok-end.end lt is c.in_ok-end.ensures c.loop-i.invariant.at in
    let one : c.from-catches.result ≡ cond c.is_catch.result 1 0 = search rules in
    let caught = ap (λ n. c.loop-i.catches + n) (one ∙ ap (λ (b : Bool). cond b 1 0) c.is_catch.ensures) in
    let catches = count_more is_catch body i p c.loop-i.catches _ lt is caught c.loop-i.invariant.catches in
    record {
      found = loop_more (body_marks_at entries labels c.args.number) body i p c.loop-i.found c.check_body_line-found.result _ lt is
          (c.check_body_line-found.ensures ∙ ap (first_from c.loop-i.found)
          (body_step entries body (places c.in_ok-labels.labels.entries) labels (places c.loop-i.seen.entries) c.args.number i p c.loop-i.at c.in_ok-end.end _ lt is c.in_ok-labels.ensures (fun_ext c.loop-i.invariant.seen) c.loop-i.invariant.at end catches))
          c.loop-i.invariant.found;
      seen = labels_more entries body i p c.loop-i.at c.loop-i.seen.entries c.define.new.labels.entries lt is c.loop-i.invariant.at c.in_ok-define.ensures c.loop-i.invariant.seen;
      at = end;
      catches = catches;
      few = few_more c.loop-i.catches _ i (is_catch p.line) caught c.loop-i.invariant.few;
    }

pub returns : goal.returns
returns c = loop_end (body_marks_at c.args.symbols.now (labels_of c.args.symbols.now c.args.body.now) c.args.number) c.args.body.now c.loop-i.i c.loop-i.found _ c.loop-i-test.false c.loop-i.invariant.found
