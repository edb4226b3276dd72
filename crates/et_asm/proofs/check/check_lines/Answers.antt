use Rattle.std.proofs.Common.{◌+◌, ◌-◌, ◌∷◌, [], ap, ◌∙◌, length, take, None}
use Rattle.et_base.specs.Marks.{marked, first_from, mark}
use Rattle.et_asm.specs.declared.fault.TheConstants.{ORDER}
use Rattle.et_asm.specs.Along.{along_lines}
use Rattle.et_asm.specs.Order.{is_finished}
use Rattle.et_asm.specs.Listings.{is_interface_line, is_field_line, is_method_line, line_marks, end_mark}
use Rattle.et_asm.proofs.Taken.{rest_is}
use Rattle.et_asm.proofs.Stages.{stage_more, stage_all, count_more, few_more}
use Rattle.et_asm.proofs.Marked.{loop_more, loop_end, marks_more, marks_none}
use Rattle.et_asm.proofs.Checked.{line_step, few_is, mark_then}
use Rattle.et_asm.proofs.check.check_lines.Goals as goal

pub loop-i-preserved : goal.loop-i-preserved
loop-i-preserved c =
    let entries = c.args.symbols.now in
    let lines = c.args.lines.now in
    let i = c.loop-i.i in
    let p = c.index-lines-i.result in
    let lt = c.loop-i-test.true in
    let is = c.index-lines-i.is in
    let interfaces = count_more is_interface_line lines i p c.loop-i.counts.interfaces c.with-counts.result.interfaces lt is c.with-counts.ensures.interfaces c.loop-i.invariant.interfaces in
    let fields = count_more is_field_line lines i p c.loop-i.counts.fields c.with-counts.result.fields lt is c.with-counts.ensures.fields c.loop-i.invariant.fields in
    let methods = count_more is_method_line lines i p c.loop-i.counts.methods c.with-counts.result.methods lt is c.with-counts.ensures.methods c.loop-i.invariant.methods in
    let few = few_is (take (i + 1) lines) _ _ _ c.are_few.result c.are_few.ensures interfaces fields methods in
    record {
      found = loop_more (line_marks entries) lines i p c.loop-i.found c.in_ok-found.found _ lt is
          (c.in_ok-found.ensures ∙ ap (first_from c.loop-i.found) (line_step entries lines i p c.loop-i.stage c.are_few.result _ lt is c.loop-i.invariant.stage few (rest_is lines i)))
          c.loop-i.invariant.found;
      stage = stage_more lines i p c.loop-i.stage c.step-stage.result lt is c.step-stage.ensures c.loop-i.invariant.stage;
      interfaces = interfaces;
      fields = fields;
      methods = methods;
      few_interfaces = few_more c.loop-i.counts.interfaces c.with-counts.result.interfaces i (is_interface_line p.line) c.with-counts.ensures.interfaces c.loop-i.invariant.few_interfaces;
      few_fields = few_more c.loop-i.counts.fields c.with-counts.result.fields i (is_field_line p.line) c.with-counts.ensures.fields c.loop-i.invariant.few_fields;
      few_methods = few_more c.loop-i.counts.methods c.with-counts.result.methods i (is_method_line p.line) c.with-counts.ensures.methods c.loop-i.invariant.few_methods;
    }

pub returns : goal.returns
returns c =
    let entries = c.args.symbols.now in
    let lines = c.args.lines.now in
    let i = c.loop-i.i in
    let found = loop_end (line_marks entries) lines i c.loop-i.found _ c.loop-i-test.false c.loop-i.invariant.found in
    let stage = stage_all lines i c.loop-i.stage c.loop-i-test.false c.loop-i.invariant.stage in
    let end = end_mark lines in
    c.mark.ensures
    ∙ (ap (λ b. marked c.loop-i.found (mark (length lines + 1) ORDER b)) (c.is_finished.ensures ∙ ap is_finished stage)
    ∙ (ap (λ f. marked f end) found
    ∙ (marks_none (marked (first_from None (along_lines (line_marks entries) lines)) end)
    ∙ (mark_then (first_from None (along_lines (line_marks entries) lines)) end []
    ∙ marks_more None (along_lines (line_marks entries) lines) (end ∷ [])))))
