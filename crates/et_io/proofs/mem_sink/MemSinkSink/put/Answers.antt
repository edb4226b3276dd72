use Rattle.std.proofs.Common.{◌≤◌, sym, ap, subst, ◌∙◌}
use Rattle.et_io.specs.declared.mem_sink.MemSink.TheInside.{Inside}
use Rattle.et_io.proofs.Storing.{stored_failed, stored_lacking, stored_taken}
use Rattle.et_io.proofs.mem_sink.MemSinkSink.put.Goals as goal
use Rattle.et_io.proofs.mem_sink.MemSinkSink.put.Goals.{then-next_call, else-next_call+in-Ok, else-next_call+in-Err}

pub invariant_of-self : goal.invariant_of-self
invariant_of-self c =
    let piece = c.args.piece.now in
    let was = c.self.inside in
    let is = c.if-next_call.self-inside in
    elim c.if-next_call.branch [
      | then-next_call w ↦ (
        subst (λ (s : Inside). 1 ≤ s.most) (sym w.self-inside-is) c.self.invariant.0,
        stored_failed c.if-next_call.answer piece was.taken.items is.taken.items was.puts.items is.puts.items c.then-self-inside.result.items c.self.invariant.1
            (ap (λ (s : Inside). s.puts.items) w.self-inside-is) c.then-self-inside.ensures w.answer-is (ap (λ (s : Inside). s.taken.items) w.self-inside-is),
      )
      | else-next_call+in-Ok w ↦ (
        subst (λ (s : Inside). 1 ≤ s.most) (sym w.self-inside-is) c.self.invariant.0,
        stored_taken c.if-next_call.answer piece was.taken.items is.taken.items was.puts.items is.puts.items c.then-self-inside.result.items c.self.invariant.1
            (ap (λ (s : Inside). s.puts.items) w.self-inside-is) c.then-self-inside.ensures w.min-count.result w.answer-is (ap (λ (s : Inside). s.taken.items) w.self-inside-is ∙ w.in-Ok.ensures.items),
      )
      | else-next_call+in-Err w ↦ (
        subst (λ (s : Inside). 1 ≤ s.most) (sym w.self-inside-is) c.self.invariant.0,
        stored_lacking c.if-next_call.answer piece was.taken.items is.taken.items was.puts.items is.puts.items c.then-self-inside.result.items c.self.invariant.1
            (ap (λ (s : Inside). s.puts.items) w.self-inside-is) c.then-self-inside.ensures w.answer-is (ap (λ (s : Inside). s.taken.items) w.self-inside-is ∙ w.in-Err.ensures.items),
      )
    ]
