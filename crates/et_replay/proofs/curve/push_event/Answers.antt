use Rattle.std.proofs.Common.{◌≡◌, ◌≢◌, ◌<◌, ◌-◌, ℕ, List, length, get_or, sym, ◌∙◌, arith}
use Rattle.et_replay.proofs.Eventful.{no_row, new_row, same_row, read_last}
use Rattle.et_replay.proofs.curve.push_event.Goals as goal
use Rattle.et_replay.proofs.curve.push_event.Goals.{then-count-eq0-via-then-count-eq0, then-count-eq0-via-else-count-eq0+then-index-event}

pub returns-in_default : goal.returns-in_default
returns-in_default c = λ past is. no_row past c.args.line.now c.args.events.now.items (let n = c.in_default.is in sym c.happens_at.ensures ∙ n) is

pub returns-in_ok-push : goal.returns-in_ok-push
returns-in_ok-push c = λ past is.
    let es : List ℕ = c.args.events.now.items in
    let e = c.in-Some.event in
    let long : c.len-count.result ≡ length es = omega (arith, c.len-count.ensures, c.args.events.now.ok.0) in
    let differs : 0 < length es → get_or es (length es - 1) 0 ≢ e = λ some. elim c.then-count-eq0.branch [
      | then-count-eq0-via-then-count-eq0 w ↦ absurd (omega (arith, w.if-count-eq0.true, long, some))
      | then-count-eq0-via-else-count-eq0+then-index-event w ↦ (λ same. w.if-index-event.true (sym (read_last es c.len-count.result w.index.result.now long some w.index.ensures) ∙ same))
    ] in
    new_row past c.args.line.now es c.push.new.self.items e (sym c.in-Some.ensures) is differs c.in_ok-push.ensures.items

pub returns-else-index-event : goal.returns-else-index-event
returns-else-index-event c = λ past is.
    let es : List ℕ = c.args.events.now.items in
    let long : c.len-count.result ≡ length es = omega (arith, c.len-count.ensures, c.args.events.now.ok.0) in
    let some : 0 < length es = omega (arith, c.if-count-eq0.false, long) in
    same_row past c.args.line.now es c.in-Some.event (sym c.in-Some.ensures) is some (read_last es c.len-count.result c.index.result.now long some c.index.ensures ∙ c.if-index-event.false)
