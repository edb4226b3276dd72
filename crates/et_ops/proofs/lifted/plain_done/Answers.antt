use Rattle.std.proofs.Common.{◌≡◌, ℕ, List, true, false, sym, ap, subst, ◌∙◌}
use Rattle.et_state.specs.Running.{RunningState}
use Rattle.et_state.specs.State.{MachineState}
use Rattle.et_state.specs.Words.{begun, losing}
use Rattle.et_event.specs.Sites.{Site}
use Rattle.et_ops.specs.declared.ends.PlainEnd.{PlainEnd}
use Rattle.et_ops.specs.Plain.{DoesPlain, is_done}
use Rattle.et_ops.proofs.Ending.{plain_back, plain_led}
use Rattle.et_ops.proofs.Lifting.{landed, lifted}
use Rattle.et_ops.proofs.lifted.plain_done.Goals as goal
use Rattle.et_ops.proofs.lifted.plain_done.Goals.{then-is_done, else-is_done}

pub returns : goal.returns
returns c =
    let m : MachineState = c.args.machine.now in
    let t : ℕ = c.args.thread in
    let at : Site = c.args.place.now.site in
    let end : PlainEnd = c.plain_step-end.result in
    let r : RunningState = c.lift-running.result in
    let r' : RunningState = c.plain_step-end.new.running in
    elim c.if-is_done.branch [
      | then-is_done w ↦
          let done : is_done end ≡ true = sym c.is_done.ensures ∙ w.if-is_done.true in
          let is : c.land.new.self ≡ landed (losing (begun (lifted m t)) r'.lost) t r' =
          c.land.ensures ∙ ap (λ (n : MachineState). landed n t r') (w.machine-is ∙ (w.lose_each.ensures ∙ (ap (λ (n : MachineState). losing n w.lost.result.now) (w.begin_event.ensures ∙ ap begun c.lift-running.ensures.new) ∙ ap (λ (os : List ℕ). losing (begun (lifted m t)) os) w.lost.ensures.value))) in
          subst (λ (n : MachineState). DoesPlain at c.args.place.now.row end t m n) (sym is)
          (plain_led m t at c.args.place.now.row r r' c.requires.frame c.lift-running.ensures.frame c.lift-running.ensures.below end done c.requires.sound c.plain_step-end.ensures)
      | else-is_done w ↦
          let undone : is_done end ≡ false = sym c.is_done.ensures ∙ w.if-is_done.false in
          let is : c.land.new.self ≡ landed (lifted m t) t r' = c.land.ensures ∙ ap (λ (n : MachineState). landed n t r') (w.machine-is ∙ c.lift-running.ensures.new) in
          subst (λ (n : MachineState). DoesPlain at c.args.place.now.row end t m n) (sym is)
          (plain_back m t at c.args.place.now.row r r' c.requires.frame c.lift-running.ensures.frame c.lift-running.ensures.below end undone c.plain_step-end.ensures)
    ]
