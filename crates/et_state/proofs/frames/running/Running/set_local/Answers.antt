use Rattle.std.proofs.Common.{◌≡◌, ◌++◌, take, reverse, refl, sym, ap, ◌∙◌, arith}
use Rattle.std.proofs.lemmas.List.{get_or_read}
use Rattle.et_base.specs.declared.value.Value.TheVariants.{Unset}
use Rattle.et_heap.specs.Refs.{refs_of_value}
use Rattle.et_state.specs.StackInside.{frames_in}
use Rattle.et_state.specs.Threads.{local_of, with_local}
use Rattle.et_state.proofs.Runs.{IsRead, reads, moved, run_local}
use Rattle.et_state.proofs.frames.running.Running.set_local.Goals as goal

pub returns-clause-new : goal.returns-clause-new
returns-clause-new c =
    let is : IsRead c.self.inside.base c.self.inside.floor c.self.inside.top c.self.inside.limit c.self.inside.values.items c.args.self.now = reads c.self.inside c.self.invariant c.args.self.now c.self.view_is in
    let old : c.index-old.result.now ≡ local_of c.args.self.now.frame c.args.i = get_or_read c.self.inside.values.items _ c.index-old.result.now (omega (arith, is.locals, is.operands, is.few, is.fits, c.requires.local)) c.index-old.ensures Unset ∙ sym (is.local c.args.i c.requires.local) in
    let lost : c.add_value.new.self ≡ c.self.inside.lost ++ refs_of_value (local_of c.args.self.now.frame c.args.i) = c.add_value.ensures.new ∙ ap (λ u. c.self.inside.lost ++ refs_of_value u) old in
    moved (with_local c.args.i c.args.v) (frames_in (reverse c.self.inside.heads.items) (take c.self.inside.top c.self.inside.values.items)) _ c.self.inside.pc c.self.inside.lost c.add_value.new.self (refs_of_value (local_of c.args.self.now.frame c.args.i)) c.args.self.now (λ f. refl) c.self.view_is (run_local c.self.inside c.self.invariant c.args.self.now c.self.view_is c.args.i c.args.v c.requires.local).view lost
