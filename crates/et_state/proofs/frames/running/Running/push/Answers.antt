use Rattle.std.proofs.Common.{[], refl, sym, take, reverse, arith}
use Rattle.std.proofs.lemmas.List.{append-nil}
use Rattle.et_state.specs.StackInside.{frames_in}
use Rattle.et_state.specs.Threads.{pushed}
use Rattle.et_state.proofs.Runs.{IsRead, reads, moved, run_pushed}
use Rattle.et_state.proofs.frames.running.Running.push.Goals as goal

pub index_mut-requires : goal.index_mut-requires
index_mut-requires c =
    let is : IsRead c.self.inside.base c.self.inside.floor c.self.inside.top c.self.inside.limit c.self.inside.values.items c.args.self.now = reads c.self.inside c.self.invariant c.args.self.now c.self.view_is in
    omega (arith, is.operands, is.room, is.few, is.fits, c.requires)

pub invariant_of-self : goal.invariant_of-self
invariant_of-self c =
    let r = c.self.invariant in
    record { head = r.head; below = r.below; heads = r.heads; stacked = (run_pushed c.self.inside c.self.invariant c.args.self.now c.self.view_is c.args.v c.requires).stands; base = r.base; floor = r.floor; limit = r.limit; narrow = r.narrow }

pub returns : goal.returns
returns c =
    moved (pushed c.args.v) (frames_in (reverse c.self.inside.heads.items) (take c.self.inside.top c.self.inside.values.items)) _ c.self.inside.pc c.self.inside.lost _ [] c.args.self.now (λ f. refl) c.self.view_is (run_pushed c.self.inside c.self.invariant c.args.self.now c.self.view_is c.args.v c.requires).view (sym (append-nil c.self.inside.lost))
