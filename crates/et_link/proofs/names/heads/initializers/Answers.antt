use Rattle.std.proofs.Common.{◌≡◌, ◌∙◌, arith, subst, cond, ◌==◌, ◌&&◌, refl, Some, None}
use Rattle.std.specs.List.{slice_index_or}
use Rattle.std.specs.Option.{option_or}
use Rattle.et_program.specs.declared.info.MethodInfo.{MethodInfo}
use Rattle.et_program.proofs.IndexLemmas.{position_step}
use Rattle.et_program.specs.Heads.{is_initializer}
use Rattle.et_link.proofs.names.heads.initializers.Goals as goal

pub loop-i-preserved : goal.loop-i-preserved
loop-i-preserved c =
    let m = c.index-methods-i.result in
    record {
      size = c.put_initializer.ensures.length ∙ c.loop-i.invariant.size;
      found = λ k lt. position_step (λ (x : MethodInfo). (x.class == k) && is_initializer x) c.args.methods.now c.loop-i.i m _ _ _ (omega arith) c.index-methods-i.is refl (c.loop-i.invariant.found k lt)
          (subst (λ n. slice_index_or c.put_initializer.new.found.items k None ≡ option_or (slice_index_or c.loop-i.found.items k None) (cond ((m.class == k) && is_initializer m) (Some n) None)) c.new.ensures
          (c.put_initializer.ensures.found k (omega (arith, c.loop-i.invariant.size))));
    }
