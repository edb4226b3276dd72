use Rattle.std.proofs.Common.{◌≡◌, arith, ap, subst, cond, Some, None}
use Rattle.std.specs.List.{slice_index_or}
use Rattle.std.specs.Option.{option_or}
use Rattle.et_program.specs.Members.{is_base_array}
use Rattle.et_program.specs.Entries.{ClassEntry, ClassInfoOf}
use Rattle.et_program.proofs.IndexLemmas.{position_step}
use Rattle.et_program.proofs.tables.indices.index_base_arrays.Goals as goal

pub loop-i-preserved : goal.loop-i-preserved
loop-i-preserved c = record {
  size = c.put_base_array.ensures.length;
  places = λ kind lt. position_step (λ (x : ClassEntry). is_base_array kind x.info.element) c.args.classes.now c.loop-i.i c.index-classes-i.result _ _ _ (omega arith) c.index-classes-i.is
      (ap (is_base_array kind) (ap (λ (x : ClassInfoOf). x.element) c.info.ensures)) (c.loop-i.invariant.places kind lt) (subst (λ n. slice_index_or c.put_base_array.new.arrays.items kind None ≡ option_or (slice_index_or c.loop-i.arrays.items kind None) (cond (is_base_array kind c.info.result.now.element) (Some n) None)) c.new.ensures (c.put_base_array.ensures.places kind lt));
}
