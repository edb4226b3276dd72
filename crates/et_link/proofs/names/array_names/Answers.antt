use Rattle.std.proofs.Common.{◌∙◌, ap, sym, arith, List, ℕ, [], cond, take}
use Rattle.et_program.specs.Indices.{number_of_name}
use Rattle.et_program.specs.ArrayTypes.{with_element_types, is_type_known, names_added, array_names}
use Rattle.et_link.proofs.NameLemmas.{names_more}
use Rattle.et_link.proofs.names.array_names.Goals as goal

pub loop-name-preserved : goal.loop-name-preserved
loop-name-preserved c = record {
  first = c.in_ok-add_if_known.ensures.first ∙ c.loop-name.invariant.first;
  names =
      c.in_ok-add_if_known.ensures.names
      ∙ (ap (λ l. names_added l (cond (is_type_known (number_of_name c.args.places.now) c.as_slice.result.now) (with_element_types c.as_slice.result.now) [])) c.loop-name.invariant.names
      ∙ (ap (λ (x : List ℕ). names_added (array_names (number_of_name c.args.places.now) (take c.loop-name.name-index c.args.met.now)) (cond (is_type_known (number_of_name c.args.places.now) x) (with_element_types x) [])) c.as_slice.ensures
      ∙ sym (names_more (number_of_name c.args.places.now) c.args.met.now c.loop-name.name-index c.name-item.result (omega arith) c.name-item.is)));
  index = c.in_ok-add_if_known.ensures.index;
}
