use Rattle.std.proofs.Common.{◌∙◌, ap, ℕ, List, []}
use Rattle.std.specs.List.{slice_index_or}
use Rattle.et_program.specs.declared.info.FieldInfo.{FieldInfo}
use Rattle.et_program.specs.declared.info.MethodInfo.{MethodInfo}
use Rattle.et_program.specs.Slots.{placed_behind, places_from, is_static_field}
use Rattle.et_program.specs.ProgramOf.{is_of_file}
use Rattle.et_link.proofs.LinkingLemmas.{parts_are}
use Rattle.et_link.proofs.linking.assemble.Goals as goal

pub returns : goal.returns
returns c =
    parts_are c.in_ok-classes.classes.items _ c.args.parts.methods.items c.in_ok-fields.fields.items _ c.in_ok-statics.statics.items _ c.in_ok-file_methods.file_methods.items _ c.args.main c.args.parts.pools.items c.in_ok-program.program
    c.in_ok-program.ensures c.in_ok-classes.ensures
    (c.in_ok-fields.ensures ∙ ap (λ (l : List ℕ). placed_behind (λ k. slice_index_or l k 0) [] c.args.parts.fields.items) c.as_slice-2.ensures.value)
    (c.in_ok-statics.ensures ∙ ap (λ (l : List FieldInfo). places_from is_static_field 0 l) c.as_slice.ensures.value)
    (c.in_ok-file_methods.ensures ∙ ap (λ (l : List MethodInfo). places_from is_of_file 0 l) c.as_slice-3.ensures.value)
