use Rattle.std.proofs.Common.{List, map, subst, ap, ◌∙◌}
use Rattle.std.specs.List.{position_from}
use Rattle.et_program.specs.declared.info.MethodInfo.{MethodInfo}
use Rattle.et_program.specs.declared.info.FieldInfo.{FieldInfo}
use Rattle.et_program.specs.Entries.{ClassEntry}
use Rattle.et_program.specs.Members.{is_base_array}
use Rattle.et_program.specs.Order.{class_key, method_key, field_key, IsOrder}
use Rattle.et_class.specs.Entries.{Constants}
use Rattle.et_program.specs.Shapes.{AreShaped}
use Rattle.et_program.specs.Signatures.{signature_of}
use Rattle.et_program.proofs.PoolLemmas.{nothing_kept}
use Rattle.et_program.proofs.program.Program.by_names.Goals as goal

pub invariant_of-result : goal.invariant_of-result
invariant_of-result c = (
  record {
    classes = c.requires.tabled.classes;
    infos = c.requires.tabled.infos;
    methods = c.requires.tabled.methods;
    fields = c.requires.tabled.fields;
    statics = c.requires.tabled.statics;
    file_methods = c.requires.tabled.file_methods;
    main = c.requires.tabled.main;
    few_classes = c.requires.tabled.few_classes;
    few_methods = c.requires.tabled.few_methods;
    few_fields = c.requires.tabled.few_fields;
  },
  record {
    classes_order = subst (λ (xs : List ClassEntry). IsOrder (map class_key xs) c.in_ok-class_order.class_order.entries.items) c.as_slice-2.ensures.value c.in_ok-class_order.ensures;
    methods_order = subst (λ (xs : List MethodInfo). IsOrder (map method_key xs) c.in_ok-method_order.method_order.entries.items) c.as_slice-methods.ensures.value c.in_ok-method_order.ensures;
    fields_order = subst (λ (xs : List FieldInfo). IsOrder (map field_key xs) c.in_ok-field_order.field_order.entries.items) c.as_slice-3.ensures.value c.in_ok-field_order.ensures;
    base_arrays_found = λ kind lt. c.in_ok-base_arrays.ensures kind lt ∙ ap (λ (xs : List ClassEntry). position_from (λ (x : ClassEntry). is_base_array kind x.info.element) 0 xs) c.as_slice.ensures.value;
  },
  record {
    classes = c.requires.linked.classes;
    some = c.requires.linked.some;
    of_files = c.requires.linked.of_files;
    linkable = c.requires.linked.linkable;
    program = c.requires.linked.program;
  },
  c.in_ok-signatures.ensures
      ∙ (ap (λ (xs : List MethodInfo). map (signature_of (map method_key xs) c.in_ok-method_order.method_order.entries.items c.as_slice-4.result.now) xs) c.as_slice-methods.ensures.value
      ∙ ap (λ (cs : List ClassEntry). map (signature_of (map method_key c.args.tables.methods.items) c.in_ok-method_order.method_order.entries.items cs) c.args.tables.methods.items) c.as_slice-4.ensures.value),
  subst (λ (xs : List Constants). AreShaped xs c.in_ok-shapes.shapes.items) c.as_slice-5.ensures.value c.in_ok-shapes.ensures,
  nothing_kept _ _ c.new.ensures.items,
)
