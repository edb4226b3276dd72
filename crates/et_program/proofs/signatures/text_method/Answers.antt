use Rattle.std.proofs.Common.{◌∙◌, ℕ, List, ap, slice_index_or}
use Rattle.et_boot.specs.TextMethods.{text_method_called}
use Rattle.et_program.specs.BuiltIns.{text_method_in}
use Rattle.et_program.specs.Entries.{no_class}
use Rattle.et_program.proofs.signatures.text_method.Goals as goal

pub returns : goal.returns
unfolding text_method_in
returns c =
    let class = (slice_index_or c.args.classes.now c.args.method.now.class no_class).info.name in
    c.text_method_called.ensures
    ∙ (ap (λ (k : List ℕ). text_method_called k c.as_slice-name.result.now c.as_slice.result.now) c.class_name.ensures
    ∙ (ap (λ (n : List ℕ). text_method_called class n c.as_slice.result.now) c.as_slice-name.ensures
    ∙ ap (λ (d : List ℕ). text_method_called class c.args.method.now.name d) c.as_slice.ensures))
