use Rattle.std.proofs.Common.{Some, None, sym, ◌∙◌, ap}
use Rattle.std.specs.Prelude.{option_map}
use Rattle.et_boot.proofs.TextCalled.{called_is}
use Rattle.et_boot.proofs.text_methods.text_method_among.Goals as goal

pub returns-in-Some : goal.returns-in-Some
returns-in-Some c = λ table.
    called_is c.args.class.now c.args.name.now c.args.descriptor.now c.args.rows.now (Some c.in-Some.row.now) (ap (option_map (λ row. row.now)) (sym c.in-Some.is) ∙ c.row_called.ensures) table

pub returns-in-None : goal.returns-in-None
returns-in-None c = λ table.
    called_is c.args.class.now c.args.name.now c.args.descriptor.now c.args.rows.now None (ap (option_map (λ row. row.now)) (sym c.in-None.is) ∙ c.row_called.ensures) table
