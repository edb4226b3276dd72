use Rattle.std.proofs.Common.{sym, ◌∙◌}
use Rattle.et_program.specs.Indices.{number_of_name}
use Rattle.et_program.proofs.Puts.{name_put}
use Rattle.et_program.proofs.tables.names.NameIndex.put.Goals as goal

pub returns-clause-ok : goal.returns-clause-ok
unfolding number_of_name
returns-clause-ok c = name_put c.args.name.now c.in_ok-key.key c.args.self.now.places c.insert.new.self c.args.number c.in_ok-key.ensures.items (sym c.contains_key.ensures ∙ c.if-contains_key.false) c.in_ok-insert.ensures.updates
