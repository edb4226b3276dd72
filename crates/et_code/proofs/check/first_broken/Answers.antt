use Rattle.et_code.specs.Bodies.{body_of}
use Rattle.et_code.specs.Rules.{flag}
use Rattle.et_code.proofs.Checked.{all_marks}
use Rattle.et_code.proofs.check.first_broken.Goals as goal

pub returns : goal.returns
returns c = all_marks (body_of c.args.body.now) c.args.tags.now (flag c.args.flags.now) c.check_instructions-first.result c.check_rows.result c.requires.starts c.requires.length c.check_instructions-first.ensures c.check_rows.ensures
