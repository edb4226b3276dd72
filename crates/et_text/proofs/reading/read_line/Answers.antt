use Rattle.et_text.proofs.Readers.{found_by, form_by}
use Rattle.et_text.proofs.reading.read_line.Goals as goal

pub returns-clause-found : goal.returns-clause-found
returns-clause-found c = found_by c.line_at.result c.args.bytes.now c.line_at.ensures

pub returns-clause-form : goal.returns-clause-form
returns-clause-form c = form_by c.line_at.result c.args.bytes.now c.line_at.ensures
