use Rattle.std.proofs.Common.{sym, ◌∙◌, subst}
use Rattle.std.specs.Prelude.{IfOk}
use Rattle.et_io.specs.Files.{Held, Finds}
use Rattle.et_io.proofs.mem_files.MemFilesFiles.read.Goals as goal

pub returns-clause-found : goal.returns-clause-found
returns-clause-found c first other le e =
    subst (λ (h : Held). IfOk c.answer-answer.result (λ found. Finds found c.args.most (h c.args.path.now))) (sym c.answer-answer.ensures.files ∙ e) c.answer-answer.ensures.found

pub returns-clause-kept : goal.returns-clause-kept
returns-clause-kept c first other e = sym c.answer-answer.ensures.files ∙ e
