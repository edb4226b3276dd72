use Rattle.std.proofs.Common.{subst}
use Rattle.std.proofs.lemmas.Result.{err_from_is_err_and}
use Rattle.et_files.specs.Loaded.{IsLinkedOf}
use Rattle.et_files.specs.Told.{cause_of}
use Rattle.et_files.proofs.Answered.{each_answered, each_refused}
use Rattle.et_files.proofs.Found.{tells_more}
use Rattle.et_files.proofs.LinkLemmas.{program_not_read}
use Rattle.et_files.proofs.programs.load_program.Goals as goal

pub returns-clause-tells : goal.returns-clause-tells
returns-clause-tells g c held told program is =
    tells_more _ _ program c.program.result (c.program.ensures.tells program (subst (λ classes. IsLinkedOf classes program) (c.in_ok-classes.ensures.tells held told is.0 is.1) is.2))

pub returns-clause-reads : goal.returns-clause-reads
returns-clause-reads g c = each_answered g.F.Files _ _ _ c.in_ok-classes.classes c.program.result c.in_ok-classes.ensures.reads c.program.ensures.bytes c.program.ensures.names

pub returns-in_err-classes-clause-tells : goal.returns-in_err-classes-clause-tells
returns-in_err-classes-clause-tells g c held told program is =
    let q = err_from_is_err_and c.from_residual.result c.from_residual.ensures.1 in
    rw (q.1, q.2) (program_not_read _ is.0 (cause_of c.in_err-classes.field-0.0) program (c.in_err-classes.ensures.tells held told is.0 is.1) is.2)

pub returns-in_err-classes-clause-reads : goal.returns-in_err-classes-clause-reads
returns-in_err-classes-clause-reads g c =
    let q = err_from_is_err_and c.from_residual.result c.from_residual.ensures.1 in
    rw (q.1, q.2) (each_refused g.F.Files _ _ _ c.in_err-classes.field-0.0 c.in_err-classes.ensures.reads)
