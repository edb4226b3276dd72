use Rattle.std.proofs.Common.{List, ℕ, Ok, subst, sym}
use Rattle.std.specs.Prelude.{IfOk}
use Rattle.std.proofs.lemmas.Result.{err_from_is_err_and}
use Rattle.et_class.specs.Classes.{IsClassFile, class_of}
use Rattle.et_files.specs.Loaded.{IsClassOf}
use Rattle.et_files.specs.Told.{cause_of}
use Rattle.et_files.proofs.Answered.{one_answered, one_refused}
use Rattle.et_files.proofs.Found.{tells_more, class_not_read}
use Rattle.et_files.proofs.ReadLemmas.{holds_class}
use Rattle.et_files.proofs.classes.load_class.Goals as goal

pub returns-clause-tells : goal.returns-clause-tells
returns-clause-tells g c first held le told found is =
    tells_more _ _ found c.class_in.result (c.class_in.ensures.tells found (subst (λ bytes. IsClassOf (Ok bytes) found) (sym c.deref.ensures.value) (subst (λ file. IsClassOf file found) (c.in_ok-bytes.ensures.tells first held le told) is)))

pub returns-clause-read : goal.returns-clause-read
returns-clause-read g c = one_answered g.F.Files _ _ _ _ c.in_ok-bytes.bytes c.class_in.result c.in_ok-bytes.ensures.read c.class_in.ensures.bytes c.class_in.ensures.names

pub returns-clause-good : goal.returns-clause-good
returns-clause-good g c first held le told =
    holds_class held c.args.path.now c.in_ok-bytes.bytes.items c.class_in.result (c.in_ok-bytes.ensures.tells first held le told)
    (subst (λ (bytes : List ℕ). IfOk c.class_in.result (λ class. IsClassFile bytes (class_of class))) c.deref.ensures.value c.class_in.ensures.class)

pub returns-in_err-bytes-clause-tells : goal.returns-in_err-bytes-clause-tells
returns-in_err-bytes-clause-tells g c first held le told found is =
    let q = err_from_is_err_and c.from_residual.result c.from_residual.ensures.1 in
    rw (q.1, q.2) (class_not_read _ _ (cause_of c.in_err-bytes.field-0.0) found (c.in_err-bytes.ensures.tells first held le told) is)

pub returns-in_err-bytes-clause-read : goal.returns-in_err-bytes-clause-read
returns-in_err-bytes-clause-read g c =
    let q = err_from_is_err_and c.from_residual.result c.from_residual.ensures.1 in
    rw (q.1, q.2) (one_refused g.F.Files _ _ _ _ c.in_err-bytes.field-0.0 c.in_err-bytes.ensures.read)
