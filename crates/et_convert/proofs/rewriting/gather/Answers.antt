use Rattle.std.proofs.Common.{◌++◌, List, ℕ, subst}
use Rattle.std.specs.Prelude.{OnOk, OnErr}
use Rattle.et_convert.specs.Conversions.{converted_line}
use Rattle.et_io.specs.Sink.{TakesUpTo, TakesPrefix}
use Rattle.et_io.proofs.Taking.{none_put}
use Rattle.et_convert.proofs.rewriting.gather.Goals as goal

pub returns-in_default-clause-err : goal.returns-in_default-clause-err
returns-in_default-clause-err g c =
    let all = c.args.gathered.now.items ++ converted_line c.args.format c.args.line in
    none_put (g.O.Sink.taken c.args.sink.now) all
