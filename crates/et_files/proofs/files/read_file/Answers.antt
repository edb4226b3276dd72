use Rattle.std.proofs.Common.{refl, sym}
use Rattle.std.specs.Prelude.{Ok}
use Rattle.et_io.specs.Files.{OutOfMemory, answer_of, is_read_failed}
use Rattle.et_files.specs.Told.{is_reading}
use Rattle.et_files.proofs.FaultLemmas.{counted_as}
use Rattle.et_files.proofs.ReadLemmas.{found_tells, found_reading, found_file, found_early, found_within}
use Rattle.et_files.proofs.files.read_file.Goals as goal

pub returns-in-Ok-clause-tells : goal.returns-in-Ok-clause-tells
returns-in-Ok-clause-tells g c first held le told =
    found_tells _ _ c.args.most (held c.args.path.now) c.in-Ok.found c.bytes_found.result c.bytes_found.ensures.tells
    (c.in-Ok.ensures.found first held le told) c.in-Ok.ensures.within c.in-Ok.ensures.failed

pub returns-in-Ok-clause-read : goal.returns-in-Ok-clause-read
returns-in-Ok-clause-read g c =
    let reading = found_reading c.in-Ok.found c.bytes_found.result c.bytes_found.ensures.tells in
    record {
      faults = counted_as (is_read_failed (Ok c.in-Ok.found)) (is_reading c.bytes_found.result) _ _ c.in-Ok.ensures.failed reading;
      asked = (answer_of (Ok c.in-Ok.found), c.in-Ok.ensures.asked, sym reading);
      file = found_file c.in-Ok.found c.bytes_found.result c.bytes_found.ensures.tells;
      never_falls = c.in-Ok.ensures.never_falls;
      names = c.bytes_found.ensures.names;
    }

pub returns-in-Err-clause-read : goal.returns-in-Err-clause-read
returns-in-Err-clause-read g c = record { faults = c.in-Err.ensures.failed; asked = (OutOfMemory, c.in-Err.ensures.asked, refl); file = tt; never_falls = c.in-Err.ensures.never_falls; names = tt }

pub returns-in-Ok-clause-early : goal.returns-in-Ok-clause-early
returns-in-Ok-clause-early g c = found_early c.in-Ok.found c.bytes_found.result c.bytes_found.ensures.tells

pub returns-in-Ok-clause-within : goal.returns-in-Ok-clause-within
returns-in-Ok-clause-within g c = found_within c.args.most c.in-Ok.found c.bytes_found.result c.bytes_found.ensures.tells c.in-Ok.ensures.within
