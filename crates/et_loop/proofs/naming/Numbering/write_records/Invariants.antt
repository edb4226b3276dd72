use Rattle.std.proofs.Common.{◌≡◌, ◌++◌, drop}
use Rattle.et_state.specs.Naming.{mentions_after, lines_of}
use Rattle.et_binary.specs.Formats.{lines_written_in}
use Rattle.et_loop.specs.Naming.{HasClasses}
use Rattle.et_loop.proofs.naming.Numbering.write_records.Given as goal

-- what is mentioned and written so far, with what the rest adds, is what all add
abbrev pub invariant-records : goal.invariant-records
invariant-records g l =
    let names = g.P.Program.names l.program in
    record {
      classes : HasClasses names l.self;
      mentions : mentions_after names l.self (drop l.entry-index l.records) ≡ mentions_after names l.fn.self l.records;
      lines :
          l.buffer.items ++ lines_written_in l.format (lines_of names l.self (drop l.entry-index l.records))
          ≡ l.fn.buffer.items ++ lines_written_in l.format (lines_of names l.fn.self l.records);
    }
