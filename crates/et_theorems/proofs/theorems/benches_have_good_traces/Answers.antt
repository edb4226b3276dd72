use Rattle.std.proofs.Common.{arith}
use Rattle.et_state.specs.Options.{AreOptions, pick_of}
use Rattle.et_top.specs.Bench.{bench_options}
use Rattle.et_theorems.proofs.theorems.benches_have_good_traces.Goals as goal

-- the options of a bench are in range
in_range : AreOptions bench_options
in_range = record { interval = omega arith; limit = omega arith; schedule = (omega arith, omega arith) }

pub returns : goal.returns
returns c reached p old new kind line decides tabled linked (event, end, run, fault) =
    let able = c.traces_are_good.ensures.linked p tabled linked in
    c.traces_are_read.ensures.none reached p bench_options (pick_of bench_options.schedule) event end kind line (record { decides = decides; run = able.0; options_are = in_range }) able.1 run.last fault
