use Rattle.std.proofs.Common.{◌∙◌, sym, subst}
use Rattle.et_files.specs.Loaded.{IsListingProgram}
use Rattle.et_top.proofs.bench.program_of_bench.Goals as goal

pub returns-in-Ok-clause-tells : goal.returns-in-Ok-clause-tells
returns-in-Ok-clause-tells c p is =
    c.program_of_listing.ensures.tells p (subst (λ listing. IsListingProgram listing p) (sym (c.deref.ensures.value ∙ c.in-Ok.ensures)) is)

pub bench_listing-requires : goal.bench_listing-requires
bench_listing-requires c = record { number = c.requires.choices; cells = c.requires.size; rounds = c.requires.turns }
