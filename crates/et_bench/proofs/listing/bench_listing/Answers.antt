use Rattle.std.proofs.Common.{◌∙◌, ◌++◌, ap}
use Rattle.std.specs.Fmt.{decimal}
use Rattle.et_bench.specs.Listing.{bench_listing, to_modulus, to_seed, to_length, to_cells, to_rounds, to_end}
use Rattle.et_bench.proofs.TextLemmas.{put_together}
use Rattle.et_bench.proofs.listing.bench_listing.Goals as goal

pub returns : goal.returns
unfolding bench_listing
returns c =
    put_together (decimal c.args.number) (decimal c.from-cells.result) (decimal c.from.result) _ _ _ _ _ _ _ to_modulus to_seed to_length to_cells to_rounds to_end
    c.new-text.ensures.items c.in_ok-put.ensures c.in_ok-put-2.ensures c.in_ok-put-3.ensures c.in_ok-put-4.ensures c.in_ok-put-5.ensures
    (c.in_ok-extend_from_slice.ensures.items ∙ ap (λ bytes. c.put-5.new.text.items ++ bytes) c.as_bytes.ensures.value)
    ∙ (ap (λ n. bench_listing c.args.number n c.from.result) c.from-cells.ensures ∙ ap (λ n. bench_listing c.args.number c.args.cells n) c.from.ensures)
