use Rattle.std.proofs.Common.{ℕ, ◌++◌, ap, ◌∙◌, sym, arith, List, Option, append-nil, unwrap_or}
use Rattle.std.specs.Prelude.{encode_utf8}
use Rattle.std.specs.List.{flat_map}
use Rattle.et_strings.proofs.Chars.{none_at}
use Rattle.et_strings.proofs.printing.push_written.Goals as goal

pub returns : goal.returns
returns c =
    sym (append-nil _)
    ∙ (sym (ap (λ (l : List (Option ℕ)). c.chars.out.items ++ flat_map (λ c. encode_utf8 (unwrap_or c 63)) l) (none_at c.args.units.now c.chars.at (omega arith)))
    ∙ c.chars.invariant.1)
