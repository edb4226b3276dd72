use Rattle.std.proofs.Common.{◌≡◌, ◌++◌, take}
use Rattle.std.specs.List.{flat_map}
use Rattle.et_asm.specs.Listings.{section_bytes}
use Rattle.et_asm.proofs.class.put_section.Given as goal

abbrev pub invariant-loop-p : goal.invariant-loop-p
invariant-loop-p l = l.out.items ≡ l.initial.out.items ++ flat_map (λ p. section_bytes l.symbols l.section p.line) (take l.p-index l.lines)
