use Rattle.std.proofs.Common.{subst, sym, arith}
use Rattle.std.proofs.lemmas.Grind.{common_steps}
use Rattle.std.proofs.lemmas.List.Elements.{All-get_or}
use Rattle.et_state.specs.Naming.{Mentions, IsNamed}
use Rattle.et_loop.specs.Naming.{HasClasses}
use Rattle.et_loop.proofs.Mentioning.{record_mentioned}
use Rattle.et_loop.proofs.naming.Numbering.write_records.Goals as goal

-- each record of the list is named
pub write_record-requires-clause-named : goal.write_record-requires-clause-named
write_record-requires-clause-named g c =
    let P = IsNamed (g.P.Program.names c.args.program.now) in
    subst P (sym c.entry-item.is) (All-get_or P c.args.records.now c.records.entry-index c.entry-item.result c.records-test.true c.requires.named)

-- .. and mentions no method without its class
pub records-preserved : goal.records-preserved
records-preserved g c =
    let names = g.P.Program.names c.args.program.now in
    record {
      classes = subst (λ (m : Mentions). HasClasses names m) (sym c.in_ok-write_record.ensures.mentions) (record_mentioned names c.records.self c.entry-item.result c.records.invariant.classes);
      mentions = grind (arith, common_steps);
      lines = grind (arith, common_steps);
    }
