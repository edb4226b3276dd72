use Rattle.std.proofs.Common.{Bool, sym, subst}
use Rattle.et_binary.specs.Packs.{ShowsPackFault}
use Rattle.et_binary.specs.Unpacking.{unpacked_bytes}
use Rattle.et_binary.proofs.SomePack.{wrong_opening, part_opening}
use Rattle.et_binary.proofs.Portions.{leaves_part}
use Rattle.et_binary.proofs.records.take_all.Goals as goal

pub returns-then-not-may_open-clause-err : goal.returns-then-not-may_open-clause-err
returns-then-not-may_open-clause-err c =
    subst (λ (o : Bool). ShowsPackFault (unpacked_bytes o c.args.rules.now c.args.bytes.now) 1 1) (sym c.if-opened.false) (wrong_opening c.args.bytes.now (sym c.if-not-may_open.ensures))

pub returns-then-bytes-lt4-clause-ok : goal.returns-then-bytes-lt4-clause-ok
returns-then-bytes-lt4-clause-ok c =
    leaves_part c.args.rules.now c.args.opened c.args.bytes.now c.if-opened.false c.requires.before (part_opening c.args.bytes.now (sym c.if-not-may_open.ensures) c.if-bytes-lt4.true)
