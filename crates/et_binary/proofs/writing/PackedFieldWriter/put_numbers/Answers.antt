use Rattle.std.proofs.Common.{arith, get_or}
use Rattle.et_text.specs.declared.fields.Width.TheVariants as widths
use Rattle.et_binary.proofs.Puts.{numbers_put, wide}
use Rattle.et_binary.proofs.writing.PackedFieldWriter.put_numbers.Goals as goal

pub loop-index-preserved : goal.loop-index-preserved
loop-index-preserved c =
    let i = c.loop-index.index in
    let at_most = wide (get_or c.args.widths.now i widths.Byte) in
    record {
      size = omega arith;
      room = omega arith;
      packed = numbers_put i c.args.letter c.args.widths.now c.args.numbers.now _ _ widths.Byte (omega arith) (omega arith) c.loop-index.invariant.packed c.pack_number-end.ensures.packed;
    }
