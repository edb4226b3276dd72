use Rattle.std.proofs.Common.{◌≡◌, ◌∙◌, ◌++◌, ◌∷◌, ◌<◌, ◌^◌, ◌+◌, ◌-◌, ℕ, suc, List, length, drop, ap, refl, sym, arith, slice_index_or, slice_set}
use Rattle.std.specs.Fmt.{decimal}
use Rattle.std.specs.List.{flat_map}
use Rattle.std.proofs.Math.Seq.{drop-cons}
use Rattle.std.proofs.lemmas.Fmt.{length-decimal-le}
use Rattle.std.proofs.lemmas.List.{drop-set, length-set, length-drop, take_all}
use Rattle.et_text.specs.Spelling.{number_field}
use Rattle.et_text.proofs.writing.put_numbers.Goals as goal

pub write_digits-start-requires : goal.write_digits-start-requires
write_digits-start-requires c =
    let n = slice_index_or c.args.numbers.now (c.loop-left.left - 1) 0 in
    let fits : n < 2 ^ 64 = omega (arith, c.type_inv.numbers (c.loop-left.left - 1)) in
    let long = length-decimal-le 20 n (omega arith) (omega arith) fits in
    (omega arith, omega arith)

pub overflow_sub-start : goal.overflow_sub-start
overflow_sub-start c =
    let n = slice_index_or c.args.numbers.now (c.loop-left.left - 1) 0 in
    let fits : n < 2 ^ 64 = omega (arith, c.type_inv.numbers (c.loop-left.left - 1)) in
    let long = length-decimal-le 20 n (omega arith) (omega arith) fits in
    omega arith

pub loop-left-preserved : goal.loop-left-preserved
loop-left-preserved c =
    let l = c.loop-left in
    let w = c.write_digits-start in
    let n = slice_index_or c.args.numbers.now (l.left - 1) 0 in
    let fits : n < 2 ^ 64 = omega (arith, c.type_inv.numbers (l.left - 1)) in
    let long = length-decimal-le 20 n (omega arith) (omega arith) fits in
    let behind : w.result - 1 + 1 ≡ w.result = omega arith in
    let next : suc (l.left - 1) ≡ l.left = omega arith in
    let among : l.left - 1 < length c.args.numbers.now = omega arith in
    record {
      among = omega arith;
      room = omega arith;
      within = omega arith;
      size = omega (arith, length-set w.new.buf (w.result - 1) 32);
      spelled =
          rw (drop-set w.new.buf (w.result - 1) 32 (omega arith), behind, w.ensures.written, drop-cons c.args.numbers.now (l.left - 1) 0 among)
          (ap (λ (t : List ℕ). 32 ∷ (decimal n ++ t)) (l.invariant.spelled ∙ ap (λ (k : ℕ). flat_map number_field (drop k c.args.numbers.now)) (sym next)));
    }

pub returns-clause-ok : goal.returns-clause-ok
returns-clause-ok c =
    let l = c.loop-left in
    let behind : l.start - 1 + 1 ≡ l.start = omega arith in
    let none : l.left ≡ 0 = omega arith in
    let spelled : drop (l.start - 1) (slice_set l.line (l.start - 1) c.args.letter) ≡ c.args.letter ∷ flat_map number_field c.args.numbers.now = rw (drop-set l.line (l.start - 1) c.args.letter (omega arith), behind, l.invariant.spelled, none) refl in
    let rest = drop (l.start - 1) (slice_set l.line (l.start - 1) c.args.letter) in
    let size = length-drop (l.start - 1) (slice_set l.line (l.start - 1) c.args.letter) in
    let same = length-set l.line (l.start - 1) c.args.letter in
    c.in_ok-extend_from_slice.ensures.items ∙ ap (λ (t : List ℕ). c.args.buffer.now.items ++ t) (take_all (127 - (l.start - 1)) rest (omega arith)) ∙ ap (λ (t : List ℕ). c.args.buffer.now.items ++ t) spelled
