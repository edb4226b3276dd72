use Rattle.std.proofs.Common.{◌≡◌, ◌∙◌, ◌++◌, ◌∷◌, [], ◌+◌, ◌-◌, ℕ, List, take, drop, ap, sym, refl, append_assoc, arith, slice_set}
use Rattle.std.specs.Fmt.{decimal}
use Rattle.std.proofs.lemmas.Fmt.{length-decimal-le}
use Rattle.std.proofs.lemmas.List.{drop-set, length-set, length-drop, take_all}
use Rattle.et_replay.proofs.curve.put_row.Goals as goal

pub write_digits-space-requires : goal.write_digits-space-requires
write_digits-space-requires c =
    let long = length-decimal-le 20 c.args.live (omega arith) (omega arith) (omega arith) in
    (omega arith, omega arith)

pub overflow_sub-space : goal.overflow_sub-space
overflow_sub-space c =
    let long = length-decimal-le 20 c.args.live (omega arith) (omega arith) (omega arith) in
    omega arith

pub write_digits-start-requires : goal.write_digits-start-requires
write_digits-start-requires c =
    let long = length-decimal-le 20 c.args.live (omega arith) (omega arith) (omega arith) in
    let short = length-decimal-le 20 c.args.event (omega arith) (omega arith) (omega arith) in
    let size = length-set c.write_digits-space.new.buf (c.write_digits-space.result - 1) 32 in
    (omega arith, omega arith)

pub returns : goal.returns
returns c =
    let w = c.write_digits-space in
    let v = c.write_digits-start in
    let long = length-decimal-le 20 c.args.live (omega arith) (omega arith) (omega arith) in
    let behind : w.result - 1 + 1 ≡ w.result = omega arith in
    let live : drop (w.result - 1) (slice_set w.new.buf (w.result - 1) 32) ≡ 32 ∷ (decimal c.args.live ++ 10 ∷ []) = rw (drop-set w.new.buf (w.result - 1) 32 (omega arith), behind, w.ensures.written) refl in
    let rest = drop v.result v.new.buf in
    let size = length-drop v.result v.new.buf in
    let all : take (42 - v.result) rest ≡ rest = take_all (42 - v.result) rest (omega arith) in
    c.in_ok-extend_from_slice.ensures.items ∙ ap (λ (t : List ℕ). c.args.rows.now.items ++ t) (all ∙ (v.ensures.written ∙ (ap (λ (t : List ℕ). decimal c.args.event ++ t) live ∙ sym (append_assoc (decimal c.args.event) (32 ∷ decimal c.args.live) (10 ∷ [])))))
