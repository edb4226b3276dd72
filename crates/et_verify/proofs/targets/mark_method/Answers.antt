use Rattle.std.proofs.Common.{◌≡◌, ℕ, Bool, List, ◌++◌, length, take, drop, sym, ◌∙◌, subst, arith}
use Rattle.std.proofs.Math.Seq.{take-append_seam}
use Rattle.et_verify.specs.Targets.{KeepsFlags, HasTargets}
use Rattle.et_verify.proofs.targets.mark_method.Goals as goal

-- what stands in a list after all of it was written
written : (n : ℕ) (xs ys : List Bool) → length xs ≡ n → take n (xs ++ ys) ≡ xs
written n xs ys e = subst (λ (k : ℕ). take k (xs ++ ys) ≡ xs) e (take-append_seam xs ys)

pub returns : goal.returns
returns c =
    let n : ℕ = c.resize.new.self.len in
    let first : List Bool = c.mark.new.flags in
    let some : List Bool = c.mark_code.new.flags in
    let flags : List Bool = c.mark_handlers.new.flags in
    let first_long : length first ≡ n = omega (arith, c.mark.auto.flags, c.deref_mut.ensures.len) in
    let some_long : length some ≡ n = omega (arith, c.mark_code.auto.flags, c.deref_mut-2.ensures.len) in
    let long : length flags ≡ n = omega (arith, c.mark_handlers.auto.flags, c.deref_mut-3.ensures.len) in
    let had : c.deref_mut-2.result.now ≡ first = c.deref_mut-2.ensures.value ∙ written n first (drop (length first) c.resize.new.self.items) first_long in
    let had_some : c.deref_mut-3.result.now ≡ some = c.deref_mut-3.ensures.value ∙ written n some _ some_long in
    let on : KeepsFlags first some = subst (λ (fs : List Bool). KeepsFlags fs some) had c.in_ok-mark_code.ensures.kept in
    let kept : KeepsFlags some flags = subst (λ (fs : List Bool). KeepsFlags fs flags) had_some c.mark_handlers.ensures.kept in
    record {
      starts = c.in_ok-mark_code.ensures.starts;
      targets =
          subst (λ (fs : List Bool). HasTargets c.mark_code.new.starts.items c.args.code.now c.args.table.now fs) (sym (written n flags _ long))
          (record {
            long = omega (arith, long, c.in_ok-resize.ensures.len);
            first = λ lt. kept 0 (on 0 (c.mark.ensures.marked (omega (arith, lt, long, c.deref_mut.ensures.len))));
            targets = λ pc i next inside start at q there lt. kept q (c.in_ok-mark_code.ensures.marked pc i next start at q there (omega (arith, lt, long, some_long)));
            handlers = c.mark_handlers.ensures.marked;
          });
    }
