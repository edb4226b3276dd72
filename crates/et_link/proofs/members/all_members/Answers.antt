use Rattle.std.proofs.Common.{◌≡◌, ◌∷◌, sym, ◌∙◌, ap, ◌++◌, ◌+◌, length, append_assoc, arith}
use Rattle.std.specs.Vec.Iter.{into_iter_items}
use Rattle.et_program.specs.Loaded.{loaded_file}
use Rattle.et_program.specs.Files.{boots}
use Rattle.et_program.specs.MembersOf.{file_methods, file_pool}
use Rattle.et_link.proofs.Lists.{taken_more, length-push, numbered_push_of, map_push_of}
use Rattle.et_link.proofs.members.all_members.Goals as goal

pub loop-file-preserved : goal.loop-file-preserved
loop-file-preserved c =
    let at = c.loop-file in
    let x = c.in-Some.file in
    let steps : into_iter_items at.file-iterator ≡ x ∷ into_iter_items c.next.new.self = c.in-Some.ensures.steps.0 in
    let n : c.in_ok-class.class ≡ length boots + length at.yielded = c.in_ok-class.ensures ∙ at.invariant.place in
    record {
      taken = taken_more at.yielded _ _ _ x at.invariant.taken steps;
      left = (let was = at.invariant.left in let gone = c.in-Some.ensures.steps.1 in let short = ap length steps in omega arith);
      place = (let p = length-push at.yielded x in omega (arith, c.in-Some-checked_add.ensures));
      methods =
          c.in_ok-add_file_methods.ensures
          ∙ (ap (λ l. l ++ file_methods c.in_ok-class.class (loaded_file x)) at.invariant.methods
          ∙ (append_assoc c.in_ok-boot.boot.methods.items _ _
          ∙ ap (λ l. c.in_ok-boot.boot.methods.items ++ l) (sym (numbered_push_of file_methods loaded_file (length boots) at.yielded x c.in_ok-class.class n))));
      pools =
          c.in_ok-push.ensures.items
          ∙ (ap (λ l. l ++ x.pool ∷ _) at.invariant.pools
          ∙ (append_assoc c.in_ok-boot.boot.pools.items _ _
          ∙ ap (λ l. c.in_ok-boot.boot.pools.items ++ l) (sym (map_push_of file_pool loaded_file at.yielded x))));
    }
