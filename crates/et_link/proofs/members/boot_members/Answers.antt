use Rattle.std.proofs.Common.{◌≡◌, ℕ, List, map, sym, subst, ◌∙◌, ap, ◌++◌, arith}
use Rattle.std.specs.Prelude.{All}
use Rattle.et_pool.specs.Looks.{tag_of_slot}
use Rattle.et_link.specs.BuiltIn.{HasKeptCode}
use Rattle.et_boot.specs.Classes.{no_boot_class}
use Rattle.et_boot.specs.Shown.{shown}
use Rattle.et_program.specs.Files.{boots}
use Rattle.et_program.specs.MembersOf.{boot_methods}
use Rattle.et_link.proofs.Lists.{numbered_more, boot_pools_more}
use Rattle.et_link.proofs.BuiltInLemmas.{pool_at, code_at}
use Rattle.et_link.proofs.members.boot_members.Goals as goal

pub pool_of_boot-requires : goal.pool_of_boot-requires
pool_of_boot-requires c = pool_at c.classes.i (shown c.boot-boot.result) (omega arith) c.boot-boot.ensures

pub add_boot_methods-requires : goal.add_boot_methods-requires
add_boot_methods-requires c =
    let tags : c.as_slice.result.now ≡ map tag_of_slot c.in_ok-pool.pool.slots = c.as_slice.ensures.value ∙ c.in_ok-tags.ensures in
    let kept = code_at c.classes.i (shown c.boot-boot.result) c.in_ok-pool.pool (omega arith) c.boot-boot.ensures c.in_ok-pool.ensures in
    subst (λ (t : List ℕ). All (HasKeptCode t) (shown c.boot-boot.result).methods) (sym tags) kept

pub classes-preserved : goal.classes-preserved
classes-preserved c = record {
  methods =
      c.in_ok-add_boot_methods.ensures
      ∙ (ap (λ l. l ++ boot_methods c.in_ok-class.class (shown c.boot-boot.result)) c.classes.invariant.methods
      ∙ sym (numbered_more boot_methods 0 boots c.classes.i no_boot_class (shown c.boot-boot.result) c.in_ok-class.class (omega arith) c.boot-boot.ensures (omega arith)));
  pools = boot_pools_more boots c.classes.i no_boot_class (shown c.boot-boot.result) c.classes.pools.items _ _ (omega arith) c.boot-boot.ensures c.classes.invariant.pools c.in_ok-pool.ensures c.in_ok-push.ensures.items;
}
