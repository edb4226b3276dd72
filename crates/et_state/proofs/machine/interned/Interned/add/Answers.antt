use Rattle.std.proofs.Common.{ℕ, ◌<◌, ◌^◌, ◌∙◌, List, length, sym, subst}
use Rattle.std.specs.Prelude.{All}
use Rattle.std.proofs.lemmas.List.Elements.{All-push}
use Rattle.et_state.proofs.Strings.{strings-added, objects-added}
use Rattle.et_state.proofs.machine.interned.Interned.add.Goals as goal

abbrev Short : List ℕ × ℕ → Type 0
Short s = length s.0 < 2 ^ 16

pub invariant_of-self-2 : goal.invariant_of-self-2
invariant_of-self-2 c =
    let added = strings-added c.self.inside.objects.entries _ _ _ _ _ c.self.view_is c.in_ok-bytes.ensures.items c.requires.text c.in_ok-insert.ensures.entries in
    record {
      ordered = objects-added c.self.inside.objects.entries c.insert.new.self.entries _ _ _ _ _ _ c.self.view_is added c.number.ensures.value (c.in_ok-reserve.ensures.keys ∙ c.self.invariant.ordered) c.requires.object c.in-Ok.ensures.keys;
      short = subst (All Short) (sym added) (All-push Short c.args.self.now (c.args.text.now, c.args.o) (subst (All Short) c.self.view_is c.self.invariant.short) c.requires.short);
    }

pub returns-clause-ok : goal.returns-clause-ok
returns-clause-ok c = strings-added c.self.inside.objects.entries _ _ _ _ _ c.self.view_is c.in_ok-bytes.ensures.items c.requires.text c.in_ok-insert.ensures.entries
