use Rattle.std.proofs.Common.{◌≡◌, ◌≤◌, ℕ, List, take}
use Rattle.et_base.specs.Marks.{first_from}
use Rattle.et_asm.specs.Code.{place_behind, labels_of, catch_count}
use Rattle.et_asm.specs.Listings.{body_marks_at, listed_body_marks}
use Rattle.et_asm.specs.Symbols.{places}
use Rattle.et_asm.proofs.Taken.{left}
use Rattle.et_asm.proofs.check.check_body.Given as goal

abbrev pub invariant-loop-i : goal.invariant-loop-i
invariant-loop-i l = record {
  found : first_from l.found (left (body_marks_at l.symbols (labels_of l.symbols l.body) l.number) l.body l.i) ≡ first_from l.fn.first (listed_body_marks l.symbols l.number l.body);
  seen : (q : List ℕ) → places l.seen.entries q ≡ labels_of l.symbols (take l.i l.body) q;
  at : l.at ≡ place_behind l.symbols (take l.i l.body);
  catches : l.catches ≡ catch_count (take l.i l.body);
  few : l.catches ≤ l.i;
}
