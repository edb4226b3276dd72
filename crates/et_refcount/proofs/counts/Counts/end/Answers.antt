use Rattle.std.proofs.Common.{◌≡◌, ◌∙◌, ℕ, Bool, false, List, Option, sym, ap, arith}
use Rattle.std.specs.Prelude.{unwrap_or}
use Rattle.et_refcount.specs.declared.objects.Place.{Place}
use Rattle.et_refcount.specs.Counts.{view_of}
use Rattle.et_refcount.specs.Objects.{held_at, flag_at}
use Rattle.et_refcount.proofs.Noting.{death_leaks}
use Rattle.et_refcount.proofs.Standing.{heap_low}
use Rattle.et_refcount.proofs.counts.Counts.end.Goals as goal

pub overflow_add-self : goal.overflow_add-self
overflow_add-self c =
    let s = c.requires.ready in
    let v = view_of c.args.self.now in
    let size : c.from.result ≡ unwrap_or (held_at v.tables.places c.args.object) 0 = c.from.ensures ∙ (c.unwrap_or-size.ensures ∙ ap (λ (z : Option ℕ). unwrap_or z 0) (c.held_at.ensures ∙ ap (λ (l : List Place). held_at l c.args.object) c.deref-2.ensures.value)) in
    let lives : flag_at v.tables.dead c.args.object ≡ false = ap (λ (l : List Bool). flag_at l c.args.object) (sym c.deref.ensures.value) ∙ (sym c.flag_at.ensures ∙ c.if-flag_at.false) in
    let leaks = death_leaks v s.0 s.1 s.2 c.args.object 0 s.3 false lives in
    let low = (heap_low v s.0 s.1 s.2 s.3).bytes in
    omega (arith, size, leaks, low)
