use Rattle.std.proofs.Common.{◌≡◌, ℕ, ◌+◌, ◌<◌, ◌≤◌, refl, Bool, true, List, length, get_or, set, sym, ap, subst, ◌∙◌, arith}
use Rattle.std.specs.Prelude.{sum_by}
use Rattle.std.proofs.lemmas.Bool.{false≢true}
use Rattle.std.proofs.lemmas.List.{get_or_read}
use Rattle.et_flow.specs.declared.types.EntryType.{EntryType}
use Rattle.et_flow.specs.declared.types.EntryType.TheVariants.{Free}
use Rattle.et_flow.specs.declared.locals.Held.{Held}
use Rattle.et_flow.specs.declared.locals.Locals.TheInside.{Inside}
use Rattle.et_flow.specs.Types.{joined as join_of, rank, joined_lists}
use Rattle.et_flow.specs.Locals.{spread}
use Rattle.et_flow.proofs.Held.{nothing, IsJoined, joined_new, joined_same, joined_spread, joined_less, length-spread}
use Rattle.et_flow.proofs.locals.Locals.join.Goals.{then-not-is, else-not-is}
use Rattle.et_flow.proofs.locals.Locals.join.Goals as goal

pub loop-at-preserved : goal.loop-at-preserved
loop-at-preserved c =
    let old : List Held = c.self.inside.held.items in
    let held : List Held = c.loop-at.self-inside.held.items in
    let others : List EntryType = c.args.others.now in
    let joined = c.loop-at.invariant.joined in
    let inside : c.loop-at.at < length held = omega (arith, c.loop-at-test.true, c.len-at-end.ensures, c.self.inside.held.ok.0, joined.long) in
    let was : Held = c.index-held.result.now in
    let read : was ≡ get_or held c.loop-at.at nothing = get_or_read held c.loop-at.at was inside c.index-held.ensures nothing in
    let is : c.joined-joined.result ≡ join_of was.entry (get_or others was.local Free) = c.joined-joined.ensures ∙ ap (join_of was.entry) c.type_at.ensures in
    elim c.if-not-is.branch [
      | then-not-is w ↦ (
          let x : Held = record { local = w.index_mut.result.now.local; entry = c.joined-joined.result } in
          let same : x.local ≡ was.local = ap (λ (h : Held). h.local) (get_or_read held c.loop-at.at w.index_mut.result.now inside w.index_mut.ensures.value nothing ∙ sym read) in
          let now : c.if-not-is.self-inside.held.items ≡ set held c.loop-at.at x = ap (λ (s : Inside). s.held.items) w.self-inside-is in
          record {
            count = ap (λ (s : Inside). s.count) w.self-inside-is ∙ c.loop-at.invariant.count;
            joined = subst (λ (b : Bool). IsJoined old others c.if-not-is.self-inside.held.items (c.loop-at.at + 1) b) (sym w.changed-is)
                (subst (λ (hs : List Held). IsJoined old others hs (c.loop-at.at + 1) true) (sym now)
                (joined_new old others held c.loop-at.at c.loop-at.changed joined inside was read c.joined-joined.result is x same refl (λ e. false≢true (sym w.if-not-is.true ∙ c.is.ensures.1 e))));
          }
          )
      | else-not-is w ↦ (
          let now : c.if-not-is.self-inside.held.items ≡ held = ap (λ (s : Inside). s.held.items) w.self-inside-is in
          record {
            count = ap (λ (s : Inside). s.count) w.self-inside-is ∙ c.loop-at.invariant.count;
            joined = subst (λ (b : Bool). IsJoined old others c.if-not-is.self-inside.held.items (c.loop-at.at + 1) b) (sym w.changed-is)
                (subst (λ (hs : List Held). IsJoined old others hs (c.loop-at.at + 1) c.loop-at.changed) (sym now)
                (joined_same old others held c.loop-at.at c.loop-at.changed joined inside was read c.joined-joined.result is (c.is.ensures.0 w.if-not-is.false)));
          }
          )
    ]

pub returns-clause-joined : goal.returns-clause-joined
returns-clause-joined c =
    let old : List Held = c.self.inside.held.items in
    let count : ℕ = c.self.inside.count in
    let end : length old ≤ c.loop-at.at = omega (arith, c.loop-at-test.false, c.len-at-end.ensures, c.self.inside.held.ok.0) in
    let long : length c.args.others.now ≡ count = omega (arith, c.requires, ap length c.self.view_is, length-spread count old) in
    ap (λ (n : ℕ). spread n c.loop-at.self-inside.held.items) c.loop-at.invariant.count
    ∙ (joined_spread count old c.args.others.now c.loop-at.self-inside.held.items c.loop-at.at c.loop-at.changed c.loop-at.invariant.joined end long
    ∙ ap (λ (xs : List EntryType). joined_lists xs c.args.others.now) c.self.view_is)

pub returns-clause-less : goal.returns-clause-less
returns-clause-less c = λ e.
    let old : List Held = c.self.inside.held.items in
    let count : ℕ = c.self.inside.count in
    let end : length old ≤ c.loop-at.at = omega (arith, c.loop-at-test.false, c.len-at-end.ensures, c.self.inside.held.ok.0) in
    let long : length c.args.others.now ≡ count = omega (arith, c.requires, ap length c.self.view_is, length-spread count old) in
    subst (λ (n : ℕ). sum_by rank (spread n c.loop-at.self-inside.held.items) < sum_by rank c.args.self.now) (sym c.loop-at.invariant.count)
    (subst (λ (xs : List EntryType). sum_by rank (spread count c.loop-at.self-inside.held.items) < sum_by rank xs) c.self.view_is
    (joined_less count old c.args.others.now c.loop-at.self-inside.held.items c.loop-at.at c.loop-at.changed c.loop-at.invariant.joined end long c.self.invariant (c.loop-at.invariant.joined.less e)))
