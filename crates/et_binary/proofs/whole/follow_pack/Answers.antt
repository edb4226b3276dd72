use Rattle.std.proofs.Common.{ℕ, [], ◌++◌, ◌∙◌, List, sym, ap, inl, inr, refl}
use Rattle.std.proofs.lemmas.List.{take_rest}
use Rattle.std.proofs.lemmas.Result.{err_from_is_err_and, IfErr-weaker, IfOk-weaker}
use Rattle.et_text.specs.Followed.{LacksFinish}
use Rattle.et_binary.specs.FollowedPacks.{IsFaultOfPack}
use Rattle.et_binary.specs.Packing.{opening}
use Rattle.et_binary.specs.Packs.LacksRecord.{EndsInOpening}
use Rattle.et_binary.proofs.SomePack.{wrong_opening, part_opening, whole_opening}
use Rattle.et_binary.proofs.FollowedRecords.{followed_on, refused_in, lacks_end, pack_followed}
use Rattle.et_binary.proofs.whole.follow_pack.Goals as goal

pub returns-then-not-may_open-clause-err : goal.returns-then-not-may_open-clause-err
returns-then-not-may_open-clause-err g c = inl (wrong_opening c.args.bytes.now (sym c.if-not-may_open.ensures))

pub returns-then-bytes-lt4-clause-err : goal.returns-then-bytes-lt4-clause-err
returns-then-bytes-lt4-clause-err g c =
    let p = part_opening c.args.bytes.now (sym c.if-not-may_open.ensures) c.if-bytes-lt4.true in
    inr (refl, EndsInOpening p.0 p.1 p.2)

pub records-init : goal.records-init
records-init g c =
    let all = c.args.bytes.now in
    let rest = sym (take_rest all 4) in
    record {
      past = [];
      followed = c.begin-lines.ensures 2 c.requires.new;
      read = record { fine = tt; parts = whole_opening all (sym c.if-not-may_open.ensures) c.if-bytes-lt4.false ∙ ap (λ (t : List ℕ). opening ++ t) rest };
    }

pub records-preserved : goal.records-preserved
records-preserved g c =
    let h = c.records.invariant in
    let some = c.in_ok-behind.ensures.some h.past h.followed in
    followed_on g.F.Follower.follows c.records.lines c.take_front.new.lines c.records.rest.now c.in-Some.behind.now c.args.bytes.now h (rw c.in-Some.is at some)

pub returns-in_err-behind-clause-err : goal.returns-in_err-behind-clause-err
returns-in_err-behind-clause-err g c =
    let h = c.records.invariant in
    let p = err_from_is_err_and c.from_residual.result c.from_residual.ensures.1 in
    rw (p.1, p.2) (refused_in h.past c.records.rest.now c.args.bytes.now c.in_err-behind.field-0.0 h.read (c.in_err-behind.ensures.err h.past h.followed))

pub returns-clause-ok : goal.returns-clause-ok
returns-clause-ok g c =
    let h = c.records.invariant in
    let left = c.in_ok-behind.ensures.none h.past h.followed in
    let none = rw c.in_default.is at left in
    IfOk-weaker c.finish.result _ _ (λ follower e. pack_followed g.F.Follower.follows follower h.past c.records.rest.now c.args.bytes.now h.read (none.ended e.1) e.1 e.0) (c.finish.ensures.ok 2 h.past none.followed)

pub returns-clause-err : goal.returns-clause-err
returns-clause-err g c =
    let h = c.records.invariant in
    let left = c.in_ok-behind.ensures.none h.past h.followed in
    let none = rw c.in_default.is at left in
    IfErr-weaker c.finish.result (LacksFinish h.past) (IsFaultOfPack c.args.bytes.now) (λ fault. lacks_end h.past c.records.rest.now c.args.bytes.now fault h.read none.unfinished) (c.finish.ensures.err 2 h.past none.followed)
