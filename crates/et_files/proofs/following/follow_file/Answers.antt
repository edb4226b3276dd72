use Rattle.std.proofs.Common.{Ok, subst, sym, arith}
use Rattle.et_files.specs.Following.{FollowsBytes, FollowsTrace}
use Rattle.et_files.specs.Loaded.{IsTraceOf}
use Rattle.et_files.proofs.Answered.{one_answered, loads_refused}
use Rattle.et_files.proofs.Followed.{tells_of_by, followed_by, good_spelled}
use Rattle.et_files.proofs.Found.{trace_not_read}
use Rattle.et_files.proofs.following.follow_file.Goals as goal

pub returns-clause-loads : goal.returns-clause-loads
returns-clause-loads g c = record {
  tells = λ held told found is.
      tells_of_by _ (FollowsBytes g.F.Follower.follows c.deref.result.now) (FollowsTrace g.F.Follower.follows) found c.follow_in.result
      (λ lines follower f. record { good = good_spelled lines c.deref.result.now f.spells; followed = f.followed })
      (c.follow_in.ensures.tells found (subst (λ bytes. IsTraceOf (Ok bytes) found) (sym c.deref.ensures.value) (subst (λ file. IsTraceOf file found) (c.in_ok-bytes.ensures.tells (g.S.Files.asked c.args.files.now) held (omega arith) told) is)));
  read = one_answered g.S.Files _ _ _ _ c.in_ok-bytes.bytes c.follow_in.result c.in_ok-bytes.ensures.read c.follow_in.ensures.bytes c.follow_in.ensures.names;
}

pub returns-clause-trace : goal.returns-clause-trace
returns-clause-trace g c =
    followed_by (FollowsBytes g.F.Follower.follows c.deref.result.now) (FollowsTrace g.F.Follower.follows) c.follow_in.result
    (λ lines follower f. record { good = good_spelled lines c.deref.result.now f.spells; followed = f.followed })
    c.follow_in.ensures.trace

pub returns-in_err-bytes-clause-loads : goal.returns-in_err-bytes-clause-loads
returns-in_err-bytes-clause-loads g c =
    loads_refused g.S.Files _ _ _ _ _ _ (λ read found r h. h) trace_not_read c.in_err-bytes.field-0.0 c.from_residual.result c.from_residual.ensures.1 c.in_err-bytes.ensures.read (λ held told. c.in_err-bytes.ensures.tells (g.S.Files.asked c.args.files.now) held (omega arith) told)
