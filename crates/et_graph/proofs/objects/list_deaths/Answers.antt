use Rattle.std.proofs.Common.{◌≡◌, ℕ, List, Vec, Global, [], ◌∷◌, ◌+◌, ◌++◌, get_or, drop, sym, ap, ◌∙◌, append_assoc, length-append, arith}
use Rattle.et_graph.specs.declared.objects.Death.{Death}
use Rattle.et_graph.specs.Listing.{listed, death_pairs}
use Rattle.et_graph.proofs.Listing.{listed_hit, listed_reached, listed_gone, deaths_more}
use Rattle.et_graph.proofs.objects.list_deaths.Goals as goal
use Rattle.et_graph.proofs.objects.list_deaths.Goals.{then-time-top+then-not-gone-i, else-time-top, else-time-top-via-then-time-top+else-not-gone-i, else-time-top-via-else-time-top}

pub loop-i-preserved : goal.loop-i-preserved
loop-i-preserved c =
    let times = c.args.times.now in
    let gone = c.args.gone.now in
    let i = c.loop-i.i in
    let top = c.args.top in
    let k : ℕ = i + 1 in
    let before : List Death = c.loop-i.deaths.items in
    elim c.if-time-top.branch [
      | then-time-top+then-not-gone-i w ↦
          let death : Death = record { object = w.new.result; time = get_or times i 0 } in
          let now : c.if-time-top.deaths.items ≡ before ++ death ∷ [] = ap (λ (v : Vec Death Global). v.items) w.deaths-is ∙ w.push.ensures.items in
          record {
            long = rw now (omega (arith, length-append before (death ∷ []), c.loop-i.invariant.long));
            room = rw w.deaths-is (omega (arith, w.push.ensures.grows, c.loop-i.invariant.room));
            listed =
                rw (now, deaths_more before death, append_assoc, w.new.ensures)
                (ap (λ (ds : List (ℕ × ℕ)). death_pairs before ++ ds) (sym (listed_hit k top times gone i c.loop-i-test.true c.requires.gone w.if-time-top.true w.if-not-gone-i.true))
                ∙ c.loop-i.invariant.listed);
          }
      | else-time-top w ↦
          let skipped : listed k top (drop i times) (drop i gone) ≡ listed (k + 1) top (drop (i + 1) times) (drop (i + 1) gone) =
          elim w.else-time-top.branch [
            | else-time-top-via-then-time-top+else-not-gone-i v ↦ listed_gone k top times gone i c.loop-i-test.true c.requires.gone v.if-not-gone-i.false
            | else-time-top-via-else-time-top v ↦ listed_reached k top times gone i c.loop-i-test.true c.requires.gone v.if-time-top.false
          ] in
          record {
            long = rw w.deaths-is (omega (arith, c.loop-i.invariant.long));
            room = rw w.deaths-is c.loop-i.invariant.room;
            listed =
                rw w.deaths-is
                (ap (λ (ds : List (ℕ × ℕ)). death_pairs before ++ ds) (sym skipped) ∙ c.loop-i.invariant.listed);
          }
    ]
