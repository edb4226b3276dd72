-- The times of a flush.
use Rattle.std.proofs.Common.{◌≡◌, ℕ, ◌<◌, ◌≤◌, Bool, true, false, List, [], ◌∷◌, length, get_or, Contains, All, sym, ◌∙◌, ap, arith}
use Rattle.std.specs.Prelude.{if◌then◌else◌, vec_capacity}
use Rattle.std.specs.Global.{Vec}
use Rattle.std.proofs.lemmas.List.{get_or_default}
use Rattle.std.proofs.lemmas.List.Elements.{Contains-get_or}
use Rattle.std.proofs.lemmas.List.Sums.{sum_by-cons}
use Rattle.et_graph.specs.Times.{unset_count, IsReady}
use Rattle.et_flush.specs.declared.times.TheConstants.{NOW}
use Rattle.et_flush.specs.Searches.{AreTimes}
use Rattle.et_flush.specs.declared.work.Work.{Work}
use Rattle.et_flush.specs.Works.{HasWorkPlaces}

one_at_most : (b : Bool) → (if b then 0 else 1) ≤ 1
one_at_most true = omega arith
one_at_most false = omega arith

pub unset_within : (flags : List Bool) → unset_count flags ≤ length flags
unset_within [] = omega arith
unset_within (b ∷ flags) = omega (arith, sum_by-cons (λ (c : Bool). if c then 0 else 1) b flags, one_at_most b, unset_within flags)

-- a search of n objects begins with no work, and with room for it
pub ready_search : (n : ℕ) (times : List ℕ) (seen : List Bool) (work : Vec ℕ) → length times ≡ n → length seen ≡ n → work.items ≡ [] → n ≤ vec_capacity work → IsReady times seen work
ready_search n times seen work long flags idle room = record {
  long = flags ∙ sym long;
  fits = omega (arith, ap length idle, unset_within seen, flags, long);
  room = omega (arith, room, long);
}

-- each stamp is below NOW
pub times_below : (held stamps times : List ℕ) → AreTimes held stamps times → ((o : ℕ) → Contains held o → o < length stamps) → All (λ t. t < NOW) stamps → All (λ t. t ≤ NOW) times
times_below held stamps times begins within below k d lt =
    let inside : k < length held = omega (arith, begins.long) in
    omega (arith, get_or_default times k d 0 lt, begins.each k inside, below (get_or held k 0) 0 (within (get_or held k 0) (Contains-get_or held k 0 inside)))

-- there are places for fewer, too
pub places_least : (m n m' n' : ℕ) (w : Work) → m ≤ m' → n ≤ n' → HasWorkPlaces m' n' w → HasWorkPlaces m n w
places_least m n m' n' w less few h = record {
  runs = omega (arith, h.runs);
  ranks = record { blocks = h.ranks.blocks; ranks = omega (arith, h.ranks.ranks) };
  times = omega (arith, h.times);
  reached = omega (arith, h.reached);
  seen = omega (arith, h.seen);
  waiting = omega (arith, h.waiting);
  held = omega (arith, h.held);
  deaths = omega (arith, h.deaths);
}
