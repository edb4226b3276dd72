use Rattle.std.proofs.Common.{◌≡◌, ◌||◌, ◌<◌, ℕ, Bool, false, nat_lt, get_or, List, length, vec_len, refl, subst, ap, ◌∙◌, arith}
use Rattle.std.specs.Vec.{with_items}
use Rattle.std.proofs.lemmas.List.{with_items_is}
use Rattle.et_graph.specs.Times.{set_each, AreWithin, ArePairsWithin, Carries}
use Rattle.et_graph.specs.Order.{HasSearchRoom}
use Rattle.et_graph.specs.Listing.{listed}
use Rattle.et_graph.proofs.objects.Objects.find_deaths.Goals as goal

pub carry-requires-clause-pairs : goal.carry-requires-clause-pairs
carry-requires-clause-pairs c =
    let is : c.deref_mut.result.now ≡ c.args.self.now.stamps.items = c.deref_mut.ensures.value ∙ c.extend.ensures.items ∙ rw (c.clear.ensures.items, c.deref.ensures.value) refl in
    let long : vec_len c.args.self.now.stamps ≡ length c.deref_mut.result.now = omega (arith, c.args.self.now.stamps.ok.0, ap (λ (xs : List ℕ). length xs) is) in
    subst (λ (n : ℕ). ArePairsWithin n c.args.pairs.now) long c.requires.pairs

pub carry-requires-clause-roots : goal.carry-requires-clause-roots
carry-requires-clause-roots c =
    let is : c.deref_mut.result.now ≡ c.args.self.now.stamps.items = c.deref_mut.ensures.value ∙ c.extend.ensures.items ∙ rw (c.clear.ensures.items, c.deref.ensures.value) refl in
    let long : vec_len c.args.self.now.stamps ≡ length c.deref_mut.result.now = omega (arith, c.args.self.now.stamps.ok.0, ap (λ (xs : List ℕ). length xs) is) in
    subst (λ (n : ℕ). AreWithin n c.args.roots.now) long c.requires.roots

pub returns : goal.returns
returns c =
    let is : c.deref_mut.result.now ≡ c.args.self.now.stamps.items = c.deref_mut.ensures.value ∙ c.extend.ensures.items ∙ rw (c.clear.ensures.items, c.deref.ensures.value) refl in
    let long : length c.deref_mut.result.now ≡ length c.args.self.now.stamps.items = ap (λ (xs : List ℕ). length xs) is in
    let times_is : (with_items c.extend.new.v c.carry.new.times).items ≡ c.carry.new.times =
    with_items_is c.extend.new.v c.carry.new.times (c.carry.auto.times ∙ c.deref_mut.ensures.len) in
    let gone_is : (with_items c.args.self.now.gone c.mark_gone.new.gone).items ≡ c.mark_gone.new.gone =
    with_items_is c.args.self.now.gone c.mark_gone.new.gone (c.mark_gone.auto.gone ∙ c.deref_mut-2.ensures.len) in
    record {
      stamps = refl;
      carries = rw times_is (subst (λ (ts : List ℕ). Carries c.args.pairs.now (set_each c.args.roots.now c.args.top ts) c.carry.new.times) is c.carry.ensures.carries);
      settled = rw times_is c.carry.ensures.settled;
      deaths =
          c.list_deaths.ensures.listed
          ∙ ap (λ (ts : List ℕ). listed 1 c.args.top ts c.deref-3.result.now) c.deref-2.ensures.value
          ∙ ap (λ (fs : List Bool). listed 1 c.args.top (with_items c.extend.new.v c.carry.new.times).items fs) c.deref-3.ensures.value;
      gone_long = ap (λ (fs : List Bool). length fs) gone_is ∙ c.mark_gone.auto.gone ∙ ap (λ (fs : List Bool). length fs) c.deref_mut-2.ensures.value;
      marked = λ k lt.
          let within : k < length c.mark_gone.new.gone = omega (arith, lt, ap (λ (fs : List Bool). length fs) gone_is) in
          ap (λ (fs : List Bool). get_or fs k false) gone_is
          ∙ c.mark_gone.ensures k within
          ∙ ap (λ (fs : List Bool). (get_or fs k false || nat_lt (get_or c.deref-4.result.now k 0) c.args.top)) c.deref_mut-2.ensures.value
          ∙ ap (λ (ts : List ℕ). (get_or c.args.self.now.gone.items k false || nat_lt (get_or ts k 0) c.args.top)) c.deref-4.ensures.value;
      places = record {
        stamps = omega (arith, c.requires.places.stamps, c.args.self.now.stamps.ok.0);
        gone = omega (arith, c.requires.places.gone, c.args.self.now.stamps.ok.0);
        times = omega (arith, c.requires.places.times, c.args.self.now.stamps.ok.0, c.clear.ensures.capacity, c.extend.ensures.grows);
        deaths =
            omega (arith, c.list_deaths.ensures.room, ap (λ (xs : List ℕ). length xs) c.deref-2.ensures.value, ap (λ (xs : List ℕ). length xs) times_is, c.carry.auto.times, long);
        room = subst (λ (n : ℕ). HasSearchRoom n c.carry.new.room) long c.carry.ensures.room;
      };
    }
