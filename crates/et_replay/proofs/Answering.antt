-- What a model answers to an item that it took.
use Rattle.std.proofs.Common.{◌≡◌, Bool, true, false, cond, ℕ, Option, sym, subst}
use Rattle.std.specs.Prelude.{is_some}
use Rattle.et_replay.specs.declared.model.Fed.{Fed}
use Rattle.et_replay.specs.declared.model.Fed.TheVariants as fed
use Rattle.et_replay.specs.Feeding.{OnTaken, TellsExhausted}

pub on_taken : {P : Type 0} (exhausted : Option ℕ) (answer : Fed) → answer ≡ cond (is_some exhausted) fed.Exhausted fed.Ok → P → OnTaken answer P
on_taken {P} exhausted answer is p = subst (λ (f : Fed). OnTaken f P) (sym is) (by (is_some exhausted))
  where
    by : (b : Bool) → OnTaken (cond b fed.Exhausted fed.Ok) P
    by true = p
    by false = p

pub tells_exhausted : (exhausted : Option ℕ) (answer : Fed) (b : Bool) → answer ≡ cond (is_some exhausted) fed.Exhausted fed.Ok → is_some exhausted ≡ b → TellsExhausted answer b
tells_exhausted exhausted answer b is same = subst (λ (f : Fed). TellsExhausted f b) (sym is) (by (is_some exhausted) same)
  where
    by : (e : Bool) → e ≡ b → TellsExhausted (cond e fed.Exhausted fed.Ok) b
    by true s = sym s
    by false s = sym s
