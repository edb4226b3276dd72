-- What an int on top chooses.
use Rattle.std.proofs.Common.{◌≡◌, ℤ, pos, List, [], ◌∷◌, Option, Some, None, drop, get_or, ap}
use Rattle.std.specs.Prelude.{unwrap_or}
use Rattle.et_base.specs.declared.value.Value.{Value}
use Rattle.et_base.specs.declared.value.Value.TheVariants.{Unset, Int, Long, LongHigh, Null, Ref}
use Rattle.et_state.specs.Threads.{FrameState}
use Rattle.et_event.specs.Checks.{with_int}
use Rattle.et_event.specs.Tops.{int_of}

pub int_on_top : (ops : List Value) (k : ℤ) (go : ℤ → List Value → Option FrameState) → int_of (get_or ops 0 Unset) ≡ Some k → with_int None ops go ≡ go k (drop 1 ops)
int_on_top [] k go e = cc
int_on_top (Unset ∷ below) k go e = cc
int_on_top (Int n ∷ below) k go e = ap (λ (z : ℤ). go z below) (ap (λ (x : Option ℤ). unwrap_or x (pos 0)) e)
int_on_top (Long n ∷ below) k go e = cc
int_on_top (LongHigh ∷ below) k go e = cc
int_on_top (Null ∷ below) k go e = cc
int_on_top (Ref o ∷ below) k go e = cc
