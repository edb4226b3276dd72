-- What holds of a reading by steps.
use Rattle.std.proofs.Common.{◌≡◌, Bool, true, false, cond, Option, Some, None, Result, Ok, Err, refl}
use Rattle.std.specs.Prelude.{ok_or}
use Rattle.et_base.specs.Steps.{◌>>=◌}

-- a claim on what a step and the rest give, from the claim on each fault and on the rest behind each value
pub by_bind : {A B E : Type 0} (P : Result B E → Type 0) (r : Result A E) (f : A → Result B E) → ((e : E) → r ≡ Err e → P (Err e)) → ((x : A) → r ≡ Ok x → P (f x)) → P (r >>= f)
by_bind P (Ok x) f bad good = good x refl
by_bind P (Err e) f bad good = bad e refl

pub by_if : {B : Type 0} (P : B → Type 0) (b : Bool) (x y : B) → (b ≡ true → P x) → (b ≡ false → P y) → P (cond b x y)
by_if P true x y h i = h refl
by_if P false x y h i = i refl

pub ok_some : {A E : Type 0} (o : Option A) (e : E) (x : A) → ok_or o e ≡ Ok x → o ≡ Some x
ok_some None e x h = cc
ok_some (Some y) e x h = cc

pub some_ok : {A E : Type 0} (o : Option A) (e : E) (x : A) → o ≡ Some x → ok_or o e ≡ Ok x
some_ok o e x h = cc

pub bind_ok : {A B E : Type 0} (r : Result A E) (f : A → Result B E) (x : A) (y : Result B E) → r ≡ Ok x → f x ≡ y → (r >>= f) ≡ y
bind_ok r f x y h i = cc
