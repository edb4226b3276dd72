-- Strings that are kept: their objects, and what one more brings.
use Rattle.std.proofs.Common.{◌≡◌, ℕ, ◌==◌, ◌<◌, Bool, true, false, cond, List, [], ◌∷◌, ◌++◌, Option, Some, None, refl, ap, subst, arith, Contains}
use Rattle.std.specs.Prelude.{find}
use Rattle.std.specs.Option.{option_map}
use Rattle.std.specs.Str.{bytes_eq}
use Rattle.std.proofs.lemmas.Bool.{eqb-true}
use Rattle.std.proofs.lemmas.Option.{none-some, same_Some}
use Rattle.et_base.proofs.Lists.{Contains-here, Contains-there, same_bytes}
use Rattle.et_base.proofs.Options.{some-none}
use Rattle.et_state.specs.Interned.{object_of, interned_text, interned_objects}

pub object_step : (b : Bool) (v : ℕ) (vs : List ℕ) (r : Option ℕ) (o : ℕ) → (r ≡ Some o → Contains vs o) → cond b (Some v) r ≡ Some o → Contains (v ∷ vs) o
object_step true v vs r o ih h = subst (λ (k : ℕ). Contains (v ∷ vs) k) (same_Some v o h) (Contains-here v vs)
object_step false v vs r o ih h = Contains-there v vs o (ih h)

pub push_step : (b : Bool) (v n : ℕ) (r r' : Option ℕ) → (r ≡ None → r' ≡ Some n) → cond b (Some v) r ≡ None → cond b (Some v) r' ≡ Some n
push_step true v n r r' ih h = absurd (some-none v h)
push_step false v n r r' ih h = ih h

pub text_step : (b : Bool) (e : List ℕ × ℕ) (r : Option (List ℕ × ℕ)) → (b ≡ true → ⊥) → option_map (λ q. q.0) r ≡ None → option_map (λ q. q.0) (cond b (Some e) r) ≡ None
text_step true e r apart h = absurd (apart refl)
text_step false e r apart h = h

-- the object of a text is one of the objects that are kept
pub object_in : (es : List (List ℕ × ℕ)) (bytes : List ℕ) (o : ℕ) → object_of es bytes ≡ Some o → Contains (interned_objects es) o
object_in [] bytes o h = absurd (none-some o h)
object_in (e ∷ es) bytes o h = object_step (bytes_eq bytes e.0) e.1 (interned_objects es) (object_of es bytes) o (object_in es bytes o) h

-- a text that had none has the object that is put behind the others
pub object_pushed : (es : List (List ℕ × ℕ)) (bytes : List ℕ) (n : ℕ) → object_of es bytes ≡ None → object_of (es ++ (bytes, n) ∷ []) bytes ≡ Some n
object_pushed [] bytes n h = ap (λ (b : Bool). cond b (Some n) None) (same_bytes bytes)
object_pushed (e ∷ es) bytes n h = push_step (bytes_eq bytes e.0) e.1 n (object_of es bytes) (object_of (es ++ (bytes, n) ∷ []) bytes) (object_pushed es bytes n) h

-- an object above all that are kept has no text
pub no_text : (o : ℕ) (es : List (List ℕ × ℕ)) → ((q : ℕ) → Contains (interned_objects es) q → q < o) → interned_text es o ≡ None
no_text o [] h = refl
no_text o (e ∷ es) h =
    let lt : e.1 < o = h e.1 (Contains-here e.1 (interned_objects es)) in
    let other : (o == e.1) ≡ true → ⊥ = λ same. let is : o ≡ e.1 = eqb-true o e.1 same in omega arith in
    text_step (o == e.1) e (find (λ p. o == p.1) es) other (no_text o es (λ q c. h q (Contains-there e.1 (interned_objects es) q c)))
