-- What grew twice grew.
use Rattle.std.proofs.Common.{◌≡◌, ℕ, List, [], ◌++◌, sym, ap, ◌∙◌, append_assoc}
use Rattle.std.proofs.lemmas.List.{append-nil}
use Rattle.et_text.specs.Extends.{Extends}

pub extends_on : (old mid new a : List ℕ) → mid ≡ old ++ a → Extends mid new → Extends old new
extends_on old mid new a e h = record { more = a ++ h.more; grown = h.grown ∙ (ap (λ (t : List ℕ). t ++ h.more) e ∙ append_assoc old a h.more) }

pub extends_none : (old : List ℕ) → Extends old old
extends_none old = record { more = []; grown = sym (append-nil old) }

pub extends_at : (old new : List ℕ) → new ≡ old → Extends old new
extends_at old new e = record { more = []; grown = e ∙ sym (append-nil old) }
