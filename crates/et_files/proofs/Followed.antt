-- WHAT FOLLOWED the lines of some bytes followed those of the trace.
use Rattle.std.proofs.Common.{ℕ, inl, inr, List, Result, Ok, Err, IfOk, refl}
use Rattle.et_base.specs.declared.line.TraceLine.{TraceLine}
use Rattle.et_base.specs.declared.format.Format.{Format}
use Rattle.et_base.specs.declared.format.Format.TheVariants as formats
use Rattle.et_text.specs.Rules.{IsGoodTrace}
use Rattle.et_convert.specs.Spellings.{format_in, SpellsIn, SpellsTrace}
use Rattle.et_files.specs.Faults.{Fault}
use Rattle.et_files.specs.Following.{TellsOf}
use Rattle.et_files.specs.declared.refusal.Refusal.{Refusal}
use Rattle.et_files.proofs.Found.{tells_more}

pub tells_of_by : {A B : Type 0} (read : Type 0) (P Q : B → A → Type 0) (found : Result B Fault) (r : Result A Refusal) → ((b : B) (a : A) → P b a → Q b a) → TellsOf ⊥ P found r → TellsOf read Q found r
tells_of_by read P Q found (Ok a) f h = (h.0, h.1, f h.0 a h.2)
tells_of_by read P Q found (Err r) f h = tells_more read (λ b. b) found (Err r) h

pub followed_by : {A B E : Type 0} (P Q : B → A → Type 0) (r : Result A E) → ((b : B) (a : A) → P b a → Q b a) → IfOk r (λ a. (b : B) × P b a) → IfOk r (λ a. (b : B) × Q b a)
followed_by P Q (Ok a) f h = (h.0, f h.0 a h.1)
followed_by P Q (Err e) f h = tt

-- the lines of a good text or pack are a trace
good_in : (format : Format) (lines : List TraceLine) (bytes : List ℕ) → SpellsIn format lines bytes → IsGoodTrace lines
good_in formats.Text lines bytes s = record { version = 1; known = inl refl; good = s.good }
good_in formats.Binary lines bytes s = record { version = 2; known = inr refl; good = s.good }

pub good_spelled : (lines : List TraceLine) (bytes : List ℕ) → SpellsTrace lines bytes → IsGoodTrace lines
good_spelled lines bytes s = good_in (format_in bytes) lines bytes s
