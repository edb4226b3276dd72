-- What a file that is held says of the command that reads it.
use Rattle.std.proofs.Common.{◌≡◌, ℕ, suc, ◌-◌, ◌<◌, ◌≤◌, ◌↔◌, Bool, true, false, List, [], ◌∷◌, ◌++◌, length, length-append, Some, Result, Ok, Err, refl, sym, ◌∙◌, ap, subst, arith}
use Rattle.std.specs.Prelude.{nat_le, slice_get, if◌then◌else◌}
use Rattle.std.proofs.lemmas.Bool.Decides.{nat_tests}
use Rattle.et_base.specs.declared.line.TraceLine.{TraceLine}
use Rattle.et_base.specs.declared.line.TraceLine.TheVariants.{Finish}
use Rattle.et_graph.specs.Graph.{Graph}
use Rattle.et_io.specs.Sink.{Log, taken_bytes, with_more}
use Rattle.et_io.proofs.Taking.{bytes_of_taken}
use Rattle.et_files.specs.Faults.{Fault, BadEvent}
use Rattle.et_files.specs.Loaded.{IsTraceOf, event_of_end, last_event, reaching}
use Rattle.et_top.specs.Top.{Defined, Writes, defined_text}

bytes_in : Log → List ℕ
bytes_in (Some marks) = taken_bytes marks
bytes_in _ = []

-- what an output took that began empty is one text
pub one_text : (a b : List ℕ) → with_more (Some []) a ≡ with_more (Some []) b → a ≡ b
unfolding bytes_in
one_text a b e = sym (bytes_of_taken a) ∙ (ap bytes_in e ∙ bytes_of_taken b)

-- what a command that reads a trace is defined to write, where the trace has these lines
module _ (text : (Graph → ℕ → Bool) → List TraceLine → List ℕ) (file : Result (List ℕ) Fault) (lines : List TraceLine) (read : (trace : Result (List TraceLine) Fault) → IsTraceOf file trace ↔ (trace ≡ Ok lines)) (d : Defined) where
  pub text_defined : ((trace : Result (List TraceLine) Fault) × IsTraceOf file trace × (d ≡ defined_text text trace)) ↔ (d ≡ Writes (λ reached. text reached lines))
  text_defined = (
    λ h. h.2 ∙ ap (defined_text text) ((read h.0).0 h.1),
    λ e. (Ok lines, (read (Ok lines)).1 refl, e),
  )

lines_or : Result (List TraceLine) Fault → List TraceLine
lines_or (Ok lines) = lines
lines_or _ = []

pub lines_same : (a b : List TraceLine) → ◌≡◌ {A = Result (List TraceLine) Fault} (Ok a) (Ok b) → a ≡ b
unfolding lines_or
lines_same a b e = ap lines_or e

-- AN EVENT OF A TRACE

last_line : (xs : List TraceLine) (y : TraceLine) → slice_get (xs ++ y ∷ []) (length (xs ++ y ∷ []) - 1) ≡ Some y
last_line [] y = refl
last_line (x ∷ xs) y =
    let long = length-append xs (y ∷ []) in
    let next : length (x ∷ xs ++ y ∷ []) - 1 ≡ suc (length (xs ++ y ∷ []) - 1) = omega (arith, long) in
    ap (slice_get (x ∷ xs ++ y ∷ [])) next ∙ last_line xs y

pub last_of : (xs : List TraceLine) (last how : ℕ) → last_event (xs ++ Finish last how ∷ []) ≡ last
last_of xs last how = ap event_of_end (last_line xs (Finish last how))

-- the trace with these lines, where it doesn't end before the event, or else that it does
reaching_by : (b : Bool) (e last : ℕ) (lines : List TraceLine) → nat_le e last ≡ b → e ≤ last → (if b then Ok lines else Err (BadEvent e)) ≡ Ok lines
reaching_by true e last lines is le = refl
reaching_by false e last lines is le = grind (arith, nat_tests)

behind_by : (b : Bool) (e last : ℕ) (lines : List TraceLine) → nat_le e last ≡ b → last < e → (if b then Ok lines else Err (BadEvent e)) ≡ Err (BadEvent e)
behind_by true e last lines is lt = grind (arith, nat_tests)
behind_by false e last lines is lt = refl

pub event_reached : (e last : ℕ) (lines : List TraceLine) → last_event lines ≡ last → e ≤ last → reaching e (Ok lines) ≡ Ok lines
event_reached e last lines is le = reaching_by (nat_le e (last_event lines)) e (last_event lines) lines refl (subst (λ n. e ≤ n) (sym is) le)

pub event_behind : (e last : ℕ) (lines : List TraceLine) → last_event lines ≡ last → last < e → reaching e (Ok lines) ≡ Err (BadEvent e)
event_behind e last lines is lt = behind_by (nat_le e (last_event lines)) e (last_event lines) lines refl (subst (λ n. n < e) (sym is) lt)

-- what `snapshot` is defined to be, where the trace has these lines
module _ (text : (Graph → ℕ → Bool) → List TraceLine → List ℕ) (e : ℕ) (file : Result (List ℕ) Fault) (lines : List TraceLine) (read : (trace : Result (List TraceLine) Fault) → IsTraceOf file trace ↔ (trace ≡ Ok lines)) (d : Defined) (found : Result (List TraceLine) Fault) (is : reaching e (Ok lines) ≡ found) where
  pub event_defined : ((trace : Result (List TraceLine) Fault) × IsTraceOf file trace × (d ≡ defined_text text (reaching e trace))) ↔ (d ≡ defined_text text found)
  event_defined = (
    λ h. h.2 ∙ (ap (λ trace. defined_text text (reaching e trace)) ((read h.0).0 h.1) ∙ ap (defined_text text) is),
    λ e'. (Ok lines, (read (Ok lines)).1 refl, e' ∙ ap (defined_text text) (sym is)),
  )
