-- What a trace comes to.
use Rattle.std.proofs.Common.{◌≡◌, ℕ, ◌+◌, ◌-◌, ◌≤◌, ◌<◌, ◌^◌, inl, inr, Option, Some, List, [], ◌∷◌, ◌++◌, length, get_or, take, drop, reverse, sym, ap, subst, ◌∙◌, arith}
use Rattle.std.proofs.lemmas.List.{take-append-drop, take_more, take_all, reverse-append}
use Rattle.std.proofs.lemmas.Option.{slice_get_cases}
use Rattle.et_base.specs.declared.line.TraceLine.{TraceLine}
use Rattle.et_base.specs.declared.line.TraceLine.TheVariants.{Finish}
use Rattle.et_text.specs.Rules.{AreFine}
use Rattle.et_replay.specs.declared.item.Item.{Item}
use Rattle.et_replay.specs.declared.model.Policy.{Policy}
use Rattle.et_replay.specs.declared.model.Report.{Report}
use Rattle.et_replay.specs.Seats.{IsFinal}
use Rattle.et_replay.proofs.Seating.{final_stays}
use Rattle.et_files.specs.Loaded.{event_of_end, last_event}

-- the last element comes first in reverse
last_first : {A : Type 0} (xs : List A) (n : ℕ) (d : A) → length xs ≡ n + 1 → reverse xs ≡ get_or xs n d ∷ reverse (take n xs)
last_first {A} xs n d long =
    let lt : n < length xs = omega (arith, long) in
    ap (λ (t : List A). reverse t) (sym (take_all (n + 1) xs (omega (arith, long))) ∙ take_more xs n d lt) ∙ reverse-append (take n xs) (get_or xs n d ∷ [])

event_low : (version : ℕ) (line : TraceLine) (past : List TraceLine) → AreFine version (line ∷ past) → event_of_end (Some line) ≤ 2 ^ 40
event_low version (Finish event how) past fine = fine.1.0
event_low version _ past fine = omega arith

-- the last event of a good trace is in range
pub end_low : (version : ℕ) (lines : List TraceLine) → AreFine version (reverse lines) → last_event lines ≤ 2 ^ 40
end_low version lines fine = elim ((slice_get_cases lines (length lines - 1)).1) [
  | inl h ↦ (let n = length lines - 1 in
      let inside : n < length lines = h.1 in
      let here : reverse lines ≡ h.0 ∷ reverse (take n lines) = last_first lines n h.0 (omega (arith, inside)) ∙ ap (λ (x : TraceLine). x ∷ reverse (take n lines)) h.3 in
      subst (λ (o : Option TraceLine). event_of_end o ≤ 2 ^ 40) (sym h.2) (event_low version h.0 (reverse (take n lines)) (subst (AreFine version) here fine)))
  | inr h ↦ subst (λ (o : Option TraceLine). event_of_end o ≤ 2 ^ 40) (sym h.1) (omega arith)
]

-- the report of a heap that is exhausted is final, whatever comes
final_on : (report : Report) (policy : Policy) (more past : List Item) → IsFinal report policy past → IsFinal report policy (more ++ past)
final_on report policy [] past final = final
final_on report policy (item ∷ more) past final = final_stays report policy item (more ++ past) (final_on report policy more past final)

pub final_at : (report : Report) (policy : Policy) (items : List Item) (i : ℕ) → IsFinal report policy (reverse (take i items)) → IsFinal report policy (reverse items)
final_at report policy items i final =
    subst (λ (t : List Item). IsFinal report policy t) (sym (reverse-append (take i items) (drop i items)) ∙ ap (λ (t : List Item). reverse t) (take-append-drop i items))
    (final_on report policy (reverse (drop i items)) (reverse (take i items)) final)
