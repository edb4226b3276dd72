-- The event in which a string is made of a text.
use Rattle.std.proofs.Common.{◌≡◌, ℕ, ◌<◌, ◌≤◌, List, [], ◌∷◌, ◌++◌, length, drop, All, Option, Some, refl, sym, ap, subst, ◌∙◌}
use Rattle.std.specs.Map.{keys_of}
use Rattle.std.specs.Prelude.{codes}
use Rattle.et_base.specs.declared.value.Value.TheVariants.{Ref}
use Rattle.et_builtins.proofs.Standing.{length_arguments}
use Rattle.et_event.specs.Answered.{TextAnswers}
use Rattle.et_event.specs.BuiltIns.{answering}
use Rattle.et_event.specs.Calls.{arguments_of}
use Rattle.et_event.specs.Errors.{class_called}
use Rattle.et_event.specs.Moments.{Doing, begins, instance_made, moment, next_object}
use Rattle.et_event.specs.Sites.{Site}
use Rattle.et_event.specs.TextRows.{rewrites, text_given}
use Rattle.et_heap.specs.Objects.{IsHeld, Objects, new_object}
use Rattle.et_heap.proofs.HeapLists.{held_within}
use Rattle.et_event.specs.Making.{MakesObject}
use Rattle.et_program.specs.Entries.{Linked, class_at}
use Rattle.et_state.specs.Moves.{Led}
use Rattle.et_state.specs.Outcome.{Outcome}
use Rattle.et_state.specs.State.{Kept, MachineState, kept_of}
use Rattle.et_state.specs.Texts.{Texts, given_text, longest_text, most_units, no_texts, text_units, with_text}
use Rattle.et_state.specs.Words.{ticked, top, with_top}
use Rattle.et_state.specs.declared.ends.EventEnd.TheVariants as ends
use Rattle.et_state.specs.declared.records.Record.{Record}
use Rattle.et_strings.specs.Calls.{text_moment}
use Rattle.et_strings.proofs.Answering.{led-silent, limit-beside, rewrites-goes, rewrites-limit}
use Rattle.et_strings.proofs.Entries.{given-fresh}

-- the object that is made next has no text yet
pub none_newest : (heap : Objects) (x : Texts) → All (IsHeld heap) (keys_of x) → given_text x (length heap) ≡ []
none_newest heap x owned = given-fresh x (length heap) (λ k d lt. held_within heap _ (owned k d lt))

-- WHAT THE ROW SAYS

abbrev pub made : Linked → MachineState → Texts → ℕ → ℕ → Site → Doing
made p m x t n at =
    let e = text_moment p m x t in
    answering e at (arguments_of e n) (Ref (next_object (begins e)) ∷ []) (instance_made e (class_called p (codes "java/lang/String")) (begins e))

abbrev pub making : Linked → MachineState → Texts → ℕ → ℕ → Site → List ℕ → Outcome Kept
making p m x t n at units = let e = text_moment p m x t in rewrites e (begins e) (next_object (begins e)) units (made p m x t n at)

abbrev pub MakesString : Linked → ℕ → Option ℕ → MachineState → MachineState → List Record → List Record → Type 0
MakesString p t o m m₁ out out' = MakesObject (instance_made (moment p m t) (class_called p (codes "java/lang/String")) (begins (moment p m t))) o m m₁ out out'

-- the units don't fit
pub string-limit : (p : Linked) (m : MachineState) (x : Texts) (t n : ℕ) (at : Site) (units : List ℕ) (out : List Record) → length units ≤ longest_text → most_units < text_units (with_text (length m.heap) units x)
    → TextAnswers (making p m x t n at units) ends.ObjectLimit m m x x out out
string-limit p m x t n at units out short many = limit-beside (making p m x t n at units) m x out (rewrites-limit (text_moment p m x t) (length m.heap) units (made p m x t n at) short many)

-- it is made and given
pub string-given : (p : Linked) (m m₁ m' : MachineState) (x x' : Texts) (t n o pc : ℕ) (at : Site) (units : List ℕ) (out out' : List Record) → m.guest.texts ≡ no_texts → n ≤ length (top m.guest t).operands → at.next ≡ pc
    → length units ≤ longest_text → text_units (with_text (length m.heap) units x) ≤ most_units → MakesString p t (Some o) m m₁ out out' → x' ≡ with_text o units x
    → Led (kept_of m) (record {
      heap = m.heap ++ Some (new_object (class_called p (codes "java/lang/String")) 0 (class_at p (class_called p (codes "java/lang/String"))).info.slots) ∷ [];
      guest = with_top (ticked m.guest) t (record (top m.guest t) { pc = pc; operands = Ref o ∷ drop n (top m.guest t).operands });
    }) m'
    → TextAnswers (making p m x t n at units) ends.Done m m' x x' out out'
string-given p m m₁ m' x x' t n o pc at units out out' none le next short few new given led =
    let e = text_moment p m x t in
    let class : ℕ = class_called p (codes "java/lang/String") in
    let kept : ℕ → ℕ → ℕ → Kept =
    λ k q j. record { heap = m.heap ++ Some (new_object class 0 (class_at p class).info.slots) ∷ []; guest = with_top (ticked m.guest) t (record (top m.guest t) { pc = q; operands = Ref k ∷ drop j (top m.guest t).operands }) } in
    let same : kept o pc n ≡ kept (length m.heap) at.next (length (arguments_of e n)) =
    ap (λ (k : ℕ). kept k pc n) new.1 ∙ (ap (λ (q : ℕ). kept (length m.heap) q n) (sym next) ∙ ap (λ (j : ℕ). kept (length m.heap) at.next j) (sym (length_arguments (top m.guest t).operands n le))) in
    let with : Kept = (text_given (length m.heap) units (made p m x t n at)).state in
    subst (λ (k : Outcome Kept). TextAnswers k ends.Done m m' x x' out out') (sym (rewrites-goes e (length m.heap) units (made p m x t n at) short new.0 few))
    (led-silent (kept (length m.heap) at.next (length (arguments_of e n))) with m m' none refl (subst (λ (k : Kept). Led (kept_of m) k m') same led), given ∙ ap (λ (k : ℕ). with_text k units x) new.1, new.3)
