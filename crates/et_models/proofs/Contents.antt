-- What stands in slots.
use Rattle.std.proofs.Common.{◌≡◌, ◌≢◌, ℕ, zero, suc, ◌<◌, length, get_or, arith, Bool, true, false, cond, ◌&&◌, eqb, List, [], ◌∷◌, refl, sym, ap, subst, ◌∙◌, inl, inr}
use Rattle.std.specs.Prelude.{Contains}
use Rattle.std.specs.List.{filter_map}
use Rattle.std.proofs.lemmas.Bool.{cases_Bool}
use Rattle.et_base.proofs.Lists.{Contains-none, Contains-here, Contains-there, Contains-cons}
use Rattle.et_base.proofs.Tests.{cases_eqb}
use Rattle.et_replay.specs.declared.item.Item.{Item}
use Rattle.et_replay.specs.declared.item.Item.TheVariants.{Alloc, Write, Death}
use Rattle.et_replay.specs.Heap.{is_made, content, slot_written_by}
use Rattle.et_replay.proofs.Coming.{made_stays}

both_true : (a b c : Bool) → (a && b && c) ≡ true → (a ≡ true) × (b ≡ true) × (c ≡ true)
both_true true true true e = (refl, refl, refl)
both_true true true false e = absurd cc
both_true true false c e = absurd cc
both_true false b c e = absurd cc

-- what stands in a slot was written to a made object
pub content_made : (past : List Item) (o s : ℕ) → content past o s ≢ 0 → is_made past o ≡ true
content_made [] o s ne = absurd (ne refl)
content_made (Alloc event object size ∷ past) o s ne = made_stays past (Alloc event object size) o (content_made past o s ne)
content_made (Death object time ∷ past) o s ne = content_made past o s ne
content_made (Write event other at new ∷ past) o s ne = elim (cases_Bool (eqb other o && eqb at s && is_made past o)) [
  | inl e ↦ (both_true (eqb other o) (eqb at s) (is_made past o) e).2
  | inr e ↦ content_made past o s (λ z. ne (ap (λ (b : Bool). cond b new (content past o s)) e ∙ z))
]

-- .. by one of the Write items
pub slots_have : (whole past : List Item) (o s : ℕ) → content past o s ≢ 0 → Contains (filter_map (slot_written_by whole) past) (o, content whole o s)
slots_have whole [] o s ne = absurd (ne refl)
slots_have whole (Alloc event object size ∷ past) o s ne = slots_have whole past o s ne
slots_have whole (Death object time ∷ past) o s ne = slots_have whole past o s ne
slots_have whole (Write event other at new ∷ past) o s ne = elim (cases_Bool (eqb other o && eqb at s && is_made past o)) [
  | inl e ↦
      let t = both_true (eqb other o) (eqb at s) (is_made past o) e in
      let a : other ≡ o = elim (cases_eqb other o) [ inl x ↦ x.1 | inr x ↦ (let y = x.0 in let z = t.0 in cc) ] in
      let b : at ≡ s = elim (cases_eqb at s) [ inl x ↦ x.1 | inr x ↦ (let y = x.0 in let z = t.1 in cc) ] in
      let same : (other, content whole other at) ≡ (o, content whole o s) = cc in
      subst (λ (p : ℕ × ℕ). Contains ((other, content whole other at) ∷ filter_map (slot_written_by whole) past) p) same (Contains-here (other, content whole other at) (filter_map (slot_written_by whole) past))
  | inr e ↦ Contains-there (other, content whole other at) (filter_map (slot_written_by whole) past) (o, content whole o s) (slots_have whole past o s (λ z. ne (ap (λ (b : Bool). cond b new (content past o s)) e ∙ z)))
]

-- and nothing else is listed
pub slots_only : (whole past : List Item) (o t : ℕ) → Contains (filter_map (slot_written_by whole) past) (o, t) → (s : ℕ) × (content whole o s ≡ t)
slots_only whole [] o t h = absurd (Contains-none (o, t) h)
slots_only whole (Alloc event object size ∷ past) o t h = slots_only whole past o t h
slots_only whole (Death object time ∷ past) o t h = slots_only whole past o t h
slots_only whole (Write event other at new ∷ past) o t h = elim (Contains-cons (other, content whole other at) (filter_map (slot_written_by whole) past) (o, t) h) [
  | inl e ↦ (let a : other ≡ o = ap (λ (p : ℕ × ℕ). p.0) e in let b : content whole other at ≡ t = ap (λ (p : ℕ × ℕ). p.1) e in (at, ap (λ (k : ℕ). content whole k at) (sym a) ∙ b))
  | inr r ↦ slots_only whole past o t r
]

-- an element of a list stands at its place, whatever stands for what is missing
pub element : {A : Type 0} (xs : List A) (i : ℕ) → i < length xs → (x : A) × (x ≡ get_or xs i x)
element {A} [] i lt = absurd (omega (arith, lt))
element {A} (x ∷ xs) zero lt = (x, refl)
element {A} (x ∷ xs) (suc i) lt = let r = element xs i (omega (arith, lt)) in (r.0, r.1)
