-- The code of a base type has 8 bits.
use Rattle.std.proofs.Common.{◌≡◌, ℕ, suc, ◌+◌, ◌<◌, ◌≤◌, ◌^◌, Bool, true, false, cond, List, [], ◌∷◌, length, get_or, None, Some, refl, ◌∙◌, ap, arith}
use Rattle.std.specs.List.{position_from}
use Rattle.std.proofs.lemmas.Bool.{eqb-true}
use Rattle.std.specs.Prelude.{◌==◌}
use Rattle.et_program.specs.declared.info.Element.{Element}
use Rattle.et_program.specs.declared.info.Element.TheVariants.{NoArray, Base, Class}
use Rattle.et_program.specs.Entries.{ClassEntry, Linked, no_class}
use Rattle.et_program.specs.Members.{is_base_array, base_array}
use Rattle.et_event.specs.Programs.{IsElementWithin, AreElementsWithin}

other_code : (k kind : ℕ) (b : Bool) → (k == kind) ≡ b → k < 2 ^ 8 → 2 ^ 8 ≤ kind → b ≡ false
other_code k kind true e small large = absurd (omega (arith, eqb-true k kind e))
other_code k kind false e small large = refl

none_such : (n kind : ℕ) (element : Element) → 2 ^ 8 ≤ kind → IsElementWithin n element → is_base_array kind element ≡ false
none_such n kind NoArray large h = refl
none_such n kind (Base k) large h = other_code k kind (k == kind) refl h large
none_such n kind (Class c) large h = refl

nowhere : (n kind i : ℕ) (cs : List ClassEntry) → 2 ^ 8 ≤ kind → ((c : ℕ) → c < length cs → IsElementWithin n (get_or cs c no_class).info.element) → position_from (λ (c : ClassEntry). is_base_array kind c.info.element) i cs ≡ None
nowhere n kind i [] large h = refl
nowhere n kind i (x ∷ cs) large h =
    ap (λ (b : Bool). cond b (Some i) (position_from (λ (c : ClassEntry). is_base_array kind c.info.element) (i + 1) cs)) (none_such n kind x.info.element large (h 0 (omega arith)))
    ∙ nowhere n kind (i + 1) cs large (λ c lt. h (suc c) (omega arith))

pub no_base_array : (p : Linked) (kind : ℕ) → AreElementsWithin p → 2 ^ 8 ≤ kind → base_array p kind ≡ None
no_base_array p kind within large = nowhere (length p.classes) kind 0 p.classes large within
