use Rattle.std.proofs.Common.{◌≡◌, ℕ, ◌+◌, List, [], ◌∷◌, Option, None, Result, Ok, Err, refl, sym, ap, ◌∙◌, arith}
use Rattle.std.proofs.lemmas.Result.{IfOk-weaker}
use Rattle.et_pool.specs.Entries.{Item}
use Rattle.et_pool.specs.declared.descriptor.MethodShape.{MethodShape}
use Rattle.et_base.specs.Marks.{first_of_two, first_from, mark}
use Rattle.et_base.proofs.Firsts.{first_from-append}
use Rattle.et_code.specs.declared.body.TheConstants.{CODE}
use Rattle.et_code.specs.Bodies.{Body, body_of}
use Rattle.et_class.specs.declared.fault.TheConstants.{ATTRIBUTE}
use Rattle.et_class.specs.Along.{along}
use Rattle.et_class.specs.Layout.{AttributeOf, attribute_bytes}
use Rattle.et_class.specs.Fields.{attribute_marks}
use Rattle.et_class.specs.Codes.{CodeOf, code_body_at, code_at, body_marks}
use Rattle.et_class.specs.Methods.{arguments_fit_locals, code_attribute_marks}
use Rattle.et_class.specs.Kept.{kept_body, kept_attribute}
use Rattle.et_class.proofs.Coded.{IsNoCode, no_body, no_attributes, passed, too_long, is_code, code_size}
use Rattle.et_class.proofs.methods.check_code_attribute.Goals as goal

-- what is answered where the items don't fill the body
by_fault : (slots : List (Option Item)) (receiver : ℕ) (shape : Option MethodShape) (place : ℕ) (first r : Option (ℕ × ℕ)) (code : Result CodeOf (ℕ × ℕ)) (f : ℕ × ℕ) → code ≡ Err f → r ≡ first_of_two first (place, ATTRIBUTE)
    → (r ≡ first_from first (code_attribute_marks slots receiver shape place code)) × (None ≡ kept_attribute slots code)
unfolding first_from
by_fault slots receiver shape place first r code f h e = rw h (e, refl)

no_rules : (slots : List (Option Item)) (receiver : ℕ) (shape : Option MethodShape) (place : ℕ) (first r : Option (ℕ × ℕ)) (bytes : List ℕ) → IsNoCode bytes → r ≡ first_of_two first (place, ATTRIBUTE)
    → (r ≡ first_from first (code_attribute_marks slots receiver shape place (code_at bytes))) × (None ≡ kept_attribute slots (code_at bytes))
no_rules slots receiver shape place first r bytes n e = by_fault slots receiver shape place first r (code_at bytes) n.fault n.broken e

-- what is answered behind the attributes of the code, where they fill it
by_code : (slots : List (Option Item)) (receiver : ℕ) (shape : Option MethodShape) (place at : ℕ) (first found : Option (ℕ × ℕ)) (b : Body) (attributes : List AttributeOf) (code : Result CodeOf (ℕ × ℕ))
    → code ≡ Ok (record { body = b; first = at + 2; attributes = attributes })
    → found ≡ first_from first (along attribute_bytes (attribute_marks slots) [] (place + 6 + (at + 2)) attributes)
    → (x : Option (ℕ × ℕ) × Option Body)
    → (x.0 ≡ first_from found (mark (place + 10) CODE (arguments_fit_locals receiver b.max_locals shape) ∷ body_marks slots (place + 10) b)) × (x.1 ≡ kept_body slots b)
    → (x.0 ≡ first_from first (code_attribute_marks slots receiver shape place code)) × (x.1 ≡ kept_attribute slots code)
by_code slots receiver shape place at first found b attributes code h e x p =
    rw h (
      p.0 ∙ (ap (λ acc. first_from acc (mark (place + 10) CODE (arguments_fit_locals receiver b.max_locals shape) ∷ body_marks slots (place + 10) b)) e
          ∙ sym (first_from-append first (along attribute_bytes (attribute_marks slots) [] (place + 6 + (at + 2)) attributes) (mark (place + 10) CODE (arguments_fit_locals receiver b.max_locals shape) ∷ body_marks slots (place + 10) b))),
      p.1,
    )

pub returns-in-Err-At : goal.returns-in-Err-At
returns-in-Err-At c =
    let h : code_body_at c.args.body.now ≡ Err (c.in-Err-At.field-0-1, c.in-Err-At.field-0-0) = rw c.in-Err-At.field-0-is at c.in-Err-At.ensures in
    no_rules c.args.constants.now.pool.now.slots c.args.receiver c.args.shape c.args.place c.args.first c.mark.result c.args.body.now (no_body c.args.body.now (c.in-Err-At.field-0-1, c.in-Err-At.field-0-0) h) c.mark.ensures

pub returns-in-None : goal.returns-in-None
returns-in-None c =
    no_rules c.args.constants.now.pool.now.slots c.args.receiver c.args.shape c.args.place c.args.first c.mark-in-None.result c.args.body.now
    (no_attributes c.args.constants.now.pool.now.slots c.args.first (c.args.place + 6) c.args.body.now (body_of c.in-Ok.raw) c.in-Ok.at c.in-Ok.ensures c.in-None.ensures) c.mark-in-None.ensures

pub returns-then-end-body : goal.returns-then-end-body
returns-then-end-body c =
    let p = passed c.args.constants.now.pool.now.slots c.args.first (c.args.place + 6) c.args.body.now (body_of c.in-Ok.raw) c.in-Ok.at c.in-Ok.ensures c.in-Some.end c.in-Some.found c.in-Some.ensures in
    no_rules c.args.constants.now.pool.now.slots c.args.receiver c.args.shape c.args.place c.args.first c.mark-then-end-body.result c.args.body.now
    (too_long c.args.constants.now.pool.now.slots c.args.first (c.args.place + 6) c.args.body.now (body_of c.in-Ok.raw) c.in-Ok.at c.in-Ok.ensures c.in-Some.end c.in-Some.found p c.if-end-body.true) c.mark-then-end-body.ensures

pub overflow_add-place-in-Some : goal.overflow_add-place-in-Some
overflow_add-place-in-Some c =
    let s = code_size c.args.body.now (body_of c.in-Ok.raw) c.in-Ok.at (λ i. (c.type_inv.body i).fits) c.in-Ok.ensures in
    omega (arith, c.requires.room, s.0, s.1)

pub check_body-requires-clause-room : goal.check_body-requires-clause-room
check_body-requires-clause-room c =
    let s = code_size c.args.body.now (body_of c.in-Ok.raw) c.in-Ok.at (λ i. (c.type_inv.body i).fits) c.in-Ok.ensures in
    omega (arith, c.requires.room, s.0, s.1)

pub returns-else-end-body : goal.returns-else-end-body
returns-else-end-body c =
    let p = passed c.args.constants.now.pool.now.slots c.args.first (c.args.place + 6) c.args.body.now (body_of c.in-Ok.raw) c.in-Ok.at c.in-Ok.ensures c.in-Some.end c.in-Some.found c.in-Some.ensures in
    let h = is_code c.args.constants.now.pool.now.slots c.args.first (c.args.place + 6) c.args.body.now (body_of c.in-Ok.raw) c.in-Ok.at c.in-Ok.ensures c.in-Some.end c.in-Some.found p c.if-end-body.false in
    IfOk-weaker c.check_body.result _ _ (λ x q. by_code c.args.constants.now.pool.now.slots c.args.receiver c.args.shape c.args.place c.in-Ok.at c.args.first c.in-Some.found (body_of c.in-Ok.raw) p.attributes (code_at c.args.body.now) h p.found_is x q) c.check_body.ensures
