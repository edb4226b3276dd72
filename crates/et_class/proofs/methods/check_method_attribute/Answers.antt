use Rattle.std.proofs.Common.{◌≡◌, ℕ, List, [], ◌∷◌, Bool, true, false, not, ◌&&◌, cond, Option, None, sym, ap, ◌∙◌}
use Rattle.std.specs.Prelude.{is_some}
use Rattle.std.proofs.lemmas.Result.{IfOk-weaker}
use Rattle.et_base.specs.Marks.{marked, first_of_two, first_from, mark}
use Rattle.et_pool.specs.Entries.{Item}
use Rattle.et_pool.specs.Looks.{utf8_at}
use Rattle.et_code.specs.Bodies.{Body}
use Rattle.et_class.specs.declared.fault.TheConstants.{ATTRIBUTE}
use Rattle.et_class.specs.Layout.{AttributeOf, MemberOf, attribute_of, member_of}
use Rattle.et_class.specs.Codes.{code_at}
use Rattle.et_class.specs.Methods.{is_code, receiver_words, shape_at, code_attribute_marks, code_marks_if, method_attribute_marks_if}
use Rattle.et_class.specs.Kept.{kept_attribute, kept_in}
use Rattle.et_class.proofs.methods.check_method_attribute.Goals as goal

-- the rules on an attribute, behind the one on its name
abbrev Answers : List (Option Item) → MemberOf → Bool → ℕ → AttributeOf → Option (ℕ × ℕ) → Option (ℕ × ℕ) × Option Body → Type 0
Answers slots m seen place a first x = (x.0 ≡ first_from first (method_attribute_marks_if slots m seen place a)) × (x.1 ≡ kept_in slots seen a)

no_code : (slots : List (Option Item)) (m : MemberOf) (seen : Bool) (place : ℕ) (a : AttributeOf) (first found : Option (ℕ × ℕ)) → is_code slots a ≡ false → found ≡ marked first (mark place ATTRIBUTE (is_some (utf8_at slots a.name))) → Answers slots m seen place a first (found, None)
unfolding first_from
no_code slots m seen place a first found n e = (
  e ∙ ap (λ (b : Bool). first_from first (mark place ATTRIBUTE (is_some (utf8_at slots a.name)) ∷ cond b (code_marks_if slots m seen place a) [])) (sym n),
  ap (λ (b : Bool). cond (b && not seen) (kept_attribute slots (code_at a.body)) None) (sym n),
)

second : (slots : List (Option Item)) (m : MemberOf) (seen : Bool) (place : ℕ) (a : AttributeOf) (first named found : Option (ℕ × ℕ)) → is_code slots a ≡ true → seen ≡ true → named ≡ marked first (mark place ATTRIBUTE (is_some (utf8_at slots a.name))) → found ≡ first_of_two named (place, ATTRIBUTE) → Answers slots m seen place a first (found, None)
unfolding first_from
second slots m seen place a first named found y s e f = (
  f ∙ (ap (λ n. first_of_two n (place, ATTRIBUTE)) e
      ∙ (ap (λ (b : Bool). first_from first (mark place ATTRIBUTE (is_some (utf8_at slots a.name)) ∷ cond b (mark place ATTRIBUTE false ∷ []) (code_attribute_marks slots (receiver_words slots m) (shape_at slots m) place (code_at a.body)))) (sym s)
      ∙ ap (λ (b : Bool). first_from first (mark place ATTRIBUTE (is_some (utf8_at slots a.name)) ∷ cond b (code_marks_if slots m seen place a) [])) (sym y))),
  ap (λ (b : Bool). cond (true && not b) (kept_attribute slots (code_at a.body)) None) (sym s) ∙ ap (λ (b : Bool). cond (b && not seen) (kept_attribute slots (code_at a.body)) None) (sym y),
)

first_one : (slots : List (Option Item)) (m : MemberOf) (seen : Bool) (place : ℕ) (a : AttributeOf) (first named : Option (ℕ × ℕ)) → is_code slots a ≡ true → seen ≡ false → named ≡ marked first (mark place ATTRIBUTE (is_some (utf8_at slots a.name)))
    → (x : Option (ℕ × ℕ) × Option Body) → (x.0 ≡ first_from named (code_attribute_marks slots (receiver_words slots m) (shape_at slots m) place (code_at a.body))) × (x.1 ≡ kept_attribute slots (code_at a.body)) → Answers slots m seen place a first x
unfolding first_from
first_one slots m seen place a first named y s e x p = (
  p.0 ∙ (ap (λ n. first_from n (code_attribute_marks slots (receiver_words slots m) (shape_at slots m) place (code_at a.body))) e
      ∙ (ap (λ (b : Bool). first_from first (mark place ATTRIBUTE (is_some (utf8_at slots a.name)) ∷ cond b (mark place ATTRIBUTE false ∷ []) (code_attribute_marks slots (receiver_words slots m) (shape_at slots m) place (code_at a.body)))) (sym s)
      ∙ ap (λ (b : Bool). first_from first (mark place ATTRIBUTE (is_some (utf8_at slots a.name)) ∷ cond b (code_marks_if slots m seen place a) [])) (sym y))),
  p.1 ∙ (ap (λ (b : Bool). cond (true && not b) (kept_attribute slots (code_at a.body)) None) (sym s) ∙ ap (λ (b : Bool). cond (b && not seen) (kept_attribute slots (code_at a.body)) None) (sym y)),
)

pub returns-then-not-is_code_attribute : goal.returns-then-not-is_code_attribute
returns-then-not-is_code_attribute c =
    no_code c.args.constants.now.pool.now.slots (member_of c.args.method.now) c.args.seen c.args.place (attribute_of c.args.a.now) c.args.first c.mark-found.result (sym c.if-not-is_code_attribute.ensures)
    (c.mark-found.ensures ∙ ap (λ (b : Bool). marked c.args.first (mark c.args.place ATTRIBUTE b)) c.is_utf8.ensures)

pub returns-then-seen : goal.returns-then-seen
returns-then-seen c =
    second c.args.constants.now.pool.now.slots (member_of c.args.method.now) c.args.seen c.args.place (attribute_of c.args.a.now) c.args.first c.mark-found.result c.mark.result (sym c.if-not-is_code_attribute.ensures) c.if-seen.true
    (c.mark-found.ensures ∙ ap (λ (b : Bool). marked c.args.first (mark c.args.place ATTRIBUTE b)) c.is_utf8.ensures) c.mark.ensures

pub returns : goal.returns
returns c =
    IfOk-weaker c.check_code_attribute.result _ _ (λ x q.
    first_one c.args.constants.now.pool.now.slots (member_of c.args.method.now) c.args.seen c.args.place (attribute_of c.args.a.now) c.args.first c.mark-found.result (sym c.if-not-is_code_attribute.ensures) c.if-seen.false
    (c.mark-found.ensures ∙ ap (λ (b : Bool). marked c.args.first (mark c.args.place ATTRIBUTE b)) c.is_utf8.ensures) x (
      q.0 ∙ (ap (λ r. first_from c.mark-found.result (code_attribute_marks c.args.constants.now.pool.now.slots r c.shape-shape.result c.args.place (code_at c.deref.result.now))) c.receiver_entries-receiver.ensures
          ∙ (ap (λ h. first_from c.mark-found.result (code_attribute_marks c.args.constants.now.pool.now.slots (receiver_words c.args.constants.now.pool.now.slots (member_of c.args.method.now)) h c.args.place (code_at c.deref.result.now))) c.shape-shape.ensures
          ∙ ap (λ (body : List ℕ). first_from c.mark-found.result (code_attribute_marks c.args.constants.now.pool.now.slots (receiver_words c.args.constants.now.pool.now.slots (member_of c.args.method.now)) (shape_at c.args.constants.now.pool.now.slots (member_of c.args.method.now)) c.args.place (code_at body))) c.deref.ensures.value)),
      q.1 ∙ ap (λ (body : List ℕ). kept_attribute c.args.constants.now.pool.now.slots (code_at body)) c.deref.ensures.value,
    )) c.check_code_attribute.ensures
