use Rattle.std.proofs.Common.{◌≡◌, ◌≤◌, ◌<◌, length, sym, ap, ◌∙◌, arith}
use Rattle.std.specs.Prelude.{nat_le, nat_lt, ◌^◌}
use Rattle.std.proofs.lemmas.Bool.{and_parts, leb-true, ltb-true}
use Rattle.et_code.specs.Bodies.{Body}
use Rattle.et_code.specs.Kept.{IsKeptCode}
use Rattle.et_code.proofs.Keeping.{kept_code}
use Rattle.et_program.specs.declared.info.MethodInfo.{MethodInfo}
use Rattle.et_verify.proofs.Decided.{no_code, no_type}
use Rattle.et_verify.proofs.method.has_typing.Goals.{After-raw}
use Rattle.et_verify.proofs.method.has_typing.Goals as goal

pub returns-in_default-clause-yes : goal.returns-in_default-clause-yes
returns-in_default-clause-yes c = λ e. no_code c.args.program.now c.args.method (ap (λ (x : MethodInfo). x.code) (sym c.method-info.ensures.value) ∙ c.in_default.is)

pub returns-in_default-method_shape-clause-no : goal.returns-in_default-method_shape-clause-no
returns-in_default-method_shape-clause-no c = λ e.
    no_type c.args.program.now c.args.method c.in-Some.code (ap (λ (x : MethodInfo). x.code) (sym c.method-info.ensures.value) ∙ c.in-Some.is) c.in_default-method_shape.ensures

-- the code that is kept has one byte at least, and fewer than 65,536
sized : (c : After-raw) → (1 ≤ length c.raw.result.now.code.items) × (length c.raw.result.now.code.items < 2 ^ 16)
sized c =
    let kept : IsKeptCode c.in-Some.code c.raw.ensures.kept.tags = kept_code c.in-Some.code c.raw.ensures.kept.tags c.raw.ensures.kept.kept in
    let both = and_parts (nat_le 1 (length c.in-Some.code.code)) (nat_lt (length c.in-Some.code.code) (2 ^ 16)) kept.sized in
    let same : length c.raw.result.now.code.items ≡ length c.in-Some.code.code = ap (λ (b : Body). length b.code) c.raw.ensures.items in
    (omega (arith, leb-true 1 (length c.in-Some.code.code) both.0, same), omega (arith, ltb-true (length c.in-Some.code.code) (2 ^ 16) both.1, same))

pub code_has_typing-requires-clause-some : goal.code_has_typing-requires-clause-some
code_has_typing-requires-clause-some c = omega (arith, (sized (goal.at.code_has_typing-requires-clause-some c).After-raw).0)

pub code_has_typing-requires-clause-few : goal.code_has_typing-requires-clause-few
code_has_typing-requires-clause-few c = omega (arith, (sized (goal.at.code_has_typing-requires-clause-few c).After-raw).1)
