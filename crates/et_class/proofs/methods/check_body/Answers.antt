use Rattle.std.proofs.Common.{◌≡◌, ℕ, ◌+◌, List, ◌∷◌, map, Option, Some, None, sym, ap, ◌∙◌, arith, cond, Bool}
use Rattle.std.specs.Prelude.{option_map, is_none}
use Rattle.std.specs.List.{flat_map}
use Rattle.et_base.specs.Marks.{IsFirstBroken, marked, first_from, mark}
use Rattle.et_base.proofs.Firsts.{first_from-append}
use Rattle.et_pool.specs.Entries.{Item}
use Rattle.et_pool.specs.Looks.{tag_of_slot}
use Rattle.et_code.specs.declared.body.TheConstants.{CODE}
use Rattle.et_code.specs.Bodies.{Body, body_of}
use Rattle.et_code.specs.Starts.{starts}
use Rattle.et_code.specs.Rules.{code_marks}
use Rattle.et_class.specs.Codes.{mark_moved, named_marks, body_marks}
use Rattle.et_class.specs.Methods.{arguments_fit_locals}
use Rattle.et_class.proofs.Joined.{joined, shift, first_moved, none_first, some_first}
use Rattle.et_class.proofs.Bounds.{code_bound}
use Rattle.et_class.proofs.methods.check_body.Goals as goal

-- the rules on a body, behind the one on its local variables and those on its names
body_rules : (slots : List (Option Item)) (place : ℕ) (b : Body) (first fits found : Option (ℕ × ℕ)) (holds : Bool) → fits ≡ marked first (mark place CODE holds)
    → found ≡ first_from fits (flat_map (named_marks slots (place + 4) b.code) (starts b.code))
    → first_from first (mark place CODE holds ∷ body_marks slots place b) ≡ joined found (option_map (shift place) (first_from None (code_marks b (map tag_of_slot slots))))
unfolding first_from
body_rules slots place b first fits found holds e h =
    ap (λ x. first_from x (body_marks slots place b)) (sym e)
    ∙ (first_from-append fits (flat_map (named_marks slots (place + 4) b.code) (starts b.code)) (map (mark_moved place) (code_marks b (map tag_of_slot slots)))
    ∙ (ap (λ x. first_from x (map (mark_moved place) (code_marks b (map tag_of_slot slots)))) (sym h) ∙ first_moved place found (code_marks b (map tag_of_slot slots))))

pub overflow_add-place-in-Err-At : goal.overflow_add-place-in-Err-At
overflow_add-place-in-Err-At c =
    let first : IsFirstBroken (code_marks (body_of c.args.raw) c.args.constants.now.tags.now) c.in-Err-At.at c.in-Err-At.kind = rw c.in-Err-At.field-0-is at c.in-Err-At.ensures in
    omega (arith, code_bound (body_of c.args.raw) c.args.constants.now.tags.now c.in-Err-At.at c.in-Err-At.kind first, c.requires.room)

pub returns-in-Ok : goal.returns-in-Ok
returns-in-Ok c =
    let none : first_from None (code_marks (body_of c.args.raw) (map tag_of_slot c.args.constants.now.pool.now.slots)) ≡ None = ap (λ t. first_from None (code_marks (body_of c.args.raw) t)) (sym c.requires.tags_are) ∙ none_first (code_marks (body_of c.args.raw) c.args.constants.now.tags.now) c.in-Ok.ensures.1 in
    let rules = body_rules c.args.constants.now.pool.now.slots c.args.place (body_of c.args.raw) c.args.first c.mark-found.result c.check_instructions-found.result (arguments_fit_locals c.args.receiver c.args.raw.max_locals c.args.shape) (c.mark-found.ensures ∙ ap (λ (b : Bool). marked c.args.first (mark c.args.place CODE b)) c.arguments_fit-fits.ensures) (c.check_instructions-found.ensures ∙ ap (λ (code : List ℕ). first_from c.mark-found.result (flat_map (named_marks c.args.constants.now.pool.now.slots (c.args.place + 4) code) (starts code))) c.deref.ensures.value) in
    (sym (rules ∙ ap (λ o. joined c.check_instructions-found.result (option_map (shift c.args.place) o)) none), ap (λ (b : Body). Some b) c.in-Ok.ensures.0 ∙ ap (λ o. cond (is_none o) (Some (body_of c.args.raw)) None) (sym none))

pub returns-in-Err-At : goal.returns-in-Err-At
returns-in-Err-At c =
    let first : IsFirstBroken (code_marks (body_of c.args.raw) c.args.constants.now.tags.now) c.in-Err-At.at c.in-Err-At.kind = rw c.in-Err-At.field-0-is at c.in-Err-At.ensures in
    let some : first_from None (code_marks (body_of c.args.raw) (map tag_of_slot c.args.constants.now.pool.now.slots)) ≡ Some (c.in-Err-At.at, c.in-Err-At.kind) = ap (λ t. first_from None (code_marks (body_of c.args.raw) t)) (sym c.requires.tags_are) ∙ some_first (code_marks (body_of c.args.raw) c.args.constants.now.tags.now) c.in-Err-At.at c.in-Err-At.kind first in
    let rules = body_rules c.args.constants.now.pool.now.slots c.args.place (body_of c.args.raw) c.args.first c.mark-found.result c.check_instructions-found.result (arguments_fit_locals c.args.receiver c.args.raw.max_locals c.args.shape) (c.mark-found.ensures ∙ ap (λ (b : Bool). marked c.args.first (mark c.args.place CODE b)) c.arguments_fit-fits.ensures) (c.check_instructions-found.ensures ∙ ap (λ (code : List ℕ). first_from c.mark-found.result (flat_map (named_marks c.args.constants.now.pool.now.slots (c.args.place + 4) code) (starts code))) c.deref.ensures.value) in
    (c.mark.ensures ∙ sym (rules ∙ ap (λ o. joined c.check_instructions-found.result (option_map (shift c.args.place) o)) some), ap (λ o. cond (is_none o) (Some (body_of c.args.raw)) None) (sym some))
