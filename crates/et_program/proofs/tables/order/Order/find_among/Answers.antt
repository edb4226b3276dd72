use Rattle.std.proofs.Common.{◌≡◌, ◌∙◌, ℕ, ◌-◌, List, take, drop, sym, ap, eq-eqb, ne_eqb, ltb-true, ltb-false}
use Rattle.et_program.specs.Order.{place_of}
use Rattle.et_program.proofs.OrderLemmas.{classes_fall_once, class_found, class_other, class_end}
use Rattle.et_program.proofs.tables.order.Order.find_among.Goals as goal

-- the part of the entries that is searched
part_is : (entries seen : List (ℕ × ℕ)) (a b from to : ℕ) → seen ≡ entries → a ≡ from → b ≡ to → take (b - a) (drop a seen) ≡ take (to - from) (drop from entries)
part_is entries seen a b from to same ea eb =
    ap (λ (l : List (ℕ × ℕ)). take (b - a) (drop a l)) same ∙ (ap (λ (x : ℕ). take (b - x) (drop x entries)) ea ∙ ap (λ (y : ℕ). take (y - from) (drop from entries)) eb)

pub returns-in_err-other : goal.returns-in_err-other
returns-in_err-other c keys name descriptor count order few from to =
    let entries : List (ℕ × ℕ) = c.args.self.now.entries.items in
    let part : List (ℕ × ℕ) = take (c.args.end - c.args.start) (drop c.args.start c.deref.result.now) in
    let is = part_is entries c.deref.result.now c.args.start c.args.end (place_of keys entries (name, descriptor, 0)) (place_of keys entries (name, descriptor, count)) c.deref.ensures.value from to in
    c.from_residual.ensures
    ∙ sym (class_end keys entries order name descriptor count few c.args.class part is c.count_below.result c.count_below.ensures.bound
    (c.count_below.ensures.point (classes_fall_once keys entries order name descriptor count few c.args.class part is)) (ltb-false _ _ (sym c.in_err-other.ensures.lookup.0)))

pub returns-then-other-class : goal.returns-then-other-class
returns-then-other-class c keys name descriptor count order few from to =
    let entries : List (ℕ × ℕ) = c.args.self.now.entries.items in
    let part : List (ℕ × ℕ) = take (c.args.end - c.args.start) (drop c.args.start c.deref.result.now) in
    let is = part_is entries c.deref.result.now c.args.start c.args.end (place_of keys entries (name, descriptor, 0)) (place_of keys entries (name, descriptor, count)) c.deref.ensures.value from to in
    sym (class_found keys entries order name descriptor count few c.args.class part is c.count_below.result c.count_below.ensures.bound
    (c.count_below.ensures.point (classes_fall_once keys entries order name descriptor count few c.args.class part is)) c.in_ok-other.field-0.now (ltb-true _ _ (sym c.in_ok-other.ensures.lookup.0)) c.in_ok-other.ensures.lookup.1
    (eq-eqb _ _ c.if-other-class.true))

pub returns-else-other-class : goal.returns-else-other-class
returns-else-other-class c keys name descriptor count order few from to =
    let entries : List (ℕ × ℕ) = c.args.self.now.entries.items in
    let part : List (ℕ × ℕ) = take (c.args.end - c.args.start) (drop c.args.start c.deref.result.now) in
    let is = part_is entries c.deref.result.now c.args.start c.args.end (place_of keys entries (name, descriptor, 0)) (place_of keys entries (name, descriptor, count)) c.deref.ensures.value from to in
    sym (class_other keys entries order name descriptor count few c.args.class part is c.count_below.result c.count_below.ensures.bound
    (c.count_below.ensures.point (classes_fall_once keys entries order name descriptor count few c.args.class part is)) c.in_ok-other.field-0.now (ltb-true _ _ (sym c.in_ok-other.ensures.lookup.0)) c.in_ok-other.ensures.lookup.1
    (ne_eqb _ _ c.if-other-class.false))
