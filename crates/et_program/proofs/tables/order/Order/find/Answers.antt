use Rattle.std.proofs.Common.{◌≡◌, ◌∙◌, ℕ, ◌<◌, ◌≤◌, Bool, List, length, get_or, Ordering, is_eq, sym, ap, subst, ltb-true, ltb-false}
use Rattle.std.proofs.lemmas.List.{get_or_default}
use Rattle.et_program.specs.Order.{KeyOf, key_cmp, is_key, keys_of, shown_key}
use Rattle.et_program.proofs.OrderLemmas.{eq_keys, found_here, found_other, found_end}
use Rattle.et_program.proofs.tables.order.Order.find.Goals as goal

-- what is compared, by what is found of it
told : (q x y : KeyOf) (r : Ordering) (b : Bool) → y ≡ x → r ≡ key_cmp y q → b ≡ is_eq r → is_key q x ≡ b
told q x y r b shown by says = sym (eq_keys x q) ∙ (ap (λ k. is_eq (key_cmp k q)) (sym shown) ∙ (ap is_eq (sym by) ∙ sym says))

-- what is read, in the entries
read : (entries seen : List (ℕ × ℕ)) (k : ℕ) (e : ℕ × ℕ) → seen ≡ entries → k < length entries → e ≡ get_or seen k e → e ≡ get_or entries k (0, 0)
read entries seen k e same lt is = is ∙ (ap (λ (l : List (ℕ × ℕ)). get_or l k e) same ∙ get_or_default entries k e (0, 0) lt)

pub returns-in_err-number : goal.returns-in_err-number
returns-in_err-number c =
    let none : length c.args.self.now.entries.items ≤ c.place.result = subst (λ (l : List (ℕ × ℕ)). length l ≤ c.place.result) c.deref.ensures.value (ltb-false _ _ (sym c.in_err-number.ensures.lookup.0)) in
    c.from_residual.ensures ∙ sym (found_end (keys_of c.args.table) c.args.self.now.entries.items c.requires (shown_key c.args.key) c.place.result c.place.ensures none)

pub returns-then-is_eq : goal.returns-then-is_eq
returns-then-is_eq c =
    let e : ℕ × ℕ = c.in_ok-number.field-0.now in
    let lt : c.place.result < length c.args.self.now.entries.items = subst (λ (l : List (ℕ × ℕ)). c.place.result < length l) c.deref.ensures.value (ltb-true _ _ (sym c.in_ok-number.ensures.lookup.0)) in
    sym (found_here (keys_of c.args.table) c.args.self.now.entries.items c.requires (shown_key c.args.key) c.place.result e c.place.ensures lt
    (read c.args.self.now.entries.items c.deref.result.now c.place.result e c.deref.ensures.value lt c.in_ok-number.ensures.lookup.1)
    (told (shown_key c.args.key) _ (shown_key c.key.result) c.compare.result c.is_eq.result c.key.ensures c.compare.ensures c.is_eq.ensures ∙ c.if-is_eq.true))

pub returns-else-is_eq : goal.returns-else-is_eq
returns-else-is_eq c =
    let e : ℕ × ℕ = c.in_ok-number.field-0.now in
    let lt : c.place.result < length c.args.self.now.entries.items = subst (λ (l : List (ℕ × ℕ)). c.place.result < length l) c.deref.ensures.value (ltb-true _ _ (sym c.in_ok-number.ensures.lookup.0)) in
    sym (found_other (keys_of c.args.table) c.args.self.now.entries.items c.requires (shown_key c.args.key) c.place.result e c.place.ensures lt
    (read c.args.self.now.entries.items c.deref.result.now c.place.result e c.deref.ensures.value lt c.in_ok-number.ensures.lookup.1)
    (told (shown_key c.args.key) _ (shown_key c.key.result) c.compare.result c.is_eq.result c.key.ensures c.compare.ensures c.is_eq.ensures ∙ c.if-is_eq.false))
