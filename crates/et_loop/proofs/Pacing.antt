-- From one flush that is due to the next.
use Rattle.std.proofs.Common.{◌≡◌, ℕ, zero, suc, ◌+◌, ◌-◌, ◌*◌, ◌/◌, ◌%◌, ◌<◌, ◌≤◌, true, false, sym, ◌∙◌, ap, subst, inl, inr, arith}
use Rattle.std.proofs.lemmas.Bool.{cases_eq}
use Rattle.std.proofs.lemmas.Grind.{common_steps}
use Rattle.std.proofs.lemmas.Nat.{div-add-mod', mod-mul-add, div-mul-add}
use Rattle.et_state.specs.Options.{pick_of}
use Rattle.et_state.specs.declared.options.Schedule.{Schedule}
use Rattle.et_state.specs.declared.options.Schedule.TheVariants.{Quantum}
use Rattle.et_loop.specs.declared.schedule.Rota.{Rota}
use Rattle.et_state.specs.History.{is_flush_point}
use Rattle.et_loop.specs.Pace.{IsFirstDue, IsNextFlush, IsRota, round_of}

-- a multiple of the interval
due_at : (i n q : ℕ) → 0 < i → 0 < n → n ≡ q * i + 0 → is_flush_point i n ≡ true
due_at i n q some above e =
    let m : n % i ≡ 0 = ap (λ x. x % i) e ∙ mod-mul-add q i 0 some in
    grind (arith, common_steps)

-- .. and an event between two
not_due_at : (i n q j : ℕ) → 0 < j → j < i → n ≡ q * i + j → is_flush_point i n ≡ false
not_due_at i n q j above below e =
    let m : n % i ≡ j = ap (λ x. x % i) e ∙ mod-mul-add q i j below in
    grind (arith, common_steps)

due_parts : (i e : ℕ) → is_flush_point i e ≡ true → (0 < e) × (e ≡ (e / i) * i + 0)
due_parts i e due =
    let whole = div-add-mod' e i in
    grind (arith, common_steps)

pub first_due : (i : ℕ) → 0 < i → IsFirstDue i 0 i
first_due i some = record {
  from = omega arith;
  is_due = due_at i i 1 some some (omega arith);
  is_first = λ k from below. elim (cases_eq k 0) [
    | inl e ↦ subst (λ x. is_flush_point i x ≡ false) (sym e) (grind (arith, common_steps))
    | inr ne ↦ not_due_at i k 0 k (omega (arith, ne)) below (omega arith)
  ];
}

pub next_due : (i e : ℕ) → 0 < i → is_flush_point i e ≡ true → IsFirstDue i (e + 1) (e + i)
next_due i e some due =
    let parts = due_parts i e due in
    let q = e / i in
    record {
      from = omega arith;
      is_due = due_at i (e + i) (q + 1) some (omega arith) (grind (arith, common_steps));
      is_first = λ k from below. not_due_at i k q (k - e) (omega arith) (omega arith) (omega (arith, parts.1));
    }

-- no flush is due between, so the next one is the same
pub next_flush_on : (i a b next : ℕ) → IsNextFlush i a next → a ≤ b → (0 < i → b ≤ next) → IsNextFlush i b next
next_flush_on i a b next h later before some =
    let due : IsFirstDue i a next = h some in
    record { from = before some; is_due = due.is_due; is_first = λ k from below. due.is_first k (omega (arith, from, later)) below }

-- the rota keeps its round behind it
pub rota_on : (schedule : Schedule) (a b : ℕ) (rota : Rota) → IsRota schedule a rota → a ≤ b → IsRota schedule b rota
rota_on schedule a b rota h later = record { round = record { starts = h.round.starts; from = omega (arith, h.round.from, later) }; found = h.found }

-- no flush is due from an event up to the one behind which the next one is
pub none_due : (i e n next : ℕ) → is_flush_point i e ≡ false → IsNextFlush i (e + 1) next → (0 < i → e + n ≤ next) → (k : ℕ) → k < n → is_flush_point i (e + k) ≡ false
none_due zero e n next now h before k lt = grind (arith, common_steps)
none_due (suc i) e n next now h before zero lt = let same : e ≡ e + 0 = omega arith in subst (λ (x : ℕ). is_flush_point (suc i) x ≡ false) same now
none_due (suc i) e n next now h before (suc k) lt =
    let due : IsFirstDue (suc i) (e + 1) next = h (omega arith) in
    let few = before (omega arith) in
    due.is_first (e + suc k) (omega arith) (omega (arith, few, lt))

-- ROUNDS

-- a number of a round is the one that the first event of the round has
pub same_quotient : (q over start e k : ℕ) → 0 < q → start ≡ over * q → start ≤ e → e + k < start + q → (e + k) / q ≡ over
same_quotient q over start e k some is from within =
    let at : e + k ≡ over * q + (e + k - start) = omega (arith, is) in
    let small : e + k - start < q = omega arith in
    ap (λ (x : ℕ). x / q) at ∙ div-mul-add over q (e + k - start) small

-- THE PLACE OF THE NEXT EVENTS

pub one_place : (a b count : ℕ) → count ≡ 1 → a % count ≡ b % count
one_place a b count is = let one = λ (x : ℕ). let y : x % 1 ≡ 0 = omega arith in y in subst (λ (n : ℕ). a % n ≡ b % n) (sym is) (one a ∙ sym (one b))

pub turn_quantum : (schedule : Schedule) (q over start e k count : ℕ) → schedule ≡ Quantum q → 0 < q → start ≡ over * round_of schedule → start ≤ e → e + k < start + q → pick_of schedule (e + k) % count ≡ pick_of schedule e % count
turn_quantum schedule q over start e k count is some starts from within =
    let at : start ≡ over * q = starts ∙ ap (λ (x : Schedule). over * round_of x) is in
    let same : e + 0 ≡ e = omega arith in
    let first : e / q ≡ over = subst (λ (n : ℕ). n / q ≡ over) same (same_quotient q over start e 0 some at from (omega (arith, within))) in
    subst (λ (x : Schedule). pick_of x (e + k) % count ≡ pick_of x e % count) (sym is)
    (ap (λ (n : ℕ). n % count) (same_quotient q over start e k some at from within ∙ sym first))
