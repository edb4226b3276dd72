-- To each place that is no target one instruction alone leads, the one before it.
use Rattle.std.proofs.Common.{◌≡◌, ℕ, zero, suc, ◌<◌, ◌≤◌, ◌&&◌, ◌⊎◌, Bool, true, false, List, [], ◌∷◌, ◌++◌, length, map, Option, Some, None, refl, sym, ◌∙◌, ap, subst, inl, inr, arith, rules, IsTrue, Contains}
use Rattle.std.specs.Prelude.{if◌then◌else◌, filter, not, Result, Ok, Err}
use Rattle.std.proofs.lemmas.Bool.{and_parts, cases_lt, cases_eq, false≢true}
use Rattle.std.proofs.lemmas.List.Elements.{Contains-append_cases, Contains-push_cases}
use Rattle.std.proofs.lemmas.Option.{none-some, same_Some}
use Rattle.et_code.specs.declared.body.TableRow.{TableRow}
use Rattle.et_code.specs.declared.instr.Instr.{Instr}
use Rattle.et_code.specs.declared.instr.CodeFault.{CodeFault}
use Rattle.et_code.specs.Bodies.{Body}
use Rattle.et_code.specs.Decoding.{instruction_at}
use Rattle.et_code.specs.Rules.{flag, offsets}
use Rattle.et_code.specs.Starts.{IsStart, Begins, Follows, is_start}
use Rattle.et_code.proofs.Decoded.{decoded_fits}
use Rattle.et_code.proofs.Starting.{starts_are_all}
use Rattle.et_program.specs.Entries.{Linked, method_at}
use Rattle.et_event.specs.declared.rows.Row.{Row}
use Rattle.et_event.specs.Sites.{pool_of_class, target}
use Rattle.et_event.specs.Sound.{returned_of}
use Rattle.et_event.specs.Table.{row_of}
use Rattle.et_flow.specs.Types.{TypesOf}
use Rattle.et_flow.specs.Flows.{LeadOf, IsStraight}
use Rattle.et_verify.specs.Steps.{types_after}
use Rattle.et_flow.specs.Types.{caught}
use Rattle.et_verify.specs.Leads.{site_in, goes_past, next_places, may_handle, handlers_at}
use Rattle.et_verify.specs.Targets.{HasTargets}
use Rattle.et_verify.specs.Typings.{are_starts, has_room, led, leads_by_row, leads_by, leads_in}
use Rattle.et_verify.proofs.Within.{place_inside, all_hold}

-- STARTS of instructions don't overlap

abbrev decoded_as : Instr → ℕ → Result (Instr × ℕ) CodeFault
decoded_as i next = Ok (i, next)

abbrev next_of : Result (Instr × ℕ) CodeFault → ℕ
next_of (Ok x) = x.1
next_of (Err fault) = 0

next_is : (i j : Instr) (a b : ℕ) → decoded_as i a ≡ decoded_as j b → a ≡ b
next_is i j a b e = ap next_of e

apart : (n : ℕ) (code : List ℕ) (k pc : ℕ) (i : Instr) (next : ℕ) → k < n → IsStart code k → IsStart code pc → instruction_at code pc ≡ Ok (i, next) → pc < k → next ≤ k
apart zero code k pc i next lt s t at less = absurd (omega (arith, lt))
apart (suc n) code _ pc i next lt (Begins some) t at less = absurd (omega (arith, less))
apart (suc n) code _ pc i next lt (Follows p j last s e inside) t at less = elim (cases_eq pc p) [
  | inl same ↦ (let one : next ≡ last = next_is i j next last (sym at ∙ (ap (instruction_at code) same ∙ e)) in omega (arith, one))
  | inr ne ↦ (let ahead : p < last = (decoded_fits code p j last e).advances in elim (cases_lt pc p) [
    | inl before ↦ (let le : next ≤ p = apart n code p pc i next (omega (arith, lt, ahead)) s t at before in omega (arith, le, ahead))
    | inr after ↦ (let le : last ≤ pc = apart n code pc p j last (omega (arith, lt, less)) t s e (omega (arith, after, ne)) in absurd (omega (arith, le, less)))
  ])
]

is_begun : (code : List ℕ) (pc : ℕ) → is_start code pc ≡ true → IsStart code pc
is_begun code pc e = (starts_are_all code pc).0 (let t : IsTrue (is_start code pc) = search (rules, e) in t)

pub one_before : (code : List ℕ) (pc kc : ℕ) (x y : Instr × ℕ) → is_start code pc ≡ true → is_start code kc ≡ true → instruction_at code pc ≡ Ok x → instruction_at code kc ≡ Ok y → x.1 ≡ y.1 → pc ≡ kc
one_before code pc kc x y s t a b same = elim (cases_eq pc kc) [
  | inl e ↦ e
  | inr ne ↦ elim (cases_lt pc kc) [
    | inl lt ↦ (let le : x.1 ≤ kc = apart (suc kc) code kc pc x.0 x.1 (omega arith) (is_begun code kc t) (is_begun code pc s) a lt in absurd (omega (arith, le, same, (decoded_fits code kc y.0 y.1 b).advances)))
    | inr ge ↦ (let le : y.1 ≤ pc = apart (suc pc) code pc kc y.0 y.1 (omega arith) (is_begun code pc s) (is_begun code kc t) b (omega (arith, ge, ne)) in absurd (omega (arith, le, same, (decoded_fits code pc x.0 x.1 a).advances)))
  ]
]

-- WHERE AN INSTRUCTION LEADS, taken apart

pub record IsLedBy (p : Linked) (m : ℕ) (body : Body) (pc : ℕ) (l : LeadOf) : Type 0 where
  pub start : is_start body.code pc ≡ true
  pub decoded : Instr × ℕ
  pub at : instruction_at body.code pc ≡ Ok decoded
  pub row : Row
  pub nexts : l.nexts ≡ next_places pc (site_in p m body decoded) row
  pub handlers : l.handlers ≡ handlers_at p m body pc
  pub nexts_start : are_starts body.code l.nexts ≡ true
  pub handlers_start : are_starts body.code l.handlers ≡ true

module _ (p : Linked) (m : ℕ) (body : Body) (pc : ℕ) (ts : TypesOf) (l : LeadOf) (start : is_start body.code pc ≡ true) where
  by_tests : (decoded : Instr × ℕ) (r : Row) (after : TypesOf) → instruction_at body.code pc ≡ Ok decoded → (b : Bool)
      → (are_starts body.code (next_places pc (site_in p m body decoded) r) && are_starts body.code (handlers_at p m body pc) && has_room body.max_stack (handlers_at p m body pc)) ≡ b
      → (if b then Some (record { after = after; nexts = next_places pc (site_in p m body decoded) r; caught = caught ts; handlers = handlers_at p m body pc }) else None) ≡ Some l
      → IsLedBy p m body pc l
  by_tests decoded r after at false t e = absurd (none-some l e)
  by_tests decoded r after at true t e =
      let k : LeadOf = record { after = after; nexts = next_places pc (site_in p m body decoded) r; caught = caught ts; handlers = handlers_at p m body pc } in
      let same : k ≡ l = same_Some k l e in
      let h = and_parts (are_starts body.code k.nexts && are_starts body.code k.handlers) (has_room body.max_stack k.handlers) t in
      let each = and_parts (are_starts body.code k.nexts) (are_starts body.code k.handlers) h.0 in
      subst (λ (x : LeadOf). IsLedBy p m body pc x) same (record { start = start; decoded = decoded; at = at; row = r; nexts = refl; handlers = refl; nexts_start = each.0; handlers_start = each.1 })

  by_types : (decoded : Instr × ℕ) (r : Row) (x : Option TypesOf) → instruction_at body.code pc ≡ Ok decoded → led body (next_places pc (site_in p m body decoded) r) (handlers_at p m body pc) ts x ≡ Some l → IsLedBy p m body pc l
  by_types decoded r None at e = absurd (none-some l e)
  by_types decoded r (Some after) at e =
      by_tests decoded r after at (are_starts body.code (next_places pc (site_in p m body decoded) r) && are_starts body.code (handlers_at p m body pc) && has_room body.max_stack (handlers_at p m body pc)) refl e

  by_row : (decoded : Instr × ℕ) (r : Option Row) → instruction_at body.code pc ≡ Ok decoded → leads_by_row p m body pc ts decoded r ≡ Some l → IsLedBy p m body pc l
  by_row decoded None at e = absurd (none-some l e)
  by_row decoded (Some r) at e = by_types decoded r (types_after body.max_stack (returned_of (method_at p m)) (site_in p m body decoded) r ts) at e

  by_decoded : (d : Result (Instr × ℕ) CodeFault) → instruction_at body.code pc ≡ d → leads_by p m body pc ts d ≡ Some l → IsLedBy p m body pc l
  by_decoded (Err fault) at e = absurd (none-some l e)
  by_decoded (Ok decoded) at e = by_row decoded (row_of decoded.0.opcode) at e

  by_start : leads_by p m body pc ts (instruction_at body.code pc) ≡ Some l → IsLedBy p m body pc l
  by_start e = by_decoded (instruction_at body.code pc) refl e

pub led_by : (p : Linked) (m : ℕ) (body : Body) (pc : ℕ) (ts : TypesOf) (l : LeadOf) → leads_in p m body pc ts ≡ Some l → IsLedBy p m body pc l
led_by p m body pc ts l e = by (is_start body.code pc) refl e
  where
    by : (b : Bool) → is_start body.code pc ≡ b → (if b then leads_by p m body pc ts (instruction_at body.code pc) else None) ≡ Some l → IsLedBy p m body pc l
    by false s f = absurd (none-some l f)
    by true s f = by_start p m body pc ts l s f

-- PLACES

behind_or_target : (b : Bool) (n q : ℕ) (ts : List ℕ) → Contains ((if b then n ∷ [] else []) ++ ts) q → (n ≡ q) ⊎ Contains ts q
behind_or_target false n q ts c = inr c
behind_or_target true n q ts c = elim (Contains-append_cases (n ∷ []) ts q c) [
  | inl one ↦ elim (Contains-push_cases [] n q one) [ inl none ↦ absurd (omega (arith, none.1)) | inr same ↦ inl same ]
  | inr there ↦ inr there
]

among_rows : (f : TableRow → Bool) (rows : List TableRow) (q : ℕ) → Contains (map (λ (r : TableRow). r.handler) (filter f rows)) q → Contains (map (λ (r : TableRow). r.handler) rows) q
among_rows f [] q c = c
among_rows f (r ∷ rows) q c = by (f r) (among_rows f rows q) c
  where
    more : Contains (map (λ (x : TableRow). x.handler) rows) q → Contains (map (λ (x : TableRow). x.handler) (r ∷ rows)) q
    more d = (suc d.0, omega (arith, d.1), d.2)

    by : (b : Bool) → (Contains (map (λ (x : TableRow). x.handler) (filter f rows)) q → Contains (map (λ (x : TableRow). x.handler) rows) q) → Contains (map (λ (x : TableRow). x.handler) (if b then r ∷ filter f rows else filter f rows)) q → Contains (map (λ (x : TableRow). x.handler) (r ∷ rows)) q
    by false had d = more (had d)
    by true had (zero, lt, at) = (zero, omega arith, at)
    by true had (suc i, lt, at) = more (had (i, omega (arith, lt), at))

-- THE TARGETS

module _ (p : Linked) (m : ℕ) (body : Body) (starts targets : List Bool) (flags : (k : ℕ) → flag starts k ≡ is_start body.code k) (t : HasTargets starts body.code body.table targets) (some : 0 < length body.code) where
  inside : (q : ℕ) → is_start body.code q ≡ true → q < length targets
  inside q s = omega (arith, place_inside body.code q s, t.long)

  pub kept_there : (q : ℕ) → flag targets q ≡ true → not (flag targets q) ≡ false
  kept_there q e = ap not e

  straight_not : (q : ℕ) → flag targets q ≡ true → not (flag targets q) ≡ true → ⊥
  straight_not q e s = false≢true (sym (kept_there q e) ∙ s)

  pub target_flagged : (pc : ℕ) (x : Instr × ℕ) (q : ℕ) → is_start body.code pc ≡ true → instruction_at body.code pc ≡ Ok x → Contains (map (target pc) (offsets body.code x.0)) q → is_start body.code q ≡ true → flag targets q ≡ true
  target_flagged pc x q s at c st = t.targets pc x.0 x.1 (place_inside body.code pc s) (flags pc ∙ s) at q c (inside q st)

  -- straight on an instruction leads to the place behind it
  goes_behind : (pc : ℕ) (l : LeadOf) (q : ℕ) (b : IsLedBy p m body pc l) → Contains l.nexts q → not (flag targets q) ≡ true → b.decoded.1 ≡ q
  goes_behind pc l q b c s = elim (behind_or_target (goes_past b.row) b.decoded.1 q (map (target pc) (offsets body.code b.decoded.0)) (subst (λ (xs : List ℕ). Contains xs q) b.nexts c)) [
    | inl same ↦ same
    | inr there ↦ absurd (straight_not q (target_flagged pc b.decoded q b.start b.at there (all_hold (is_start body.code) l.nexts b.nexts_start q c)) s)
  ]

  pub is_straight : IsStraight (leads_in p m body) (λ q. not (flag targets q))
  is_straight = record {
    first = kept_there 0 (t.first (omega (arith, some, t.long)));
    handlers = λ pc ts l q e c.
        let b : IsLedBy p m body pc l = led_by p m body pc ts l e in
        kept_there q (t.handlers q (among_rows (may_handle p (pool_of_class p (method_at p m).class) pc) body.table q (subst (λ (xs : List ℕ). Contains xs q) b.handlers c)) (inside q (all_hold (is_start body.code) l.handlers b.handlers_start q c)));
    forward = λ pc ts l q e c s.
        let b : IsLedBy p m body pc l = led_by p m body pc ts l e in
        omega (arith, (decoded_fits body.code pc b.decoded.0 b.decoded.1 b.at).advances, goes_behind pc l q b c s);
    alone = λ pc kc ts us l k q e f c d s.
        let b : IsLedBy p m body pc l = led_by p m body pc ts l e in
        let a : IsLedBy p m body kc k = led_by p m body kc us k f in
        one_before body.code pc kc b.decoded a.decoded b.start a.start b.at a.at (goes_behind pc l q b c s ∙ sym (goes_behind kc k q a d s));
  }
