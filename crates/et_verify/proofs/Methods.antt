-- Where the code of a method leads, by what is found and tested at a place.
use Rattle.std.proofs.Common.{◌≡◌, ℕ, ℤ, ◌<◌, ◌&&◌, Bool, true, false, List, [], ◌∷◌, ◌++◌, Option, Some, None, refl, sym, ◌∙◌, ap, subst, Contains, length}
use Rattle.std.proofs.lemmas.Bool.{false≢true}
use Rattle.std.specs.Prelude.{if◌then◌else◌, filter, map, Ok, IfSome}
use Rattle.std.proofs.lemmas.List.{append-nil}
use Rattle.et_code.specs.declared.body.TableRow.{TableRow}
use Rattle.std.specs.List.{list_all}
use Rattle.et_class.specs.Entries.{Item}
use Rattle.et_code.specs.declared.instr.Instr.{Instr}
use Rattle.et_code.specs.Bodies.{Body}
use Rattle.et_code.specs.Decoding.{instruction_at}
use Rattle.et_code.specs.Rules.{flag, offsets}
use Rattle.et_code.specs.Starts.{is_start}
use Rattle.et_program.specs.Entries.{Linked, method_at}
use Rattle.et_event.specs.Sites.{Site, pool_of_class, target}
use Rattle.et_event.specs.Table.{row_of}
use Rattle.et_event.specs.declared.rows.Row.{Row}
use Rattle.et_event.specs.Sound.{returned_of}
use Rattle.et_flow.specs.declared.search.Lead.{Lead}
use Rattle.et_flow.specs.Flows.{some_place}
use Rattle.et_flow.specs.Types.{TypesOf}
use Rattle.et_verify.specs.Steps.{types_after}
use Rattle.et_flow.specs.Types.{caught}
use Rattle.et_verify.specs.Leads.{site_in, covers, may_catch, goes_past, next_places, handlers_at}
use Rattle.et_verify.specs.Typings.{are_starts, has_room, led, leads_by_row, leads_by, leads_in}
use Rattle.et_verify.specs.declared.decoded.Decoded.{Decoded}
use Rattle.et_verify.proofs.Within.{place_inside}
use Rattle.et_verify.specs.Methods.{MethodOf, StandsAt, types_after_it, IsAnswered, IsStepped}

pub not_start : (p : Linked) (m : ℕ) (body : Body) (pc : ℕ) (ts : TypesOf) → is_start body.code pc ≡ false → leads_in p m body pc ts ≡ None
not_start p m body pc ts e = ap (λ (b : Bool). if b then leads_by p m body pc ts (instruction_at body.code pc) else None) e

pub no_place : (p : Linked) (m : ℕ) (body : Body) (pc : ℕ) (ts : TypesOf) → leads_by p m body pc ts (instruction_at body.code pc) ≡ None → leads_in p m body pc ts ≡ None
no_place p m body pc ts e = by (is_start body.code pc)
  where
    by : (b : Bool) → (if b then leads_by p m body pc ts (instruction_at body.code pc) else None) ≡ None
    by true = e
    by false = refl

-- A SITE

-- the place at which an instruction starts is in the code
pub in_code : (f : MethodOf) (code : List ℕ) (pc : ℕ) → code ≡ f.body.code → is_start f.body.code pc ≡ true → pc < length code
in_code f code pc same start = subst (λ (bytes : List ℕ). pc < length bytes) (sym same) (place_inside f.body.code pc start)

pub site_here : (p : Linked) (m : ℕ) (body : Body) (x : Instr × ℕ) (code : List ℕ) (pool : List (Option Item)) (class : ℕ) → code ≡ body.code → pool ≡ pool_of_class p (method_at p m).class → class ≡ (method_at p m).class
    → record { instr = x.0; next = x.1; code = code; pool = pool; class = class } ≡ site_in p m body x
site_here p m body x code pool class same_code same_pool same_class =
    ap (λ (bytes : List ℕ). let at : Site = record { instr = x.0; next = x.1; code = bytes; pool = pool; class = class } in at) same_code
    ∙ (ap (λ (items : List (Option Item)). let at : Site = record { instr = x.0; next = x.1; code = body.code; pool = items; class = class } in at) same_pool
    ∙ ap (λ (k : ℕ). let at : Site = record { instr = x.0; next = x.1; code = body.code; pool = pool_of_class p (method_at p m).class; class = k } in at) same_class)

-- WHERE AN INSTRUCTION stands that has a row
module _ (p : Linked) (m : ℕ) (body : Body) (pc : ℕ) (ts : TypesOf) (decoded : Instr × ℕ) (row : Row) (at : instruction_at body.code pc ≡ Ok decoded) (does : row_of decoded.0.opcode ≡ Some row) where
  led_as : leads_by p m body pc ts (instruction_at body.code pc) ≡ led body (next_places pc (site_in p m body decoded) row) (handlers_at p m body pc) ts (types_after body.max_stack (returned_of (method_at p m)) (site_in p m body decoded) row ts)
  led_as = ap (leads_by p m body pc ts) at ∙ ap (leads_by_row p m body pc ts decoded) does

  pub not_accepted : types_after body.max_stack (returned_of (method_at p m)) (site_in p m body decoded) row ts ≡ None → leads_by p m body pc ts (instruction_at body.code pc) ≡ None
  not_accepted e = led_as ∙ ap (led body (next_places pc (site_in p m body decoded) row) (handlers_at p m body pc) ts) e

  pub accepted : (nexts : List ℕ) (after : TypesOf) → nexts ≡ next_places pc (site_in p m body decoded) row → types_after body.max_stack (returned_of (method_at p m)) (site_in p m body decoded) row ts ≡ Some after
      → leads_by p m body pc ts (instruction_at body.code pc) ≡ led body nexts (handlers_at p m body pc) ts (Some after)
  accepted nexts after n e =
      led_as
      ∙ (ap (led body (next_places pc (site_in p m body decoded) row) (handlers_at p m body pc) ts) e
      ∙ ap (λ (xs : List ℕ). led body xs (handlers_at p m body pc) ts (Some after)) (sym n))

-- the answer for an instruction, by what it does
pub answered : (f g : MethodOf) (x : Decoded) (ts after : TypesOf) (row : Row) (b : Bool) → f ≡ g → x.row ≡ row → (b ≡ true → types_after f.body.max_stack (returned_of (method_at f.program f.method)) (site_in f.program f.method f.body (x.instr, x.next)) row ts ≡ Some after) → (b ≡ false → types_after f.body.max_stack (returned_of (method_at f.program f.method)) (site_in f.program f.method f.body (x.instr, x.next)) row ts ≡ None) → IsAnswered (types_after_it g x ts) after b
answered f g x ts after row b same is done refused =
    let e : types_after_it g x ts ≡ types_after f.body.max_stack (returned_of (method_at f.program f.method)) (site_in f.program f.method f.body (x.instr, x.next)) row ts = ap (λ (y : MethodOf). types_after_it y x ts) (sym same) ∙ ap (λ (r : Row). types_after f.body.max_stack (returned_of (method_at f.program f.method)) (site_in f.program f.method f.body (x.instr, x.next)) r ts) is in
    record { done = λ t. e ∙ done t; refused = λ t. e ∙ refused t }

-- where none stands that has a row
pub none_there : (f : MethodOf) (pc : ℕ) (before after : TypesOf) (old new : Lead) → leads_by f.program f.method f.body pc before (instruction_at f.body.code pc) ≡ None → IsStepped f pc before after old new false
none_there f pc before after old new none = record {
  done = λ e. absurd (false≢true e);
  refused = λ e. none;
  on = λ e. absurd (false≢true e);
  turns = λ e. absurd (false≢true e);
  handlers = λ e. absurd (false≢true e);
  caught = λ e. absurd (false≢true e);
}

-- .. as a step over it answers: in code and targets as they are read
module _ (f : MethodOf) (pc : ℕ) (code : List ℕ) (x : Decoded) (before after : TypesOf) (old new : Lead) (same : code ≡ f.body.code) (stands : StandsAt code pc x) where
  decoded_there : instruction_at f.body.code pc ≡ Ok (x.instr, x.next)
  decoded_there = subst (λ (bytes : List ℕ). instruction_at bytes pc ≡ Ok (x.instr, x.next)) same stands.decoded

  pub refused_there : types_after_it f x before ≡ None → IsStepped f pc before after old new false
  refused_there none = none_there f pc before after old new (not_accepted f.program f.method f.body pc before (x.instr, x.next) x.row decoded_there stands.row none)

  pub stepped_there : (targets : List Bool) → targets ≡ f.targets → types_after_it f x before ≡ Some after
      → some_place new.on ++ new.nexts.items ≡ next_places pc (site_in f.program f.method f.body (x.instr, x.next)) x.row → IfSome new.on (λ q. flag targets q ≡ false)
      → ((q : ℕ) → Contains new.nexts.items q → is_start f.body.code q ≡ true → flag targets q ≡ true) → new.handlers.items ≡ old.handlers.items → new.caught ≡ old.caught → IsStepped f pc before after old new true
  stepped_there targets are there places on turns handlers caught = record {
    done = λ e. accepted f.program f.method f.body pc before (x.instr, x.next) x.row decoded_there stands.row (some_place new.on ++ new.nexts.items) after places there;
    refused = λ e. absurd (false≢true (sym e));
    on = λ e. subst (λ (flags : List Bool). IfSome new.on (λ q. flag flags q ≡ false)) are on;
    turns = λ e. subst (λ (flags : List Bool). (q : ℕ) → Contains new.nexts.items q → is_start f.body.code q ≡ true → flag flags q ≡ true) are turns;
    handlers = λ e. handlers;
    caught = λ e. caught;
  }

-- one without targets goes on behind it, or nowhere
pub straight_next : (p : Linked) (m : ℕ) (body : Body) (pc : ℕ) (decoded : Instr × ℕ) (row : Row) → offsets body.code decoded.0 ≡ [] → next_places pc (site_in p m body decoded) row ≡ (if goes_past row then decoded.1 ∷ [] else [])
straight_next p m body pc decoded row none =
    ap (λ (os : List ℤ). (if goes_past row then decoded.1 ∷ [] else []) ++ map (target pc) os) none
    ∙ append-nil (if goes_past row then decoded.1 ∷ [] else [])

-- a plain one goes on behind it alone
pub plain_next : (p : Linked) (m : ℕ) (body : Body) (pc : ℕ) (decoded : Instr × ℕ) (row : Row) → goes_past row ≡ true → offsets body.code decoded.0 ≡ [] → next_places pc (site_in p m body decoded) row ≡ decoded.1 ∷ []
plain_next p m body pc decoded row past none =
    straight_next p m body pc decoded row none ∙ ap (λ (b : Bool). if b then decoded.1 ∷ [] else []) past

-- THE TESTS of where it leads

pub all_same : (f g : ℕ → Bool) → ((x : ℕ) → f x ≡ g x) → (xs : List ℕ) → list_all f xs ≡ list_all g xs
all_same f g h [] = refl
all_same f g h (x ∷ xs) = ap (λ (b : Bool). b && list_all f xs) (h x) ∙ ap (λ (b : Bool). g x && b) (all_same f g h xs)

-- .. by flags of the starts
abbrev pub may_lead : List Bool → List ℕ → List ℕ → ℕ → Bool
may_lead starts nexts handlers room = list_all (flag starts) nexts && list_all (flag starts) handlers && has_room room handlers

module _ (body : Body) (starts : List Bool) (flags : (place : ℕ) → flag starts place ≡ is_start body.code place) (nexts handlers : List ℕ) (ts after : TypesOf) where
  test_same : may_lead starts nexts handlers body.max_stack ≡ (are_starts body.code nexts && are_starts body.code handlers && has_room body.max_stack handlers)
  test_same =
      ap (λ (b : Bool). b && list_all (flag starts) handlers && has_room body.max_stack handlers) (all_same (flag starts) (is_start body.code) flags nexts)
      ∙ ap (λ (b : Bool). are_starts body.code nexts && b && has_room body.max_stack handlers) (all_same (flag starts) (is_start body.code) flags handlers)

  pub leads_nowhere : may_lead starts nexts handlers body.max_stack ≡ false → led body nexts handlers ts (Some after) ≡ None
  leads_nowhere e = ap (λ (b : Bool). if b then Some (record { after = after; nexts = nexts; caught = caught ts; handlers = handlers }) else None) (sym test_same ∙ e)

  pub leads_there : may_lead starts nexts handlers body.max_stack ≡ true → led body nexts handlers ts (Some after) ≡ Some (record { after = after; nexts = nexts; caught = caught ts; handlers = handlers })
  leads_there e = ap (λ (b : Bool). if b then Some (record { after = after; nexts = nexts; caught = caught ts; handlers = handlers }) else None) (sym test_same ∙ e)

-- three tests, of which the others are one
first_false : (a b c : Bool) → a ≡ false → (a && b && c) ≡ false
first_false false b c e = refl
first_false true b c e = absurd (cc e)

others_false : (a b c : Bool) → (b && c) ≡ false → (a && b && c) ≡ false
others_false false b c e = refl
others_false true b c e = e

all_true : (a b c : Bool) → a ≡ true → (b && c) ≡ true → (a && b && c) ≡ true
all_true true b c e f = f
all_true false b c e f = absurd (cc e)

-- HANDLERS, among the rows that may catch anything

one_row : (f g : TableRow → Bool) (r : TableRow) (xs ys : List TableRow) (a b : Bool) → f r ≡ a → g r ≡ b → filter f xs ≡ ys → filter f (if b then r ∷ xs else xs) ≡ (if a && b then r ∷ ys else ys)
one_row f g r xs ys true true t q e = ap (λ (x : Bool). if x then r ∷ filter f xs else filter f xs) t ∙ ap (λ (zs : List TableRow). r ∷ zs) e
one_row f g r xs ys true false t q e = e
one_row f g r xs ys false true t q e = ap (λ (x : Bool). if x then r ∷ filter f xs else filter f xs) t ∙ e
one_row f g r xs ys false false t q e = e

filters_both : (f g : TableRow → Bool) (rows : List TableRow) → filter f (filter g rows) ≡ filter (λ r. f r && g r) rows
filters_both f g [] = refl
filters_both f g (r ∷ rows) = one_row f g r (filter g rows) (filter (λ x. f x && g x) rows) (f r) (g r) refl refl (filters_both f g rows)

pub handlers_here : (p : Linked) (m : ℕ) (body : Body) (pc : ℕ) (handlers : List ℕ) (rows : List TableRow) → handlers ≡ map (λ (r : TableRow). r.handler) (filter (covers pc) rows) → rows ≡ filter (may_catch p (pool_of_class p (method_at p m).class)) body.table → handlers ≡ handlers_at p m body pc
handlers_here p m body pc handlers rows e r =
    e ∙ (ap (λ (xs : List TableRow). map (λ (x : TableRow). x.handler) (filter (covers pc) xs)) r
    ∙ ap (map (λ (x : TableRow). x.handler)) (filters_both (covers pc) (may_catch p (pool_of_class p (method_at p m).class)) body.table))

-- WHERE IT LEADS, by what is computed there
module _ (p : Linked) (m : ℕ) (body : Body) (pc : ℕ) (ts : TypesOf) (start : is_start body.code pc ≡ true) where
  module _ (starts : List Bool) (flags : (k : ℕ) → flag starts k ≡ is_start body.code k) (nexts handlers : List ℕ) (after : TypesOf)
      (k : handlers ≡ handlers_at p m body pc)
      (stepped : leads_by p m body pc ts (instruction_at body.code pc) ≡ led body nexts (handlers_at p m body pc) ts (Some after)) where
    led_here : leads_in p m body pc ts ≡ led body nexts handlers ts (Some after)
    led_here =
        ap (λ (b : Bool). if b then leads_by p m body pc ts (instruction_at body.code pc) else None) start
        ∙ (stepped ∙ ap (λ (xs : List ℕ). led body nexts xs ts (Some after)) (sym k))

    pub not_going : list_all (flag starts) nexts ≡ false → leads_in p m body pc ts ≡ None
    not_going e = led_here ∙ leads_nowhere body starts flags nexts handlers ts after (first_false (list_all (flag starts) nexts) (list_all (flag starts) handlers) (has_room body.max_stack handlers) e)

    pub not_entering : (list_all (flag starts) handlers && has_room body.max_stack handlers) ≡ false → leads_in p m body pc ts ≡ None
    not_entering e = led_here ∙ leads_nowhere body starts flags nexts handlers ts after (others_false (list_all (flag starts) nexts) (list_all (flag starts) handlers) (has_room body.max_stack handlers) e)

    pub goes : list_all (flag starts) nexts ≡ true → (list_all (flag starts) handlers && has_room body.max_stack handlers) ≡ true → leads_in p m body pc ts ≡ Some (record { after = after; nexts = nexts; caught = caught ts; handlers = handlers })
    goes e f = led_here ∙ leads_there body starts flags nexts handlers ts after (all_true (list_all (flag starts) nexts) (list_all (flag starts) handlers) (has_room body.max_stack handlers) e f)
