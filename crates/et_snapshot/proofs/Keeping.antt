-- What is kept of the lines of a good trace is what is live at the event.
use Rattle.std.proofs.Common.{◌≡◌, ◌∙◌, ℕ, ◌+◌, ◌^◌, ◌<◌, ◌≤◌, Bool, true, false, cond, not, ◌&&◌, ◌||◌, eqb, ltb, leb, List, [], ◌∷◌, ◌++◌, map, Option, Some, None, refl, sym, ap, subst, arith, inl, inr, length-append}
use Rattle.std.specs.Prelude.{reverse, filter, option_map}
use Rattle.std.proofs.lemmas.Grind.{reverse_onto}
use Rattle.std.specs.List.{filter_map, cons_option, AllByRecursion}
use Rattle.std.specs.BTreeMap.{insert_entry}
use Rattle.std.specs.Ordering.{nat_cmp, is_eq}
use Rattle.std.proofs.lemmas.Bool.Decides.{nat_tests}
use Rattle.std.proofs.lemmas.List.Elements.{filter_map-append}
use Rattle.std.proofs.lemmas.List.Folds.{list_any-append}
use Rattle.std.proofs.lemmas.List.Sums.{fold-append}
use Rattle.std.proofs.lemmas.List.{append-nil}
use Rattle.std.proofs.lemmas.Bool.{and_parts, cases_Bool, ne_eqb, eqb-true, leb-true}
use mathlib.Core.Bool.{and-false}
use Rattle.et_base.specs.declared.line.TraceLine.{TraceLine}
use Rattle.et_base.specs.declared.line.TraceLine.TheVariants.{Header, Class, Method, Alloc, Update, Enter, Exit, Unwind, Flush, Death, Finish}
use Rattle.et_base.proofs.Tests.{cases_eqb}
use Rattle.et_text.specs.Rules.{objects, births, classes, is_timely, AreFine}
use Rattle.et_replay.specs.Curve.{tells_before, dies_before}
use Rattle.et_replay.proofs.Living.{follows}
use Rattle.et_snapshot.specs.Snapshot.{write_by, writes, written}
use Rattle.et_snapshot.specs.Heap.{Body, Kept, with_slot, written_to, is_other, note_kept, IsAbove, top_after, kept_by, size_of, HasClass}

-- NUMBERS THAT RISE

pub cmp_equal : (a b : ℕ) → is_eq (nat_cmp a b) ≡ eqb a b
cmp_equal a b = grind (arith, nat_tests)

-- the numbers of the objects rise, from above `low`
abbrev pub Rise : ℕ → List Kept → Type 0
Rise low [] = Unit {0}
Rise low (k ∷ ks) = (low < k.0) × Rise k.0 ks

rise_from : (low low' : ℕ) (ks : List Kept) → low' ≤ low → Rise low ks → Rise low' ks
rise_from low low' [] le r = tt
rise_from low low' (k ∷ ks) le r = ((let lt = r.0 in omega (arith, lt, le)), r.1)

-- no number is above
abbrev pub Below : ℕ → List Kept → Type 0
Below n ks = AllByRecursion (λ (k : Kept). k.0 ≤ n) ks

rise_push : (low n : ℕ) (ks : List Kept) (x : Kept) → Rise low ks → Below n ks → low ≤ n → n < x.0 → Rise low (ks ++ x ∷ [])
rise_push low n [] x r b le lt = (omega arith, tt)
rise_push low n (k ∷ ks) x r b le lt = (r.0, rise_push k.0 n ks x r.1 b.1 b.0 lt)

none_written : (low object slot new : ℕ) (ks : List Kept) → Rise low ks → object ≤ low → map (written_to object slot new) ks ≡ ks
none_written low object slot new [] r le = refl
none_written low object slot new (k ∷ ks) r le =
    let lt = r.0 in
    let n : eqb object k.0 ≡ false = ne_eqb object k.0 (λ e. omega (arith, e, lt, le)) in
    ap (λ (b : Bool). cond b (k.0, with_slot slot new k.1) k ∷ map (written_to object slot new) ks) n ∙ ap (λ (t : List Kept). k ∷ t) (none_written k.0 object slot new ks r.1 (omega (arith, lt, le)))

one_number : (object slot new : ℕ) (k : Kept) → (written_to object slot new k).0 ≡ k.0
one_number object slot new k = elim (eqb object k.0) as (λ b. (cond b (k.0, with_slot slot new k.1) k).0 ≡ k.0) [ true ↦ refl | false ↦ refl ]

rise_map : (low object slot new : ℕ) (ks : List Kept) → Rise low ks → Rise low (map (written_to object slot new) ks)
rise_map low object slot new [] r = tt
rise_map low object slot new (k ∷ ks) r =
    let n = one_number object slot new k in
    (subst (λ (m : ℕ). low < m) (sym n) r.0, subst (λ (m : ℕ). Rise m (map (written_to object slot new) ks)) (sym n) (rise_map k.0 object slot new ks r.1))

rise_filter : (low : ℕ) (p : Kept → Bool) (ks : List Kept) → Rise low ks → Rise low (filter p ks)
rise_filter low p [] r = tt
rise_filter low p (k ∷ ks) r = elim (p k) as (λ b. Rise low (cond b (k ∷ filter p ks) (filter p ks))) [
  | true ↦ (r.0, rise_filter k.0 p ks r.1)
  | false ↦ (let lt = r.0 in rise_filter low p ks (rise_from k.0 low ks (omega (arith, lt)) r.1))
]

-- WHAT IS SAID OF EACH OBJECT

pub record Fits (count names : ℕ) (k : Kept) : Type 0 where
  pub made : k.0 ≤ count
  pub small : size_of k ≤ 2 ^ 30
  pub class : HasClass names k

abbrev pub AllFit : ℕ → ℕ → List Kept → Type 0
AllFit count names ks = AllByRecursion (Fits count names) ks

all_push : (P : Kept → Type 0) (ks : List Kept) (x : Kept) → AllByRecursion P ks → P x → AllByRecursion P (ks ++ x ∷ [])
all_push P [] x a p = (p, tt)
all_push P (k ∷ ks) x a p = (a.0, all_push P ks x a.1 p)

pub all_more : (P Q : Kept → Type 0) (ks : List Kept) → ((k : Kept) → P k → Q k) → AllByRecursion P ks → AllByRecursion Q ks
all_more P Q [] f a = tt
all_more P Q (k ∷ ks) f a = (f k a.0, all_more P Q ks f a.1)

all_filter : (P : Kept → Type 0) (p : Kept → Bool) (ks : List Kept) → AllByRecursion P ks → AllByRecursion P (filter p ks)
all_filter P p [] a = tt
all_filter P p (k ∷ ks) a = elim (p k) as (λ b. AllByRecursion P (cond b (k ∷ filter p ks) (filter p ks))) [
  | true ↦ (a.0, all_filter P p ks a.1)
  | false ↦ all_filter P p ks a.1
]

fits_written : (count names object slot new : ℕ) (k : Kept) → Fits count names k → Fits count names (written_to object slot new k)
fits_written count names object slot new k f = elim (eqb object k.0) as (λ b. Fits count names (cond b (k.0, with_slot slot new k.1) k)) [
  | true ↦ record { made = f.made; small = f.small; class = f.class }
  | false ↦ f
]

all_written : (count names object slot new : ℕ) (ks : List Kept) → AllFit count names ks → AllFit count names (map (written_to object slot new) ks)
all_written count names object slot new [] a = tt
all_written count names object slot new (k ∷ ks) a = (fits_written count names object slot new k a.0, all_written count names object slot new ks a.1)

pub below : (count names : ℕ) (ks : List Kept) → AllFit count names ks → Below count ks
below count names ks a = all_more (Fits count names) (λ (k : Kept). k.0 ≤ count) ks (λ k f. f.made) a

-- WHAT IS LIVE

-- what is kept of the object that the line makes, where it is live
abbrev kept_if : Bool → Kept → Option Kept
kept_if live k = cond live (Some k) None

abbrev pub kept_at : List TraceLine → ℕ → TraceLine → Option Kept
kept_at lines e (Alloc born thread object class size len) = kept_if (leb born e && not (dies_before lines e object)) (object, record { class = class; size = size; slots = written (writes lines e object) })
kept_at lines e _ = None

abbrev pub all_at : List TraceLine → ℕ → List Kept
all_at lines e = filter_map (kept_at lines e) lines

-- the lines in their order
abbrev pub in_order : List TraceLine → List TraceLine
in_order [] = []
in_order (line ∷ past) = in_order past ++ line ∷ []

pub in_order_is : (past : List TraceLine) → in_order past ≡ reverse past
in_order_is [] = refl
in_order_is (line ∷ past) = ap (λ (l : List TraceLine). l ++ line ∷ []) (in_order_is past) ∙ sym (reverse_onto past line [])

pub record IsKept (e : ℕ) (past : List TraceLine) (kept : List Kept) : Type 0 where
  pub same : kept ≡ all_at (in_order past) e
  pub rise : Rise 0 kept
  pub fit : AllFit (objects past) (classes past) kept
  pub no_death : (o : ℕ) → objects past < o → dies_before (in_order past) e o ≡ false
  pub no_write : (o : ℕ) → objects past < o → writes (in_order past) e o ≡ []

-- lists of elements that are alike
same_list : {A B : Type 0} (f g : A → Option B) (xs : List A) → ((x : A) → f x ≡ g x) → filter_map f xs ≡ filter_map g xs
same_list f g [] same = refl
same_list {B = B} f g (x ∷ xs) same = ap (λ (o : Option B). cons_option o (filter_map f xs)) (same x) ∙ ap (λ (t : List B). cons_option (g x) t) (same_list f g xs same)

mapped_list : {A B : Type 0} (f g : A → Option B) (h : B → B) (xs : List A) → ((x : A) → f x ≡ option_map h (g x)) → filter_map f xs ≡ map h (filter_map g xs)
mapped_list f g h [] same = refl
mapped_list {B = B} f g h (x ∷ xs) same =
    ap (λ (o : Option B). cons_option o (filter_map f xs)) (same x)
    ∙ (ap (λ (t : List B). cons_option (option_map h (g x)) t) (mapped_list f g h xs same)
    ∙ elim (g x) as (λ o. cons_option (option_map h o) (map h (filter_map g xs)) ≡ map h (cons_option o (filter_map g xs))) [ None ↦ refl | Some b ↦ refl ])

abbrev kept_by_test : {B : Type 0} → (B → Bool) → Option B → Option B
kept_by_test p None = None
kept_by_test p (Some b) = cond (p b) (Some b) None

filtered_list : {A B : Type 0} (f g : A → Option B) (p : B → Bool) (xs : List A) → ((x : A) → f x ≡ kept_by_test p (g x)) → filter_map f xs ≡ filter p (filter_map g xs)
filtered_list f g p [] same = refl
filtered_list {B = B} f g p (x ∷ xs) same =
    ap (λ (o : Option B). cons_option o (filter_map f xs)) (same x)
    ∙ (ap (λ (t : List B). cons_option (kept_by_test p (g x)) t) (filtered_list f g p xs same)
    ∙ elim (g x) as (λ o. cons_option (kept_by_test p o) (filter p (filter_map g xs)) ≡ filter p (cons_option o (filter_map g xs))) [
      | None ↦ refl
      | Some b ↦ elim (p b) as (λ c. cons_option (cond c (Some b) None) (filter p (filter_map g xs)) ≡ cond c (b ∷ filter p (filter_map g xs)) (filter p (filter_map g xs))) [ true ↦ refl | false ↦ refl ]
    ])

-- A LINE MORE

or_false : (b : Bool) → (b || (false || false)) ≡ b
or_false true = refl
or_false false = refl

dies_more : (lines : List TraceLine) (line : TraceLine) (e o : ℕ) → dies_before (lines ++ line ∷ []) e o ≡ (dies_before lines e o || (tells_before e o line || false))
dies_more lines line e o = list_any-append (tells_before e o) lines (line ∷ [])

dies_as_before : (lines : List TraceLine) (line : TraceLine) (e o : ℕ) → tells_before e o line ≡ false → dies_before (lines ++ line ∷ []) e o ≡ dies_before lines e o
dies_as_before lines line e o n = dies_more lines line e o ∙ (ap (λ (b : Bool). dies_before lines e o || (b || false)) n ∙ or_false (dies_before lines e o))

writes_more : (lines : List TraceLine) (line : TraceLine) (e o : ℕ) → writes (lines ++ line ∷ []) e o ≡ writes lines e o ++ cons_option (write_by e o line) []
writes_more lines line e o = filter_map-append (write_by e o) lines (line ∷ [])

writes_as_before : (lines : List TraceLine) (line : TraceLine) (e o : ℕ) → write_by e o line ≡ None → writes (lines ++ line ∷ []) e o ≡ writes lines e o
writes_as_before lines line e o n = writes_more lines line e o ∙ (ap (λ (w : Option (ℕ × ℕ)). writes lines e o ++ cons_option w []) n ∙ append-nil (writes lines e o))

all_more_at : (lines : List TraceLine) (line : TraceLine) (e : ℕ) → all_at (lines ++ line ∷ []) e ≡ filter_map (kept_at (lines ++ line ∷ []) e) lines ++ cons_option (kept_at (lines ++ line ∷ []) e line) []
all_more_at lines line e = filter_map-append (kept_at (lines ++ line ∷ []) e) lines (line ∷ [])

-- what is kept of a line is the same after lines that say the same of objects
kept_same : (new lines : List TraceLine) (e : ℕ) → ((o : ℕ) → dies_before new e o ≡ dies_before lines e o) → ((o : ℕ) → writes new e o ≡ writes lines e o) → (x : TraceLine) → kept_at new e x ≡ kept_at lines e x
kept_same new lines e d w (Alloc born thread object class size len) =
    ap (λ (b : Bool). kept_if (leb born e && not b) (object, record { class = class; size = size; slots = written (writes new e object) })) (d object)
    ∙ ap (λ (ws : List (ℕ × ℕ)). kept_if (leb born e && not (dies_before lines e object)) (object, record { class = class; size = size; slots = written ws })) (w object)
kept_same new lines e d w _ = refl

-- A LINE THAT SAYS NOTHING OF OBJECTS
pub record IsQuiet (e : ℕ) (line : TraceLine) : Type 0 where
  pub notes : (ks : List Kept) → note_kept e ks line ≡ ks
  pub kept : (lines : List TraceLine) → kept_at lines e line ≡ None
  pub tells : (o : ℕ) → tells_before e o line ≡ false
  pub writes : (o : ℕ) → write_by e o line ≡ None
  pub many : (past : List TraceLine) → objects (line ∷ past) ≡ objects past
  pub names : (past : List TraceLine) → classes past ≤ classes (line ∷ past)

fit_more : (count names names' : ℕ) (ks : List Kept) → names ≤ names' → AllFit count names ks → AllFit count names' ks
fit_more count names names' ks le a = all_more (Fits count names) (Fits count names') ks (λ k f. record { made = f.made; small = f.small; class = (f.class.0, (let c = f.class.1 in omega (arith, c, le))) }) a

quiet_is_kept : (e : ℕ) (past : List TraceLine) (line : TraceLine) (ks : List Kept) → IsQuiet e line → IsKept e past ks → IsKept e (line ∷ past) (note_kept e ks line)
quiet_is_kept e past line ks q h =
    let lines = in_order past in
    let new = lines ++ line ∷ [] in
    let dies : (o : ℕ) → dies_before new e o ≡ dies_before lines e o = λ o. dies_as_before lines line e o (q.tells o) in
    let wrote : (o : ℕ) → writes new e o ≡ writes lines e o = λ o. writes_as_before lines line e o (q.writes o) in
    let many = q.many past in
    subst (λ (t : List Kept). IsKept e (line ∷ past) t) (sym (q.notes ks)) (record {
      same =
          h.same ∙ sym (all_more_at lines line e
          ∙ (ap (λ (o : Option Kept). filter_map (kept_at new e) lines ++ cons_option o []) (q.kept new)
          ∙ (append-nil (filter_map (kept_at new e) lines) ∙ same_list (kept_at new e) (kept_at lines e) lines (kept_same new lines e dies wrote))));
      rise = h.rise;
      fit = fit_more (objects (line ∷ past)) (classes past) (classes (line ∷ past)) ks (q.names past) (subst (λ (n : ℕ). AllFit n (classes past) ks) (sym many) h.fit);
      no_death = λ o lt. dies o ∙ h.no_death o (omega (arith, lt, many));
      no_write = λ o lt. wrote o ∙ h.no_write o (omega (arith, lt, many));
    })

-- AN OBJECT IS MADE
module _ (e : ℕ) (past : List TraceLine) (born thread object class size len : ℕ) (ks : List Kept) (next : object ≡ objects past + 1) (small : size ≤ 2 ^ 30) (named : (1 ≤ class) × (class ≤ classes past)) (h : IsKept e past ks) where
  abbrev b_line : TraceLine
  b_line = Alloc born thread object class size len

  abbrev b_lines : List TraceLine
  b_lines = in_order past

  abbrev b_new : List TraceLine
  b_new = b_lines ++ b_line ∷ []

  abbrev b_body : Body
  b_body = record { class = class; size = size; slots = [] }

  b_dies : (o : ℕ) → dies_before b_new e o ≡ dies_before b_lines e o
  b_dies o = dies_as_before b_lines b_line e o refl

  b_wrote : (o : ℕ) → writes b_new e o ≡ writes b_lines e o
  b_wrote o = writes_as_before b_lines b_line e o refl

  b_beyond : objects past < object
  b_beyond = omega (arith, next)

  b_here : kept_at b_new e b_line ≡ kept_if (leb born e && true) (object, b_body)
  b_here =
      ap (λ (b : Bool). kept_if (leb born e && not b) (object, record { class = class; size = size; slots = written (writes b_new e object) })) (b_dies object ∙ h.no_death object b_beyond)
      ∙ ap (λ (ws : List (ℕ × ℕ)). kept_if (leb born e && true) (object, record { class = class; size = size; slots = written ws })) (b_wrote object ∙ h.no_write object b_beyond)

  b_front : filter_map (kept_at b_new e) b_lines ≡ ks
  b_front = same_list (kept_at b_new e) (kept_at b_lines e) b_lines (kept_same b_new b_lines e b_dies b_wrote) ∙ sym h.same

  b_all : all_at b_new e ≡ ks ++ cons_option (kept_if (leb born e && true) (object, b_body)) []
  b_all = all_more_at b_lines b_line e ∙ (ap (λ (t : List Kept). t ++ cons_option (kept_at b_new e b_line) []) b_front ∙ ap (λ (o : Option Kept). ks ++ cons_option o []) b_here)

  b_count : objects (b_line ∷ past) ≡ objects past + 1
  b_count = length-append (births past) (born ∷ [])

  b_fit : AllFit (objects (b_line ∷ past)) (classes past) ks
  b_fit = all_more (Fits (objects past) (classes past)) (Fits (objects (b_line ∷ past)) (classes past)) ks (λ k f. record { made = (let m = f.made in omega (arith, m, b_count)); small = f.small; class = f.class }) h.fit

  b_by : (b : Bool) → leb born e ≡ b → IsKept e (b_line ∷ past) (cond b (ks ++ (object, b_body) ∷ []) ks)
  b_by false off = record {
    same = sym (b_all ∙ (ap (λ (b : Bool). ks ++ cons_option (kept_if (b && true) (object, b_body)) []) off ∙ append-nil ks));
    rise = h.rise;
    fit = b_fit;
    no_death = λ o lt. b_dies o ∙ h.no_death o (omega (arith, lt, b_count));
    no_write = λ o lt. b_wrote o ∙ h.no_write o (omega (arith, lt, b_count));
  }
  b_by true is = record {
    same = sym (b_all ∙ ap (λ (b : Bool). ks ++ cons_option (kept_if (b && true) (object, b_body)) []) is);
    rise = rise_push 0 (objects past) ks (object, b_body) h.rise (below (objects past) (classes past) ks h.fit) (omega arith) b_beyond;
    fit = all_push (Fits (objects (b_line ∷ past)) (classes past)) ks (object, b_body) b_fit (record { made = omega (arith, next, b_count); small = small; class = named });
    no_death = λ o lt. b_dies o ∙ h.no_death o (omega (arith, lt, b_count));
    no_write = λ o lt. b_wrote o ∙ h.no_write o (omega (arith, lt, b_count));
  }

  born_is_kept : IsKept e (Alloc born thread object class size len ∷ past) (note_kept e ks (Alloc born thread object class size len))
  born_is_kept = b_by (leb born e) refl

-- A SLOT IS WRITTEN

late_write : (e event thread object slot old new : ℕ) → leb event e ≡ false → IsQuiet e (Update event thread object slot old new)
late_write e event thread object slot old new off = record {
  notes = λ ks. ap (λ (b : Bool). cond (b && not (eqb object 0)) (map (written_to object slot new) ks) ks) off;
  kept = λ lines. refl;
  tells = λ o. refl;
  writes = λ o. ap (λ (b : Bool). cond (eqb object o && b) (Some (slot, new)) None) off ∙ ap (λ (b : Bool). cond b (Some (slot, new)) None) (and-false (eqb object o));
  many = λ past. refl;
  names = λ past. omega arith;
}

-- what is kept of an object, with a write to it
one_more : (live : Bool) (object slot new o : ℕ) (body : Body) (ws : List (ℕ × ℕ)) (hit : Bool) → eqb object o ≡ hit → ws ≡ cond hit (insert_entry nat_cmp body.slots slot new) body.slots
    → kept_if live (o, record { class = body.class; size = body.size; slots = ws }) ≡ option_map (written_to object slot new) (kept_if live (o, body))
one_more false object slot new o body ws hit e is = refl
one_more true object slot new o body ws true e is =
    ap (λ (s : List (ℕ × ℕ)). Some (o, record { class = body.class; size = body.size; slots = s })) is ∙ sym (ap (λ (b : Bool). Some (cond b (o, with_slot slot new body) (o, body))) e)
one_more true object slot new o body ws false e is =
    ap (λ (s : List (ℕ × ℕ)). Some (o, record { class = body.class; size = body.size; slots = s })) is ∙ sym (ap (λ (b : Bool). Some (cond b (o, with_slot slot new body) (o, body))) e)

module _ (e : ℕ) (past : List TraceLine) (event thread object slot old new : ℕ) (ks : List Kept) (known : object ≤ objects past) (early : leb event e ≡ true) (h : IsKept e past ks) where
  abbrev w_line : TraceLine
  w_line = Update event thread object slot old new

  abbrev w_lines : List TraceLine
  w_lines = in_order past

  abbrev w_more : List TraceLine
  w_more = w_lines ++ w_line ∷ []

  w_noted : note_kept e ks w_line ≡ map (written_to object slot new) ks
  w_noted = ap (λ (b : Bool). cond (b && not (eqb object 0)) (map (written_to object slot new) ks) ks) early ∙ elim (cases_eqb object 0) [
    | inl z ↦ ap (λ (b : Bool). cond (not b) (map (written_to object slot new) ks) ks) z.0 ∙ sym (none_written 0 object slot new ks h.rise (let s = z.1 in omega (arith, s)))
    | inr n ↦ ap (λ (b : Bool). cond (not b) (map (written_to object slot new) ks) ks) n.0
  ]

  w_dies : (o : ℕ) → dies_before w_more e o ≡ dies_before w_lines e o
  w_dies o = dies_as_before w_lines w_line e o refl

  w_and_early : (a : Bool) → (a && leb event e) ≡ a
  w_and_early a = ap (λ (b : Bool). a && b) early ∙ elim a as (λ v. (v && true) ≡ v) [ true ↦ refl | false ↦ refl ]

  w_wrote : (o : ℕ) → writes w_more e o ≡ writes w_lines e o ++ cons_option (cond (eqb object o) (Some (slot, new)) None) []
  w_wrote o = writes_more w_lines w_line e o ∙ ap (λ (b : Bool). writes w_lines e o ++ cons_option (cond b (Some (slot, new)) None) []) (w_and_early (eqb object o))

  abbrev w_put : List (ℕ × ℕ) → ℕ × ℕ → List (ℕ × ℕ)
  w_put ss w = insert_entry nat_cmp ss w.0 w.1

  w_slots : (o : ℕ) (hit : Bool) → eqb object o ≡ hit → written (writes w_more e o) ≡ cond hit (insert_entry nat_cmp (written (writes w_lines e o)) slot new) (written (writes w_lines e o))
  w_slots o true is = ap written (w_wrote o ∙ ap (λ (b : Bool). writes w_lines e o ++ cons_option (cond b (Some (slot, new)) None) []) is) ∙ fold-append w_put [] (writes w_lines e o) ((slot, new) ∷ [])
  w_slots o false is = ap written (w_wrote o ∙ (ap (λ (b : Bool). writes w_lines e o ++ cons_option (cond b (Some (slot, new)) None) []) is ∙ append-nil (writes w_lines e o)))

  w_one : (x : TraceLine) → kept_at w_more e x ≡ option_map (written_to object slot new) (kept_at w_lines e x)
  w_one (Alloc born t o class size len) =
      ap (λ (b : Bool). kept_if (leb born e && not b) (o, record { class = class; size = size; slots = written (writes w_more e o) })) (w_dies o)
      ∙ one_more (leb born e && not (dies_before w_lines e o)) object slot new o (record { class = class; size = size; slots = written (writes w_lines e o) }) (written (writes w_more e o)) (eqb object o) refl (w_slots o (eqb object o) refl)
  w_one _ = refl

  wrote_is_kept : IsKept e (Update event thread object slot old new ∷ past) (note_kept e ks (Update event thread object slot old new))
  wrote_is_kept =
      subst (λ (t : List Kept). IsKept e (w_line ∷ past) t) (sym w_noted) (record {
        same = sym (all_more_at w_lines w_line e ∙ (append-nil (filter_map (kept_at w_more e) w_lines) ∙ (mapped_list (kept_at w_more e) (kept_at w_lines e) (written_to object slot new) w_lines w_one ∙ ap (λ (t : List Kept). map (written_to object slot new) t) (sym h.same))));
        rise = rise_map 0 object slot new ks h.rise;
        fit = all_written (objects past) (classes past) object slot new ks h.fit;
        no_death = λ o lt. w_dies o ∙ h.no_death o lt;
        no_write = λ o lt. w_wrote o ∙ (ap (λ (b : Bool). writes w_lines e o ++ cons_option (cond b (Some (slot, new)) None) []) (ne_eqb object o (λ s. omega (arith, s, lt, known))) ∙ (append-nil (writes w_lines e o) ∙ h.no_write o lt));
      })

-- AN OBJECT IS DEAD

late_death : (e object time : ℕ) → ltb time e ≡ false → IsQuiet e (Death object time)
late_death e object time off = record {
  notes = λ ks. ap (λ (b : Bool). cond b (filter (is_other object) ks) ks) off;
  kept = λ lines. refl;
  tells = λ o. ap (λ (b : Bool). eqb object o && b) off ∙ and-false (eqb object o);
  writes = λ o. refl;
  many = λ past. refl;
  names = λ past. omega arith;
}

died_test : (b d t : Bool) (k : Kept) (p : Kept → Bool) → p k ≡ not t → kept_if (b && not (d || ((t && true) || false))) k ≡ kept_by_test p (kept_if (b && not d) k)
died_test false d t k p e = refl
died_test true true t k p e = refl
died_test true false true k p e = sym (ap (λ (b : Bool). cond b (Some k) None) e)
died_test true false false k p e = sym (ap (λ (b : Bool). cond b (Some k) None) e)

module _ (e : ℕ) (past : List TraceLine) (object time : ℕ) (ks : List Kept) (known : object ≤ objects past) (early : ltb time e ≡ true) (h : IsKept e past ks) where
  abbrev d_line : TraceLine
  d_line = Death object time

  abbrev d_lines : List TraceLine
  d_lines = in_order past

  abbrev d_more : List TraceLine
  d_more = d_lines ++ d_line ∷ []

  d_noted : note_kept e ks d_line ≡ filter (is_other object) ks
  d_noted = ap (λ (b : Bool). cond b (filter (is_other object) ks) ks) early

  d_dies : (o : ℕ) → dies_before d_more e o ≡ (dies_before d_lines e o || ((eqb object o && true) || false))
  d_dies o = dies_more d_lines d_line e o ∙ ap (λ (b : Bool). dies_before d_lines e o || ((eqb object o && b) || false)) early

  d_wrote : (o : ℕ) → writes d_more e o ≡ writes d_lines e o
  d_wrote o = writes_as_before d_lines d_line e o refl

  d_one : (x : TraceLine) → kept_at d_more e x ≡ kept_by_test (is_other object) (kept_at d_lines e x)
  d_one (Alloc born t o class size len) =
      ap (λ (b : Bool). kept_if (leb born e && not b) (o, record { class = class; size = size; slots = written (writes d_more e o) })) (d_dies o)
      ∙ (ap (λ (ws : List (ℕ × ℕ)). kept_if (leb born e && not (dies_before d_lines e o || ((eqb object o && true) || false))) (o, record { class = class; size = size; slots = written ws })) (d_wrote o)
      ∙ died_test (leb born e) (dies_before d_lines e o) (eqb object o) (o, record { class = class; size = size; slots = written (writes d_lines e o) }) (is_other object) refl)
  d_one _ = refl

  died_is_kept : IsKept e (Death object time ∷ past) (note_kept e ks (Death object time))
  died_is_kept =
      subst (λ (t : List Kept). IsKept e (d_line ∷ past) t) (sym d_noted) (record {
        same = sym (all_more_at d_lines d_line e ∙ (append-nil (filter_map (kept_at d_more e) d_lines) ∙ (filtered_list (kept_at d_more e) (kept_at d_lines e) (is_other object) d_lines d_one ∙ ap (λ (t : List Kept). filter (is_other object) t) (sym h.same))));
        rise = rise_filter 0 (is_other object) ks h.rise;
        fit = all_filter (Fits (objects past) (classes past)) (is_other object) ks h.fit;
        no_death = λ o lt. d_dies o ∙ (ap (λ (b : Bool). dies_before d_lines e o || ((b && true) || false)) (ne_eqb object o (λ s. omega (arith, s, lt, known))) ∙ (or_false (dies_before d_lines e o) ∙ h.no_death o lt));
        no_write = λ o lt. d_wrote o ∙ h.no_write o lt;
      })

-- ALL LINES

quiet : (e : ℕ) (line : TraceLine) → ((ks : List Kept) → note_kept e ks line ≡ ks) → ((lines : List TraceLine) → kept_at lines e line ≡ None) → ((o : ℕ) → tells_before e o line ≡ false) → ((o : ℕ) → write_by e o line ≡ None) → ((past : List TraceLine) → objects (line ∷ past) ≡ objects past) → ((past : List TraceLine) → classes past ≤ classes (line ∷ past)) → IsQuiet e line
quiet e line n k t w m c = record { notes = n; kept = k; tells = t; writes = w; many = m; names = c }

kept_on : (version e : ℕ) (past : List TraceLine) (line : TraceLine) (ks : List Kept) → AreFine version (line ∷ past) → IsKept e past ks → IsKept e (line ∷ past) (note_kept e ks line)
kept_on version e past (Alloc born thread object class size len) ks f h =
    let g = follows past (Alloc born thread object class size len) f.2 in
    let next = (and_parts (is_timely past born) (eqb object (objects past + 1)) g.ordered).1 in
    let r = f.1 in
    born_is_kept e past born thread object class size len ks (eqb-true object (objects past + 1) next) (omega (arith, r)) ((omega (arith, r)), leb-true class (classes past) g.known) h
kept_on version e past (Update event thread object slot old new) ks f h =
    let g = follows past (Update event thread object slot old new) f.2 in
    let known = leb-true object (objects past) (and_parts (leb object (objects past)) (leb old (objects past)) (and_parts (leb object (objects past) && leb old (objects past)) (leb new (objects past)) g.known).0).0 in
    elim (cases_Bool (leb event e)) [
      | inl y ↦ wrote_is_kept e past event thread object slot old new ks known y h
      | inr n ↦ quiet_is_kept e past (Update event thread object slot old new) ks (late_write e event thread object slot old new n) h
    ]
kept_on version e past (Death object time) ks f h =
    let g = follows past (Death object time) f.2 in
    let known = leb-true object (objects past) g.known in
    elim (cases_Bool (ltb time e)) [
      | inl y ↦ died_is_kept e past object time ks known y h
      | inr n ↦ quiet_is_kept e past (Death object time) ks (late_death e object time n) h
    ]
kept_on version e past (Class number name) ks f h = quiet_is_kept e past (Class number name) ks (quiet e (Class number name) (λ ks. refl) (λ lines. refl) (λ o. refl) (λ o. refl) (λ past. refl) (λ past. omega arith)) h
kept_on version e past (Header v n) ks f h = quiet_is_kept e past (Header v n) ks (quiet e (Header v n) (λ ks. refl) (λ lines. refl) (λ o. refl) (λ o. refl) (λ past. refl) (λ past. omega arith)) h
kept_on version e past (Method number class name descriptor) ks f h = quiet_is_kept e past (Method number class name descriptor) ks (quiet e (Method number class name descriptor) (λ ks. refl) (λ lines. refl) (λ o. refl) (λ o. refl) (λ past. refl) (λ past. omega arith)) h
kept_on version e past (Enter event thread method receiver) ks f h = quiet_is_kept e past (Enter event thread method receiver) ks (quiet e (Enter event thread method receiver) (λ ks. refl) (λ lines. refl) (λ o. refl) (λ o. refl) (λ past. refl) (λ past. omega arith)) h
kept_on version e past (Exit event thread method) ks f h = quiet_is_kept e past (Exit event thread method) ks (quiet e (Exit event thread method) (λ ks. refl) (λ lines. refl) (λ o. refl) (λ o. refl) (λ past. refl) (λ past. omega arith)) h
kept_on version e past (Unwind event thread method exception) ks f h = quiet_is_kept e past (Unwind event thread method exception) ks (quiet e (Unwind event thread method exception) (λ ks. refl) (λ lines. refl) (λ o. refl) (λ o. refl) (λ past. refl) (λ past. omega arith)) h
kept_on version e past (Flush event deaths) ks f h = quiet_is_kept e past (Flush event deaths) ks (quiet e (Flush event deaths) (λ ks. refl) (λ lines. refl) (λ o. refl) (λ o. refl) (λ past. refl) (λ past. omega arith)) h
kept_on version e past (Finish event how) ks f h = quiet_is_kept e past (Finish event how) ks (quiet e (Finish event how) (λ ks. refl) (λ lines. refl) (λ o. refl) (λ o. refl) (λ past. refl) (λ past. omega arith)) h

pub is_kept : (version e : ℕ) (past : List TraceLine) → AreFine version past → IsKept e past (kept_by e past)
is_kept version e [] f = record { same = refl; rise = tt; fit = tt; no_death = λ o lt. refl; no_write = λ o lt. refl }
is_kept version e (line ∷ past) f = kept_on version e past line (kept_by e past) f (is_kept version e past f.0)

-- the numbers of the objects rise with their lines
pub is_above : (version : ℕ) (past : List TraceLine) (line : TraceLine) → AreFine version (line ∷ past) → IsAbove (objects past) line × (top_after (objects past) line ≡ objects (line ∷ past))
is_above version past (Alloc born thread object class size len) f =
    let g = follows past (Alloc born thread object class size len) f.2 in
    let next = eqb-true object (objects past + 1) (and_parts (is_timely past born) (eqb object (objects past + 1)) g.ordered).1 in
    let count = length-append (births past) (born ∷ []) in
    (omega (arith, next), omega (arith, next, count))
is_above version past (Header v n) f = (tt, refl)
is_above version past (Class number name) f = (tt, refl)
is_above version past (Method number class name descriptor) f = (tt, refl)
is_above version past (Update event thread object slot old new) f = (tt, refl)
is_above version past (Enter event thread method receiver) f = (tt, refl)
is_above version past (Exit event thread method) f = (tt, refl)
is_above version past (Unwind event thread method exception) f = (tt, refl)
is_above version past (Flush event deaths) f = (tt, refl)
is_above version past (Death object time) f = (tt, refl)
is_above version past (Finish event how) f = (tt, refl)

-- the lines at the front of good ones are good
pub fine_front : (version : ℕ) (later past : List TraceLine) → AreFine version (later ++ past) → AreFine version past
fine_front version [] past f = f
fine_front version (line ∷ later) past f = fine_front version later past f.0
