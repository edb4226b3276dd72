-- What the order of lines says: there is one class line, and lines outside of bodies name what the pool has.
use Rattle.std.proofs.Common.{◌≡◌, ℕ, Bool, true, false, cond, ◌||◌, List, [], ◌∷◌, ◌++◌, Option, Some, None, refl, sym, ap, subst, inl, inr, ◌∙◌, true≢false}
use Rattle.std.specs.List.{flat_map, list_any}
use Rattle.std.proofs.lemmas.List.Sums.{fold-append}
use Rattle.std.proofs.lemmas.Grind.{flat_map-append}
use Rattle.std.proofs.lemmas.Bool.{or_right, or_cases, or_left}
use Rattle.et_listing.specs.declared.entry.Entry.{Entry}
use Rattle.et_listing.specs.declared.line.Line.{Line}
use Rattle.et_listing.specs.declared.line.Line.TheVariants as line
use Rattle.et_listing.specs.declared.line.Parsed.{Parsed}
use Rattle.et_asm.specs.declared.order.Stage.{Stage}
use Rattle.et_asm.specs.declared.order.Stage.TheVariants as stage
use Rattle.et_asm.specs.Along.{along_from}
use Rattle.et_asm.specs.Order.{opens, lines_of_body, step, stage_of, is_inside, is_finished, may_stand}
use Rattle.et_asm.specs.Pool.{same_entry, parts, header_entries, body_uses, outside_uses, line_uses, uses, pool}
use Rattle.et_asm.proofs.Once.{laws}
use Rattle.et_asm.proofs.Sets.{sets}
use Rattle.et_asm.proofs.Slots.{any_append, one_entry}
use Rattle.et_asm.proofs.Within.{Has, there, front, front_then}
use Rattle.et_asm.proofs.Held.{LinesHold}

pub stage_push : (before : List Parsed) (p : Parsed) → stage_of (before ++ p ∷ []) ≡ step (stage_of before) p.line
stage_push before p = fold-append (λ at q. step at q.line) stage.Start before (p ∷ [])

-- THE CLASS LINE

abbrev pub class_line : Line → List Line
class_line (line.Class name super flags) = line.Class name super flags ∷ []
class_line other = []

abbrev pub class_lines : List Parsed → List Line
class_lines lines = flat_map (λ p. class_line p.line) lines

-- what only the class line gives, it gives
pub by_class : {Y : Type 0} (give : Line → List Y) → ((l : Line) → give l ≡ flat_map give (class_line l)) → (lines : List Parsed) → flat_map (λ p. give p.line) lines ≡ flat_map give (class_lines lines)
by_class give only [] = refl
by_class {Y} give only (p ∷ more) =
    ap (λ (ys : List Y). ys ++ flat_map (λ q. give q.line) more) (only p.line)
    ∙ (ap (λ (ys : List Y). flat_map give (class_line p.line) ++ ys) (by_class give only more) ∙ sym (flat_map-append give (class_line p.line) (class_lines more)))

abbrev is_start : Stage → Bool
is_start stage.Start = true
is_start other = false

late : (s : Stage) (l : Line) → is_start s ≡ false → may_stand s l ≡ true → class_line l ≡ []
late stage.Start l h k = absurd (true≢false h)
late stage.Interfaces (line.Class name super flags) h k = absurd (true≢false (sym k))
late stage.Fields (line.Class name super flags) h k = absurd (true≢false (sym k))
late stage.Methods (line.Class name super flags) h k = absurd (true≢false (sym k))
late stage.Body (line.Class name super flags) h k = absurd (true≢false (sym k))
late s l h k = refl

limits_step : (s : Stage) (name descriptor : List ℕ) (flags : ℕ) (limits : Option (ℕ × ℕ)) → is_start s ≡ false → is_start (step s (line.Method name descriptor flags limits)) ≡ false
limits_step stage.Body name descriptor flags limits h = refl
limits_step stage.Start name descriptor flags limits h = absurd (true≢false h)
limits_step stage.Interfaces name descriptor flags None h = refl
limits_step stage.Interfaces name descriptor flags (Some limits) h = refl
limits_step stage.Fields name descriptor flags None h = refl
limits_step stage.Fields name descriptor flags (Some limits) h = refl
limits_step stage.Methods name descriptor flags None h = refl
limits_step stage.Methods name descriptor flags (Some limits) h = refl

stays : (s : Stage) (l : Line) → is_start s ≡ false → is_start (step s l) ≡ false
stays s (line.Method name descriptor flags limits) h = limits_step s name descriptor flags limits h
stays stage.Start l h = absurd (true≢false h)
stays s l h = refl

module _ (entries : List Entry) where
  no_class : (before more : List Parsed) → LinesHold entries before more → is_start (stage_of before) ≡ false → class_lines more ≡ []
  no_class before [] h k = refl
  no_class before (p ∷ more) h k =
      ap (λ ls. ls ++ class_lines more) (late (stage_of before) p.line k h.0.stands)
      ∙ no_class (before ++ p ∷ []) more h.1 (ap is_start (stage_push before p) ∙ stays (stage_of before) p.line k)

  -- the name, the superclass and the flags of the class line
  pub record OneClass (lines : List Parsed) : Type 0 where
    pub name : List ℕ
    pub super : List ℕ
    pub flags : ℕ
    pub is : class_lines lines ≡ line.Class name super flags ∷ []

  unfinished : (s : Stage) → is_start s ≡ true → is_finished s ≡ false
  unfinished stage.Start h = refl
  unfinished s h = absurd (true≢false (sym h))

  start_is : (s : Stage) → is_start s ≡ true → s ≡ stage.Start
  start_is stage.Start h = refl
  start_is s h = absurd (true≢false (sym h))

  class_from : (before more : List Parsed) → LinesHold entries before more → stage_of before ≡ stage.Start → OneClass more
  class_from before [] h k = absurd (true≢false (sym h ∙ ap is_finished k))
  class_from before (p ∷ more) h k = by p.line refl (sym (ap (λ s. may_stand s p.line) k) ∙ h.0.stands) (λ e. no_class (before ++ p ∷ []) more h.1 (ap is_start (stage_push before p ∙ ap (λ s. step s p.line) k) ∙ e)) (λ e. class_from (before ++ p ∷ []) more h.1 (stage_push before p ∙ (ap (λ s. step s p.line) k ∙ e)))
    where
      by : (l : Line) → p.line ≡ l → may_stand stage.Start l ≡ true → (is_start (step stage.Start p.line) ≡ false → class_lines more ≡ []) → (step stage.Start p.line ≡ stage.Start → OneClass more) → OneClass (p ∷ more)
      by (line.Class name super flags) e m none rest =
          record { name = name; super = super; flags = flags; is = ap (λ l. class_line l ++ class_lines more) e ∙ ap (λ ls. line.Class name super flags ∷ ls) (none (ap (λ l. is_start (step stage.Start l)) e)) }
      by line.Blank e m none rest = let r = rest (ap (step stage.Start) e) in record { name = r.name; super = r.super; flags = r.flags; is = ap (λ l. class_line l ++ class_lines more) e ∙ r.is }
      by l e m none rest = absurd (true≢false (sym m))

  pub one_class : (lines : List Parsed) → LinesHold entries [] lines → OneClass lines
  one_class lines h = class_from [] lines h refl

-- WHAT LINES NAME

abbrev pub AllHas : List Entry → List Entry → Type 0
AllHas xs [] = Unit {0}
AllHas xs (e ∷ es) = Has xs e × AllHas xs es

-- the entries of each line are there
abbrev pub AllNamed : List Entry → List Parsed → Type 0
AllNamed xs [] = Unit {0}
AllNamed xs (p ∷ more) = AllHas xs (header_entries p.line) × AllNamed xs more

has_front : (xs es ds : List Entry) → AllHas xs (es ++ ds) → AllHas xs es
has_front xs [] ds h = tt
has_front xs (e ∷ es) ds h = (h.0, has_front xs es ds h.1)

has_rest : (xs es ds : List Entry) → AllHas xs (es ++ ds) → AllHas xs ds
has_rest xs [] ds h = h
has_rest xs (e ∷ es) ds h = has_rest xs es ds h.1

has_moved : (xs ys es : List Entry) → ((e : Entry) → Has xs e → Has ys e) → AllHas xs es → AllHas ys es
has_moved xs ys [] f h = tt
has_moved xs ys (e ∷ es) f h = (f e h.0, has_moved xs ys es f h.1)

own_part : (e : Entry) → Has (parts e) e
own_part e =
    ap (list_any (same_entry e)) (front_then e) ∙ (any_append (same_entry e) (front e) (e ∷ []) ∙ or_right (list_any (same_entry e) (front e)) (list_any (same_entry e) (e ∷ [])) (ap (λ b. b || false) (laws.refl e)))

has_used : (us : List Entry) → AllHas (flat_map parts us) us
has_used [] = tt
has_used (u ∷ us) = (
  any_append (same_entry u) (parts u) (flat_map parts us) ∙ or_left (list_any (same_entry u) (parts u)) (list_any (same_entry u) (flat_map parts us)) (own_part u),
  has_moved (flat_map parts us) (parts u ++ flat_map parts us) us (λ e h. any_append (same_entry e) (parts u) (flat_map parts us) ∙ or_right (list_any (same_entry e) (parts u)) (list_any (same_entry e) (flat_map parts us)) h) (has_used us),
)

pool_used : (lines : List Parsed) → AllHas (pool lines) (uses lines)
pool_used lines = has_moved (flat_map parts (uses lines)) (pool lines) (uses lines) (λ e h. (sets lines).members e ∙ h) (has_used (uses lines))

used_has : (us : List Entry) (e : Entry) → Has us e → Has (flat_map parts us) e
used_has [] e h = h
used_has (u ∷ us) e h =
    any_append (same_entry e) (parts u) (flat_map parts us) ∙ (elim (or_cases (same_entry e u) (list_any (same_entry e) us) h) [
      | inl here ↦ or_left (list_any (same_entry e) (parts u)) (list_any (same_entry e) (flat_map parts us)) (there (parts u) e u (one_entry e u here) (own_part u))
      | inr later ↦ or_right (list_any (same_entry e) (parts u)) (list_any (same_entry e) (flat_map parts us)) (used_has us e later)
    ])

-- the pool has each entry that lines name
pub pool_has : (lines : List Parsed) (e : Entry) → Has (uses lines) e → Has (pool lines) e
pool_has lines e h = (sets lines).members e ∙ used_has (uses lines) e h

inside_none : (s : Stage) (l : Line) → is_inside s ≡ true → may_stand s l ≡ true → header_entries l ≡ []
inside_none stage.Body (line.Class name super flags) h k = absurd (true≢false (sym k))
inside_none stage.Body (line.Interface name) h k = absurd (true≢false (sym k))
inside_none stage.Body (line.Field name descriptor flags constant) h k = absurd (true≢false (sym k))
inside_none stage.Body (line.Method name descriptor flags limits) h k = absurd (true≢false (sym k))
inside_none stage.Body l h k = refl
inside_none s l h k = absurd (true≢false (sym h))

module _ (entries xs : List Entry) where
  named_line : (before : List Parsed) (p : Parsed) (behind : List Parsed) (b : Bool) → is_inside (stage_of before) ≡ b → may_stand (stage_of before) p.line ≡ true → AllHas xs (cond b [] (outside_uses p.line behind)) → AllHas xs (header_entries p.line)
  named_line before p behind true e m h = subst (AllHas xs) (sym (inside_none (stage_of before) p.line e m)) tt
  named_line before p behind false e m h = has_front xs (header_entries p.line) (cond (opens p.line) (body_uses (lines_of_body behind)) []) h

  named_from : (before more : List Parsed) → LinesHold entries before more → AllHas xs (along_from line_uses before more) → AllNamed xs more
  unfolding along_from
  named_from before [] h k = tt
  named_from before (p ∷ more) h k = (
    named_line before p more (is_inside (stage_of before)) refl h.0.stands (has_front xs (line_uses before p more) (along_from line_uses (before ++ p ∷ []) more) k),
    named_from (before ++ p ∷ []) more h.1 (has_rest xs (line_uses before p more) (along_from line_uses (before ++ p ∷ []) more) k),
  )

pub all_named : (lines : List Parsed) → LinesHold (pool lines) [] lines → AllNamed (pool lines) lines
all_named lines h = named_from (pool lines) (pool lines) [] lines h (pool_used lines)
