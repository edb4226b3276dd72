-- What the lines of a listing without faults keep.
use Rattle.std.proofs.Common.{◌≡◌, ◌+◌, Bool, true, false, cond, List, [], ◌∷◌, ◌++◌, refl, sym, subst, inl, inr, append_assoc, append-nil, None}
use Rattle.std.proofs.lemmas.Bool.{cases_Bool}
use Rattle.et_code.proofs.Keeping.{front, back}
use Rattle.et_base.specs.Marks.{Mark, MarksAre}
use Rattle.et_listing.specs.declared.entry.Entry.{Entry}
use Rattle.et_listing.specs.declared.line.Parsed.{Parsed}
use Rattle.et_asm.specs.Along.{along_from}
use Rattle.et_asm.specs.Order.{opens, lines_of_body, stage_of, is_inside, is_finished, may_stand}
use Rattle.et_asm.specs.Listings.{number_behind, line_fits, counts_fit, fault_marks, own_marks, outside_marks, listed_body_marks, line_marks, end_mark}

-- each rule holds
abbrev pub AllHold : List Mark → Type 0
AllHold [] = Unit {0}
AllHold (m ∷ ms) = (m.holds ≡ true) × AllHold ms

pub all_hold : (ms : List Mark) → MarksAre ms None → AllHold ms
all_hold [] h = tt
all_hold (m ∷ ms) h = elim (cases_Bool m.holds) [
  | inl holds ↦ (holds, all_hold ms (λ p k b. h p k (inr b)))
  | inr broken ↦ absurd (h m.place m.kind (inl (broken, refl, refl)))
]

-- a line keeps its rules, and so does the body that it opens
pub record LineHolds (entries : List Entry) (before : List Parsed) (p : Parsed) (behind : List Parsed) : Type 0 where
  pub stands : may_stand (stage_of before) p.line ≡ true
  pub fits : line_fits entries p.line ≡ true
  pub few : counts_fit (before ++ p ∷ []) ≡ true
  pub body : is_inside (stage_of before) ≡ false → opens p.line ≡ true → AllHold (listed_body_marks entries (number_behind before + 1) (lines_of_body behind))

-- and so do all lines behind others, and the listing is whole at their end
abbrev pub LinesHold : List Entry → List Parsed → List Parsed → Type 0
LinesHold entries before [] = is_finished (stage_of before) ≡ true
LinesHold entries before (p ∷ more) = LineHolds entries before p more × LinesHold entries (before ++ p ∷ []) more

line_holds : (entries : List Entry) (before : List Parsed) (p : Parsed) (behind : List Parsed) → AllHold (line_marks entries before p behind) → LineHolds entries before p behind
line_holds entries before p behind h =
    let number = number_behind before in
    let own = own_marks entries number (stage_of before) (counts_fit (before ++ p ∷ [])) p in
    let outside = outside_marks entries number p behind in
    let ours = front own (cond (is_inside (stage_of before)) [] outside) h in
    let rules = back (fault_marks number p.fault) _ ours in
    record {
      stands = rules.0;
      fits = rules.1.0;
      few = rules.1.1.0;
      body = λ out opening.
          let all : AllHold outside = subst (λ (b : Bool). AllHold (cond b [] outside)) out (back own (cond (is_inside (stage_of before)) [] outside) h) in
          subst (λ (b : Bool). AllHold (cond b (listed_body_marks entries (number + 1) (lines_of_body behind)) [])) opening all.1;
    }

lines_from : (entries : List Entry) (before more : List Parsed) → AllHold (along_from (line_marks entries) before more ++ end_mark (before ++ more) ∷ []) → LinesHold entries before more
unfolding along_from
lines_from entries before [] h = subst (λ (ps : List Parsed). is_finished (stage_of ps) ≡ true) (append-nil before) h.0
lines_from entries before (p ∷ more) h =
    let marks = line_marks entries before p more in
    let others = along_from (line_marks entries) (before ++ p ∷ []) more in
    let end = end_mark (before ++ p ∷ more) ∷ [] in
    let split = subst AllHold (append_assoc marks others end) h in (
      line_holds entries before p more (front marks (others ++ end) split),
      lines_from entries (before ++ p ∷ []) more (subst (λ (ps : List Parsed). AllHold (others ++ end_mark ps ∷ [])) (sym (append_assoc before (p ∷ []) more)) (back marks (others ++ end) split)),
    )

pub lines_hold : (entries : List Entry) (lines : List Parsed) → AllHold (along_from (line_marks entries) [] lines ++ end_mark lines ∷ []) → LinesHold entries [] lines
lines_hold entries lines h = lines_from entries [] lines h
