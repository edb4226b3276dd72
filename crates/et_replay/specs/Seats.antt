-- Models at work. The contracts of private functions alone speak of it.
use Rattle.std.specs.Prelude.{◌≡◌, ℕ, ◌<◌, Bool, true, List, [], ◌∷◌, ◌++◌, length, slice_index_or, Option, Some, None, All}
use Rattle.et_graph.specs.Graph.{Graph, Decides}
use Rattle.et_replay.specs.declared.item.Item.{Item}
use Rattle.et_replay.specs.declared.model.Policy.{Policy}
use Rattle.et_replay.specs.declared.model.Report.{Report}
use Rattle.et_replay.specs.Feeding.{HasItemRoom, MayCome}
use Rattle.et_replay.specs.Lines.{report_text}
use Rattle.et_replay.specs.Tally.{tally, is_exhausted}

-- the report is the tally, and the heap is exhausted
pub record IsFinal (report : Report) (policy : Policy) (past : List Item) : Type 0 where
  pub tally_is : (reached : Graph → ℕ → Bool) → Decides reached → report ≡ tally reached policy past
  pub exhausted : (reached : Graph → ℕ → Bool) → Decides reached → is_exhausted reached policy past ≡ true

-- R holds of the elements at each place of two lists, which are as long
pub record EachZip {A B : Type 0} (R : A → B → Type 0) (xs : List A) (ys : List B) : Type 0 where
  pub as_long : length xs ≡ length ys
  pub each : (k : ℕ) (x : A) (y : B) → k < length xs → R (slice_index_or xs k x) (slice_index_or ys k y)

-- a policy, and how many objects its model was told of
abbrev pub Told : Type 0
Told = Policy × ℕ

-- the line of its policy
abbrev pub told_line : (Graph → ℕ → Bool) → List Item → Told → List ℕ
told_line reached past p = report_text (tally reached p.0 past) ++ 10 ∷ []

-- the item may come to all of them
abbrev pub AllMayCome : List Told → List Item → Item → Type 0
AllMayCome told past item = All (λ p. MayCome p.1 past item) told

module _ {B : Type 0} (stands : B → Policy → ℕ → List Item → Type 0) where
  -- a model stands for the items, and there is room; or it is gone, and its report is final
  abbrev pub Sits : Option B → Option Report → Policy → ℕ → List Item → Type 0
  Sits (Some model) report policy objects past = stands model policy objects past × HasItemRoom policy past
  Sits None (Some report) policy objects past = IsFinal report policy past
  Sits None None policy objects past = ⊥
