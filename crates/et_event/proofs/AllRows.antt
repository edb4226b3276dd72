-- The table of rows has for each opcode its row.
use Rattle.std.proofs.Common.{◌≡◌, ℕ, zero, suc, ◌+◌, ◌<◌, List, [], ◌∷◌, get_or, Option, None, refl, ap, ◌∙◌, arith}
use Rattle.et_event.specs.declared.rows.Row.{Row}
use Rattle.et_event.specs.declared.table.TheConstants.{ROWS}
use Rattle.et_event.specs.Table.{row_of, row_among, rows}

-- the rows of so many opcodes from k on
listed : ℕ → ℕ → List (Option Row)
listed k zero = []
listed k (suc n) = row_among rows k ∷ listed (suc k) n

all_listed : ROWS ≡ listed 0 256
unfolding listed
all_listed = refl

listed_at : (n k i m : ℕ) → i < n → m ≡ i + k → get_or (listed k n) i None ≡ row_among rows m
unfolding listed
listed_at zero k i m lt e = absurd (omega arith)
listed_at (suc n) k zero m lt e = let s : k ≡ m = omega arith in ap (row_among rows) s
listed_at (suc n) k (suc i) m lt e = listed_at n (suc k) i m (omega arith) (omega arith)

pub row_at : (opcode : ℕ) → opcode < 256 → get_or ROWS opcode None ≡ row_of opcode
unfolding row_of
row_at opcode lt = ap (λ rs. get_or rs opcode None) all_listed ∙ listed_at 256 0 opcode opcode lt (omega arith)
