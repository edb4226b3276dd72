-- The calls of files or of a sink in memory, of which some are to fail.
use Rattle.std.specs.Prelude.{ℕ, ◌+◌, ◌^◌, ◌<◌, ◌≤◌, min, Bool, List, All}
use Rattle.std.specs.List.{list_any}
use Rattle.std.specs.Ordering.{nat_cmp, is_eq}
use Rattle.std.specs.BTreeSet.{insert_key}
use Rattle.et_io.specs.Faults.{count_after}

-- how many calls were made, the numbers of those that are to fail, in order, and how many failed. Calls are numbered
-- from 1; they are counted up to 2^63, and none from there on can be told to fail.
pub record Calls : Type 0 where
  pub made : ℕ
  pub failing : List ℕ
  pub faults : ℕ

-- whether the next call is to fail
abbrev pub next_fails : Calls → Bool
next_fails calls = list_any (λ number. is_eq (nat_cmp (calls.made + 1) number)) calls.failing

-- the calls, of which this one is to fail too
abbrev pub with_failing : Calls → ℕ → Calls
with_failing calls call = record calls { failing = insert_key nat_cmp calls.failing call }

-- one call more
abbrev pub after_call : Calls → Calls
after_call calls = record {
  made = min (calls.made + 1) (2 ^ 63);
  failing = calls.failing;
  faults = count_after (next_fails calls) calls.faults;
}

-- each number that is to fail is below 2^63, and no more calls failed than were made
pub record AreCounted (calls : Calls) : Type 0 where
  pub made_fits : calls.made ≤ 2 ^ 63
  pub below : All (λ number. number < 2 ^ 63) calls.failing
  pub no_more : calls.faults ≤ calls.made
