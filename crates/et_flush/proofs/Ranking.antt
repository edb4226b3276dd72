-- Ranks of objects that are listed, and the runs of their blocks.
use Rattle.std.proofs.Common.{◌≡◌, ◌≢◌, ℕ, ◌+◌, ◌-◌, ◌*◌, ◌<◌, ◌≤◌, List, [], ◌∷◌, ◌++◌, length, get_or, set, Contains, sym, ◌∙◌, ap, subst, inl, inr, arith, get_or-set_same, get_or-set_other}
use Rattle.std.specs.List.Sorted.{IsStrictlyIncreasing}
use Rattle.std.proofs.lemmas.Bool.{cases_eq, cases_lt}
use Rattle.std.proofs.lemmas.List.{length-append, get_or_append_left, get_or_push, get_or_default}
use Rattle.std.proofs.lemmas.List.Elements.{Contains-append_left, Contains-push, Contains-get_or}
use Rattle.std.proofs.lemmas.List.Kept.{AllPairs-from_increasing}
use Rattle.et_flush.specs.Ranks.{block_at}
use Rattle.et_flush.specs.declared.ranks.TheConstants.{BLOCK_SIZE}
use Rattle.et_flush.specs.declared.ranks.Ranks.{Ranks}
use Rattle.et_flush.specs.Ranks.{rank_entry, AreRuns, IsBlockAdded, rank_of, AreRanked}

-- BLOCKS

-- the blocks of the first i objects are listed
pub record AreBlocksTo (held : List ℕ) (i : ℕ) (blocks : List ℕ) : Type 0 where
  pub short : length blocks ≤ i
  pub few : (r : ℕ) → r < length blocks → r ≤ get_or blocks r 0
  pub before : (r j : ℕ) → r < length blocks → i ≤ j → j < length held → get_or blocks r 0 ≤ block_at (get_or held j 0)
  pub listed : (k : ℕ) → k < i → Contains blocks (block_at (get_or held k 0))

pub blocks_none : (held blocks : List ℕ) → blocks ≡ [] → AreBlocksTo held 0 blocks
blocks_none held blocks none =
    let e : length blocks ≡ 0 = ap length none in
    record {
      short = omega (arith, e);
      few = λ r lt. absurd (omega arith);
      before = λ r j lt _ _. absurd (omega arith);
      listed = λ k lt. absurd (omega arith);
    }

pub no_runs : (runs blocks : List ℕ) → blocks ≡ [] → AreRuns runs blocks
no_runs runs blocks none r lt = let e : length blocks ≡ 0 = ap length none in absurd (omega arith)

block_rises : (o u : ℕ) → o ≤ u → block_at o ≤ block_at u
block_rises o u le = omega arith

-- a block that isn't listed yet comes after all that are
pub blocks_few : (held blocks : List ℕ) (i : ℕ) → AreBlocksTo held i blocks → i < length held → ¬ Contains blocks (block_at (get_or held i 0)) → length blocks ≤ block_at (get_or held i 0)
blocks_few held blocks i are lt out =
    elim (cases_lt 0 (length blocks)) [
      | inr none ↦ omega arith
      | inl some ↦
          let r : ℕ = length blocks - 1 in
          let inside : r < length blocks = omega arith in
          elim (cases_eq (get_or blocks r 0) (block_at (get_or held i 0))) [
            | inl e ↦ absurd (out (subst (λ (g : ℕ). Contains blocks g) e (Contains-get_or blocks r 0 inside)))
            | inr ne ↦ omega (arith, are.few r inside, are.before r i inside (omega arith) lt, ne)
          ]
    ]

pub blocks_more : (held blocks blocks' : List ℕ) (i : ℕ) → IsStrictlyIncreasing held → AreBlocksTo held i blocks → i < length held → IsBlockAdded blocks (block_at (get_or held i 0)) blocks' → AreBlocksTo held (i + 1) blocks'
blocks_more held blocks blocks' i rising are lt (inl same) =
    subst (λ (ps : List ℕ). AreBlocksTo held (i + 1) ps) (sym same.0)
    (record {
      short = omega (arith, are.short);
      few = are.few;
      before = λ r j less from within. are.before r j less (omega arith) within;
      listed = λ k less.
          elim (cases_lt k i) [
            | inl b ↦ are.listed k b
            | inr g ↦ let e : i ≡ k = omega arith in subst (λ (j : ℕ). Contains blocks (block_at (get_or held j 0))) e same.1
          ];
    })
blocks_more held blocks blocks' i rising are lt (inr more) =
    let g : ℕ = block_at (get_or held i 0) in
    let most : length blocks ≤ g = blocks_few held blocks i are lt more.1 in
    subst (λ (ps : List ℕ). AreBlocksTo held (i + 1) ps) (sym more.0)
    (record {
      short = omega (arith, are.short, length-append blocks (g ∷ []));
      few = λ r less.
          elim (cases_lt r (length blocks)) [
            | inl b ↦ omega (arith, are.few r b, get_or_append_left blocks (g ∷ []) 0 r b)
            | inr past ↦ let e : length blocks ≡ r = omega (arith, length-append blocks (g ∷ [])) in omega (arith, get_or_push blocks g 0 r e)
          ];
      before = λ r j less from within.
          elim (cases_lt r (length blocks)) [
            | inl b ↦ omega (arith, are.before r j b (omega arith) within, get_or_append_left blocks (g ∷ []) 0 r b)
            | inr past ↦
                let e : length blocks ≡ r = omega (arith, length-append blocks (g ∷ [])) in
                let order = AllPairs-from_increasing held rising i j 0 (omega arith) within in
                omega (arith, get_or_push blocks g 0 r e, block_rises (get_or held i 0) (get_or held j 0) (omega (arith, order)))
          ];
      listed = λ k less.
          elim (cases_lt k i) [
            | inl b ↦ Contains-append_left blocks (g ∷ []) (block_at (get_or held k 0)) (are.listed k b)
            | inr past ↦ let e : i ≡ k = omega arith in subst (λ (j : ℕ). Contains (blocks ++ g ∷ []) (block_at (get_or held j 0))) e (Contains-push blocks g)
          ];
    })

-- no more blocks are listed than were made
pub blocks_within : (held runs blocks : List ℕ) (i : ℕ) → AreRuns runs blocks → AreBlocksTo held i blocks → length blocks ≤ length runs
blocks_within held runs blocks i are to =
    elim (cases_lt 0 (length blocks)) [
      | inr none ↦ omega arith
      | inl some ↦ let r : ℕ = length blocks - 1 in let inside : r < length blocks = omega arith in omega (arith, to.few r inside, (are r inside).0)
    ]

-- ENTRIES

run_of : (runs blocks : List ℕ) (g : ℕ) → AreRuns runs blocks → Contains blocks g → (get_or runs g 0 < length blocks) × (get_or blocks (get_or runs g 0) 0 ≡ g)
run_of runs blocks g are c =
    let at : get_or blocks c.0 0 ≡ g = sym (get_or_default blocks c.0 g 0 c.1) ∙ c.2 in
    let run : get_or runs g 0 ≡ c.0 = ap (λ (p : ℕ). get_or runs p 0) (sym at) ∙ (are c.0 c.1).1 in
    (omega (arith, run, c.1), ap (λ (r : ℕ). get_or blocks r 0) run ∙ at)

pub entry_within : (runs blocks : List ℕ) (o : ℕ) → AreRuns runs blocks → Contains blocks (block_at o) → rank_entry runs o < length blocks * BLOCK_SIZE
entry_within runs blocks o are c = let run = (run_of runs blocks (block_at o) are c).0 in omega (arith, run)

-- objects that share an entry are the same
pub entries_apart : (runs blocks : List ℕ) → AreRuns runs blocks → (o u : ℕ) → 0 < o → 0 < u → Contains blocks (block_at o) → Contains blocks (block_at u) → rank_entry runs o ≡ rank_entry runs u → o ≡ u
entries_apart runs blocks are o u first second c d same =
    let run : get_or runs (block_at o) 0 ≡ get_or runs (block_at u) 0 = omega (arith, same) in
    let block : block_at o ≡ block_at u = sym (run_of runs blocks (block_at o) are c).1 ∙ (ap (λ (r : ℕ). get_or blocks r 0) run ∙ (run_of runs blocks (block_at u) are d).1) in
    omega (arith, same, run, block)

-- RANKS

pub ranks_more : (held runs ranks : List ℕ) (i o e v : ℕ) → IsStrictlyIncreasing held
    → ((o u : ℕ) → Contains held o → Contains held u → rank_entry runs o ≡ rank_entry runs u → o ≡ u)
    → i < length held → o ≡ get_or held i 0 → e ≡ rank_entry runs o → e < length ranks → v ≡ i + 1
    → ((k : ℕ) → k < i → get_or ranks (rank_entry runs (get_or held k 0)) 0 ≡ k + 1)
    → (k : ℕ) → k < i + 1 → get_or (set ranks e v) (rank_entry runs (get_or held k 0)) 0 ≡ k + 1
ranks_more held runs ranks i o e v rising apart lt is at inside value before k less =
    elim (cases_lt k i) [
      | inr g ↦
          let same : i ≡ k = omega arith in
          let entry : rank_entry runs (get_or held k 0) ≡ e = ap (λ (j : ℕ). rank_entry runs (get_or held j 0)) (sym same) ∙ (ap (λ (z : ℕ). rank_entry runs z) (sym is) ∙ sym at) in
          ap (λ (j : ℕ). get_or (set ranks e v) j 0) entry ∙ (get_or-set_same ranks e v 0 inside ∙ (value ∙ ap (λ (j : ℕ). j + 1) same))
      | inl b ↦
          let ne : rank_entry runs (get_or held k 0) ≢ e = λ h.
          let two : get_or held k 0 ≡ get_or held i 0 =
          apart (get_or held k 0) (get_or held i 0) (Contains-get_or held k 0 (omega arith)) (Contains-get_or held i 0 lt) (h ∙ (at ∙ ap (λ (z : ℕ). rank_entry runs z) is)) in
          omega (arith, two, AllPairs-from_increasing held rising k i 0 b lt) in
          get_or-set_other ranks e (rank_entry runs (get_or held k 0)) v 0 ne ∙ before k b
    ]

-- the ranks are those of the table, once each is written
pub are_ranked : (held runs ranks : List ℕ) (r : Ranks) → r.runs.items ≡ runs → r.ranks.items ≡ ranks
    → ((o : ℕ) → Contains held o → (0 < o) × (block_at o < length runs)) → ((o : ℕ) → Contains held o → rank_entry runs o < length ranks)
    → ((k : ℕ) → k < length held → get_or ranks (rank_entry runs (get_or held k 0)) 0 ≡ k + 1) → AreRanked held r
are_ranked held runs ranks r same there within entries each k lt =
    let o : ℕ = get_or held k 0 in
    let c : Contains held o = Contains-get_or held k 0 lt in
    let w = within o c in
    let e = entries o c in
    let entry : rank_entry r.runs.items o ≡ rank_entry runs o = ap (λ (rs : List ℕ). rank_entry rs o) same in
    let rank : rank_of r o ≡ k + 1 = ap (λ (ts : List ℕ). get_or ts (rank_entry r.runs.items o) 0) there ∙ (ap (λ (j : ℕ). get_or ranks j 0) entry ∙ each k lt) in
    (record { entry = record { above = w.0; block = omega (arith, w.1, ap length same); entry = omega (arith, entry, ap length there, e) }; first = omega (arith, rank); last = omega (arith, rank) }, rank)
