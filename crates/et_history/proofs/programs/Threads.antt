-- The one built-in method with code, `run` of Thread, and the pool of its class.
use Rattle.std.proofs.Common.{◌≡◌, ℕ, ◌+◌, ◌<◌, ◌^◌, true, false, ◌||◌, ◌==◌, zero, suc, List, [], ◌∷◌, ◌++◌, length, map, Result, Ok, refl, sym, ◌∙◌, ap, subst, arith, append-nil}
use Rattle.std.specs.Prelude.{All, IfOk}
use Rattle.std.specs.List.{list_any, slice_index_or}
use Rattle.std.proofs.lemmas.List.{get_or-append-add}
use Rattle.std.proofs.lemmas.List.Elements.{All-nil, All-cons}
use Rattle.et_boot.specs.Classes.{BootClassOf, no_boot_class, thread_pool, thread_run}
use Rattle.et_pool.specs.Entries.{Constants, slots_of}
use Rattle.et_pool.specs.Looks.{class_name_at}
use Rattle.et_pool.specs.Pools.{IsPool}
use Rattle.et_pool.specs.Spelling.{IsEntry, IsPoolSpelled, pool_bytes}
use Rattle.et_pool.specs.Text.{is_modified}
use Rattle.et_pool.proofs.Spelled.{spelled_pool}
use Rattle.et_code.specs.declared.instr.Instr.{Instr}
use Rattle.et_code.specs.declared.instr.CodeFault.{CodeFault}
use Rattle.et_code.specs.Decoding.{instruction_at}
use Rattle.et_code.specs.Forms.{form_of}
use Rattle.et_code.specs.Starts.{IsStart, starts, starts_from}
use Rattle.et_code.proofs.Starting.{starts_are_all}
use Rattle.et_class.specs.Codes.{index_of, is_member_well, is_class_well}
use Rattle.et_program.specs.Files.{boots}
use Rattle.et_program.specs.Loaded.{LoadedClass}
use Rattle.et_program.specs.MembersOf.{AreBootPools, HasPools, IsBootPool, file_pool}
use Rattle.et_history.proofs.programs.Places.{at_mapped, one_of}
use Rattle.et_event.specs.Sites.{no_constants}
use Rattle.et_link.proofs.BuiltInLemmas.{one_pool}

-- ITS INSTRUCTIONS make no array, and name no <clinit>

pub record IsPlain (i : Instr) : Type 0 where
  pub makes : ((i.opcode == 0xbc) || ((i.opcode == 0xbd) || (i.opcode == 0xc5))) ≡ false
  pub member : is_member_well (slots_of thread_pool) i ≡ true
  pub class : is_class_well i (class_name_at (slots_of thread_pool) (index_of i.first)) ≡ true

abbrev PlainAt : ℕ → Type 0
PlainAt pc = IfOk (instruction_at thread_run.code pc) (λ x. IsPlain x.0)

-- each of a list, one after the other
abbrev pub Each : {X : Type 0} → (X → Type 0) → List X → Type 0
Each P [] = Unit {0}
Each P (x ∷ xs) = P x × Each P xs

pub all_of : {X : Type 0} (P : X → Type 0) (xs : List X) → Each P xs → All P xs
all_of P [] h = All-nil P
all_of P (x ∷ xs) h = All-cons P x xs h.0 (all_of P xs h.1)

abbrev run_starts : List ℕ
run_starts = 0 ∷ 1 ∷ 4 ∷ 7 ∷ 8 ∷ 11 ∷ 16 ∷ []

each_plain : Each PlainAt run_starts
unfolding instruction_at form_of
each_plain = (
  record { makes = refl; member = refl; class = refl },
  (
    record { makes = refl; member = refl; class = refl },
    (
      record { makes = refl; member = refl; class = refl },
      (
        record { makes = refl; member = refl; class = refl },
        (
          record { makes = refl; member = refl; class = refl },
          (
            record { makes = refl; member = refl; class = refl },
            (record { makes = refl; member = refl; class = refl }, tt),
          ),
        ),
      ),
    ),
  ),
)

starts_of : starts thread_run.code ≡ run_starts
unfolding starts_from instruction_at form_of
starts_of = refl

pub run_is_plain : (pc : ℕ) (x : Instr × ℕ) → IsStart thread_run.code pc → instruction_at thread_run.code pc ≡ Ok x → IsPlain x.0
run_is_plain pc x start e =
    let among : list_any (λ s. s == pc) run_starts ≡ true = subst (λ (pcs : List ℕ). list_any (λ s. s == pc) pcs ≡ true) starts_of ((starts_are_all thread_run.code pc).1 start) in
    subst (λ (r : Result (Instr × ℕ) CodeFault). IfOk r (λ y. IsPlain y.0)) e (one_of PlainAt pc run_starts among (all_of PlainAt run_starts each_plain))

-- ITS POOL

entries : Each IsEntry thread_pool
unfolding is_modified
entries = (
  (refl, omega arith),
  (
    (refl, omega arith),
    (
      (refl, omega arith),
      (
        (refl, omega arith),
        (
          (refl, omega arith, omega arith),
          (
            (refl, omega arith, omega arith),
            (
              (refl, omega arith),
              (
                (refl, omega arith),
                (
                  (refl, omega arith),
                  (
                    (refl, omega arith),
                    (
                      (refl, omega arith, omega arith),
                      ((refl, omega arith, omega arith), tt),
                    ),
                  ),
                ),
              ),
            ),
          ),
        ),
      ),
    ),
  ),
)

spelled : IsPoolSpelled (pool_bytes thread_pool) 0 (slots_of thread_pool) (0 + length (pool_bytes thread_pool))
spelled = record {
  entries = thread_pool;
  are_entries = all_of IsEntry thread_pool entries;
  few = omega arith;
  slots_are = refl;
  stands = ([], sym (append-nil (pool_bytes thread_pool)));
  after_is = refl;
}

boot_pool_at : (cs : List BootClassOf) (ps : List Constants) → AreBootPools cs ps → (k : ℕ) → k < length cs → IsBootPool (slice_index_or cs k no_boot_class) (slice_index_or ps k no_constants)
boot_pool_at [] [] h k lt = absurd (omega arith)
boot_pool_at [] (q ∷ ps) h k lt = absurd h
boot_pool_at (c ∷ cs) [] h k lt = absurd h
boot_pool_at (c ∷ cs) (q ∷ ps) h zero lt = h.0
boot_pool_at (c ∷ cs) (q ∷ ps) h (suc k) lt = boot_pool_at cs ps h.1 k (omega arith)

length-pools : (cs : List BootClassOf) (ps : List Constants) → AreBootPools cs ps → length ps ≡ length cs
length-pools [] [] h = refl
length-pools [] (q ∷ ps) h = absurd h
length-pools (c ∷ cs) [] h = absurd h
length-pools (c ∷ cs) (q ∷ ps) h = ap suc (length-pools cs ps h.1)

pub in_front : {X : Type 0} (xs ys : List X) (k : ℕ) (d : X) → k < length xs → slice_index_or (xs ++ ys) k d ≡ slice_index_or xs k d
in_front [] ys k d lt = absurd (omega arith)
in_front (x ∷ xs) ys zero d lt = refl
in_front (x ∷ xs) ys (suc k) d lt = in_front xs ys k d (omega arith)

boots_are_some : 6 < length boots
unfolding boots
boots_are_some = omega arith

thread_at : (slice_index_or boots 6 no_boot_class).pool ≡ pool_bytes thread_pool
unfolding boots
thread_at = refl

pub few_slots : length (slots_of thread_pool) < 2 ^ 16
few_slots = omega arith

-- the pool of the class of a file
pub pool_is : (files : List LoadedClass) (pools : List Constants) → HasPools files pools → (i : ℕ) (c : LoadedClass) → i < length files → slice_index_or files i c ≡ c → slice_index_or pools (length boots + i) no_constants ≡ c.pool
pool_is files pools h i c lt e =
    ap (λ (ps : List Constants). slice_index_or ps (length boots + i) no_constants) h.are
    ∙ (ap (λ (n : ℕ). slice_index_or (h.built_in ++ map file_pool files) (n + i) no_constants) (sym (length-pools boots h.built_in h.are_spelled))
    ∙ (get_or-append-add h.built_in (map file_pool files) i no_constants ∙ (at_mapped file_pool files i c no_constants lt ∙ ap file_pool e)))

-- the pool of Thread
pub thread_slots : (files : List LoadedClass) (pools : List Constants) → HasPools files pools → (slice_index_or pools 6 no_constants).slots ≡ slots_of thread_pool
thread_slots files pools h =
    let size : length h.built_in ≡ length boots = length-pools boots h.built_in h.are_spelled in
    let many : 6 < length boots = boots_are_some in
    let at : IsBootPool (slice_index_or boots 6 no_boot_class) (slice_index_or h.built_in 6 no_constants) = boot_pool_at boots h.built_in h.are_spelled 6 many in
    let here : slice_index_or pools 6 no_constants ≡ slice_index_or h.built_in 6 no_constants =
    ap (λ (ps : List Constants). slice_index_or ps 6 no_constants) h.are ∙ in_front h.built_in (map file_pool files) 6 no_constants (omega arith) in
    ap (λ (c : Constants). c.slots) here
    ∙ one_pool (pool_bytes thread_pool) (slice_index_or h.built_in 6 no_constants).slots (slots_of thread_pool) at.after (0 + length (pool_bytes thread_pool))
    (subst (λ (bytes : List ℕ). IsPool bytes 0 (slice_index_or h.built_in 6 no_constants).slots at.after) thread_at at.spelled)
    (spelled_pool (pool_bytes thread_pool) 0 (slots_of thread_pool) (0 + length (pool_bytes thread_pool)) spelled)
