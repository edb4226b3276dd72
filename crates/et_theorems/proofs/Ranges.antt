-- The options of a command `trace` are in range.
use Rattle.std.proofs.Common.{◌≡◌, ℕ, ◌-◌, ◌<◌, ◌≤◌, ◌^◌, Bool, true, false, List, [], ◌∷◌, length, map, Option, Some, None, option_map, IfSome, refl, ap, subst, suc, arith}
use Rattle.std.specs.Prelude.{◌==◌, ◌&&◌, nat_le, if◌then◌else◌, option_and_then, All, codes}
use Rattle.std.specs.List.{slice_split}
use Rattle.std.proofs.lemmas.Bool.Decides.{nat_tests}
use Rattle.std.proofs.lemmas.List.Elements.{All-nil, All-cons}
use Rattle.std.proofs.lemmas.List.Splits.{length-slice_split}
use Rattle.et_state.specs.declared.options.Options.{Options}
use Rattle.et_state.specs.declared.options.Schedule.TheVariants.{Quantum, Words}
use Rattle.et_state.specs.Options.{AreOptions, IsSchedule}
use Rattle.et_command.specs.declared.command.Models.{Models}
use Rattle.et_command.specs.Words.{Given, Split, split}
use Rattle.et_command.specs.Numbers.{is_number, spelled_number, number_within, each, numbers}
use Rattle.et_command.specs.Command.{Asked, Trace, Run, Assemble, Verify, Replay, Convert, Curve, Snapshot, Bench, command, asked, option_value, number_or, schedule_of, trace_options, run_options, replay_options, some_paths, plain_path, plain_paths, only_path, path_and_event}

-- WHAT IS THERE

and_then_if : {A B : Type 0} (P : B → Type 0) (f : A → Option B) (o : Option A) → ((a : A) → o ≡ Some a → IfSome (f a) P) → IfSome (option_and_then f o) P
and_then_if P f None h = tt
and_then_if P f (Some a) h = h a refl

map_if : {A B : Type 0} (P : B → Type 0) (f : A → B) (o : Option A) → ((a : A) → o ≡ Some a → P (f a)) → IfSome (option_map f o) P
map_if P f None h = tt
map_if P f (Some a) h = h a refl

if_there : {A : Type 0} (P : A → Type 0) (o : Option A) (a : A) → IfSome o P → o ≡ Some a → P a
if_there P o a h e = subst (λ o. IfSome o P) e h

-- NUMBERS

abbrev IsWithin : ℕ → ℕ → ℕ → Type 0
IsWithin low high n = (low ≤ n) × (n ≤ high)

within_by : (a b c : Bool) (low high n : ℕ) → nat_le low n ≡ b → nat_le n high ≡ c → IfSome (if a && b && c then Some n else None) (IsWithin low high)
within_by true true true low high n e f = (grind (arith, nat_tests), grind (arith, nat_tests))
within_by true true false low high n e f = tt
within_by true false c low high n e f = tt
within_by false b c low high n e f = tt

within : (low high : ℕ) (text : List ℕ) → IfSome (number_within low high text) (IsWithin low high)
within low high text = within_by (is_number text) (nat_le low (spelled_number text)) (nat_le (spelled_number text) high) low high (spelled_number text) refl refl

or_within : (default low high : ℕ) (o : Option (List ℕ)) → IsWithin low high default → IfSome (number_or default low high o) (IsWithin low high)
or_within default low high None h = h
or_within default low high (Some text) h = within low high text

-- NUMBERS ONE AFTER ANOTHER

record AreSmall (count : ℕ) (ns : List ℕ) : Type 0 where
  long : length ns ≡ count
  small : All (λ w. w < 64) ns

each_by : (texts : List (List ℕ)) (o : Option ℕ) → IfSome o (IsWithin 0 63) → IfSome (each (map (number_within 0 63) texts)) (AreSmall (length texts)) → IfSome (each (o ∷ map (number_within 0 63) texts)) (AreSmall (suc (length texts)))
each_by texts None h more = tt
each_by texts (Some n) h more =
    map_if (AreSmall (suc (length texts))) (λ ns. n ∷ ns) (each (map (number_within 0 63) texts))
    (λ ns e. let rest = if_there (AreSmall (length texts)) _ ns more e in
    record { long = ap suc rest.long; small = All-cons (λ w. w < 64) n ns (let le = h.1 in omega (arith, le)) rest.small })

each_small : (texts : List (List ℕ)) → IfSome (each (map (number_within 0 63) texts)) (AreSmall (length texts))
each_small [] = record { long = refl; small = All-nil (λ w. w < 64) }
each_small (text ∷ texts) = each_by texts (number_within 0 63 text) (within 0 63 text) (each_small texts)

AreWords : List ℕ → Type 0
AreWords words = IsSchedule (Words words)

words_by : (b : Bool) (texts : List (List ℕ)) → nat_le (length texts) 1024 ≡ b → 1 ≤ length texts → IfSome (if b then each (map (number_within 0 63) texts) else None) AreWords
unfolding AreWords
words_by false texts e some = tt
words_by true texts e some = by (each (map (number_within 0 63) texts)) (each_small texts)
  where
    few : length texts ≤ 1024
    few = grind (arith, nat_tests)

    by : (o : Option (List ℕ)) → IfSome o (AreSmall (length texts)) → IfSome o AreWords
    by None h = tt
    by (Some ns) h = let long = h.long in (omega (arith, long, some), omega (arith, long, few), h.small)

words_within : (text : List ℕ) → IfSome (numbers text) AreWords
words_within text =
    words_by (nat_le (length (slice_split (λ byte. byte == 44) text)) 1024) (slice_split (λ byte. byte == 44) text) refl (omega (arith, length-slice_split (λ byte. byte == 44) text))

-- OPTIONS

schedule_within : (quantum words : Option (List ℕ)) → IfSome (schedule_of quantum words) IsSchedule
unfolding AreWords
schedule_within quantum None =
    map_if IsSchedule Quantum (number_or 100 1 (2 ^ 40) quantum)
    (λ n e. let h = if_there (IsWithin 1 (2 ^ 40)) _ n (or_within 100 1 (2 ^ 40) quantum (omega arith, omega arith)) e in (h.0, h.1))
schedule_within None (Some text) = map_if IsSchedule Words (numbers text) (λ ns e. if_there AreWords _ ns (words_within text) e)
schedule_within (Some quantum) (Some text) = tt

options_by : (b : Bool) (o : Option Options) → IfSome o AreOptions → IfSome (if b then o else None) AreOptions
options_by true o h = h
options_by false o h = tt

options_within : (given : List Given) → IfSome (trace_options given) AreOptions
options_within given =
    options_by _ _
    (and_then_if AreOptions _ (number_or 0 0 (2 ^ 40) (option_value (codes "flush") given))
    (λ interval i. and_then_if AreOptions _ (number_or 1000000000 0 (2 ^ 40) (option_value (codes "limit") given))
    (λ limit l. and_then_if AreOptions _ (number_or 1 1 2 (option_value (codes "format") given))
    (λ version v. map_if AreOptions _ (schedule_of (option_value (codes "quantum") given) (option_value (codes "words") given))
    (λ schedule s. record {
      interval = (if_there (IsWithin 0 (2 ^ 40)) _ interval (or_within 0 0 (2 ^ 40) (option_value (codes "flush") given) (omega arith, omega arith)) i).1;
      limit = (if_there (IsWithin 0 (2 ^ 40)) _ limit (or_within 1000000000 0 (2 ^ 40) (option_value (codes "limit") given) (omega arith, omega arith)) l).1;
      schedule = if_there IsSchedule _ schedule (schedule_within (option_value (codes "quantum") given) (option_value (codes "words") given)) s;
    })))))

-- THE COMMAND

-- where it is `trace`, its options are in range and it has a path
pub HasRanges : Option Asked → Type 0
HasRanges (Some (Trace options paths)) = AreOptions options × (0 < length paths)
HasRanges _ = Unit {0}

pub ranges_of_trace : (options : Options) (paths : List (List ℕ)) → HasRanges (Some (Trace options paths)) → AreOptions options × (0 < length paths)
unfolding HasRanges
ranges_of_trace options paths has = has

nothing_has : HasRanges None
unfolding HasRanges
nothing_has = tt

either_has : (b : Bool) (x y : Option Asked) → HasRanges x → HasRanges y → HasRanges (if b then x else y)
either_has true x y h i = h
either_has false x y h i = i

mapped_has : {A : Type 0} (f : A → Asked) (o : Option A) → ((a : A) → HasRanges (Some (f a))) → HasRanges (option_map f o)
mapped_has f None h = nothing_has
mapped_has f (Some a) h = h a

then_has : {A : Type 0} (f : A → Option Asked) (o : Option A) → ((a : A) → HasRanges (f a)) → HasRanges (option_and_then f o)
then_has f None h = nothing_has
then_has f (Some a) h = h a

options_have : (paths : List (List ℕ)) (o : Option Options) → 0 < length paths → IfSome o AreOptions → HasRanges (option_map (λ options. Trace options paths) o)
unfolding HasRanges
options_have paths None some h = tt
options_have paths (Some options) some h = (h, some)

some_or_none : (b : Bool) (paths : List (List ℕ)) (o : Option Options) → 0 < length paths → IfSome o AreOptions → HasRanges (option_and_then (λ paths. option_map (λ options. Trace options paths) o) (if b then None else Some paths))
some_or_none true paths o some h = nothing_has
some_or_none false paths o some h = options_have paths o some h

trace_has : (paths : List (List ℕ)) (o : Option Options) → IfSome o AreOptions → HasRanges (option_and_then (λ paths. option_map (λ options. Trace options paths) o) (some_paths paths))
trace_has [] o h = nothing_has
trace_has (path ∷ paths) o h = some_or_none (length (path ∷ paths) == 0) (path ∷ paths) o (let some : 0 < length (path ∷ paths) = omega arith in some) h

run_has : (paths : List (List ℕ)) (o : Option Options) → HasRanges (option_and_then (λ paths. option_map (λ options. Run options paths) o) (some_paths paths))
unfolding HasRanges
run_has paths o = then_has (λ paths. option_map (λ options. Run options paths) o) (some_paths paths) (λ paths. mapped_has (λ options. Run options paths) o (λ options. tt))

snapshot_has : (operands : List (List ℕ)) → HasRanges (path_and_event operands)
unfolding HasRanges
snapshot_has [] = tt
snapshot_has (path ∷ []) = tt
snapshot_has (path ∷ event ∷ []) = mapped_has (Snapshot path) (number_within 0 (2 ^ 40) event) (λ event. tt)
snapshot_has (path ∷ event ∷ more ∷ rest) = tt

assemble_has : (o : Option (List ℕ)) → HasRanges (option_map Assemble o)
unfolding HasRanges
assemble_has o = mapped_has Assemble o (λ path. tt)

verify_has : (o : Option (List (List ℕ))) → HasRanges (option_map Verify o)
unfolding HasRanges
verify_has o = mapped_has Verify o (λ paths. tt)

replay_has : (r : Option Models) (o : Option (List ℕ)) → HasRanges (option_and_then (λ path. option_map (λ models. Replay models path) r) o)
unfolding HasRanges
replay_has r o = then_has (λ path. option_map (λ models. Replay models path) r) o (λ path. mapped_has (λ models. Replay models path) r (λ models. tt))

convert_has : (o : Option (List ℕ)) → HasRanges (option_map Convert o)
unfolding HasRanges
convert_has o = mapped_has Convert o (λ path. tt)

curve_has : (o : Option (List ℕ)) → HasRanges (option_map Curve o)
unfolding HasRanges
curve_has o = mapped_has Curve o (λ path. tt)

bench_has : (o : Option ℕ) → HasRanges (option_map Bench o)
unfolding HasRanges
bench_has o = mapped_has Bench o (λ number. tt)

asked_has : (name : List ℕ) (s : Split) → HasRanges (asked name s)
asked_has name s =
    either_has _ _ _ (trace_has s.operands (trace_options s.options) (options_within s.options))
    (either_has _ _ _ (run_has s.operands (run_options s.options))
    (either_has _ _ _ (assemble_has (plain_path s))
    (either_has _ _ _ (verify_has (plain_paths s))
    (either_has _ _ _ (replay_has (replay_options s.options) (only_path s.operands))
    (either_has _ _ _ (convert_has (plain_path s))
    (either_has _ _ _ (curve_has (plain_path s))
    (either_has _ _ _ (either_has (length s.options == 0) _ _ (snapshot_has s.operands) nothing_has)
    (either_has _ _ _ (bench_has (option_and_then (number_within 0 (2 ^ 63 - 1)) (plain_path s))) nothing_has))))))))

split_has : (name : List ℕ) (o : Option Split) → HasRanges (option_and_then (asked name) o)
split_has name None = nothing_has
split_has name (Some s) = asked_has name s

pub command_has : (words : List (List ℕ)) → HasRanges (command words)
command_has [] = nothing_has
command_has (name ∷ words) = split_has name (split words)
