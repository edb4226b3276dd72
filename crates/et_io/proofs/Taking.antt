-- What a sink took in several puts.
use Rattle.std.proofs.Common.{◌≡◌, ℕ, zero, suc, ◌-◌, ◌<◌, inl, inr, List, [], ◌∷◌, ◌++◌, length, take, drop, map, refl, sym, ap, ◌∙◌, append_assoc, length-append, arith}
use Rattle.std.specs.Prelude.{Some, None, option_map}
use Rattle.std.proofs.lemmas.Grind.{flat_map-append}
use Rattle.std.proofs.lemmas.List.{append-nil, take-append-drop, length-drop, map-append}
use Rattle.std.proofs.Math.Seq.{take-length}
use Rattle.et_io.specs.Sink.{Mark, Taken, Untaken, Log, byte_of, taken_bytes, with_marks, with_more, took_marks, after_put, Stops, TakesUpTo, TakesPrefix}
use Rattle.et_io.specs.declared.sink.Put.TheVariants as put

-- nothing more
pub with_marks-nil : (log : Log) → with_marks log [] ≡ log
with_marks-nil None = refl
with_marks-nil (Some marks) = ap Some (append-nil marks)

pub with_more-nil : (log : Log) → with_more log [] ≡ log
with_more-nil log = with_marks-nil log

-- twice more
pub with_marks-with_marks : (log : Log) (a b : List Mark) → with_marks (with_marks log a) b ≡ with_marks log (a ++ b)
with_marks-with_marks None a b = refl
with_marks-with_marks (Some marks) a b = ap Some (append_assoc marks a b)

pub with_more-with_more : (log : Log) (a b : List ℕ) → with_more (with_more log a) b ≡ with_more log (a ++ b)
with_more-with_more log a b = with_marks-with_marks log (map Taken a) (map Taken b) ∙ ap (with_marks log) (sym (map-append Taken a b))

-- THE BYTES OF A LOG

-- those of bytes that were taken are these
pub bytes_of_taken : (bytes : List ℕ) → taken_bytes (map Taken bytes) ≡ bytes
bytes_of_taken [] = refl
bytes_of_taken (b ∷ bytes) = ap (λ (t : List ℕ). b ∷ t) (bytes_of_taken bytes)

pub bytes_of_both : (a b : List Mark) → taken_bytes (a ++ b) ≡ taken_bytes a ++ taken_bytes b
bytes_of_both a b = flat_map-append byte_of a b

-- those behind a put
bytes_of_count : (n : ℕ) (piece : List ℕ) → taken_bytes (took_marks n piece) ≡ take n piece
bytes_of_count zero piece = refl
bytes_of_count (suc n) piece = bytes_of_taken (take (suc n) piece)

pub bytes_after_took : (n : ℕ) (piece : List ℕ) (marks : List Mark) → taken_bytes (after_put (put.Took n) piece marks) ≡ taken_bytes marks ++ take n piece
bytes_after_took n piece marks = bytes_of_both marks (took_marks n piece) ∙ ap (λ (t : List ℕ). taken_bytes marks ++ t) (bytes_of_count n piece)

pub bytes_after_failed : (piece : List ℕ) (marks : List Mark) → taken_bytes (after_put put.Failed piece marks) ≡ taken_bytes marks
bytes_after_failed piece marks = bytes_of_both marks (Untaken piece ∷ []) ∙ append-nil (taken_bytes marks)

-- THE LOG OF SEVERAL PUTS

-- a put that took something
marks_of_some : (n : ℕ) (piece : List ℕ) → 0 < n → took_marks n piece ≡ map Taken (take n piece)
marks_of_some zero piece lt = absurd (omega (arith, lt))
marks_of_some (suc n) piece lt = refl

after_some : (log : Log) (n : ℕ) (piece : List ℕ) → 0 < n → option_map (after_put (put.Took n) piece) log ≡ with_more log (take n piece)
after_some None n piece lt = refl
after_some (Some marks) n piece lt = ap (λ (t : List Mark). Some (marks ++ t)) (marks_of_some n piece lt)

-- at the start the whole piece is the rest
pub takes_nothing : (old : Log) (piece : List ℕ) → TakesUpTo old old piece piece
takes_nothing old piece = record { prefix = []; parts = refl; taken = sym (with_more-nil old) }

-- a put of the rest takes more of it
pub takes_on : (old mid new : Log) (piece rest : List ℕ) (n : ℕ) → TakesUpTo old mid piece rest → new ≡ with_more mid (take n rest) → TakesUpTo old new piece (drop n rest)
takes_on old mid new piece rest n h e = record {
  prefix = h.prefix ++ take n rest;
  parts = h.parts ∙ (ap (λ t. h.prefix ++ t) (sym (take-append-drop n rest)) ∙ sym (append_assoc h.prefix (take n rest) (drop n rest)));
  taken = e ∙ (ap (λ t. with_more t (take n rest)) h.taken ∙ with_more-with_more old h.prefix (take n rest));
}

-- the same with the rest as a slice of what was left
pub takes_on_slice : (old mid new : Log) (piece rest : List ℕ) (n : ℕ) → TakesUpTo old mid piece rest → 0 < n → new ≡ option_map (after_put (put.Took n) rest) mid → TakesUpTo old new piece (take (length rest - n) (drop n rest))
takes_on_slice old mid new piece rest n h lt e =
    let all : take (length rest - n) (drop n rest) ≡ drop n rest = ap (λ k. take k (drop n rest)) (sym (length-drop n rest)) ∙ take-length (drop n rest) in
    rw all (takes_on old mid new piece rest n h (e ∙ after_some mid n rest lt))

-- .. or fails
pub takes_and_fails : (old mid new : Log) (piece rest : List ℕ) → TakesUpTo old mid piece rest → 0 < length rest → new ≡ option_map (after_put put.Failed rest) mid → TakesPrefix old new piece
takes_and_fails old mid new piece rest h some e = record { rest = rest; mid = mid; takes = h; stops = inr (record { piece = rest; some = some; behind = []; parts = sym (append-nil rest); failed = e }) }

-- no put more
pub takes_no_more : (old new : Log) (piece rest : List ℕ) → TakesUpTo old new piece rest → TakesPrefix old new piece
takes_no_more old new piece rest h = record { rest = rest; mid = new; takes = h; stops = inl refl }

-- nothing was taken
pub none_put : (old : Log) (whole : List ℕ) → TakesPrefix old old whole
none_put old whole = takes_no_more old old whole whole (takes_nothing old whole)

-- all was taken
pub whole_prefix : (old new : Log) (whole : List ℕ) → new ≡ with_more old whole → TakesPrefix old new whole
whole_prefix old new whole is = takes_no_more old new whole [] (record { prefix = whole; parts = sym (append-nil whole); taken = is })

-- where something is left, the piece isn't empty
pub rest_of_nothing : (old new : Log) (piece rest : List ℕ) → TakesUpTo old new piece rest → piece ≡ [] → length rest ≡ 0
rest_of_nothing old new piece rest h e =
    let none : length (h.prefix ++ rest) ≡ 0 = ap length (sym h.parts ∙ e) in
    omega (arith, none, length-append h.prefix rest)

-- nothing is left of the piece: it was taken whole
pub takes_whole : (old new : Log) (piece : List ℕ) → TakesUpTo old new piece [] → new ≡ with_more old piece
takes_whole old new piece h = h.taken ∙ ap (λ t. with_more old t) (sym (h.parts ∙ append-nil h.prefix))

-- IN SEVERAL CALLS

-- a part of what was left goes on
pub goes_on : (old mid new : Log) (whole rest left : List ℕ) → TakesUpTo old mid whole rest → TakesUpTo mid new rest left → TakesUpTo old new whole left
goes_on old mid new whole rest left a b = record {
  prefix = a.prefix ++ b.prefix;
  parts = a.parts ∙ (ap (λ (t : List ℕ). a.prefix ++ t) b.parts ∙ sym (append_assoc a.prefix b.prefix left));
  taken = b.taken ∙ (ap (λ (t : Log). with_more t b.prefix) a.taken ∙ with_more-with_more old a.prefix b.prefix);
}

-- .. or stops
pub part_put : (old mid new : Log) (whole rest : List ℕ) → TakesUpTo old mid whole rest → TakesPrefix mid new rest → TakesPrefix old new whole
part_put old mid new whole rest a b = record { rest = b.rest; mid = b.mid; takes = goes_on old mid b.mid whole rest b.rest a b.takes; stops = b.stops }

-- all of it was put
pub all_put : (old mid new : Log) (whole rest : List ℕ) → TakesUpTo old mid whole rest → new ≡ with_more mid rest → new ≡ with_more old whole
all_put old mid new whole rest a is =
    is ∙ (ap (λ (t : Log). with_more t rest) a.taken ∙ (with_more-with_more old a.prefix rest ∙ ap (λ (t : List ℕ). with_more old t) (sym a.parts)))

-- one text more is gathered
pub gathers : (old mid : Log) (whole rest more : List ℕ) → TakesUpTo old mid whole rest → TakesUpTo old mid (whole ++ more) (rest ++ more)
gathers old mid whole rest more a = record { prefix = a.prefix; parts = ap (λ (t : List ℕ). t ++ more) a.parts ∙ append_assoc a.prefix rest more; taken = a.taken }

pub stops_longer : (old new : Log) (rest behind : List ℕ) → Stops old new rest → Stops old new (rest ++ behind)
stops_longer old new rest behind (inl none) = inl none
stops_longer old new rest behind (inr f) = inr (record { piece = f.piece; some = f.some; behind = f.behind ++ behind; parts = ap (λ (t : List ℕ). t ++ behind) f.parts ∙ append_assoc f.piece f.behind behind; failed = f.failed })

-- of no bytes none is taken, and no put of them fails
empty_front : (xs ys : List ℕ) → [] ≡ xs ++ ys → (xs ≡ []) × (ys ≡ [])
empty_front [] ys is = (refl, sym is)
empty_front (x ∷ xs) ys is = cc

stops_at_nothing : (old new : Log) (rest : List ℕ) → rest ≡ [] → Stops old new rest → new ≡ old
stops_at_nothing old new rest none (inl same) = same
stops_at_nothing old new rest none (inr f) =
    let empty = ap length (empty_front f.piece f.behind (sym none ∙ f.parts)).0 in
    absurd (omega (arith, empty, f.some))

pub nothing_taken : (old new : Log) → TakesPrefix old new [] → new ≡ old
nothing_taken old new a =
    let (none, rest) = empty_front a.takes.prefix a.rest a.takes.parts in
    stops_at_nothing a.mid new a.rest rest a.stops ∙ (a.takes.taken ∙ (ap (λ (p : List ℕ). with_more old p) none ∙ with_more-nil old))

-- a prefix of the front is one of all
pub longer : (old new : Log) (front behind : List ℕ) → TakesPrefix old new front → TakesPrefix old new (front ++ behind)
longer old new front behind a = record { rest = a.rest ++ behind; mid = a.mid; takes = gathers old a.mid front a.rest behind a.takes; stops = stops_longer a.mid new a.rest behind a.stops }
