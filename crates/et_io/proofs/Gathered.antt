-- What a sink took of texts that were gathered one after the other, and put in pieces.
use Rattle.std.proofs.Common.{◌≡◌, ℕ, ◌+◌, ◌<◌, ◌≤◌, List, [], ◌∷◌, ◌++◌, length, take, drop, get_or, sym, ap, ◌∙◌}
use Rattle.std.specs.Prelude.{OnOk, OnErr, Result}
use Rattle.std.specs.List.{flat_map}
use Rattle.std.proofs.lemmas.Grind.{flat_map-append}
use Rattle.std.proofs.lemmas.List.{append-nil, take_all, take_more, take-append-drop}
use Rattle.std.proofs.lemmas.Result.{on_ok_weaker, on_err_weaker}
use Rattle.et_io.specs.Sink.{Log, with_more, TakesUpTo, TakesPrefix}
use Rattle.et_io.proofs.Taking.{all_put, gathers, goes_on, longer, part_put, takes_no_more}

more_texts : {A : Type 0} (text : A → List ℕ) (xs : List A) (n : ℕ) (d : A) → n < length xs → flat_map text (take (n + 1) xs) ≡ flat_map text (take n xs) ++ text (get_or xs n d)
more_texts text xs n d lt =
    ap (λ t. flat_map text t) (take_more xs n d lt)
    ∙ (flat_map-append text (take n xs) (get_or xs n d ∷ []) ∙ ap (λ (t : List ℕ). flat_map text (take n xs) ++ t) (append-nil (text (get_or xs n d))))

all_texts : {A : Type 0} (text : A → List ℕ) (xs : List A) (n : ℕ) → flat_map text xs ≡ flat_map text (take n xs) ++ flat_map text (drop n xs)
all_texts text xs n = ap (λ t. flat_map text t) (sym (take-append-drop n xs)) ∙ flat_map-append text (take n xs) (drop n xs)

-- the next text is gathered, and a piece may be put
pub piece_put : {A : Type 0} (text : A → List ℕ) (xs : List A) (n : ℕ) (d : A) (old mid new : Log) (gathered more left : List ℕ) → n < length xs → TakesUpTo old mid (flat_map text (take n xs)) gathered → more ≡ gathered ++ text (get_or xs n d)
    → TakesUpTo mid new more left → TakesUpTo old new (flat_map text (take (n + 1) xs)) left
piece_put text xs n d old mid new gathered more left lt a e b =
    let all = gathers old mid (flat_map text (take n xs)) gathered (text (get_or xs n d)) a in
    rw (more_texts text xs n d lt) (goes_on old mid new (flat_map text (take n xs) ++ text (get_or xs n d)) (gathered ++ text (get_or xs n d)) left all (rw e at b))

-- a prefix of the texts so far is one of all
of_all : {A : Type 0} (text : A → List ℕ) (xs : List A) (n : ℕ) (old new : Log) → TakesPrefix old new (flat_map text (take n xs)) → TakesPrefix old new (flat_map text xs)
of_all text xs n old new a = rw (all_texts text xs n) (longer old new (flat_map text (take n xs)) (flat_map text (drop n xs)) a)

-- .. or fails to be
pub piece_fails : {A : Type 0} (text : A → List ℕ) (xs : List A) (n : ℕ) (d : A) (old mid new : Log) (gathered more : List ℕ) → n < length xs → TakesUpTo old mid (flat_map text (take n xs)) gathered → more ≡ gathered ++ text (get_or xs n d)
    → TakesPrefix mid new more → TakesPrefix old new (flat_map text xs)
piece_fails text xs n d old mid new gathered more lt a e b =
    let all = gathers old mid (flat_map text (take n xs)) gathered (text (get_or xs n d)) a in
    of_all text xs (n + 1) old new
    (rw (more_texts text xs n d lt) (part_put old mid new (flat_map text (take n xs) ++ text (get_or xs n d)) (gathered ++ text (get_or xs n d)) all (rw e at b)))

-- nothing more is put
pub stops_early : {A : Type 0} (text : A → List ℕ) (xs : List A) (n : ℕ) (old mid : Log) (gathered : List ℕ) → TakesUpTo old mid (flat_map text (take n xs)) gathered → TakesPrefix old mid (flat_map text xs)
stops_early text xs n old mid gathered a = of_all text xs n old mid (takes_no_more old mid (flat_map text (take n xs)) gathered a)

whole_texts : {A : Type 0} (text : A → List ℕ) (xs : List A) (n : ℕ) (old mid : Log) (gathered : List ℕ) → length xs ≤ n → TakesUpTo old mid (flat_map text (take n xs)) gathered → TakesUpTo old mid (flat_map text xs) gathered
whole_texts text xs n old mid gathered le a = rw (take_all n xs le) at a

-- the last piece is put
pub last_put : {A : Type 0} {T E : Type 0} (text : A → List ℕ) (xs : List A) (n : ℕ) (old mid new : Log) (gathered : List ℕ) (r : Result T E) → length xs ≤ n → TakesUpTo old mid (flat_map text (take n xs)) gathered
    → OnOk r (new ≡ with_more mid gathered) → OnOk r (new ≡ with_more old (flat_map text xs))
last_put text xs n old mid new gathered r le a ok =
    on_ok_weaker r (λ (taken : new ≡ with_more mid gathered). all_put old mid new (flat_map text xs) gathered (whole_texts text xs n old mid gathered le a) taken) ok

-- .. or fails to be
pub last_fails : {A : Type 0} {T E : Type 0} (text : A → List ℕ) (xs : List A) (n : ℕ) (old mid new : Log) (gathered : List ℕ) (r : Result T E) → length xs ≤ n → TakesUpTo old mid (flat_map text (take n xs)) gathered
    → OnErr r (TakesPrefix mid new gathered) → OnErr r (TakesPrefix old new (flat_map text xs))
last_fails text xs n old mid new gathered r le a err =
    on_err_weaker r (λ (b : TakesPrefix mid new gathered). part_put old mid new (flat_map text xs) gathered (whole_texts text xs n old mid gathered le a) b) err
