-- THE TEXTS that strings and builders were given, in units of UTF-16, in the order of the objects. Most objects have none.
use Rattle.std.specs.Prelude.{ℕ, ◌==◌, not, List, [], Bool, length, unwrap_or, filter}
use Rattle.std.specs.List.{sum_by}
use Rattle.std.specs.Map.{lookup, values_of}
use Rattle.std.specs.BTreeMap.{insert_entry, is_at}
use Rattle.std.specs.Ordering.{nat_cmp}

abbrev pub Texts : Type 0
Texts = List (ℕ × List ℕ)

abbrev pub no_texts : Texts
no_texts = []

-- the text that an object was given; it is empty where it was given none
abbrev pub given_text : Texts → ℕ → List ℕ
given_text texts o = unwrap_or (lookup (is_at (nat_cmp o)) texts) []

-- an object is given a text, in the place of the one that it had
abbrev pub with_text : ℕ → List ℕ → Texts → Texts
with_text o units texts = insert_entry nat_cmp texts o units

-- the texts of those objects alone at which the test gives true
abbrev pub texts_left : (ℕ → Bool) → Texts → Texts
texts_left here texts = filter (λ (e : ℕ × List ℕ). here e.0) texts

abbrev pub without_text : ℕ → Texts → Texts
without_text o texts = texts_left (λ k. not (o == k)) texts

-- how many units the texts have together
abbrev pub text_units : Texts → ℕ
text_units texts = sum_by length (values_of texts)

-- a text has at most so many units, and all together at most so many
abbrev pub longest_text : ℕ
longest_text = 65535

abbrev pub most_units : ℕ
most_units = 67108864
