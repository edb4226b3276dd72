-- The texts that are kept, entry by entry.
use Rattle.std.proofs.Common.{◌≡◌, ℕ, ◌+◌, ◌≤◌, Bool, true, false, cond, List, [], ◌∷◌, length, Option, None, Some, map, Ordering, Less, Equal, Greater, nat_cmp, refl, sym, ap, ◌∙◌, arith, subst, ◌==◌, ◌<◌}
use Rattle.std.proofs.lemmas.Cmp.{nat_cmp_total}
use Rattle.std.proofs.lemmas.Bool.{eqb-true, ne_eqb}
use Rattle.std.proofs.lemmas.List.Elements.{All-head, All-tail}
use Rattle.std.proofs.lemmas.Map.Keys.{sorted_head, sorted_tail}
use Rattle.std.proofs.lemmas.Map.Entries.{sum_by-insert_entry, sum_by-remove_entry}
use Rattle.std.proofs.lemmas.Map.Views.{IfSome-lookup_from_All}
use Rattle.std.specs.BTreeMap.{insert_entry, is_at}
use Rattle.std.specs.Cmp.{unsigned_ties}
use Rattle.std.specs.List.Sorted.{IsStrictlySortedBy}
use Rattle.std.specs.Map.{keys_of, lookup, remove_entry, values_of}
use Rattle.std.specs.Option.{option_map, unwrap_or}
use Rattle.std.specs.Ordering.{match_ordering}
use Rattle.std.specs.declared.alloc.Global.{Global}
use Rattle.std.specs.declared.vec.Vec.{Vec}
use Rattle.std.specs.Prelude.{All, IfSome, not}
use Rattle.std.specs.List.{AllByRecursion}
use Rattle.std.specs.Ordering.{is_eq}
use Rattle.et_state.specs.Texts.{Texts, given_text, longest_text, text_units, with_text, without_text}

abbrev pub Entry : Type 0
Entry = ℕ × Vec ℕ Global

abbrev pub spelled : List Entry → List (ℕ × List ℕ)
spelled es = map (λ (e : Entry). (e.0, e.1.items)) es

keys-spelled : (es : List Entry) → keys_of (spelled es) ≡ keys_of es
keys-spelled [] = refl
keys-spelled (e ∷ es) = ap (λ ks. e.0 ∷ ks) (keys-spelled es)

spelled-order : (o : Ordering) (a b c : List Entry) → spelled (match_ordering o a b c) ≡ match_ordering o (spelled a) (spelled b) (spelled c)
spelled-order Less a b c = refl
spelled-order Equal a b c = refl
spelled-order Greater a b c = refl

pub spelled-insert : (es : List Entry) (k : ℕ) (v : Vec ℕ Global) → spelled (insert_entry nat_cmp es k v) ≡ insert_entry nat_cmp (spelled es) k v.items
spelled-insert [] k v = refl
spelled-insert (e ∷ es) k v = spelled-order (nat_cmp k e.0) _ _ _ ∙ rw (spelled-insert es k v)

spelled-cond : (b : Bool) (a c : List Entry) → spelled (cond b a c) ≡ cond b (spelled a) (spelled c)
spelled-cond true a c = refl
spelled-cond false a c = refl

pub spelled-remove : (test : ℕ → Bool) (es : List Entry) → spelled (remove_entry test es) ≡ remove_entry test (spelled es)
spelled-remove test [] = refl
spelled-remove test (e ∷ es) = spelled-cond (test e.0) _ _ ∙ rw (spelled-remove test es)

abbrev items_of : Option (Vec ℕ Global) → Option (List ℕ)
items_of found = option_map (λ (v : Vec ℕ Global). v.items) found

items-cond : (b : Bool) (v : Vec ℕ Global) (rest : Option (Vec ℕ Global)) → items_of (cond b (Some v) rest) ≡ cond b (Some v.items) (items_of rest)
items-cond true v rest = refl
items-cond false v rest = refl

pub spelled-lookup : (test : ℕ → Bool) (es : List Entry) → lookup test (spelled es) ≡ items_of (lookup test es)
spelled-lookup test [] = refl
spelled-lookup test (e ∷ es) = ap (λ r. cond (test e.0) (Some e.1.items) r) (spelled-lookup test es) ∙ sym (items-cond (test e.0) e.1 (lookup test es))

-- the text of an object
pub found : (es : List Entry) (texts : List (ℕ × List ℕ)) (o : ℕ) (v : Option (Vec ℕ Global)) → spelled es ≡ texts → v ≡ lookup (is_at (nat_cmp o)) es
    → unwrap_or (option_map (λ (x : Vec ℕ Global). x.items) v) [] ≡ given_text texts o
found es texts o v whole is =
    ap (λ x. unwrap_or (option_map (λ (y : Vec ℕ Global). y.items) x) []) is
    ∙ (ap (λ x. unwrap_or x []) (sym (spelled-lookup (is_at (nat_cmp o)) es))
    ∙ ap (λ x. given_text x o) whole)

-- how many units an entry that may be there has
abbrev pub size : Option (Vec ℕ Global) → ℕ
size found = unwrap_or (option_map length (items_of found)) 0

abbrev size_of : Option (List ℕ) → ℕ
size_of found = unwrap_or (option_map length found) 0

pub units-remove : (es : List Entry) (o : ℕ) → text_units (spelled (remove_entry (is_at (nat_cmp o)) es)) + size (lookup (is_at (nat_cmp o)) es) ≡ text_units (spelled es)
units-remove es o =
    ap (λ x. text_units x + size (lookup (is_at (nat_cmp o)) es)) (spelled-remove (is_at (nat_cmp o)) es)
    ∙ (ap (λ x. text_units (remove_entry (is_at (nat_cmp o)) (spelled es)) + size_of x) (sym (spelled-lookup (is_at (nat_cmp o)) es))
    ∙ sum_by-remove_entry length (is_at (nat_cmp o)) (spelled es))

pub units-insert : (es : List Entry) (o : ℕ) (v : Vec ℕ Global) → IsStrictlySortedBy nat_cmp (keys_of es)
    → text_units (spelled (insert_entry nat_cmp es o v)) + size (lookup (is_at (nat_cmp o)) es) ≡ text_units (spelled es) + length v.items
units-insert es o v ordered =
    ap (λ x. text_units x + size (lookup (is_at (nat_cmp o)) es)) (spelled-insert es o v)
    ∙ (ap (λ x. text_units (insert_entry nat_cmp (spelled es) o v.items) + size_of x) (sym (spelled-lookup (is_at (nat_cmp o)) es))
    ∙ sum_by-insert_entry length nat_cmp_total (spelled es) o v.items (subst (λ ks. IsStrictlySortedBy nat_cmp ks) (sym (keys-spelled es)) ordered))

-- THE TEXTS OF THE OBJECTS BEHIND ONE, where the keys ascend

abbrev AreBehind : ℕ → Texts → Type 0
AreBehind o es = AllByRecursion (λ y. nat_cmp o y ≡ Less) (keys_of es)

behind_less : (o k : ℕ) (es : Texts) → nat_cmp o k ≡ Less → AreBehind k es → AreBehind o es
behind_less o k [] less all = all
behind_less o k (e ∷ es) less all = (nat_cmp_total.trans o k e.0 less all.0, behind_less o k es less all.1)

behind_same : (o k : ℕ) (es : Texts) → nat_cmp o k ≡ Equal → AreBehind k es → AreBehind o es
behind_same o k [] same all = all
behind_same o k (e ∷ es) same all = (nat_cmp_total.congr o k e.0 same ∙ all.0, behind_same o k es same all.1)

-- none of them is taken out, and one that is put in stands first
none_taken : (o : ℕ) (es : Texts) → AreBehind o es → without_text o es ≡ es
none_taken o [] all = refl
none_taken o (e ∷ es) all =
    let apart : (o == e.0) ≡ false = unsigned_ties o e.0 ∙ ap is_eq all.0 in
    ap (λ b. cond (not b) (e ∷ without_text o es) (without_text o es)) apart ∙ ap (λ xs. e ∷ xs) (none_taken o es all.1)

put_first : (o : ℕ) (text : List ℕ) (es : Texts) → AreBehind o es → with_text o text es ≡ (o, text) ∷ es
put_first o text [] all = refl
put_first o text (e ∷ es) all = ap (λ r. match_ordering r ((o, text) ∷ e ∷ es) ((e.0, text) ∷ es) (e ∷ with_text o text es)) all.0

-- what is left of an entry and those behind it
left_head : (o : ℕ) (e : ℕ × List ℕ) (es : Texts) (r : Ordering) → nat_cmp o e.0 ≡ r → without_text o (e ∷ es) ≡ cond (not (is_eq r)) (e ∷ without_text o es) (without_text o es)
left_head o e es r is = ap (λ b. cond (not b) (e ∷ without_text o es) (without_text o es)) (unsigned_ties o e.0 ∙ ap is_eq is)

-- TAKING OUT AN ENTRY leaves those of the other keys

removed_at : (r : Ordering) (o : ℕ) (e : ℕ × List ℕ) (es : Texts) → nat_cmp o e.0 ≡ r → AreBehind e.0 es → remove_entry (is_at (nat_cmp o)) es ≡ without_text o es
    → cond (is_eq r) es (e ∷ remove_entry (is_at (nat_cmp o)) es) ≡ cond (not (is_eq r)) (e ∷ without_text o es) (without_text o es)
removed_at Less o e es is above later = ap (λ xs. e ∷ xs) later
removed_at Equal o e es is above later = sym (none_taken o es (behind_same o e.0 es is above))
removed_at Greater o e es is above later = ap (λ xs. e ∷ xs) later

removed : (o : ℕ) (es : Texts) → IsStrictlySortedBy nat_cmp (keys_of es) → remove_entry (is_at (nat_cmp o)) es ≡ without_text o es
removed o [] ordered = refl
removed o (e ∷ es) ordered =
    removed_at (nat_cmp o e.0) o e es refl (sorted_head nat_cmp e.0 (keys_of es) ordered) (removed o es (sorted_tail nat_cmp e.0 (keys_of es) ordered)) ∙ sym (left_head o e es (nat_cmp o e.0) refl)

pub removed-spelled : (o : ℕ) (es : List Entry) → IsStrictlySortedBy nat_cmp (keys_of es) → spelled (remove_entry (is_at (nat_cmp o)) es) ≡ without_text o (spelled es)
removed-spelled o es ordered = spelled-remove (is_at (nat_cmp o)) es ∙ removed o (spelled es) (subst (λ ks. IsStrictlySortedBy nat_cmp ks) (sym (keys-spelled es)) ordered)

pub left-taken : (o k : ℕ) (es : List Entry) (texts : Texts) (left : List Entry) → spelled es ≡ texts → IsStrictlySortedBy nat_cmp (keys_of es) → k ≡ o → left ≡ remove_entry (is_at (nat_cmp k)) es
    → spelled left ≡ without_text o texts
left-taken o k es texts left view ordered named is =
    ap spelled is ∙ (removed-spelled k es ordered ∙ (ap (without_text k) view ∙ ap (λ (j : ℕ). without_text j texts) named))

-- AN OBJECT IS GIVEN A TEXT: the same, whether the one that it had was taken out before or not

given_at : (r : Ordering) (o : ℕ) (text : List ℕ) (e : ℕ × List ℕ) (es : Texts) → nat_cmp o e.0 ≡ r → AreBehind e.0 es → with_text o text (without_text o es) ≡ with_text o text es
    → with_text o text (cond (not (is_eq r)) (e ∷ without_text o es) (without_text o es)) ≡ match_ordering r ((o, text) ∷ e ∷ es) ((e.0, text) ∷ es) (e ∷ with_text o text es)
given_at Less o text e es is above later =
    ap (λ xs. with_text o text (e ∷ xs)) (none_taken o es (behind_less o e.0 es is above)) ∙ put_first o text (e ∷ es) (is, behind_less o e.0 es is above)
given_at Equal o text e es is above later =
    let behind : AreBehind o es = behind_same o e.0 es is above in
    let same : o ≡ e.0 = eqb-true o e.0 (unsigned_ties o e.0 ∙ ap is_eq is) in
    ap (with_text o text) (none_taken o es behind) ∙ (put_first o text es behind ∙ ap (λ k. (k, text) ∷ es) same)
given_at Greater o text e es is above later =
    ap (λ r. match_ordering r ((o, text) ∷ e ∷ without_text o es) ((e.0, text) ∷ without_text o es) (e ∷ with_text o text (without_text o es))) is ∙ ap (λ xs. e ∷ xs) later

pub given-without : (o : ℕ) (text : List ℕ) (es : Texts) → IsStrictlySortedBy nat_cmp (keys_of es) → with_text o text (without_text o es) ≡ with_text o text es
given-without o text [] ordered = refl
given-without o text (e ∷ es) ordered =
    ap (with_text o text) (left_head o e es (nat_cmp o e.0) refl)
    ∙ given_at (nat_cmp o e.0) o text e es refl (sorted_head nat_cmp e.0 (keys_of es) ordered) (given-without o text es (sorted_tail nat_cmp e.0 (keys_of es) ordered))

-- .. and how many units there are then

size_text : (found : Option (List ℕ)) → length (unwrap_or found []) ≡ size_of found
size_text None = refl
size_text (Some text) = refl

pub units-given : (o : ℕ) (text : List ℕ) (es : Texts) → IsStrictlySortedBy nat_cmp (keys_of es) → text_units (with_text o text es) + length (given_text es o) ≡ text_units es + length text
units-given o text es ordered =
    ap (λ n. text_units (with_text o text es) + n) (size_text (lookup (is_at (nat_cmp o)) es)) ∙ sum_by-insert_entry length nat_cmp_total es o text ordered

-- THE KEYS of the entries

pub ordered-spelled : (es : List Entry) → IsStrictlySortedBy nat_cmp (keys_of es) → IsStrictlySortedBy nat_cmp (keys_of (spelled es))
ordered-spelled es ordered = subst (λ ks. IsStrictlySortedBy nat_cmp ks) (sym (keys-spelled es)) ordered

-- A MAP OF WHICH AN ENTRY WAS TAKEN OUT

pub given-taken : (o k : ℕ) (text : List ℕ) (es : List Entry) (texts : Texts) (left : List Entry) → spelled es ≡ texts → IsStrictlySortedBy nat_cmp (keys_of es) → k ≡ o → left ≡ remove_entry (is_at (nat_cmp k)) es
    → with_text o text (spelled left) ≡ with_text o text texts
given-taken o k text es texts left view ordered named is =
    let sorted : IsStrictlySortedBy nat_cmp (keys_of (spelled es)) = ordered-spelled es ordered in
    ap (λ xs. with_text o text (spelled xs)) is
    ∙ (ap (with_text o text) (removed-spelled k es ordered)
    ∙ (ap (λ j. with_text o text (without_text j (spelled es))) named
    ∙ (given-without o text (spelled es) sorted ∙ ap (with_text o text) view)))

pub units-taken : (k : ℕ) (es : List Entry) (texts : Texts) (left : List Entry) → spelled es ≡ texts → left ≡ remove_entry (is_at (nat_cmp k)) es → text_units (spelled left) ≤ text_units texts
units-taken k es texts left view is =
    let whole : text_units (spelled (remove_entry (is_at (nat_cmp k)) es)) + size (lookup (is_at (nat_cmp k)) es) ≡ text_units (spelled es) = units-remove es k in
    let shown : text_units (spelled es) ≡ text_units texts = ap text_units view in
    let less : text_units (spelled left) ≡ text_units (spelled (remove_entry (is_at (nat_cmp k)) es)) = ap (λ xs. text_units (spelled xs)) is in
    omega arith

-- THE TEXT OF AN OBJECT is no longer than a text may be, and that of an object without an entry is empty

short_or : (r : Option (List ℕ)) → IfSome r (λ units. length units ≤ longest_text) → length (unwrap_or r []) ≤ longest_text
short_or None h = omega arith
short_or (Some units) h = h

pub given-short : (es : Texts) (o : ℕ) → All (λ units. length units ≤ longest_text) (values_of es) → length (given_text es o) ≤ longest_text
given-short es o all = short_or (lookup (is_at (nat_cmp o)) es) (IfSome-lookup_from_All (λ units. length units ≤ longest_text) (is_at (nat_cmp o)) es all)

-- an object that is newer than each that has an entry
pub given-fresh : (es : Texts) (n : ℕ) → All (λ o. o < n) (keys_of es) → given_text es n ≡ []
given-fresh [] n all = refl
given-fresh (e ∷ es) n all =
    let lt : e.0 < n = All-head (λ o. o < n) e.0 (keys_of es) all in
    let apart : is_at (nat_cmp n) e.0 ≡ false = sym (unsigned_ties n e.0) ∙ ne_eqb n e.0 (λ same. omega arith) in
    ap (λ b. unwrap_or (cond b (Some e.1) (lookup (is_at (nat_cmp n)) es)) []) apart ∙ given-fresh es n (All-tail (λ o. o < n) e.0 (keys_of es) all)
