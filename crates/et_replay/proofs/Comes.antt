-- The items of a timeline come as they may.
use Rattle.std.proofs.Common.{drop_of_length-le, ◌≡◌, ℕ, suc, ◌+◌, ◌<◌, ◌≤◌, Bool, true, false, cond, eqb, List, [], ◌∷◌, ◌++◌, length, get_or, take, drop, Option, Some, refl, sym, ap, subst, ◌∙◌, arith, inl, inr, length-append}
use Rattle.std.specs.Prelude.{reverse, is_some}
use Rattle.std.specs.List.{filter_map, All}
use Rattle.std.proofs.Math.ListN.{get_or-append}
use Rattle.std.proofs.Math.Seq.{get_or-append_seam}
use Rattle.std.proofs.lemmas.List.{take-append-drop, take_more, take_all, reverse-append, get_or_default, drop_more}
use Rattle.std.proofs.lemmas.List.Elements.{filter_map-append, All-append}
use Rattle.et_base.proofs.Tests.{cases_eqb}
use Rattle.et_replay.specs.declared.item.Item.{Item}
use Rattle.et_replay.specs.declared.item.Item.TheVariants.{Alloc, Write, Death}
use Rattle.et_replay.specs.Feeding.{MayCome, IsNewObject}
use Rattle.et_replay.specs.Heap.{size_in, is_made}
use Rattle.et_replay.specs.Items.{object_made, size_made, made_objects, sizes, MakesInOrder}

-- an item more
pub reverse_more : (items : List Item) (i : ℕ) (d : Item) → i < length items → reverse (take (i + 1) items) ≡ get_or items i d ∷ reverse (take i items)
reverse_more items i d lt = ap (λ (t : List Item). reverse t) (take_more items i d lt) ∙ reverse-append (take i items) (get_or items i d ∷ [])

pub reverse_all : (items : List Item) (i : ℕ) → length items ≤ i → reverse (take i items) ≡ reverse items
reverse_all items i le = ap (λ (t : List Item). reverse t) (take_all i items le)

-- the items are those before, this one, and those behind
parts : (items : List Item) (i : ℕ) (d : Item) → i < length items → items ≡ (take i items ++ get_or items i d ∷ []) ++ drop (i + 1) items
parts items i d lt = sym (take-append-drop (i + 1) items) ∙ ap (λ (t : List Item). t ++ drop (i + 1) items) (take_more items i d lt)

parts_of : {Y : Type 0} (f : Item → Option Y) (items : List Item) (i : ℕ) (d : Item) → i < length items → filter_map f items ≡ (filter_map f (take i items) ++ filter_map f (get_or items i d ∷ [])) ++ filter_map f (drop (i + 1) items)
parts_of {Y} f items i d lt =
    ap (λ (t : List Item). filter_map f t) (parts items i d lt)
    ∙ (filter_map-append f (take i items ++ get_or items i d ∷ []) (drop (i + 1) items)
    ∙ ap (λ (t : List Y). t ++ filter_map f (drop (i + 1) items)) (filter_map-append f (take i items) (get_or items i d ∷ [])))

abbrev AreLow : ℕ → List ℕ → Type 0
AreLow n xs = All (λ o. o ≤ n) xs

-- what is made is among the objects made
made_low : (n : ℕ) (past : List Item) (o : ℕ) → AreLow n (made_objects past) → is_made past o ≡ true → o ≤ n
made_low n [] o low h = absurd cc
made_low n (Alloc event object size ∷ past) o low h = elim (cases_eqb object o) [
  | inl e ↦ (let a = low 0 0 (omega arith) in let same = e.1 in omega (arith, a, same))
  | inr e ↦ (let no : eqb object o ≡ false = e.0 in made_low n past o (λ k d lt. low (suc k) d (omega (arith, lt))) (subst (λ (b : Bool). is_some (cond b (Some size) (size_in past o)) ≡ true) no h))
]
made_low n (Write event object slot new ∷ past) o low h = made_low n past o low h
made_low n (Death object time ∷ past) o low h = made_low n past o low h

first_made : (x : Item) (xs : List Item) → made_objects (x ∷ xs) ≡ made_objects (x ∷ []) ++ made_objects xs
first_made x xs = filter_map-append object_made (x ∷ []) xs

All-front : (n : ℕ) (xs ys : List ℕ) → AreLow n (xs ++ ys) → AreLow n xs
All-front n xs ys h k d lt = subst (λ (o : ℕ). o ≤ n) (get_or-append xs ys d k lt) (h k d (omega (arith, lt, length-append xs ys)))

All-back : (n : ℕ) (xs ys : List ℕ) → AreLow n (xs ++ ys) → AreLow n ys
All-back n [] ys h = h
All-back n (x ∷ xs) ys h = All-back n xs ys (λ k d lt. h (suc k) d (omega (arith, lt)))

low_reverse : (n : ℕ) (xs : List Item) → AreLow n (made_objects xs) → AreLow n (made_objects (reverse xs))
low_reverse n [] h = h
low_reverse n (x ∷ xs) h =
    let h' = subst (λ (t : List ℕ). AreLow n t) (first_made x xs) h in
    subst (λ (t : List ℕ). AreLow n t) (sym (ap (λ (t : List Item). made_objects t) (reverse-append (x ∷ []) xs) ∙ filter_map-append object_made (reverse xs) (x ∷ [])))
    (All-append (λ o. o ≤ n) (made_objects (reverse xs)) (made_objects (x ∷ [])) (low_reverse n xs (All-back n (made_objects (x ∷ [])) (made_objects xs) h')) (All-front n (made_objects (x ∷ [])) (made_objects xs) h'))

-- the objects made before are the first ones
before_low : (items : List Item) (i : ℕ) (d : Item) → i < length items → MakesInOrder items → AreLow (length (made_objects (take i items))) (made_objects (take i items))
before_low items i d lt m k e l =
    let xs = made_objects (take i items) in
    let one = made_objects (get_or items i d ∷ []) in
    let rest = made_objects (drop (i + 1) items) in
    let p = parts_of object_made items i d lt in
    let long : length (made_objects items) ≡ length xs + length one + length rest = ap (λ (t : List ℕ). length t) p ∙ (omega (arith, length-append (xs ++ one) rest, length-append xs one)) in
    let l' : k < length (xs ++ one) = omega (arith, l, length-append xs one) in
    let same : get_or (made_objects items) k 0 ≡ get_or xs k 0 = ap (λ (t : List ℕ). get_or t k 0) p ∙ (get_or-append (xs ++ one) rest 0 k l' ∙ get_or-append xs one 0 k l) in
    let is = m.numbered k (omega (arith, l, long)) in
    let any : get_or xs k e ≡ get_or xs k 0 = get_or_default xs k e 0 l in
    omega (arith, is, same, any, l)

comes_alloc : (items : List Item) (i : ℕ) (d : Item) (objects event object size : ℕ) → i < length items → MakesInOrder items → length (made_objects items) ≤ objects → get_or items i d ≡ Alloc event object size → IsNewObject objects (reverse (take i items)) object size
comes_alloc items i d objects event object size lt m le e =
    let xs = made_objects (take i items) in
    let ss = sizes (take i items) in
    let rest = made_objects (drop (i + 1) items) in
    let rest_sizes = sizes (drop (i + 1) items) in
    let p : made_objects items ≡ (xs ++ object ∷ []) ++ rest = parts_of object_made items i d lt ∙ ap (λ (x : Item). (xs ++ made_objects (x ∷ [])) ++ rest) e in
    let q : sizes items ≡ (ss ++ size ∷ []) ++ rest_sizes = parts_of size_made items i d lt ∙ ap (λ (x : Item). (ss ++ sizes (x ∷ [])) ++ rest_sizes) e in
    let long : length (made_objects items) ≡ length xs + 1 + length rest = ap (λ (t : List ℕ). length t) p ∙ (omega (arith, length-append (xs ++ object ∷ []) rest, length-append xs (object ∷ []))) in
    let within : length xs < length (xs ++ object ∷ []) = omega (arith, length-append xs (object ∷ [])) in
    let here : get_or (made_objects items) (length xs) 0 ≡ object = ap (λ (t : List ℕ). get_or t (length xs) 0) p ∙ (get_or-append (xs ++ object ∷ []) rest 0 (length xs) within ∙ get_or-append_seam xs object [] 0) in
    let number = m.numbered (length xs) (omega (arith, long)) in
    let is : object ≡ length xs + 1 = sym here ∙ number in
    let within_sizes : length ss < length (ss ++ size ∷ []) = omega (arith, length-append ss (size ∷ [])) in
    let here_size : get_or (sizes items) (length ss) 0 ≡ size = ap (λ (t : List ℕ). get_or t (length ss) 0) q ∙ (get_or-append (ss ++ size ∷ []) rest_sizes 0 (length ss) within_sizes ∙ get_or-append_seam ss size [] 0) in
    let long_sizes : length (sizes items) ≡ length ss + 1 + length rest_sizes = ap (λ (t : List ℕ). length t) q ∙ (omega (arith, length-append (ss ++ size ∷ []) rest_sizes, length-append ss (size ∷ []))) in
    let small = m.small (length ss) 0 (omega (arith, long_sizes)) in
    record {
      first = omega (arith, is);
      last = omega (arith, is, long, le);
      new = not_made (is_made (reverse (take i items)) object) (λ h. (let low = made_low (length xs) (reverse (take i items)) object (low_reverse (length xs) (take i items) (before_low items i d lt m)) h in omega (arith, is, low)));
      small = omega (arith, here_size, small);
    }
  where
    not_made : (b : Bool) → (b ≡ true → ⊥) → b ≡ false
    not_made true far = absurd (far refl)
    not_made false far = refl

pub comes : (items : List Item) (i : ℕ) (d : Item) (objects : ℕ) → i < length items → MakesInOrder items → length (made_objects items) ≤ objects → MayCome objects (reverse (take i items)) (get_or items i d)
comes items i d objects lt m le = by (get_or items i d) refl
  where
    by : (x : Item) → get_or items i d ≡ x → MayCome objects (reverse (take i items)) x
    by (Alloc event object size) e = comes_alloc items i d objects event object size lt m le e
    by (Write event object slot new) e = tt
    by (Death object time) e = tt

-- how many objects are left to be made
pub made_left : (items : List Item) (i : ℕ) (d : Item) → i < length items → length (made_objects (drop i items)) ≡ length (made_objects (get_or items i d ∷ [])) + length (made_objects (drop (i + 1) items))
made_left items i d lt =
    let next : drop i items ≡ get_or items i d ∷ drop (i + 1) items = drop_more items i d lt in
    ap (λ (t : List Item). length (made_objects t)) next
    ∙ (ap (λ (t : List ℕ). length t) (first_made (get_or items i d) (drop (i + 1) items)) ∙ length-append (made_objects (get_or items i d ∷ [])) (made_objects (drop (i + 1) items)))

pub made_end : (items : List Item) (i : ℕ) → length items ≤ i → length (made_objects (drop i items)) ≡ 0
made_end items i le = ap (λ (t : List Item). length (made_objects t)) (drop_of_length-le items le)
