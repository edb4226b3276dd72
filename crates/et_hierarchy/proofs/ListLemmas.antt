-- Parts of a list.
use Rattle.std.proofs.Common.{◌≡◌, ℕ, ◌+◌, ◌-◌, ◌≤◌, List, take, drop, sym, ◌∙◌, ap, arith}
use Rattle.std.proofs.lemmas.List.{drop-take, drop-drop}

-- what is behind the first classes of a part
pub behind_is : (items : List ℕ) (from to count : ℕ) → count ≤ to - from → take (to - (from + count)) (drop (from + count) items) ≡ drop count (take (to - from) (drop from items))
behind_is items from to count le =
    let e : count + (to - (from + count)) ≡ to - from = omega arith in
    ap (take (to - (from + count))) (sym (drop-drop count from items)) ∙ (sym (drop-take count (to - (from + count)) (drop from items)) ∙ ap (λ n. drop count (take n (drop from items))) e)
