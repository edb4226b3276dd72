-- Members, as the loop that reads and checks them comes to them.
use Rattle.std.proofs.Common.{◌≡◌, ℕ, ◌+◌, ◌-◌, ◌<◌, ◌≤◌, List, [], ◌∷◌, ◌++◌, length, map, Option, Result, Ok, Err, refl, sym, ap, ◌∙◌, arith}
use Rattle.std.specs.List.{flat_map}
use Rattle.std.proofs.lemmas.List.{map_push}
use Rattle.et_base.specs.Numbers.{AreBytes}
use Rattle.et_base.specs.Marks.{Mark, first_from}
use Rattle.et_class.specs.declared.fault.ClassFault.{ClassFault}
use Rattle.et_class.specs.declared.member.Member.{Member}
use Rattle.et_class.specs.Layout.{MemberOf, member_bytes, member_of, member_list}
use Rattle.et_class.specs.Reading.{IsClassFaultOf, many_at, member_read_at}
use Rattle.et_class.specs.Along.{along}
use Rattle.et_class.proofs.Along.{first_push, size_push}
use Rattle.et_class.proofs.Counted.{with_front, goes_on, ends, is_done}
use Rattle.et_class.proofs.Spelt.{member_reads}

with_nothing : (r : Result (List MemberOf × ℕ) (ℕ × ℕ)) (bytes : List ℕ) → with_front (member_read_at bytes) [] r ≡ r
with_nothing (Ok x) bytes = refl
with_nothing (Err f) bytes = refl

module _ (marks : List MemberOf → ℕ → MemberOf → List Mark) (bytes : List ℕ) (first : Option (ℕ × ℕ)) (count start : ℕ) where
  -- the first i members were read and looked at, and the next one stands at a place
  pub record SoFar (found : Option (ℕ × ℕ)) (i at : ℕ) (ms : List Member) : Type 0 where
    pub read : with_front (member_read_at bytes) (member_list ms) (many_at (member_read_at bytes) (count - i) at) ≡ many_at (member_read_at bytes) count start
    pub found_is : found ≡ first_from first (along member_bytes marks [] start (member_list ms))
    pub at_is : at ≡ start + length (flat_map member_bytes (member_list ms))

  pub so_far_start : SoFar first 0 start []
  unfolding along first_from
  so_far_start =
      let k : count - 0 ≡ count = omega arith in
      record {
        read = with_nothing (many_at (member_read_at bytes) (count - 0) start) bytes ∙ ap (λ n. many_at (member_read_at bytes) n start) k;
        found_is = refl;
        at_is = omega arith;
      }

  pub so_far_more : AreBytes bytes → (found found' : Option (ℕ × ℕ)) (i at : ℕ) (ms : List Member) (m : Member) (after : ℕ) → SoFar found i at ms → i < count → member_read_at bytes at ≡ Ok (member_of m, after)
      → found' ≡ first_from found (marks (member_list ms) at (member_of m)) → SoFar found' (i + 1) after (ms ++ m ∷ [])
  so_far_more fits found found' i at ms m after s lt h e =
      let push : member_list (ms ++ m ∷ []) ≡ member_list ms ++ member_of m ∷ [] = map_push member_of ms m in
      let r = member_reads bytes fits at (member_of m) after h in
      let size = ap (λ xs. length (flat_map member_bytes xs)) push ∙ size_push member_bytes marks (member_list ms) (member_of m) in
      record {
        read = ap (λ front. with_front (member_read_at bytes) front (many_at (member_read_at bytes) (count - (i + 1)) after)) push ∙ goes_on (member_read_at bytes) (member_list ms) count i at (member_of m) after (many_at (member_read_at bytes) count start) lt h s.read;
        found_is =
            e ∙ (ap (λ f. first_from f (marks (member_list ms) at (member_of m))) s.found_is
            ∙ (ap (λ p. first_from (first_from first (along member_bytes marks [] start (member_list ms))) (marks (member_list ms) p (member_of m))) s.at_is
            ∙ (sym (first_push member_bytes marks first start (member_list ms) (member_of m)) ∙ ap (λ xs. first_from first (along member_bytes marks [] start xs)) (sym push))));
        at_is = omega (arith, s.at_is, r.next_is, size);
      }

  pub so_far_err : (e : ClassFault) (found : Option (ℕ × ℕ)) (i at : ℕ) (ms : List Member) → SoFar found i at ms → i < count → IsClassFaultOf e (λ f. member_read_at bytes at ≡ Err f) → IsClassFaultOf e (λ f. many_at (member_read_at bytes) count start ≡ Err f)
  so_far_err e found i at ms s lt h = ends (member_read_at bytes) e (member_list ms) count i at (many_at (member_read_at bytes) count start) lt h s.read

  pub so_far_done : (found : Option (ℕ × ℕ)) (i at : ℕ) (ms : List Member) → SoFar found i at ms → count ≤ i → many_at (member_read_at bytes) count start ≡ Ok (member_list ms, at)
  so_far_done found i at ms s le = is_done (member_read_at bytes) (member_list ms) count i at (many_at (member_read_at bytes) count start) le s.read

-- what is the same of each member is the same with one more
pub same_push : {A B C : Type 0} (f : A → C) (g : B → C) (h : A → B) (xs : List A) (x : A) → map f xs ≡ map g (map h xs) → f x ≡ g (h x) → map f (xs ++ x ∷ []) ≡ map g (map h (xs ++ x ∷ []))
same_push f g h xs x e i =
    map_push f xs x ∙ (ap (λ ys. ys ++ f x ∷ []) e ∙ (ap (λ y. map g (map h xs) ++ y ∷ []) i ∙ (sym (map_push g (map h xs) (h x)) ∙ ap (map g) (sym (map_push h xs x)))))

pub same_push' : {A C : Type 0} (f g : A → C) (xs : List A) (x : A) → map f xs ≡ map g xs → f x ≡ g x → map f (xs ++ x ∷ []) ≡ map g (xs ++ x ∷ [])
same_push' f g xs x e i = map_push f xs x ∙ (ap (λ ys. ys ++ f x ∷ []) e ∙ (ap (λ y. map g xs ++ y ∷ []) i ∙ sym (map_push g xs x)))
