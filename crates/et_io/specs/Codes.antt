-- How the logs are stored in ghost fields, which the prover asks for.
use Rattle.std.specs.Prelude.{◌≡◌, ℕ, zero, suc, ◌⊎◌, List}
use Rattle.std.proofs.Common.{refl, inl, inr}
use Rattle.std.specs.Coded.{Coded, code_by, coded_ℕ, coded_list, coded×, coded⊎}
use Rattle.et_io.specs.Files.{Answer, Bytes, Absent, TooLong, Failed, OutOfMemory, Reading}
use Rattle.et_io.specs.Sink.{Mark, Taken, Untaken}

abbrev pub of_mark : Mark → ℕ ⊎ List ℕ
of_mark (Taken byte) = inl byte
of_mark (Untaken piece) = inr piece

abbrev pub mark_of : ℕ ⊎ List ℕ → Mark
mark_of (inl byte) = Taken byte
mark_of (inr piece) = Untaken piece

pub mark_back : (m : Mark) → mark_of (of_mark m) ≡ m
mark_back (Taken byte) = refl
mark_back (Untaken piece) = refl

abbrev pub coded_mark : Coded Mark
coded_mark = code_by (ℕ ⊎ List ℕ) (coded⊎ coded_ℕ (coded_list coded_ℕ)) of_mark mark_of mark_back

abbrev pub of_answer : Answer → List ℕ ⊎ ℕ
of_answer (Bytes bytes) = inl bytes
of_answer Absent = inr 0
of_answer TooLong = inr 1
of_answer Failed = inr 2
of_answer OutOfMemory = inr 3

abbrev pub answer_of : List ℕ ⊎ ℕ → Answer
answer_of (inl bytes) = Bytes bytes
answer_of (inr zero) = Absent
answer_of (inr (suc zero)) = TooLong
answer_of (inr (suc (suc zero))) = Failed
answer_of (inr (suc (suc (suc n)))) = OutOfMemory

pub answer_back : (a : Answer) → answer_of (of_answer a) ≡ a
answer_back (Bytes bytes) = refl
answer_back Absent = refl
answer_back TooLong = refl
answer_back Failed = refl
answer_back OutOfMemory = refl

abbrev coded_answer : Coded Answer
coded_answer = code_by (List ℕ ⊎ ℕ) (coded⊎ (coded_list coded_ℕ) coded_ℕ) of_answer answer_of answer_back

abbrev pub coded_reading : Coded Reading
coded_reading = code_by (List ℕ × (ℕ × Answer)) (coded× (coded_list coded_ℕ) (coded× coded_ℕ coded_answer)) (λ r. (r.path, (r.most, r.answer))) (λ t. record { path = t.0; most = t.1.0; answer = t.1.1 }) (λ _. refl)
