-- The whole text of a snapshot, put part by part.
use Rattle.std.proofs.Common.{◌≡◌, ◌∙◌, ℕ, List, [], ◌∷◌, ◌++◌, length, refl, sym, ap, subst, append_assoc}
use Rattle.std.specs.Prelude.{reverse, codes, None, Result, OnOk, OnErr}
use Rattle.std.specs.List.{flat_map}
use Rattle.std.proofs.lemmas.List.{length-map}
use Rattle.std.proofs.lemmas.Result.{on_ok_weaker, on_err_weaker}
use Rattle.et_base.specs.declared.line.TraceLine.{TraceLine}
use Rattle.et_io.specs.Sink.{Log, with_more, TakesUpTo, TakesPrefix}
use Rattle.et_io.proofs.Taking.{all_put, longer, part_put}
use Rattle.et_text.specs.Rules.{AreFine}
use Rattle.et_text.specs.Spelling.{number_field}
use Rattle.et_replay.specs.Curve.{live}
use Rattle.std.specs.declared.vec.Vec.{Vec}
use Rattle.std.specs.declared.alloc.Global.{Global}
use Rattle.et_snapshot.specs.declared.heap.Heap.{Heap}
use Rattle.et_snapshot.specs.declared.objects.Entry.{Entry}
use Rattle.et_snapshot.specs.declared.totals.Total.{Total}
use Rattle.et_snapshot.specs.Snapshot.{static_row, slots_at, object_rows, live_lines, class_row, head_row, snapshot_text}
use Rattle.et_snapshot.specs.Heap.{objects_of, lists_of, row_of, rows_of, total_rows, IsCounted}
use Rattle.et_snapshot.proofs.Classes.{fields}
use Rattle.et_snapshot.proofs.Pieces.{then_up_to, then_prefix}
use Rattle.et_snapshot.proofs.Telling.{objects_told, count_is, bytes_are, static_rows, object_rows_are, class_rows_are}

abbrev pub head_of : ℕ → Total → List ℕ
head_of e all = codes "snapshot" ++ number_field e ++ number_field all.count ++ number_field all.bytes ++ 10 ∷ []

abbrev pub statics_of : Heap → List ℕ
statics_of heap = flat_map (row_of None) heap.statics.entries

abbrev pub object_text : Heap → List ℕ
object_text heap = flat_map (rows_of (lists_of heap.names.items)) (objects_of heap.objects.items)

abbrev pub class_text : Heap → List Total → List ℕ
class_text heap totals = total_rows (lists_of heap.names.items) totals

-- what was counted tells the text
whole_is : (version e : ℕ) (lines : List TraceLine) (heap : Heap) (totals : List Total) (all : Total) → AreFine version (reverse lines) → IsCounted lines e heap totals all
    → head_of e all ++ statics_of heap ++ object_text heap ++ class_text heap totals ≡ snapshot_text lines e
whole_is version e lines heap totals all f c =
    let kept = objects_of heap.objects.items in
    let told = objects_told version e lines lines kept f refl c.objects in
    let many : length totals ≡ length (fields lines) = c.as_many ∙ (sym (length-map heap.names.items (λ v. v.items)) ∙ ap (λ (l : List (List ℕ)). length l) c.names) in
    let count : all.count ≡ length (live_lines lines e) = c.whole.count ∙ count_is lines e kept told in
    let bytes : all.bytes ≡ live lines e = c.whole.bytes ∙ bytes_are lines e kept told in
    let statics : statics_of heap ≡ flat_map static_row (slots_at lines e 0) = ap (λ (s : List (ℕ × ℕ)). flat_map (row_of None) s) c.statics ∙ static_rows e lines in
    let objects : object_text heap ≡ flat_map (object_rows lines e) (live_lines lines e) = ap (λ (n : List (List ℕ)). flat_map (rows_of n) kept) c.names ∙ object_rows_are lines e kept told in
    let classes : class_text heap totals ≡ flat_map (class_row (live_lines lines e)) lines = ap (λ (n : List (List ℕ)). total_rows n totals) c.names ∙ class_rows_are lines e kept totals told many c.each in
    ap (λ (n : ℕ). codes "snapshot" ++ number_field e ++ number_field n ++ number_field all.bytes ++ 10 ∷ [] ++ statics_of heap ++ object_text heap ++ class_text heap totals) count
    ∙ (ap (λ (n : ℕ). codes "snapshot" ++ number_field e ++ number_field (length (live_lines lines e)) ++ number_field n ++ 10 ∷ [] ++ statics_of heap ++ object_text heap ++ class_text heap totals) bytes
    ∙ (ap (λ (t : List ℕ). head_row lines e ++ t ++ object_text heap ++ class_text heap totals) statics
    ∙ (ap (λ (t : List ℕ). head_row lines e ++ flat_map static_row (slots_at lines e 0) ++ t ++ class_text heap totals) objects
    ∙ ap (λ (t : List ℕ). head_row lines e ++ flat_map static_row (slots_at lines e 0) ++ flat_map (object_rows lines e) (live_lines lines e) ++ t) classes)))

module _ (old one two three : Log) (h s o c : List ℕ) where
  -- four texts, of which three were gathered after the first
  three_up_to : (a b d : List ℕ) → TakesUpTo old one (h ++ s) a → TakesUpTo one two (a ++ o) b → TakesUpTo two three (b ++ c) d → TakesUpTo old three (h ++ ((s ++ o) ++ c)) d
  three_up_to a b d p q r = then_up_to old two three h (s ++ o) c b d (then_up_to old one two h s o a b p q) r

  last_stops : (a b : List ℕ) → TakesUpTo old one (h ++ s) a → TakesUpTo one two (a ++ o) b → TakesPrefix two three (b ++ c) → TakesPrefix old three (h ++ ((s ++ o) ++ c))
  last_stops a b p q r = then_prefix old two three h (s ++ o) c b (then_up_to old one two h s o a b p q) r

  second_stops : (a : List ℕ) → TakesUpTo old one (h ++ s) a → TakesPrefix one two (a ++ o) → TakesPrefix old two (h ++ ((s ++ o) ++ c))
  second_stops a p q = subst (λ (t : List ℕ). TakesPrefix old two t) (append_assoc h (s ++ o) c) (longer old two (h ++ (s ++ o)) c (then_prefix old one two h s o a p q))

  first_stops : TakesPrefix old one (h ++ s) → TakesPrefix old one (h ++ ((s ++ o) ++ c))
  first_stops p = subst (λ (t : List ℕ). TakesPrefix old one t) (sym (ap (λ (t : List ℕ). h ++ t) (append_assoc s o c) ∙ sym (append_assoc h s (o ++ c)))) (longer old one (h ++ s) (o ++ c) p)

-- the four, one after the other
joined : (h s o c : List ℕ) → h ++ ((s ++ o) ++ c) ≡ h ++ s ++ o ++ c
joined h s o c = sym (append_assoc h (s ++ o) c) ∙ ap (λ (t : List ℕ). t ++ c) (sym (append_assoc h s o))

-- the text of the objects, and of the classes, by what was put
pub object_text_is : (heap : Heap) (names : List (Vec ℕ Global)) (entries : List Entry) → names ≡ heap.names.items → entries ≡ heap.objects.items → flat_map (rows_of (lists_of names)) (objects_of entries) ≡ object_text heap
object_text_is heap names entries n o =
    ap (λ (es : List Entry). flat_map (rows_of (lists_of names)) (objects_of es)) o
    ∙ ap (λ (ns : List (Vec ℕ Global)). flat_map (rows_of (lists_of ns)) (objects_of heap.objects.items)) n

pub class_text_is : (heap : Heap) (totals : List Total) (names : List (Vec ℕ Global)) (counted : List Total) → names ≡ heap.names.items → counted ≡ totals → total_rows (lists_of names) counted ≡ class_text heap totals
class_text_is heap totals names counted n t =
    ap (λ (ts : List Total). total_rows (lists_of names) ts) t
    ∙ ap (λ (ns : List (Vec ℕ Global)). total_rows (lists_of ns) totals) n

-- HOW FAR THE SNAPSHOT WAS PUT. The first line was gathered in an empty text, and the rows of the static slots come next.
module _ (lines : List TraceLine) (e : ℕ) (heap : Heap) (totals : List Total) (all : Total) (counted : IsCounted lines e heap totals all) (nothing start : List ℕ) (empty : nothing ≡ []) (head : start ≡ nothing ++ head_of e all) (old one : Log) where
  parts_are : head_of e all ++ ((statics_of heap ++ object_text heap) ++ class_text heap totals) ≡ snapshot_text lines e
  parts_are = joined (head_of e all) (statics_of heap) (object_text heap) (class_text heap totals) ∙ whole_is counted.good.version e lines heap totals all counted.good.good.fine counted

  begun : start ≡ head_of e all
  begun = head ∙ ap (λ (t : List ℕ). t ++ head_of e all) empty

  pub stops_at_statics : TakesPrefix old one (start ++ statics_of heap) → TakesPrefix old one (snapshot_text lines e)
  stops_at_statics p =
      subst (λ (t : List ℕ). TakesPrefix old one t) parts_are
      (first_stops old one one one (head_of e all) (statics_of heap) (object_text heap) (class_text heap totals) (subst (λ (t : List ℕ). TakesPrefix old one (t ++ statics_of heap)) begun p))

  -- the objects come next
  module _ (a objects : List ℕ) (objects_are : objects ≡ object_text heap) (put : TakesUpTo old one (start ++ statics_of heap) a) (two : Log) where
    statics_put : TakesUpTo old one (head_of e all ++ statics_of heap) a
    statics_put = subst (λ (t : List ℕ). TakesUpTo old one (t ++ statics_of heap) a) begun put

    pub stops_at_objects : TakesPrefix one two (a ++ objects) → TakesPrefix old two (snapshot_text lines e)
    stops_at_objects p =
        subst (λ (t : List ℕ). TakesPrefix old two t) parts_are
        (second_stops old one two two (head_of e all) (statics_of heap) (object_text heap) (class_text heap totals) a statics_put (subst (λ (t : List ℕ). TakesPrefix one two (a ++ t)) objects_are p))

    -- the classes come last
    module _ (b classes : List ℕ) (classes_are : classes ≡ class_text heap totals) (next : TakesUpTo one two (a ++ objects) b) (three : Log) where
      objects_put : TakesUpTo one two (a ++ object_text heap) b
      objects_put = subst (λ (t : List ℕ). TakesUpTo one two (a ++ t) b) objects_are next

      pub stops_at_classes : TakesPrefix two three (b ++ classes) → TakesPrefix old three (snapshot_text lines e)
      stops_at_classes p =
          subst (λ (t : List ℕ). TakesPrefix old three t) parts_are
          (last_stops old one two three (head_of e all) (statics_of heap) (object_text heap) (class_text heap totals) a b statics_put objects_put (subst (λ (t : List ℕ). TakesPrefix two three (b ++ t)) classes_are p))

      all_gathered : (d : List ℕ) → TakesUpTo two three (b ++ classes) d → TakesUpTo old three (snapshot_text lines e) d
      all_gathered d q =
          subst (λ (t : List ℕ). TakesUpTo old three t d) parts_are
          (three_up_to old one two three (head_of e all) (statics_of heap) (object_text heap) (class_text heap totals) a b d statics_put objects_put (subst (λ (t : List ℕ). TakesUpTo two three (b ++ t) d) classes_are q))

      -- the rest is put, or fails to be
      pub whole_put : {T E : Type 0} (d rest : List ℕ) (new : Log) (r : Result T E) → TakesUpTo two three (b ++ classes) d → rest ≡ d → OnOk r (new ≡ with_more three rest) → OnOk r (new ≡ with_more old (snapshot_text lines e))
      whole_put d rest new r q same ok =
          on_ok_weaker r (λ (taken : new ≡ with_more three rest). all_put old three new (snapshot_text lines e) d (all_gathered d q) (taken ∙ ap (λ (t : List ℕ). with_more three t) same)) ok

      pub whole_stops : {T E : Type 0} (d rest : List ℕ) (new : Log) (r : Result T E) → TakesUpTo two three (b ++ classes) d → rest ≡ d → OnErr r (TakesPrefix three new rest) → OnErr r (TakesPrefix old new (snapshot_text lines e))
      whole_stops d rest new r q same err =
          on_err_weaker r (λ (part : TakesPrefix three new rest). part_put old three new (snapshot_text lines e) d (all_gathered d q) (subst (λ (t : List ℕ). TakesPrefix three new t) same part)) err
