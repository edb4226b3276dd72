-- What a trace tells of a slot is what the U records of its history tell.
use Rattle.std.proofs.Common.{◌≡◌, ℕ, zero, suc, ◌+◌, ◌<◌, ◌≤◌, ◌==◌, ◌&&◌, nat_le, Bool, true, false, List, [], ◌∷◌, ◌++◌, Option, Some, None, refl, sym, ◌∙◌, ap, inl, inr, arith}
use Rattle.std.specs.Prelude.{All, if◌then◌else◌, map, length, unwrap_or}
use Rattle.std.specs.List.{cons_option, filter_map, flat_map, last_or, list_any}
use Rattle.std.proofs.lemmas.Bool.{cases_eq, eq-eqb, le-leb, lt-leb, ne_eqb}
use Rattle.std.proofs.lemmas.List.Elements.{All-head, All-tail}
use Rattle.et_base.specs.declared.line.TraceLine.{TraceLine}
use Rattle.et_base.specs.declared.line.TraceLine.TheVariants as line
use Rattle.et_base.specs.declared.value.End.{End}
use Rattle.et_graph.specs.Graph.{Graph}
use Rattle.et_state.specs.History.{Setting, is_flush_point, flush_lines, lines_to, mentions_to, records_at, deaths, trace_of, how_of}
use Rattle.et_state.specs.Naming.{Names, Mentions, nothing_mentioned, with_mentions, class_line, method_line, classes_named_by, methods_named_by, number_in, line_of, record_lines, lines_of}
use Rattle.et_state.specs.declared.records.Record.{Record}
use Rattle.et_state.specs.declared.records.Record.TheVariants.{Alloc, Update, Enter, Exit, Unwind}
use Rattle.et_history.specs.Slots.{IsOfEvent, after_records, told_by}
use Rattle.et_history.proofs.Reporting.{if_known}
use Rattle.et_snapshot.specs.Snapshot.{content, put_into, write_by}
use Rattle.et_history.specs.steps.Writes.{after_record}

turned : (a b : ℕ) → (a == b) ≡ (b == a)
turned a b = elim (cases_eq a b) [ inl same ↦ eq-eqb a b same ∙ sym (eq-eqb b a (sym same)) | inr ne ↦ ne_eqb a b ne ∙ sym (ne_eqb b a (λ e. ne (sym e))) ]

module _ (e o i : ℕ) where
  -- what stands in the slot after a line that may write to the object
  abbrev after_write : ℕ → Option (ℕ × ℕ) → ℕ
  after_write x None = x
  after_write x (Some w) = if w.0 == i then w.1 else x

  abbrev after_lines : ℕ → List TraceLine → ℕ
  after_lines x [] = x
  after_lines x (l ∷ ls) = after_lines (after_write x (write_by e o l)) ls

  -- the content is what stands there after all lines
  abbrev IsWrittenLast : Option ℕ → List TraceLine → Type 0
  IsWrittenLast d ls = unwrap_or (last_or d (filter_map (put_into i) (filter_map (write_by e o) ls))) 0 ≡ after_lines (unwrap_or d 0) ls

  put_last : (ls : List TraceLine) (d : Option ℕ) → ((x : Option ℕ) → IsWrittenLast x ls) → (b : Bool) (new : ℕ)
      → unwrap_or (last_or d (cons_option (if b then Some new else None) (filter_map (put_into i) (filter_map (write_by e o) ls)))) 0 ≡ after_lines (if b then new else unwrap_or d 0) ls
  put_last ls d rest true new = rest (Some new)
  put_last ls d rest false new = rest d

  one_last : (ls : List TraceLine) (d : Option ℕ) → ((x : Option ℕ) → IsWrittenLast x ls) → (w : Option (ℕ × ℕ))
      → unwrap_or (last_or d (filter_map (put_into i) (cons_option w (filter_map (write_by e o) ls)))) 0 ≡ after_lines (after_write (unwrap_or d 0) w) ls
  one_last ls d rest None = rest d
  one_last ls d rest (Some w) = put_last ls d rest (w.0 == i) w.1

  last_written : (d : Option ℕ) (ls : List TraceLine) → IsWrittenLast d ls
  last_written d [] = refl
  last_written d (l ∷ ls) = one_last ls d (λ x. last_written x ls) (write_by e o l)

  content_is : (ls : List TraceLine) → content ls e o i ≡ after_lines 0 ls
  content_is ls = last_written None ls

  lines_both : (x : ℕ) (xs ys : List TraceLine) → after_lines x (xs ++ ys) ≡ after_lines (after_lines x xs) ys
  lines_both x [] ys = refl
  lines_both x (l ∷ xs) ys = lines_both (after_write x (write_by e o l)) xs ys

  -- LINES THAT WRITE NOTHING

  none_then : (x : ℕ) (xs ys : List TraceLine) → after_lines x xs ≡ x → after_lines x (xs ++ ys) ≡ after_lines x ys
  none_then x xs ys none = lines_both x xs ys ∙ ap (λ (n : ℕ). after_lines n ys) none

  class_none : (names : Names) (seen cs : List ℕ) (x : ℕ) → after_lines x (flat_map (class_line names seen) cs) ≡ x
  class_none names seen [] x = refl
  class_none names seen (c ∷ cs) x =
      none_then x (class_line names seen c) (flat_map (class_line names seen) cs)
      (if_known (λ (ls : List TraceLine). after_lines x ls ≡ x) (list_any (λ y. c == y) seen) [] (line.Class (length seen + 1) (names.class_name c) ∷ []) (λ h. refl) (λ h. refl))
      ∙ class_none names seen cs x

  method_none : (names : Names) (classes seen ms : List ℕ) (x : ℕ) → after_lines x (flat_map (method_line names classes seen) ms) ≡ x
  method_none names classes seen [] x = refl
  method_none names classes seen (m ∷ ms) x =
      none_then x (method_line names classes seen m) (flat_map (method_line names classes seen) ms)
      (if_known (λ (ls : List TraceLine). after_lines x ls ≡ x) (list_any (λ y. m == y) seen) [] (line.Method (length seen + 1) (number_in classes (names.method_class m)) (names.method_name m) (names.method_descriptor m) ∷ []) (λ h. refl) (λ h. refl))
      ∙ method_none names classes seen ms x

  deaths_none : (ds : List (ℕ × ℕ)) (x : ℕ) → after_lines x (map (λ (d : ℕ × ℕ). line.Death d.0 d.1) ds) ≡ x
  deaths_none [] x = refl
  deaths_none (d ∷ ds) x = deaths_none ds x

  flush_none : (n : ℕ) (ds : List (ℕ × ℕ)) (x : ℕ) → after_lines x (flush_lines n ds) ≡ x
  flush_none n ds x = deaths_none ds x

  -- LINES OF RECORDS

  -- those of a record lead to what the line itself leads to
  record_after : (names : Names) (m : Mentions) (r : Record) (x : ℕ) → after_lines x (record_lines names m r) ≡ after_write x (write_by e o (line_of (with_mentions names m r) r))
  record_after names m r x =
      let now : Mentions = with_mentions names m r in
      let cs : List TraceLine = flat_map (class_line names m.classes) (classes_named_by names r) in
      let ms : List TraceLine = flat_map (method_line names now.classes m.methods) (methods_named_by r) in
      lines_both x (cs ++ ms) (line_of now r ∷ [])
      ∙ ap (λ (n : ℕ). after_lines n (line_of now r ∷ [])) (none_then x cs ms (class_none names m.classes (classes_named_by names r) x) ∙ method_none names now.classes m.methods (methods_named_by r) x)

  -- a U line of the event or before
  update_after : (object slot new event x : ℕ) → event ≤ e → after_write x (if (object == o) && nat_le event e then Some (slot, new) else None) ≡ (if (o == object) && (i == slot) then new else x)
  update_after object slot new event x le =
      ap (λ (b : Bool). after_write x (if (object == o) && b then Some (slot, new) else None)) (le-leb event e le)
      ∙ (ap (λ (b : Bool). after_write x (if b && true then Some (slot, new) else None)) (turned object o)
      ∙ (by (o == object) (slot == i) ∙ ap (λ (b : Bool). if (o == object) && b then new else x) (turned slot i)))
    where
      by : (a b : Bool) → (after_write x (if a && true then Some (slot, new) else None)) ≡ (if a && (slot == i) then new else x)
      by true b = refl
      by false b = refl

  -- .. and one of a later event
  update_late : (object slot new event x : ℕ) → e < event → after_write x (if (object == o) && nat_le event e then Some (slot, new) else None) ≡ x
  update_late object slot new event x lt =
      ap (λ (b : Bool). after_write x (if (object == o) && b then Some (slot, new) else None)) (lt-leb event e lt) ∙ by (object == o)
    where
      by : (a : Bool) → after_write x (if a && false then Some (slot, new) else None) ≡ x
      by true = refl
      by false = refl

  line_after : (f : ℕ → ℕ → ℕ) (m : Mentions) (r : Record) (k : ℕ) → IsOfEvent k r → k ≤ e → after_write (f o i) (write_by e o (line_of m r)) ≡ after_record f r o i
  line_after f m (Alloc event thread object class size elements) k is le = refl
  line_after f m (Update event thread object slot old new) k is le = update_after object slot new event (f o i) (omega (arith, is, le))
  line_after f m (Enter event thread method receiver) k is le = refl
  line_after f m (Exit event thread method) k is le = refl
  line_after f m (Unwind event thread method exception) k is le = refl

  line_late : (x : ℕ) (m : Mentions) (r : Record) (k : ℕ) → IsOfEvent k r → e < k → after_write x (write_by e o (line_of m r)) ≡ x
  line_late x m (Alloc event thread object class size elements) k is lt = refl
  line_late x m (Update event thread object slot old new) k is lt = update_late object slot new event x (omega (arith, is, lt))
  line_late x m (Enter event thread method receiver) k is lt = refl
  line_late x m (Exit event thread method) k is lt = refl
  line_late x m (Unwind event thread method exception) k is lt = refl

  records_after : (names : Names) (m : Mentions) (rs : List Record) (k : ℕ) (f : ℕ → ℕ → ℕ) → All (IsOfEvent k) rs → k ≤ e → after_lines (f o i) (lines_of names m rs) ≡ after_records f rs o i
  records_after names m [] k f all le = refl
  records_after names m (r ∷ rs) k f all le =
      let now : Mentions = with_mentions names m r in
      lines_both (f o i) (record_lines names m r) (lines_of names now rs)
      ∙ (ap (λ (n : ℕ). after_lines n (lines_of names now rs)) (record_after names m r (f o i) ∙ line_after f now r k (All-head (IsOfEvent k) r rs all) le)
      ∙ records_after names now rs k (after_record f r) (All-tail (IsOfEvent k) r rs all) le)

  records_late : (names : Names) (m : Mentions) (rs : List Record) (k : ℕ) (x : ℕ) → All (IsOfEvent k) rs → e < k → after_lines x (lines_of names m rs) ≡ x
  records_late names m [] k x all lt = refl
  records_late names m (r ∷ rs) k x all lt =
      let now : Mentions = with_mentions names m r in
      none_then x (record_lines names m r) (lines_of names now rs) (record_after names m r x ∙ line_late x now r k (All-head (IsOfEvent k) r rs all) lt)
      ∙ records_late names now rs k x (All-tail (IsOfEvent k) r rs all) lt

  -- THE HISTORY
  module _ {S : Type 0} (reached : Graph → ℕ → Bool) (given : Setting S) (start : S) (made : List Record) where
    abbrev dead : ℕ → List (ℕ × ℕ)
    dead n = deaths reached given start made n

    abbrev lines : ℕ → List TraceLine
    lines n = lines_to reached given start made n

    abbrev records : ℕ → List Record
    records n = records_at reached given start made n

    abbrev told : ℕ → ℕ → ℕ → ℕ
    told n = told_by reached given start made n

    abbrev new_lines : ℕ → List TraceLine
    new_lines n = lines_of given.names (mentions_to reached given start made n) (records (suc n))

    abbrev flush : ℕ → List TraceLine
    flush n = if is_flush_point given.interval n then flush_lines n (dead n) else []

    maybe_none : (n x : ℕ) → after_lines x (flush n) ≡ x
    maybe_none n x = if_known (λ (ls : List TraceLine). after_lines x ls ≡ x) (is_flush_point given.interval n) (flush_lines n (dead n)) [] (λ due. flush_none n (dead n) x) (λ none. refl)

    lines_next : (n x : ℕ) → after_lines x (lines (suc n)) ≡ after_lines (after_lines x (lines n)) (new_lines n)
    unfolding lines_to
    lines_next n x =
        lines_both x (lines n ++ flush n) (new_lines n)
        ∙ ap (λ (y : ℕ). after_lines y (new_lines n)) (lines_both x (lines n) (flush n) ∙ maybe_none n (after_lines x (lines n)))

    -- up to the event the lines tell what the records tell
    lines_tell : (n : ℕ) → n ≤ e → ((k : ℕ) → k ≤ n → All (IsOfEvent k) (records k)) → after_lines 0 (lines n) ≡ told n o i
    unfolding lines_to told_by
    lines_tell zero le all = records_after given.names nothing_mentioned made 0 (λ o i. 0) (all 0 (omega arith)) (omega arith)
    lines_tell (suc n) le all =
        lines_next n 0
        ∙ (ap (λ (x : ℕ). after_lines x (new_lines n)) (lines_tell n (omega (arith, le)) (λ k within. all k (omega (arith, within))))
        ∙ records_after given.names (mentions_to reached given start made n) (records (suc n)) (suc n) (told n) (all (suc n) (omega arith)) le)

    -- .. and later ones tell nothing more
    lines_stay : (n : ℕ) → ((k : ℕ) → k ≤ e + n → All (IsOfEvent k) (records k)) → after_lines 0 (lines (e + n)) ≡ after_lines 0 (lines e)
    lines_stay zero all = let same : e + 0 ≡ e = omega arith in ap (λ (k : ℕ). after_lines 0 (lines k)) same
    lines_stay (suc n) all =
        let same : e + suc n ≡ suc (e + n) = omega arith in
        ap (λ (k : ℕ). after_lines 0 (lines k)) same
        ∙ (lines_next (e + n) 0
        ∙ (records_late given.names (mentions_to reached given start made (e + n)) (records (suc (e + n))) (suc (e + n)) (after_lines 0 (lines (e + n))) (all (suc (e + n)) (omega arith)) (omega arith)
        ∙ lines_stay n (λ k within. all k (omega (arith, within)))))

    pub content_told : (n : ℕ) (end : End) → ((k : ℕ) → k ≤ e + n → All (IsOfEvent k) (records k)) → content (trace_of reached given start made (e + n) end) e o i ≡ told e o i
    content_told n end all =
        let last : ℕ = e + n in
        content_is (lines last ++ flush_lines last (dead last) ++ line.Finish last (how_of end) ∷ [])
        ∙ (lines_both 0 (lines last ++ flush_lines last (dead last)) (line.Finish last (how_of end) ∷ [])
        ∙ (lines_both 0 (lines last) (flush_lines last (dead last))
        ∙ (flush_none last (dead last) (after_lines 0 (lines last))
        ∙ (lines_stay n all ∙ lines_tell e (omega arith) (λ k within. all k (omega (arith, within)))))))
