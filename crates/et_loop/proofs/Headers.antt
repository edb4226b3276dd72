-- The lines of a history begin with the header and have no other, so what is written of each is the trace.
use Rattle.std.proofs.Common.{◌≡◌, ℕ, zero, suc, Bool, true, false, if◌then◌else◌, List, [], ◌∷◌, ◌++◌, length, map, refl, sym, ◌∙◌, ap, append_assoc}
use Rattle.std.specs.Prelude.{flat_map}
use Rattle.std.proofs.lemmas.Grind.{flat_map-append}
use Rattle.et_base.specs.declared.format.Format.{Format}
use Rattle.et_base.specs.declared.format.Format.TheVariants as formats
use Rattle.et_base.specs.declared.line.TraceLine.{TraceLine}
use Rattle.et_base.specs.declared.line.TraceLine.TheVariants.{Header, Class, Method, Flush, Death, Finish}
use Rattle.et_base.specs.declared.value.End.{End}
use Rattle.et_graph.specs.Graph.{Graph}
use Rattle.et_state.specs.declared.records.Record.{Record}
use Rattle.et_state.specs.declared.records.Record.TheVariants.{Alloc, Update, Enter, Exit, Unwind}
use Rattle.et_state.specs.Naming.{Names, Mentions, nothing_mentioned, with_mentions, class_line, method_line, classes_named_by, methods_named_by, line_of, record_lines, lines_of}
use Rattle.et_state.specs.History.{Setting, is_flush_point, flush_lines, how_of, records_at, deaths, mentions_to, lines_to, trace_of}
use Rattle.et_text.specs.Ranges.{header_version}
use Rattle.et_binary.specs.Packing.{packing, opening, pack, written_record}
use Rattle.et_binary.specs.Formats.{lines_written_in, trace_bytes}

-- LINES BEHIND THE HEADER: what is written of each is its record

abbrev IsBehind : List TraceLine → Type 0
IsBehind lines = flat_map written_record lines ≡ flat_map packing lines

behind_both : (a b : List TraceLine) → IsBehind a → IsBehind b → IsBehind (a ++ b)
behind_both a b h g =
    flat_map-append written_record a b
    ∙ (ap (λ t. t ++ flat_map written_record b) h
    ∙ (ap (λ t. flat_map packing a ++ t) g ∙ sym (flat_map-append packing a b)))

behind_one : (line : TraceLine) (lines : List TraceLine) → written_record line ≡ packing line → IsBehind lines → IsBehind (line ∷ lines)
behind_one line lines e h = ap (λ t. t ++ flat_map written_record lines) e ∙ ap (λ t. packing line ++ t) h

behind_if : (b : Bool) (lines : List TraceLine) → IsBehind lines → IsBehind (if b then [] else lines)
behind_if true lines h = refl
behind_if false lines h = h

behind_where : (b : Bool) (lines : List TraceLine) → IsBehind lines → IsBehind (if b then lines else [])
behind_where true lines h = h
behind_where false lines h = refl

behind_each : {X : Type 0} (f : X → List TraceLine) (xs : List X) → ((x : X) → IsBehind (f x)) → IsBehind (flat_map f xs)
behind_each f [] h = refl
behind_each f (x ∷ xs) h = behind_both (f x) (flat_map f xs) (h x) (behind_each f xs h)

class_behind : (names : Names) (seen : List ℕ) (c : ℕ) → IsBehind (class_line names seen c)
class_behind names seen c = behind_if _ (Class _ _ ∷ []) (behind_one (Class _ _) [] refl refl)

method_behind : (names : Names) (classes seen : List ℕ) (m : ℕ) → IsBehind (method_line names classes seen m)
method_behind names classes seen m = behind_if _ (Method _ _ _ _ ∷ []) (behind_one (Method _ _ _ _) [] refl refl)

record_behind : (m : Mentions) (r : Record) → written_record (line_of m r) ≡ packing (line_of m r)
record_behind m (Alloc event thread object class size length) = refl
record_behind m (Update event thread object slot old new) = refl
record_behind m (Enter event thread method receiver) = refl
record_behind m (Exit event thread method) = refl
record_behind m (Unwind event thread method exception) = refl

records_behind : (names : Names) (m : Mentions) (rs : List Record) → IsBehind (lines_of names m rs)
records_behind names m [] = refl
records_behind names m (r ∷ rs) =
    let after = with_mentions names m r in
    let classes : List TraceLine = flat_map (class_line names m.classes) (classes_named_by names r) in
    let methods : List TraceLine = flat_map (method_line names after.classes m.methods) (methods_named_by r) in
    let first : IsBehind (record_lines names m r) =
    behind_both (classes ++ methods) (line_of after r ∷ [])
    (behind_both classes methods (behind_each (class_line names m.classes) (classes_named_by names r) (class_behind names m.classes)) (behind_each (method_line names after.classes m.methods) (methods_named_by r) (method_behind names after.classes m.methods)))
    (behind_one (line_of after r) [] (record_behind after r) refl) in
    behind_both (record_lines names m r) (lines_of names after rs) first (records_behind names after rs)

deaths_behind : (ds : List (ℕ × ℕ)) → IsBehind (map (λ d. Death d.0 d.1) ds)
deaths_behind [] = refl
deaths_behind (d ∷ ds) = behind_one (Death d.0 d.1) (map (λ d. Death d.0 d.1) ds) refl (deaths_behind ds)

flush_behind : (e : ℕ) (ds : List (ℕ × ℕ)) → IsBehind (flush_lines e ds)
flush_behind e ds = behind_one (Flush e (length ds)) (map (λ d. Death d.0 d.1) ds) refl (deaths_behind ds)

-- LINES FROM THE HEADER ON: what is written of them is the trace

abbrev IsWhole : Format → List TraceLine → Type 0
IsWhole f lines = lines_written_in f lines ≡ trace_bytes f lines

whole_first : (f : Format) (version interval : ℕ) (lines : List TraceLine) → IsBehind lines → IsWhole f (Header version interval ∷ lines)
whole_first formats.Text version interval lines h = refl
whole_first formats.Binary version interval lines h =
    append_assoc opening (packing (Header version interval)) (flat_map written_record lines) ∙ ap (λ t. opening ++ (packing (Header version interval) ++ t)) h

whole_more : (f : Format) (lines more : List TraceLine) → IsWhole f lines → IsBehind more → IsWhole f (lines ++ more)
whole_more formats.Text lines more h g = refl
whole_more formats.Binary lines more h g =
    flat_map-append written_record lines more
    ∙ (ap (λ t. t ++ flat_map written_record more) h
    ∙ (ap (λ t. pack lines ++ t) g
    ∙ (append_assoc opening (flat_map packing lines) (flat_map packing more) ∙ ap (λ t. opening ++ t) (sym (flat_map-append packing lines more)))))

module _ {S : Type 0} (reached : Graph → ℕ → Bool) (given : Setting S) (start : S) (made : List Record) where
  pub lines_whole : (f : Format) (e : ℕ) → lines_written_in f (lines_to reached given start made e) ≡ trace_bytes f (lines_to reached given start made e)
  unfolding lines_to
  lines_whole f zero = whole_first f (header_version given.format) given.interval (lines_of given.names nothing_mentioned made) (records_behind given.names nothing_mentioned made)
  lines_whole f (suc e) =
      let flush : List TraceLine = flush_lines e (deaths reached given start made e) in
      let records : List TraceLine = lines_of given.names (mentions_to reached given start made e) (records_at reached given start made (suc e)) in
      whole_more f (lines_to reached given start made e ++ (if is_flush_point given.interval e then flush else [])) records
      (whole_more f (lines_to reached given start made e) (if is_flush_point given.interval e then flush else []) (lines_whole f e) (behind_where (is_flush_point given.interval e) flush (flush_behind e (deaths reached given start made e))))
      (records_behind given.names (mentions_to reached given start made e) (records_at reached given start made (suc e)))

  pub trace_whole : (f : Format) (e : ℕ) (end : End) → lines_written_in f (trace_of reached given start made e end) ≡ trace_bytes f (trace_of reached given start made e end)
  trace_whole f e end =
      let flush : List TraceLine = flush_lines e (deaths reached given start made e) in
      whole_more f (lines_to reached given start made e ++ flush) (Finish e (how_of end) ∷ [])
      (whole_more f (lines_to reached given start made e) flush (lines_whole f e) (flush_behind e (deaths reached given start made e)))
      (behind_one (Finish e (how_of end)) [] refl refl)
