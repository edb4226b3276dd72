-- The D lines of a trace are those of the deaths that its flushes tell.
use Rattle.std.proofs.Common.{◌≡◌, ℕ, zero, suc, ◌+◌, ◌<◌, ◌==◌, ◌⊎◌, Bool, true, List, [], ◌∷◌, ◌++◌, Contains, sym, ◌∙◌, ap, subst, inl, inr, arith}
use Rattle.std.specs.Prelude.{if◌then◌else◌, map, length}
use Rattle.std.specs.List.{flat_map, list_any}
use Rattle.std.proofs.lemmas.Bool.{cases_eq, false≢true}
use Rattle.std.proofs.lemmas.List.Elements.{Contains-append_left, Contains-append_right, Contains-append_cases}
use Rattle.et_base.specs.declared.line.TraceLine.{TraceLine}
use Rattle.et_base.specs.declared.line.TraceLine.TheVariants as line
use Rattle.et_base.specs.declared.value.End.{End}
use Rattle.et_base.proofs.Lists.{Contains-none, Contains-here, Contains-there, Contains-cons, pair_from}
use Rattle.et_graph.specs.Graph.{Graph}
use Rattle.et_state.specs.declared.records.Record.{Record}
use Rattle.et_state.specs.declared.records.Record.TheVariants.{Alloc, Update, Enter, Exit, Unwind}
use Rattle.et_state.specs.History.{Setting, is_flush_point, flush_lines, lines_to, mentions_to, records_at, deaths, trace_of, how_of}
use Rattle.et_state.specs.Naming.{Names, Mentions, nothing_mentioned, with_mentions, class_line, method_line, classes_named_by, methods_named_by, number_in, line_of, record_lines, lines_of}
use Rattle.et_text.specs.Ranges.{header_version}
use Rattle.et_history.proofs.Reporting.{if_known}

object_of : TraceLine → ℕ → ℕ
object_of (line.Death object time) other = object
object_of _ other = other

time_of : TraceLine → ℕ → ℕ
time_of (line.Death object time) other = time
time_of _ other = other

same_object : (a s b t : ℕ) → line.Death a s ≡ line.Death b t → a ≡ b
unfolding object_of
same_object a s b t e = ap (λ l. object_of l a) e

same_time : (a s b t : ℕ) → line.Death a s ≡ line.Death b t → s ≡ t
unfolding time_of
same_time a s b t e = ap (λ l. time_of l s) e

IsDeath : TraceLine → Type 0
IsDeath (line.Death object time) = Unit {0}
IsDeath _ = ⊥

module _ (o time : ℕ) where
  abbrev it : TraceLine
  it = line.Death o time

  abbrev Without : List TraceLine → Type 0
  Without ls = Contains ls it → ⊥

  without_one : (l : TraceLine) → (IsDeath l → ⊥) → Without (l ∷ [])
  unfolding IsDeath
  without_one l ne c = elim (Contains-cons l [] it c) [ inl same ↦ ne (subst IsDeath (sym same) tt) | inr more ↦ Contains-none it more ]

  without_both : (xs ys : List TraceLine) → Without xs → Without ys → Without (xs ++ ys)
  without_both xs ys f g c = elim (Contains-append_cases xs ys it c) [ inl a ↦ f a | inr b ↦ g b ]

  without_flat : {X : Type 0} (f : X → List TraceLine) (xs : List X) → ((x : X) → Without (f x)) → Without (flat_map f xs)
  without_flat f [] h = Contains-none it
  without_flat f (x ∷ xs) h = without_both (f x) (flat_map f xs) (h x) (without_flat f xs h)

  -- LINES OF RECORDS

  unless : (b : Bool) (l : TraceLine) → (IsDeath l → ⊥) → Without (if b then [] else l ∷ [])
  unless b l ne = if_known Without b [] (l ∷ []) (λ h. Contains-none it) (λ h. without_one l ne)

  without_class : (names : Names) (seen : List ℕ) (c : ℕ) → Without (class_line names seen c)
  unfolding IsDeath
  without_class names seen c = unless (list_any (λ y. c == y) seen) (line.Class (length seen + 1) (names.class_name c)) (λ h. h)

  without_method : (names : Names) (classes seen : List ℕ) (m : ℕ) → Without (method_line names classes seen m)
  unfolding IsDeath
  without_method names classes seen m =
      unless (list_any (λ y. m == y) seen) (line.Method (length seen + 1) (number_in classes (names.method_class m)) (names.method_name m) (names.method_descriptor m)) (λ h. h)

  without_line : (m : Mentions) (r : Record) → Without (line_of m r ∷ [])
  unfolding IsDeath
  without_line m (Alloc event thread object class size elements) = without_one _ (λ h. h)
  without_line m (Update event thread object slot old new) = without_one _ (λ h. h)
  without_line m (Enter event thread method receiver) = without_one _ (λ h. h)
  without_line m (Exit event thread method) = without_one _ (λ h. h)
  without_line m (Unwind event thread method exception) = without_one _ (λ h. h)

  without_lines : (names : Names) (m : Mentions) (rs : List Record) → Without (lines_of names m rs)
  without_lines names m [] = Contains-none it
  without_lines names m (r ∷ rs) =
      let now : Mentions = with_mentions names m r in
      let cs : List TraceLine = flat_map (class_line names m.classes) (classes_named_by names r) in
      let ms : List TraceLine = flat_map (method_line names now.classes m.methods) (methods_named_by r) in
      without_both (record_lines names m r) (lines_of names now rs)
      (without_both (cs ++ ms) (line_of now r ∷ [])
      (without_both cs ms (without_flat (class_line names m.classes) (classes_named_by names r) (without_class names m.classes)) (without_flat (method_line names now.classes m.methods) (methods_named_by r) (without_method names now.classes m.methods)))
      (without_line now r))
      (without_lines names now rs)

  -- LINES OF A FLUSH

  abbrev death_lines : List (ℕ × ℕ) → List TraceLine
  death_lines ds = map (λ (d : ℕ × ℕ). line.Death d.0 d.1) ds

  told_in : (ds : List (ℕ × ℕ)) → Contains (death_lines ds) it → Contains ds (o, time)
  told_in [] c = absurd (Contains-none it c)
  told_in (d ∷ ds) c =
      elim (Contains-cons (line.Death d.0 d.1) (death_lines ds) it c) [
        | inl same ↦ subst (λ (q : ℕ × ℕ). Contains (d ∷ ds) q) (pair_from d (o, time) (same_object d.0 d.1 o time same) (same_time d.0 d.1 o time same)) (Contains-here d ds)
        | inr more ↦ Contains-there d ds (o, time) (told_in ds more)
      ]

  in_told : (ds : List (ℕ × ℕ)) → Contains ds (o, time) → Contains (death_lines ds) it
  in_told [] c = absurd (Contains-none (o, time) c)
  in_told (d ∷ ds) c =
      elim (Contains-cons d ds (o, time) c) [
        | inl same ↦ subst (λ (q : ℕ × ℕ). Contains (death_lines (d ∷ ds)) (line.Death q.0 q.1)) same (Contains-here (line.Death d.0 d.1) (death_lines ds))
        | inr more ↦ Contains-there (line.Death d.0 d.1) (death_lines ds) it (in_told ds more)
      ]

  told_flush : (e : ℕ) (ds : List (ℕ × ℕ)) → Contains (flush_lines e ds) it → Contains ds (o, time)
  unfolding IsDeath
  told_flush e ds c =
      elim (Contains-cons (line.Flush e (length ds)) (death_lines ds) it c) [
        | inl same ↦ absurd (subst IsDeath (sym same) tt)
        | inr more ↦ told_in ds more
      ]

  flush_told : (e : ℕ) (ds : List (ℕ × ℕ)) → Contains ds (o, time) → Contains (flush_lines e ds) it
  flush_told e ds c = Contains-there (line.Flush e (length ds)) (death_lines ds) it (in_told ds c)

  module _ {S : Type 0} (reached : Graph → ℕ → Bool) (given : Setting S) (start : S) (made : List Record) where
    abbrev dead : ℕ → List (ℕ × ℕ)
    dead n = deaths reached given start made n

    abbrev lines : ℕ → List TraceLine
    lines n = lines_to reached given start made n

    abbrev new_lines : ℕ → List TraceLine
    new_lines n = lines_of given.names (mentions_to reached given start made n) (records_at reached given start made (suc n))

    abbrev flush : ℕ → List TraceLine
    flush n = if is_flush_point given.interval n then flush_lines n (dead n) else []

    -- a flush before event n told the death
    abbrev pub IsToldBefore : ℕ → Type 0
    IsToldBefore n = (f : ℕ) × (f < n) × (is_flush_point given.interval f ≡ true) × Contains (dead f) (o, time)

    later : (n : ℕ) → IsToldBefore n → IsToldBefore (suc n)
    later n l = (l.0, (let lt = l.1 in omega (arith, lt)), l.2, l.3)

    due_told : (n : ℕ) → Contains (flush n) it → (is_flush_point given.interval n ≡ true) × Contains (dead n) (o, time)
    due_told n =
        if_known (λ (ls : List TraceLine). Contains ls it → (is_flush_point given.interval n ≡ true) × Contains (dead n) (o, time)) (is_flush_point given.interval n) (flush_lines n (dead n)) []
        (λ due c. (due, told_flush n (dead n) c)) (λ none c. absurd (Contains-none it c))

    told_due : (n : ℕ) → is_flush_point given.interval n ≡ true → Contains (dead n) (o, time) → Contains (flush n) it
    told_due n due c =
        if_known (λ (ls : List TraceLine). Contains ls it) (is_flush_point given.interval n) (flush_lines n (dead n)) []
        (λ is. flush_told n (dead n) c) (λ none. absurd (false≢true (sym none ∙ due)))

    told_lines : (n : ℕ) → Contains (lines n) it → IsToldBefore n
    unfolding lines_to IsDeath
    told_lines zero c =
        elim (Contains-cons (line.Header (header_version given.format) given.interval) (lines_of given.names nothing_mentioned made) it c) [
          | inl same ↦ absurd (subst IsDeath (sym same) tt)
          | inr more ↦ absurd (without_lines given.names nothing_mentioned made more)
        ]
    told_lines (suc n) c =
        elim (Contains-append_cases (lines n ++ flush n) (new_lines n) it c) [
          | inl old ↦ elim (Contains-append_cases (lines n) (flush n) it old) [
            | inl before ↦ later n (told_lines n before)
            | inr now ↦ let l = due_told n now in (n, omega arith, l.0, l.1)
          ]
          | inr new ↦ absurd (without_lines given.names (mentions_to reached given start made n) (records_at reached given start made (suc n)) new)
        ]

    lines_told : (n f : ℕ) → f < n → is_flush_point given.interval f ≡ true → Contains (dead f) (o, time) → Contains (lines n) it
    unfolding lines_to
    lines_told zero f lt due c = absurd (omega (arith, lt))
    lines_told (suc n) f lt due c =
        Contains-append_left (lines n ++ flush n) (new_lines n) it
        (elim (cases_eq f n) [
          | inl same ↦ Contains-append_right (lines n) (flush n) it (told_due n (subst (λ (k : ℕ). is_flush_point given.interval k ≡ true) same due) (subst (λ (k : ℕ). Contains (dead k) (o, time)) same c))
          | inr ne ↦ Contains-append_left (lines n) (flush n) it (lines_told n f (omega (arith, lt, ne)) due c)
        ])

    -- THE TRACE, at whose end stands a flush
    abbrev finish : ℕ → End → List TraceLine
    finish last end = line.Finish last (how_of end) ∷ []

    pub told_trace : (last : ℕ) (end : End) → Contains (trace_of reached given start made last end) it → IsToldBefore last ⊎ Contains (dead last) (o, time)
    unfolding IsDeath
    told_trace last end c =
        elim (Contains-append_cases (lines last ++ flush_lines last (dead last)) (finish last end) it c) [
          | inl old ↦ elim (Contains-append_cases (lines last) (flush_lines last (dead last)) it old) [
            | inl before ↦ inl (told_lines last before)
            | inr now ↦ inr (told_flush last (dead last) now)
          ]
          | inr new ↦ absurd (without_one (line.Finish last (how_of end)) (λ h. h) new)
        ]

    pub trace_told : (last : ℕ) (end : End) → IsToldBefore last → Contains (trace_of reached given start made last end) it
    trace_told last end l =
        Contains-append_left (lines last ++ flush_lines last (dead last)) (finish last end) it
        (Contains-append_left (lines last) (flush_lines last (dead last)) it (lines_told last l.0 l.1 l.2 l.3))

    pub trace_ends : (last : ℕ) (end : End) → Contains (dead last) (o, time) → Contains (trace_of reached given start made last end) it
    trace_ends last end c =
        Contains-append_left (lines last ++ flush_lines last (dead last)) (finish last end) it
        (Contains-append_right (lines last) (flush_lines last (dead last)) it (flush_told last (dead last) c))
