-- What a sink took of lines that are gathered in a buffer, behind what was in it, and put in pieces.
use Rattle.std.proofs.Common.{◌≡◌, ℕ, ◌+◌, ◌<◌, ◌≤◌, List, [], ◌∷◌, ◌++◌, length, take, drop, get_or, map, sym, ◌∙◌, ap, subst, append_assoc, append-nil, Bool, true, false, not, refl}
use Rattle.std.proofs.lemmas.Grind.{flat_map-append}
use Rattle.std.proofs.lemmas.List.{length-map, map-append, take_all, take_more, take-append-drop}
use Rattle.et_base.specs.declared.format.Format.{Format}
use Rattle.et_base.specs.declared.line.TraceLine.{TraceLine}
use Rattle.et_base.specs.declared.line.TraceLine.TheVariants.{Flush, Death, Finish}
use Rattle.et_base.specs.declared.value.End.{End}
use Rattle.et_graph.specs.declared.objects.Death as graph
use Rattle.et_graph.specs.Listing.{death_pairs}
use Rattle.et_io.specs.Sink.{Log, TakesUpTo, TakesPrefix}
use Rattle.et_io.proofs.Taking.{gathers, goes_on, longer, part_put, takes_no_more}
use Rattle.et_state.specs.History.{flush_lines, how_of}
use Rattle.et_binary.specs.Formats.{written_in, lines_written_in}
use Rattle.et_loop.specs.Run.{due_lines, last_lines}

-- IN SEVERAL PUTS

-- what is gathered behind the rest is put
pub takes_after : (old mid new : Log) (whole rest more left : List ℕ) → TakesUpTo old mid whole rest → TakesUpTo mid new (rest ++ more) left → TakesUpTo old new (whole ++ more) left
takes_after old mid new whole rest more left a b = goes_on old mid new (whole ++ more) (rest ++ more) left (gathers old mid whole rest more a) b

pub prefix_after : (old mid new : Log) (whole rest more : List ℕ) → TakesUpTo old mid whole rest → TakesPrefix mid new (rest ++ more) → TakesPrefix old new (whole ++ more)
prefix_after old mid new whole rest more a b = part_put old mid new (whole ++ more) (rest ++ more) (gathers old mid whole rest more a) b

-- THE LINES OF A FLUSH

module _ (f : Format) (e : ℕ) (deaths : List graph.Death) where
  abbrev line_of : ℕ × ℕ → TraceLine
  line_of d = Death d.0 d.1

  abbrev line_at : graph.Death → TraceLine
  line_at d = line_of (d.object, d.time)

  -- the F line and the D lines of the first i deaths
  abbrev pub lines_up_to : ℕ → List ℕ
  lines_up_to i = lines_written_in f (Flush e (length deaths) ∷ map line_of (death_pairs (take i deaths)))

  -- as many deaths in two lists
  two_parts : (a b : List graph.Death) → lines_written_in f (Flush e (length deaths) ∷ map line_of (death_pairs (a ++ b))) ≡ lines_written_in f (Flush e (length deaths) ∷ map line_of (death_pairs a)) ++ lines_written_in f (map line_of (death_pairs b))
  two_parts a b =
      ap (λ (ds : List (ℕ × ℕ)). lines_written_in f (Flush e (length deaths) ∷ map line_of ds)) (map-append (λ (d : graph.Death). (d.object, d.time)) a b)
      ∙ (ap (λ (ls : List TraceLine). lines_written_in f (Flush e (length deaths) ∷ ls)) (map-append line_of (death_pairs a) (death_pairs b))
      ∙ flat_map-append (written_in f) (Flush e (length deaths) ∷ map line_of (death_pairs a)) (map line_of (death_pairs b)))

  -- the first line
  pub first_line : lines_up_to 0 ≡ written_in f (Flush e (length deaths))
  first_line = append-nil (written_in f (Flush e (length deaths)))

  -- the next one
  pub next_line : (i : ℕ) (d : graph.Death) → i < length deaths → lines_up_to (i + 1) ≡ lines_up_to i ++ written_in f (line_at (get_or deaths i d))
  next_line i d lt =
      ap (λ (ds : List graph.Death). lines_written_in f (Flush e (length deaths) ∷ map line_of (death_pairs ds))) (take_more deaths i d lt)
      ∙ (two_parts (take i deaths) (get_or deaths i d ∷ []) ∙ ap (λ (t : List ℕ). lines_up_to i ++ t) (append-nil (written_in f (line_at (get_or deaths i d)))))

  -- all of them
  pub no_line_more : (i : ℕ) → length deaths ≤ i → lines_up_to i ≡ lines_written_in f (flush_lines e (death_pairs deaths))
  no_line_more i le =
      ap (λ (ds : List graph.Death). lines_written_in f (Flush e (length deaths) ∷ map line_of (death_pairs ds))) (take_all i deaths le)
      ∙ ap (λ (n : ℕ). lines_written_in f (Flush e n ∷ map line_of (death_pairs deaths))) (sym (length-map {B = ℕ × ℕ} deaths (λ (d : graph.Death). (d.object, d.time))))

  lines_split : (i : ℕ) → lines_written_in f (flush_lines e (death_pairs deaths)) ≡ lines_up_to i ++ lines_written_in f (map line_of (death_pairs (drop i deaths)))
  lines_split i =
      ap (λ (n : ℕ). lines_written_in f (Flush e n ∷ map line_of (death_pairs deaths))) (length-map {B = ℕ × ℕ} deaths (λ (d : graph.Death). (d.object, d.time)))
      ∙ (ap (λ (ds : List graph.Death). lines_written_in f (Flush e (length deaths) ∷ map line_of (death_pairs ds))) (sym (take-append-drop i deaths)) ∙ two_parts (take i deaths) (drop i deaths))

  module _ (front : List ℕ) (old mid : Log) (gathered : List ℕ) (i : ℕ) (up : TakesUpTo old mid (front ++ lines_up_to i) gathered) where
    -- the next line is gathered, and a piece may be put
    pub death_put : (d : graph.Death) (new : Log) (more left : List ℕ) → i < length deaths → more ≡ gathered ++ written_in f (line_at (get_or deaths i d)) → TakesUpTo mid new more left → TakesUpTo old new (front ++ lines_up_to (i + 1)) left
    death_put d new more left lt e b =
        let line : List ℕ = written_in f (line_at (get_or deaths i d)) in
        subst (λ (t : List ℕ). TakesUpTo old new t left) (append_assoc front (lines_up_to i) line ∙ ap (λ (t : List ℕ). front ++ t) (sym (next_line i d lt)))
        (takes_after old mid new (front ++ lines_up_to i) gathered line left up (subst (λ (t : List ℕ). TakesUpTo mid new t left) e b))

    -- a part of the lines is a part of all
    pub deaths_stop : TakesPrefix old mid (front ++ lines_written_in f (flush_lines e (death_pairs deaths)))
    deaths_stop =
        let rest : List ℕ = lines_written_in f (map line_of (death_pairs (drop i deaths))) in
        subst (λ (t : List ℕ). TakesPrefix old mid t) (append_assoc front (lines_up_to i) rest ∙ ap (λ (t : List ℕ). front ++ t) (sym (lines_split i)))
        (longer old mid (front ++ lines_up_to i) rest (takes_no_more old mid (front ++ lines_up_to i) gathered up))

  -- .. which is not put
  pub death_fails : (front : List ℕ) (old mid : Log) (gathered : List ℕ) (i : ℕ) → TakesUpTo old mid (front ++ lines_up_to i) gathered
      → (d : graph.Death) (new : Log) (more : List ℕ) → i < length deaths → more ≡ gathered ++ written_in f (line_at (get_or deaths i d)) → TakesPrefix mid new more → TakesPrefix old new (front ++ lines_written_in f (flush_lines e (death_pairs deaths)))
  death_fails front old mid gathered i up d new more lt e b =
      let line : List ℕ = written_in f (line_at (get_or deaths i d)) in
      let rest : List ℕ = lines_written_in f (map line_of (death_pairs (drop (i + 1) deaths))) in
      let next : TakesPrefix old new (front ++ lines_up_to (i + 1)) =
      subst (λ (t : List ℕ). TakesPrefix old new t) (append_assoc front (lines_up_to i) line ∙ ap (λ (t : List ℕ). front ++ t) (sym (next_line i d lt)))
      (prefix_after old mid new (front ++ lines_up_to i) gathered line up (subst (λ (t : List ℕ). TakesPrefix mid new t) e b)) in
      subst (λ (t : List ℕ). TakesPrefix old new t) (append_assoc front (lines_up_to (i + 1)) rest ∙ ap (λ (t : List ℕ). front ++ t) (sym (lines_split (i + 1))))
      (longer old new (front ++ lines_up_to (i + 1)) rest next)

-- THE LAST LINES

-- the Z line follows a flush, unless there was one before
pub last_written : (f : Format) (due : Bool) (end : End) (e : ℕ) (lines : List TraceLine) → lines_written_in f (last_lines due end e lines) ≡ lines_written_in f (due_lines (not due) lines) ++ written_in f (Finish e (how_of end))
last_written f true end e lines = append-nil (written_in f (Finish e (how_of end)))
last_written f false end e lines = flat_map-append (written_in f) lines (Finish e (how_of end) ∷ []) ∙ ap (λ (t : List ℕ). lines_written_in f lines ++ t) (append-nil (written_in f (Finish e (how_of end))))

module _ (f : Format) (due : Bool) (end : End) (e : ℕ) (front : List ℕ) (old new : Log) (lines : List TraceLine) where
  abbrev z_line : List ℕ
  z_line = written_in f (Finish e (how_of end))

  last_of : (bytes : List ℕ) → bytes ≡ lines_written_in f (due_lines (not due) lines) → (front ++ bytes) ++ z_line ≡ front ++ lines_written_in f (last_lines due end e lines)
  last_of bytes is = append_assoc front bytes z_line ∙ ap (λ (t : List ℕ). front ++ t) (ap (λ (t : List ℕ). t ++ z_line) is ∙ sym (last_written f due end e lines))

  -- a part of the flush is a part of the last lines
  pub flush_stops : TakesPrefix old new (front ++ lines_written_in f (due_lines (not due) lines)) → TakesPrefix old new (front ++ lines_written_in f (last_lines due end e lines))
  flush_stops a = subst (λ (t : List ℕ). TakesPrefix old new t) (last_of (lines_written_in f (due_lines (not due) lines)) refl) (longer old new (front ++ lines_written_in f (due_lines (not due) lines)) z_line a)
