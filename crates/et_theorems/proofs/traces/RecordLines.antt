-- The lines of records keep the rules.
use Rattle.std.proofs.Common.{◌≡◌, ℕ, ◌+◌, ◌<◌, ◌≤◌, ◌^◌, ◌==◌, Bool, true, false, List, [], ◌∷◌, ◌++◌, refl, sym, ◌∙◌, ap, subst, arith}
use Rattle.std.specs.Prelude.{if◌then◌else◌}
use Rattle.std.specs.List.{list_any, flat_map}
use Rattle.et_base.specs.declared.line.TraceLine.{TraceLine}
use Rattle.et_base.specs.declared.line.TraceLine.TheVariants as line
use Rattle.et_state.specs.Naming.{Names, Mentions, number_in, with_new, class_line, method_line, with_mentions, mentions_after, record_lines, lines_of}
use Rattle.et_state.specs.Naming as naming
use Rattle.et_state.specs.declared.records.Record.{Record}
use Rattle.et_state.specs.declared.records.Record.TheVariants.{Alloc, Update, Enter, Exit, Unwind}
use Rattle.et_history.specs.steps.Records.{next_after}
use Rattle.et_theorems.proofs.traces.Numbering.{AreTellable, IsIn, in_last}
use Rattle.et_theorems.proofs.traces.Standing.{behind, behind_both, Stands, IsNamed, stands_class, stands_method, stands_alloc, stands_update, stands_enter, stands_exit, stands_unwind}

in_now : (seen : List ℕ) (x : ℕ) → IsIn (with_new seen x) x
in_now seen x = by (list_any (λ y. x == y) seen) refl
  where
    by : (b : Bool) → list_any (λ y. x == y) seen ≡ b → IsIn (if b then seen else seen ++ x ∷ []) x
    by true e = e
    by false e = in_last seen x

behind_three : (past xs ys : List TraceLine) (l : TraceLine) → behind past (xs ++ ys ++ l ∷ []) ≡ l ∷ behind (behind past xs) ys
behind_three past xs ys l = behind_both past (xs ++ ys) (l ∷ []) ∙ ap (λ (p : List TraceLine). l ∷ p) (behind_both past xs ys)

module _ (e : ℕ) (live : ℕ → Type 0) (last : ℕ → ℕ) where
  -- what a record of event e may be, where the object made next has this number
  abbrev pub MayBe : ℕ → Record → Type 0
  MayBe next (Alloc event thread object class size elements) =
      (event ≡ e) × (thread < 64) × (object ≡ next) × (next < 2 ^ 24) × (16 ≤ size) × (size ≤ 2 ^ 30) × (elements ≤ 2 ^ 26) × (e ≤ last next)
  MayBe next (Update event thread object slot old new) =
      (event ≡ e) × (thread < 64) × (slot < 2 ^ 28) × IsNamed next live object × IsNamed next live old × IsNamed next live new
  MayBe next (Enter event thread method receiver) = (event ≡ e) × (thread < 64) × IsNamed next live receiver
  MayBe next (Exit event thread method) = (event ≡ e) × (thread < 64)
  MayBe next (Unwind event thread method exception) = (event ≡ e) × (thread < 64) × (1 ≤ exception) × (exception < next) × live exception

module _ (names : Names) (e : ℕ) (live : ℕ → Type 0) (last : ℕ → ℕ) where
  -- records of event e, up to where the object made next has the number `end`
  abbrev pub AreTold : ℕ → List Record → ℕ → Type 0
  AreTold next [] end = next ≡ end
  AreTold next (r ∷ rs) end = MayBe e live last next r × naming.IsNamed names r × AreTold (next_after next r) rs end

module _ (names : Names) (fit : AreTellable names) (version every e : ℕ) (within : e ≤ 2 ^ 40) (live : ℕ → Type 0) (last : ℕ → ℕ) where
  abbrev At : ℕ → Mentions → List TraceLine → Type 0
  At next m past = Stands names version every e next live last m past

  -- the C and N lines of a record of a method
  mentioned : (next k : ℕ) (m : Mentions) (past : List TraceLine) → names.method_class k < names.class_count → k < names.method_count → At next m past
      → At next (record { classes = with_new m.classes (names.method_class k); methods = with_new m.methods k })
      (behind (behind past (flat_map (class_line names m.classes) (names.method_class k ∷ []))) (flat_map (method_line names (with_new m.classes (names.method_class k)) m.methods) (k ∷ [])))
  mentioned next k m past owner inside h =
      let c : ℕ = names.method_class k in
      stands_method names fit version every e within live last next k (record { classes = with_new m.classes c; methods = m.methods }) (behind past (flat_map (class_line names m.classes) (c ∷ []))) inside (in_now m.classes c)
      (stands_class names fit version every e within live last next c m past owner h)

  record_stands : (next : ℕ) (r : Record) (m : Mentions) (past : List TraceLine) → MayBe e live last next r → naming.IsNamed names r → At next m past → At (next_after next r) (with_mentions names m r) (behind past (record_lines names m r))
  record_stands next (Alloc event thread object class size elements) m past may named h =
      let now : Mentions = record { classes = with_new m.classes class; methods = m.methods } in
      let cs : List TraceLine = flat_map (class_line names m.classes) (class ∷ []) in
      let l : TraceLine = line.Alloc event thread object (number_in now.classes class) size elements in
      let a = stands_class names fit version every e within live last next class m past (named.classes 0 0 (omega arith)) h in
      let b : At (next + 1) now (line.Alloc e thread next (number_in now.classes class) size elements ∷ behind past cs) =
      stands_alloc names fit version every e within live last next thread class size elements now (behind past cs) may.1 may.3 may.4 may.5 may.6 may.7 (in_now m.classes class) a in
      subst (λ (p : List TraceLine). At (next + 1) now p) (sym (behind_three past cs [] l))
      (subst (λ (o : ℕ). At (next + 1) now (line.Alloc event thread o (number_in now.classes class) size elements ∷ behind past cs)) (sym may.2)
      (subst (λ (v : ℕ). At (next + 1) now (line.Alloc v thread next (number_in now.classes class) size elements ∷ behind past cs)) (sym may.0) b))
  record_stands next (Update event thread object slot old new) m past may named h =
      subst (λ (v : ℕ). At next m (line.Update v thread object slot old new ∷ past)) (sym may.0)
      (stands_update names fit version every e within live last next thread object slot old new m past may.1 may.2 may.3 may.4 may.5 h)
  record_stands next (Enter event thread method receiver) m past may named h =
      let now : Mentions = record { classes = with_new m.classes (names.method_class method); methods = with_new m.methods method } in
      let cs : List TraceLine = flat_map (class_line names m.classes) (names.method_class method ∷ []) in
      let ms : List TraceLine = flat_map (method_line names now.classes m.methods) (method ∷ []) in
      let a : At next now (behind (behind past cs) ms) = mentioned next method m past (named.classes 0 0 (omega arith)) (named.methods 0 0 (omega arith)) h in
      let b = stands_enter names fit version every e within live last next thread method receiver now (behind (behind past cs) ms) may.1 (in_now m.methods method) may.2 a in
      subst (λ (p : List TraceLine). At next now p) (sym (behind_three past cs ms (line.Enter event thread (number_in now.methods method) receiver)))
      (subst (λ (v : ℕ). At next now (line.Enter v thread (number_in now.methods method) receiver ∷ behind (behind past cs) ms)) (sym may.0) b)
  record_stands next (Exit event thread method) m past may named h =
      let now : Mentions = record { classes = with_new m.classes (names.method_class method); methods = with_new m.methods method } in
      let cs : List TraceLine = flat_map (class_line names m.classes) (names.method_class method ∷ []) in
      let ms : List TraceLine = flat_map (method_line names now.classes m.methods) (method ∷ []) in
      let a : At next now (behind (behind past cs) ms) = mentioned next method m past (named.classes 0 0 (omega arith)) (named.methods 0 0 (omega arith)) h in
      let b = stands_exit names fit version every e within live last next thread method now (behind (behind past cs) ms) may.1 (in_now m.methods method) a in
      subst (λ (p : List TraceLine). At next now p) (sym (behind_three past cs ms (line.Exit event thread (number_in now.methods method))))
      (subst (λ (v : ℕ). At next now (line.Exit v thread (number_in now.methods method) ∷ behind (behind past cs) ms)) (sym may.0) b)
  record_stands next (Unwind event thread method exception) m past may named h =
      let now : Mentions = record { classes = with_new m.classes (names.method_class method); methods = with_new m.methods method } in
      let cs : List TraceLine = flat_map (class_line names m.classes) (names.method_class method ∷ []) in
      let ms : List TraceLine = flat_map (method_line names now.classes m.methods) (method ∷ []) in
      let a : At next now (behind (behind past cs) ms) = mentioned next method m past (named.classes 0 0 (omega arith)) (named.methods 0 0 (omega arith)) h in
      let b = stands_unwind names fit version every e within live last next thread method exception now (behind (behind past cs) ms) may.1 (in_now m.methods method) may.2 (may.3, may.4) a in
      subst (λ (p : List TraceLine). At next now p) (sym (behind_three past cs ms (line.Unwind event thread (number_in now.methods method) exception)))
      (subst (λ (v : ℕ). At next now (line.Unwind v thread (number_in now.methods method) exception ∷ behind (behind past cs) ms)) (sym may.0) b)

  pub records_stand : (next end : ℕ) (rs : List Record) (m : Mentions) (past : List TraceLine) → AreTold names e live last next rs end → At next m past → At end (mentions_after names m rs) (behind past (lines_of names m rs))
  records_stand next end [] m past told h = subst (λ (n : ℕ). At n m past) told h
  records_stand next end (r ∷ rs) m past told h =
      let now : Mentions = with_mentions names m r in
      subst (λ (p : List TraceLine). At end (mentions_after names now rs) p) (sym (behind_both past (record_lines names m r) (lines_of names now rs)))
      (records_stand (next_after next r) end rs now (behind past (record_lines names m r)) told.2 (record_stands next r m past told.0 told.1 h))
