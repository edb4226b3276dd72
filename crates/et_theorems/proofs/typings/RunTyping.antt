-- `run` of Thread, the one built-in method with code, has a typing.
use Rattle.std.proofs.Common.{◌≡◌, ℕ, ◌==◌, ◌||◌, Bool, true, false, List, [], ◌∷◌, Option, Some, None, Ok, refl, sym, ◌∙◌, ap, subst, inl, inr, arith}
use Rattle.std.specs.Prelude.{codes, pos, if◌then◌else◌}
use Rattle.std.specs.Option.{option_map_or}
use Rattle.std.proofs.lemmas.Bool.{eqb-true}
use Rattle.std.proofs.lemmas.List.Elements.{All-cons, All-nil}
use Rattle.std.proofs.lemmas.Option.{none-some, same_Some}
use Rattle.et_base.proofs.Lists.{Contains-cons, Contains-none}
use Rattle.et_boot.specs.Classes.{thread_pool, thread_run}
use Rattle.et_class.specs.Descriptors.{MethodType, after_dimensions, after_name, method_type, types_of}
use Rattle.et_class.specs.PoolOperands.Operand.TheVariants as operand
use Rattle.et_code.proofs.Starting.{starts_are_all}
use Rattle.et_code.specs.Decoding.{instruction_at}
use Rattle.et_code.specs.Forms.{form_of}
use Rattle.et_code.specs.Starts.{IsStart, starts_from}
use Rattle.et_code.specs.declared.instr.Instr.{Instr}
use Rattle.et_event.specs.Programs.{is_initializing}
use Rattle.et_event.specs.Sites.{Site, pool_of_class}
use Rattle.et_event.specs.Sound.{returned_of}
use Rattle.et_event.specs.Table.{row_of}
use Rattle.et_event.specs.declared.rows.CallKind.TheVariants.{Interface}
use Rattle.et_event.specs.declared.rows.CallRow.TheVariants as call
use Rattle.et_event.specs.declared.rows.Condition.TheVariants as when
use Rattle.et_event.specs.declared.rows.FrameRow.TheVariants as row
use Rattle.et_event.specs.declared.rows.HeapRow.TheVariants as heap
use Rattle.et_event.specs.declared.rows.Local.TheVariants.{At}
use Rattle.et_event.specs.declared.rows.Row.{Row}
use Rattle.et_event.specs.declared.rows.Row.TheVariants as rows
use Rattle.et_pool.specs.Entries.{Item, slots_of}
use Rattle.et_program.specs.Entries.{Linked, is_static, method_at}
use Rattle.et_program.specs.MembersOf.{boot_body}
use Rattle.et_flow.specs.declared.types.EntryType.{EntryType}
use Rattle.et_flow.specs.declared.types.EntryType.TheVariants as entry
use Rattle.et_flow.specs.Flows.{IsThere, Typing}
use Rattle.et_verify.specs.Leads.{next_places, site_in}
use Rattle.et_verify.specs.Steps.{types_after}
use Rattle.et_flow.specs.Types.{AreTypesBelow, TypesOf}
use Rattle.et_flow.specs.Stores.{with_free}
use Rattle.et_verify.specs.Typings.{AreThere, FitFrame, IsAccepted, IsTyping, argument_entries, first_types}
use Rattle.et_theorems.proofs.typings.Entering.{void_is, void_typed}

-- THE TYPING: the receiver is in the local variable, and may be the one operand

abbrev bare : TypesOf
bare = record { operands = []; locals = entry.Reference ∷ [] }

abbrev loaded : TypesOf
loaded = record { operands = entry.Reference ∷ []; locals = entry.Reference ∷ [] }

abbrev pub run_typing : Typing
run_typing pc =
    if pc == 0 then Some bare else (if pc == 1 then Some loaded else (if pc == 4 then Some loaded else (if pc == 7 then Some bare
    else (if pc == 8 then Some loaded else (if pc == 11 then Some loaded else (if pc == 16 then Some bare else None))))))

if_typed : (X : ℕ → TypesOf → Type 0) (n pc : ℕ) (ts us : TypesOf) (others : Option TypesOf) → X n ts → (others ≡ Some us → X pc us) → (if pc == n then Some ts else others) ≡ Some us → X pc us
if_typed X n pc ts us others here more e = by (pc == n) refl e
  where
    by : (b : Bool) → (pc == n) ≡ b → (if b then Some ts else others) ≡ Some us → X pc us
    by true q h = subst (λ (k : ℕ). X k us) (sym (eqb-true pc n q)) (subst (λ (t : TypesOf). X n t) (same_Some ts us h) here)
    by false q h = more h

record Places (X : ℕ → TypesOf → Type 0) : Type 0 where
  at0 : X 0 bare
  at1 : X 1 loaded
  at4 : X 4 loaded
  at7 : X 7 bare
  at8 : X 8 loaded
  at11 : X 11 loaded
  at16 : X 16 bare

each_place : (X : ℕ → TypesOf → Type 0) → Places X → (pc : ℕ) (ts : TypesOf) → run_typing pc ≡ Some ts → X pc ts
each_place X h pc ts e =
    if_typed X 0 pc bare ts _ h.at0 (if_typed X 1 pc loaded ts _ h.at1 (if_typed X 4 pc loaded ts _ h.at4 (if_typed X 7 pc bare ts _ h.at7
    (if_typed X 8 pc loaded ts _ h.at8 (if_typed X 11 pc loaded ts _ h.at11 (if_typed X 16 pc bare ts None h.at16 (λ q. absurd (none-some ts q)))))))) e

-- STARTS, and what fits

run_starts : Places (λ pc ts. IsStart thread_run.code pc)
unfolding starts_from instruction_at form_of
run_starts = record {
  at0 = (starts_are_all thread_run.code 0).0 refl;
  at1 = (starts_are_all thread_run.code 1).0 refl;
  at4 = (starts_are_all thread_run.code 4).0 refl;
  at7 = (starts_are_all thread_run.code 7).0 refl;
  at8 = (starts_are_all thread_run.code 8).0 refl;
  at11 = (starts_are_all thread_run.code 11).0 refl;
  at16 = (starts_are_all thread_run.code 16).0 refl;
}

reference_used : entry.Reference ≡ entry.Free → ⊥
reference_used q = cc

bare_fits : FitFrame (boot_body thread_run) bare
bare_fits = record { used = All-nil (λ (t : EntryType). t ≡ entry.Free → ⊥); few = omega arith; locals = refl }

loaded_fits : FitFrame (boot_body thread_run) loaded
loaded_fits = record { used = All-cons (λ (t : EntryType). t ≡ entry.Free → ⊥) entry.Reference [] reference_used (All-nil (λ (t : EntryType). t ≡ entry.Free → ⊥)); few = omega arith; locals = refl }

run_fits : Places (λ pc ts. FitFrame (boot_body thread_run) ts)
run_fits = record { at0 = bare_fits; at1 = loaded_fits; at4 = loaded_fits; at7 = bare_fits; at8 = loaded_fits; at11 = loaded_fits; at16 = bare_fits }

-- EACH INSTRUCTION, over the pool of Thread

abbrev run_site : Instr × ℕ → Site
run_site decoded = record { instr = decoded.0; next = decoded.1; code = thread_run.code; pool = slots_of thread_pool; class = 6 }

abbrev AreListed : Typing → List ℕ → TypesOf → Type 0
AreListed typing [] ts = Unit {0}
AreListed typing (q ∷ qs) ts = IsThere typing q ts × AreListed typing qs ts

listed : (typing : Typing) (places : List ℕ) (ts : TypesOf) → AreListed typing places ts → AreThere typing places ts
listed typing [] ts h q c = absurd (Contains-none q c)
listed typing (x ∷ xs) ts h q c = elim (Contains-cons x xs q c) [
  | inl same ↦ subst (λ (k : ℕ). IsThere typing k ts) same h.0
  | inr more ↦ listed typing xs ts h.1 q more
]

record Accepts (pc : ℕ) (ts : TypesOf) : Type 0 where
  decoded : Instr × ℕ
  at : instruction_at thread_run.code pc ≡ Ok decoded
  row : Row
  does : row_of decoded.0.opcode ≡ Some row
  after : TypesOf
  accepts : types_after 1 (codes "V") (run_site decoded) row ts ≡ Some after
  goes_on : AreListed run_typing (next_places pc (run_site decoded) row) after

bare_below : AreTypesBelow bare bare
bare_below = record { operands = refl; locals = record { long = refl; each = λ i lt. inl refl } }

loaded_below : AreTypesBelow loaded loaded
loaded_below = record { operands = refl; locals = record { long = refl; each = λ i lt. inl refl } }

abbrev instr : (opcode first second : ℕ) → Instr
instr opcode first second = record { opcode = opcode; wide = false; first = pos first; second = pos second; table = 0 }

accepts0 : Accepts 0 bare
unfolding instruction_at form_of row_of
accepts0 = record { decoded = (instr 0x2a 0 0, 1); at = refl; row = rows.Frame (row.Load operand.Reference (At 0)); does = refl; after = loaded; accepts = refl; goes_on = (loaded_below, tt) }

accepts1 : Accepts 1 loaded
unfolding instruction_at form_of row_of after_dimensions after_name
accepts1 = record { decoded = (instr 0xb4 6 0, 4); at = refl; row = rows.Heap heap.GetField; does = refl; after = loaded; accepts = refl; goes_on = (loaded_below, tt) }

accepts4 : Accepts 4 loaded
unfolding instruction_at form_of row_of
accepts4 = record { decoded = (instr 0xc6 12 0, 7); at = refl; row = rows.Frame (row.Branch when.Null); does = refl; after = bare; accepts = refl; goes_on = (bare_below, (bare_below, tt)) }

accepts7 : Accepts 7 bare
unfolding instruction_at form_of row_of
accepts7 = record { decoded = (instr 0x2a 0 0, 8); at = refl; row = rows.Frame (row.Load operand.Reference (At 0)); does = refl; after = loaded; accepts = refl; goes_on = (loaded_below, tt) }

accepts8 : Accepts 8 loaded
unfolding instruction_at form_of row_of after_dimensions after_name
accepts8 = record { decoded = (instr 0xb4 6 0, 11); at = refl; row = rows.Heap heap.GetField; does = refl; after = loaded; accepts = refl; goes_on = (loaded_below, tt) }

accepts11 : Accepts 11 loaded
unfolding instruction_at form_of row_of types_of after_dimensions after_name
accepts11 = record { decoded = (instr 0xb9 12 1, 16); at = refl; row = rows.Call (call.Invoke Interface); does = refl; after = bare; accepts = refl; goes_on = (bare_below, tt) }

accepts16 : Accepts 16 bare
unfolding instruction_at form_of row_of
accepts16 = record { decoded = (instr 0xb1 0 0, 17); at = refl; row = rows.Call (call.Return None); does = refl; after = bare; accepts = refl; goes_on = tt }

run_accepts : Places Accepts
run_accepts = record { at0 = accepts0; at1 = accepts1; at4 = accepts4; at7 = accepts7; at8 = accepts8; at11 = accepts11; at16 = accepts16 }

-- A METHOD with this code, of the class Thread
module _ (p : Linked) (m : ℕ) (class : (method_at p m).class ≡ 6) (pool : pool_of_class p 6 ≡ slots_of thread_pool) (descriptor : (method_at p m).descriptor ≡ codes "()V") (flags : (is_static p m || is_initializing p m) ≡ false) where
  site_is : (decoded : Instr × ℕ) → site_in p m (boot_body thread_run) decoded ≡ run_site decoded
  site_is decoded =
      ap (λ (c : ℕ). record { instr = decoded.0; next = decoded.1; code = thread_run.code; pool = pool_of_class p c; class = c }) class
      ∙ ap (λ (items : List (Option Item)). record { instr = decoded.0; next = decoded.1; code = thread_run.code; pool = items; class = 6 }) pool

  returned_is : returned_of (method_at p m) ≡ codes "V"
  returned_is = ap (λ (o : Option MethodType). option_map_or (λ (t : MethodType). t.returned) o []) (ap method_type descriptor ∙ void_is)

  accepted : (pc : ℕ) (ts : TypesOf) → Accepts pc ts → IsAccepted p m (boot_body thread_run) run_typing pc ts
  accepted pc ts a = record {
    decoded = a.decoded;
    at = a.at;
    row = a.row;
    does = a.does;
    after = a.after;
    accepts =
        subst (λ (s : Site). types_after 1 (returned_of (method_at p m)) s a.row ts ≡ Some a.after) (sym (site_is a.decoded))
        (subst (λ (r : List ℕ). types_after 1 r (run_site a.decoded) a.row ts ≡ Some a.after) (sym returned_is) a.accepts);
    goes_on = subst (λ (s : Site). AreThere run_typing (next_places pc s a.row) a.after) (sym (site_is a.decoded)) (listed run_typing (next_places pc (run_site a.decoded) a.row) a.after a.goes_on);
    handled = λ q c. absurd (Contains-none q c);
  }

  entry_there : IsThere run_typing 0 (first_types p m (boot_body thread_run) void_typed)
  entry_there =
      subst (λ (b : Bool). AreTypesBelow (record { operands = []; locals = with_free 1 (argument_entries b []) }) bare) (sym flags) bare_below

  pub run_typed : IsTyping p m (boot_body thread_run) run_typing
  run_typed = record {
    starts = each_place (λ pc ts. IsStart thread_run.code pc) run_starts;
    fits = each_place (λ pc ts. FitFrame (boot_body thread_run) ts) run_fits;
    type = void_typed;
    typed = ap method_type descriptor ∙ void_is;
    entry = entry_there;
    accepted = λ pc ts e. accepted pc ts (each_place Accepts run_accepts pc ts e);
  }
