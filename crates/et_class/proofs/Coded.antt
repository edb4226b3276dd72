-- The body of a Code attribute.
use Rattle.std.proofs.Common.{◌≡◌, ℕ, ◌+◌, ◌*◌, ◌≤◌, ◌<◌, List, [], ◌∷◌, ◌++◌, length, Bool, true, false, cond, ltb, Option, Some, None, Result, Ok, Err, refl, sym, ap, subst, ◌∙◌, arith, length-append}
use Rattle.std.specs.Prelude.{ok_or}
use Rattle.std.specs.List.{flat_map}
use Rattle.std.specs.Int.{w16, w32}
use Rattle.std.proofs.lemmas.Bool.{le-ltb, lt-ltb}
use Rattle.et_base.specs.Numbers.{bytes_at, AreBytes}
use Rattle.et_base.specs.Steps.{◌>>=◌}
use Rattle.et_base.proofs.Readings.{by_bind, ok_some, bind_ok}
use Rattle.et_base.proofs.Spelling.{Reads, Reads-then, in_bytes, run_reads}
use Rattle.et_pool.specs.Entries.{Item}
use Rattle.et_code.specs.declared.body.TableRow.{TableRow}
use Rattle.et_code.specs.Bodies.{Body}
use Rattle.et_base.specs.Marks.{first_from}
use Rattle.et_class.specs.declared.fault.TheConstants.{ATTRIBUTE, SHORT}
use Rattle.et_class.specs.Layout.{AttributeOf, u2, u4, counted_bytes, attribute_bytes}
use Rattle.et_class.specs.Reading.{number_read, counted_at, attribute_at}
use Rattle.et_class.specs.Along.{along}
use Rattle.et_class.specs.Fields.{attribute_marks}
use Rattle.et_class.specs.Codes.{CodeOf, exception_row_at, code_body_at, code_at}
use Rattle.et_class.specs.Kept.{inner_of, inner_at}
use Rattle.et_class.proofs.Spelt.{StandsThere, number_u2, number_u4, counted_read}
use Rattle.et_class.proofs.Inner.{inner_counted}

-- ITS SIZE

abbrev pub row_bytes : TableRow → List ℕ
row_bytes r = u2 r.start ++ (u2 r.end ++ (u2 r.handler ++ u2 r.catch))

row_whole : (bytes : List ℕ) (at : ℕ) → AreBytes bytes → StandsThere row_bytes bytes at (exception_row_at bytes at)
unfolding exception_row_at
row_whole bytes at fits =
    by_bind (StandsThere row_bytes bytes at) (number_read w16 bytes at) _ (λ f h. tt) (λ start h.
    by_bind (StandsThere row_bytes bytes at) (number_read w16 bytes start.1) _ (λ f i. tt) (λ end i.
    by_bind (StandsThere row_bytes bytes at) (number_read w16 bytes end.1) _ (λ f j. tt) (λ handler j.
    by_bind (StandsThere row_bytes bytes at) (number_read w16 bytes handler.1) _ (λ f k. tt) (λ catch k.
    Reads-then bytes at (u2 start.0) start.1 _ catch.1 (number_u2 bytes at start.0 start.1 fits h).reads
    (Reads-then bytes start.1 (u2 end.0) end.1 _ catch.1 (number_u2 bytes start.1 end.0 end.1 fits i).reads
    (Reads-then bytes end.1 (u2 handler.0) handler.1 (u2 catch.0) catch.1 (number_u2 bytes end.1 handler.0 handler.1 fits j).reads (number_u2 bytes handler.1 catch.0 catch.1 fits k).reads))))))

row_reads : (bytes : List ℕ) → AreBytes bytes → (at : ℕ) (r : TableRow) (next : ℕ) → exception_row_at bytes at ≡ Ok (r, next) → Reads bytes at (row_bytes r) next
row_reads bytes fits at r next h = subst (StandsThere row_bytes bytes at) h (row_whole bytes at fits)

abbrev pub code_bytes : Body → List ℕ
code_bytes b = u2 b.max_stack ++ (u2 b.max_locals ++ (u4 (length b.code) ++ (b.code ++ counted_bytes row_bytes b.table)))

code_whole : (bytes : List ℕ) → AreBytes bytes → StandsThere code_bytes bytes 0 (code_body_at bytes)
unfolding code_body_at
code_whole bytes fits =
    by_bind (StandsThere code_bytes bytes 0) (number_read w16 bytes 0) _ (λ f h. tt) (λ stack h.
    by_bind (StandsThere code_bytes bytes 0) (number_read w16 bytes stack.1) _ (λ f i. tt) (λ locals i.
    by_bind (StandsThere code_bytes bytes 0) (number_read w32 bytes locals.1) _ (λ f j. tt) (λ size j.
    by_bind (StandsThere code_bytes bytes 0) (ok_or (bytes_at bytes size.0 size.1) (size.1, SHORT)) _ (λ f k. tt) (λ code k.
    by_bind (StandsThere code_bytes bytes 0) (counted_at bytes (exception_row_at bytes) code.1) _ (λ f l. tt) (λ table l.
    let n = number_u4 bytes locals.1 size.0 size.1 fits j in
    let c = run_reads bytes size.0 size.1 code.0 code.1 (ok_some _ _ _ k) in
    Reads-then bytes 0 (u2 stack.0) stack.1 _ table.1 (number_u2 bytes 0 stack.0 stack.1 fits h).reads
    (Reads-then bytes stack.1 (u2 locals.0) locals.1 _ table.1 (number_u2 bytes stack.1 locals.0 locals.1 fits i).reads
    (Reads-then bytes locals.1 (u4 (length code.0)) size.1 _ table.1 (subst (λ (m : ℕ). Reads bytes locals.1 (u4 m) size.1) (sym c.size_is) n.reads)
    (Reads-then bytes size.1 code.0 code.1 (counted_bytes row_bytes table.0) table.1 c.reads (counted_read (exception_row_at bytes) row_bytes bytes (row_reads bytes fits) code.1 table.0 table.1 fits l)))))))))

pub rows_size : (rows : List TableRow) → length (flat_map row_bytes rows) ≡ 8 * length rows
rows_size [] = omega arith
rows_size (r ∷ rows) = omega (arith, rows_size rows, length-append (row_bytes r) (flat_map row_bytes rows))

pub code_size : (bytes : List ℕ) (b : Body) (next : ℕ) → AreBytes bytes → code_body_at bytes ≡ Ok (b, next) → (next ≤ length bytes) × (10 + length b.code + 8 * length b.table ≤ next)
code_size bytes b next fits h =
    let r : Reads bytes 0 (code_bytes b) next = subst (StandsThere code_bytes bytes 0) h (code_whole bytes fits) in
    let size : length (code_bytes b) ≡ 8 + length (b.code ++ counted_bytes row_bytes b.table) = omega arith in
    (in_bytes bytes 0 (code_bytes b) next (omega arith) r, omega (arith, r.next_is, size, length-append b.code (counted_bytes row_bytes b.table), rows_size b.table, length-append (u2 (length b.table)) (flat_map row_bytes b.table)))

-- ITS RULES

err_bind : {A B : Type 0} (r : Result A (ℕ × ℕ)) (f : A → Result B (ℕ × ℕ)) (e : ℕ × ℕ) → r ≡ Err e → (r >>= f) ≡ Err e
err_bind r f e h = cc

-- no items of a body
pub record IsNoCode (bytes : List ℕ) : Type 0 where
  pub fault : ℕ × ℕ
  pub broken : code_at bytes ≡ Err fault

pub no_body : (bytes : List ℕ) (f : ℕ × ℕ) → code_body_at bytes ≡ Err f → IsNoCode bytes
unfolding code_at
no_body bytes f h = record { fault = f; broken = err_bind (code_body_at bytes) _ f h }

module _ (slots : List (Option Item)) (first : Option (ℕ × ℕ)) (place : ℕ) (bytes : List ℕ) (b : Body) (at : ℕ) (h : code_body_at bytes ≡ Ok (b, at)) where
  ends_early : (r : Result (List AttributeOf × ℕ) (ℕ × ℕ)) → counted_at bytes (attribute_at bytes) at ≡ r → None ≡ inner_of slots first (place + (at + 2)) r → IsNoCode bytes
  unfolding code_at
  ends_early (Err f) i e = record { fault = f; broken = bind_ok (code_body_at bytes) _ (b, at) _ h (err_bind (counted_at bytes (attribute_at bytes) at) _ f i) }
  ends_early (Ok x) i e = absurd cc

  pub no_attributes : None ≡ inner_at slots first place bytes at → IsNoCode bytes
  no_attributes e = ends_early (counted_at bytes (attribute_at bytes) at) refl (e ∙ inner_counted slots place bytes first at)

  -- the attributes that were passed
  pub record Passed (end : ℕ) (found : Option (ℕ × ℕ)) : Type 0 where
    pub attributes : List AttributeOf
    pub read : counted_at bytes (attribute_at bytes) at ≡ Ok (attributes, end)
    pub found_is : found ≡ first_from first (along attribute_bytes (attribute_marks slots) [] (place + (at + 2)) attributes)

  passed_case : (end : ℕ) (found : Option (ℕ × ℕ)) (r : Result (List AttributeOf × ℕ) (ℕ × ℕ)) → counted_at bytes (attribute_at bytes) at ≡ r → Some (end, found) ≡ inner_of slots first (place + (at + 2)) r → Passed end found
  passed_case end found (Err f) i e = absurd cc
  passed_case end found (Ok x) i e =
      let same = some_pair (end, found) (x.1, first_from first (along attribute_bytes (attribute_marks slots) [] (place + (at + 2)) x.0)) e in
      record { attributes = x.0; read = i ∙ ap (λ (n : ℕ). Ok (x.0, n)) (sym (ap (λ (p : ℕ × Option (ℕ × ℕ)). p.0) same)); found_is = ap (λ (p : ℕ × Option (ℕ × ℕ)). p.1) same }
    where
      some_pair : (p q : ℕ × Option (ℕ × ℕ)) → Some p ≡ Some q → p ≡ q
      some_pair p q j = cc

  pub passed : (end : ℕ) (found : Option (ℕ × ℕ)) → Some (end, found) ≡ inner_at slots first place bytes at → Passed end found
  passed end found e = passed_case end found (counted_at bytes (attribute_at bytes) at) refl (e ∙ inner_counted slots place bytes first at)

  code_end : (end : ℕ) (found : Option (ℕ × ℕ)) (p : Passed end found) (t : Bool) → ltb end (length bytes) ≡ t → code_at bytes ≡ cond t (Err (end, ATTRIBUTE)) (Ok (record { body = b; first = at + 2; attributes = p.attributes }))
  unfolding code_at
  code_end end found p t e =
      bind_ok (code_body_at bytes) _ (b, at) _ h (bind_ok (counted_at bytes (attribute_at bytes) at) _ (p.attributes, end) _ p.read (ap (λ (u : Bool). cond {A = Result CodeOf (ℕ × ℕ)} u (Err (end, ATTRIBUTE)) (Ok (record { body = b; first = at + 2; attributes = p.attributes }))) e))

  pub too_long : (end : ℕ) (found : Option (ℕ × ℕ)) → Passed end found → end < length bytes → IsNoCode bytes
  too_long end found p lt = record { fault = (end, ATTRIBUTE); broken = code_end end found p true (lt-ltb _ _ lt) }

  pub is_code : (end : ℕ) (found : Option (ℕ × ℕ)) (p : Passed end found) → length bytes ≤ end → code_at bytes ≡ Ok (record { body = b; first = at + 2; attributes = p.attributes })
  is_code end found p le = code_end end found p false (le-ltb _ _ le)
