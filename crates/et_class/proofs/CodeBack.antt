-- The body of a Code attribute that is spelled is read.
use Rattle.std.proofs.Common.{◌≡◌, ℕ, ◌+◌, ◌^◌, ◌<◌, Bool, cond, List, [], ◌++◌, length, Result, Ok, Err, refl, sym, ap, subst, arith, append-nil, length-append}
use Rattle.std.specs.Prelude.{ok_or}
use Rattle.std.specs.Int.{w16, w32}
use Rattle.std.proofs.lemmas.Bool.{le-ltb}
use Rattle.et_base.specs.Numbers.{bytes_at}
use Rattle.et_base.proofs.Readings.{bind_ok, some_ok}
use Rattle.et_base.proofs.Spelling.{Reads, Reads-first, Reads-second, reads_run, in_bytes}
use Rattle.et_code.specs.declared.body.TableRow.{TableRow}
use Rattle.et_code.specs.Bodies.{Body}
use Rattle.et_class.specs.declared.fault.TheConstants.{ATTRIBUTE, SHORT}
use Rattle.et_class.specs.Layout.{u2, u4, counted_bytes, attribute_bytes}
use Rattle.et_class.specs.Reading.{number_read, counted_at, attribute_at}
use Rattle.et_class.specs.Codes.{CodeOf, exception_row_at, code_body_at, code_at}
use Rattle.et_class.specs.Spelling.{IsAttribute, IsCounted}
use Rattle.et_class.proofs.Back.{read_u2, read_u4, counted_back, attribute_back}
use Rattle.et_class.proofs.Coded.{row_bytes, code_bytes}

-- each number fits its two bytes
pub record IsRow (r : TableRow) : Type 0 where
  pub start : r.start < 2 ^ 16
  pub end : r.end < 2 ^ 16
  pub handler : r.handler < 2 ^ 16
  pub catch : r.catch < 2 ^ 16

pub record IsBody (b : Body) : Type 0 where
  pub stack : b.max_stack < 2 ^ 16
  pub locals : b.max_locals < 2 ^ 16
  pub code : length b.code < 2 ^ 32
  pub table : IsCounted IsRow b.table

row_back : (bytes : List ℕ) (at : ℕ) (r : TableRow) (next : ℕ) → IsRow r → Reads bytes at (row_bytes r) next → exception_row_at bytes at ≡ Ok (r, next)
unfolding exception_row_at
row_back bytes at r next v all =
    let r1 = Reads-second bytes at (u2 r.start) (u2 r.end ++ (u2 r.handler ++ u2 r.catch)) next all in
    let r2 = Reads-second bytes (at + 2) (u2 r.end) (u2 r.handler ++ u2 r.catch) next r1 in
    let r3 = Reads-second bytes (at + 2 + 2) (u2 r.handler) (u2 r.catch) next r2 in
    bind_ok (number_read w16 bytes at) _ (r.start, at + 2) _ (read_u2 bytes at r.start (at + 2) v.start (Reads-first bytes at (u2 r.start) (u2 r.end ++ (u2 r.handler ++ u2 r.catch)) next all))
    (bind_ok (number_read w16 bytes (at + 2)) _ (r.end, at + 2 + 2) _ (read_u2 bytes (at + 2) r.end (at + 2 + 2) v.end (Reads-first bytes (at + 2) (u2 r.end) (u2 r.handler ++ u2 r.catch) next r1))
    (bind_ok (number_read w16 bytes (at + 2 + 2)) _ (r.handler, at + 2 + 2 + 2) _ (read_u2 bytes (at + 2 + 2) r.handler (at + 2 + 2 + 2) v.handler (Reads-first bytes (at + 2 + 2) (u2 r.handler) (u2 r.catch) next r2))
    (bind_ok (number_read w16 bytes (at + 2 + 2 + 2)) _ (r.catch, next) _ (read_u2 bytes (at + 2 + 2 + 2) r.catch next v.catch r3) refl)))

body_back : (bytes : List ℕ) (b : Body) (next : ℕ) → IsBody b → Reads bytes 0 (code_bytes b) next → code_body_at bytes ≡ Ok (b, next)
unfolding code_body_at
body_back bytes b next v all =
    let table = counted_bytes row_bytes b.table in
    let r1 = Reads-second bytes 0 (u2 b.max_stack) (u2 b.max_locals ++ (u4 (length b.code) ++ (b.code ++ table))) next all in
    let r2 = Reads-second bytes 2 (u2 b.max_locals) (u4 (length b.code) ++ (b.code ++ table)) next r1 in
    let r3 = Reads-second bytes 4 (u4 (length b.code)) (b.code ++ table) next r2 in
    let r4 = Reads-second bytes 8 b.code table next r3 in
    let size = Reads-first bytes 4 (u4 (length b.code)) (b.code ++ table) next r2 in
    let run = reads_run bytes (length b.code) 8 b.code (8 + length b.code) (in_bytes bytes 4 (u4 (length b.code)) 8 (omega arith) size) refl (Reads-first bytes 8 b.code table next r3) in
    bind_ok (number_read w16 bytes 0) _ (b.max_stack, 2) _ (read_u2 bytes 0 b.max_stack 2 v.stack (Reads-first bytes 0 (u2 b.max_stack) (u2 b.max_locals ++ (u4 (length b.code) ++ (b.code ++ table))) next all))
    (bind_ok (number_read w16 bytes 2) _ (b.max_locals, 4) _ (read_u2 bytes 2 b.max_locals 4 v.locals (Reads-first bytes 2 (u2 b.max_locals) (u4 (length b.code) ++ (b.code ++ table)) next r1))
    (bind_ok (number_read w32 bytes 4) _ (length b.code, 8) _ (read_u4 bytes 4 (length b.code) 8 v.code size)
    (bind_ok (ok_or (bytes_at bytes (length b.code) 8) (8, SHORT)) _ (b.code, 8 + length b.code) _ (some_ok _ _ _ run)
    (bind_ok (counted_at bytes (exception_row_at bytes) (8 + length b.code)) _ (b.table, next) _ (counted_back (exception_row_at bytes) row_bytes IsRow bytes (row_back bytes) (8 + length b.code) b.table next v.table r4) refl))))

-- a body and a count of no attributes
pub code_back : (b : Body) → IsBody b → code_at (code_bytes b ++ u2 0) ≡ Ok (record { body = b; first = length (code_bytes b) + 2; attributes = [] })
unfolding code_at
code_back b v =
    let bytes = code_bytes b ++ u2 0 in
    let size = length-append (code_bytes b) (u2 0) in
    let all : Reads bytes 0 (code_bytes b ++ u2 0) (length bytes) = record { stands = ([], sym (append-nil bytes)); next_is = omega arith } in
    let zero : 0 + length (code_bytes b) ≡ length (code_bytes b) = omega arith in
    let first = subst (λ (n : ℕ). Reads bytes 0 (code_bytes b) n) zero (Reads-first bytes 0 (code_bytes b) (u2 0) (length bytes) all) in
    let second = subst (λ (n : ℕ). Reads bytes n (u2 0) (length bytes)) zero (Reads-second bytes 0 (code_bytes b) (u2 0) (length bytes) all) in
    let none : IsCounted IsAttribute [] = record { few = omega arith; each = λ i d lt. absurd (omega arith) } in
    bind_ok (code_body_at bytes) _ (b, length (code_bytes b)) _ (body_back bytes b (length (code_bytes b)) v first)
    (bind_ok (counted_at bytes (attribute_at bytes) (length (code_bytes b))) _ ([], length bytes) _ (counted_back (attribute_at bytes) attribute_bytes IsAttribute bytes (attribute_back bytes) (length (code_bytes b)) [] (length bytes) none second)
    (ap (λ (t : Bool). cond {A = Result CodeOf (ℕ × ℕ)} t (Err (length bytes, ATTRIBUTE)) (Ok (record { body = b; first = length (code_bytes b) + 2; attributes = [] }))) (le-ltb (length bytes) (length bytes) (omega arith))))
