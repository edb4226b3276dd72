use Rattle.std.proofs.Common.{ℕ, sym, ap, ◌∙◌, arith, Bool, []}
use Rattle.std.proofs.lemmas.Result.{err_from_is_err_and}
use Rattle.et_base.specs.Numbers.{AreBytes}
use Rattle.et_base.specs.Marks.{first_from}
use Rattle.et_class.specs.Layout.{member_list}
use Rattle.et_class.specs.Headers.{header_parts}
use Rattle.et_class.specs.Members.{members_view}
use Rattle.et_class.specs.Rules.{members_marks}
use Rattle.et_class.proofs.Kept.{all_kept}
use Rattle.et_class.proofs.Headed.{after_header, pool_fault, header_fault, members_fault, all_found, is_class, has_fault, methods_none}
use Rattle.et_class.proofs.class.read_class.Goals as goal

pub returns-in-Err : goal.returns-in-Err
returns-in-Err c = rw c.lift.ensures (pool_fault c.args.bytes.now (c.in_ok-minor_version.minor_version, c.in_ok-minor_version.major_version) c.in_ok-minor_version.ensures c.in-Err.f c.in-Err.ensures)

pub returns-in_err-header-in-Ok : goal.returns-in_err-header-in-Ok
returns-in_err-header-in-Ok c =
    let p = err_from_is_err_and c.from_residual-in_err-header-in-Ok.result c.from_residual-in_err-header-in-Ok.ensures.1 in
    rw (p.1, p.2) (header_fault c.args.bytes.now (c.in_ok-minor_version.minor_version, c.in_ok-minor_version.major_version) c.in_ok-minor_version.ensures c.in-Ok.pool.slots c.in-Ok.at c.in-Ok.ensures.1 c.in_err-header-in-Ok.field-0.0 c.in_err-header-in-Ok.ensures)

pub check_header-found-requires : goal.check_header-found-requires
check_header-found-requires c =
    let fits : AreBytes c.args.bytes.now = λ i. (c.type_inv.bytes i).fits in
    omega (arith, after_header c.args.bytes.now c.in-Ok.at (header_parts c.in_ok-header-in-Ok.header) c.in_ok-header-in-Ok.members_at fits c.in_ok-header-in-Ok.ensures)

pub returns-in_err-members-in-Ok : goal.returns-in_err-members-in-Ok
returns-in_err-members-in-Ok c =
    let p = err_from_is_err_and c.from_residual-in_err-members-in-Ok.result c.from_residual-in_err-members-in-Ok.ensures.1 in
    rw (p.1, p.2) (members_fault c.args.bytes.now (c.in_ok-minor_version.minor_version, c.in_ok-minor_version.major_version) c.in_ok-minor_version.ensures c.in-Ok.pool.slots c.in-Ok.at c.in-Ok.ensures.1 (header_parts c.in_ok-header-in-Ok.header) c.in_ok-header-in-Ok.members_at c.in_ok-header-in-Ok.ensures c.in_err-members-in-Ok.field-0.0 c.in_err-members-in-Ok.ensures)

pub returns-in-Some : goal.returns-in-Some
returns-in-Some c =
    let found = all_found c.args.bytes.now (λ i. (c.type_inv.bytes i).fits) (c.in_ok-minor_version.minor_version, c.in_ok-minor_version.major_version) c.in-Ok.pool.slots c.in-Ok.at (header_parts c.in_ok-header-in-Ok.header) c.in_ok-header-in-Ok.members_at (members_view c.in_ok-members-in-Ok.members) c.in_ok-minor_version.ensures c.in-Ok.ensures.1 c.in_ok-header-in-Ok.ensures c.in_ok-members-in-Ok.ensures.read
    c.check_pool.result c.check_header-found.result c.in_ok-members-in-Ok.found c.check_pool.ensures c.check_header-found.ensures
    (c.in_ok-members-in-Ok.ensures.found_is ∙ ap (λ (b : Bool). first_from c.check_header-found.result (members_marks c.in-Ok.pool.slots b c.in_ok-header-in-Ok.members_at (members_view c.in_ok-members-in-Ok.members))) c.has-interface.ensures) in
    has_fault c.args.bytes.now (λ i. (c.type_inv.bytes i).fits) (c.in_ok-minor_version.minor_version, c.in_ok-minor_version.major_version) c.in-Ok.pool.slots c.in-Ok.at (header_parts c.in_ok-header-in-Ok.header) c.in_ok-header-in-Ok.members_at (members_view c.in_ok-members-in-Ok.members) c.in_ok-minor_version.ensures c.in-Ok.ensures.1 c.in_ok-header-in-Ok.ensures c.in_ok-members-in-Ok.ensures.read (c.in-Some.offset, c.in-Some.kind) (sym found ∙ c.in-Some.is)

pub returns-in-None : goal.returns-in-None
returns-in-None c =
    let found = all_found c.args.bytes.now (λ i. (c.type_inv.bytes i).fits) (c.in_ok-minor_version.minor_version, c.in_ok-minor_version.major_version) c.in-Ok.pool.slots c.in-Ok.at (header_parts c.in_ok-header-in-Ok.header) c.in_ok-header-in-Ok.members_at (members_view c.in_ok-members-in-Ok.members) c.in_ok-minor_version.ensures c.in-Ok.ensures.1 c.in_ok-header-in-Ok.ensures c.in_ok-members-in-Ok.ensures.read
    c.check_pool.result c.check_header-found.result c.in_ok-members-in-Ok.found c.check_pool.ensures c.check_header-found.ensures
    (c.in_ok-members-in-Ok.ensures.found_is ∙ ap (λ (b : Bool). first_from c.check_header-found.result (members_marks c.in-Ok.pool.slots b c.in_ok-header-in-Ok.members_at (members_view c.in_ok-members-in-Ok.members))) c.has-interface.ensures) in
    let none = sym found ∙ c.in-None.is in
    let kept = all_kept c.in-Ok.pool.slots [] _ (member_list c.in_ok-members-in-Ok.members.methods.items) (methods_none c.args.bytes.now (λ i. (c.type_inv.bytes i).fits) (c.in_ok-minor_version.minor_version, c.in_ok-minor_version.major_version) c.in-Ok.pool.slots c.in-Ok.at (header_parts c.in_ok-header-in-Ok.header) c.in_ok-header-in-Ok.members_at (members_view c.in_ok-members-in-Ok.members) c.in_ok-minor_version.ensures c.in-Ok.ensures.1 c.in_ok-header-in-Ok.ensures c.in_ok-members-in-Ok.ensures.read none) in (
      is_class c.args.bytes.now (λ i. (c.type_inv.bytes i).fits) (c.in_ok-minor_version.minor_version, c.in_ok-minor_version.major_version) c.in-Ok.pool.slots c.in-Ok.at (header_parts c.in_ok-header-in-Ok.header) c.in_ok-header-in-Ok.members_at (members_view c.in_ok-members-in-Ok.members) c.in_ok-minor_version.ensures c.in-Ok.ensures.1 c.in_ok-header-in-Ok.ensures c.in_ok-members-in-Ok.ensures.read none,
      record {
        pool = ap (λ (at : ℕ). record { at = at; slots = c.in-Ok.pool.slots }) c.in-Ok.ensures.0;
        members = record {
          constants = c.in_ok-members-in-Ok.ensures.constants;
          no_code = c.in_ok-members-in-Ok.ensures.no_code;
          codes = c.in_ok-members-in-Ok.ensures.codes ∙ kept;
          no_constants = c.in_ok-members-in-Ok.ensures.no_constants;
        };
      },
    )
