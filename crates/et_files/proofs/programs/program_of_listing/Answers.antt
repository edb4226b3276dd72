use Rattle.std.proofs.Common.{List, [], ◌∷◌, ◌++◌, Ok, map, ap, sym, subst, ◌∙◌}
use Rattle.std.proofs.lemmas.Result.{err_from_is_err_and}
use Rattle.et_class.specs.Classes.{class_of}
use Rattle.et_class.specs.declared.class.ClassFile.{ClassFile}
use Rattle.et_files.specs.Loaded.{class_alone, IsClassOf, IsLinkedOf}
use Rattle.et_files.specs.Told.{cause_of}
use Rattle.et_files.proofs.LinkLemmas.{alone_not_read, program_not_read}
use Rattle.et_files.proofs.Found.{class_not_read}
use Rattle.et_files.proofs.programs.program_of_listing.Goals as goal

pub returns-clause-tells : goal.returns-clause-tells
returns-clause-tells c p is =
    let of_bytes = subst (λ bytes. IsClassOf (Ok bytes) is.1) (sym c.deref.ensures.value) (subst (λ bytes. IsClassOf bytes is.1) (c.in_ok-bytes.ensures.tells is.0 is.2) is.3) in
    let items = c.in_ok-push.ensures.ok ∙ ap (λ (some : List ClassFile). some ++ c.in_ok-class.class ∷ []) c.new-classes.ensures.items in
    let alone = subst (λ classes. IsLinkedOf classes p) (ap class_alone (c.in_ok-class.ensures.tells is.1 of_bytes)) is.4 in
    c.program.ensures.tells p (subst (λ (classes : List ClassFile). IsLinkedOf (Ok (map class_of classes)) p) (sym items) alone)

pub returns-in_err-bytes-clause-tells : goal.returns-in_err-bytes-clause-tells
returns-in_err-bytes-clause-tells c p is =
    let cause = cause_of c.in_err-bytes.field-0.0 in
    let q = err_from_is_err_and c.from_residual.result c.from_residual.ensures.1 in
    rw (q.1, q.2) (program_not_read ⊥ (class_alone is.1) cause p (alone_not_read ⊥ is.1 cause (class_not_read ⊥ is.0 cause is.1 (c.in_err-bytes.ensures.tells is.0 is.2) is.3)) is.4)

pub returns-in_err-class-clause-tells : goal.returns-in_err-class-clause-tells
returns-in_err-class-clause-tells c p is =
    let of_bytes = subst (λ bytes. IsClassOf (Ok bytes) is.1) (sym c.deref.ensures.value) (subst (λ bytes. IsClassOf bytes is.1) (c.in_ok-bytes.ensures.tells is.0 is.2) is.3) in
    let cause = cause_of c.in_err-class.field-0.0 in
    let q = err_from_is_err_and c.from_residual-in_err-class.result c.from_residual-in_err-class.ensures.1 in
    rw (q.1, q.2) (program_not_read ⊥ (class_alone is.1) cause p (alone_not_read ⊥ is.1 cause (c.in_err-class.ensures.tells is.1 of_bytes)) is.4)
