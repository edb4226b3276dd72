use Rattle.std.proofs.Common.{subst}
use Rattle.et_class.specs.Classes.{class_of, ShowsFirstFault}
use Rattle.et_class.specs.Reading.{IsClassFaultOf}
use Rattle.et_files.proofs.Found.{class_found, fault_found}
use Rattle.et_files.proofs.classes.class_in.Goals as goal

pub returns-in-Ok-clause-tells : goal.returns-in-Ok-clause-tells
returns-in-Ok-clause-tells c class is = class_found c.args.bytes.now (c.exactly_one.ensures c.args.bytes.now) class (class_of c.in-Ok.class) c.in-Ok.ensures.0 is

pub returns-in-Err-At-clause-tells : goal.returns-in-Err-At-clause-tells
returns-in-Err-At-clause-tells c class is = fault_found c.args.bytes.now (c.exactly_one.ensures c.args.bytes.now) class (c.in-Err-At.offset, c.in-Err-At.kind) (subst (λ f. IsClassFaultOf f (ShowsFirstFault c.args.bytes.now)) c.in-Err-At.field-0-is c.in-Err-At.ensures) is

pub returns-in-Ok-clause-of_file : goal.returns-in-Ok-clause-of_file
returns-in-Ok-clause-of_file c = record { bytes = c.args.bytes.now; are_bytes = λ i. (c.type_inv.bytes i).fits; is = c.in-Ok.ensures.0 }
