use Rattle.std.proofs.Common.{Err, subst}
use Rattle.et_asm.specs.Listings.{Assembles}
use Rattle.et_files.proofs.Found.{listing_found, listing_fault_found}
use Rattle.et_files.proofs.listings.listing_in.Goals as goal

pub returns-in-Ok-clause-tells : goal.returns-in-Ok-clause-tells
returns-in-Ok-clause-tells c class is = listing_found c.args.text.now c.exactly_one.ensures class c.in-Ok.bytes.items c.in-Ok.ensures.bytes.0 c.in-Ok.ensures.bytes.1 is

pub returns-in-Err-At-clause-tells : goal.returns-in-Err-At-clause-tells
returns-in-Err-At-clause-tells c class is = listing_fault_found c.args.text.now c.exactly_one.ensures class c.in-Err-At.line c.in-Err-At.kind (subst (λ f. Assembles c.args.text.now (Err f)) c.in-Err-At.field-0-is c.in-Err-At.ensures.bytes) is
