use Rattle.et_part_tests.proofs.links.read.Goals as goal

pub returns-clause-of_file : goal.returns-clause-of_file
returns-clause-of_file c = record { bytes = c.args.source.now; are_bytes = λ i. (c.type_inv.source i).fits; is = c.in_ok-file.ensures.0 }
