use Rattle.cbor_read.proofs.laws.one_fault.Goals as goal

pub returns : goal.returns
returns c = c.one_fault.ensures
