use Rattle.cbor_data.proofs.OfMachine.OneFault.{one}
use Rattle.cbor_data.proofs.machine.one_fault.Goals as goal

pub returns : goal.returns
returns c = one
