use Rattle.cbor_data.proofs.OfMachine.Forward.{refused}
use Rattle.cbor_data.proofs.OfMachine.Refusing.{leads_begins}
use Rattle.cbor_data.proofs.machine.live_begins.Goals as goal

pub returns-clause-live : goal.returns-clause-live
returns-clause-live c = λ b s are is. leads_begins b s (record { are = are; is = is })

pub returns-clause-refused : goal.returns-clause-refused
returns-clause-refused c = refused
