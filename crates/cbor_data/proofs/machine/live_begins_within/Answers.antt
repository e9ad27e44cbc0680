use Rattle.cbor_data.proofs.OfMachine.Shallow.{leads_begins_within, refused_within}
use Rattle.cbor_data.proofs.machine.live_begins_within.Goals as goal

pub returns-clause-live : goal.returns-clause-live
returns-clause-live c = λ d b s are is. leads_begins_within d b s (record { are = are; is = is })

pub returns-clause-refused : goal.returns-clause-refused
returns-clause-refused c = refused_within
