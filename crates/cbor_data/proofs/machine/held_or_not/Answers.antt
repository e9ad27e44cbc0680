use Rattle.cbor_data.proofs.OfMachine.Embedding.{held_told, item_told}
use Rattle.cbor_data.proofs.machine.held_or_not.Goals as goal

pub returns-clause-list : goal.returns-clause-list
returns-clause-list c = held_told

pub returns-clause-single : goal.returns-clause-single
returns-clause-single c = item_told
