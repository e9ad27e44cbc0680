use Rattle.cbor_data.proofs.EquivalenceLaws.{itself, back, onward}
use Rattle.cbor_data.proofs.equivalence.Goals as goal

pub returns : goal.returns
returns c = record { itself = itself; back = λ x y d. back d; onward = λ x y z d e. onward d e }
