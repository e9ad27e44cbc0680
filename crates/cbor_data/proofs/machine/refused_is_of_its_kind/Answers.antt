use Rattle.cbor_data.proofs.OfMachine.Refusing.{refused_is_kind}
use Rattle.cbor_data.proofs.machine.refused_is_of_its_kind.Goals as goal

pub returns : goal.returns
returns c = λ b s x are is live small e. refused_is_kind b s x (record { are = are; is = is }) live small e
