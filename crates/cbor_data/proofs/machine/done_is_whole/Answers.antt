use Rattle.std.proofs.Common.{[], ap, sym, ◌∙◌, append-nil}
use Rattle.cbor_data.specs.Forms.{flat}
use Rattle.cbor_data.specs.Machine.Machine.{item, steps}
use Rattle.cbor_data.proofs.OfMachine.Forward.{forward}
use Rattle.cbor_data.proofs.OfMachine.Keeping.{done_whole}
use Rattle.cbor_data.proofs.machine.done_is_whole.Goals as goal

pub returns-clause-sound : goal.returns-clause-sound
returns-clause-sound c = done_whole

pub returns-clause-complete : goal.returns-clause-complete
returns-clause-complete c = λ b w. ap (steps (item [])) (w.is ∙ sym (append-nil (flat w.written))) ∙ forward w.written [] [] w.ok
