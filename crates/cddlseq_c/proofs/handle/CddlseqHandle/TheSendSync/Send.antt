use denote.Struct.Struct.{exits_of}
use denote.Struct.Owning.{shape, fields, to}
use denote.Param.Send.{IsSend, AllSend, owning_send, struct_send, sendable}
use Rattle.std_alloc.proofs.SendSync.{quiet}
use Rattle.std_heap.proofs.Global.TheSendSync as allocator
use Rattle.cddlseq_c.specs.contracts.ready.Ready as Ready
use Rattle.cddlseq_c.specs.contracts.handle.CddlseqHandle.{the_row, the_type}
use Rattle.cddlseq_c.proofs.Crossing.{owned_crosses, ready_send}

pub send : IsSend the_row
send =
    let all : AllSend (fields the_type) = (search sendable, (allocator.the_field_send, tt)) in
    owning_send the_type all (λ d. owned_crosses Ready.the_row ready_send d.alloc d.at d.value)
    (λ k. quiet (to the_type) (exits_of k (fields the_type)) ((struct_send (shape the_type) all).leaving k))
