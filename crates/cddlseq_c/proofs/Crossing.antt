-- What is in the boxes of handles may go to another thread.
use Rattle.std.specs.Prelude.{Option, Some, None}
use mir.Raw.{raw}
use base.Shift.{Keyless}
use denote.Memory.{lone}
use denote.Param.Send.{IsSend, sendable}
use denote.RattleType.{RattleType}
use denote.RawPtr.{Ptr}
use Rattle.std.proofs.Crossing.{crosses}
use Rattle.std.proofs.Crossing as heap
use Rattle.std_alloc.proofs.SendSync.{lies}
use Rattle.std_heap.specs.contracts.GlobalAllocator.TheImpl.{ghosts}
use Rattle.std_heap.specs.declared.Global.{Global}
use Rattle.seq_run.proofs.Crossing.{owned_send, sound_send, table_send, table_sync}
use Rattle.cddlseq_c.specs.Owned.{may_own}
use Rattle.cddlseq_c.specs.contracts.feeding.Feeding as Feeding
use Rattle.cddlseq_c.specs.contracts.ready.Ready as Ready

pub ready_send : IsSend Ready.the_row
ready_send = search (table_send, table_sync, crosses, sendable) depth 60 fits 20000

pub feeding_send : IsSend Feeding.the_row
feeding_send = search (owned_send, sound_send, crosses, sendable) depth 60 fits 20000

-- what a handle owns says the same to every thread
pub owned_crosses : (R : RattleType) → IsSend R → (a : Global) (p : Ptr) (v : Option R.Denot) → Keyless (may_own (ghosts.dealloc_token a) R p v)
owned_crosses R s a p None = tt
owned_crosses R s a p (Some x) = (lies R s p x, heap.frees.frees a (raw (lone R.mir)) p)
