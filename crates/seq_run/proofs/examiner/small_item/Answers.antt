use Rattle.std.proofs.Common.{arith}
use Rattle.seq_run.proofs.Small.{small_item}
use Rattle.seq_run.proofs.examiner.small_item.Goals as goal

pub try_spelled-requires-clause-spelled : goal.try_spelled-requires-clause-spelled
try_spelled-requires-clause-spelled c = small_item c.from.result (omega (arith, c.from.ensures, c.requires))
