use Rattle.std.proofs.Common.{refl}
use Rattle.table_nodes.specs.Codes.{mixed}
use Rattle.table_nodes.proofs.codes.mixed.Goals as goal

pub returns : goal.returns
unfolding mixed
returns c = refl
