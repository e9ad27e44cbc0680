use Rattle.std.specs.Prelude.{vec_len}
use Rattle.match_moves.proofs.Lists.{none_begun}
use Rattle.match_moves.proofs.counts.begin_many.Goals as goal

pub returns : goal.returns
returns c = none_begun c.args.entries c.clear.new.self.items c.resize.new.self.items (vec_len c.clear.new.self) c.clear.ensures.items c.clear.ensures.len c.in_ok-resize.ensures.items
