use Rattle.source_pieces.proofs.Firsts.{HasFirst}
use Rattle.source_pieces.proofs.walk.nodes.Given as goal

abbrev pub invariant-loop-rule : goal.invariant-loop-rule
invariant-loop-rule l = HasFirst l.node-items l.found.items l.rule
