use Rattle.std.proofs.Common.{◌≡◌, take}
use Rattle.cddl_tree.specs.States.{Stands}
use Rattle.cddl_tree.proofs.Whole.{reading}
use Rattle.cddl_tree.proofs.parser.parse.Given as goal

abbrev pub invariant-loop-token : goal.invariant-loop-token
invariant-loop-token l = Stands (reading l.tokens l.end) l.progress (take l.token-index l.tokens) × (l.index ≡ l.token-index)
