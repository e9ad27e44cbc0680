use Rattle.std.proofs.Common.{map}
use Rattle.check_literals.specs.Found.{AreTold}
use Rattle.check_literals.specs.Needs.{need_view}
use Rattle.check_literals.proofs.progress.progress_of.Given as goal

abbrev pub invariant-loop-row : goal.invariant-loop-row
invariant-loop-row l = AreTold l.terms (map need_view l.needs) l.order l.row-index l.known
