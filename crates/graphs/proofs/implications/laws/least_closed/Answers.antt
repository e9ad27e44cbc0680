use Rattle.std.proofs.Common.{◌≡◌, true}
use Rattle.graphs.proofs.OfImplications.Least.{least, closed}
use Rattle.graphs.proofs.implications.laws.least_closed.Goals as goal

pub returns-clause-least : goal.returns-clause-least
returns-clause-least c = λ facts is holds h x f. least facts is (λ y. holds y ≡ true) h x f

pub returns-clause-closed : goal.returns-clause-closed
returns-clause-closed c = λ facts is. closed facts is
