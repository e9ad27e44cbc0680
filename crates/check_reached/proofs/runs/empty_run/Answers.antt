use Rattle.std.proofs.Common.{[], sym, subst}
use Rattle.check_terms.specs.Definitions.{no_texts}
use Rattle.check_reached.specs.Runs.{AreCalls, no_calls}
use Rattle.check_reached.proofs.runs.empty_run.Goals as goal

pub returns-clause-serves : goal.returns-clause-serves
returns-clause-serves c = λ t. record { numbers = []; parameters = no_texts; places = c.in_ok-slots.ensures; calls = subst (λ cs. AreCalls t cs []) (sym c.new-2.ensures.items) no_calls }
