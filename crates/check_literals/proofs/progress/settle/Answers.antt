use Rattle.check_literals.proofs.Stepping.{settled}
use Rattle.check_literals.proofs.progress.settle.Goals as goal

pub returns : goal.returns
returns c = settled c.args.terms.now c.args.needs.now c.args.row c.requires.row c.in_ok-found.found c.args.known.now c.put.new.known c.requires.known c.in_ok-found.ensures.fit c.in_ok-found.ensures.told c.put.result c.put.ensures
