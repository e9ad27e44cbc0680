use Rattle.check_instances.specs.Closed.Closed.{IsMeaning}
use Rattle.check_instances.proofs.OfClosed.Alike.{alike_at}
use Rattle.check_instances.proofs.closed.laws.meaning_at.Goals as goal

pub returns : goal.returns
returns c = λ xs root refs t v k r is e. alike_at (IsMeaning xs t) refs v.meanings.items is.meanings k r e
