use Rattle.std.proofs.Common.{ap, sym, ◌∙◌}
use Rattle.seq_run.specs.Progress.{Progress}
use Rattle.seq_run.proofs.Steps.{answered}
use Rattle.seq_run.proofs.session.Session.feed_one.Goals as goal

pub returns-in-None : goal.returns-in-None
returns-in-None c =
    answered c.args.self.now c.args.piece.now c.take_next.result c.take_next.new.self (ap (λ (p : Progress). p.stopped) (sym c.self.view_is) ∙ c.in-None.is) c.take_next.ensures
