use Rattle.std.proofs.Common.{arith}
use Rattle.std.proofs.lemmas.Bool.{leb-true}
use Rattle.seq_run.proofs.Accepting.{told_accepted}
use Rattle.seq_run.proofs.examiner.Examiner.accepts_kind.Goals as goal

pub returns-in-Yes : goal.returns-in-Yes
returns-in-Yes c =
    let s = c.self.inside in
    λ t. told_accepted s.table.now c.root.result s.steps c.in-Yes.judgements _ c.told.result c.args.self.now c.self.view_is c.root.ensures c.in-Yes.is c.told.ensures.says (omega (arith, leb-true c.from.result s.steps t, c.from.ensures))
