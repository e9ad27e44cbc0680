use Rattle.std.proofs.Common.{[], subst}
use Rattle.seq_run.specs.Ends.{Accepts}
use Rattle.seq_run.proofs.FirstBytes.{spelled_major}
use Rattle.seq_run.proofs.examiner.Examiner.accepts_taped.Goals as goal

pub returns-clause-accepted : goal.returns-clause-accepted
returns-clause-accepted c = λ told depth n whole. subst (λ j. Accepts j whole.value []) c.self.view_is (c.accepts-is_told.ensures told depth n whole)

pub returns-then-accepts_kind-clause-accepted : goal.returns-then-accepts_kind-clause-accepted
returns-then-accepts_kind-clause-accepted c = λ told depth n whole. c.accepts_kind.ensures c.if-accepts_kind.true whole.value (spelled_major whole.value c.args.bytes.now n whole.whole.spells)
