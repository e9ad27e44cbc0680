use Rattle.std.proofs.Common.{[], subst}
use Rattle.cbor_data.specs.Value.{uint}
use Rattle.seq_run.specs.Ends.{Accepts}
use Rattle.seq_run.proofs.Smalls.{smalls_taken_if}
use Rattle.seq_run.proofs.examiner.Examiner.take_marked.Goals as goal

pub returns-clause-taken : goal.returns-clause-taken
returns-clause-taken c =
    let s = c.self.inside in
    smalls_taken_if (λ n marked. subst (λ j. Accepts j (uint n) []) c.self.view_is (c.self.invariant n marked)) c.take_front.ensures.taken
