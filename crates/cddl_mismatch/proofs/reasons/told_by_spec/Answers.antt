use Rattle.std.proofs.lemmas.Result.{IfOk-weaker}
use Rattle.cddl_mismatch.proofs.reasons.told_by_spec.Goals as goal

pub returns : goal.returns
returns c =
    IfOk-weaker c.told_by.result _ _
    (λ told h. record {
      table = c.in_ok-sourced.sourced.table;
      sources = c.in_ok-sourced.sourced.sources;
      is_table = c.in_ok-sourced.ensures.stands;
      are_sources = c.in_ok-sourced.ensures.sources;
      is_told = h;
    })
    c.told_by.ensures
