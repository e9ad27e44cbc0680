use Rattle.std.proofs.Common.{◌∙◌, sym, arith}
use Rattle.table_nodes.specs.Language.{language_of}
use Rattle.cddl_reasons.specs.Greedy.{greedy_of}
use Rattle.cddl_reasons.proofs.LastItems.{is_known, one_less}
use Rattle.cddl_reasons.proofs.greedy.is_greedy.Goals as goal

pub returns-in-Some : goal.returns-in-Some
returns-in-Some c = sym (is_known (greedy_of (language_of c.args.table.now)) c.args.below.now c.each.k _ c.in-Some.greedy c.open_at.result.now c.each.invariant (omega (arith, c.each-test.true)) c.open_at.ensures (sym c.greedy_of.ensures ∙ c.in-Some.is))

pub each-preserved : goal.each-preserved
each-preserved c = one_less (greedy_of (language_of c.args.table.now)) c.args.below.now c.each.k _ c.open_at.result.now c.each.invariant (omega (arith, c.each-test.true)) c.open_at.ensures (sym c.greedy_of.ensures ∙ c.in_default.is)
