use Rattle.std.proofs.Common.{◌≤◌, ◌-◌, ◌+◌, ◌*◌, length}
use Rattle.table_nodes.specs.Language.{language_of}
use Rattle.cddl_match.specs.Machine.{IsRun, asked_in}
use Rattle.match_moves.specs.Views.{question_view}
use Rattle.cddl_match.proofs.deeper.replied_by_turns.Given as goal

-- The run began at the question. A turn takes a step, and asks one question more at most, or takes one off.
abbrev pub invariant-turns : goal.invariant-turns
invariant-turns l = record {
  run : IsRun (language_of l.fn.table) (question_view l.fn.question) l.run;
  within : l.run.taken ≤ l.fn.means.left;
}

abbrev pub decreases-turns : goal.decreases-turns
decreases-turns l = 2 * (l.fn.means.left - l.run.taken) + length (asked_in l.run.waiting.items)
