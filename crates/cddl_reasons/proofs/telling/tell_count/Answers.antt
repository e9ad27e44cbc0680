use Rattle.match_moves.specs.Views.{question_view}
use Rattle.table_nodes.specs.Language.{language_of}
use Rattle.table_nodes.specs.Nodes.{entries_view, entry_view}
use Rattle.cddl_reasons.proofs.Tellings.{counted_cause}
use Rattle.cddl_reasons.proofs.telling.tell_count.Goals as goal

pub returns : goal.returns
returns c = λ first i at a. c.in_ok-tell_cause.ensures first (counted_cause (language_of c.args.table.now) (question_view c.args.run.now.last.question) c.args.far (entry_view c.args.entry.now) (entries_view c.args.others.now) c.in-Some.cause i c.in-Some.ensures) at a
