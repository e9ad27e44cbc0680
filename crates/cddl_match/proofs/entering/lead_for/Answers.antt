use Rattle.table_nodes.specs.Language.{language_of}
use Rattle.table_nodes.specs.Nodes.{entries_view}
use Rattle.cddl_match.proofs.entering.lead_for.Goals as goal

pub returns-in_ok-before-in-None : goal.returns-in_ok-before-in-None
returns-in_ok-before-in-None c = λ ways some e b alike led. c.narrowed.ensures (language_of c.args.table.now) some (entries_view c.args.entries.now) alike (rw c.in_ok-before-in-None.was at led)
