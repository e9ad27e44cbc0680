use Rattle.cddl_match.specs.Machine.{root_question}
use Rattle.cddl_reasons.specs.Told.{AreSome}
use Rattle.table_nodes.specs.Language.{language_of}
use Rattle.cddl_reasons.proofs.collecting.all_reasons.Given as goal

abbrev pub invariant-passes : goal.invariant-passes
invariant-passes l = AreSome (language_of l.fn.table) (root_question l.fn.table l.fn.item) l.fn.most l.found.list.items
