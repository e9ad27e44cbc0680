use Rattle.cddl_match.specs.Machine.{root_question}
use Rattle.cddl_reasons.specs.Opened.{IsOpen}
use Rattle.cddl_reasons.specs.Told.{AreSome}
use Rattle.table_nodes.specs.Language.{language_of}
use Rattle.cddl_reasons.proofs.collecting.pass_in.Given as goal

abbrev pub invariant-turns : goal.invariant-turns
invariant-turns l = record {
  opened : IsOpen (language_of l.fn.table) (root_question l.fn.table l.fn.item) l.run;
  found : AreSome (language_of l.fn.table) (root_question l.fn.table l.fn.item) l.fn.aim.most l.found.list.items;
}
