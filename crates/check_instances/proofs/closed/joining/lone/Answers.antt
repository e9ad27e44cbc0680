use Rattle.std.proofs.Common.{Some}
use Rattle.std.proofs.lemmas.Result.{IfOk-weaker}
use Rattle.cddl_language.specs.Terms.{lone, no_entries, sole}
use Rattle.check_terms.specs.Table.{no_part, nothing}
use Rattle.check_terms.specs.Trees.{entries_tree, entry_tree}
use Rattle.check_instances.specs.Closed.Closed.{alternatives_of}
use Rattle.check_instances.proofs.closed.joining.lone.Goals as goal

pub returns-clause-stands : goal.returns-clause-stands
returns-clause-stands c =
    let keeps = c.growing_keeps.ensures.tree c.args.terms.now c.add.new.terms c.in_ok-none.ensures.grows in
    IfOk-weaker c.add-3.result _ _ (λ n h x is. alternatives_of (sole (lone x)) (h (entries_tree (lone x)) nothing (c.in_ok-one.ensures.stands (entries_tree no_entries) (entry_tree x) (c.in_ok-none.ensures.stands nothing nothing no_part no_part) (keeps (Some c.args.entry) (entry_tree x) is)) no_part)) c.add-3.ensures.stands
