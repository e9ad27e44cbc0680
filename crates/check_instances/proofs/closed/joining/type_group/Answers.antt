use Rattle.std.proofs.Common.{None}
use Rattle.std.proofs.lemmas.Result.{IfOk-weaker}
use Rattle.cddl_language.specs.Terms.{typed}
use Rattle.check_terms.specs.Table.{no_part, nothing}
use Rattle.check_terms.specs.Trees.{term_tree}
use Rattle.check_instances.proofs.closed.joining.type_group.Goals as goal

pub returns-clause-stands : goal.returns-clause-stands
returns-clause-stands c = IfOk-weaker c.lone.result _ _ (λ n f x h. f (typed None x) (c.in_ok-entry.ensures.stands (term_tree x) nothing h no_part)) c.lone.ensures.stands
