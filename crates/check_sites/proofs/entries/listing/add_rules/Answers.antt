use Rattle.std.proofs.Common.{refl}
use Rattle.tree_nodes.specs.declared.tree.Rule.{Rule}
use Rattle.check_sites.proofs.OfEntries.Adding.{continues_first, continues_last, continues_next}
use Rattle.check_sites.proofs.OfEntries.Looping.{next_rule, no_rule, rule_from, rules_from}
use Rattle.check_sites.proofs.entries.listing.add_rules.Goals as goal

pub loop-rule-init : goal.loop-rule-init
loop-rule-init c = continues_first Rule rules_from _ _

pub loop-rule-preserved : goal.loop-rule-preserved
loop-rule-preserved c = continues_next Rule rules_from _ _ _ rule_from next_rule _ _ c.index-rules-rule.result c.loop-rule-test.true c.index-rules-rule.is c.in_ok-add_rule.ensures c.loop-rule.invariant

pub returns : goal.returns
returns c = continues_last Rule rules_from _ _ _ no_rule _ _ c.loop-rule-test.false refl c.loop-rule.invariant
