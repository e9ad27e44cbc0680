use Rattle.tree_nodes.specs.View.{view_rule}
use Rattle.cddl_tree.proofs.rules.after_body.Goals as goal
use Rattle.cddl_tree.specs.States.{view_rules}
use Rattle.cddl_tree.proofs.Bodies.{rule_ends, stays}

pub returns-in-Within : goal.returns-in-Within
returns-in-Within c read m h = stays read c.args.token.start c.within.result _ m c.within.ensures (rw (c.in-Ok.is, c.in-Within.is) at h)

pub returns-in-Ok-with_rule : goal.returns-in-Ok-with_rule
returns-in-Ok-with_rule c read m h = rule_ends read c.args.token.start c.args.token.kind (read c.args.token.leaf) c.next_rule.result (view_rules read c.args.rules.items) (view_rules read c.in-Ok-with_rule.rules.items) (view_rule read c.in-Ended.rule.value) m (c.in-Ok-with_rule.ensures read) (rw (c.in-Ok.is, c.in-Ended.is) at h) (c.next_rule.ensures read)

pub returns-in-Err-with_rule : goal.returns-in-Err-with_rule
returns-in-Err-with_rule c read m h = tt

pub returns-in-Err : goal.returns-in-Err
returns-in-Err c read m h = rw c.in-Err.is at h
