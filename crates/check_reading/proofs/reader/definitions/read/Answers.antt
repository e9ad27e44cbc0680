use Rattle.std.proofs.Common.{sym, subst}
use Rattle.check_reading.proofs.OfReader.Defining.{AreSoFar, all_so_far, none_so_far, one_more_so_far}
use Rattle.check_reading.proofs.OfReader.Growing.{grown}
use Rattle.check_reading.proofs.reader.definitions.read.Goals as goal

pub loop-rule-init : goal.loop-rule-init
loop-rule-init c = record {
  grows = record { texts = λ n x e. e; rows = λ n r e. e };
  are = subst (λ ds. AreSoFar c.args.tree.now c.args.terms.now ds c.deref-rule-items.result.now 0) (sym c.new-definitions.ensures.items) (none_so_far c.args.tree.now c.args.terms.now c.deref-rule-items.result.now c.deref-rule-items.ensures.value);
}

pub returns-in_err-definition-clause-grows : goal.returns-in_err-definition-clause-grows
returns-in_err-definition-clause-grows c = grown _ _ _ c.loop-rule.invariant.grows c.in_err-definition.ensures.grows

pub returns-in_err-push_last-clause-grows : goal.returns-in_err-push_last-clause-grows
returns-in_err-push_last-clause-grows c = grown _ _ _ c.loop-rule.invariant.grows c.in_ok-definition.ensures.grows

pub loop-rule-preserved : goal.loop-rule-preserved
loop-rule-preserved c = record {
  grows = grown _ _ _ c.loop-rule.invariant.grows c.in_ok-definition.ensures.grows;
  are = one_more_so_far c.args.tree.now c.loop-rule.terms c.read_rule.new.terms c.loop-rule.definitions.items c.push_last.new.list.items c.in_ok-definition.definition c.deref-rule-items.result.now c.loop-rule.rule-index c.rule-item.result c.loop-rule-test.true c.rule-item.is c.loop-rule.invariant.are c.in_ok-definition.ensures.grows c.in_ok-definition.ensures.definition c.in_ok-push_last.ensures;
}

pub returns-clause-definitions : goal.returns-clause-definitions
returns-clause-definitions c = all_so_far c.args.tree.now c.loop-rule.terms c.loop-rule.definitions.items c.deref-rule-items.result.now c.loop-rule.rule-index c.loop-rule-test.false c.loop-rule.invariant.are
