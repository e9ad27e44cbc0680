use Rattle.source_places.proofs.Stepping.{no_number, no_number_at_all}
use Rattle.source_places.proofs.sources.TypesInText.rule_of.Goals as goal

pub loop-place-preserved : goal.loop-place-preserved
loop-place-preserved c = no_number c.args.self.now c.args.number c.loop-place.place c.deref-rule-items.result.now _ c.if-rule-number.false c.deref-rule-items.ensures.value c.loop-place-test.true c.loop-place.invariant

pub returns-clause-none : goal.returns-clause-none
returns-clause-none c = no_number_at_all c.args.self.now c.args.number c.loop-place.place c.deref-rule-items.result.now c.deref-rule-items.ensures.value c.loop-place-test.false c.loop-place.invariant
