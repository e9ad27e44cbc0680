use Rattle.check_live.specs.Facts.{IsPrepared}
use Rattle.check_live.proofs.facts.facts_of.Given as goal

abbrev pub invariant-loop-rule : goal.invariant-loop-rule
invariant-loop-rule l = IsPrepared l.definitions l.rule 0 l.facts.numbers.keys l.facts.implications.items
