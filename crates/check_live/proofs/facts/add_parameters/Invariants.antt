use Rattle.std.proofs.Common.{◌≡◌, List, Some, slice_get}
use Rattle.check_terms.specs.declared.definition.Definition.{Definition}
use Rattle.check_live.specs.Facts.{IsPrepared}
use Rattle.check_live.proofs.facts.add_parameters.Given as goal

abbrev pub invariant-loop-place : goal.invariant-loop-place
invariant-loop-place l = (ds : List Definition) → slice_get ds l.rule ≡ Some l.definition → IsPrepared ds l.rule 0 l.fn.facts.numbers.keys l.fn.facts.implications.items → IsPrepared ds l.rule l.place l.facts.numbers.keys l.facts.implications.items
