use Rattle.std.proofs.Common.{◌≡◌, ◌++◌, drop, map}
use Rattle.source_places.specs.States.{name_number}
use Rattle.source_places.proofs.sources.numbers_of.Given as goal

abbrev pub invariant-loop-meaning : goal.invariant-loop-meaning
invariant-loop-meaning l = l.numbers.items ++ map (name_number l.terms.rows) (drop l.meaning-index l.meanings) ≡ map (name_number l.terms.rows) l.meanings
