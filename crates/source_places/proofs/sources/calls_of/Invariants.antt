use Rattle.std.proofs.Common.{◌≡◌, ◌++◌, drop, map}
use Rattle.source_places.specs.Sources.{call_of}
use Rattle.source_places.proofs.sources.calls_of.Given as goal

abbrev pub invariant-loop-meaning : goal.invariant-loop-meaning
invariant-loop-meaning l = l.calls.items ++ map call_of (drop l.meaning-index l.meanings) ≡ map call_of l.meanings
