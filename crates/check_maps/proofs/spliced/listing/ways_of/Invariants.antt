use Rattle.std.proofs.Common.{List, drop}
use Rattle.check_instances.specs.Closed.Closed.{IsClosed}
use Rattle.check_names.specs.Kinds.Kinds.{AreKinds}
use Rattle.cddl_language.specs.Terms as L
use Rattle.cddl_language.specs.Terms.{Ref, Text}
use Rattle.check_instances.specs.Openings.Endings.{AreEndings}
use Rattle.check_instances.specs.Openings.Openings.{AreOpenings}
use Rattle.check_maps.specs.Spliced.Spliced.{IsWay}
use Rattle.check_maps.proofs.OfSpliced.Walking.{IsGoing}
use Rattle.check_maps.proofs.spliced.listing.ways_of.Given as goal

abbrev pub invariant-loop-question : goal.invariant-loop-question
invariant-loop-question l = (xs : List L.Definition) (root : Text) (refs : List Ref) → IsClosed xs root refs l.terms l.closed → AreKinds l.terms.texts xs l.kinds → AreOpenings xs l.terms refs l.openings → AreEndings xs l.terms refs l.endings → IsGoing (IsWay xs root l.terms refs l.closed.places.items) l.asked (drop l.question-index l.asked) l.ways.items
