use Rattle.std.proofs.Common.{◌≡◌, List, length}
use Rattle.cddl_language.specs.Terms as L
use Rattle.cddl_language.specs.Terms.{Ref, Text}
use Rattle.check_names.specs.Kinds.Kinds.{AreKinds}
use Rattle.check_instances.specs.Closed.Closed.{IsClosed}
use Rattle.check_instances.specs.Openings.Endings.{AreEndings}
use Rattle.check_instances.specs.Openings.Openings.{AreOpenings}
use Rattle.check_maps.specs.MapCycles.Coming.{AreTargets}
use Rattle.check_maps.proofs.map_cycles.targets.targets_of.Given as goal

abbrev pub invariant-loop-row : goal.invariant-loop-row
invariant-loop-row l = record {
  count : length l.targets.items ≡ l.row;
  told : (xs : List L.Definition) (root : Text) (refs : List Ref) → IsClosed xs root refs l.terms l.closed → AreKinds l.terms.texts xs l.kinds → AreOpenings xs l.terms refs l.openings → AreEndings xs l.terms refs l.endings → AreTargets xs root refs l.terms l.row l.targets.items;
}
