use Rattle.std.proofs.Common.{drop, map, vec_items}
use Rattle.cddl_language.specs.Maps.{Alternatives}
use Rattle.check_groups.specs.Splices.Maps.{AreAlternatives}
use Rattle.table_making.specs.Basis.{Sense}
use Rattle.table_making.specs.Origins.{AreKnownAlternatives}
use Rattle.table_making.proofs.Mapping.{MapPairing}
use Rattle.table_making.proofs.maps.map_forms.Given as goal

abbrev pub invariant-loop-members : goal.invariant-loop-members
invariant-loop-members l = (s : Sense) (mss : Alternatives) → AreAlternatives l.terms mss (map vec_items l.alternatives) → AreKnownAlternatives s mss → MapPairing s l.terms mss (drop l.members-index l.alternatives) l.forms.items
