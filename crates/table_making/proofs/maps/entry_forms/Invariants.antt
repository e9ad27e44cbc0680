use Rattle.std.proofs.Common.{List, drop}
use Rattle.cddl_meaning.specs.Alike.{AlikeAll}
use Rattle.cddl_language.specs.Maps as M
use Rattle.check_groups.specs.Splices.Maps.{IsMember}
use Rattle.table_making.specs.Basis.{Sense}
use Rattle.table_making.specs.Origins.{AreKnownMembers}
use Rattle.table_making.proofs.Mapping.{MemberPairing}
use Rattle.table_making.proofs.maps.entry_forms.Given as goal

abbrev pub invariant-loop-member : goal.invariant-loop-member
invariant-loop-member l = (s : Sense) (ms : List M.Member) → AlikeAll (IsMember l.terms) ms l.members → AreKnownMembers s ms → MemberPairing s l.terms ms (drop l.member-index l.members) l.forms.items
