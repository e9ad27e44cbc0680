use Rattle.check_groups.proofs.OfSplices.Alike.{refused_alike}
use Rattle.check_groups.proofs.splices.laws.groups_occur_alike.Goals as goal

pub returns : goal.returns
returns c t o b h mss nss a = refused_alike t o b h mss nss a
