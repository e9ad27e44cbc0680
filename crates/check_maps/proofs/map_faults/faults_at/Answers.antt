use Rattle.check_maps.specs.MapFaults.Large.{HasLarge, IsLarge}
use Rattle.check_maps.proofs.OfMapFaults.Flags.{either_set}
use Rattle.check_maps.proofs.map_faults.faults_at.Goals as goal

pub returns : goal.returns
returns c are large inside =
    let parts = c.args.parts.now in
    record {
      lacks_key = c.is_refused.ensures;
      occurs_badly = c.occurs_badly.ensures are;
      has_too_many = either_set (IsLarge parts) (HasLarge parts) parts c.args.large.now c.args.inside.now large inside c.args.number c.is_set.result c.is_set-2.result c.is_set.ensures c.is_set-2.ensures;
    }
