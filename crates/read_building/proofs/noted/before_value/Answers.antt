use Rattle.std.proofs.Common.{◌≡◌, ap, arith}
use Rattle.cbor_data.specs.Machine.Machine as machine
use Rattle.read_building.proofs.Containers.{twice_is}
use Rattle.read_building.proofs.noted.before_value.Goals as goal

pub returns : goal.returns
returns c = let e = twice_is c.args.left in let f : c.from.result ≡ c.args.left = c.from.ensures in ap machine.rest (omega arith)
