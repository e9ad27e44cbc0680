use Rattle.table_making.proofs.Mapping.{key_there}
use Rattle.table_making.proofs.maps.key_at.Goals as goal

pub returns-in-Some-key_of : goal.returns-in-Some-key_of
returns-in-Some-key_of c s k is re = key_there s c.args.terms.now c.args.number k c.in-Some.row c.in-Some-key_of.form c.in-Some.ensures c.in-Some-key_of.ensures is re
