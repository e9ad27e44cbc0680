use Rattle.std.proofs.Common.{length}
use Rattle.cbor_data.specs.Preferred.{shortest_head}
use Rattle.cbor_item.specs.Gone.{state_of, Goes}
use Rattle.cbor_item.proofs.Goes.{goes_on}
use Rattle.cbor_item.proofs.write.write_string.Goals as goal

pub returns : goal.returns
returns g c =
    let old = state_of g.W.Write.contents c.args.out.now in
    let mid = state_of g.W.Write.contents c.write_shortest.new.out in
    let new = state_of g.W.Write.contents c.write_part.new.out in
    goes_on old mid new c.args.before c.in_ok-after.after (shortest_head c.args.major (length c.args.bytes.now)) c.args.bytes.now c.write_part.result c.in_ok-after.ensures c.write_part.ensures
