use Rattle.std.proofs.Common.{arith}
use Rattle.cbor_data.proofs.Lemmas.{preferred_len}
use Rattle.item_nodes.specs.View.{view}
use Rattle.cbor_item.proofs.length.check_length.Goals as goal

pub returns-else-count-2-clause-err : goal.returns-else-count-2-clause-err
returns-else-count-2-clause-err c = λ h. absurd (omega (arith, preferred_len (view c.args.item.now) h.spelling h.spells, h.short, c.count_bytes-count.ensures))
