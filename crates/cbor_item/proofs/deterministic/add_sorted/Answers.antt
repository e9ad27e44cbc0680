use Rattle.std.proofs.Common.{◌++◌, ap, ◌∙◌}
use Rattle.cbor_data.specs.Value.{pairs}
use Rattle.cbor_data.proofs.Lemmas.{valid_apart}
use Rattle.cbor_item.proofs.Adding.{ok_then}
use Rattle.cbor_item.proofs.Sorted.{sorted_joined}
use Rattle.cbor_item.proofs.deterministic.add_sorted.Goals as goal

pub returns : goal.returns
returns c =
    let es = c.in_ok-entries.entries.items in
    let fs = c.sort_unstable.new.self.items in
    ok_then c.add_entries.result (λ h ps w v are. h ∙ ap (λ b. c.args.out.now.items ++ b) (sorted_joined ps es fs w (valid_apart (pairs ps) v) (c.in_ok-entries.ensures ∙ are) c.sort_unstable.ensures.permutation c.sort_unstable.ensures.sorted)) c.add_entries.ensures
