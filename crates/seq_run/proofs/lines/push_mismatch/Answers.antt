use Rattle.std.proofs.Common.{ap, ◌∙◌, ◌++◌}
use Rattle.seq_run.specs.Report.{or_nothing}
use Rattle.seq_run.proofs.Appending.{four_parts, shown_there}
use Rattle.seq_run.proofs.lines.push_mismatch.Goals as goal

pub returns : goal.returns
returns c =
    four_parts _ _ _ _ _ _ _ _ _ c.in_ok-extend_from_slice.ensures.items c.in_ok-push_path.ensures c.in_ok-extend_from_slice-2.ensures.items
    (c.in_ok-push_found.ensures ∙ ap (λ o. c.extend_from_slice-2.new.self.items ++ or_nothing o) (shown_there c.item_at.result _ c.item_at.ensures))
