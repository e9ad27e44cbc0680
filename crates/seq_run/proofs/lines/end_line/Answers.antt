use Rattle.seq_run.proofs.Appending.{seven_parts, from_nothing}
use Rattle.seq_run.proofs.lines.end_line.Goals as goal

pub returns-in_ok-extend_from_slice-in-Failed-4 : goal.returns-in_ok-extend_from_slice-in-Failed-4
returns-in_ok-extend_from_slice-in-Failed-4 c =
    rw c.in-Failed.is (from_nothing c.new-line.result.items _ _ c.new-line.ensures.items
    (seven_parts _ _ _ _ _ _ _ _ _ _ _ _ _ _ _ c.in_ok-extend_from_slice-in-Failed.ensures.items c.in_ok-push_number-in-Failed.ensures c.in_ok-extend_from_slice-in-Failed-2.ensures.items c.in_ok-push_number-in-Failed-2.ensures
    c.in_ok-extend_from_slice-in-Failed-3.ensures.items c.in_ok-push_cause-in-Failed.ensures c.in_ok-extend_from_slice-in-Failed-4.ensures.items))
