use Rattle.std.proofs.Common.{option_copied}
use Rattle.seq_run.proofs.Reporting.{shown_lent}
use Rattle.seq_run.proofs.running.take_piece.Goals as goal

pub push_end-requires : goal.push_end-requires
push_end-requires c =
    shown_lent c.shows_inside.ensures c.args.piece.now c.take_items.new.session c.in-Ended.end (option_copied c.rejected.result) (rw c.in-Ended.is at c.in_ok-take_items.ensures.decided) c.rejected.ensures
