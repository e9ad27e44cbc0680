use Rattle.std.proofs.Common.{◌+◌, map, slice_index_or}
use Rattle.seq_run.specs.FoundItem.{found_of}
use Rattle.seq_run.specs.declared.session.FoundItem.TheVariants.{Small}
use Rattle.seq_run.proofs.Smalls.{notes_more}
use Rattle.seq_run.proofs.Steps.{noted}
use Rattle.seq_run.proofs.session.note_smalls.Goals as goal

pub loop-at-preserved : goal.loop-at-preserved
loop-at-preserved c =
    notes_more c.args.offset c.args.numbers.now c.loop-at.at c.loop-at-test.true (map found_of c.args.taken.now) (map found_of c.loop-at.taken) (map found_of c.push.new.self) c.loop-at.invariant
    (noted c.loop-at.taken (Small (c.args.offset + c.loop-at.at) (slice_index_or c.args.numbers.now c.loop-at.at 0)) c.push.new.self c.push.ensures)
