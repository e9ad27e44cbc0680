use Rattle.seq_run.proofs.output.push_taped.Goals as goal

pub returns-in-Report : goal.returns-in-Report
returns-in-Report c = rw c.in-Report.is c.push_taped_line.ensures
