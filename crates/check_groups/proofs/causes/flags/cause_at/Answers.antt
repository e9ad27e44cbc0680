use Rattle.check_groups.proofs.causes.flags.cause_at.Goals as goal

pub returns : goal.returns
returns c xs root refs k = record { row = c.row_at-row.result; same = c.cause_of.ensures; stands = c.row_at-row.ensures xs root refs k }
