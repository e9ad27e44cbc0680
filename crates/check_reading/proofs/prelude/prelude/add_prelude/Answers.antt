use Rattle.check_reading.proofs.prelude.prelude.add_prelude.Goals as goal

pub returns-clause-definitions : goal.returns-clause-definitions
returns-clause-definitions c = rw c.lines.ensures at c.add_lines.ensures.definitions
