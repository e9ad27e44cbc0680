use Rattle.command_line.proofs.Devices.{kept_or_rose}
use Rattle.command_line.proofs.lines.put.Goals as goal

pub returns-clause-count : goal.returns-clause-count
returns-clause-count g c = kept_or_rose c.write_bytes.result _ _ c.write_bytes.ensures.count c.write_bytes.ensures.failed
