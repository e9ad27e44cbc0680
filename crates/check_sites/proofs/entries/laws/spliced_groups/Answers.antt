use Rattle.check_sites.proofs.OfEntries.Splicing.{each_spliced, every_spliced}
use Rattle.check_sites.proofs.entries.laws.spliced_groups.Goals as goal

pub returns-clause-each : goal.returns-clause-each
returns-clause-each c = each_spliced

pub returns-clause-every : goal.returns-clause-every
returns-clause-every c = every_spliced
