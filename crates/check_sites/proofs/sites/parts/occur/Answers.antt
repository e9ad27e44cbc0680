use Rattle.check_sites.proofs.OfSites.Asked.{occur_of_typed, occur_of_keyed, occur_of_grouped}
use Rattle.check_sites.proofs.sites.parts.occur.Goals as goal

pub returns-in-Typed : goal.returns-in-Typed
returns-in-Typed c = λ read. occur_of_typed read c.args.entry.now c.in-Typed.occur c.in-Typed.types c.in-Typed.is

pub returns-in-Keyed : goal.returns-in-Keyed
returns-in-Keyed c =
    λ read. occur_of_keyed read c.args.entry.now c.in-Keyed.occur c.in-Keyed.key c.in-Keyed.types c.in-Keyed.is

pub returns-in-Grouped : goal.returns-in-Grouped
returns-in-Grouped c =
    λ read.
    occur_of_grouped read c.args.entry.now c.in-Grouped.occur c.in-Grouped.opening c.in-Grouped.group c.in-Grouped.closing c.in-Grouped.is
