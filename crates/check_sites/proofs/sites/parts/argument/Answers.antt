use Rattle.check_sites.proofs.OfSites.Asked.{argument_of_applied, argument_of_name}
use Rattle.check_sites.proofs.sites.parts.argument.Goals as goal

pub returns-in-Name : goal.returns-in-Name
returns-in-Name c read = argument_of_name read c.args.name.now c.in-Name.field-0 c.args.place c.in-Name.is

pub returns-in-Applied : goal.returns-in-Applied
returns-in-Applied c read = argument_of_applied read c.args.name.now c.in-Applied.opening c.in-Applied.arguments c.in-Applied.closing _ c.args.place _ c.in-Applied.is c.deref.ensures (c.argument_at.ensures read)
