use Rattle.std.proofs.Common.{◌∙◌}
use Rattle.tree_nodes.specs.View.{token_of}
use Rattle.check_sites.proofs.OfSites.Asked.{token_of_name, token_of_applied}
use Rattle.check_sites.proofs.sites.parts.name_token.Goals as goal

pub returns-in-Name : goal.returns-in-Name
returns-in-Name c =
    c.token.ensures ∙ token_of_name (token_of c.args.tree.now) c.args.name.now c.in-Name.token c.in-Name.is

pub returns-in-Applied : goal.returns-in-Applied
returns-in-Applied c =
    c.token-in-Applied.ensures
    ∙ token_of_applied (token_of c.args.tree.now) c.args.name.now c.in-Applied.opening c.in-Applied.arguments c.in-Applied.closing c.in-Applied.is
