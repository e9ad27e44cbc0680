use Rattle.std.proofs.Common.{◌≡◌, length, ap, ◌∙◌}
use Rattle.tree_nodes.specs.declared.tree.GenericArg.{GenericArg}
use Rattle.tree_nodes.specs.declared.tree.GrpEnt.TheViews.{out-GenericArg}
use Rattle.check_sites.proofs.OfSites.Asked.{count_of_name, count_of_applied}
use Rattle.check_sites.proofs.sites.parts.argument_count.Goals as goal

pub returns-in-Name : goal.returns-in-Name
returns-in-Name c = λ read. count_of_name read c.args.name.now c.in-Name.field-0 c.in-Name.is

pub returns-in-Applied : goal.returns-in-Applied
returns-in-Applied c =
    let others = (out-GenericArg c.deref.result.now).others in
    let count : c.len.result ≡ length (out-GenericArg c.in-Applied.arguments.value).others.items =
    c.len.ensures ∙ others.ok.0 ∙ ap (λ (a : GenericArg). length (out-GenericArg a).others.items) c.deref.ensures
    in
    λ read.
    count_of_applied read c.args.name.now c.in-Applied.opening c.in-Applied.arguments c.in-Applied.closing c.len.result c.in-Applied.is count
