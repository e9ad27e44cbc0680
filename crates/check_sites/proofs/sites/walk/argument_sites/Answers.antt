use Rattle.std.proofs.Common.{List, ◌++◌, map, true, false, ap, ◌∙◌}
use Rattle.cddl_language.specs.Sites.{in_type1}
use Rattle.tree_nodes.specs.View.{view_type1}
use Rattle.check_sites.specs.Sites.View.{view_found}
use Rattle.check_sites.specs.Sites.Walk.{placed}
use Rattle.check_sites.specs.declared.sites.site.Found.{Found}
use Rattle.check_sites.proofs.sites.walk.argument_sites.Goals as goal

pub returns : goal.returns
returns c read = c.in_ok-add_type1.ensures.each true read ∙ ap (λ (fs : List Found). map (view_found read) fs ++ placed c.args.rule (in_type1 false true (view_type1 read c.args.argument.now))) c.new-found.ensures.items
