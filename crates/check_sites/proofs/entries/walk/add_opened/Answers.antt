use Rattle.std.proofs.Common.{option_map, sym, ap, ◌∙◌}
use Rattle.tree_nodes.specs.View.{view_group}
use Rattle.check_sites.specs.Entries.Entries.{some_inside}
use Rattle.check_sites.proofs.OfEntries.Adding.{adds_as, adds_none, on_ok}
use Rattle.check_sites.proofs.entries.walk.add_opened.Goals as goal

pub returns-in-Some : goal.returns-in-Some
returns-in-Some c = on_ok c.add_group.result _ _ (adds_as _ (λ read. ap some_inside (sym (c.opened_group.ensures read) ∙ ap (option_map (λ g. view_group read g.now)) c.in-Some.is))) c.add_group.ensures

pub returns-in-None : goal.returns-in-None
returns-in-None c = adds_none _ _ _ (λ read. ap some_inside (sym (c.opened_group.ensures read) ∙ ap (option_map (λ g. view_group read g.now)) c.in-None.is))
