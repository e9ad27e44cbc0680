use Rattle.std.proofs.Common.{List, ◌++◌, map, sym, ap, ◌∙◌}
use Rattle.cddl_language.specs.Reading.{rules_of}
use Rattle.tree_nodes.specs.View.{token_of, view, view_rule}
use Rattle.check_sites.specs.Entries.Entries.{Standing, of_rules, of_sites, view_found}
use Rattle.check_sites.proofs.OfEntries.Standing.{are_entries, rules_view}
use Rattle.check_sites.proofs.entries.listing.entries.Goals as goal

pub returns : goal.returns
returns c =
    let read = token_of c.args.tree.now in
    let maps = c.in_ok-add_maps.ensures.each read ∙ ap (λ xs. map (view_found read) xs ++ of_sites read c.args.sites.now) c.new-found.ensures.items in
    let rules = ap (map (view_rule read)) c.deref.ensures.value ∙ sym (rules_view c.args.tree.now) in
    are_entries (rules_of (view c.args.tree.now)) read c.args.sites.now c.add_rules.new.found.items
    (c.in_ok-add_rules.ensures.each read
    ∙ ap (λ (xs : List Standing). xs ++ of_rules 0 (map (view_rule read) c.deref.result.now)) maps
    ∙ ap (λ rs. of_sites read c.args.sites.now ++ of_rules 0 rs) rules)
