use Rattle.std.proofs.Common.{◌++◌, append_assoc, option_map, subst, ap, ◌∙◌}
use Rattle.lists.proofs.Lemmas.{on_ok}
use Rattle.check_sites.specs.Sites.View.{view_site}
use Rattle.tree_nodes.specs.View.{token_of}
use Rattle.check_reading.specs.Parts.{AreParts, first_part, some_placed, wanted}
use Rattle.check_reading.proofs.parts.listing.add_site.Goals as goal

pub returns-clause-added : goal.returns-clause-added
returns-clause-added c = on_ok c.add_some-2.result _ _ (λ h ws so.
    let read = token_of c.args.tree.now in
    let k = c.args.site.rule in
    let p = view_site read c.args.site.site in
    let first = option_map (wanted read) c.first_part-first.result in
    let last = option_map (wanted read) c.last_part-last.result in
    let ended = h (ws ++ some_placed k first) (c.in_ok-add_some.ensures.added ws so) in
    subst (AreParts c.add_some-2.new.terms c.add_some-2.new.parts.items) (append_assoc ws (some_placed k first) (some_placed k last) ∙ ap (λ o. ws ++ (some_placed k o ++ some_placed k last)) c.first_part-first.ensures ∙ ap (λ o. ws ++ (some_placed k (first_part p) ++ some_placed k o)) c.last_part-last.ensures) ended) c.add_some-2.ensures.added
