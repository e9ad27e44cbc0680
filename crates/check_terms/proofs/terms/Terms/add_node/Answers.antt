use Rattle.check_terms.specs.declared.row.Row.{Row}
use Rattle.check_terms.proofs.Growing.{further, has_parts, some_row, tree_kept}
use Rattle.check_terms.proofs.Holding.{ok_then}
use Rattle.check_terms.proofs.terms.Terms.add_node.Goals as goal

pub add-requires : goal.add-requires
add-requires c =
    let row : Row = record { form = c.args.form; text = c.in_ok-number.number; first = c.args.first; second = c.args.second } in
    record { parts = has_parts _ _ c.in_ok-number.ensures.grows row _ c.in_ok-number.ensures.there c.requires.first c.requires.second }

pub returns-clause-grows : goal.returns-clause-grows
returns-clause-grows c = further _ _ _ c.in_ok-number.ensures.grows c.add.ensures.grows

pub returns-clause-row : goal.returns-clause-row
returns-clause-row c =
    let row : Row = record { form = c.args.form; text = c.in_ok-number.number; first = c.args.first; second = c.args.second } in
    some_row c.add.new.self row c.add.result c.add.ensures.there

pub returns-clause-stands : goal.returns-clause-stands
returns-clause-stands c =
    let grows = c.in_ok-number.ensures.grows in
    ok_then c.add.result _ _ (λ n stands a b first second. stands _ a b c.in_ok-number.ensures.there (tree_kept _ _ grows _ a first) (tree_kept _ _ grows _ b second)) c.add.ensures.stands
