use Rattle.std.proofs.Common.{length, refl, sym}
use Rattle.cddl_table.proofs.Finding.{root_found, root_there}
use Rattle.cddl_table.proofs.Handing.{handed}
use Rattle.cddl_table.proofs.Places.{left_out_none, places_ranked}
use Rattle.cddl_table.proofs.Ranked.{are_ranked}
use Rattle.cddl_table.proofs.Standing.{Laws, given, stands}
use Rattle.cddl_table.proofs.table.traced_of.Goals as goal

pub returns-in_default-clause-ranked : goal.returns-in_default-clause-ranked
returns-in_default-clause-ranked c = λ why s basis text group ranked. root_there c.args.terms.now s.definitions s.root s.refs c.args.source.now.closed.now c.args.root c.equal_numbers.ensures.table basis.closed text (λ k q e. c.meaning_at.ensures s.definitions s.root s.refs c.args.terms.now c.args.source.now.closed.now k q basis.closed e) (sym c.in_default.ensures)

pub returns-clause-stands : goal.returns-clause-stands
returns-clause-stands c = λ s basis text group ranked.
    let place = root_found c.args.terms.now s.definitions s.root s.refs c.args.source.now.closed.now c.args.root c.equal_numbers.ensures.table basis.closed text c.in-Some.place (sym c.in-Some.ensures) in
    stands s c.args.terms.now c.args.source.now.closed.now basis.closed c.in_ok-nodes.nodes (c.in_ok-nodes.ensures s basis place group) c.in_ok-table.table c.in_ok-table.ensures.language c.in_ok-table.ensures.root c.in_ok-table.ensures.ranked

pub returns-clause-traced : goal.returns-clause-traced
returns-clause-traced c = λ s basis text group.
    let place = root_found c.args.terms.now s.definitions s.root s.refs c.args.source.now.closed.now c.args.root c.equal_numbers.ensures.table basis.closed text c.in-Some.place (sym c.in-Some.ensures) in
    record {
      nodes = c.in_ok-nodes.nodes;
      are_nodes = c.in_ok-nodes.ensures s basis place group;
      same_origins = refl;
      same_language = c.in_ok-table.ensures.language;
      same_root = c.in_ok-table.ensures.root;
    }

pub returns-in_err-table-clause-ranked : goal.returns-in_err-table-clause-ranked
returns-in_err-table-clause-ranked c = handed _ _ c.in_err-table.field-0.0 c.from_residual-in_err-table.ensures.1 (λ not_ranked s basis text group ranked.
    let laws : Laws s c.args.terms.now c.args.source.now.closed.now = record {
      same_row = c.equal_numbers.ensures.tree;
      meaning = λ k q e. c.meaning_at.ensures s.definitions s.root s.refs c.args.terms.now c.args.source.now.closed.now k q basis.closed e;
      group_reached = λ q g h e. c.meanings_are_reached.ensures.group s.definitions s.root q g h e;
      part_named = λ x q h e. c.part_is_reached.ensures.named s.definitions s.root x q h e;
      part_opened = λ x q g h e. c.part_is_reached.ensures.opened s.definitions s.root x q g h e;
      empty = λ es h. c.empty_by_form.ensures s.worth s.definitions es h;
    } in
    let place = root_found c.args.terms.now s.definitions s.root s.refs c.args.source.now.closed.now c.args.root c.equal_numbers.ensures.table basis.closed text c.in-Some.place (sym c.in-Some.ensures) in
    let by_rows = are_ranked s c.args.terms.now c.args.ranks.now (given s c.args.terms.now c.args.source.now.closed.now basis.closed c.args.ranks.now ranked laws) c.in_ok-nodes.nodes (c.in_ok-nodes.ensures s basis place group) in
    let places = places_ranked _ _ c.in_ok-ranks.ranks.types.items c.in_ok-ranks.ranks.groups.items c.in_ok-ranks.ensures.ranks _ _ by_rows in
    c.in_err-table.ensures.refused not_ranked (c.in_ok-ranks.ensures.flags c.in_ok-nodes.nodes.types.items) (length c.in_ok-ranks.ensures.ranks.used) places)

pub returns-clause-ranks : goal.returns-clause-ranks
returns-clause-ranks c = left_out_none _ _ _ _ c.in_ok-ranks.ensures.ranks c.in_ok-table.table c.in_ok-table.ensures.ranks
