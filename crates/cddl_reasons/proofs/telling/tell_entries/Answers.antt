use Rattle.std.proofs.Common.{◌≡◌, [], ◌∷◌, refl, ap}
use Rattle.table_nodes.specs.Nodes.{entries_view, entry_view}
use Rattle.cddl_reasons.proofs.Tellings.{end_has, end_next}
use Rattle.cddl_reasons.proofs.telling.tell_entries.Goals as goal

pub each-init : goal.each-init
each-init c = record {
  end = record { first = []; whole = refl };
  found = λ first has at a. a;
}

pub each-preserved : goal.each-preserved
each-preserved c =
    let es = entries_view c.args.entries.now in
    let left = entries_view c.each.left.now in
    let others = entries_view c.in-Some.others.now in
    let e = entry_view c.in-Some.entry.now in
    let is : left ≡ e ∷ others = ap entries_view c.in-Some.ensures.cases.0 in
    record {
      end = end_next es left others e is c.each.invariant.end;
      found = λ first has at a. c.in_ok-tell_count.ensures first (has e others (end_has es left others e is c.each.invariant.end)) at (c.each.invariant.found first has at a);
    }

pub returns : goal.returns
returns c = λ first has at a. c.each.invariant.found first has at a
