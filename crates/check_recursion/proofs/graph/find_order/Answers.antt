use Rattle.std.proofs.Common.{◌∙◌}
use Rattle.check_recursion.specs.Order.{IsOrdered}
use Rattle.check_recursion.proofs.Ordering.{find_order_is, if_ok}
use Rattle.check_recursion.proofs.graph.find_order.Goals as goal

pub returns : goal.returns
returns c = if_ok c.ordered.result (IsOrdered c.in-Some.layout c.deref-2.result.now) _ (find_order_is c.args.terms.now c.equal_numbers.ensures.tree c.equal_numbers.ensures.reference c.ranks_or_cycles.ensures (λ xs root. record { types = c.meanings_are_reached.ensures.types xs root; group = c.meanings_are_reached.ensures.group xs root; opened_group = c.opened_is_reached.ensures.group xs root; content = c.opened_is_reached.ensures.content xs root; named = c.part_is_reached.ensures.named xs root; opening = c.part_is_reached.ensures.opened xs root }) c.in-Some.layout c.args.closed.now c.args.kinds.now c.args.openings.now c.args.choosable.now c.args.may_be_empty.now c.deref.result.now c.in_ok-parts.parts.items c.deref.ensures.value c.in-Some.ensures.rows c.in-Some.ensures.places c.in_ok-parts.ensures c.deref-2.result.now (c.deref-2.ensures.value ∙ c.in_ok-edges.ensures)) c.ordered.ensures
