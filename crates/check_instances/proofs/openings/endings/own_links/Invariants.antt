use Rattle.std.proofs.Common.{◌≡◌, ◌++◌, drop}
use Rattle.check_instances.specs.Openings.Steps.{own_links_of}
use Rattle.check_instances.proofs.openings.endings.own_links.Given as goal

abbrev pub invariant-loop-meaning : goal.invariant-loop-meaning
invariant-loop-meaning l = l.links.items ++ own_links_of l.terms.rows l.closed.places.items l.closed.stripped.items (drop l.meaning-index l.closed.meanings.items) ≡ own_links_of l.terms.rows l.closed.places.items l.closed.stripped.items l.closed.meanings.items
