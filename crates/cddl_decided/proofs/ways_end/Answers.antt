use Rattle.cddl_decided.proofs.Reached.{instances_on}
use Rattle.cddl_decided.proofs.Accepted.{ways_end}
use Rattle.cddl_decided.proofs.ways_end.Goals as goal

pub returns : goal.returns
returns c = λ s worth root accepted e. ways_end (instances_on c.meanings_are_reached.ensures.types c.meanings_are_reached.ensures.alternatives c.opened_is_reached.ensures.group c.opened_is_reached.ensures.content c.part_is_reached.ensures.named c.part_is_reached.ensures.opened c.part_is_reached.ensures.group) s worth root accepted e (λ p b. c.accepted_has_no_cycle.ensures.back s worth root p accepted e b)
