use Rattle.cddl_decided.proofs.Reached.{instances_on}
use Rattle.cddl_decided.proofs.OfTables.Standing.{some_table}
use Rattle.cddl_decided.proofs.accepted_has_table.Goals as goal

pub returns : goal.returns
returns c = λ s worth root accepted e. some_table (instances_on c.meanings_are_reached.ensures.types c.meanings_are_reached.ensures.alternatives c.opened_is_reached.ensures.group c.opened_is_reached.ensures.content c.part_is_reached.ensures.named c.part_is_reached.ensures.opened c.part_is_reached.ensures.group) c.more_names_change_nothing.ensures.chosen s worth root accepted e (λ p b. c.accepted_has_no_cycle.ensures.back s worth root p accepted e b) (c.accepted_root_is_type.ensures s worth root accepted e)
