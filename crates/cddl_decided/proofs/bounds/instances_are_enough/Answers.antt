use Rattle.cddl_language.specs.Controls.{of_size}
use Rattle.cddl_language.specs.Faults.{definitions, rules}
use Rattle.cddl_decided.proofs.Reached.{instances_on}
use Rattle.cddl_decided.proofs.OfBounds.Enough.{alternatives, chosen, members, sizes}
use Rattle.cddl_decided.proofs.OfBounds.Literals.{literal_enough}
use Rattle.cddl_decided.proofs.bounds.instances_are_enough.Goals as goal

pub returns-clause-literal : goal.returns-clause-literal
returns-clause-literal c = λ s root few worth. literal_enough s root (c.meanings_are_reached.ensures.types (definitions s) root) few worth (c.more_names_change_nothing.ensures.literal worth (definitions s))

pub returns-clause-sizes : goal.returns-clause-sizes
returns-clause-sizes c = λ s root few worth. sizes s root (instances_on c.meanings_are_reached.ensures.types c.meanings_are_reached.ensures.alternatives c.opened_is_reached.ensures.group c.opened_is_reached.ensures.content c.part_is_reached.ensures.named c.part_is_reached.ensures.opened c.part_is_reached.ensures.group (definitions s) root) (c.opened_names_are_types.ensures (definitions s) (c.texts_have_entries.ensures (rules s))) few worth (c.more_names_change_nothing.ensures.members of_size worth (definitions s))

pub returns-clause-chosen : goal.returns-clause-chosen
returns-clause-chosen c = λ s root few. chosen s root (instances_on c.meanings_are_reached.ensures.types c.meanings_are_reached.ensures.alternatives c.opened_is_reached.ensures.group c.opened_is_reached.ensures.content c.part_is_reached.ensures.named c.part_is_reached.ensures.opened c.part_is_reached.ensures.group (definitions s) root) (c.opened_names_are_types.ensures (definitions s) (c.texts_have_entries.ensures (rules s))) few (c.more_names_change_nothing.ensures.chosen (definitions s))

pub returns-clause-alternatives : goal.returns-clause-alternatives
returns-clause-alternatives c = λ s root few. alternatives s root (instances_on c.meanings_are_reached.ensures.types c.meanings_are_reached.ensures.alternatives c.opened_is_reached.ensures.group c.opened_is_reached.ensures.content c.part_is_reached.ensures.named c.part_is_reached.ensures.opened c.part_is_reached.ensures.group (definitions s) root) (c.opened_names_are_types.ensures (definitions s) (c.texts_have_entries.ensures (rules s))) few (c.more_names_change_nothing.ensures.alternatives (definitions s))

pub returns-clause-members : goal.returns-clause-members
returns-clause-members c = λ s root few none m worth. members s root (instances_on c.meanings_are_reached.ensures.types c.meanings_are_reached.ensures.alternatives c.opened_is_reached.ensures.group c.opened_is_reached.ensures.content c.part_is_reached.ensures.named c.part_is_reached.ensures.opened c.part_is_reached.ensures.group (definitions s) root) (c.opened_names_are_types.ensures (definitions s) (c.texts_have_entries.ensures (rules s))) few none m worth (c.more_names_change_nothing.ensures.members m worth (definitions s))
