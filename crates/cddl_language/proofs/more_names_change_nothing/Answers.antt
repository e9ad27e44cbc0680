use Rattle.cddl_language.specs.Controls.{of_size}
use Rattle.cddl_language.specs.Sizes.{a_type}
use Rattle.cddl_language.proofs.Further.{opened_further, group_further}
use Rattle.cddl_language.proofs.MapsFlat.{more_names}
use Rattle.cddl_language.proofs.MoreNames.{more_choices, more_literals, more_members}
use Rattle.cddl_language.proofs.more_names_change_nothing.Goals as goal

pub returns-clause-opened : goal.returns-clause-opened
returns-clause-opened c = opened_further

pub returns-clause-group : goal.returns-clause-group
returns-clause-group c = group_further

pub returns-clause-alternatives : goal.returns-clause-alternatives
returns-clause-alternatives c = more_names

pub returns-clause-chosen : goal.returns-clause-chosen
returns-clause-chosen c = more_choices

pub returns-clause-literal : goal.returns-clause-literal
returns-clause-literal c = more_literals

pub returns-clause-sizes : goal.returns-clause-sizes
returns-clause-sizes c worth ds k n l t = more_members of_size worth ds k n l (a_type t)

pub returns-clause-members : goal.returns-clause-members
returns-clause-members c = more_members
