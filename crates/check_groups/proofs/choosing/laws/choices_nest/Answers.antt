use Rattle.check_groups.proofs.OfChoosing.Nesting.{choices_nest}
use Rattle.check_groups.proofs.choosing.laws.choices_nest.Goals as goal

pub returns : goal.returns
returns c = choices_nest
