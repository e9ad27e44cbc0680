use Rattle.cddl_meaning.specs.Alike.{choices}
use Rattle.table_making.proofs.types.chosen_form.Goals as goal

pub returns : goal.returns
returns c s ess src a re can = choices (c.in_ok-chosen.ensures s ess src a re can)
