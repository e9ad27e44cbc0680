use Rattle.cddl_decided.proofs.Emptiness.{empty_entries}
use Rattle.cddl_decided.proofs.empty_by_form.Goals as goal

pub returns : goal.returns
returns c = empty_entries
