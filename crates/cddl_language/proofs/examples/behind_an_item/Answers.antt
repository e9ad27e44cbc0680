use Rattle.cddl_language.proofs.After.{leads_nowhere}
use Rattle.cddl_language.proofs.examples.behind_an_item.Goals as goal

pub returns : goal.returns
returns c = leads_nowhere
