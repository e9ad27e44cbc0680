use Rattle.cddl_language.proofs.Endless as D
use Rattle.cddl_language.proofs.examples.endless.Goals as goal

pub returns : goal.returns
returns c = D.too_many
