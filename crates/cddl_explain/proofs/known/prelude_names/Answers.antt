use Rattle.std.proofs.Common.{refl}
use Rattle.cddl_language.specs.Prelude.{prelude}
use Rattle.cddl_explain.proofs.known.prelude_names.Goals as goal

pub returns : goal.returns
unfolding prelude
returns c = refl
