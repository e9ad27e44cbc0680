use Rattle.std.proofs.Common.{refl}
use Rattle.cddl_language.specs.Prelude.{prelude}
use Rattle.check_reading.proofs.prelude.prelude.lines.Goals as goal

pub returns : goal.returns
unfolding prelude
returns c = refl
