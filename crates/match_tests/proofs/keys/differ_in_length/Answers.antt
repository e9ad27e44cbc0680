use Rattle.std.proofs.Common.{length, refl}
use Rattle.match_tests.proofs.OfKeys.{other_length}
use Rattle.match_tests.proofs.keys.differ_in_length.Goals as goal

pub returns : goal.returns
returns c = λ h. other_length (length c.args.some.now) (length c.args.others.now) c.args.some.now c.args.others.now refl refl h
