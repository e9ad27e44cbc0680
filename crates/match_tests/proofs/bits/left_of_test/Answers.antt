use Rattle.std.proofs.Common.{sym}
use Rattle.match_tests.specs.Views.{subject_view}
use Rattle.match_tests.proofs.OfBits.{same_bits}
use Rattle.match_tests.proofs.bits.left_of_test.Goals as goal

pub returns : goal.returns
returns c = rw (sym (same_bits (subject_view c.args.subject))) c.left_of_bits.ensures
