use Rattle.match_tests.proofs.OfBits.{number_count}
use Rattle.match_tests.proofs.bits.left_of_number.Goals as goal

pub returns : goal.returns
returns c = rw (number_count c.args.number c.ranges.number.fits) c.left_of_word.ensures
