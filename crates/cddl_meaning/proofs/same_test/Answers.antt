use Rattle.cddl_meaning.proofs.SameItems.{test_same}
use Rattle.cddl_meaning.proofs.same_test.Goals as goal

pub returns : goal.returns
returns c = λ t x y h d. test_same t h d
