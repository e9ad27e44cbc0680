use Rattle.cddl_language.specs.Numbers as N
use Rattle.table_making.proofs.Forming.{plain_formed}
use Rattle.table_making.proofs.types.hash_form.Goals as goal

pub returns : goal.returns
returns c s n e = plain_formed s c.args.terms.now (N.hash_test (N.hash_form n)) _ (c.in_ok-test.ensures n e)
