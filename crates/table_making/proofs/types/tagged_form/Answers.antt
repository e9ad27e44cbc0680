use Rattle.table_making.proofs.Forming.{tag_formed}
use Rattle.table_making.proofs.types.tagged_form.Goals as goal

pub returns : goal.returns
returns c s n x e is re = tag_formed s c.args.terms.now n x c.args.content _ (c.in_ok-number.ensures n e) is re
