use Rattle.cddl_literal.specs.declared.Quote.TheVariants.{Double}
use Rattle.cddl_literal.proofs.CutFacts.{quoted_cut, bytes_cut, number_alone}
use Rattle.cddl_literal.proofs.laws.cut_out.Goals as goal

pub returns : goal.returns
returns c = record {
  text = λ s a b v h. quoted_cut Double s a b v h;
  byte_string = λ s a b v h. bytes_cut s a b v h;
  number = λ s a b m h. number_alone s a b m h;
}
