use Rattle.cddl_literal.specs.declared.Quote.TheVariants.{Double}
use Rattle.cddl_literal.proofs.EndFacts.{quoted_ends, bytes_ends, uint_ends, number_ends}
use Rattle.cddl_literal.proofs.laws.ends_in_ascii.Goals as goal

pub returns : goal.returns
returns c = record {
  text = λ s a b v h. quoted_ends Double s a b v h;
  byte_string = λ s a b v h. bytes_ends s a b v h;
  uint = λ s a b n h. uint_ends s a b n h;
  number = λ s a b m h. number_ends s a b m h;
}
