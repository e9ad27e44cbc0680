use Rattle.cddl_literal.proofs.UintFacts.{uint_one}
use Rattle.cddl_literal.proofs.EscapeFacts.{escape_one}
use Rattle.cddl_literal.proofs.OneMeaning.{quoted_one, bytes_one, bad_one, bytes_not_bad, number_one, number_not_large}
use Rattle.cddl_literal.proofs.laws.one_meaning.Goals as goal

pub returns : goal.returns
returns c = record {
  uint = λ s a b m n h k. uint_one h k;
  number = λ s a b m n h k. number_one s a b m n h k;
  not_too_large = λ s a b m h k. number_not_large s a b m h k;
  escape = λ q s i j k v w h l. escape_one h l;
  text = λ s a b e v w h k. quoted_one h k;
  byte_string = λ s a b e v w h k. bytes_one s a b e v w h k;
  bad_bytes = λ s a b e h k. bad_one s a b e h k;
  not_bad = λ s a b e v h k. bytes_not_bad s a b e v h k;
}
