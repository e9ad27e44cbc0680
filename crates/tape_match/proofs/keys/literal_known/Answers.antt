use Rattle.std.proofs.Common.{◌∙◌}
use Rattle.cbor_data.specs.Same.{same_value}
use Rattle.item_nodes.specs.View.{view}
use Rattle.tape_match.proofs.Left.{not_other, the_same}
use Rattle.tape_match.proofs.keys.literal_known.Goals as goal

pub returns-in-Some-true-clause-known : goal.returns-in-Some-true-clause-known
returns-in-Some-true-clause-known c = λ t x seen. not_other (same_value x (view c.args.literal.now)) (c.in-Some-true.ensures t x seen ∙ c.in-Some-true.field-0-test)

pub returns-in-Some-false-clause-known : goal.returns-in-Some-false-clause-known
returns-in-Some-false-clause-known c = λ t x seen. the_same (same_value x (view c.args.literal.now)) (c.in-Some-false.ensures t x seen ∙ c.in-Some-false.field-0-test)
