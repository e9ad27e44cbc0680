use Rattle.cddl_token.specs.declared.Kind.TheVariants.{Bytes, Number, Text}
use Rattle.tree_nodes.specs.View.{token_of}
use Rattle.source_pieces.proofs.Ending.{alone}
use Rattle.source_pieces.proofs.span.value_end.Goals as goal

pub returns-in-Number : goal.returns-in-Number
returns-in-Number c = simp c.in-Number.is (alone (Number, token_of c.args.tree.now c.in-Number.token) _ c.end_of.ensures)

pub returns-in-Text : goal.returns-in-Text
returns-in-Text c = simp c.in-Text.is (alone (Text, token_of c.args.tree.now c.in-Text.token) _ c.end_of-in-Text.ensures)

pub returns-in-Bytes : goal.returns-in-Bytes
returns-in-Bytes c = simp c.in-Bytes.is (alone (Bytes, token_of c.args.tree.now c.in-Bytes.token) _ c.end_of-in-Bytes.ensures)
