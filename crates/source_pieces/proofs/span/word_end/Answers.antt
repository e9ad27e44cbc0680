use Rattle.cddl_token.specs.declared.Kind.TheVariants.{Name}
use Rattle.tree_nodes.specs.View.{token_of}
use Rattle.source_pieces.proofs.Ending.{alone}
use Rattle.source_pieces.proofs.span.word_end.Goals as goal

pub returns : goal.returns
returns c = alone (Name, token_of c.args.tree.now c.args.leaf) _ c.end_of.ensures
