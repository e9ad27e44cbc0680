use Rattle.source_pieces.proofs.Nodes.{bareword_key, type_key, value_key}
use Rattle.source_pieces.proofs.node.key_node.Goals as goal

pub returns-in-TypeKey : goal.returns-in-TypeKey
returns-in-TypeKey c = λ read. type_key read c.args.key.now c.in-TypeKey.type1 c.in-TypeKey.cut c.in-TypeKey.arrow c.in-TypeKey.is

pub returns-in-Bareword : goal.returns-in-Bareword
returns-in-Bareword c = λ read. bareword_key read c.args.key.now c.in-Bareword.name c.in-Bareword.colon c.in-Bareword.is

pub returns-in-ValueKey : goal.returns-in-ValueKey
returns-in-ValueKey c = λ read. value_key read c.args.key.now c.in-ValueKey.value c.in-ValueKey.colon c.in-ValueKey.is
