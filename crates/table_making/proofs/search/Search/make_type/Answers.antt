use Rattle.table_making.specs.Numbers.{keys_of}
use Rattle.table_making.proofs.Searching.{type_searched}
use Rattle.table_making.proofs.search.Search.make_type.Goals as goal

pub returns-clause-keeps : goal.returns-clause-keeps
returns-clause-keeps c = λ s src there so. type_searched s c.args.terms.now (keys_of c.args.self.now.numbers) (keys_of c.type_node.new.self) c.args.self.now.types.items c.args.self.now.groups.items so c.args.origin c.in_ok-form.form c.in_ok-node.node c.push.new.items.items there (λ n is. c.in_ok-form.ensures s n src is) c.in_ok-node.ensures c.in_ok-push.ensures
