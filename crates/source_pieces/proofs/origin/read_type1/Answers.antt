use Rattle.std.proofs.Common.{IfOk, sym, subst}
use Rattle.cddl_language.specs.Terms.{Term}
use Rattle.check_terms.specs.Trees.{IsTerm}
use Rattle.tree_nodes.specs.View.{token_of}
use Rattle.source_pieces.proofs.Reading.{one_term, operation_term}
use Rattle.source_pieces.proofs.origin.read_type1.Goals as goal

pub returns-in-One-clause-term : goal.returns-in-One-clause-term
returns-in-One-clause-term c = subst (λ (x : Term). IfOk c.read_operand.result (λ n. IsTerm c.read_operand.new.terms n x)) (sym (one_term (token_of c.args.tree.now) c.args.type1.now c.in-One.operand c.deref.result.now c.in-One.is c.deref.ensures)) c.read_operand.ensures.term

pub returns-in-Operation-clause-term : goal.returns-in-Operation-clause-term
returns-in-Operation-clause-term c = subst (λ (x : Term). IfOk c.read_operation.result (λ n. IsTerm c.read_operation.new.terms n x)) (sym (operation_term (token_of c.args.tree.now) c.args.type1.now c.in-Operation.left c.in-Operation.operator c.in-Operation.right c.deref-in-Operation.result.now c.deref-in-Operation-2.result.now c.in-Operation.is c.deref-in-Operation.ensures c.deref-in-Operation-2.ensures)) c.read_operation.ensures.term
