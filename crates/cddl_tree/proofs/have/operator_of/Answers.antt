use Rattle.std.proofs.Common.{ap}
use Rattle.cddl_token.specs.declared.Kind.{Kind}
use Rattle.tree_nodes.specs.Syntax.Machine as M
use Rattle.cddl_tree.proofs.Heads.{no_operator}
use Rattle.cddl_tree.proofs.have.operator_of.Goals as goal

pub returns-in-Range : goal.returns-in-Range
returns-in-Range c read k r = ap (λ (i : Kind). M.step_have k r i (read c.args.token.leaf)) c.in-Range.is

pub returns-in-RangeBelow : goal.returns-in-RangeBelow
returns-in-RangeBelow c read k r = ap (λ (i : Kind). M.step_have k r i (read c.args.token.leaf)) c.in-RangeBelow.is

pub returns-in-Control : goal.returns-in-Control
returns-in-Control c read k r = ap (λ (i : Kind). M.step_have k r i (read c.args.token.leaf)) c.in-Control.is

pub returns-in_default : goal.returns-in_default
returns-in_default c = no_operator c.args.token.kind c.in_default.not-Range c.in_default.not-RangeBelow c.in_default.not-Control
