use Rattle.tree_nodes.specs.Syntax.Machine as M
use Rattle.cddl_token.specs.declared.Token.{Token}
use Rattle.cddl_token.specs.declared.Kind.{Kind}
use Rattle.tree_nodes.specs.View.{view_arg}
use Rattle.cddl_tree.proofs.have.after_argument.Goals as goal
use Rattle.cddl_tree.proofs.Steps.{refused_on, on_kind}
use Rattle.cddl_tree.specs.Frames.{below, as_reference, Gives}
use Rattle.cddl_tree.proofs.After.{argument_other}

pub returns-in-Comma : goal.returns-in-Comma
returns-in-Comma c read rs = on_kind (as_reference (below read rs c.args.frames.now.items)) (λ (m : M.State). Gives read c.args.token rs (below read rs c.args.frames.now.items) c.next_argument.result m) (λ (y : M.AtType2 × M.Prefix × Token) (i : Kind). M.after_argument y.0 y.1 y.2 (view_arg read c.args.arguments) i (read c.args.token.leaf)) _ _ c.in-Comma.is (c.next_argument.ensures read c.args.token rs (below read rs c.args.frames.now.items))

pub returns-in-AngleClose : goal.returns-in-AngleClose
returns-in-AngleClose c read rs = on_kind (as_reference (below read rs c.args.frames.now.items)) (λ (m : M.State). Gives read c.args.token rs (below read rs c.shut_arguments.new.frames.items) c.shut_arguments.result m) (λ (y : M.AtType2 × M.Prefix × Token) (i : Kind). M.after_argument y.0 y.1 y.2 (view_arg read c.args.arguments) i (read c.args.token.leaf)) _ _ c.in-AngleClose.is (c.shut_arguments.ensures read rs)

pub returns-in_default : goal.returns-in_default
returns-in_default c read rs = refused_on (as_reference (below read rs c.args.frames.now.items)) c.args.token.start _ _ c.unexpected.ensures (λ y. argument_other y.0 y.1 y.2 _ _ (read c.args.token.leaf) c.in_default.not-Comma c.in_default.not-AngleClose)
