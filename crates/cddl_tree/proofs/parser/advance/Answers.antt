use Rattle.std.proofs.Common.{Ok, Err, ap, arith, subst, sym, ◌∙◌, ◌++◌, ◌∷◌}
use Rattle.cddl_token.specs.declared.Kind.{Kind}
use Rattle.tree_nodes.specs.Syntax.Answers.{opened_after, IsTooNested}
use Rattle.cddl_tree.proofs.Whole.{stands_next, refused, told, too_nested}
use Rattle.cddl_tree.proofs.parser.advance.Goals as goal

pub count_after-count-requires : goal.count_after-count-requires
count_after-count-requires c = c.requires

pub returns-else-count-gt-NESTING_LIMIT : goal.returns-else-count-gt-NESTING_LIMIT
returns-else-count-gt-NESTING_LIMIT c read ts i h = stands_next read c.args.progress c.in-Ok.state c.count_after-count.result ts (read c.args.token.leaf) h (told read c.args.token c.args.progress.state (Ok c.in-Ok.state) i (c.in-Ok.ensures read)) (c.count_after-count.ensures ∙ ap (λ (k : Kind). opened_after k c.args.progress.count) (sym i.0)) (let n = c.if-count-gt-NESTING_LIMIT.false in omega arith)

pub returns-then-count-gt-NESTING_LIMIT : goal.returns-then-count-gt-NESTING_LIMIT
returns-then-count-gt-NESTING_LIMIT c read ts i h = λ back. subst (IsTooNested (ts ++ read c.args.token.leaf ∷ back)) i.1 (too_nested read c.goes_on.ensures c.args.progress c.in-Ok.state c.count_after-count.result ts (read c.args.token.leaf) h (told read c.args.token c.args.progress.state (Ok c.in-Ok.state) i (c.in-Ok.ensures read)) (c.count_after-count.ensures ∙ ap (λ (k : Kind). opened_after k c.args.progress.count) (sym i.0)) c.if-count-gt-NESTING_LIMIT.true back)

pub returns-in-Err : goal.returns-in-Err
returns-in-Err c read ts i h = refused read c.goes_on.ensures c.is_stuck.ensures c.args.progress ts (read c.args.token.leaf) c.in-Err.stop c.refusal.result h (told read c.args.token c.args.progress.state (Err c.in-Err.stop) i (c.in-Err.ensures read)) c.refusal.ensures
