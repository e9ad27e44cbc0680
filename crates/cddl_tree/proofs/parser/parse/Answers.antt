use Rattle.std.proofs.Common.{refl, arith, subst, sym}
use Rattle.std.proofs.lemmas.List.{take_all}
use Rattle.tree_nodes.specs.Syntax.Answers.{lexemes}
use Rattle.tree_nodes.specs.View.{view}
use Rattle.cddl_tree.specs.States.{Stands}
use Rattle.cddl_tree.proofs.Whole.{reading, is_read, stands_first, goes_along, countable, refused_whole, whole, is_done, tree_of, no_refusal, same_refusal}
use Rattle.cddl_tree.proofs.parser.parse.Goals as goal

pub loop-token-init : goal.loop-token-init
loop-token-init c = (stands_first (reading c.args.tokens.now c.in-Some.end.now) c.in-Ok.state c.in-Ok.ensures, refl)

pub advance-requires : goal.advance-requires
advance-requires c = countable (reading c.args.tokens.now c.in-Some.end.now) c.loop-token.progress _ c.loop-token.invariant.0

pub loop-token-preserved : goal.loop-token-preserved
loop-token-preserved c = (goes_along (reading c.args.tokens.now c.in-Some.end.now) c.args.tokens.now c.loop-token.token-index c.loop-token.index c.in-Some.end.now c.in-Ok-advance.next c.loop-token.invariant.1 c.loop-token-test.true (c.in-Ok-advance.ensures (reading c.args.tokens.now c.in-Some.end.now) _ (is_read c.args.tokens.now c.loop-token.token-index c.loop-token.index _ c.in-Some.end.now c.loop-token.invariant.1 c.loop-token-test.true) c.loop-token.invariant.0), let e = c.in-Some-checked_add.ensures in let i = c.loop-token.invariant.1 in omega arith)

pub returns-in-Err-advance-clause-refused : goal.returns-in-Err-advance-clause-refused
returns-in-Err-advance-clause-refused c = refused_whole c.args.tokens.now c.loop-token.token-index c.loop-token.index c.in-Some.end.now c.in-Err-advance.refusal c.loop-token.invariant.1 c.loop-token-test.true (c.in-Err-advance.ensures (reading c.args.tokens.now c.in-Some.end.now) _ (is_read c.args.tokens.now c.loop-token.token-index c.loop-token.index _ c.in-Some.end.now c.loop-token.invariant.1 c.loop-token-test.true) c.loop-token.invariant.0)

pub returns-in-Err-advance-clause-answered : goal.returns-in-Err-advance-clause-answered
returns-in-Err-advance-clause-answered c x h = no_refusal c.one_answer.ensures.apart c.args.tokens.now x c.in-Err-advance.refusal h (refused_whole c.args.tokens.now c.loop-token.token-index c.loop-token.index c.in-Some.end.now c.in-Err-advance.refusal c.loop-token.invariant.1 c.loop-token-test.true (c.in-Err-advance.ensures (reading c.args.tokens.now c.in-Some.end.now) _ (is_read c.args.tokens.now c.loop-token.token-index c.loop-token.index _ c.in-Some.end.now c.loop-token.invariant.1 c.loop-token-test.true) c.loop-token.invariant.0))

pub returns-in-Err-advance-clause-only_refused : goal.returns-in-Err-advance-clause-only_refused
returns-in-Err-advance-clause-only_refused c code at h = same_refusal c.one_answer.ensures.refusal c.args.tokens.now code at c.in-Err-advance.refusal h (refused_whole c.args.tokens.now c.loop-token.token-index c.loop-token.index c.in-Some.end.now c.in-Err-advance.refusal c.loop-token.invariant.1 c.loop-token-test.true (c.in-Err-advance.ensures (reading c.args.tokens.now c.in-Some.end.now) _ (is_read c.args.tokens.now c.loop-token.token-index c.loop-token.index _ c.in-Some.end.now c.loop-token.invariant.1 c.loop-token-test.true) c.loop-token.invariant.0))

pub unreachable-requires-in-None-rules_of : goal.unreachable-requires-in-None-rules_of
unreachable-requires-in-None-rules_of c = is_done (reading c.args.tokens.now c.in-Some.end.now) c.goes_on.ensures c.makes_trees.ensures.complete c.some_answer.ensures c.args.tokens.now c.loop-token.progress c.requires (subst (Stands (reading c.args.tokens.now c.in-Some.end.now) c.loop-token.progress) (take_all c.loop-token.token-index c.args.tokens.now c.loop-token-test.false) c.loop-token.invariant.0) c.in-None-rules_of.ensures

pub returns-clause-tree : goal.returns-clause-tree
returns-clause-tree c =
    let h = subst (Stands (reading c.args.tokens.now c.in-Some.end.now) c.loop-token.progress) (take_all c.loop-token.token-index c.args.tokens.now c.loop-token-test.false) c.loop-token.invariant.0 in
    tree_of c.is_balanced.ensures.tree c.args.tokens.now (view (record { tokens = c.args.tokens; rules = c.in-Some-rules_of.rules; end = c.in-Some.end })) (whole c.makes_trees.ensures.sound c.loop-token.progress c.args.tokens.now c.in-Some.end.now c.in-Some-rules_of.rules (sym c.in-Some.ensures.value) c.in-Some-rules_of.ensures h) h.within

pub returns-clause-only : goal.returns-clause-only
returns-clause-only c x k =
    let h = subst (Stands (reading c.args.tokens.now c.in-Some.end.now) c.loop-token.progress) (take_all c.loop-token.token-index c.args.tokens.now c.loop-token-test.false) c.loop-token.invariant.0 in
    c.one_tree.ensures (lexemes c.args.tokens.now) (view (record { tokens = c.args.tokens; rules = c.in-Some-rules_of.rules; end = c.in-Some.end })) x (whole c.makes_trees.ensures.sound c.loop-token.progress c.args.tokens.now c.in-Some.end.now c.in-Some-rules_of.rules (sym c.in-Some.ensures.value) c.in-Some-rules_of.ensures h) k.prints

pub returns-clause-answered : goal.returns-clause-answered
returns-clause-answered c x k =
    let h = subst (Stands (reading c.args.tokens.now c.in-Some.end.now) c.loop-token.progress) (take_all c.loop-token.token-index c.args.tokens.now c.loop-token-test.false) c.loop-token.invariant.0 in
    sym (c.one_tree.ensures (lexemes c.args.tokens.now) (view (record { tokens = c.args.tokens; rules = c.in-Some-rules_of.rules; end = c.in-Some.end })) x (whole c.makes_trees.ensures.sound c.loop-token.progress c.args.tokens.now c.in-Some.end.now c.in-Some-rules_of.rules (sym c.in-Some.ensures.value) c.in-Some-rules_of.ensures h) k.prints)

pub returns-clause-only_refused : goal.returns-clause-only_refused
returns-clause-only_refused c code at k =
    let h = subst (Stands (reading c.args.tokens.now c.in-Some.end.now) c.loop-token.progress) (take_all c.loop-token.token-index c.args.tokens.now c.loop-token-test.false) c.loop-token.invariant.0 in
    c.one_answer.ensures.apart c.args.tokens.now (view (record { tokens = c.args.tokens; rules = c.in-Some-rules_of.rules; end = c.in-Some.end })) code at (tree_of c.is_balanced.ensures.tree c.args.tokens.now (view (record { tokens = c.args.tokens; rules = c.in-Some-rules_of.rules; end = c.in-Some.end })) (whole c.makes_trees.ensures.sound c.loop-token.progress c.args.tokens.now c.in-Some.end.now c.in-Some-rules_of.rules (sym c.in-Some.ensures.value) c.in-Some-rules_of.ensures h) h.within) k
