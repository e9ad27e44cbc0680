use Rattle.std.proofs.Common.{sym, ◌∙◌, arith}
use Rattle.std.proofs.lemmas.List.{at_drop_all}
use Rattle.cddl_explain.specs.Roots.{ends_as_key}
use Rattle.cddl_explain.proofs.Ruling.{ends_key, ends_later, ends_rule}
use Rattle.cddl_explain.proofs.roots.ends_as_key.Goals as goal

pub token-preserved : goal.token-preserved
token-preserved c = record {
  so_far = sym (ends_later c.token.depth c.count_after-depth.result c.args.tokens.now c.token.k _ c.is_outer_arrow.result c.begins_outer_rule.result c.token-test.true c.is_outer_arrow.ensures c.begins_outer_rule.ensures c.count_after-depth.ensures.after c.if-is_outer_arrow.false c.if-begins_outer_rule.false) ∙ c.token.invariant.so_far;
  few = let few = c.count_after-depth.ensures.few in let before = c.token.invariant.few in omega arith;
}

pub returns-then-is_outer_arrow : goal.returns-then-is_outer_arrow
returns-then-is_outer_arrow c = sym (ends_key c.token.depth c.args.tokens.now c.token.k _ c.is_outer_arrow.result c.token-test.true c.is_outer_arrow.ensures c.if-is_outer_arrow.true) ∙ c.token.invariant.so_far

pub returns-then-begins_outer_rule : goal.returns-then-begins_outer_rule
returns-then-begins_outer_rule c = sym (ends_rule c.token.depth c.args.tokens.now c.token.k _ c.is_outer_arrow.result c.begins_outer_rule.result c.token-test.true c.is_outer_arrow.ensures c.begins_outer_rule.ensures c.if-is_outer_arrow.false c.if-begins_outer_rule.true) ∙ c.token.invariant.so_far

pub returns : goal.returns
returns c = sym (at_drop_all (ends_as_key c.token.depth) c.args.tokens.now c.token.k (omega arith)) ∙ c.token.invariant.so_far
