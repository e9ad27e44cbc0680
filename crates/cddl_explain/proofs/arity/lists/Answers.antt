use Rattle.std.proofs.Common.{inl, inr, sym, ◌∙◌, arith, refl, true, false}
use Rattle.std.proofs.lemmas.List.{at_drop_all}
use Rattle.cddl_explain.specs.Arity.{lists}
use Rattle.cddl_explain.specs.declared.rules.InList.TheVariants as in_list
use Rattle.cddl_explain.proofs.Counting.{lists_at}
use Rattle.cddl_explain.proofs.arity.lists.Goals as goal

pub token-preserved : goal.token-preserved
token-preserved c = sym (lists_at c.args.name.now c.args.tokens.now c.token.k _ in_list.Within false c.token-test.true (sym c.in_list_of.ensures ∙ c.in-Within.is) (sym c.eq.ensures ∙ c.if-eq.false)) ∙ c.token.invariant

pub returns-in-Last : goal.returns-in-Last
returns-in-Last c =
    elim c.in-Last.is [
      | inl e ↦ sym (lists_at c.args.name.now c.args.tokens.now c.token.k _ in_list.Last _ c.token-test.true (sym c.in_list_of.ensures ∙ e) refl) ∙ c.token.invariant
      | inr e ↦ sym (lists_at c.args.name.now c.args.tokens.now c.token.k _ in_list.Foreign _ c.token-test.true (sym c.in_list_of.ensures ∙ e) refl) ∙ c.token.invariant
    ]

pub returns-then-eq : goal.returns-then-eq
returns-then-eq c = sym (lists_at c.args.name.now c.args.tokens.now c.token.k _ in_list.Within true c.token-test.true (sym c.in_list_of.ensures ∙ c.in-Within.is) (sym c.eq.ensures ∙ c.if-eq.true)) ∙ c.token.invariant

pub returns : goal.returns
returns c = sym (at_drop_all (lists c.args.name.now) c.args.tokens.now c.token.k (omega arith)) ∙ c.token.invariant
