use Rattle.std.proofs.Common.{◌≡◌, ◌∙◌, sym, subst, map, vec_items, length, is_some, true, false, arith}
use Rattle.alternatives.specs.Search.{at}
use Rattle.alternatives.proofs.Asked.{at_is}
use Rattle.alternatives.proofs.Ending.{first_ready, first_yields, none_by, one_list, right_list, stands_by}
use Rattle.alternatives.proofs.alternatives.Goals as goal

pub returns-then-is_none-clause-all : goal.returns-then-is_none-clause-all
returns-then-is_none-clause-all c = λ are h. absurd (none_by c.args.parts.now c.args.number (at c.args.summaries.now c.args.number) h.alternatives (at_is c.args.parts.now c.args.summaries.now are c.args.number) (subst (λ o. is_some o ≡ false) c.summary_at.ensures c.if-is_none.ensures) h.stands_for)

pub returns-then-not-branch-clause-all : goal.returns-then-not-branch-clause-all
returns-then-not-branch-clause-all c = λ are h.
    let yields = first_yields c.args.parts.now c.args.number (length c.args.parts.now) _ _ h.alternatives c.in_ok-builder.ensures.tasks c.in_ok-builder.ensures.lists h.stands_for in
    sym c.if-not-branch.true ∙ c.in_ok-run.ensures.goes are h.alternatives yields (first_ready c.args.parts.now c.args.number _ c.in_ok-builder.ensures.tasks h)

pub returns-clause-right : goal.returns-clause-right
returns-clause-right c = λ are.
    let s = stands_by c.args.parts.now c.args.number (at c.args.summaries.now c.args.number) (at_is c.args.parts.now c.args.summaries.now are c.args.number) (subst (λ o. is_some o ≡ true) c.summary_at.ensures c.if-is_none.ensures) in
    let yields = first_yields c.args.parts.now c.args.number (length c.args.parts.now) _ _ s.alternatives c.in_ok-builder.ensures.tasks c.in_ok-builder.ensures.lists s.stands_for in
    right_list c.args.parts.now c.args.number (λ v. map vec_items (vec_items v)) c.run.new.self.lists.items c.pop.new.self.items c.pop.result s.alternatives s.stands_for c.pop.ensures.items (c.in_ok-run.ensures.list are s.alternatives yields c.if-not-branch.false)

pub returns-clause-all : goal.returns-clause-all
returns-clause-all c = λ are h.
    let yields = first_yields c.args.parts.now c.args.number (length c.args.parts.now) _ _ h.alternatives c.in_ok-builder.ensures.tasks c.in_ok-builder.ensures.lists h.stands_for in
    let one = one_list (λ v. map vec_items (vec_items v)) c.run.new.self.lists.items h.alternatives (c.in_ok-run.ensures.list are h.alternatives yields c.if-not-branch.false) in
    c.pop.ensures.variant.1 (omega (arith, one, c.run.new.self.lists.ok.0))
