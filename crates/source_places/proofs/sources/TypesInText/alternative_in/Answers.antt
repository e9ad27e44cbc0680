use Rattle.std.proofs.Common.{◌≡◌, ◌+◌, ℕ, drop, arith, sym, ap, ◌∙◌}
use Rattle.source_places.specs.States.{counted}
use Rattle.source_places.proofs.Stepping.{counted_back, no_alternative}
use Rattle.source_places.proofs.sources.TypesInText.alternative_in.Goals as goal

pub rules-preserved : goal.rules-preserved
rules-preserved c = record {
  within = omega (arith, c.rules-test.true, c.rules.invariant.within);
  sum = counted_back c.args.number c.rules.own c.count_at-count.result c.rules.left c.args.alternative c.args.self.now.rules.items c.rules-test.true c.rules.invariant.within c.count_at-count.ensures c.if-own-count.false c.rules.invariant.sum;
}

pub returns-clause-none : goal.returns-clause-none
returns-clause-none c =
    let none : c.rules.left ≡ 0 = omega (arith, c.rules-test.false) in
    λ i own h. no_alternative c.args.self.now c.args.number c.args.alternative i own c.rules.own (ap (λ (j : ℕ). c.rules.own + counted c.args.number (drop j c.args.self.now.rules.items)) (sym none) ∙ c.rules.invariant.sum) h
