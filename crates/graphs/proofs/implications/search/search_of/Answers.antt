use Rattle.std.proofs.Common.{rules, ◌<◌, ◌≤◌, ◌+◌, sym, length, arith}
use Rattle.lists.proofs.Lemmas.{within}
use Rattle.graphs.specs.Implications.Search.{Nowhere, state}
use Rattle.graphs.proofs.OfImplications.Lists.{apart}
use Rattle.graphs.proofs.OfImplications.Steps.{at_hand, looks_at}
use Rattle.graphs.proofs.implications.search.search_of.Goals as goal

pub loop-implication-preserved : goal.loop-implication-preserved
loop-implication-preserved c =
    let is = c.args.implications.now in
    let k = c.loop-implication.implication-index in
    let l : k < length is = search rules in
    at_hand c.args.facts is _ (λ j. k + 1 ≤ j) (state c.look.new.self) (λ j i e p. let h = apart k j p.0 (λ q. p.1 (sym q)) in omega (arith, h)) (looks_at c.args.facts is (λ j. k ≤ j) (state c.loop-implication.search) (state c.look.new.self) k _ l c.loop-implication.invariant c.in_ok-look.ensures)

pub returns : goal.returns
returns c =
    let is = c.args.implications.now in
    let k = c.loop-implication.implication-index in
    let l : length is ≤ k = search rules in
    at_hand c.args.facts is (λ j. k ≤ j) Nowhere (state c.loop-implication.search) (λ j i e p. let h = within is j i e in absurd (omega (arith, h, l, p))) c.loop-implication.invariant
