use Rattle.std.proofs.Common.{rules, ◌≡◌, ◌++◌, ◌∷◌, [], subst}
use Rattle.graphs.specs.Implications.Search.{IsKept, Nowhere}
use Rattle.graphs.proofs.OfImplications.Steps.{takes, taken_within}
use Rattle.graphs.proofs.implications.search.Search.run.Goals as goal

pub visit-requires-clause-fact : goal.visit-requires-clause-fact
visit-requires-clause-fact c =
    let facts = c.args.rules.now.facts in
    let is = c.args.rules.now.implications.now in
    let flags = c.loop-fact.self.flags.items in
    let split : c.loop-fact.self.waiting.items ≡ c.pop.new.self.items ++ c.in-Some.fact ∷ [] = search rules in
    taken_within facts is flags c.pop.new.self.items c.in-Some.fact (subst (λ ws. IsKept facts is Nowhere (record { flags = flags; waiting = ws })) split c.loop-fact.invariant)

pub visit-requires-clause-kept : goal.visit-requires-clause-kept
visit-requires-clause-kept c =
    let facts = c.args.rules.now.facts in
    let is = c.args.rules.now.implications.now in
    let flags = c.loop-fact.self.flags.items in
    let split : c.loop-fact.self.waiting.items ≡ c.pop.new.self.items ++ c.in-Some.fact ∷ [] = search rules in
    takes facts is flags c.pop.new.self.items c.in-Some.fact (subst (λ ws. IsKept facts is Nowhere (record { flags = flags; waiting = ws })) split c.loop-fact.invariant)
