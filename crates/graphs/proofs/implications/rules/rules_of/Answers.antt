use Rattle.std.proofs.Common.{rules, ◌≡◌, ◌∙◌, sym, subst, None, replicate}
use Rattle.graphs.specs.Implications.Rules.{AreHeads, IsLinked}
use Rattle.graphs.proofs.OfImplications.Places.{no_heads}
use Rattle.graphs.proofs.implications.rules.rules_of.Goals as goal

pub links_of-requires : goal.links_of-requires
links_of-requires c =
    let same : c.in_ok-heads.heads.items ≡ replicate c.args.facts None = search rules in
    subst (AreHeads c.args.facts c.deref.result.now 0) (sym same) (no_heads c.args.facts c.deref.result.now)

pub returns-clause-linked : goal.returns-clause-linked
returns-clause-linked c = subst (λ ps. IsLinked c.args.facts ps c.links_of.new.heads.items c.in_ok-links.links.items) (c.deref.ensures.value ∙ c.in_ok-premises.ensures) c.in_ok-links.ensures
