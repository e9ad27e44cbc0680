use Rattle.std.proofs.Common.{subst}
use Rattle.check_instances.specs.Closed.Closed.{AreAlternatives}
use Rattle.cddl_language.specs.Substitution.{group_choices}
use Rattle.table_making.proofs.Forming.{same_meaning, no_meaning}
use Rattle.table_making.proofs.asked.group_at.Goals as goal

pub returns-in-Some : goal.returns-in-Some
returns-in-Some c s t r src e =
    let m = c.meaning_at.ensures s.definitions s.root s.refs t c.args.source.now.closed.now c.args.place r src.closed e in
    subst (λ y. AreAlternatives t (group_choices s.definitions r) y.group) (same_meaning _ _ _ m.1 c.in-Some.ensures) (m.2).group

pub returns-in-None : goal.returns-in-None
returns-in-None c s t r src e =
    let m = c.meaning_at.ensures s.definitions s.root s.refs t c.args.source.now.closed.now c.args.place r src.closed e in
    absurd (no_meaning _ _ m.1 c.in-None.ensures)
