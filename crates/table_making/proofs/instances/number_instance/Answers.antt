use Rattle.std.proofs.Common.{subst, sym}
use Rattle.check_instances.specs.Closed.Closed.{AreAlternatives}
use Rattle.cddl_language.specs.Language.{first_of, reference}
use Rattle.cddl_language.specs.Substitution.{group_choices}
use Rattle.check_terms.specs.Trees.{IsRef}
use Rattle.table_making.specs.Origins.{of_alternatives, of_instance}
use Rattle.table_making.specs.Search.{of_group, of_type}
use Rattle.table_making.specs.declared.origin.GroupOrigin.TheVariants as G
use Rattle.table_making.specs.declared.origin.TypeOrigin.TheVariants as T
use Rattle.table_making.proofs.Forming.{same_meaning}
use Rattle.table_making.proofs.Reaching.{instance_reached}
use Rattle.table_making.proofs.instances.number_instance.Goals as goal

pub returns-then-is_group-clause-named : goal.returns-then-is_group-clause-named
returns-then-is_group-clause-named c = λ s r src e so.
    let t = c.args.terms.now in
    let m = c.meaning_at.ensures s.definitions s.root s.refs t c.args.source.now.closed.now c.args.place r src.closed e in
    let a = subst (λ y. AreAlternatives t (group_choices s.definitions r) y.group) (same_meaning _ _ _ m.1 c.in-Some.ensures) (m.2).group in
    let known = c.known_instances.ensures.alternatives s t c.args.source.now src r (instance_reached s src.closed.instances.only c.args.place r e) in
    c.in_ok-number_group.ensures.named s t (first_of (group_choices s.definitions r)) (of_alternatives a known.0 known.1) so

pub returns-then-is_group-clause-numbered : goal.returns-then-is_group-clause-numbered
returns-then-is_group-clause-numbered c = λ s r src e.
    let t = c.args.terms.now in
    let m = c.meaning_at.ensures s.definitions s.root s.refs t c.args.source.now.closed.now c.args.place r src.closed e in
    let same = same_meaning _ _ _ m.1 c.in-Some.ensures in
    let a = subst (λ y. AreAlternatives t (group_choices s.definitions r) y.group) same (m.2).group in
    let is = subst (λ y. IsRef t y.call r) same (m.2).ref in
    let known = c.known_instances.ensures.alternatives s t c.args.source.now src r (instance_reached s src.closed.instances.only c.args.place r e) in
    of_group c.in_ok-number_group.field-0 (sym (c.if-is_group.ensures s r src is)) (record {
      origin = G.Alternatives c.in-Some.meaning.now.group;
      there = c.in_ok-number_group.ensures.there;
      named = of_alternatives a known.0 known.1;
    })

pub returns-clause-named : goal.returns-clause-named
returns-clause-named c = λ s r src e so.
    let t = c.args.terms.now in
    let m = c.meaning_at.ensures s.definitions s.root s.refs t c.args.source.now.closed.now c.args.place r src.closed e in
    let is = subst (λ y. IsRef t y.call r) (same_meaning _ _ _ m.1 c.in-Some.ensures) (m.2).ref in
    c.in_ok-number_type.ensures.named s t (reference r) (of_instance e (sym (c.if-is_group.ensures s r src is))) so

pub returns-clause-numbered : goal.returns-clause-numbered
returns-clause-numbered c = λ s r src e.
    let t = c.args.terms.now in
    let m = c.meaning_at.ensures s.definitions s.root s.refs t c.args.source.now.closed.now c.args.place r src.closed e in
    let is = subst (λ y. IsRef t y.call r) (same_meaning _ _ _ m.1 c.in-Some.ensures) (m.2).ref in
    of_type c.in_ok-number_type.field-0 (sym (c.if-is_group.ensures s r src is)) (record { origin = T.Instance c.args.place; there = c.in_ok-number_type.ensures.there; named = of_instance e (sym (c.if-is_group.ensures s r src is)) })
