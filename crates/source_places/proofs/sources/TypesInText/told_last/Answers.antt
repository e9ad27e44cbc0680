use Rattle.std.proofs.Common.{Contains, Option, subst}
use Rattle.type_links.specs.declared.link.Link.{Link}
use Rattle.source_places.specs.States.{HasNoRule, IsStateAfter, IsStateOf}
use Rattle.source_places.specs.declared.place.State.{State}
use Rattle.source_places.proofs.Naming.{no_rule}
use Rattle.source_places.proofs.Telling.{is_place}
use Rattle.source_places.proofs.Stepping.{found_there, none_then, some_then}
use Rattle.source_places.proofs.sources.TypesInText.told_last.Goals as goal

pub returns-in_ok-found-in-Some-clause-some : goal.returns-in_ok-found-in-Some-clause-some
returns-in_ok-found-in-Some-clause-some c =
    some_then c.told.result _ _
    (λ p t chain s terms nodes q known last filled all.
    let after : IsStateAfter c.args.self.now chain c.in-Some.state = subst (λ (o : Option State). IsStateOf c.args.self.now chain o) c.in-Some.is all in
    is_place s terms nodes c.args.self.now q known c.one_span.ensures chain c.in-Some.state c.in_ok-found-in-Some.found p c.in_ok-found-in-Some.ensures last filled after t)
    c.told.ensures.some

pub returns-in_ok-found-in-Some-clause-none : goal.returns-in_ok-found-in-Some-clause-none
returns-in_ok-found-in-Some-clause-none c =
    none_then c.told.result _ _
    (λ f chain s terms nodes closed known all m h.
    let after : IsStateAfter c.args.self.now chain c.in-Some.state = subst (λ (o : Option State). IsStateOf c.args.self.now chain o) c.in-Some.is all in
    absurd (f (after.rule.at, after.rule.there) (found_there c.args.self.now c.in-Some.state.number after.inside c.in_ok-found-in-Some.found (c.in_ok-found-in-Some.ensures after.inside after.found))))
    c.told.ensures.none

pub returns-in-None-clause-none : goal.returns-in-None-clause-none
returns-in-None-clause-none c = λ chain s terms nodes closed known all m h.
    let none : (m : Link) → Contains chain m → HasNoRule c.args.self.now m = subst (λ (o : Option State). IsStateOf c.args.self.now chain o) c.in-None.is all in
    no_rule s terms nodes c.args.self.now closed known m (none m h)
