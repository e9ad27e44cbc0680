use Rattle.source_places.specs.States.{IsMember, IsStep}
use Rattle.source_places.proofs.Splicing.{alone_stepped, each_step, group_stepped, grown_by_three, map_stepped}
use Rattle.source_places.proofs.Stepping.{ok_then}
use Rattle.source_places.proofs.sources.TypesInText.push_steps.Goals as goal

pub returns : goal.returns
returns c =
    let x = c.args.self.now in
    let map = c.args.map in
    let a = c.args.piece in
    let n = c.in-Some.name in
    let body = c.body_name-body.result in
    ok_then c.push_step-3.result _ _
    (λ u e there.
    let member : IsMember x n a = record { contained = there; alone = c.in-Some.ensures.some.0; name = c.in-Some.ensures.some.1 } in
    grown_by_three (IsStep x map a) c.args.steps.now.items c.push_step.new.steps.items c.push_step-2.new.steps.items c.push_step-3.new.steps.items c.step_in_map.result c.step_in_group.result c.step_alone.result
    (map_stepped x map a n member c.step_in_map.result c.step_in_map.ensures.some)
    (group_stepped x map a n body member c.body_name-body.ensures.some c.step_in_group.result c.step_in_group.ensures.some)
    (alone_stepped x map a n body member c.body_name-body.ensures.some c.step_alone.result c.step_alone.ensures.some)
    (each_step x map a n body c.step_in_map.result c.step_in_group.result c.step_alone.result c.in-Some.ensures.all c.body_name-body.ensures.all c.step_in_map.ensures.all c.step_in_group.ensures.all c.step_alone.ensures.all) c.in_ok-push_step.ensures c.in_ok-push_step-2.ensures e)
    c.push_step-3.ensures
