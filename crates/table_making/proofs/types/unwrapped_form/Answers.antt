use Rattle.std.proofs.Common.{subst}
use Rattle.cddl_language.specs.Kinds.{opened}
use Rattle.cddl_language.specs.Reach.{at_unwrapping}
use Rattle.check_instances.specs.Openings.Openings.{IsOpened}
use Rattle.table_making.proofs.Forming.{opened_formed, placed, same_meaning}
use Rattle.table_making.proofs.Reaching.{reached_one}
use Rattle.table_making.proofs.types.unwrapped_form.Goals as goal

pub returns-in-Some-opening_there : goal.returns-in-Some-opening_there
returns-in-Some-opening_there c s r src is re =
    let t = c.args.terms.now in
    let reaches = reached_one s (at_unwrapping r) re in
    let here = placed s.refs r c.in-Some.place (c.in-Some.ensures s r src is reaches) in
    let o = c.opening_stands.ensures s.definitions t s.refs c.args.source.now.openings.now c.in-Some.place r src.openings_are here in
    opened_formed s t (opened s.definitions r) c.in-Some-opening_there.opening _ c.opened_form.ensures (subst (IsOpened t (opened s.definitions r)) (same_meaning _ _ _ o.1 c.in-Some-opening_there.ensures) o.2) (λ x e. c.known_instances.ensures.content s t c.args.source.now src r reaches x e)
