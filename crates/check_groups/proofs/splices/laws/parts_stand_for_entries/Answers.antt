use Rattle.cddl_language.specs.Reach.{most_instances}
use Rattle.check_groups.proofs.OfSplices.Meaning.{entry_stands_so, lone_told}
use Rattle.check_groups.proofs.OfSplices.Through.{enough}
use Rattle.check_groups.proofs.splices.laws.parts_stand_for_entries.Goals as goal

pub returns-clause-some : goal.returns-clause-some
returns-clause-some c xs root t parts are n x h r mss e = entry_stands_so xs root t parts are most_instances n x h r mss e

pub returns-clause-only : goal.returns-clause-only
returns-clause-only c xs root refs t parts have instances few are n x h r nss s =
    let named = c.part_is_reached.ensures.named xs root in
    let opened = c.part_is_reached.ensures.opened xs root in
    let back = enough xs root named opened (c.more_names_change_nothing.ensures.alternatives xs) (λ q es i. c.meanings_are_reached.ensures.alternatives xs root q es i) (λ q f i. c.opened_is_reached.ensures.group xs root q f i) refs instances (λ q o i. c.opened_names_are_types.ensures xs have q o i) c.growing_sets_settle.ensures most_instances few in
    lone_told xs root t parts are named opened most_instances back n x h r nss s
